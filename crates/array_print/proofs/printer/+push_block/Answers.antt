use Rattle.std.proofs.Common.{IfSome, Vec, ◌≡◌, ◌+◌, ◌-◌, ◌<◌, ◌≤◌, ◌++◌, ◌∷◌, [], ℕ, pos, ◌+ℤ◌, ◌*ℤ◌, get_or, length, map, drop, replicate, subst, sym, ap, ◌∙◌, arith, rules}
use Rattle.array_print.proofs.Words.{Global, block_text, drop_all, drop_at, item_size, part_offsets, shown, part-longer, SendsPart}
use Rattle.std.proofs.lemmas.Option.{IfSome_then}
use Rattle.array_print.proofs.PrintLaws.{opened-end}
use Rattle.array_print.proofs.PushLaws.{failed, held-more, held-end, held-same, part-after, pushes-same}
use Rattle.array_print.proofs.PushLaws as pushed
use Rattle.array_print.proofs.BandLaws.{cut, cut-before, cut-within, sent-more}
use Rattle.array_print.proofs.OneLaws.{ones-part, ones-text}
use Rattle.array_print.proofs.PartLaws.{stays, part-leads, part-inner, part-item, part-item-inside}
use Rattle.array_print.proofs.printer.+push_block.Goals as goal
use Rattle.array_print.proofs.printer.+push_block.Goals.{then-repeats, else-repeats}

-- the axes that are passed over have length 1
pub push_block-requires : goal.push_block-requires
push_block-requires g t c κs lives =
    let l = c.args.items.now.layout.now in
    let next = c.past_ones-next.result in
    let within : next ≤ length l.shape = omega (arith, ap length c.as_slice-lengths.ensures.value, c.past_ones-next.ensures.within) in
    let passed : c.args.axis + (next - c.args.axis) ≡ next = omega (arith, c.past_ones-next.ensures.from) in
    let ones : (k : ℕ) → c.args.axis ≤ k → k < next → get_or l.shape k 0 ≡ 1 = λ k from to. ap (λ s. get_or s k 0) (sym c.as_slice-lengths.ensures.value) ∙ c.past_ones-next.ensures.ones k from to in
    (omega (arith, c.decreases, c.if-next-axis.true, within), (lives, record { widths = c.requires.widths; part = ones-part l c.args.offset _ _ (next - c.args.axis) c.args.axis next passed within ones c.requires.part }))

pub push_item-requires : goal.push_item-requires
push_item-requires g t c = record {
  widths = c.requires.widths;
  inside = part-item-inside c.args.items.now.layout.now c.args.axis c.args.offset _ _ (omega (arith, c.if-axis-lengths.true, ap length c.as_slice-lengths.ensures.value)) c.requires.part;
}

pub step_along-block-requires-clause-leads : goal.step_along-block-requires-clause-leads
step_along-block-requires-clause-leads g t c =
    let l = c.args.items.now.layout.now in
    let below : c.args.axis < length l.shape = omega (arith, c.if-axis-lengths.false, ap length c.as_slice-lengths.ensures.value, c.requires.part.axes) in
    let low : c.loop-k.k < get_or l.shape c.args.axis 0 = omega (arith, c.loop-k-test.true, c.loop-k.auto.k-end, ap (λ s. get_or s c.args.axis 0) c.as_slice-lengths.ensures.value) in
    part-leads l c.args.axis c.args.offset _ _ below c.requires.part c.loop-k.k _ low c.as_slice-strides.ensures

pub push_block-requires-in-loop-k : goal.push_block-requires-in-loop-k
push_block-requires-in-loop-k g t c κs lives =
    let l = c.args.items.now.layout.now in
    let below : c.args.axis < length l.shape = omega (arith, c.if-axis-lengths.false, ap length c.as_slice-lengths.ensures.value, c.requires.part.axes) in
    let low : c.loop-k.k < get_or l.shape c.args.axis 0 = omega (arith, c.loop-k-test.true, c.loop-k.auto.k-end, ap (λ s. get_or s c.args.axis 0) c.as_slice-lengths.ensures.value) in
    let is : pos c.step_along-block.result ≡ pos c.args.offset +ℤ get_or l.strides c.args.axis (pos 0) *ℤ pos c.loop-k.k = c.step_along-block.ensures ∙ ap (λ s. pos c.args.offset +ℤ get_or s c.args.axis (pos 0) *ℤ pos c.loop-k.k) c.as_slice-strides.ensures in
    (omega (arith, c.decreases, below), (lives, record { widths = c.requires.widths; part = part-inner l c.args.axis c.args.offset _ _ below c.requires.part c.loop-k.k c.step_along-block.result low is }))

pub returns-then-next-axis : goal.returns-then-next-axis
returns-then-next-axis g t c =
    let l = c.args.items.now.layout.now in
    let f = shown c.args.items.now.descr.now c.args.items.now.widths.now c.args.items.now.block.now in
    let next = c.past_ones-next.result in
    let within : next ≤ length l.shape = omega (arith, ap length c.as_slice-lengths.ensures.value, c.past_ones-next.ensures.within) in
    let passed : c.args.axis + (next - c.args.axis) ≡ next = omega (arith, c.past_ones-next.ensures.from) in
    let ones : (k : ℕ) → c.args.axis ≤ k → k < next → get_or l.shape k 0 ≡ 1 = λ k from to. ap (λ s. get_or s k 0) (sym c.as_slice-lengths.ensures.value) ∙ c.past_ones-next.ensures.ones k from to in
    let text = ones-text l c.args.offset (length c.args.items.now.block.now) (item_size c.args.items.now.descr.now) f (next - c.args.axis) c.args.axis next passed within ones c.requires.part in
    let opened = held-more c.in_ok-push_few.ensures.ok c.in_ok-push_block.ensures.ok in
    pushes-same (sym text)
    (pushed.then opened c.push_few-then-next-axis.ensures)

pub returns-in_err-push_few : goal.returns-in_err-push_few
returns-in_err-push_few g t c =
    let l = c.args.items.now.layout.now in
    let f = shown c.args.items.now.descr.now c.args.items.now.widths.now c.args.items.now.block.now in
    let next = c.past_ones-next.result in
    let within : next ≤ length l.shape = omega (arith, ap length c.as_slice-lengths.ensures.value, c.past_ones-next.ensures.within) in
    let passed : c.args.axis + (next - c.args.axis) ≡ next = omega (arith, c.past_ones-next.ensures.from) in
    let ones : (k : ℕ) → c.args.axis ≤ k → k < next → get_or l.shape k 0 ≡ 1 = λ k from to. ap (λ s. get_or s k 0) (sym c.as_slice-lengths.ensures.value) ∙ c.past_ones-next.ensures.ones k from to in
    let text = ones-text l c.args.offset (length c.args.items.now.block.now) (item_size c.args.items.now.descr.now) f (next - c.args.axis) c.args.axis next passed within ones c.requires.part in
    let part = part-longer _ _ c.args.out.now.text.items _ (replicate (next - c.args.axis) 93) (part-longer _ _ c.args.out.now.text.items _ (block_text next (drop next l.shape) (map f (part_offsets l next c.args.offset))) c.in_err-push_few.ensures.err) in
    record {
      ok = search rules;
      err = failed _ (subst (λ t. SendsPart (g.W.Write.contents c.args.writer.now) (g.W.Write.contents c.push_few.new.writer) (c.args.out.now.text.items ++ t)) (sym text) part);
      room = omega arith;
    }

pub returns-in_err-push_block : goal.returns-in_err-push_block
returns-in_err-push_block g t c =
    let l = c.args.items.now.layout.now in
    let f = shown c.args.items.now.descr.now c.args.items.now.widths.now c.args.items.now.block.now in
    let next = c.past_ones-next.result in
    let within : next ≤ length l.shape = omega (arith, ap length c.as_slice-lengths.ensures.value, c.past_ones-next.ensures.within) in
    let passed : c.args.axis + (next - c.args.axis) ≡ next = omega (arith, c.past_ones-next.ensures.from) in
    let ones : (k : ℕ) → c.args.axis ≤ k → k < next → get_or l.shape k 0 ≡ 1 = λ k from to. ap (λ s. get_or s k 0) (sym c.as_slice-lengths.ensures.value) ∙ c.past_ones-next.ensures.ones k from to in
    let text = ones-text l c.args.offset (length c.args.items.now.block.now) (item_size c.args.items.now.descr.now) f (next - c.args.axis) c.args.axis next passed within ones c.requires.part in
    let part = part-longer _ _ c.args.out.now.text.items _ (replicate (next - c.args.axis) 93) (part-after c.in_ok-push_few.ensures.ok _ _ c.in_err-push_block.ensures.err) in
    record {
      ok = search rules;
      err = failed _ (subst (λ t. SendsPart (g.W.Write.contents c.args.writer.now) (g.W.Write.contents c.push_block.new.writer) (c.args.out.now.text.items ++ t)) (sym text) part);
      room = omega arith;
    }

pub returns-in_err-push_byte : goal.returns-in_err-push_byte
returns-in_err-push_byte g t c =
    let l = c.args.items.now.layout.now in
    let below : c.args.axis < length l.shape = omega (arith, c.if-axis-lengths.false, ap length c.as_slice-lengths.ensures.value, c.requires.part.axes) in
    record { ok = search rules; err = failed _ (cut _ l c.args.axis c.args.offset below _ _ c.args.out.now.text.items 0 (omega arith) c.in_err-push_byte.ensures.err); room = omega arith }

pub returns-in_err-push_lead : goal.returns-in_err-push_lead
returns-in_err-push_lead g t c =
    let l = c.args.items.now.layout.now in
    let below : c.args.axis < length l.shape = omega (arith, c.if-axis-lengths.false, ap length c.as_slice-lengths.ensures.value, c.requires.part.axes) in
    let low : c.loop-k.k < get_or l.shape c.args.axis 0 = omega (arith, c.loop-k-test.true, c.loop-k.auto.k-end, ap (λ s. get_or s c.args.axis 0) c.as_slice-lengths.ensures.value) in
    record {
      ok = search rules;
      err = failed _ (cut-before _ l c.args.axis c.args.offset below c.loop-k.k _ low c.as_slice-lengths.ensures.value c.loop-k.invariant.sent _ c.in_err-push_lead.ensures.err);
      room = omega arith;
    }

pub returns-in_err-push_block-2 : goal.returns-in_err-push_block-2
returns-in_err-push_block-2 g t c =
    let l = c.args.items.now.layout.now in
    let below : c.args.axis < length l.shape = omega (arith, c.if-axis-lengths.false, ap length c.as_slice-lengths.ensures.value, c.requires.part.axes) in
    let low : c.loop-k.k < get_or l.shape c.args.axis 0 = omega (arith, c.loop-k-test.true, c.loop-k.auto.k-end, ap (λ s. get_or s c.args.axis 0) c.as_slice-lengths.ensures.value) in
    let is : pos c.step_along-block.result ≡ pos c.args.offset +ℤ get_or l.strides c.args.axis (pos 0) *ℤ pos c.loop-k.k = c.step_along-block.ensures ∙ ap (λ s. pos c.args.offset +ℤ get_or s c.args.axis (pos 0) *ℤ pos c.loop-k.k) c.as_slice-strides.ensures in
    record {
      ok = search rules;
      err = failed _ (cut-within _ l c.args.axis c.args.offset below c.loop-k.k _ low c.as_slice-lengths.ensures.value c.loop-k.invariant.sent c.step_along-block.result _ _ c.requires.part is _ (part-after c.in_ok-push_lead.ensures.ok _ _ c.in_err-push_block-2.ensures.err));
      room = omega arith;
    }

-- the text that is kept is that of this block
pub returns-in_err-push : goal.returns-in_err-push
returns-in_err-push g t c =
    let l = c.args.items.now.layout.now in
    let below : c.args.axis < length l.shape = omega (arith, c.if-axis-lengths.false, ap length c.as_slice-lengths.ensures.value, c.requires.part.axes) in
    let low : c.loop-k.k < get_or l.shape c.args.axis 0 = omega (arith, c.loop-k-test.true, c.loop-k.auto.k-end, ap (λ s. get_or s c.args.axis 0) c.as_slice-lengths.ensures.value) in
    let same = rw c.in-Some.is at c.loop-k.invariant.same in
    let fault = subst (λ t. SendsPart (g.W.Write.contents c.push_lead.new.writer) (g.W.Write.contents c.push.new.writer) (c.push_lead.new.out.text.items ++ t)) (c.as_slice.ensures.value ∙ same.1) c.in_err-push.ensures.err in
    record {
      ok = search rules;
      err = failed _ (cut-within _ l c.args.axis c.args.offset below c.loop-k.k _ low c.as_slice-lengths.ensures.value c.loop-k.invariant.sent c.args.offset _ _ c.requires.part (stays _ c.args.offset c.loop-k.k same.0) _ (part-after c.in_ok-push_lead.ensures.ok _ _ fault));
      room = omega arith;
    }

pub loop-k-preserved-in-Some : goal.loop-k-preserved-in-Some
loop-k-preserved-in-Some g t c =
    let l = c.args.items.now.layout.now in
    let below : c.args.axis < length l.shape = omega (arith, c.if-axis-lengths.false, ap length c.as_slice-lengths.ensures.value, c.requires.part.axes) in
    let low : c.loop-k.k < get_or l.shape c.args.axis 0 = omega (arith, c.loop-k-test.true, c.loop-k.auto.k-end, ap (λ s. get_or s c.args.axis 0) c.as_slice-lengths.ensures.value) in
    let same = rw c.in-Some.is at c.loop-k.invariant.same in
    record {
      sent = sent-more _ l c.args.axis c.args.offset below c.loop-k.k _ low c.as_slice-lengths.ensures.value c.loop-k.invariant.sent c.args.offset _ _ c.requires.part (stays _ c.args.offset c.loop-k.k same.0)
          (held-more c.in_ok-push_lead.ensures.ok (held-same (c.as_slice.ensures.value ∙ same.1) c.in_ok-push.ensures.ok));
      same = c.loop-k.invariant.same;
    }

pub loop-k-preserved : goal.loop-k-preserved
loop-k-preserved g t c =
    let l = c.args.items.now.layout.now in
    let below : c.args.axis < length l.shape = omega (arith, c.if-axis-lengths.false, ap length c.as_slice-lengths.ensures.value, c.requires.part.axes) in
    let low : c.loop-k.k < get_or l.shape c.args.axis 0 = omega (arith, c.loop-k-test.true, c.loop-k.auto.k-end, ap (λ s. get_or s c.args.axis 0) c.as_slice-lengths.ensures.value) in
    let is : pos c.step_along-block.result ≡ pos c.args.offset +ℤ get_or l.strides c.args.axis (pos 0) *ℤ pos c.loop-k.k = c.step_along-block.ensures ∙ ap (λ s. pos c.args.offset +ℤ get_or s c.args.axis (pos 0) *ℤ pos c.loop-k.k) c.as_slice-strides.ensures in
    let led = c.push_lead.new.out in
    let made = c.push_block-in-loop-k.new.out in
    let text-is : c.if-repeats.out.text ≡ made.text = elim c.if-repeats.branch [ then-repeats w ↦ ap (λ o. o.text) w.out-is ∙ w.keep-kept.ensures.text | else-repeats w ↦ ap (λ o. o.text) w.out-is ] in
    let sent-is : c.if-repeats.out.sent ≡ made.sent = elim c.if-repeats.branch [ then-repeats w ↦ ap (λ o. o.sent) w.out-is ∙ w.keep-kept.ensures.sent | else-repeats w ↦ ap (λ o. o.sent) w.out-is ] in
    let text = λ (n : ℕ). block_text (c.args.axis + 1) (drop (c.args.axis + 1) l.shape) (map (shown c.args.items.now.descr.now c.args.items.now.widths.now c.args.items.now.block.now) (part_offsets l (c.args.axis + 1) n)) in
    let Same = λ (kept : Vec ℕ Global). (get_or l.strides c.args.axis (pos 0) ≡ pos 0) × (kept.items ≡ text c.args.offset) in
    record {
      sent = sent-more _ l c.args.axis c.args.offset below c.loop-k.k _ low c.as_slice-lengths.ensures.value c.loop-k.invariant.sent c.step_along-block.result _ _ c.requires.part is
          (held-more c.in_ok-push_lead.ensures.ok (held-end c.if-repeats.out c.in_ok-push_block-2.ensures.ok text-is sent-is));
      same = elim c.if-repeats.branch [
        | then-repeats w ↦
            let none : get_or l.strides c.args.axis (pos 0) ≡ pos 0 = ap (λ s. get_or s c.args.axis (pos 0)) (sym c.as_slice-strides.ensures) ∙ c.repeats.ensures.0 w.if-repeats.true in
            let at : pos c.step_along-block.result ≡ pos c.args.offset = is ∙ sym (stays (get_or l.strides c.args.axis (pos 0)) c.args.offset c.loop-k.k none) in
            let here : c.step_along-block.result ≡ c.args.offset = cc in
            subst (λ o. IfSome o Same) (sym w.kept-is) (IfSome_then w.keep-kept.result w.keep-kept.ensures.kept
            (λ kept keeps. (none, keeps.1 ∙ ap (drop c.len-from.result) (c.in_ok-push_block-2.ensures.ok.unsent keeps.0) ∙ drop_at led.text.items (text c.step_along-block.result) c.len-from.result (omega (arith, c.len-from.ensures)) ∙ ap text here)))
        | else-repeats w ↦ subst (λ o. IfSome o Same) (sym w.kept-is) c.loop-k.invariant.same
      ];
    }

pub returns : goal.returns
returns g t c =
    let l = c.args.items.now.layout.now in
    let f = shown c.args.items.now.descr.now c.args.items.now.widths.now c.args.items.now.block.now in
    let offsets = part_offsets l c.args.axis c.args.offset in
    let below : c.args.axis < length l.shape = omega (arith, c.if-axis-lengths.false, ap length c.as_slice-lengths.ensures.value, c.requires.part.axes) in
    let all : c.loop-k.k ≡ get_or l.shape c.args.axis 0 = omega (arith, c.loop-k-test.false, c.loop-k.auto.k-end, ap (λ s. get_or s c.args.axis 0) c.as_slice-lengths.ensures.value) in
    pushes-same (opened-end f l.shape c.args.axis c.loop-k.k offsets below all)
    (pushed.then (held-end c.give_back.new.self c.loop-k.invariant.sent c.give_back.ensures.text c.give_back.ensures.sent) c.push_byte-2.ensures)

pub returns-then-axis-lengths : goal.returns-then-axis-lengths
returns-then-axis-lengths g t c =
    let l = c.args.items.now.layout.now in
    let f = shown c.args.items.now.descr.now c.args.items.now.widths.now c.args.items.now.block.now in
    let end : length l.shape ≤ c.args.axis = omega (arith, c.if-axis-lengths.true, ap length c.as_slice-lengths.ensures.value) in
    let text : f c.args.offset ≡ block_text c.args.axis (drop c.args.axis l.shape) (map f (part_offsets l c.args.axis c.args.offset)) =
    sym (ap (λ os. block_text c.args.axis (drop c.args.axis l.shape) (map f os)) (part-item l c.args.axis c.args.offset end) ∙ ap (λ shape. block_text c.args.axis shape (f c.args.offset ∷ [])) (drop_all c.args.axis l.shape end)) in
    pushes-same text c.push_item.ensures

use Rattle.std.proofs.Common.{◌≡◌, ◌+◌, ◌<◌, ℕ, List, length, get_or, slice_set, drop, sym, ap, subst, ◌∙◌, arith}
use Rattle.fancy_index.proofs.Words.{err_from_is_err_and, get_or-drop, get_or_default, drop-drop, drop-set-lt, IndexOutOfRange, IndexPart, IsReady}
use Rattle.fancy_index.proofs.StartLaws.{begins, can-add, axis-low, axis-after, added, sums_all}
use Rattle.fancy_index.proofs.PartLaws.{passed, named_more, outside-at}
use Rattle.fancy_index.proofs.shift_columns.shifts.Goals as goal

-- the next part is the same if the remaining parts are the same
here : (k : ℕ) (now old : List IndexPart) (d : IndexPart) → drop k now ≡ drop k old → get_or now k d ≡ get_or old k d
here k now old d left =
    let same : k + 0 ≡ k = omega arith in
    ap (λ j. get_or now j d) (sym same) ∙ sym (get_or-drop k now 0 d) ∙ ap (λ l. get_or l 0 d) left ∙ get_or-drop k old 0 d ∙ ap (λ j. get_or old j d) same

is-here : (k : ℕ) (now old : List IndexPart) (d : IndexPart) → k < length old → drop k now ≡ drop k old → get_or old k (get_or now k d) ≡ get_or now k d
is-here k now old d low left = get_or_default old k (get_or now k d) d low ∙ sym (here k now old d left)

left-behind : (k : ℕ) (now old : List IndexPart) (part : IndexPart) → drop k now ≡ drop k old → drop (k + 1) (slice_set now k part) ≡ drop (k + 1) old
left-behind k now old part left =
    drop-set-lt (k + 1) now k part (omega arith) ∙ sym (drop-drop 1 k now) ∙ ap (drop 1) left ∙ drop-drop 1 k old

pub add_part-requires-clause-ready : goal.add_part-requires-clause-ready
add_part-requires-clause-ready c =
    let it = c.loop-part in
    subst (IsReady c.args.origin.lengths.now) (sym (here it.part-index it.parts c.args.parts.now c.part-item.result it.invariant.left)) (c.requires.ready it.part-index c.part-item.result c.loop-part-test.true)

pub add_part-requires-clause-begins : goal.add_part-requires-clause-begins
add_part-requires-clause-begins c =
    let it = c.loop-part in
    begins c.args.origin.layout.now c.args.parts.now c.args.origin.lengths.now c.requires.ready c.requires.leads c.args.origin.start c.requires.start it.part-index it.axis _ c.loop-part-test.true
    (is-here it.part-index it.parts c.args.parts.now c.part-item.result c.loop-part-test.true it.invariant.left) it.invariant.sums.axes c.requires.are c.requires.origin.some

pub add_part-requires-clause-can : goal.add_part-requires-clause-can
add_part-requires-clause-can c =
    let it = c.loop-part in
    let is = is-here it.part-index it.parts c.args.parts.now c.part-item.result c.loop-part-test.true it.invariant.left in
    let begin = begins c.args.origin.layout.now c.args.parts.now c.args.origin.lengths.now c.requires.ready c.requires.leads c.args.origin.start c.requires.start it.part-index it.axis _ c.loop-part-test.true is it.invariant.sums.axes c.requires.are c.requires.origin.some in
    can-add c.args.origin.layout.now c.args.parts.now c.args.origin.lengths.now c.requires.ready c.requires.leads c.args.origin.start c.requires.start it.part-index it.axis _ c.loop-part-test.true is begin it.shifts.items it.invariant.sums

pub overflow_add-axis : goal.overflow_add-axis
overflow_add-axis c =
    let it = c.loop-part in
    let is = is-here it.part-index it.parts c.args.parts.now c.part-item.result c.loop-part-test.true it.invariant.left in
    let after = axis-after c.args.origin.layout.now c.args.parts.now c.args.origin.lengths.now c.requires.ready c.requires.leads it.part-index it.axis _ c.loop-part-test.true is it.invariant.sums.axes in
    let low = axis-low c.args.origin.layout.now c.args.parts.now c.args.origin.lengths.now c.requires.ready c.requires.leads (it.part-index + 1) c.requires.origin.some in
    record { fits = omega (arith, after, low, c.axes_of-axes.ensures, c.as_slice-lengths.ensures.rank) }

pub loop-part-preserved : goal.loop-part-preserved
loop-part-preserved c =
    let it = c.loop-part in
    let is = is-here it.part-index it.parts c.args.parts.now c.part-item.result c.loop-part-test.true it.invariant.left in
    let begin = begins c.args.origin.layout.now c.args.parts.now c.args.origin.lengths.now c.requires.ready c.requires.leads c.args.origin.start c.requires.start it.part-index it.axis _ c.loop-part-test.true is it.invariant.sums.axes c.requires.are c.requires.origin.some in
    record {
      named = named_more c.args.parts.now it.part-index _ c.loop-part-test.true is it.invariant.named (passed _ IndexOutOfRange c.in_ok-add_part.ensures.within);
      left = left-behind it.part-index it.parts c.args.parts.now c.add_part.new.part it.invariant.left;
      sums = added c.args.origin.layout.now c.args.parts.now c.args.origin.lengths.now c.requires.ready c.requires.leads c.args.origin.start c.requires.start it.part-index it.axis _ c.loop-part-test.true is begin it.shifts.items it.invariant.sums c.add_part.new.shifts.items _ (ap (λ n. it.axis + n) c.axes_of-axes.ensures) c.in_ok-add_part.ensures.ok;
    }

pub returns-in_err-add_part-clause-within : goal.returns-in_err-add_part-clause-within
returns-in_err-add_part-clause-within c =
    let it = c.loop-part in
    let is = is-here it.part-index it.parts c.args.parts.now c.part-item.result c.loop-part-test.true it.invariant.left in
    let p = err_from_is_err_and c.from_residual.result c.from_residual.ensures.1 in
    rw (p.1, p.2) (outside-at c.args.parts.now it.part-index _ c.in_err-add_part.field-0.0 c.loop-part-test.true is c.in_err-add_part.ensures.within)

pub returns-clause-ok : goal.returns-clause-ok
returns-clause-ok c =
    let it = c.loop-part in
    sums_all c.args.origin.layout.now c.args.parts.now c.args.origin.lengths.now c.requires.ready c.requires.leads c.args.origin.start c.requires.start it.shifts.items c.begin.new.shifts.items it.part-index it.axis c.loop-part-test.false it.invariant.sums (c.in_ok-begin.ensures.many ∙ c.requires.many) (λ r low. c.in_ok-begin.ensures.each r (omega (arith, low, c.requires.many)))

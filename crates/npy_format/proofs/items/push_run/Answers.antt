use Rattle.std.proofs.Common.{◌≡◌, ◌++◌, length, sym, ap, ◌∙◌, arith, rules}
use Rattle.npy_format.proofs.Words.{append-nil, run_offsets, gathered, place}
use Rattle.npy_format.proofs.GatherLaws.{stretch, item_pushed}
use Rattle.npy_format.proofs.items.push_run.Goals as goal

pub part-requires : goal.part-requires
part-requires c = (stretch (length c.args.bytes.now) c.args.width c.args.run c.args.bytes.now c.requires.within c.requires.some (c.is_packed.ensures.0 c.if-is_packed.true)).0

pub returns-then-is_packed : goal.returns-then-is_packed
returns-then-is_packed c =
    let all = (stretch (length c.args.bytes.now) c.args.width c.args.run c.args.bytes.now c.requires.within c.requires.some (c.is_packed.ensures.0 c.if-is_packed.true)).1 in
    rw (all ∙ sym c.part.ensures.value) (search rules)

pub loop-k-init : goal.loop-k-init
loop-k-init c = sym (append-nil c.args.file.now.items)

pub loop-k-preserved : goal.loop-k-preserved
loop-k-preserved c =
    let step : c.new-items.result.step ≡ c.args.run.step = search rules in
    let at = c.place.ensures ∙ (λ i. place (c.new-items.ensures.0 i) (step i) c.loop-k.k) in
    item_pushed (length c.args.bytes.now) c.args.width c.args.run c.loop-k.k c.args.bytes.now c.loop-k.file.items c.extend_from_slice-in-loop-k.new.self.items c.args.file.now.items c.place.result c.requires.within c.loop-k-test.true at (c.in_ok-extend_from_slice.ensures.items ∙ ap (λ item. c.loop-k.file.items ++ item) c.part-in-loop-k.ensures.value) c.loop-k.invariant

pub returns : goal.returns
returns c =
    c.loop-k.invariant
    ∙ ap (λ n. c.args.file.now.items ++ gathered c.args.width c.args.bytes.now (run_offsets (record { offset = c.args.run.offset; count = n; step = c.args.run.step }))) (omega (arith, c.loop-k-test.false, c.loop-k.auto.k-end))

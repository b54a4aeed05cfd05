use Rattle.std.proofs.Common.{◌≡◌, ℕ, ◌+◌, ◌<◌, ◌++◌, length, take, sym, ap, subst, ◌∙◌, arith, pos}
use Rattle.fancy_index.proofs.Words.{length-set, length-run_offsets, bools_in, ranks_from}
use Rattle.fancy_index.proofs.BoolLaws.{noted, length-bools, bool-there}
use Rattle.fancy_index.proofs.RunLaws.{first-low, steps-low, steps-high, lies-there}
use Rattle.fancy_index.proofs.bools.note_true.Goals as goal

pub offset_after-requires-clause-start : goal.offset_after-requires-clause-start
offset_after-requires-clause-start c = first-low c.args.bools.run c.requires.lie.limit c.loop-k.k (omega (arith, c.loop-k-test.true, c.requires.end))

pub offset_after-requires-clause-low : goal.offset_after-requires-clause-low
offset_after-requires-clause-low c = steps-low c.args.bools.run c.requires.lie.limit c.loop-k.k (omega (arith, c.loop-k-test.true, c.requires.end))

pub offset_after-requires-clause-high : goal.offset_after-requires-clause-high
offset_after-requires-clause-high c = steps-high c.args.bools.run c.requires.lie.limit c.loop-k.k (omega (arith, c.loop-k-test.true, c.requires.end))

pub bounds-bools-offset_after : goal.bounds-bools-offset_after
bounds-bools-offset_after c =
    let run = c.args.bools.run in
    let low : c.loop-k.k < c.args.bools.run.count = omega (arith, c.loop-k-test.true, c.requires.end) in
    let there = lies-there run c.requires.lie.limit c.loop-k.k low c.offset_after.result c.offset_after.ensures in
    subst (λ (n : ℕ). n < length c.args.bools.bytes.now) (sym there) (c.requires.lie.inside c.loop-k.k 0 (omega (arith, low, length-run_offsets run)))

pub loop-k-preserved : goal.loop-k-preserved
loop-k-preserved c =
    let bools = c.args.bools in
    let low : c.loop-k.k < c.args.bools.run.count = omega (arith, c.loop-k-test.true, c.requires.end) in
    let there = lies-there bools.run c.requires.lie.limit c.loop-k.k low c.offset_after.result c.offset_after.ensures in
    let room : c.loop-k.many < length c.loop-k.found = omega (arith, c.loop-k.invariant.many, c.loop-k-test.true, c.requires.few, c.loop-k.invariant.size) in
    record {
      size = length-set c.loop-k.found c.loop-k.many (bools.rank + c.loop-k.k) ∙ c.loop-k.invariant.size;
      many = omega (arith, c.loop-k.invariant.many, c.truth-many.ensures.few);
      low = omega (arith, c.loop-k-test.true);
      noted = λ whole before. noted (bools_in bools) c.loop-k.found whole bools.rank c.loop-k.many c.loop-k.k c.truth-many.result c.truth-many.ensures.few (omega (arith, low, length-bools bools)) room
          (bool-there bools c.loop-k.k c.offset_after.result low there ∙ ap pos (sym c.truth-many.ensures.value)) (c.loop-k.invariant.noted whole before);
    }

pub returns-clause-found : goal.returns-clause-found
returns-clause-found c whole before =
    let at : c.args.end ≡ c.loop-k.k = omega (arith, c.loop-k.invariant.low, c.loop-k-test.false) in
    ap (λ k. take c.loop-k.many c.loop-k.found ++ ranks_from c.args.bools k) at ∙ c.loop-k.invariant.noted whole before

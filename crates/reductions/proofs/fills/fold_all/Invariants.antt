use Rattle.std.proofs.Common.{◌≡◌, ◌+◌, All, length}
use Rattle.reductions.proofs.Words.{EachWithin, count, offsets, all_offsets, number_at, numbers_at}
use Rattle.reductions.proofs.LineLaws.{TakesOn}
use Rattle.reductions.proofs.fills.fold_all.Given as goal

-- a state that visits the remaining runs has visited all of them
abbrev pub invariant-loop-run : goal.invariant-loop-run
invariant-loop-run g l =
    let s = l.fn.numbers in
    let scalar = g.S.Number.scalar g.O.Ordered.order in
    let numbers = numbers_at scalar s.bytes.now in
    record {
      counted : l.seen + length (all_offsets l.run-iterator) ≡ count s.layout.now.shape;
      within : All (λ run. EachWithin (length s.bytes.now) run.offset run.step g.S.Number.WIDTH run.count) l.run-iterator;
      takes : TakesOn g.F.Fold.holds l.held l.seen (numbers (all_offsets l.run-iterator)) (number_at scalar s.bytes.now s.layout.now.offset) (numbers (offsets s.layout.now));
    }

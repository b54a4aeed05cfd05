use Rattle.std.proofs.Common.{◌*◌, ◌<◌, ◌≤◌, ◌^◌, ℕ, List, All, length}
use Rattle.reductions.proofs.Words.{EachWithin, all_offsets, offsets, lines, AddsReduced}
use Rattle.reductions.proofs.fills.push_along.Given as goal

-- what the remaining runs append completes the whole
abbrev pub invariant-loop-run : goal.invariant-loop-run
invariant-loop-run g l =
    let scalar = g.S.Number.scalar g.O.Ordered.order in
    let s = l.fn.firsts in
    let width = g.F.Total.Number.WIDTH in
    record {
      adds : (end : List ℕ × ℕ) → AddsReduced g.F.Fold.reduction scalar s.bytes.now width (lines l.axis (all_offsets l.run-iterator)) l.block end → AddsReduced g.F.Fold.reduction scalar s.bytes.now width (lines l.axis (offsets s.layout.now)) l.fn.block end;
      room : length (all_offsets l.run-iterator) * width ≤ l.block.1;
      few : length (all_offsets l.run-iterator) < 2 ^ 63;
      starts : All (λ run. EachWithin (length s.bytes.now) run.offset run.step g.S.Number.WIDTH run.count) l.run-iterator;
      lines : All (λ offset. EachWithin (length s.bytes.now) offset l.axis.stride g.S.Number.WIDTH l.axis.len) (all_offsets l.run-iterator);
    }

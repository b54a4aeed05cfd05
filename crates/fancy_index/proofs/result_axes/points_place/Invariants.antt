use Rattle.std.proofs.Common.{◌≡◌, ◌≤◌, map, drop}
use Rattle.fancy_index.proofs.Words.{points_place, shown_part}
use Rattle.fancy_index.proofs.PlaceLaws.{place_from}
use Rattle.fancy_index.proofs.result_axes.points_place.Given as goal

abbrev pub invariant-loop-part : goal.invariant-loop-part
invariant-loop-part l = record {
  few : l.place ≤ l.part-index;
  left : place_from l.place l.stretch (map shown_part (drop l.part-index l.parts)) ≡ points_place (map shown_part l.parts);
}

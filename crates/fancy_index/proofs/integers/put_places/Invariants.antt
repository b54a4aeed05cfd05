use Rattle.std.proofs.Common.{◌≡◌, length, take}
use Rattle.fancy_index.proofs.Words.{ArePlaces}
use Rattle.fancy_index.proofs.integers.put_places.Given as goal

abbrev pub invariant-loop-k : goal.invariant-loop-k
invariant-loop-k g l = record {
  many : length l.places ≡ length (g.R.Integral.numbers l.integers);
  placed : ArePlaces l.n (take l.k (g.R.Integral.numbers l.integers)) l.are (take l.k l.places);
}

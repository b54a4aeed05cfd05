use Rattle.std.proofs.Common.{◌≡◌, ◌+◌, ◌*◌, ◌<◌, ◌≤◌, ℕ, get_or, IsTrue}
use Rattle.fancy_index.proofs.fast.even_steps.rise_evenly.Given as goal

abbrev pub invariant-loop-k : goal.invariant-loop-k
invariant-loop-k l = record {
  some : 1 ≤ l.k;
  low : l.k ≤ l.n;
  next : l.next + l.step ≡ get_or l.shifts 0 0 + l.k * l.step;
  even : IsTrue l.even → (j : ℕ) → j < l.k → get_or l.shifts j 0 ≡ get_or l.shifts 0 0 + j * l.step;
}

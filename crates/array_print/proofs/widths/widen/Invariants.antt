use Rattle.std.proofs.Common.{◌≡◌, ◌<◌, ◌≤◌, ◌++◌, ◌∷◌, [], ℕ, List, get_or}
use Rattle.array_print.proofs.Words.{widths_at}
use Rattle.array_print.proofs.widths.widen.Given as goal

-- the leaves so far have their new widths, and the others their old ones
abbrev pub invariant-loop-k : goal.invariant-loop-k
invariant-loop-k l = record {
  done : (seen : List ℕ) → l.initial.widths ≡ widths_at l.descr l.block seen → (j : ℕ) → j < l.k → get_or l.widths j 0 ≡ get_or (widths_at l.descr l.block (seen ++ l.offset ∷ [])) j 0;
  left : (j : ℕ) → l.k ≤ j → get_or l.widths j 0 ≡ get_or l.initial.widths j 0;
}

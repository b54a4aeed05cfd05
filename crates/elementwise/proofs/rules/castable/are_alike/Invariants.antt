use Rattle.std.proofs.Common.{◌≡◌, ◌<◌, ℕ}
use Rattle.elementwise.proofs.Words.{leaf_at}
use Rattle.elementwise.proofs.rules.castable.are_alike.Given as goal

-- the first leaves are the same
abbrev pub invariant-loop-k : goal.invariant-loop-k
invariant-loop-k l = (k : ℕ) → k < l.k → leaf_at l.a k ≡ leaf_at l.b k

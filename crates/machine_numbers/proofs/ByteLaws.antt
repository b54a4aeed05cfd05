-- Bytes that overwrite other bytes.
use Rattle.std.proofs.Common.{◌≡◌, ℕ, List, ◌++◌, length, drop, ap, ◌∙◌, arith}
use Rattle.std.proofs.lemmas.List.{append-nil, drop_all}

-- Bytes that overwrite the same number of bytes replace them all.
pub over_all : (n : ℕ) (written old : List ℕ) → length old ≡ n → written ++ drop n old ≡ written
over_all n written old whole = ap (λ rest. written ++ rest) (drop_all n old (omega arith)) ∙ append-nil written

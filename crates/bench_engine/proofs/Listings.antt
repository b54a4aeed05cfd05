-- The names of a bench, one after the other.
use Rattle.std.proofs.Common.{◌≡◌, ℕ, zero, suc, List, [], ◌∷◌, ◌++◌, drop, codes, ap, Some, slice_get}
use Rattle.bench_engine.proofs.Words.{flat_map, option_map, Array}

-- the names, each after a space
abbrev pub listed : List (List ℕ × Array) → List ℕ
listed names = flat_map (λ entry. codes " " ++ entry.0) names

pub listed-next : (names : List (List ℕ × Array)) (k : ℕ) (name : List ℕ) → option_map (λ (entry : List ℕ × Array). entry.0) (slice_get names k) ≡ Some name →
    listed (drop k names) ≡ (codes " " ++ name) ++ listed (drop (suc k) names)
listed-next [] k name is = cc
listed-next (entry ∷ names) zero name is = let same : entry.0 ≡ name = cc in ap (λ n. (codes " " ++ n) ++ listed names) same
listed-next (entry ∷ names) (suc k) name is = listed-next names k name is

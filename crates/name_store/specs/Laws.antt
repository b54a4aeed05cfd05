-- What a path leads to if one more field is appended to it.
use Rattle.std.specs.Prelude.{◌≡◌, ◌<◌, ◌+◌, ℕ, List, [], ◌∷◌, ◌++◌, length}
use Rattle.std.proofs.Common.{refl, arith}
use Rattle.name_store.specs.Words.{Descr, fields, field_at}
use Rattle.name_store.specs.Parts.{IsPathOf, descr_at, start_at}

pub path-then : (descr : Descr) (path : List ℕ) (k : ℕ) → IsPathOf descr path → k < length (fields (descr_at descr path)) → IsPathOf descr (path ++ k ∷ [])
path-then descr [] k is low = (low, tt)
path-then descr (j ∷ path) k is low = (is.0, path-then (field_at descr j).descr path k is.1 low)

pub descr-then : (descr : Descr) (path : List ℕ) (k : ℕ) → descr_at descr (path ++ k ∷ []) ≡ (field_at (descr_at descr path) k).descr
descr-then descr [] k = refl
descr-then descr (j ∷ path) k = descr-then (field_at descr j).descr path k

pub start-then : (descr : Descr) (path : List ℕ) (k : ℕ) → start_at descr (path ++ k ∷ []) ≡ start_at descr path + (field_at (descr_at descr path) k).at
start-then descr [] k = omega arith
start-then descr (j ∷ path) k = omega (arith, start-then (field_at descr j).descr path k)

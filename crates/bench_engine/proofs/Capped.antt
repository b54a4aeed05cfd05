-- Lengths of a script, capped to 64 bits.
use Rattle.std.proofs.Common.{◌≡◌, ◌≤◌, ◌-◌, ◌^◌, ℕ, true, false, List, [], ◌∷◌, length, map, min, refl, sym, ap, ◌∙◌, Err, nat_le, arith}
use Rattle.bench_engine.proofs.Words.{list_all, le-leb, leb-true, leb-false, lt-leb, and_parts, length-map, ◌>>=◌, check, TooManyAxes, TooLarge, max_items, shape_of}

-- a capped length is too large exactly if the length is
pub capped-fits : (n : ℕ) → nat_le (min n (2 ^ 64 - 1)) max_items ≡ nat_le n max_items
capped-fits n = elim (nat_le n max_items) as (λ t. nat_le n max_items ≡ t → nat_le (min n (2 ^ 64 - 1)) max_items ≡ t) [
  | true ↦ λ e. le-leb _ _ (omega (arith, leb-true n max_items e))
  | false ↦ λ e. lt-leb _ _ (omega (arith, leb-false n max_items e))
] refl

all-capped : (xs : List ℕ) → list_all (λ n. nat_le n max_items) (map (λ n. min n (2 ^ 64 - 1)) xs) ≡ list_all (λ n. nat_le n max_items) xs
all-capped [] = refl
all-capped (x ∷ xs) = rw (capped-fits x, all-capped xs) refl

capped-same : (xs : List ℕ) → list_all (λ n. nat_le n max_items) xs ≡ true → map (λ n. min n (2 ^ 64 - 1)) xs ≡ xs
capped-same [] h = refl
capped-same (x ∷ xs) h =
    let small : x ≤ max_items = leb-true x max_items (and_parts _ _ h).0 in
    let same : min x (2 ^ 64 - 1) ≡ x = omega arith in
    λ i. same i ∷ capped-same xs (and_parts (nat_le x max_items) _ h).1 i

-- the answer to a shape with a length that is too large
shape_of-wide : (xs : List ℕ) → list_all (λ n. nat_le n max_items) xs ≡ false → shape_of xs ≡ (check (nat_le (length xs) 64) TooManyAxes >>= λ _. Err TooLarge)
unfolding shape_of
shape_of-wide xs wide = rw wide refl

pub shape_of-capped : (xs : List ℕ) → shape_of (map (λ n. min n (2 ^ 64 - 1)) xs) ≡ shape_of xs
shape_of-capped xs =
    elim (list_all (λ n. nat_le n max_items) xs) as (λ t. list_all (λ n. nat_le n max_items) xs ≡ t → shape_of (map (λ n. min n (2 ^ 64 - 1)) xs) ≡ shape_of xs) [
      | true ↦ λ e. ap shape_of (capped-same xs e)
      | false ↦ λ e.
          shape_of-wide (map (λ n. min n (2 ^ 64 - 1)) xs) (all-capped xs ∙ e)
          ∙ ap (λ n. check (nat_le n 64) TooManyAxes >>= λ _. Err TooLarge) (length-map xs (λ n. min n (2 ^ 64 - 1)))
          ∙ sym (shape_of-wide xs e)
    ] refl

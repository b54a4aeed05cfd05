-- Pairs of items in another order, and pairs of layouts.
use Rattle.std.specs.Prelude.{◌≡◌, List, ◌∷◌, map, length}
use Rattle.std.proofs.Common.{ℕ, [], All, refl, sym, ap, subst, ◌∙◌}
use Rattle.arrays.specs.Words.{zip, IsPermutation, IsPermutation-map, All-permutation, firsts-zip, seconds-zip, Layout, LayoutPair, count, length-offsets, offsets}

-- if the pairs are reordered, so are their first parts, and so are their second parts
pub firsts-reordered : (to from to' from' : List ℕ) → length from ≡ length to → length from' ≡ length to' → IsPermutation (zip to from) (zip to' from') → IsPermutation to to'
firsts-reordered to from to' from' long long' same =
    subst (λ l. IsPermutation l to') (firsts-zip to from long) (subst (IsPermutation (map (λ p. p.0) (zip to from))) (firsts-zip to' from' long') (IsPermutation-map (λ p. p.0) (zip to from) (zip to' from') same))

pub seconds-reordered : (to from to' from' : List ℕ) → length from ≡ length to → length from' ≡ length to' → IsPermutation (zip to from) (zip to' from') → IsPermutation from from'
seconds-reordered to from to' from' long long' same =
    subst (λ l. IsPermutation l from') (seconds-zip to from long) (subst (IsPermutation (map (λ p. p.1) (zip to from))) (seconds-zip to' from' long') (IsPermutation-map (λ p. p.1) (zip to from) (zip to' from') same))

-- a property of all places also holds for them in another order
pub All-firsts : (P : ℕ → Type 0) (to from to' from' : List ℕ) → length from ≡ length to → length from' ≡ length to' → IsPermutation (zip to from) (zip to' from') → All P to → All P to'
All-firsts P to from to' from' long long' same all = All-permutation P to to' (firsts-reordered to from to' from' long long' same) all

pub All-seconds : (P : ℕ → Type 0) (to from to' from' : List ℕ) → length from ≡ length to → length from' ≡ length to' → IsPermutation (zip to from) (zip to' from') → All P from → All P from'
All-seconds P to from to' from' long long' same all = All-permutation P from from' (seconds-reordered to from to' from' long long' same) all

-- each pair with its parts swapped
flipped : (to from : List ℕ) → zip from to ≡ map (λ (p : ℕ × ℕ). (p.1, p.0)) (zip to from)
flipped [] [] = refl
flipped [] (offset ∷ from) = refl
flipped (at ∷ to) [] = refl
flipped (at ∷ to) (offset ∷ from) = ap (λ l. (offset, at) ∷ l) (flipped to from)

pub flipped-reordered : (to from to' from' : List ℕ) → IsPermutation (zip to from) (zip to' from') → IsPermutation (zip from to) (zip from' to')
flipped-reordered to from to' from' same =
    let flip : ℕ × ℕ → ℕ × ℕ = λ p. (p.1, p.0) in
    subst (λ l. IsPermutation l (zip from' to')) (sym (flipped to from)) (subst (IsPermutation (map flip (zip to from))) (sym (flipped to' from')) (IsPermutation-map flip (zip to from) (zip to' from') same))

-- layouts with the same number of items have the same number of offsets
pub even : (dst src : Layout) → count dst.shape ≡ count src.shape → length (offsets src) ≡ length (offsets dst)
even dst src same = length-offsets src ∙ sym same ∙ sym (length-offsets dst)

pub pair_even : (pair : LayoutPair) → length (offsets pair.source) ≡ length (offsets pair.target)
pair_even pair = even pair.target pair.source (ap count (sym pair.same_shape))

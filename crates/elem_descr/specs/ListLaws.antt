-- General laws of lists and truth values.
use Rattle.std.specs.Prelude.{◌≡◌, ℕ, ◌-◌, List, length, take, [], ◌∷◌, ◌++◌, map, Bool, ℤ, pos}
use Rattle.std.proofs.Common.{drop, arith, refl, ◌∙◌, ap, sym, true, false, get_or}
use Rattle.elem_descr.specs.Words.{length-drop, take_all, map-append, flat_map, flat_map-append, take-append_seam}

-- The slice from `k` to the end is all of the list but its first `k` elements.
pub slice-rest : {X : Type 0} (k : ℕ) (whole : List X) → take (length whole - k) (drop k whole) ≡ drop k whole
slice-rest k whole = take_all (length whole - k) (drop k whole) (omega (arith, length-drop k whole))

pub flat_map_same : {X Y : Type 0} (f g : X → List Y) → ((x : X) → f x ≡ g x) → (xs : List X) → flat_map f xs ≡ flat_map g xs
flat_map_same f g same [] = refl
flat_map_same f g same (x ∷ xs) = ap (λ ys. ys ++ flat_map f xs) (same x) ∙ ap (λ ys. g x ++ ys) (flat_map_same f g same xs)

pub flat_map-flat_map : {X Y Z : Type 0} (f : Y → List Z) (g : X → List Y) (xs : List X) → flat_map f (flat_map g xs) ≡ flat_map (λ x. flat_map f (g x)) xs
flat_map-flat_map f g [] = refl
flat_map-flat_map f g (x ∷ xs) = flat_map-append f (g x) (flat_map g xs) ∙ ap (λ zs. flat_map f (g x) ++ zs) (flat_map-flat_map f g xs)

pub map-flat_map : {X Y Z : Type 0} (f : Y → Z) (g : X → List Y) (xs : List X) → map f (flat_map g xs) ≡ flat_map (λ x. map f (g x)) xs
map-flat_map f g [] = refl
map-flat_map f g (x ∷ xs) = map-append f (g x) (flat_map g xs) ∙ ap (λ zs. map f (g x) ++ zs) (map-flat_map f g xs)

-- The first `n` numbers of `xs ++ rest` are `xs`, if `xs` has length `n`.
pub take_front : (n : ℕ) (xs rest : List ℕ) → length xs ≡ n → take n (xs ++ rest) ≡ xs
take_front n xs rest is = ap (λ m. take m (xs ++ rest)) (sym is) ∙ take-append_seam xs rest

pub same_test : (a b : Bool) → (a ≡ true → b ≡ true) → (b ≡ true → a ≡ true) → a ≡ b
same_test true true f g = refl
same_test false false f g = refl
same_test true false f g = sym (f refl)
same_test false true f g = g refl

pub first_is : (x y : ℤ) (xs ys : List ℤ) → x ∷ xs ≡ y ∷ ys → x ≡ y
first_is x y xs ys same = ap (λ zs. get_or zs 0 (pos 0)) same

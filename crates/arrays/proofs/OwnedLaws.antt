-- Adjacent items in C order and in Fortran order.
use Rattle.std.proofs.Common.{reverse, ◌≡◌, ◌+◌, ◌*◌, ◌<◌, ◌≤◌, ◌&&◌, ◌||◌, ℕ, zero, suc, Bool, true, false, List, [], ◌∷◌, map, IsTrue, refl, sym, ap, subst, ◌∙◌, arith}
use Rattle.arrays.proofs.Words.{range_with_len, mul-div_cancel_left, mul-suc, eq-eqb, indexes, rank, is_c_contiguous, is_f_contiguous, fortran_order, multiples, f_multiples, places_of}

some-bytes : {item : ℕ} → 1 ≤ item → 0 < item
some-bytes some = omega (arith, some)

-- offsets that are multiples of the size of an item
whole-map : {X : Type 0} (item : ℕ) (f : X → ℕ) (xs : List X) → 1 ≤ item → map (λ x. item * f x) xs ≡ map (λ place. item * place) (places_of item (map (λ x. item * f x) xs))
whole-map item f [] some = refl
whole-map item f (x ∷ xs) some = λ i. item * sym (mul-div_cancel_left (f x) (some-bytes some)) i ∷ whole-map item f xs some i

pub multiples-whole : (item n : ℕ) (offsets : List ℕ) → 1 ≤ item → offsets ≡ multiples item n → offsets ≡ map (λ place. item * place) (places_of item offsets)
multiples-whole item n offsets some is = subst (λ (os : List ℕ). os ≡ map (λ place. item * place) (places_of item os)) (sym is) (whole-map item (λ k. k) (range_with_len 0 n) some)

pub f_multiples-whole : (item : ℕ) (shape offsets : List ℕ) → 1 ≤ item → offsets ≡ f_multiples item shape → offsets ≡ map (λ place. item * place) (places_of item offsets)
f_multiples-whole item shape offsets some is = subst (λ (os : List ℕ). os ≡ map (λ place. item * place) (places_of item os)) (sym is) (whole-map item (λ index. rank (reverse shape) (reverse index)) (indexes shape) some)

goes-up : (item a n : ℕ) → is_c_contiguous item (map (λ k. item * k) (range_with_len a n)) ≡ true
goes-up item a zero = refl
goes-up item a (suc zero) = refl
goes-up item a (suc (suc n)) =
    let next : item * (a + 1) ≡ item * a + item = omega (arith, ap (λ k. item * k) one, mul-suc item a) in
    λ i. eq-eqb (item * (a + 1)) (item * a + item) next i && goes-up item (a + 1) (suc n) i
  where
    one : a + 1 ≡ suc a
    one = omega arith

pub c-in_order : (item n : ℕ) (shape offsets : List ℕ) → offsets ≡ multiples item n → IsTrue (is_c_contiguous item offsets || is_f_contiguous item shape offsets)
c-in_order item n shape offsets is =
    let up : is_c_contiguous item offsets ≡ true = ap (is_c_contiguous item) is ∙ goes-up item 0 n in
    ap (λ b. b || is_f_contiguous item shape offsets) up

pub f-in_order : (item n : ℕ) (shape offsets : List ℕ) → fortran_order shape offsets ≡ multiples item n → IsTrue (is_c_contiguous item offsets || is_f_contiguous item shape offsets)
f-in_order item n shape offsets is =
    let up : is_f_contiguous item shape offsets ≡ true = ap (is_c_contiguous item) is ∙ goes-up item 0 n in
    ap (λ b. is_c_contiguous item offsets || b) up ∙ or-true (is_c_contiguous item offsets)
  where
    or-true : (b : Bool) → (b || true) ≡ true
    or-true true = refl
    or-true false = refl

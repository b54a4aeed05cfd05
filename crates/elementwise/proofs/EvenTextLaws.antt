-- Byte strings of the same length: the NULs at their ends decide nothing.
use Rattle.std.proofs.Common.{◌≡◌, ◌+◌, ◌-◌, ◌<◌, ◌≤◌, ◌==◌, ◌&&◌, ◌||◌, true, false, nat_lt, ℕ, zero, suc, List, [], ◌∷◌, ◌++◌, length, get_or, replicate, reverse, refl, sym, ap, ◌∙◌, arith, length-take, length-append, nat_eq}
use Rattle.elementwise.proofs.Words.{lt-ltb, nat_tests, get_or-reverse, get_or-take, length-reverse, length-replicate, prefix_len_stops, suffix_len-le-length, and-false, without_nuls, without_nuls-back, nuls, text_below}

-- ---- byte strings that do not end in NUL

abbrev pub EndsWell : List ℕ → Type 0
EndsWell [] = Unit {0}
EndsWell (b ∷ []) = b ≡ 0 → ⊥
EndsWell (b ∷ c ∷ bytes) = EndsWell (c ∷ bytes)

ends-after : (b : ℕ) (bytes : List ℕ) → EndsWell (b ∷ bytes) → EndsWell bytes
ends-after b [] ends = tt
ends-after b (c ∷ bytes) ends = ends

ends-by : (bytes : List ℕ) → ((k : ℕ) → suc k ≡ length bytes → get_or bytes k 0 ≡ 0 → ⊥) → EndsWell bytes
ends-by [] last = tt
ends-by (b ∷ []) last = λ none. last 0 refl none
ends-by (b ∷ c ∷ bytes) last = ends-by (c ∷ bytes) (λ k is none. last (suc k) (omega (arith, is)) none)

eq-zero : (n : ℕ) → n ≡ 0 → nat_eq n 0 ≡ false → ⊥
eq-zero n none no-zero = absurd (let is : false ≡ true = sym no-zero ∙ ap (λ b. nat_eq b 0) none in cc)

pub without-ends : (bytes : List ℕ) → EndsWell (without_nuls bytes)
without-ends bytes =
    let long = length-take (length bytes - nuls bytes) bytes in
    ends-by (without_nuls bytes) (λ k is none.
    let few : nuls bytes < length (reverse bytes) = omega (arith, is, long, length-reverse bytes) in
    let at : length bytes - 1 - nuls bytes ≡ k = omega (arith, is, long) in
    eq-zero (get_or (reverse bytes) (nuls bytes) 0)
    (get_or-reverse bytes (nuls bytes) 0 (omega (arith, is, long)) ∙ ap (λ i. get_or bytes i 0) at ∙ sym (get_or-take (length bytes - nuls bytes) bytes k 0 (omega (arith, is, long))) ∙ none)
    (prefix_len_stops (λ b. nat_eq b 0) (reverse bytes) 0 few))

-- ---- with NULs after them

not-below-zero : (a : ℕ) → nat_lt a 0 ≡ false
not-below-zero a = grind (arith, nat_tests)

-- nothing is below NULs that are not longer
pub none-below : (xs : List ℕ) (n : ℕ) → n ≤ length xs → text_below xs (replicate n 0) ≡ false
none-below [] zero few = refl
none-below [] (suc n) few = absurd (omega (arith, few))
none-below (a ∷ xs) zero few = refl
none-below (a ∷ xs) (suc n) few = (λ i. not-below-zero a i || (a == 0 && none-below xs n (omega (arith, few)) i)) ∙ and-false (a == 0)

pub filled : (xs ys : List ℕ) (m n : ℕ) → EndsWell xs → EndsWell ys → length xs + m ≡ length ys + n → text_below (xs ++ replicate m 0) (ys ++ replicate n 0) ≡ text_below xs ys
filled [] [] m n ends ends' even = let long : length {A = ℕ} (replicate m 0) ≡ m = length-replicate m 0 in none-below (replicate m 0) n (omega (arith, even, long))
filled [] (b ∷ ys) zero n ends ends' even = absurd (omega (arith, even))
filled [] (zero ∷ []) (suc m) n ends ends' even = absurd (ends' refl)
filled [] (zero ∷ c ∷ ys) (suc m) n ends ends' even = filled [] (c ∷ ys) m n tt ends' (omega (arith, even))
filled [] (suc b ∷ ys) (suc m) n ends ends' even = λ i. lt-ltb 0 (suc b) (omega arith) i || (0 == suc b && text_below (replicate m 0) (ys ++ replicate n 0))
filled (a ∷ xs) [] m n ends ends' even = let long : length {A = ℕ} (replicate m 0) ≡ m = length-replicate m 0 in none-below (a ∷ xs ++ replicate m 0) n (omega (arith, even, length-append xs (replicate m 0), long))
filled (a ∷ xs) (b ∷ ys) m n ends ends' even = λ i. nat_lt a b || (a == b && filled xs ys m n (ends-after a xs ends) (ends-after b ys ends') (omega (arith, even)) i)

-- so byte strings of the same length can be compared as they are
pub below-even : (xs ys : List ℕ) → length xs ≡ length ys → text_below xs ys ≡ text_below (without_nuls xs) (without_nuls ys)
below-even xs ys even =
    let few = suffix_len-le-length (λ b. nat_eq b 0) xs in
    let few' = suffix_len-le-length (λ b. nat_eq b 0) ys in
    (λ i. text_below (sym (without_nuls-back xs) i) (sym (without_nuls-back ys) i))
    ∙ filled (without_nuls xs) (without_nuls ys) (nuls xs) (nuls ys) (without-ends xs) (without-ends ys)
    (omega (arith, even, few, few', length-take (length xs - nuls xs) xs, length-take (length ys - nuls ys) ys))

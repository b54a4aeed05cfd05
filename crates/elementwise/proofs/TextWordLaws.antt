-- Byte strings that are compared eight bytes at a time.
use Rattle.std.proofs.Common.{◌≡◌, ◌+◌, ◌-◌, ◌*◌, ◌<◌, ◌≤◌, ◌==◌, ◌&&◌, ◌||◌, inl, inr, nat_lt, true, false, ℕ, zero, suc, List, [], ◌∷◌, ◌++◌, length, get_or, take, drop, replicate, refl, sym, ap, subst, ◌∙◌, arith, length-take, length-drop}
use Rattle.elementwise.proofs.Words.{take-add, get_or-eq_default, cases_lt, nat_tests, same_lists, get_or_default, get_or-drop, get_or-take, take-append-drop, take_all, little_from, little_number, without_nuls, without_nuls-more, text_below}

-- ---- words

digits : (a b p q : ℕ) → a < 256 → b < 256 → a + 256 * p ≡ b + 256 * q → (a ≡ b) × (p ≡ q)
digits a b p q low low' same = (omega arith, omega arith)

numbers : (n i : ℕ) (xs ys : List ℕ) → ((k : ℕ) → get_or xs k 0 < 256) → ((k : ℕ) → get_or ys k 0 < 256) → little_from i n xs ≡ little_from i n ys → (k : ℕ) → i ≤ k → k < i + n → get_or xs k 0 ≡ get_or ys k 0
numbers zero i xs ys low low' same k from below = absurd (omega arith)
numbers (suc n) i xs ys low low' same k from below =
    let both = digits (get_or xs i 0) (get_or ys i 0) (little_from (suc i) n xs) (little_from (suc i) n ys) (low i) (low' i) same in
    elim (cases_lt i k) [
      | inl later ↦ numbers n (suc i) xs ys low low' both.1 k (omega arith) (omega arith)
      | inr here ↦ let at : k ≡ i = omega arith in (λ j. get_or xs (at j) 0) ∙ both.0 ∙ λ j. get_or ys (sym at j) 0
    ]

-- words that are the same number have the same bytes
word-same : (xs ys : List ℕ) → length xs ≡ 8 → length ys ≡ 8 → ((k : ℕ) → get_or xs k 0 < 256) → ((k : ℕ) → get_or ys k 0 < 256) → little_number 8 xs ≡ little_number 8 ys → xs ≡ ys
word-same xs ys eight eight' low low' same =
    same_lists xs ys (eight ∙ sym eight') (λ k d below. get_or_default xs k d 0 below ∙ numbers 8 0 xs ys low low' same k (omega arith) (omega arith) ∙ get_or_default ys k 0 d (omega arith))

-- the part of a byte string that is one word
part : (xs : List ℕ) (at width : ℕ) → width ≡ 8 → at + 8 ≤ length xs → length (take width (drop at xs)) ≡ 8
part xs at width eight within = omega (arith, length-take width (drop at xs), length-drop at xs)

low-part : (xs : List ℕ) (at width : ℕ) → ((k : ℕ) → get_or xs k 0 < 256) → (k : ℕ) → get_or (take width (drop at xs)) k 0 < 256
low-part xs at width low k =
    elim (cases_lt k width) [
      | inl near ↦ subst (λ n. n < 256) (sym (get_or-take width (drop at xs) k 0 near ∙ get_or-drop at xs k 0)) (low (at + k))
      | inr far ↦ subst (λ n. n < 256) (sym (get_or-eq_default (take width (drop at xs)) 0 (omega (arith, length-take width (drop at xs))))) (omega arith)
    ]

-- one more word that two byte strings share
pub next-word : (left right : List ℕ) (at width first second : ℕ) → width ≡ 8 → at + 8 ≤ length left → at + 8 ≤ length right → ((k : ℕ) → get_or left k 0 < 256) → ((k : ℕ) → get_or right k 0 < 256) →
    first ≡ little_number 8 (take width (drop at left)) → second ≡ little_number 8 (take width (drop at right)) → first ≡ second → take at left ≡ take at right → take (at + 8) left ≡ take (at + 8) right
next-word left right at width first second eight within within' low low' is is' same so_far =
    let word : take width (drop at left) ≡ take width (drop at right) =
    word-same (take width (drop at left)) (take width (drop at right)) (part left at width eight within) (part right at width eight within') (low-part left at width low) (low-part right at width low') (sym is ∙ same ∙ is') in
    take-add at 8 left
    ∙ (λ i. so_far i ++ take (sym eight i) (drop at left))
    ∙ ap (λ rest. take at right ++ rest) word
    ∙ (λ i. take at right ++ take (eight i) (drop at right))
    ∙ sym (take-add at 8 right)

-- ---- a shared prefix decides nothing

pub lt-self : (a : ℕ) → nat_lt a a ≡ false
lt-self a = grind (arith, nat_tests)

pub eq-self : (a : ℕ) → (a == a) ≡ true
eq-self a = grind (arith, nat_tests)

below-shared : (front xs ys : List ℕ) → text_below (front ++ xs) (front ++ ys) ≡ text_below xs ys
below-shared [] xs ys = refl
below-shared (a ∷ front) xs ys = (λ i. lt-self a i || (eq-self a i && text_below (front ++ xs) (front ++ ys))) ∙ below-shared front xs ys

pub below-rest : (xs ys : List ℕ) (k : ℕ) → take k xs ≡ take k ys → text_below (drop k xs) (drop k ys) ≡ text_below xs ys
below-rest xs ys k same =
    sym (below-shared (take k ys) (drop k xs) (drop k ys))
    ∙ (λ i. text_below (sym same i ++ drop k xs) (take k ys ++ drop k ys))
    ∙ λ i. text_below (take-append-drop k xs i) (take-append-drop k ys i)

-- in the form that the code uses
pub below-cut : (xs ys : List ℕ) (k : ℕ) → take k xs ≡ take k ys → text_below (take (length xs - k) (drop k xs)) (take (length ys - k) (drop k ys)) ≡ text_below xs ys
below-cut xs ys k same =
    (λ i. text_below (take_all (length xs - k) (drop k xs) (omega (arith, length-drop k xs)) i) (take_all (length ys - k) (drop k ys) (omega (arith, length-drop k ys)) i)) ∙ below-rest xs ys k same

-- ---- words of NULs

zero-at : (n k : ℕ) → let zeros : List ℕ = replicate n 0 in get_or zeros k 0 ≡ 0
zero-at zero k = refl
zero-at (suc n) zero = refl
zero-at (suc n) (suc k) = zero-at n k

pub fewer-nuls : (item whole : List ℕ) (len at width word : ℕ) → width ≡ 8 → at + 8 ≡ len → len ≤ length item → ((k : ℕ) → get_or item k 0 < 256) → word ≡ little_number 8 (take width (drop at item)) → word ≡ 0 →
    without_nuls (take len item) ≡ whole → without_nuls (take at item) ≡ whole
fewer-nuls item whole len at width word eight ends within low is none so_far =
    let zeros : take width (drop at item) ≡ replicate 8 0 =
    word-same (take width (drop at item)) (replicate 8 0) (part item at width eight (omega arith)) refl (low-part item at width low) (λ k. subst (λ n. n < 256) (sym (zero-at 8 k)) (omega arith)) (sym is ∙ none) in
    sym (without_nuls-more (take at item) 8)
    ∙ (λ i. without_nuls (take at item ++ sym zeros i))
    ∙ (λ i. without_nuls (take at item ++ take (eight i) (drop at item)))
    ∙ ap without_nuls (sym (take-add at 8 item))
    ∙ ap (λ n. without_nuls (take n item)) ends
    ∙ so_far

-- Byte strings that are compared as numbers.
use Rattle.std.proofs.Common.{◌≡◌, ◌+◌, ◌*◌, ◌^◌, ◌<◌, ◌≤◌, ◌==◌, ◌&&◌, ◌||◌, inl, inr, cond, nat_lt, false, ℕ, zero, suc, pos, List, [], ◌∷◌, length, drop, refl, sym, ap, ◌∙◌, All, arith, length-take, length-drop, suc-mul, mul-le-mul_right}
use Rattle.elementwise.proofs.Words.{cases_lt, lt-ltb, nat_tests, All-tail, big_number, little_number, big_from-cons, big_from-lt, AreBytes, bytes-take, bytes-drop, Big, Scalar, Byte, Int, width_size, encode, number, item_at, Comparison, BoolScalar, text_below, says, pairwise, number_pair, text_pair, pair_from, says_number, IsWord}
use Rattle.elementwise.proofs.TextWordLaws.{lt-self, eq-self}
use Rattle.elementwise.proofs.EvenTextLaws.{below-even}

-- ---- the order

pub not-above : (a b : ℕ) → a < b → nat_lt b a ≡ false
not-above a b less = grind (arith, nat_tests)

pub not-equal : (a b : ℕ) → a < b → (b == a) ≡ false
not-equal a b less = grind (arith, nat_tests)

cancel : (m p q : ℕ) → nat_lt (m + p) (m + q) ≡ nat_lt p q
cancel m p q = grind (arith, nat_tests)

first-decides : (x y p q k : ℕ) → p < k → q < k → nat_lt (x * k + p) (y * k + q) ≡ (nat_lt x y || (x == y && nat_lt p q))
first-decides x y p q k low low' = elim (cases_lt x y) as (λ _. nat_lt (x * k + p) (y * k + q) ≡ (nat_lt x y || (x == y && nat_lt p q))) [
  | inl before ↦
      let more : suc x * k ≤ y * k = mul-le-mul_right k before in
      lt-ltb (x * k + p) (y * k + q) (omega (arith, more, suc-mul x k, low)) ∙ λ i. sym (lt-ltb x y before) i || (x == y && nat_lt p q)
  | inr from ↦ elim (cases_lt y x) as (λ _. nat_lt (x * k + p) (y * k + q) ≡ (nat_lt x y || (x == y && nat_lt p q))) [
    | inl after ↦
        let more : suc y * k ≤ x * k = mul-le-mul_right k after in
        not-above (y * k + q) (x * k + p) (omega (arith, more, suc-mul y k, low')) ∙ λ i. sym (not-above y x after) i || (sym (not-equal y x after) i && nat_lt p q)
    | inr to ↦
        let same : x ≡ y = omega (arith, from, to) in
        (λ i. nat_lt (same i * k + p) (y * k + q)) ∙ cancel (y * k) p q
        ∙ (λ i. sym (lt-self y) i || (sym (eq-self y) i && nat_lt p q))
        ∙ λ i. nat_lt (sym same i) y || (sym same i == y && nat_lt p q)
  ]
]

-- byte strings of the same length are ordered like the big-endian numbers of their bytes
pub words-below : (n : ℕ) (xs ys : List ℕ) → length xs ≡ n → length ys ≡ n → AreBytes xs → AreBytes ys → nat_lt (big_number n xs) (big_number n ys) ≡ text_below xs ys
words-below zero [] [] long long' are are' = refl
words-below zero [] (y ∷ ys) long long' are are' = absurd (omega (arith, long'))
words-below zero (x ∷ xs) ys long long' are are' = absurd (omega (arith, long))
words-below (suc n) [] ys long long' are are' = absurd (omega (arith, long))
words-below (suc n) (x ∷ xs) [] long long' are are' = absurd (omega (arith, long'))
words-below (suc n) (x ∷ xs) (y ∷ ys) long long' are are' =
    let k = 256 ^ n in
    let p = big_number n xs in
    let q = big_number n ys in
    let is : big_number (suc n) (x ∷ xs) ≡ x * k + p = ap (λ z. x * k + z) (big_from-cons 0 n x xs) in
    let is' : big_number (suc n) (y ∷ ys) ≡ y * k + q = ap (λ z. y * k + z) (big_from-cons 0 n y ys) in
    (λ i. nat_lt (is i) (is' i))
    ∙ first-decides x y p q k (big_from-lt 0 n xs (λ j. are (suc j))) (big_from-lt 0 n ys (λ j. are' (suc j)))
    ∙ λ i. nat_lt x y || (x == y && words-below n xs ys (omega (arith, long)) (omega (arith, long')) (λ j. are (suc j)) (λ j. are' (suc j)) i)

-- ---- the result of a comparison

one-byte : (xs : List ℕ) → little_number 1 xs ≡ big_number 1 xs
one-byte xs = omega arith

said-alike : (c : Comparison) (m n : ℕ) (xs ys : List ℕ) → nat_lt m n ≡ text_below xs ys → nat_lt n m ≡ text_below ys xs → length xs ≡ length ys →
    encode BoolScalar (number (says_number c (pos m) (pos n))) ≡ text_pair c xs ys
said-alike c m n xs ys below above even =
    λ i. encode BoolScalar (number (cond (says c ((below ∙ below-even xs ys even) i) ((above ∙ below-even ys xs (sym even)) i)) (pos 1) (pos 0)))

pub words-compared : (c : Comparison) (s : Scalar) (n : ℕ) (xs ys : List ℕ) → IsWord s n → length xs ≡ n → length ys ≡ n → AreBytes xs → AreBytes ys → number_pair s s BoolScalar (says_number c) xs ys ≡ text_pair c xs ys
words-compared c (Byte false) n xs ys is long long' are are' =
    let below = (λ i. nat_lt (one-byte xs i) (one-byte ys i)) ∙ words-below 1 xs ys (long ∙ is) (long' ∙ is) are are' in
    let above = (λ i. nat_lt (one-byte ys i) (one-byte xs i)) ∙ words-below 1 ys xs (long' ∙ is) (long ∙ is) are' are in
    said-alike c (little_number 1 xs) (little_number 1 ys) xs ys below above (long ∙ sym long')
words-compared c (Int false width Big) n xs ys is long long' are are' =
    let w = width_size width in
    said-alike c (big_number w xs) (big_number w ys) xs ys (words-below w xs ys (long ∙ is) (long' ∙ is) are are') (words-below w ys xs (long' ∙ is) (long ∙ is) are' are) (long ∙ sym long')
words-compared c _ n xs ys never long long' are are' = absurd never

-- ---- all pairs of items

pub pairs-alike : (f g : List ℕ → List ℕ → List ℕ) (w w' : ℕ) (left right xs ys : List ℕ) → AreBytes left → AreBytes right → All (λ o. o + w ≤ length left) xs → All (λ o. o + w' ≤ length right) ys →
    ((x y : List ℕ) → length x ≡ w → length y ≡ w' → AreBytes x → AreBytes y → f x y ≡ g x y) → pairwise (pair_from f w w' left right) xs ys ≡ pairwise (pair_from g w w' left right) xs ys
pairs-alike f g w w' left right [] ys are are' inside inside' same = refl
pairs-alike f g w w' left right (x ∷ xs) [] are are' inside inside' same = refl
pairs-alike f g w w' left right (x ∷ xs) (y ∷ ys) are are' inside inside' same =
    let here : x + w ≤ length left = inside 0 0 (omega arith) in
    let here' : y + w' ≤ length right = inside' 0 0 (omega arith) in
    let long : length (item_at x w left) ≡ w = omega (arith, here, length-take w (drop x left), length-drop x left) in
    let long' : length (item_at y w' right) ≡ w' = omega (arith, here', length-take w' (drop y right), length-drop y right) in
    let one = same (item_at x w left) (item_at y w' right) long long' (bytes-take w (drop x left) (bytes-drop x left are)) (bytes-take w' (drop y right) (bytes-drop y right are')) in
    let rest = pairs-alike f g w w' left right xs ys are are' (All-tail (λ o. o + w ≤ length left) x xs inside) (All-tail (λ o. o + w' ≤ length right) y ys inside') same in
    λ i. one i ∷ rest i

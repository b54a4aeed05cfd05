-- Byte strings that are ordered like big-endian words of their bytes.
use Rattle.std.proofs.Common.{◌≡◌, ◌+◌, ◌*◌, ◌^◌, ◌<◌, ◌≤◌, ◌==◌, ◌&&◌, ◌||◌, inl, inr, ◌⊎◌, nat_lt, false, ℕ, List, [], ◌∷◌, ◌++◌, length, take, drop, refl, sym, ap, ◌∙◌, arith, length-take, length-drop}
use Rattle.elementwise.proofs.Words.{cases_eq, nat_tests, take-append-drop, take_all, take-take, big_number, item_at, AreBytes, bytes-take, bytes-drop, text_below, AreInOrder}
use Rattle.elementwise.proofs.TextWordLaws.{lt-self, eq-self, below-rest}
use Rattle.elementwise.proofs.TextNumberLaws.{words-below}
use Rattle.elementwise.proofs.EvenTextLaws.{below-even}

-- ---- prefixes

unequal : (a b : ℕ) → (a ≡ b → ⊥) → (a == b) ≡ false
unequal a b other = grind (arith, nat_tests)

-- if two prefixes of the same length differ, the rest decides nothing
front-decides : (xs ys rest rest' : List ℕ) → length xs ≡ length ys → (xs ≡ ys → ⊥) → text_below (xs ++ rest) (ys ++ rest') ≡ text_below xs ys
front-decides [] [] rest rest' even other = absurd (other refl)
front-decides [] (y ∷ ys) rest rest' even other = absurd (omega (arith, even))
front-decides (x ∷ xs) [] rest rest' even other = absurd (omega (arith, even))
front-decides (x ∷ xs) (y ∷ ys) rest rest' even other =
    elim (cases_eq x y) as (λ _. text_below (x ∷ xs ++ rest) (y ∷ ys ++ rest') ≡ text_below (x ∷ xs) (y ∷ ys)) [
      | inl same ↦ λ i. nat_lt x y || (x == y && front-decides xs ys rest rest' (omega (arith, even)) (λ is. other (λ j. same j ∷ is j)) i)
      | inr differ ↦ (λ i. nat_lt x y || (unequal x y differ i && text_below (xs ++ rest) (ys ++ rest'))) ∙ λ i. nat_lt x y || (sym (unequal x y differ) i && text_below xs ys)
    ]

-- byte strings of the same length are the same if neither is below the other
neither-below : (xs ys : List ℕ) → length xs ≡ length ys → text_below xs ys ≡ false → text_below ys xs ≡ false → xs ≡ ys
neither-below [] [] even above below = refl
neither-below [] (y ∷ ys) even above below = absurd (omega (arith, even))
neither-below (x ∷ xs) [] even above below = absurd (omega (arith, even))
neither-below (x ∷ xs) (y ∷ ys) even above below =
    let same : x ≡ y = grind (arith, nat_tests) in
    let rest : text_below xs ys ≡ false = (λ i. sym (lt-self y) i || (sym (eq-self y) i && text_below xs ys)) ∙ (λ i. nat_lt (sym same i) y || (sym same i == y && text_below xs ys)) ∙ above in
    let rest' : text_below ys xs ≡ false = (λ i. sym (lt-self y) i || (sym (eq-self y) i && text_below ys xs)) ∙ (λ i. nat_lt y (sym same i) || (y == sym same i && text_below ys xs)) ∙ below in
    λ i. same i ∷ neither-below xs ys (omega (arith, even)) rest rest' i

-- ---- words

-- first words that differ decide the order
word-decides : (n : ℕ) (xs ys : List ℕ) → n ≤ length xs → n ≤ length ys → AreBytes xs → AreBytes ys → (take n xs ≡ take n ys → ⊥) → nat_lt (big_number n (take n xs)) (big_number n (take n ys)) ≡ text_below xs ys
word-decides n xs ys some some' are are' other =
    let long : length (take n xs) ≡ n = omega (arith, some, length-take n xs) in
    let long' : length (take n ys) ≡ n = omega (arith, some', length-take n ys) in
    words-below n (take n xs) (take n ys) long long' (bytes-take n xs are) (bytes-take n ys are')
    ∙ sym (front-decides (take n xs) (take n ys) (drop n xs) (drop n ys) (long ∙ sym long') other)
    ∙ λ i. text_below (take-append-drop n xs i) (take-append-drop n ys i)

-- words after a shared prefix that differ decide the order
next-decides : (n at : ℕ) (xs ys : List ℕ) → at + n ≤ length xs → at + n ≤ length ys → AreBytes xs → AreBytes ys → take at xs ≡ take at ys → (item_at at n xs ≡ item_at at n ys → ⊥) → nat_lt (big_number n (item_at at n xs)) (big_number n (item_at at n ys)) ≡ text_below xs ys
next-decides n at xs ys within within' are are' same other =
    word-decides n (drop at xs) (drop at ys) (omega (arith, within, length-drop at xs)) (omega (arith, within', length-drop at ys)) (bytes-drop at xs are) (bytes-drop at ys are') other ∙ below-rest xs ys at same

-- in the form that the code uses
pub words-tell : (at : ℕ) (xs ys : List ℕ) (first second : ℕ) → at + 8 ≤ length xs → at + 8 ≤ length ys → AreBytes xs → AreBytes ys → first ≡ big_number 8 (item_at at 8 xs) → second ≡ big_number 8 (item_at at 8 ys) → take at xs ≡ take at ys →
    (item_at at 8 xs ≡ item_at at 8 ys → ⊥) → (nat_lt first second ≡ text_below xs ys) × (nat_lt second first ≡ text_below ys xs)
words-tell at xs ys first second within within' are are' is is' same other = (
  (λ i. nat_lt (is i) (is' i)) ∙ next-decides 8 at xs ys within within' are are' same other,
  (λ i. nat_lt (is' i) (is i)) ∙ next-decides 8 at ys xs within' within are' are (sym same) (λ alike. other (sym alike)),
)

-- for byte strings of the same length: words that differ, or that are the last ones
rest-decides : (n at : ℕ) (xs ys : List ℕ) → length xs ≡ length ys → at + n ≤ length xs → AreBytes xs → AreBytes ys → take at xs ≡ take at ys → (at + n ≡ length xs) ⊎ (item_at at n xs ≡ item_at at n ys → ⊥) →
    nat_lt (big_number n (item_at at n xs)) (big_number n (item_at at n ys)) ≡ text_below xs ys
rest-decides n at xs ys even within are are' same (inl ends) =
    let few : length (drop at xs) ≤ n = omega (arith, ends, length-drop at xs) in
    let few' : length (drop at ys) ≤ n = omega (arith, ends, even, length-drop at ys) in
    let long : length (item_at at n xs) ≡ n = omega (arith, within, length-take n (drop at xs), length-drop at xs) in
    let long' : length (item_at at n ys) ≡ n = omega (arith, within, even, length-take n (drop at ys), length-drop at ys) in
    words-below n (item_at at n xs) (item_at at n ys) long long' (bytes-take n (drop at xs) (bytes-drop at xs are)) (bytes-take n (drop at ys) (bytes-drop at ys are'))
    ∙ (λ i. text_below (take_all n (drop at xs) few i) (take_all n (drop at ys) few' i))
    ∙ below-rest xs ys at same
rest-decides n at xs ys even within are are' same (inr other) = next-decides n at xs ys within (omega (arith, within, even)) are are' same other

-- in the form that the code uses
pub in-order : (n at : ℕ) (xs ys : List ℕ) (first second : ℕ) → length xs ≡ length ys → at + n ≤ length xs → AreBytes xs → AreBytes ys → first ≡ big_number n (item_at at n xs) → second ≡ big_number n (item_at at n ys) →
    take at xs ≡ take at ys → (at + n ≡ length xs) ⊎ (item_at at n xs ≡ item_at at n ys → ⊥) → AreInOrder (nat_lt first second, nat_lt second first) xs ys
in-order n at xs ys first second even within are are' is is' same ends = (
  (λ i. nat_lt (is i) (is' i)) ∙ rest-decides n at xs ys even within are are' same ends ∙ below-even xs ys even,
  (λ i. nat_lt (is' i) (is i)) ∙ rest-decides n at ys xs (sym even) (omega (arith, even, within)) are' are (sym same) (elim ends [ inl last ↦ inl (last ∙ even) | inr other ↦ inr (λ alike. other (sym alike)) ]) ∙ below-even ys xs (sym even),
)

-- words that are the same number are the same, and so is a prefix of them
pub same-front : (n at : ℕ) (xs ys : List ℕ) → at ≤ n → n ≤ length xs → n ≤ length ys → AreBytes xs → AreBytes ys → big_number n (take n xs) ≡ big_number n (take n ys) → take at xs ≡ take at ys
same-front n at xs ys few some some' are are' same =
    let long : length (take n xs) ≡ n = omega (arith, some, length-take n xs) in
    let long' : length (take n ys) ≡ n = omega (arith, some', length-take n ys) in
    let b = bytes-take n xs are in
    let b' = bytes-take n ys are' in
    let m = big_number n (take n xs) in
    let m' = big_number n (take n ys) in
    let none : nat_lt m m' ≡ false = grind (arith, nat_tests) in
    let none' : nat_lt m' m ≡ false = grind (arith, nat_tests) in
    let front = neither-below (take n xs) (take n ys) (long ∙ sym long') (sym (words-below n (take n xs) (take n ys) long long' b b') ∙ none) (sym (words-below n (take n ys) (take n xs) long' long b' b) ∙ none') in
    sym (take-take at n xs few) ∙ ap (take at) front ∙ take-take at n ys few

-- The first words decide the order of two-word numbers; if they are the same, the last words do.
pub two-in-order : (a b p q : ℕ) (xs ys : List ℕ) → p < 2 ^ 64 → q < 2 ^ 64 → (a ≡ b → AreInOrder (nat_lt p q, nat_lt q p) xs ys) → ((a ≡ b → ⊥) → AreInOrder (nat_lt a b, nat_lt b a) xs ys) →
    AreInOrder (nat_lt (a * 2 ^ 64 + p) (b * 2 ^ 64 + q), nat_lt (b * 2 ^ 64 + q) (a * 2 ^ 64 + p)) xs ys
two-in-order a b p q xs ys low low' last first = elim (cases_eq a b) as (λ _. AreInOrder (nat_lt (a * 2 ^ 64 + p) (b * 2 ^ 64 + q), nat_lt (b * 2 ^ 64 + q) (a * 2 ^ 64 + p)) xs ys) [
  | inl same ↦
      let below : nat_lt (a * 2 ^ 64 + p) (b * 2 ^ 64 + q) ≡ nat_lt p q = grind (arith, nat_tests) in
      let above : nat_lt (b * 2 ^ 64 + q) (a * 2 ^ 64 + p) ≡ nat_lt q p = grind (arith, nat_tests) in
      (below ∙ (last same).0, above ∙ (last same).1)
  | inr differ ↦
      let below : nat_lt (a * 2 ^ 64 + p) (b * 2 ^ 64 + q) ≡ nat_lt a b = grind (arith, nat_tests) in
      let above : nat_lt (b * 2 ^ 64 + q) (a * 2 ^ 64 + p) ≡ nat_lt b a = grind (arith, nat_tests) in
      (below ∙ (first differ).0, above ∙ (first differ).1)
]

-- Byte strings that are compared with a longer one, as with its first bytes.
use Rattle.std.proofs.Common.{◌≡◌, ◌+◌, ◌-◌, ◌<◌, ◌≤◌, ◌==◌, ◌&&◌, ◌||◌, inl, inr, not, nat_lt, ℕ, List, [], ◌∷◌, ◌++◌, length, take, drop, replicate, refl, sym, ap, ◌∙◌, arith, length-take, nat_eq}
use Rattle.elementwise.proofs.Words.{cases_lt, lt-ltb, length-without_nuls, suffix_len-le-length, take-append-drop, without_nuls, without_nuls-back, nuls, text, text_below, says, compared, Comparison}
use Rattle.elementwise.proofs.TextWordLaws.{lt-self, eq-self}
use Rattle.elementwise.proofs.TextNumberLaws.{not-above, not-equal}
use Rattle.elementwise.proofs.EvenTextLaws.{none-below, filled, without-ends}

-- only as many bytes as the second has decide whether the first is below
front-alone : (front rest xs : List ℕ) → length xs ≤ length front → text_below (front ++ rest) xs ≡ text_below front xs
front-alone [] [] [] few = refl
front-alone [] (b ∷ rest) [] few = refl
front-alone (a ∷ front) rest [] few = refl
front-alone [] rest (x ∷ xs) few = absurd (omega (arith, few))
front-alone (a ∷ front) rest (x ∷ xs) few = λ i. nat_lt a x || (a == x && front-alone front rest xs (omega (arith, few)) i)

-- NULs after the second that it has room for decide nothing
filled-up : (front xs : List ℕ) (n : ℕ) → length xs + n ≤ length front → text_below front (xs ++ replicate n 0) ≡ text_below front xs
filled-up [] [] n few = none-below [] n (omega (arith, few))
filled-up (a ∷ front) [] n few = none-below (a ∷ front) n (omega (arith, few))
filled-up [] (x ∷ xs) n few = absurd (omega (arith, few))
filled-up (a ∷ front) (x ∷ xs) n few = λ i. nat_lt a x || (a == x && filled-up front xs n (omega (arith, few)) i)

-- a byte string and a longer one are never the same
never-same : (xs ys : List ℕ) → length xs < length ys → text_below xs ys ≡ not (text_below ys xs)
never-same [] [] less = absurd (omega (arith, less))
never-same [] (y ∷ ys) less = refl
never-same (x ∷ xs) [] less = absurd (omega (arith, less))
never-same (x ∷ xs) (y ∷ ys) less = elim (cases_lt x y) as (λ _. text_below (x ∷ xs) (y ∷ ys) ≡ not (text_below (y ∷ ys) (x ∷ xs))) [
  | inl before ↦ (λ i. lt-ltb x y before i || (x == y && text_below xs ys)) ∙ λ i. not (sym (not-above x y before) i || (sym (not-equal x y before) i && text_below ys xs))
  | inr from ↦ elim (cases_lt y x) as (λ _. text_below (x ∷ xs) (y ∷ ys) ≡ not (text_below (y ∷ ys) (x ∷ xs))) [
    | inl after ↦ (λ i. not-above y x after i || (not-equal y x after i && text_below xs ys)) ∙ λ i. not (sym (lt-ltb y x after) i || (y == x && text_below ys xs))
    | inr to ↦
        let same : x ≡ y = omega (arith, from, to) in
        (λ i. nat_lt (same i) y || (same i == y && text_below xs ys))
        ∙ (λ i. lt-self y i || (eq-self y i && text_below xs ys))
        ∙ never-same xs ys (omega (arith, less))
        ∙ (λ i. not (sym (lt-self y) i || (sym (eq-self y) i && text_below ys xs)))
        ∙ λ i. not (nat_lt y (sym same i) || (y == sym same i && text_below ys xs))
  ]
]

module _ (item bytes : List ℕ) (len : ℕ) (more : len < length bytes) (few : length item ≤ len) where
  -- the first bytes decide whether a byte string is above longer bytes
  above-front : text_below bytes (without_nuls item) ≡ text_below (without_nuls (take len bytes)) (without_nuls item)
  above-front =
      let x = without_nuls item in
      let front = take len bytes in
      let long : length front ≡ len = omega (arith, more, length-take len bytes) in
      let short : length x ≤ len = omega (arith, few, length-without_nuls item) in
      let n = len - length x in
      sym (λ i. text_below (take-append-drop len bytes i) x)
      ∙ front-alone front (drop len bytes) x (omega (arith, long, short))
      ∙ sym (filled-up front x n (omega (arith, long, short)))
      ∙ (λ i. text_below (sym (without_nuls-back front) i) (x ++ replicate n 0))
      ∙ filled (without_nuls front) x (nuls front) n (without-ends front) (without-ends item) (omega (arith, short, long, suffix_len-le-length (λ b. nat_eq b 0) front, length-take (length front - nuls front) front))

  -- and so they decide whether it is below them, since they are not the same
  below-front : text_below (without_nuls item) bytes ≡ not (text_below (without_nuls (take len bytes)) (without_nuls item))
  below-front = never-same (without_nuls item) bytes (omega (arith, more, few, length-without_nuls item)) ∙ ap not above-front

  -- what a comparison gives
  pub told : (c kind : Comparison) → c ≡ kind → says kind (not (text_below (without_nuls (take len bytes)) (without_nuls item))) (text_below (without_nuls (take len bytes)) (without_nuls item)) ≡ compared c (text (without_nuls item)) (text bytes)
  told c kind is = λ i. says (sym is i) (sym below-front i) (sym above-front i)

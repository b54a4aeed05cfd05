-- Laws of steps along an axis that can be taken back.
use Rattle.std.proofs.Common.{◌≡◌, ℕ, zero, suc, ◌+◌, ◌-◌, ◌*◌, ◌/◌, ◌<◌, ◌≤◌, inl, inr, List, ◌∷◌, length, get_or, take, drop, sym, subst, ap, ◌∙◌, arith, mul_assoc, mul_comm, mul-zero, mul-add, mul-le-mul_left, zero-mul}
use Rattle.overlap_copy.proofs.Words.{IsGcd, ◌∣◌, cases_lt, Axis, times_of, reach_of, max_reach, AreForward, HasSum, IsTurn}
use Rattle.overlap_copy.proofs.SearchLaws.{no_axis, first_rest, with_first, first_of, NoneBelow}

-- some steps along one axis lead as far as some steps along the next
even : (c d g : ℕ) → g ∣ c → g ∣ d → c * (d / g) ≡ d * (c / g)
even c d g of of' =
    let p = c / g in
    let q = d / g in
    ap (λ n. n * q) (times_of g c of) ∙ mul_assoc g p q ∙ ap (λ n. g * n) (mul_comm p q) ∙ sym (mul_assoc g q p) ∙ ap (λ n. n * p) (sym (times_of g d of'))

-- with q steps fewer, the sum is less by r
fewer : (c j q r : ℕ) → q ≤ j → c * q ≡ r → c * (j - q) + r ≡ c * j
fewer c j q r most is =
    let back : j - q + q ≡ j = omega (arith, most) in
    omega (arith, mul-add c (j - q) q, ap (λ n. c * n) back, is)

turned_back : (a b : Axis) (axes : List Axis) (q p low high j : ℕ) → a.step * q ≡ b.step * p → q ≤ j → a.step * j ≤ high → high < a.step * j + b.step * (b.len - p) → HasSum (b ∷ axes) (low - a.step * j) (high - a.step * j) → HasSum (b ∷ axes) (low - a.step * (j - q)) (high - a.step * (j - q))
turned_back a b axes q p low high j same most within left s =
    let first = first_of b axes (low - a.step * j) (high - a.step * j) s in
    let y = first.k in
    let room : y + p < b.len = elim (cases_lt (y + p) b.len) [
      | inl less ↦ less
      | inr full ↦ absurd (omega (arith, first.within, within, left, mul-le-mul_left b.step (spare b.len y p full)))
    ] in
    let less = fewer a.step j q (b.step * p) most same in
    let more = mul-add b.step y p in
    with_first b axes (low - a.step * (j - q)) (high - a.step * (j - q)) (y + p) (low - a.step * j - b.step * y) room (omega (arith, first.within, within, less, more)) (omega (arith, less, more)) (subst (HasSum axes (low - a.step * j - b.step * y)) (high-same a.step b.step j q y p high less more) first.others)
  where
    spare : (n y p : ℕ) → n ≤ y + p → n - p ≤ y
    spare n y p full = omega (arith, full)

    high-same : (c d j q y p high : ℕ) → c * (j - q) + d * p ≡ c * j → d * (y + p) ≡ d * y + d * p → high - c * j - d * y ≡ high - c * (j - q) - d * (y + p)
    high-same c d j q y p high less more = omega (arith, less, more)

pub divisor_some : (g n : ℕ) → 0 < n → g ∣ n → 0 < g
divisor_some zero n some divides = absurd (omega (arith, some, times_of 0 n divides, zero-mul (n / 0)))
divisor_some (suc g) n some divides = omega arith

quotient_some : (g n : ℕ) → 0 < n → g ∣ n → 0 < n / g
quotient_some g n some divides = elim (cases_lt 0 (n / g)) [
  | inl above ↦ above
  | inr none ↦
      let zero-is : n / g ≡ 0 = omega (arith, none) in
      absurd (omega (arith, some, times_of g n divides, ap (λ m. g * m) zero-is, mul-zero g))
]

-- steps can be taken back with the first of the other axes
pub turn_next : (a : Axis) (others : List Axis) (g far : ℕ) → 1 ≤ length others → 0 < (get_or others 0 no_axis).step → IsGcd a.step (get_or others 0 no_axis).step g → far ≡ (get_or others 0 no_axis).step * ((get_or others 0 no_axis).len - a.step / g) → IsTurn a others ((get_or others 0 no_axis).step / g) far
turn_next a others g far long some gcd is =
    let b = get_or others 0 no_axis in
    subst (λ l. IsTurn a l (b.step / g) far) (sym (first_rest others long)) (record {
      some = quotient_some g b.step some gcd.1;
      back = λ low high j most within left s.
          turned_back a b (take (length others - 1) (drop 1 others)) (b.step / g) (a.step / g) low high j (even a.step b.step g gcd.0 gcd.1) most within (omega (arith, left, is)) s;
    })

-- `far` is within the limit
pub turn-near : (a : Axis) (others : List Axis) (g far : ℕ) → 0 < a.step → 1 ≤ length others → AreForward others → g ∣ a.step → far ≡ (get_or others 0 no_axis).len - a.step / g → (get_or others 0 no_axis).step * far ≤ max_reach
turn-near a others g far some long are divides is =
    let b = get_or others 0 no_axis in
    let most : far ≤ b.len - 1 = omega (arith, is, quotient_some g a.step some divides) in
    omega (arith, mul-le-mul_left b.step most, are.near, ap reach_of (first_rest others long))

-- Steps are taken back until the number of steps left is one for which no sum was found.
pub none_turned : (a : Axis) (axes : List Axis) (low high steps far k : ℕ) → IsTurn a axes steps far → NoneBelow a axes low high k → steps ≤ k → high < a.step * k + far → HasSum (a ∷ axes) low high → ⊥
none_turned a axes low high steps far k turn before from left s =
    let first = first_of a axes low high s in
    down first.k first.k (omega arith) first.within first.others
  where
    down : (n j : ℕ) → j ≤ n → a.step * j ≤ high → HasSum axes (low - a.step * j) (high - a.step * j) → ⊥
    down zero j most within at = before.none j (omega (arith, most, turn.some, from)) within at
    down (suc n) j most within at = elim (cases_lt j k) [
      | inl less ↦ before.none j less within at
      | inr more ↦
          let some = turn.some in
          let far-on = mul-le-mul_left a.step more in
          let nearer : a.step * (j - steps) ≤ a.step * j = mul-le-mul_left a.step (short j steps) in
          down n (j - steps) (omega (arith, most, some)) (omega (arith, nearer, within)) (turn.back low high j (omega (arith, from, more)) within (omega (arith, left, far-on)) at)
    ]
      where
        short : (j steps : ℕ) → j - steps ≤ j
        short j steps = omega arith

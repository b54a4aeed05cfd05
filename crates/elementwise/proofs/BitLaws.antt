-- Numbers, given by their lowest 64 bits.
use Rattle.std.proofs.Common.{◌≡◌, ℕ, zero, suc, ◌+◌, ◌-◌, ◌*◌, ◌/◌, ◌%◌, ◌^◌, ◌<◌, ◌≤◌, max, inl, inr, cond, nat_lt, Bool, true, false, refl, sym, ap, ◌∙◌, arith, ℤ, pos, negsuc, neg_ℤ, ◌+ℤ◌, ◌-ℤ◌, ◌*ℤ◌, w64, mul-le-mul_right}
use Rattle.elementwise.proofs.Words.{cast_signed, cast_unsigned, int_wrap, cases_lt, nat_tests, wrapping_add-bits, wrapping_sub-bits, wrapping_mul-bits, int_wrap-add_left, int_wrap-add_right, int_wrap-sub_right, int_wrap-mul_left, int_wrap-mul_right, of_z-to_z, pow_below, div-add-mod, div-le_self, mod-lt, mod-eq_of_lt, mul-le-mul_left, div-div-eq-div-mul, integer, low_bits, low_bits-lt, low_bits-integer, int_wrap-low_bits, floor_quotient, modulo, sign_bits, shifted_left, shifted_right}

-- The lowest bits of a sum, a difference or a product depend only on the lowest bits of the operands.
module _ (f : ℕ → ℕ → ℕ) (op : ℤ → ℤ → ℤ) (first : (a b : ℤ) → int_wrap w64 (op (int_wrap w64 a) b) ≡ int_wrap w64 (op a b)) (second : (a b : ℤ) → int_wrap w64 (op a (int_wrap w64 b)) ≡ int_wrap w64 (op a b)) (word : (m n : ℕ) → m < 2 ^ 64 → n < 2 ^ 64 → cast_signed w64 (f m n) ≡ int_wrap w64 (op (cast_signed w64 m) (cast_signed w64 n))) (below : (m n : ℕ) → f m n < 2 ^ 64) where
  low_bits-op : (u v : ℤ) → low_bits 8 (op u v) ≡ f (low_bits 8 u) (low_bits 8 v)
  low_bits-op u v =
      let x = low_bits 8 u in
      let y = low_bits 8 v in
      let same : cast_signed w64 (low_bits 8 (op u v)) ≡ cast_signed w64 (f x y) =
      sym (int_wrap-low_bits (op u v))
      ∙ sym (first u v)
      ∙ sym (second (int_wrap w64 u) v)
      ∙ (λ i. int_wrap w64 (op (int_wrap-low_bits u i) (int_wrap-low_bits v i)))
      ∙ sym (word x y (low_bits-lt 8 u) (low_bits-lt 8 v)) in
      sym (of_z-to_z w64 (low_bits 8 (op u v)) (low_bits-lt 8 (op u v)))
      ∙ ap (cast_unsigned w64) same
      ∙ of_z-to_z w64 (f x y) (below x y)

  words_low : (signed other : Bool) (x y : ℕ) → x < 2 ^ 64 → y < 2 ^ 64 → f x y ≡ low_bits 8 (op (integer signed 8 x) (integer other 8 y))
  words_low signed other x y fits fits' =
      (λ i. f (sym (low_bits-integer signed 8 x fits) i) (sym (low_bits-integer other 8 y fits') i))
      ∙ sym (low_bits-op (integer signed 8 x) (integer other 8 y))

pub sum_low : (signed other : Bool) (x y : ℕ) → x < 2 ^ 64 → y < 2 ^ 64 → (x + y) % 2 ^ 64 ≡ low_bits 8 (integer signed 8 x +ℤ integer other 8 y)
sum_low = words_low (λ x y. (x + y) % 2 ^ 64) (λ a b. a +ℤ b) (int_wrap-add_left w64) (int_wrap-add_right w64) (wrapping_add-bits w64) (λ m n. mod-lt (m + n) (omega arith))

pub difference_low : (signed other : Bool) (x y : ℕ) → x < 2 ^ 64 → y < 2 ^ 64 → (x + (2 ^ 64 - y)) % 2 ^ 64 ≡ low_bits 8 (integer signed 8 x -ℤ integer other 8 y)
difference_low = words_low (λ x y. (x + (2 ^ 64 - y)) % 2 ^ 64) (λ a b. a -ℤ b) (λ a b. int_wrap-add_left w64 a (neg_ℤ b)) (int_wrap-sub_right w64) (wrapping_sub-bits w64) (λ m n. mod-lt (m + (2 ^ 64 - n)) (omega arith))

pub low_bits-mul : (u v : ℤ) → low_bits 8 (u *ℤ v) ≡ (low_bits 8 u * low_bits 8 v) % 2 ^ 64
low_bits-mul = low_bits-op (λ x y. (x * y) % 2 ^ 64) (λ a b. a *ℤ b) (int_wrap-mul_left w64) (int_wrap-mul_right w64) (wrapping_mul-bits w64) (λ m n. mod-lt (m * n) (omega arith))

pub product_low : (signed other : Bool) (x y : ℕ) → x < 2 ^ 64 → y < 2 ^ 64 → (x * y) % 2 ^ 64 ≡ low_bits 8 (integer signed 8 x *ℤ integer other 8 y)
product_low = words_low (λ x y. (x * y) % 2 ^ 64) (λ a b. a *ℤ b) (int_wrap-mul_left w64) (int_wrap-mul_right w64) (wrapping_mul-bits w64) (λ m n. mod-lt (m * n) (omega arith))

-- ---- signs

low_bits-small : (x : ℕ) → x < 2 ^ 64 → low_bits 8 (pos x) ≡ x
low_bits-small x below = mod-eq_of_lt below

is_small : (x : ℕ) → x < 2 ^ 63 → integer true 8 x ≡ pos x
is_small x small = let test : nat_lt x (2 ^ 63) ≡ true = grind (arith, nat_tests) in ap (λ t. cond t (pos x) (pos x -ℤ pos (2 ^ 64))) test

-- ---- remainders

low_bits-sub : (u v : ℤ) → low_bits 8 (u -ℤ v) ≡ (low_bits 8 u + (2 ^ 64 - low_bits 8 v)) % 2 ^ 64
low_bits-sub = low_bits-op (λ x y. (x + (2 ^ 64 - y)) % 2 ^ 64) (λ a b. a -ℤ b) (λ a b. int_wrap-add_left w64 a (neg_ℤ b)) (int_wrap-sub_right w64) (wrapping_sub-bits w64) (λ m n. mod-lt (m + (2 ^ 64 - n)) (omega arith))

modulo-some : (a b : ℤ) → (b ≡ pos 0 → ⊥) → modulo a b ≡ a -ℤ b *ℤ floor_quotient a b
modulo-some a (pos zero) some = absurd (some refl)
modulo-some a (pos (suc b)) some = refl
modulo-some a (negsuc b) some = refl

pub rest_low : (signed : Bool) (x y q : ℕ) → x < 2 ^ 64 → y < 2 ^ 64 → (y ≡ 0 → ⊥) → q ≡ low_bits 8 (floor_quotient (integer signed 8 x) (integer signed 8 y)) → (x + (2 ^ 64 - (y * q) % 2 ^ 64)) % 2 ^ 64 ≡ low_bits 8 (modulo (integer signed 8 x) (integer signed 8 y))
rest_low signed x y q fits fits' some is =
    let a = integer signed 8 x in
    let b = integer signed 8 y in
    (λ i. (sym (low_bits-integer signed 8 x fits) i + (2 ^ 64 - (sym (low_bits-integer signed 8 y fits') i * is i) % 2 ^ 64)) % 2 ^ 64)
    ∙ (λ i. (low_bits 8 a + (2 ^ 64 - sym (low_bits-mul b (floor_quotient a b)) i)) % 2 ^ 64)
    ∙ sym (low_bits-sub a (b *ℤ floor_quotient a b))
    ∙ ap (low_bits 8) (sym (modulo-some a b (λ none. some (sym (low_bits-integer signed 8 y fits') ∙ ap (low_bits 8) none))))

-- ---- quotients by a multiplication

quotient-is : (n d q : ℕ) → q * d ≤ n → n < q * d + d → q ≡ n / d
quotient-is n d q low high =
    let parts = div-add-mod n d in
    let some : 1 ≤ d = omega (arith, low, high) in
    let left : n % d < d = mod-lt n some in
    elim (cases_lt q (n / d)) as (λ _. q ≡ n / d) [
      | inl under ↦ let most : (q + 1) * d ≤ n / d * d = mul-le-mul_right d (omega (arith, under)) in absurd (omega (arith, most, parts, high))
      | inr from ↦ elim (cases_lt (n / d) q) as (λ _. q ≡ n / d) [
        | inl over ↦ let most : (n / d + 1) * d ≤ q * d = mul-le-mul_right d (omega (arith, over)) in absurd (omega (arith, most, parts, low, left))
        | inr to ↦ omega (arith, from, to)
      ]
    ]

-- A number times a reciprocal that is rounded down, without the lowest bits, is the quotient or one less.
module _ (v n d m low near : ℕ) (few : n ≤ v) (some : 1 ≤ d) (is : m ≡ v / d) (fits : low ≤ v) (split : low + near * (v + 1) ≡ n * m) where
  whole : d * m + v % d ≡ v
  whole = (λ i. d * is i + v % d) ∙ div-add-mod v d

  all : n * (d * m + v % d) ≡ n * v
  all = ap (λ z. n * z) whole

  pub near-low : near * d ≤ n
  near-low = elim (cases_lt n (near * d)) as (λ _. near * d ≤ n) [
    | inl over ↦
        let times : (n + 1) * (v + 1) ≤ near * d * (v + 1) = mul-le-mul_right (v + 1) (omega (arith, over)) in
        let parts : d * (low + near * (v + 1)) ≡ d * (n * m) = ap (λ z. d * z) split in
        absurd (omega (arith, times, parts, all))
    | inr under ↦ under
  ]

  near-high : n < near * d + 2 * d
  near-high = elim (cases_lt n (near * d + 2 * d)) as (λ _. n < near * d + 2 * d) [
    | inl under ↦ under
    | inr over ↦
        let times : (near * d + 2 * d) * (v + 1) ≤ n * (v + 1) = mul-le-mul_right (v + 1) over in
        let parts : d * (low + near * (v + 1)) ≡ d * (n * m) = ap (λ z. d * z) split in
        let less : v % d < d = mod-lt v some in
        let rest : n * (v % d + 1) ≤ n * d = mul-le-mul_left n (omega (arith, less)) in
        let most : n * d ≤ v * d = mul-le-mul_right d few in
        let lows : d * low ≤ d * v = mul-le-mul_left d fits in
        absurd (omega (arith, times, parts, all, rest, most, lows, some))
  ]

  -- the remainder tells which of the two it is
  pub near-is : n < near * d + d → near ≡ n / d
  near-is under = quotient-is n d near near-low under

  pub next-is : near * d + d ≤ n → near + 1 ≡ n / d
  next-is over = quotient-is n d (near + 1) (omega (arith, over)) (omega (arith, near-high))

-- A byte times a reciprocal of 16 bits that is rounded up, without the lowest 16 bits, is the quotient.
module _ (n d r : ℕ) (few : n < 256) (some : 1 ≤ d) (small : d < 256) (is : r ≡ 65535 / d + 1) where
  pub byte-quotient : n * r / 65536 ≡ n / d
  byte-quotient =
      let left : 65535 % d < d = mod-lt 65535 some in
      let rest : n % d < d = mod-lt n some in
      let parts : d * (n / d) + n % d ≡ n = div-add-mod n d in
      let scaled : n * (d * r) + n * (65535 % d) ≡ n * 65535 + n * d = omega (arith, ap (λ z. n * (d * z)) is, ap (λ z. n * z) (div-add-mod 65535 d)) in
      let under : n * (65535 % d + 1) ≤ n * d = mul-le-mul_left n (omega (arith, left)) in
      let most : n * d ≤ n * 255 = mul-le-mul_left n (omega (arith, small)) in
      sym (quotient-is (n * r) 65536 (n / d)
      (elim (cases_lt (n * r) (n / d * 65536)) as (λ _. n / d * 65536 ≤ n * r) [
        | inl low ↦ let times : (n * r + 1) * d ≤ n / d * 65536 * d = mul-le-mul_right d (omega (arith, low)) in absurd (omega (arith, times, scaled, under, parts, some))
        | inr high ↦ high
      ])
      (elim (cases_lt (n * r) (n / d * 65536 + 65536)) as (λ _. n * r < n / d * 65536 + 65536) [
        | inl low ↦ low
        | inr high ↦ let times : (n / d * 65536 + 65536) * d ≤ n * r * d = mul-le-mul_right d high in absurd (omega (arith, times, scaled, most, parts, rest, few))
      ]))

pub byte_low : (a b q : ℕ) → a < 256 → (b ≡ 0 → q ≡ 0) → (1 ≤ b → q ≡ a / b) → q ≡ low_bits 8 (floor_quotient (integer false 8 a) (integer false 8 b))
byte_low a zero q few none some = none refl
byte_low a (suc b) q few none some =
    let most : a / suc b ≤ a = div-le_self a (suc b) in
    some (omega arith) ∙ sym (low_bits-small (a / suc b) (omega (arith, most, few)))

-- the highest bits of a reciprocal are the reciprocal in fewer bits
pub reciprocal-high : (v k w d : ℕ) → v / k ≡ w → v / d / k ≡ w / d
reciprocal-high v k w d is = div-div-eq-div-mul v d k ∙ ap (λ n. v / n) (omega arith) ∙ sym (div-div-eq-div-mul v k d) ∙ ap (λ n. n / d) is

-- ---- shifts

-- a shift by less than the number of bits
pub kept : (by width m : ℕ) → by < width → m ≡ max width 1 → by % m ≡ by
kept by width m near is = mod-eq_of_lt (omega (arith, near, is))

amount : (signed : Bool) (by width : ℕ) → by < width → width ≤ 64 → integer signed 8 by ≡ pos by
amount false by width near few = refl
amount true by width near few = is_small by (omega (arith, near, few))

pub shift_right_is : (signed : Bool) (width by m : ℕ) (z : ℤ) → by < width → width ≤ 64 → m ≡ max width 1 → floor_quotient z (pos (2 ^ (by % m))) ≡ shifted_right width z (integer signed 8 by)
shift_right_is signed width by m z near few is =
    let test : nat_lt by width ≡ true = grind (arith, nat_tests) in
    ap (λ n. floor_quotient z (pos (2 ^ n))) (kept by width m near is) ∙ ap (λ t. cond t (floor_quotient z (pos (2 ^ by))) (sign_bits z)) (sym test) ∙ ap (shifted_right width z) (sym (amount signed by width near few))

pub shift_left_low : (signed : Bool) (width x by : ℕ) → by < width → width ≤ 64 → x < 2 ^ 64 → (x * 2 ^ by) % 2 ^ 64 ≡ low_bits 8 (shifted_left width (integer signed 8 x) (integer signed 8 by))
shift_left_low signed width x by near few below =
    let power : 2 ^ by < 2 ^ 64 = pow_below by 64 (omega (arith, near, few)) in
    let test : nat_lt by width ≡ true = grind (arith, nat_tests) in
    (λ i. (sym (low_bits-integer signed 8 x below) i * sym (low_bits-small (2 ^ by) power) i) % 2 ^ 64)
    ∙ sym (low_bits-mul (integer signed 8 x) (pos (2 ^ by)))
    ∙ ap (λ t. low_bits 8 (cond t (integer signed 8 x *ℤ pos (2 ^ by)) (pos 0))) (sym test)
    ∙ ap (λ b. low_bits 8 (shifted_left width (integer signed 8 x) b)) (sym (amount signed by width near few))

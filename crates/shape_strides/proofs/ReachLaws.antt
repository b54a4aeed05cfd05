-- Laws of the reach of a layout's addresses.
use Rattle.std.proofs.Common.{◌≡◌, ℕ, zero, suc, ◌+◌, ◌-◌, ◌*◌, ◌<◌, ◌≤◌, IsTrue, nat_le, ℤ, pos, negsuc, ◌+ℤ◌, ◌*ℤ◌, neg_ℤ, ◌≤ℤ◌, List, [], ◌∷◌, length, refl, ap, arith, zero-mul, mul-le-mul_left}
use Rattle.shape_strides.proofs.Words.{ints, nat_tests, *ℤ-zero, negsuc-*ℤ-pos, count, IsIndex, dot, natural, LieWithin, reach_above, reach_below, rank-lt, factors_pos}

-- the part of one axis in an address, for a number below its length
axis_high : (s : ℤ) (k n : ℕ) → k < n → (s *ℤ pos k) ≤ℤ pos (natural s * (n - 1))
axis_high (pos a) k n below = let step : a * k ≤ a * (n - 1) = mul-le-mul_left a (omega arith) in omega (arith, ints)
axis_high (negsuc a) k n below = let is = negsuc-*ℤ-pos a k in omega (arith, ints, zero-mul (n - 1))

axis_low : (s : ℤ) (k n : ℕ) → k < n → pos 0 ≤ℤ (pos (natural (neg_ℤ s) * (n - 1)) +ℤ s *ℤ pos k)
axis_low (pos zero) k n below = omega (arith, ints, zero-mul (n - 1), zero-mul k)
axis_low (pos (suc a)) k n below = omega (arith, ints, zero-mul (n - 1))
axis_low (negsuc a) k n below =
    let step : suc a * k ≤ suc a * (n - 1) = mul-le-mul_left (suc a) (omega arith) in
    let is = negsuc-*ℤ-pos a k in
    omega (arith, ints)

-- No index reaches further.
pub dot_high : (strides : List ℤ) (shape index : List ℕ) → IsIndex shape index → dot strides index ≤ℤ pos (reach_above strides shape)
dot_high (s ∷ strides) (n ∷ shape) (k ∷ index) in' =
    let first = axis_high s k n in'.0 in
    let later = dot_high strides shape index in'.1 in
    omega (arith, ints)
dot_high (s ∷ strides) [] [] in' = omega (arith, ints)
dot_high _ _ _ in' = omega (arith, ints)

pub dot_low : (strides : List ℤ) (shape index : List ℕ) → IsIndex shape index → pos 0 ≤ℤ (pos (reach_below strides shape) +ℤ dot strides index)
dot_low (s ∷ strides) (n ∷ shape) (k ∷ index) in' =
    let first = axis_low s k n in'.0 in
    let later = dot_low strides shape index in'.1 in
    omega (arith, ints)
dot_low (s ∷ strides) [] [] in' = omega (arith, ints)
dot_low _ _ _ in' = omega (arith, ints)

-- There is an index that reaches this far up.
pub top_of : (strides : List ℤ) (shape : List ℕ) → length strides ≡ length shape → 0 < count shape → (index : List ℕ) × IsIndex shape index × (dot strides index ≡ pos (reach_above strides shape))
top_of [] [] same some = ([], tt, refl)
top_of (pos a ∷ strides) (n ∷ shape) same some =
    let both = factors_pos n (count shape) some in
    let rest = top_of strides shape (omega arith) both.1 in
    ((n - 1) ∷ rest.0, (omega arith, rest.1), ap (λ z. pos (a * (n - 1)) +ℤ z) rest.2)
top_of (negsuc a ∷ strides) (n ∷ shape) same some =
    let both = factors_pos n (count shape) some in
    let rest = top_of strides shape (omega arith) both.1 in
    let none = *ℤ-zero (negsuc a) in
    let is = rest.2 in
    (0 ∷ rest.0, (both.0, rest.1), omega (arith, ints, zero-mul (n - 1)))
top_of _ _ same some = absurd (omega arith)

-- There is an index that reaches this far down.
pub bottom_of : (strides : List ℤ) (shape : List ℕ) → length strides ≡ length shape → 0 < count shape → (index : List ℕ) × IsIndex shape index × (pos (reach_below strides shape) +ℤ dot strides index ≡ pos 0)
bottom_of [] [] same some = ([], tt, refl)
bottom_of (pos zero ∷ strides) (n ∷ shape) same some =
    let both = factors_pos n (count shape) some in
    let rest = bottom_of strides shape (omega arith) both.1 in
    let is = rest.2 in
    (0 ∷ rest.0, (both.0, rest.1), omega (arith, ints, zero-mul (n - 1)))
bottom_of (pos (suc a) ∷ strides) (n ∷ shape) same some =
    let both = factors_pos n (count shape) some in
    let rest = bottom_of strides shape (omega arith) both.1 in
    let none = *ℤ-zero (pos (suc a)) in
    let is = rest.2 in
    (0 ∷ rest.0, (both.0, rest.1), omega (arith, ints, zero-mul (n - 1)))
bottom_of (negsuc a ∷ strides) (n ∷ shape) same some =
    let both = factors_pos n (count shape) some in
    let rest = bottom_of strides shape (omega arith) both.1 in
    let first = negsuc-*ℤ-pos a (n - 1) in
    let is = rest.2 in
    ((n - 1) ∷ rest.0, (omega arith, rest.1), omega (arith, ints))
bottom_of _ _ same some = absurd (omega arith)

pub LieWithin-from_reach : (shape : List ℕ) (strides : List ℤ) (offset len item : ℕ) → reach_below strides shape ≤ offset → offset + reach_above strides shape + item ≤ len → LieWithin shape strides offset len item
LieWithin-from_reach shape strides offset len item low high = record {
  from_zero = λ index in'.
      let is = dot_low strides shape index in' in
      omega (arith, ints);
  within = λ index in'.
      let is = dot_high strides shape index in' in
      omega (arith, ints);
}

pub reach_from_LieWithin : (shape : List ℕ) (strides : List ℤ) (offset len item : ℕ) → length strides ≡ length shape → 0 < count shape → LieWithin shape strides offset len item → (reach_below strides shape ≤ offset) × (offset + reach_above strides shape + item ≤ len)
reach_from_LieWithin shape strides offset len item same some lie =
    let top = top_of strides shape same some in
    let top_is = top.2 in
    let high = lie.within top.0 top.1 in
    let bottom = bottom_of strides shape same some in
    let bottom_is = bottom.2 in
    let low = lie.from_zero bottom.0 bottom.1 in
    (omega (arith, ints), omega (arith, ints))

-- Without items, everything lies within.
pub LieWithin-empty : (shape : List ℕ) (strides : List ℤ) (offset len item : ℕ) → count shape ≡ 0 → LieWithin shape strides offset len item
LieWithin-empty shape strides offset len item none = record {
  from_zero = λ index in'. absurd (omega (arith, rank-lt shape index in'));
  within = λ index in'. absurd (omega (arith, rank-lt shape index in'));
}

-- ---- the tests

pub le_from_test : (m n : ℕ) → IsTrue (nat_le m n) → m ≤ n
le_from_test m n test = grind (arith, nat_tests)

pub test_from_le : (m n : ℕ) → m ≤ n → IsTrue (nat_le m n)
test_from_le m n low = grind (arith, nat_tests)

-- Laws of addresses and offsets.
use Rattle.std.proofs.Common.{◌≡◌, ℕ, ◌+◌, ◌*◌, ◌<◌, ◌≤◌, ℤ, pos, ◌+ℤ◌, ◌≤ℤ◌, List, [], ◌∷◌, length, get_or, sym, ◌∙◌, ap, arith, mul-zero, mul_comm}
use Rattle.shape_strides.proofs.Words.{ints, same_lists, length-map-range_with_len, get_or-map-range_with_len, +ℤ_idl, Layout, count, rank, IsIndex, dot, address_at, natural, LieWithin, offsets, IsNested, multiples, c_strides, mul-step, length-offsets, get_or-offsets, rank-lt, index_at}

-- ---- layouts that fit

pub LieWithin-weaker : (shape : List ℕ) (strides : List ℤ) (offset len len' item item' : ℕ) → len ≤ len' → item' ≤ item → LieWithin shape strides offset len item → LieWithin shape strides offset len' item'
LieWithin-weaker shape strides offset len len' item item' more less lie = record {
  from_zero = lie.from_zero;
  within = λ index in'.
      let high : (address_at strides offset index +ℤ pos item) ≤ℤ pos len = lie.within index in' in
      omega (arith, ints);
}

-- ---- C order

pub dot-c_strides : (item : ℕ) (shape index : List ℕ) → IsIndex shape index → dot (c_strides item shape) index ≡ pos (item * rank shape index)
dot-c_strides item [] [] in' = ap pos (sym (mul-zero item))
dot-c_strides item (n ∷ shape) (k ∷ index) in' =
    let later = dot-c_strides item shape index in'.1 in
    let total : count shape * item * k + item * rank shape index ≡ item * (k * count shape + rank shape index) = grind arith in
    ap (λ z. pos (count shape * item * k) +ℤ z) later ∙ ap pos total
dot-c_strides item _ _ in' = absurd in'

-- Each address is the rank times the size of an item.
pub record StandsInCOrder (shape : List ℕ) (strides : List ℤ) (offset item : ℕ) : Type 0 where
  pub addresses : (index : List ℕ) → IsIndex shape index → address_at strides offset index ≡ pos (item * rank shape index)

pub length-multiples : (item n : ℕ) → length (multiples item n) ≡ n
length-multiples item n = length-map-range_with_len (λ k. item * k) 0 n

pub get_or-multiples : (item n k d : ℕ) → k < n → get_or (multiples item n) k d ≡ item * k
get_or-multiples item n k d below =
    let from_zero : 0 + k ≡ k = omega arith in
    get_or-map-range_with_len (λ i. item * i) 0 n k k d below from_zero

pub offsets-c_order : (l : Layout) (item : ℕ) → StandsInCOrder l.shape l.strides l.offset item → offsets l ≡ multiples item (count l.shape)
offsets-c_order l item stands =
    same_lists (offsets l) (multiples item (count l.shape)) (length-offsets l ∙ sym (length-multiples item (count l.shape))) (λ k d below.
    let low : k < count l.shape = omega (arith, length-offsets l) in
    let found = index_at l.shape k low in
    let from_zero : 0 + k ≡ k = omega arith in
    ap (λ r. get_or (offsets l) r d) (sym found.2) ∙ get_or-offsets l found.0 d found.1 ∙ ap natural (stands.addresses found.0 found.1) ∙ ap (λ r. item * r) found.2 ∙ sym (get_or-multiples item (count l.shape) k d low))

pub LieWithin-c_order : (shape : List ℕ) (strides : List ℤ) (offset item : ℕ) → StandsInCOrder shape strides offset item → LieWithin shape strides offset (count shape * item) item
LieWithin-c_order shape strides offset item stands = record {
  from_zero = λ index in'.
      let here = stands.addresses index in' in
      omega (arith, ints);
  within = λ index in'.
      let here = stands.addresses index in' in
      let step = mul-step item (rank shape index) (count shape) (rank-lt shape index in') in
      let turned : count shape * item ≡ item * count shape = mul_comm (count shape) item in
      omega (arith, ints);
}

pub IsNested-multiples : (item n : ℕ) → IsNested (multiples item n) item
IsNested-multiples item n = record {
  apart = λ j k before inside.
      let size = length-multiples item n in
      let first = get_or-multiples item n j 0 (omega arith) in
      let second = get_or-multiples item n k 0 (omega arith) in
      omega (arith, mul-step item j k before);
}

-- the address at an index with offset 0, for strides that follow an order if there are items
pub address-made : (made : List ℕ) (strides : List ℤ) (shape : List ℕ) (order : List ℕ → List ℤ) → made ≡ shape → (0 < count shape → strides ≡ order shape) → (index : List ℕ) → IsIndex made index → address_at strides 0 index ≡ dot (order made) index
address-made made strides shape order same some index in' =
    let above : 0 < count shape = omega (arith, ap count same, rank-lt made index in') in
    +ℤ_idl (dot strides index) ∙ ap (λ s. dot s index) (some above ∙ ap order (sym same))

-- A layout made in C order is in C order.
pub c_order_stands : (made : List ℕ) (strides : List ℤ) (shape : List ℕ) (item : ℕ) → made ≡ shape → (0 < count shape → strides ≡ c_strides item shape) → StandsInCOrder made strides 0 item
c_order_stands made strides shape item same some = record { addresses = λ index in'. address-made made strides shape (c_strides item) same some index in' ∙ dot-c_strides item made index in' }

pub c_order_offsets : (l : Layout) (shape : List ℕ) (item : ℕ) → l.shape ≡ shape → StandsInCOrder l.shape l.strides l.offset item → offsets l ≡ multiples item (count shape)
c_order_offsets l shape item same stands = offsets-c_order l item stands ∙ ap (λ s. multiples item (count s)) same

pub c_order_nested : (l : Layout) (item : ℕ) → StandsInCOrder l.shape l.strides l.offset item → IsNested (offsets l) item
c_order_nested l item stands = rw (offsets-c_order l item stands) (IsNested-multiples item (count l.shape))

pub c_order_lies : (made : List ℕ) (strides : List ℤ) (shape : List ℕ) (item : ℕ) → made ≡ shape → StandsInCOrder made strides 0 item → LieWithin made strides 0 (count shape * item) item
c_order_lies made strides shape item same stands =
    LieWithin-weaker made strides 0 (count made * item) (count shape * item) item item (omega (arith, ap (λ s. count s * item) same)) (omega arith) (LieWithin-c_order made strides 0 item stands)

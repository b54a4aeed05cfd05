-- Bytes that are all 0, as items.
use Rattle.std.proofs.Common.{◌≡◌, ◌-◌, ℕ, zero, suc, pos, true, false, List, [], ◌∷◌, length, map, take, drop, replicate, get_or, refl, ap, nat_eq, arith}
use Rattle.bench_engine.proofs.Words.{suffix_len, suffix_len_is, little_from, big_from, Scalar, Byte, Int, Two, Four, Eight, Order, Little, Big, Leaf, Descr, size, decode, number_in, integer, truth, without_nuls, item_size, leaves_of, decode_item, blocks, items_in, number, text, BoolScalar, zero_of, zero_item}
use Rattle.elem_descr.specs.declared.scalar.Scalar.TheVariants.{Bytes}

-- every byte is 0
abbrev pub AreZeros : List ℕ → Type 0
AreZeros [] = Unit {0}
AreZeros (b ∷ bytes) = (b ≡ 0) × AreZeros bytes

zeros-replicate : (n : ℕ) → AreZeros (replicate n 0)
zeros-replicate zero = tt
zeros-replicate (suc n) = (refl, zeros-replicate n)

zeros-take : (n : ℕ) (bytes : List ℕ) → AreZeros bytes → AreZeros (take n bytes)
zeros-take zero bytes h = tt
zeros-take (suc n) [] h = tt
zeros-take (suc n) (b ∷ bytes) h = (h.0, zeros-take n bytes h.1)

zeros-drop : (n : ℕ) (bytes : List ℕ) → AreZeros bytes → AreZeros (drop n bytes)
zeros-drop zero bytes h = h
zeros-drop (suc n) [] h = tt
zeros-drop (suc n) (b ∷ bytes) h = zeros-drop n bytes h.1

zero-at : (bytes : List ℕ) (k : ℕ) → AreZeros bytes → get_or bytes k 0 ≡ 0
zero-at [] k h = refl
zero-at (b ∷ bytes) zero h = h.0
zero-at (b ∷ bytes) (suc k) h = zero-at bytes k h.1

little-zeros : (n i : ℕ) (bytes : List ℕ) → AreZeros bytes → little_from i n bytes ≡ 0
little-zeros zero i bytes h = refl
little-zeros (suc n) i bytes h = rw (zero-at bytes i h, little-zeros n (suc i) bytes h) refl

big-zeros : (n i : ℕ) (bytes : List ℕ) → AreZeros bytes → big_from i n bytes ≡ 0
big-zeros zero i bytes h = refl
big-zeros (suc n) i bytes h = rw (zero-at bytes i h, big-zeros n (suc i) bytes h) (omega arith)

number-zeros : (order : Order) (n : ℕ) (bytes : List ℕ) → AreZeros bytes → number_in order n bytes ≡ 0
number-zeros Little n bytes h = little-zeros n 0 bytes h
number-zeros Big n bytes h = big-zeros n 0 bytes h

nuls : (bytes : List ℕ) → AreZeros bytes → suffix_len (λ b. nat_eq b 0) bytes ≡ length bytes - 0
nuls bytes h = suffix_len_is (λ b. nat_eq b 0) bytes 0 0 (omega arith) (λ k _ _. rw (zero-at bytes k h) refl) (λ none. absurd (omega arith))

without_nuls-zeros : (bytes : List ℕ) → AreZeros bytes → without_nuls bytes ≡ []
without_nuls-zeros bytes h = let none : length bytes - suffix_len (λ b. nat_eq b 0) bytes ≡ 0 = omega (arith, nuls bytes h) in ap (λ n. take n bytes) none

decode-zeros : (scalar : Scalar) (bytes : List ℕ) → AreZeros bytes → decode scalar bytes ≡ zero_of scalar
decode-zeros BoolScalar bytes h = ap (λ n. number (pos (truth n))) (little-zeros 1 0 bytes h)
decode-zeros (Byte true) bytes h = ap (λ n. number (integer true 1 n)) (little-zeros 1 0 bytes h)
decode-zeros (Byte false) bytes h = ap (λ n. number (integer false 1 n)) (little-zeros 1 0 bytes h)
decode-zeros (Int true Two order) bytes h = ap (λ n. number (integer true 2 n)) (number-zeros order 2 bytes h)
decode-zeros (Int true Four order) bytes h = ap (λ n. number (integer true 4 n)) (number-zeros order 4 bytes h)
decode-zeros (Int true Eight order) bytes h = ap (λ n. number (integer true 8 n)) (number-zeros order 8 bytes h)
decode-zeros (Int false Two order) bytes h = ap (λ n. number (integer false 2 n)) (number-zeros order 2 bytes h)
decode-zeros (Int false Four order) bytes h = ap (λ n. number (integer false 4 n)) (number-zeros order 4 bytes h)
decode-zeros (Int false Eight order) bytes h = ap (λ n. number (integer false 8 n)) (number-zeros order 8 bytes h)
decode-zeros (Bytes n) bytes h = ap text (without_nuls-zeros bytes h)

decode_item-zeros : (descr : Descr) (bytes : List ℕ) → AreZeros bytes → decode_item descr bytes ≡ zero_item descr
decode_item-zeros descr bytes h = each (leaves_of descr)
  where
    each : (leaves : List Leaf) → map (λ (leaf : Leaf). decode leaf.scalar (take (size leaf.scalar) (drop leaf.at bytes))) leaves ≡ map (λ (leaf : Leaf). zero_of leaf.scalar) leaves
    each [] = refl
    each (leaf ∷ leaves) = λ i. decode-zeros leaf.scalar (take (size leaf.scalar) (drop leaf.at bytes)) (zeros-take (size leaf.scalar) (drop leaf.at bytes) (zeros-drop leaf.at bytes h)) i ∷ each leaves i

items-zeros : (descr : Descr) (width n : ℕ) (bytes : List ℕ) → AreZeros bytes → map (decode_item descr) (blocks width n bytes) ≡ replicate n (zero_item descr)
items-zeros descr width zero bytes h = refl
items-zeros descr width (suc n) bytes h = λ i. decode_item-zeros descr (take width bytes) (zeros-take width bytes h) i ∷ items-zeros descr width n (drop width bytes) (zeros-drop width bytes h) i

-- the items of zero bytes
pub items_in-zeros : (descr : Descr) (n len : ℕ) → items_in descr n (replicate len 0) ≡ replicate n (zero_item descr)
items_in-zeros descr n len = items-zeros descr (item_size descr) n (replicate len 0) (zeros-replicate len)

-- Laws of the bytes of values, and of the numbers in bytes.
use Rattle.std.specs.Prelude.{◌<◌, ℕ, List, ◌+◌, take, ◌*◌, ◌^◌, ◌≡◌, ◌-◌, length, [], ◌∷◌, ◌++◌, nat_eq}
use Rattle.std.proofs.Common.{get_or, drop, sym, subst, inl, inr, arith, length-take, true, false, cond, refl, replicate, length-append, ap, ◌∙◌}
use Rattle.elem_descr.specs.Words.{get_or-drop, get_or-take, get_or_past, length-replicate, append-nil, cases_lt, big_from-lt, little_from-lt, length-bytes_low_first, length-bytes_high_first, pow256}
use Rattle.elem_descr.specs.declared.scalar.Order.{Order}
use Rattle.elem_descr.specs.declared.scalar.Order.TheVariants.{Little, Big}
use Rattle.elem_descr.specs.Encoding.{number_in, truth, bytes_of, padded, size, width_size, low_bits, number_of, text_of, encode}
use Rattle.elem_descr.specs.declared.scalar.Scalar.{Scalar}
use Rattle.elem_descr.specs.declared.scalar.Scalar.TheVariants.{Bool as BoolScalar, Byte, Int, Bytes}
use Rattle.elem_descr.specs.Values.{LeafValue}
use Rattle.elem_descr.specs.declared.descr.Descr.TheVariants.{Scalar as ScalarDescr}
use Rattle.elem_descr.specs.Items.{encode_item}

abbrev pub AreBytes : List ℕ → Type 0
AreBytes bytes = (i : ℕ) → get_or bytes i 0 < 256

pub bytes-drop : (n : ℕ) (bytes : List ℕ) → AreBytes bytes → AreBytes (drop n bytes)
bytes-drop n bytes are i = subst (λ b. b < 256) (sym (get_or-drop n bytes i 0)) (are (n + i))

pub bytes-take : (n : ℕ) (bytes : List ℕ) → AreBytes bytes → AreBytes (take n bytes)
bytes-take n bytes are i = elim (cases_lt i n) [
  | inl low ↦ subst (λ b. b < 256) (sym (get_or-take n bytes i 0 low)) (are i)
  | inr high ↦ subst (λ b. b < 256) (sym (get_or_past (take n bytes) i 0 (omega (arith, high, length-take n bytes)))) (omega arith)
]

pub number-lt : (order : Order) (n : ℕ) (bytes : List ℕ) → AreBytes bytes → number_in order n bytes < 2 ^ (8 * n)
number-lt Little n bytes are = subst (λ m. number_in Little n bytes < m) (pow256 n) (little_from-lt 0 n bytes are)
number-lt Big n bytes are = subst (λ m. number_in Big n bytes < m) (pow256 n) (big_from-lt 0 n bytes are)

pub truth-twice : (n : ℕ) → truth (truth n) ≡ truth n
truth-twice n = elim (nat_eq n 0) as (λ t. truth (cond t 0 1) ≡ cond t 0 1) [ true ↦ refl | false ↦ refl ]

pub length-bytes_of : (order : Order) (n bits : ℕ) → length (bytes_of order n bits) ≡ n
length-bytes_of Little n bits = length-bytes_low_first 0 n bits
length-bytes_of Big n bits = length-bytes_high_first n bits

pub length-padded : (n : ℕ) (bytes : List ℕ) → length (padded n bytes) ≡ n
length-padded n bytes =
    let zeros : length {A = ℕ} (replicate (n - length bytes) 0) ≡ n - length bytes = length-replicate (n - length bytes) 0 in
    omega (arith, zeros, length-take n bytes, length-append (take n bytes) (replicate (n - length bytes) 0))

pub length-encode : (to : Scalar) (value : LeafValue) → length (encode to value) ≡ size to
length-encode BoolScalar value = refl
length-encode (Byte signed) value = refl
length-encode (Int signed width order) value = length-bytes_of order (width_size width) (low_bits (width_size width) (number_of value))
length-encode (Bytes n) value = length-padded n (text_of value)

-- the bytes of an item that is a scalar are the bytes of its value
pub one-encoded : (s : Scalar) (value : LeafValue) → encode_item (ScalarDescr s) (value ∷ []) ≡ encode s value
one-encoded s value =
    let none : size s - (0 + size s) ≡ 0 = omega arith in
    ap (λ n. encode s value ++ replicate n 0) none ∙ append-nil (encode s value)

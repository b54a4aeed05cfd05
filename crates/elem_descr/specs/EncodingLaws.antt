-- Decoding the bytes of a value gives the value back.
use Rattle.std.specs.Prelude.{◌≡◌, ℕ, ◌*◌, ◌<◌, ◌≤◌, Bool, [], ◌^◌, ◌-◌, ℤ, pos, negsuc, ◌-ℤ◌, unsigned_abs, nat_eq}
use Rattle.std.proofs.Common.{zero, suc, true, false, refl, sym, ap, ◌∙◌, arith, cond, nat_lt}
use Rattle.elem_descr.specs.Words.{int_rem_euclid, mod-lt, mod-eq_of_lt, ltb-true, ltb-false, ne_eqb, ints, int_rem_euclid_is, pow_pos, append-nil, little_number, little_bytes, big_number, big_bytes, big_number-reads_back, little_number-reads_back, pow256}
use Rattle.elem_descr.specs.declared.scalar.Order.{Order}
use Rattle.elem_descr.specs.declared.scalar.Order.TheVariants.{Little, Big}
use Rattle.elem_descr.specs.declared.scalar.Scalar.{Scalar}
use Rattle.elem_descr.specs.declared.scalar.Scalar.TheVariants.{Bool as BoolScalar, Byte, Int, Bytes}
use Rattle.elem_descr.specs.Encoding.{width_size, IsNumber, number_in, bytes_of, low_bits, integer, truth, wrap, encode, decode}
use Rattle.elem_descr.specs.Values.{number}
use Rattle.elem_descr.specs.inside.Signs.{with_sign}

-- the remainder of `z` divided by `d` is below `d`
remainder-lt : (d : ℕ) (z : ℤ) → 0 < d → unsigned_abs (int_rem_euclid z (pos d)) < d
remainder-lt d (pos a) some = mod-lt a some
remainder-lt d (negsuc a) some = omega arith

pub by_sign : (P : ℤ → Type 0) (h d x : ℕ) → (x < h → P (pos x)) → (h ≤ x → P (pos x -ℤ pos d)) → P (with_sign h d x)
by_sign P h d x small large =
    elim (nat_lt x h) as (λ t. nat_lt x h ≡ t → P (cond t (pos x) (pos x -ℤ pos d))) [
      | true ↦ λ e. small (ltb-true x h e)
      | false ↦ λ e. large (ltb-false x h e)
    ] refl

-- The remainder of `x` read with a sign is `x`.
remainder-with_sign : (h d x : ℕ) → x < d → unsigned_abs (int_rem_euclid (with_sign h d x) (pos d)) ≡ x
remainder-with_sign h d x below =
    by_sign (λ z. unsigned_abs (int_rem_euclid z (pos d)) ≡ x) h d x
    (λ l. mod-eq_of_lt below)
    (λ l. ap unsigned_abs (int_rem_euclid_is (pos x -ℤ pos d) (pos d) d 1 x (omega arith) refl (omega (arith, ints))) ∙ mod-eq_of_lt below)

pub low_bits-lt : (n : ℕ) (z : ℤ) → low_bits n z < 2 ^ (8 * n)
low_bits-lt n z = remainder-lt (2 ^ (8 * n)) z (pow_pos (8 * n))

-- The lowest bits of the integer that some bits mean are these bits.
pub low_bits-integer : (signed : Bool) (n x : ℕ) → x < 2 ^ (8 * n) → low_bits n (integer signed n x) ≡ x
low_bits-integer false n x below = mod-eq_of_lt below
low_bits-integer true n x below = remainder-with_sign (2 ^ (8 * n - 1)) (2 ^ (8 * n)) x below

pub truth_suc : (n : ℕ) → truth (suc n) ≡ 1
truth_suc n = let other : nat_eq (suc n) 0 ≡ false = ne_eqb (suc n) 0 (λ same. omega (arith, same)) in rw other refl

-- the bytes of an unsigned number read back as that number
number_in-bytes_of : (order : Order) (n x : ℕ) → x < 2 ^ (8 * n) → number_in order n (bytes_of order n x) ≡ x
number_in-bytes_of Little n x below =
    ap (little_number n) (sym (append-nil (little_bytes n x))) ∙ little_number-reads_back n x [] (rw (pow256 n) below)
number_in-bytes_of Big n x below =
    ap (big_number n) (sym (append-nil (big_bytes n x))) ∙ big_number-reads_back n x [] (rw (pow256 n) below)

integer-encoded : (signed : Bool) (order : Order) (n : ℕ) (value : ℤ) → integer signed n (number_in order n (bytes_of order n (low_bits n (integer signed n (low_bits n value))))) ≡ integer signed n (low_bits n value)
integer-encoded signed order n value =
    let same = low_bits-integer signed n (low_bits n value) (low_bits-lt n value) in
    rw (same, number_in-bytes_of order n (low_bits n value) (low_bits-lt n value)) refl

pub decode_encode : (scalar : Scalar) (value : ℤ) → IsNumber scalar → decode scalar (encode scalar (number (wrap scalar value))) ≡ number (wrap scalar value)
decode_encode BoolScalar (pos zero) _ = refl
decode_encode BoolScalar (pos (suc n)) _ = rw (truth_suc n) refl
decode_encode BoolScalar (negsuc n) _ = rw (truth_suc n) refl
decode_encode (Byte signed) value _ = ap number (integer-encoded signed Little 1 value)
decode_encode (Int signed width order) value _ = ap number (integer-encoded signed order (width_size width) value)
decode_encode (Bytes n) value never = absurd never

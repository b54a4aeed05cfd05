-- The laws of wrapping for every scalar.
use Rattle.std.specs.Prelude.{◌≡◌, ◌≤◌, ℕ, Bool, ℤ, pos, negsuc}
use Rattle.std.proofs.Common.{zero, suc, true, false, refl, ap, subst, inl, inr, arith}
use Rattle.elem_descr.specs.Words.{ints, Decides-int_eq, Decides}
use Rattle.elem_descr.specs.declared.scalar.Order.{Order}
use Rattle.elem_descr.specs.declared.scalar.Width.{Width}
use Rattle.elem_descr.specs.declared.scalar.Width.TheVariants.{Two, Four, Eight}
use Rattle.elem_descr.specs.declared.scalar.Scalar.{Scalar}
use Rattle.elem_descr.specs.declared.scalar.Scalar.TheVariants.{Bool as BoolScalar, Byte, Int, Bytes}
use Rattle.elem_descr.specs.Encoding.{size, width_size, FitsBytes, IsNumber, IsValueOf, is_value, WrapsTo, bytes_of, low_bits, integer, wrap}
use Rattle.elem_descr.specs.EncodingLaws.{truth_suc, low_bits-lt, low_bits-integer}
use Rattle.elem_descr.specs.WrapLaws.{integer-fits, integer-differs, integer-low_bits}

-- a bool or an integer has at most 8 bytes
pub number_size : (scalar : Scalar) → IsNumber scalar → size scalar ≤ 8
number_size BoolScalar _ = omega arith
number_size (Byte signed) _ = omega arith
number_size (Int signed Two order) _ = omega arith
number_size (Int signed Four order) _ = omega arith
number_size (Int signed Eight order) _ = omega arith
number_size (Bytes n) never = absurd never

pub some_bytes : (width : Width) → 1 ≤ width_size width
some_bytes Two = omega arith
some_bytes Four = omega arith
some_bytes Eight = omega arith

pub wrap_fits : (scalar : Scalar) (value : ℤ) → IsNumber scalar → IsValueOf scalar (wrap scalar value)
wrap_fits BoolScalar (pos zero) _ = inl refl
wrap_fits BoolScalar (pos (suc n)) _ = inr (ap pos (truth_suc n))
wrap_fits BoolScalar (negsuc n) _ = inr (ap pos (truth_suc n))
wrap_fits (Byte signed) value _ = integer-fits signed 1 (low_bits 1 value) (omega arith) (low_bits-lt 1 value)
wrap_fits (Int signed width order) value _ =
    let n = width_size width in
    integer-fits signed n (low_bits n value) (some_bytes width) (low_bits-lt n value)
wrap_fits (Bytes n) value never = absurd never

pub wraps_to : (scalar : Scalar) (value : ℤ) → IsNumber scalar → WrapsTo scalar value (wrap scalar value)
wraps_to BoolScalar (pos zero) _ = (λ e. e, λ e. e)
wraps_to BoolScalar (pos (suc n)) _ = (λ e. let one = truth_suc n in cc, λ e. cc)
wraps_to BoolScalar (negsuc n) _ = (λ e. let one = truth_suc n in cc, λ e. cc)
wraps_to (Byte signed) value _ = integer-differs signed 1 value
wraps_to (Int signed width order) value _ = integer-differs signed (width_size width) value
wraps_to (Bytes n) value never = absurd never

pub wrap_stays : (scalar : Scalar) (value : ℤ) → IsValueOf scalar value → wrap scalar value ≡ value
wrap_stays BoolScalar value (inl e) = rw e refl
wrap_stays BoolScalar value (inr e) = rw e refl
wrap_stays (Byte signed) value fits = integer-low_bits signed 1 value (omega arith) fits
wrap_stays (Int signed width order) value fits = integer-low_bits signed (width_size width) value (some_bytes width) fits
wrap_stays (Bytes n) value never = absurd never

-- `is_value` decides whether a number is a value of the scalar
pub value_decides : (scalar : Scalar) (value : ℤ) → IsNumber scalar → Decides (is_value scalar value) (IsValueOf scalar value)
value_decides scalar value kind =
    let same = Decides-int_eq (wrap scalar value) value in
    (λ held. subst (IsValueOf scalar) (same.0 held) (wrap_fits scalar value kind), λ fits. same.1 (wrap_stays scalar value fits))

-- a value and the wrapped value are written as the same bytes
pub encode_wrap : (signed : Bool) (order : Order) (n : ℕ) (value : ℤ) → bytes_of order n (low_bits n (integer signed n (low_bits n value))) ≡ bytes_of order n (low_bits n value)
encode_wrap signed order n value = ap (bytes_of order n) (low_bits-integer signed n (low_bits n value) (low_bits-lt n value))

-- an integer that fits into fewer bytes fits into eight bytes
pub fits_eight_bytes : (signed : Bool) (width : Width) (z : ℤ) → FitsBytes signed (width_size width) z → FitsBytes signed 8 z
fits_eight_bytes false Two z fits = (fits.0, omega (arith, ints, fits.1))
fits_eight_bytes false Four z fits = (fits.0, omega (arith, ints, fits.1))
fits_eight_bytes false Eight z fits = fits
fits_eight_bytes true Two z fits = (omega (arith, ints, fits.0), omega (arith, ints, fits.1))
fits_eight_bytes true Four z fits = (omega (arith, ints, fits.0), omega (arith, ints, fits.1))
fits_eight_bytes true Eight z fits = fits

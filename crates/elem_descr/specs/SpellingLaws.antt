-- A scalar that is written as a type string is read back as the same scalar.
use Rattle.std.specs.Prelude.{◌≡◌, ◌≤◌, [], ◌∷◌, Ok, decimal}
use Rattle.std.proofs.Common.{true, false, refl, arith, lit<}
use Rattle.elem_descr.specs.Words.{le-leb, ne_eqb, decimal_digit}
use Rattle.elem_descr.specs.declared.scalar.Order.TheVariants.{Little, Big}
use Rattle.elem_descr.specs.declared.scalar.Width.TheVariants.{Two, Four, Eight}
use Rattle.elem_descr.specs.declared.scalar.Scalar.{Scalar}
use Rattle.elem_descr.specs.declared.scalar.Scalar.TheVariants.{Bool as BoolScalar, Byte, Int, Bytes}
use Rattle.elem_descr.specs.Encoding.{size}
use Rattle.elem_descr.specs.TypeStrings.{typestr, spelling}
use Rattle.elem_descr.specs.DigitLaws.{digits-decimal, value_of-decimal}

pub one : decimal 1 ≡ 49 ∷ []
one = decimal_digit 1 (lit< tt)

pub two : decimal 2 ≡ 50 ∷ []
two = decimal_digit 2 (lit< tt)

pub four : decimal 4 ≡ 52 ∷ []
four = decimal_digit 4 (lit< tt)

pub eight : decimal 8 ≡ 56 ∷ []
eight = decimal_digit 8 (lit< tt)

pub reads_spelling : (scalar : Scalar) → 1 ≤ size scalar → size scalar ≤ 65536 → typestr (spelling scalar) ≡ Ok scalar
reads_spelling BoolScalar some small = rw one refl
reads_spelling (Byte true) some small = rw one refl
reads_spelling (Byte false) some small = rw one refl
reads_spelling (Int true Two Little) some small = rw two refl
reads_spelling (Int true Two Big) some small = rw two refl
reads_spelling (Int true Four Little) some small = rw four refl
reads_spelling (Int true Four Big) some small = rw four refl
reads_spelling (Int true Eight Little) some small = rw eight refl
reads_spelling (Int true Eight Big) some small = rw eight refl
reads_spelling (Int false Two Little) some small = rw two refl
reads_spelling (Int false Two Big) some small = rw two refl
reads_spelling (Int false Four Little) some small = rw four refl
reads_spelling (Int false Four Big) some small = rw four refl
reads_spelling (Int false Eight Little) some small = rw eight refl
reads_spelling (Int false Eight Big) some small = rw eight refl
reads_spelling (Bytes n) some small =
    rw (digits-decimal n (omega arith), value_of-decimal n (omega arith), ne_eqb n 0 (λ none. omega (arith, none)), le-leb n 65536 small) refl

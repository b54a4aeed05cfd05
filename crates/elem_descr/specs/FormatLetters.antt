-- Format texts of PEP 3118: the marks, the letters, and the members that they mean.
use Rattle.std.specs.Prelude.{ℕ, Bool, List, [], ◌∷◌, length, codes, find, nat_eq, if◌then◌else◌, Option, Some, unwrap_or, Result, Ok, Err}
use Rattle.std.proofs.Common.{zero, suc, true, false}
use Rattle.elem_descr.specs.Words.{option_map}
use Rattle.elem_descr.specs.declared.refusal.Refusal.{Refusal}
use Rattle.elem_descr.specs.declared.refusal.Refusal.TheVariants.{BadDescriptor, DescriptorLeftOut}
use Rattle.elem_descr.specs.declared.scalar.Order.{Order}
use Rattle.elem_descr.specs.declared.scalar.Order.TheVariants.{Little, Big}
use Rattle.elem_descr.specs.declared.scalar.Width.{Width}
use Rattle.elem_descr.specs.declared.scalar.Width.TheVariants.{Four, Eight}
use Rattle.elem_descr.specs.declared.scalar.Scalar.{Scalar}
use Rattle.elem_descr.specs.declared.scalar.Scalar.TheVariants.{Int, Bytes}
use Rattle.elem_descr.specs.declared.format_text.mark.Mark.{Mark}
use Rattle.elem_descr.specs.declared.format_text.mark.Mark.TheVariants.{Aligned, Native, Little as LittleMark, Big as BigMark}
use Rattle.elem_descr.specs.Encoding.{size}
use Rattle.elem_descr.specs.TypeStrings.{is_one_of, numbers, value_of}
use Rattle.elem_descr.specs.WrittenFormats.{written_letter}

abbrev pub is_empty : List ℕ → Bool
is_empty text = nat_eq (length text) 0

-- the marks, each with the bytes that it may be written as
abbrev pub marks : List (List ℕ × Mark)
marks = (codes "@", Aligned) ∷ ((codes "^", Native) ∷ ((codes "<=", LittleMark) ∷ ((codes ">!", BigMark) ∷ [])))

-- the mark that a byte means, if any
abbrev pub mark_meant : ℕ → Option Mark
mark_meant b = option_map (λ entry. entry.1) (find (λ entry. is_one_of entry.0 b) marks)

abbrev pub order_under : Mark → Order
order_under BigMark = Big
order_under _ = Little

-- `l` and `L` have eight bytes under `@` and `^`, which use native sizes, and four under the other marks
abbrev pub long_under : Mark → Width
long_under Aligned = Eight
long_under Native = Eight
long_under _ = Four

-- only `@` aligns
abbrev pub is_aligning : Mark → Bool
is_aligning Aligned = true
is_aligning _ = false

-- The bool or the integer that a letter means, if any: the one that it is written for, or a long integer.
abbrev pub number_letter : Mark → ℕ → Option Scalar
number_letter mark letter =
    if is_one_of (codes "l") letter then Some (Int true (long_under mark) (order_under mark))
    else if is_one_of (codes "L") letter then Some (Int false (long_under mark) (order_under mark))
    else find (λ scalar. is_one_of (written_letter scalar) letter) (numbers (order_under mark))

-- the alignment of a bool or an integer is its size, and that of a byte string is 1
abbrev pub own_alignment : Scalar → ℕ
own_alignment (Bytes n) = 1
own_alignment scalar = size scalar

-- the offset of a member is a multiple of this: its own alignment if the mark aligns, and otherwise 1
abbrev pub aligned_to : Mark → ℕ → ℕ
aligned_to mark own = if is_aligning mark then own else 1

-- a member without its name: a scalar, a number of bytes of padding, or the beginning of a record
pub data Member : Type 0 where
  Value : Scalar → Member
  Pad : ℕ → Member
  Opened : Member

-- the count that digits spell, or 1 if there are none
abbrev pub count_of : List ℕ → ℕ
count_of [] = 1
count_of (d ∷ digits) = value_of (d ∷ digits)

-- a bool or an integer with a count is unsupported
abbrev pub number_member : List ℕ → Scalar → Result Member Refusal
number_member digits scalar = if is_empty digits then Ok (Value scalar) else Err DescriptorLeftOut

-- a byte string of `n` bytes, unsupported if `n` is 0
abbrev pub text_member : ℕ → Result Member Refusal
text_member zero = Err DescriptorLeftOut
text_member (suc n) = Ok (Value (Bytes (suc n)))

-- a member that is not a bool or an integer; the last letters here are the unsupported ones
abbrev pub other_member : List ℕ → ℕ → Result Member Refusal
other_member digits b =
    if is_one_of (codes "s") b then text_member (count_of digits)
    else if is_one_of (codes "x") b then Ok (Pad (count_of digits))
    else if is_one_of (codes "cnNPpefdgOZuwt&X(") b then Err DescriptorLeftOut
    else Err BadDescriptor

-- the member that a count and a letter mean
abbrev pub lettered : Mark → List ℕ → ℕ → Result Member Refusal
lettered mark digits b = unwrap_or (option_map (number_member digits) (number_letter mark b)) (other_member digits b)

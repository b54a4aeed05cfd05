-- Type strings of NumPy's array interface: a byte order, a letter for the kind, and the number of bytes of an item.
use Rattle.std.specs.Prelude.{ℕ, ◌+◌, ◌-◌, ◌*◌, Bool, List, [], ◌∷◌, ◌++◌, codes, decimal, find, nat_eq, nat_le, if◌then◌else◌, Option, unwrap_or, Result, Ok, Err}
use Rattle.std.proofs.Common.{true, false, fold}
use Rattle.elem_descr.specs.Words.{is_ascii_digit, list_all, list_any, option_map, bytes_eq}
use Rattle.elem_descr.specs.declared.refusal.Refusal.{Refusal}
use Rattle.elem_descr.specs.declared.refusal.Refusal.TheVariants.{BadDescriptor, DescriptorLeftOut, TooLarge}
use Rattle.elem_descr.specs.declared.scalar.Order.{Order}
use Rattle.elem_descr.specs.declared.scalar.Order.TheVariants.{Little, Big}
use Rattle.elem_descr.specs.declared.scalar.Width.TheVariants.{Two, Four, Eight}
use Rattle.elem_descr.specs.declared.scalar.Scalar.{Scalar}
use Rattle.elem_descr.specs.declared.scalar.Scalar.TheVariants.{Bool as BoolScalar, Byte, Int, Bytes}
use Rattle.elem_descr.specs.Encoding.{size}

abbrev pub is_one_of : List ℕ → ℕ → Bool
is_one_of bytes b = list_any (λ c. nat_eq c b) bytes

-- the byte order that the mark at the front means, or little-endian if there is no mark, and the text after the mark
abbrev pub marked : List ℕ → Order × List ℕ
marked [] = (Little, [])
marked (b ∷ rest) = if is_one_of (codes ">") b then (Big, rest) else if is_one_of (codes "<|=") b then (Little, rest) else (Little, b ∷ rest)

-- the mark of a scalar: `>` for big-endian, `<` for little-endian, and `|` if it has no byte order
abbrev pub mark : Scalar → List ℕ
mark (Int signed width Little) = codes "<"
mark (Int signed width Big) = codes ">"
mark scalar = codes "|"

abbrev pub integer_letter : Bool → List ℕ
integer_letter true = codes "i"
integer_letter false = codes "u"

abbrev pub letter_of : Scalar → List ℕ
letter_of BoolScalar = codes "b"
letter_of (Byte signed) = integer_letter signed
letter_of (Int signed width order) = integer_letter signed
letter_of (Bytes n) = codes "S"

-- the type string of a scalar
abbrev pub spelling : Scalar → List ℕ
spelling scalar = mark scalar ++ letter_of scalar ++ decimal (size scalar)

-- the integers of this byte order, signed or unsigned
abbrev pub integers : Bool → Order → List Scalar
integers signed order = Byte signed ∷ (Int signed Two order ∷ (Int signed Four order ∷ (Int signed Eight order ∷ [])))

-- the bools and the integers of this byte order
abbrev pub numbers : Order → List Scalar
numbers order = BoolScalar ∷ (integers true order ++ integers false order)

-- the number that decimal digits spell
abbrev pub value_of : List ℕ → ℕ
value_of digits = fold (λ n d. n * 10 + (d - 48)) 0 digits

-- the bool or the integer that a letter and the digit of its size spell, if there is one
abbrev pub number_spelled : Order → List ℕ → Option Scalar
number_spelled order kind = find (λ scalar. bytes_eq (letter_of scalar ++ ((48 + size scalar) ∷ [])) kind) (numbers order)

-- a byte string of `n` bytes, refused if `n` is 0 or too large
abbrev pub of_length : ℕ → Result Scalar Refusal
of_length n = if nat_eq n 0 then Err DescriptorLeftOut else if nat_le n 65536 then Ok (Bytes n) else Err TooLarge

-- a byte string whose length these digits spell
abbrev pub byte_string : List ℕ → Result Scalar Refusal
byte_string digits = if list_all is_ascii_digit digits then of_length (value_of digits) else Err BadDescriptor

-- the kinds that are not bools or integers: byte strings, and the unsupported kinds
abbrev pub by_letter : List ℕ → Result Scalar Refusal
by_letter [] = Err BadDescriptor
by_letter (letter ∷ rest) =
    if is_one_of (codes "S") letter then byte_string rest
    else if is_one_of (codes "fcmMOUV") letter then Err DescriptorLeftOut
    else Err BadDescriptor

-- the scalar that a type string means, or the refusal for the error in it
abbrev pub typestr : List ℕ → Result Scalar Refusal
typestr text = let m = marked text in unwrap_or (option_map Ok (number_spelled m.0 m.1)) (by_letter m.1)

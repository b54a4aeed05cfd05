-- Values of leaves that are cast, and their bytes.
use Rattle.std.proofs.Common.{◌≡◌, ℕ, Bool, false, List, length, take, refl, sym, ap, ◌∙◌, arith, length-take, ℤ}
use Rattle.elementwise.proofs.Words.{Order, Little, Width, Scalar, Byte, Int, Bytes, LeafValue, number, text, IsNumber, size, width_size, wrap, number_of, text_of, decode, encode, decode_encode, encode_wrap, length-encode, BoolScalar, cast_value, leaf_cast}
use Rattle.elementwise.proofs.NulLaws.{text_read_back}

-- a value as a number
pub cast_number : (to : Scalar) (value : LeafValue) → IsNumber to → cast_value to value ≡ number (wrap to (number_of value))
cast_number BoolScalar value is = refl
cast_number (Byte signed) value is = refl
cast_number (Int signed width order) value is = refl
cast_number (Bytes n) value never = absurd never

-- ---- the sign makes no difference to the bytes

abbrev read_as : Scalar → List ℕ → ℤ
read_as from item = number_of (decode from item)

pub byte_alike : (from : Scalar) (signed : Bool) (item : List ℕ) → leaf_cast from (Byte false) item ≡ leaf_cast from (Byte signed) item
byte_alike from signed item = encode_wrap false Little 1 (read_as from item) ∙ sym (encode_wrap signed Little 1 (read_as from item))

pub int_alike : (from : Scalar) (signed : Bool) (width : Width) (order : Order) (item : List ℕ) → leaf_cast from (Int false width order) item ≡ leaf_cast from (Int signed width order) item
int_alike from signed width order item = encode_wrap false order (width_size width) (read_as from item) ∙ sym (encode_wrap signed order (width_size width) (read_as from item))

-- ---- values that are read back

pub length-leaf_cast : (from to : Scalar) (item : List ℕ) → length (leaf_cast from to item) ≡ size to
length-leaf_cast from to item = length-encode to (cast_value to (decode from item))

pub read_back : (to : Scalar) (value : LeafValue) → decode to (encode to (cast_value to value)) ≡ cast_value to value
read_back BoolScalar value = decode_encode BoolScalar (number_of value) tt
read_back (Byte signed) value = decode_encode (Byte signed) (number_of value) tt
read_back (Int signed width order) value = decode_encode (Int signed width order) (number_of value) tt
read_back (Bytes n) value = ap text (text_read_back n (take n (text_of value)) (omega (arith, length-take n (text_of value))))

pub cast_read_back : (from to : Scalar) (item : List ℕ) → decode to (leaf_cast from to item) ≡ cast_value to (decode from item)
cast_read_back from to item = read_back to (decode from item)

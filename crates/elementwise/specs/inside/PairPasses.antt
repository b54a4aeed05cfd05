-- Functions on the bytes of two items.
use Rattle.std.specs.Prelude.{◌≡◌, ℕ, ℤ, pos, int_lt, Bool, true, false, not, ◌||◌, if◌then◌else◌, List}
use Rattle.elementwise.specs.Words.{Little, BinOp, FloorDivide, Modulo, Scalar, Byte, Int, Bytes, LeafValue, number, text, Descr, IsNumber, IsValueOf, number_of, decode, encode, without_nuls, Comparison, item_at, BoolScalar, ScalarDescr}
use Rattle.elementwise.specs.Comparisons.{says, compared, text_below}

-- the bytes of `f` of the two numbers that are read from bytes of two scalars
abbrev pub number_pair : Scalar → Scalar → Scalar → (ℤ → ℤ → ℤ) → List ℕ → List ℕ → List ℕ
number_pair left right to f x y = encode to (number (f (number_of (decode left x)) (number_of (decode right y))))

-- little-endian numbers
abbrev pub IsNative : Scalar → Type 0
IsNative BoolScalar = Unit {0}
IsNative (Byte signed) = Unit {0}
IsNative (Int signed width order) = order ≡ Little
IsNative (Bytes n) = ⊥

-- the operation that gives quotients, or the one that gives remainders
abbrev pub division_op : Bool → BinOp
division_op false = FloorDivide
division_op true = Modulo

-- the bytes of `f` of the two values that are read from bytes of two scalars
abbrev pub value_pair : Scalar → Scalar → Scalar → (LeafValue → LeafValue → LeafValue) → List ℕ → List ℕ → List ℕ
value_pair left right to f x y = encode to (f (decode left x) (decode right y))

-- `f` of the bytes of the items at two offsets
abbrev pub pair_from : (List ℕ → List ℕ → List ℕ) → ℕ → ℕ → List ℕ → List ℕ → ℕ → ℕ → List ℕ
pair_from f width width' left right o o' = f (item_at o width left) (item_at o' width' right)

-- A comparison as three bools. It gives `holds`, the third bool, if the first value is below the second and the first
-- bool is true, or if it is above and the second bool is true. Otherwise it gives the opposite of `holds`.
abbrev pub said : Bool → Bool → Bool → Bool → Bool → Bool
said true true true below above = below || above
said true true false below above = not (below || above)
said true false true below above = below
said true false false below above = not below
said false true true below above = above
said false true false below above = not above
said false false holds below above = not holds

-- the result of a comparison of two numbers, as 0 or 1
abbrev pub says_number : Comparison → ℤ → ℤ → ℤ
says_number comparison a b = if says comparison (int_lt a b) (int_lt b a) then pos 1 else pos 0

-- the result for the numbers of two values
abbrev pub compared_value : Comparison → LeafValue → LeafValue → LeafValue
compared_value comparison x y = number (says_number comparison (number_of x) (number_of y))

-- the result for two values of the same kind
abbrev pub truth_value : Comparison → LeafValue → LeafValue → LeafValue
truth_value comparison x y = number (if compared comparison x y then pos 1 else pos 0)

-- the result for the bytes of two byte strings, as a byte
abbrev pub text_pair : Comparison → List ℕ → List ℕ → List ℕ
text_pair comparison x y = encode BoolScalar (truth_value comparison (text (without_nuls x)) (text (without_nuls y)))

-- the result of `said` for the bytes of two byte strings, as a byte
abbrev pub text_said : Bool → Bool → Bool → List ℕ → List ℕ → List ℕ
text_said is_below is_above holds x y =
    let a = without_nuls x in
    let b = without_nuls y in
    encode BoolScalar (number (if said is_below is_above holds (text_below a b) (text_below b a) then pos 1 else pos 0))

-- each value of the first scalar is a value of the second
abbrev pub Holds : Scalar → Scalar → Type 0
Holds from to = (z : ℤ) → IsValueOf from z → IsValueOf to z

-- the items of an element type are numbers, each of which is a value of a scalar
abbrev pub AreHeld : Descr → Scalar → Type 0
AreHeld d to = (from : Scalar) × (d ≡ ScalarDescr from) × IsNumber from × Holds from to

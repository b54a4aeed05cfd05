-- What is computed from the values of two items.
use Rattle.std.specs.Prelude.{◌≡◌, ℕ, ℤ, List, not, true, false}
use Rattle.elementwise.specs.Words.{Little, Eight, Scalar, Int, Bytes, LeafValue, number, Descr, Comparison, IsNumber, number_of, wrap, little, BoolScalar, ScalarDescr}
use Rattle.elementwise.specs.Promotion.{is_division}
use Rattle.elementwise.specs.Casts.{can_cast_scalar}
use Rattle.elementwise.specs.Operations.{binary, unary}
use Rattle.elementwise.specs.inside.PairPasses.{says_number, compared_value, truth_value, value_pair, Holds}
use Rattle.elementwise.specs.declared.pairing.Work.{Work}
use Rattle.elementwise.specs.declared.pairing.Work.TheVariants.{Combine, Change, Compare, Cast}
use Rattle.elementwise.specs.declared.pairing.Pairing.{Pairing}
use Rattle.elementwise.specs.declared.pairing.Pairing.TheVariants.{Alike, Signs, Texts}

-- ---- for numbers of one scalar

-- the scalar of the results
abbrev pub target : Work → Scalar → Scalar
target (Combine op) scalar = little scalar
target (Change op) scalar = little scalar
target (Compare comparison) scalar = BoolScalar
target (Cast to) scalar = to

-- the result
abbrev pub meaning : Work → Scalar → ℤ → ℤ → ℤ
meaning (Combine op) scalar a b = binary op (little scalar) a b
meaning (Change op) scalar a b = unary op (little scalar) b
meaning (Compare comparison) scalar a b = says_number comparison a b
meaning (Cast to) scalar a b = wrap to a

-- the results are numbers: true division is unsupported, and a cast must be to numbers
abbrev pub IsWork : Work → Type 0
IsWork (Combine op) = is_division op ≡ false
IsWork (Change op) = Unit {0}
IsWork (Compare comparison) = Unit {0}
IsWork (Cast to) = IsNumber to

-- ---- for values of two scalars

-- the scalar of the first items, and that of the second items
abbrev pub left_of : Pairing → Scalar
left_of (Alike work scalar) = scalar
left_of (Signs comparison left_signed) = Int left_signed Eight Little
left_of (Texts comparison width width') = Bytes width

abbrev pub right_of : Pairing → Scalar
right_of (Alike work scalar) = scalar
right_of (Signs comparison left_signed) = Int (not left_signed) Eight Little
right_of (Texts comparison width width') = Bytes width'

-- the scalar of the results
abbrev pub target_of : Pairing → Scalar
target_of (Alike work scalar) = target work scalar
target_of (Signs comparison left_signed) = BoolScalar
target_of (Texts comparison width width') = BoolScalar

-- the result for two values
abbrev pub gives : Pairing → LeafValue → LeafValue → LeafValue
gives (Alike work scalar) x y = number (meaning work scalar (number_of x) (number_of y))
gives (Signs comparison left_signed) x y = compared_value comparison x y
gives (Texts comparison width width') x y = truth_value comparison x y

-- the result for the bytes of two items, as bytes
abbrev pub pair_made : Pairing → List ℕ → List ℕ → List ℕ
pair_made p = value_pair (left_of p) (right_of p) (target_of p) (gives p)

-- the pairing has results
abbrev pub CanPair : Pairing → Type 0
CanPair (Alike work scalar) = IsNumber scalar × IsWork work
CanPair (Signs comparison left_signed) = Unit {0}
CanPair (Texts comparison width width') = Unit {0}

-- ---- comparisons

-- the items of two element types can be compared
abbrev pub AreComparable : Descr → Descr → Type 0
AreComparable (ScalarDescr left) (ScalarDescr right) = can_cast_scalar left right ≡ true
AreComparable _ _ = ⊥

-- A pairing that compares numbers of two scalars by value, after a cast to scalars that hold all their values.
pub record IsComparing (comparison : Comparison) (from from' : Scalar) (p : Pairing) : Type 0 where
  pub can : CanPair p
  pub left : IsNumber (left_of p) × Holds from (left_of p)
  pub right : IsNumber (right_of p) × Holds from' (right_of p)
  pub target : target_of p ≡ BoolScalar
  pub says : (x y : LeafValue) → gives p x y ≡ compared_value comparison x y

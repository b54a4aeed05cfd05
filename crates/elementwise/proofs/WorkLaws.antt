-- The results on numbers: the number of their bytes, and that they are read back.
use Rattle.std.proofs.Common.{◌≡◌, ◌≤◌, true, false, cond, refl, arith, ℤ, pos, int_lt}
use Rattle.elementwise.proofs.Words.{Width, Two, Four, Eight, Scalar, Byte, Int, Bytes, LeafValue, number, IsNumber, size, width_size, number_of, decode, encode, decode_encode, number_size, Comparison, little, BoolScalar, says, compared, exact, exact_one, compared_value, truth_value, target, meaning, IsWork, target_of, gives, CanPair, Work, Pairing, Alike, Signs, Texts, Combine, Change, Compare, Cast}

pub number-little : (scalar : Scalar) → IsNumber scalar → IsNumber (little scalar)
number-little BoolScalar is = tt
number-little (Byte signed) is = tt
number-little (Int signed width order) is = tt
number-little (Bytes n) never = never

pub small_width : (width : Width) → width_size width ≤ 8
small_width Two = omega arith
small_width Four = omega arith
small_width Eight = omega arith

pub number_small : (scalar : Scalar) → IsNumber scalar → size (little scalar) ≤ 8
number_small scalar is = number_size (little scalar) (number-little scalar is)

pub bool_small : size BoolScalar ≤ 8
bool_small = omega arith

pub compared_reads_back : (comparison : Comparison) (x y : LeafValue) → decode BoolScalar (encode BoolScalar (compared_value comparison x y)) ≡ compared_value comparison x y
compared_reads_back comparison x y =
    elim (says comparison (int_lt (number_of x) (number_of y)) (int_lt (number_of y) (number_of x))) as (λ t. decode BoolScalar (encode BoolScalar (number (cond t (pos 1) (pos 0)))) ≡ number (cond t (pos 1) (pos 0))) [ true ↦ refl | false ↦ refl ]

pub truth_reads_back : (comparison : Comparison) (x y : LeafValue) → decode BoolScalar (encode BoolScalar (truth_value comparison x y)) ≡ truth_value comparison x y
truth_reads_back comparison x y =
    elim (compared comparison x y) as (λ t. decode BoolScalar (encode BoolScalar (number (cond t (pos 1) (pos 0)))) ≡ number (cond t (pos 1) (pos 0))) [ true ↦ refl | false ↦ refl ]

pub work_reads_back : (work : Work) (s : Scalar) (a b : ℤ) → IsNumber s → IsWork work → decode (target work s) (encode (target work s) (number (meaning work s a b))) ≡ number (meaning work s a b)
work_reads_back (Combine op) s a b is can = decode_encode (little s) (exact op (little s) a b) (number-little s is)
work_reads_back (Change op) s a b is can = decode_encode (little s) (exact_one op (little s) b) (number-little s is)
work_reads_back (Compare comparison) s a b is can = compared_reads_back comparison (number a) (number b)
work_reads_back (Cast to) s a b is can = decode_encode to a can

pub pair_reads_back : (p : Pairing) (x y : LeafValue) → CanPair p → decode (target_of p) (encode (target_of p) (gives p x y)) ≡ gives p x y
pair_reads_back (Alike work scalar) x y can = work_reads_back work scalar (number_of x) (number_of y) can.0 can.1
pair_reads_back (Signs comparison left_signed) x y can = compared_reads_back comparison x y
pair_reads_back (Texts comparison width width') x y can = truth_reads_back comparison x y

-- Casts that leave items unchanged.
use Rattle.std.proofs.Common.{◌≡◌, ◌<◌, ◌≤◌, ℕ, pos, List, [], ◌∷◌, map, length, take, drop, refl, sym, ap, ◌∙◌, arith, length-take}
use Rattle.elementwise.proofs.Words.{ext_get_or, Leaf, Little, Scalar, Byte, Int, Bytes, Descr, LeafValue, number, text, size, decode, integer, number_in, width_size, low_bits-integer, item_size, leaves_of, leaf_at, no_leaf, AreAlike, item_from, AreBytes, bytes-drop, bytes-take, number-lt, truth-twice, BoolScalar, ScalarDescr, RecordDescr, cast_value, cast_values, cast_item}
use Rattle.elementwise.proofs.NulLaws.{text_stays}

-- descriptors are alike if all their leaves are the same
pub alike : (a b : Descr) (k : ℕ) → item_size a ≡ item_size b → length (leaves_of a) ≡ length (leaves_of b) → length (leaves_of a) ≤ k → ((i : ℕ) → i < k → leaf_at a i ≡ leaf_at b i) → AreAlike a b
alike a b k sized even whole same = record { leaves = ext_get_or no_leaf (leaves_of a) (leaves_of b) even (λ i low. same i (omega (arith, low, whole))); size = sized }

-- ---- bytes

-- a value that was read is a value of its scalar
value_stays : (scalar : Scalar) (bytes : List ℕ) → AreBytes bytes → length bytes ≤ size scalar → cast_value scalar (decode scalar bytes) ≡ decode scalar bytes
value_stays BoolScalar bytes are few = ap (λ n. number (pos n)) (truth-twice (number_in Little 1 bytes))
value_stays (Byte signed) bytes are few = ap (λ bits. number (integer signed 1 bits)) (low_bits-integer signed 1 (number_in Little 1 bytes) (number-lt Little 1 bytes are))
value_stays (Int signed width order) bytes are few = ap (λ bits. number (integer signed (width_size width) bits)) (low_bits-integer signed (width_size width) (number_in order (width_size width) bytes) (number-lt order (width_size width) bytes are))
value_stays (Bytes n) bytes are few = ap text (text_stays n bytes few)

abbrev value_from : ℕ → List ℕ → ℕ → Leaf → LeafValue
value_from item bytes o leaf = decode leaf.scalar (take (size leaf.scalar) (drop leaf.at (take item (drop o bytes))))

read_stays : (item o : ℕ) (bytes : List ℕ) (leaf : Leaf) → AreBytes bytes → cast_value leaf.scalar (value_from item bytes o leaf) ≡ value_from item bytes o leaf
read_stays item o bytes leaf are =
    let rest = drop leaf.at (take item (drop o bytes)) in
    value_stays leaf.scalar (take (size leaf.scalar) rest) (bytes-take (size leaf.scalar) rest (bytes-drop leaf.at (take item (drop o bytes)) (bytes-take item (drop o bytes) (bytes-drop o bytes are)))) (omega (arith, length-take (size leaf.scalar) rest))

all_stay : (read : Leaf → LeafValue) (leaves : List Leaf) → ((leaf : Leaf) → cast_value leaf.scalar (read leaf) ≡ read leaf) → cast_values leaves (map read leaves) ≡ map read leaves
all_stay read [] stays = refl
all_stay read (leaf ∷ leaves) stays = λ i. stays leaf i ∷ all_stay read leaves stays i

pub item_stays : (from to : Descr) (bytes : List ℕ) (o : ℕ) → AreBytes bytes → AreAlike from to → cast_item from to (item_from from bytes o) ≡ item_from to bytes o
item_stays (ScalarDescr from) to bytes o are is =
    let one : Leaf = record { scalar = from; at = 0 } in
    ap (map (λ leaf. cast_value leaf.scalar (value_from (size from) bytes o one))) (sym is.leaves)
    ∙ (λ i. read_stays (size from) o bytes one are i ∷ [])
    ∙ (λ i. map (value_from (is.size i) bytes o) (is.leaves i))
item_stays (RecordDescr from) to bytes o are is =
    ap (λ leaves. cast_values leaves (item_from (RecordDescr from) bytes o)) (sym is.leaves)
    ∙ all_stay (value_from from.size bytes o) (leaves_of (RecordDescr from)) (λ leaf. read_stays from.size o bytes leaf are)
    ∙ (λ i. map (value_from (is.size i) bytes o) (is.leaves i))

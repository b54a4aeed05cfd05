-- Numbers that are compared as numbers of a larger scalar, which holds their values.
use Rattle.std.proofs.Common.{◌≡◌, ◌-◌, ◌*◌, ◌^◌, ◌<◌, ◌≤◌, inl, inr, ℕ, zero, suc, true, false, Bool, cond, List, [], ◌∷◌, map, take, drop, refl, sym, ap, subst, ◌∙◌, arith, ℤ, pos, negsuc, unsigned_abs}
use Rattle.elementwise.proofs.Words.{pow-lt, ints, Little, Eight, Scalar, Byte, Int, Bytes, Descr, LeafValue, number, IsNumber, IsValueOf, FitsBytes, size, width_size, number_in, truth, number_of, decode, wrap_stays, some_bytes, fits_eight_bytes, integer-fits, truth_suc, item_from, AreBytes, bytes-drop, bytes-take, number-lt, Layout, offsets, view_through, broadcast_index, Comparison, place, item_in, number_of_side, Side, is_signed, is_text, little, BoolScalar, ScalarDescr, cast_item, compared, value_in, compared_item, stretched_items, pairwise, compared_value, Holds, AreHeld}
use Rattle.elementwise.proofs.LeafLaws.{cast_number}
use Rattle.elementwise.proofs.PairLaws.{pairwise-map}

-- ---- values of a scalar

truth-is : (n : ℕ) → IsValueOf BoolScalar (pos (truth n))
truth-is zero = inl refl
truth-is (suc n) = inr (ap pos (truth_suc n))

-- a number that is read is a value of its scalar
pub value-of : (s : Scalar) (bytes : List ℕ) → AreBytes bytes → IsNumber s → IsValueOf s (number_of (decode s bytes))
value-of BoolScalar bytes are is = truth-is (number_in Little 1 bytes)
value-of (Byte signed) bytes are is = integer-fits signed 1 (number_in Little 1 bytes) (omega arith) (number-lt Little 1 bytes are)
value-of (Int signed width order) bytes are is = integer-fits signed (width_size width) (number_in order (width_size width) bytes) (some_bytes width) (number-lt order (width_size width) bytes are)
value-of (Bytes n) bytes are never = absurd never

-- the distance from 0
fits-small : (signed : Bool) (n : ℕ) (z : ℤ) → 1 ≤ n → FitsBytes signed n z → unsigned_abs z < 2 ^ (8 * n)
fits-small false n (pos a) some fits = omega (arith, ints, fits.1)
fits-small false n (negsuc a) some fits = absurd (omega (arith, ints, fits.0))
fits-small true n (pos a) some fits = let half : 2 ^ (8 * n - 1) < 2 ^ (8 * n) = pow-lt (omega (arith, some)) in omega (arith, ints, fits.1, half)
fits-small true n (negsuc a) some fits = let half : 2 ^ (8 * n - 1) < 2 ^ (8 * n) = pow-lt (omega (arith, some)) in omega (arith, ints, fits.0, half)

value-small : (s : Scalar) (z : ℤ) → IsValueOf s z → unsigned_abs z < 2 ^ (8 * size s)
value-small BoolScalar z (inl e) = let none : unsigned_abs z ≡ 0 = ap unsigned_abs e in omega (arith, none)
value-small BoolScalar z (inr e) = let one : unsigned_abs z ≡ 1 = ap unsigned_abs e in omega (arith, one)
value-small (Byte signed) z fits = fits-small signed 1 z (omega arith) fits
value-small (Int signed width order) z fits = fits-small signed (width_size width) z (some_bytes width) fits
value-small (Bytes n) z never = absurd never

pub side-small : (s : Scalar) (side : Side) (k width : ℕ) → AreBytes side.bytes.now → IsNumber s → size s ≡ width → unsigned_abs (number_of_side s side k) < 2 ^ (8 * width)
side-small s side k width are is wide =
    let at = place side.run.offset side.run.step k in
    let bytes = bytes-take side.width (drop at side.bytes.now) (bytes-drop at side.bytes.now are) in
    subst (λ n. unsigned_abs (number_of_side s side k) < 2 ^ (8 * n)) wide (value-small s (number_of_side s side k) (value-of s (item_in side k) bytes is))

-- the byte order makes no difference
pub little-little : (s : Scalar) → little (little s) ≡ little s
little-little BoolScalar = refl
little-little (Byte signed) = refl
little-little (Int signed width order) = refl
little-little (Bytes n) = refl

widened-byte : (signed : Bool) (z : ℤ) → FitsBytes signed 1 z → FitsBytes signed 8 z
widened-byte false z fits = (fits.0, omega (arith, ints, fits.1))
widened-byte true z fits = (omega (arith, ints, fits.0), omega (arith, ints, fits.1))

pub holds-wide : (s : Scalar) → IsNumber s → Holds s (Int (is_signed s) Eight Little)
holds-wide BoolScalar is z (inl e) = (omega (arith, ints, e), omega (arith, ints, e))
holds-wide BoolScalar is z (inr e) = (omega (arith, ints, e), omega (arith, ints, e))
holds-wide (Byte signed) is z fits = widened-byte signed z fits
holds-wide (Int signed width order) is z fits = fits_eight_bytes signed width z fits
holds-wide (Bytes n) never z fits = absurd never

-- ---- items

pub is-number : (s : Scalar) (bytes : List ℕ) → IsNumber s → number (number_of (decode s bytes)) ≡ decode s bytes
is-number BoolScalar bytes is = refl
is-number (Byte signed) bytes is = refl
is-number (Int signed width order) bytes is = refl
is-number (Bytes n) bytes never = absurd never

-- an item that is cast keeps its value
kept-value : (s t : Scalar) (block : List ℕ) (o : ℕ) → AreBytes block → IsNumber s → IsNumber t → Holds s t → value_in (cast_item (ScalarDescr s) (ScalarDescr t) (item_from (ScalarDescr s) block o)) ≡ value_in (item_from (ScalarDescr s) block o)
kept-value s t block o are is is' holds =
    let bytes = take (size s) (drop 0 (take (size s) (drop o block))) in
    let all : AreBytes bytes = bytes-take (size s) (drop 0 (take (size s) (drop o block))) (bytes-drop 0 (take (size s) (drop o block)) (bytes-take (size s) (drop o block) (bytes-drop o block are))) in
    let z = number_of (decode s bytes) in
    cast_number t (decode s bytes) is' ∙ ap number (wrap_stays t z (holds z (value-of s bytes all is))) ∙ is-number s bytes is

compared-numbers : (comparison : Comparison) (s s' : Scalar) (bytes bytes' : List ℕ) → IsNumber s → IsNumber s' → compared_value comparison (decode s bytes) (decode s' bytes') ≡ number (cond (compared comparison (decode s bytes) (decode s' bytes')) (pos 1) (pos 0))
compared-numbers comparison s s' bytes bytes' is is' =
    λ i. number (cond (compared comparison (is-number s bytes is i) (is-number s' bytes' is' i)) (pos 1) (pos 0))

-- ---- all items

pub number-no_text : (s : Scalar) → IsNumber s → is_text s ≡ false
number-no_text BoolScalar is = refl
number-no_text (Byte signed) is = refl
number-no_text (Int signed width order) is = refl
number-no_text (Bytes n) never = absurd never

one_pair : (comparison : Comparison) (s s' t t' : Scalar) (block block' : List ℕ) (o o' : ℕ) → IsNumber s → IsNumber s' → IsNumber t → IsNumber t' → Holds s t → Holds s' t' → AreBytes block → AreBytes block' →
    compared_value comparison (value_in (cast_item (ScalarDescr s) (ScalarDescr t) (item_from (ScalarDescr s) block o))) (value_in (cast_item (ScalarDescr s') (ScalarDescr t') (item_from (ScalarDescr s') block' o'))) ∷ []
    ≡ compared_item comparison (item_from (ScalarDescr s) block o) (item_from (ScalarDescr s') block' o')
one_pair comparison s s' t t' block block' o o' is is' isn isn' holds holds' are are' =
    (λ i. compared_value comparison (kept-value s t block o are is isn holds i) (kept-value s' t' block' o' are' is' isn' holds' i) ∷ [])
    ∙ ap (λ value. value ∷ []) (compared-numbers comparison s s' _ _ is is')

-- the results are those for the items before they were cast
pub compared_all : (comparison : Comparison) (t t' : Scalar) (d d' : Descr) (block block' : List ℕ) (l l' : Layout) (shape : List ℕ) → AreHeld d t → AreHeld d' t' → IsNumber t → IsNumber t' → AreBytes block → AreBytes block' →
    pairwise (λ x y. compared_value comparison (value_in (cast_item d (ScalarDescr t) x)) (value_in (cast_item d' (ScalarDescr t') y)) ∷ []) (stretched_items d block l shape) (stretched_items d' block' l' shape)
    ≡ pairwise (compared_item comparison) (stretched_items d block l shape) (stretched_items d' block' l' shape)
compared_all comparison t t' d d' block block' l l' shape held held' isn isn' are are' =
    let s = held.0 in
    let s' = held'.0 in
    let one = held.1 in
    let two = held'.1 in
    let xs = view_through (offsets l) l.shape shape (broadcast_index l.shape) in
    let ys = view_through (offsets l') l'.shape shape (broadcast_index l'.shape) in
    let read = item_from (ScalarDescr s) block in
    let read' = item_from (ScalarDescr s') block' in
    let cast = λ (x y : List LeafValue). compared_value comparison (value_in (cast_item (ScalarDescr s) (ScalarDescr t) x)) (value_in (cast_item (ScalarDescr s') (ScalarDescr t') y)) ∷ [] in
    (λ i. pairwise (λ x y. compared_value comparison (value_in (cast_item (one i) (ScalarDescr t) x)) (value_in (cast_item (two i) (ScalarDescr t') y)) ∷ []) (map (item_from (one i) block) xs) (map (item_from (two i) block') ys))
    ∙ pairwise-map cast read read' xs ys
    ∙ (λ i. pairwise (λ a b. one_pair comparison s s' t t' block block' a b held.2 held'.2 isn isn' held.3 held'.3 are are' i) xs ys)
    ∙ sym (pairwise-map (compared_item comparison) read read' xs ys)
    ∙ (λ i. pairwise (compared_item comparison) (stretched_items (sym one i) block l shape) (stretched_items (sym two i) block' l' shape))

-- Numbers that are compared with one integer.
use Rattle.std.proofs.Common.{◌≡◌, ◌*◌, ◌-◌, ◌^◌, ◌≤◌, ◌<◌, ◌⊎◌, inl, inr, ℕ, zero, suc, Bool, true, false, Ok, Err, List, [], ◌∷◌, ◌++◌, map, length, get_or, take, drop, replicate, refl, sym, ap, ◌∙◌, arith, ℤ, pos, negsuc, neg_ℤ, ◌≤ℤ◌, ◌<ℤ◌, int_lt, not, ◌==◌, ◌&&◌, ◌||◌}
use Rattle.elementwise.proofs.Words.{ints, pow_pos, take_all, length-replicate, get_or-replicate, take-replicate, drop-replicate, fill_by_all, range_with_len, flat_map, map-map, splat_is_map, Refusal, NotForThisKind, Little, Descr, LeafValue, number, encode_item, item_from, Layout, count, indexes, rank, length-indexes, offsets, multiples, length-offsets, all_stretch, can_stretch, broadcast_index, stretched-self, Owned, owned_items, Comparison, Scalar, Byte, Int, Bytes, IsNumber, IsValueOf, FitsBytes, size, width_size, wrap, number_of, decode, wrap_stays, AreBytes, bytes-drop, bytes-take, is_text, little, ScalarDescr, BoolScalar, says, compared, scalar_of, integer_compared_result, compared_item, truth_item, stretched_items, pairwise, bool_byte}
use Rattle.elementwise.proofs.PairLaws.{pairwise-map}
use Rattle.elementwise.proofs.AppliedLaws.{pairwise-same}
use Rattle.elementwise.proofs.HeldLaws.{value-of, is-number}

-- ---- integers that are not values of the scalar

order-of : (a b : ℤ) (test : Bool) → int_lt a b ≡ test → (a <ℤ b) ⊎ (b ≤ℤ a)
order-of a b true is = inl (omega (arith, ints, is))
order-of a b false is = inr (omega (arith, ints, is))

order : (a b : ℤ) → (a <ℤ b) ⊎ (b ≤ℤ a)
order a b = order-of a b (int_lt a b) refl

-- `z` is above `v` if it is above 0, and below `v` otherwise
abbrev LiesBeyond : ℤ → ℤ → Type 0
LiesBeyond v z = (int_lt v z ≡ int_lt (pos 0) z) × (int_lt z v ≡ not (int_lt (pos 0) z))

above : (v z : ℤ) → pos 0 <ℤ z → v <ℤ z → LiesBeyond v z
above v z some is =
    let here : int_lt (pos 0) z ≡ true = grind (arith, ints) in
    let less : int_lt v z ≡ true = grind (arith, ints) in
    let more : int_lt z v ≡ false = grind (arith, ints) in
    rw (here, less, more) (refl, refl)

below : (v z : ℤ) → z ≤ℤ pos 0 → z <ℤ v → LiesBeyond v z
below v z none is =
    let here : int_lt (pos 0) z ≡ false = grind (arith, ints) in
    let less : int_lt v z ≡ false = grind (arith, ints) in
    let more : int_lt z v ≡ true = grind (arith, ints) in
    rw (here, less, more) (refl, refl)

-- integers outside an interval that contains 0
interval : (low high v z : ℤ) → low ≤ℤ pos 0 → pos 0 <ℤ high → low ≤ℤ v → v <ℤ high → (low ≤ℤ z → z <ℤ high → ⊥) → LiesBeyond v z
interval low high v z under over least most none = elim (order (pos 0) z) [
  | inl some ↦ elim (order z high) [
    | inl within ↦ absurd (none (omega (arith, ints)) within)
    | inr beyond ↦ above v z some (omega (arith, ints))
  ]
  | inr few ↦ elim (order z low) [
    | inl beyond ↦ below v z few (omega (arith, ints))
    | inr within ↦ absurd (none within (omega (arith, ints)))
  ]
]

beyond_fits : (signed : Bool) (n : ℕ) (v z : ℤ) → FitsBytes signed n v → (FitsBytes signed n z → ⊥) → LiesBeyond v z
beyond_fits false n v z fits none =
    let some : 0 < 2 ^ (8 * n) = pow_pos (8 * n) in
    interval (pos 0) (pos (2 ^ (8 * n))) v z (omega (arith, ints)) (omega (arith, ints, some)) fits.0 fits.1 (λ low high. none (low, high))
beyond_fits true n v z fits none =
    let some : 0 < 2 ^ (8 * n - 1) = pow_pos (8 * n - 1) in
    interval (neg_ℤ (pos (2 ^ (8 * n - 1)))) (pos (2 ^ (8 * n - 1))) v z (omega (arith, ints, some)) (omega (arith, ints, some)) fits.0 fits.1 (λ low high. none (low, high))

truth-value : (z : ℤ) → pos 0 ≤ℤ z → z <ℤ pos 2 → IsValueOf BoolScalar z
truth-value (pos zero) low high = inl refl
truth-value (pos (suc zero)) low high = inr refl
truth-value (pos (suc (suc n))) low high = absurd (omega (arith, ints, high))
truth-value (negsuc n) low high = absurd (omega (arith, ints, low))

truth-least : (v : ℤ) → IsValueOf BoolScalar v → (pos 0 ≤ℤ v) × (v <ℤ pos 2)
truth-least v (inl e) = (omega (arith, ints, e), omega (arith, ints, e))
truth-least v (inr e) = (omega (arith, ints, e), omega (arith, ints, e))

beyond_values : (s : Scalar) (v z : ℤ) → IsNumber s → IsValueOf s v → (wrap (little s) z ≡ z → ⊥) → LiesBeyond v z
beyond_values BoolScalar v z is fits none =
    let within = truth-least v fits in
    interval (pos 0) (pos 2) v z (omega (arith, ints)) (omega (arith, ints)) within.0 within.1 (λ low high. none (wrap_stays BoolScalar z (truth-value z low high)))
beyond_values (Byte signed) v z is fits none = beyond_fits signed 1 v z fits (λ held. none (wrap_stays (Byte signed) z held))
beyond_values (Int signed width order) v z is fits none = beyond_fits signed (width_size width) v z fits (λ held. none (wrap_stays (Int signed width Little) z held))
beyond_values (Bytes n) v z never fits none = absurd never

-- the result of a comparison is the same for all items
one_beyond : (comparison : Comparison) (s : Scalar) (block : List ℕ) (o : ℕ) (z : ℤ) → AreBytes block → IsNumber s → (wrap (little s) z ≡ z → ⊥) →
    truth_item (says comparison (int_lt (pos 0) z) (not (int_lt (pos 0) z))) ≡ compared_item comparison (item_from (ScalarDescr s) block o) (number z ∷ [])
one_beyond comparison s block o z are is none =
    let bytes = take (size s) (drop 0 (take (size s) (drop o block))) in
    let all : AreBytes bytes = bytes-take (size s) (drop 0 (take (size s) (drop o block))) (bytes-drop 0 (take (size s) (drop o block)) (bytes-take (size s) (drop o block) (bytes-drop o block are))) in
    let lies = beyond_values s (number_of (decode s bytes)) z is (value-of s bytes all is) none in
    (λ i. truth_item (says comparison (sym lies.0 i) (sym lies.1 i)))
    ∙ (λ i. truth_item (compared comparison (is-number s bytes is i) (number z)))

pub all_beyond : (comparison : Comparison) (s : Scalar) (d : Descr) (block : List ℕ) (l : Layout) (z : ℤ) (holds : Bool) → d ≡ ScalarDescr s → AreBytes block → IsNumber s → (wrap (little s) z ≡ z → ⊥) →
    holds ≡ says comparison (int_lt (pos 0) z) (not (int_lt (pos 0) z)) → replicate (count l.shape) (truth_item holds) ≡ map (λ offset. compared_item comparison (item_from d block offset) (number z ∷ [])) (offsets l)
all_beyond comparison s d block l z holds one are is none said =
    splat_is_map (offsets l) (count l.shape) (truth_item holds) (length-offsets l)
    ∙ (λ i. map (λ _. truth_item (said i)) (offsets l))
    ∙ (λ i. map (λ offset. one_beyond comparison s block offset z are is none i) (offsets l))
    ∙ (λ i. map (λ offset. compared_item comparison (item_from (sym one i) block offset) (number z ∷ [])) (offsets l))

-- one bool, repeated
bool_read : (holds : Bool) (n k : ℕ) → k < n → item_from (ScalarDescr BoolScalar) (replicate n (bool_byte holds)) (1 * k) ≡ truth_item holds
bool_read holds n k low =
    let byte : ℕ = bool_byte holds in
    let at : 1 * k ≡ k = omega arith in
    let few : 1 ≤ n - k = omega arith in
    (λ i. item_from (ScalarDescr BoolScalar) (replicate n byte) (at i))
    ∙ (λ i. decode BoolScalar (take 1 (take 1 (drop-replicate k n byte i))) ∷ [])
    ∙ (λ i. decode BoolScalar (take 1 (take-replicate 1 (n - k) byte few i)) ∷ [])
    ∙ elim holds as (λ t. (decode BoolScalar (take 1 (replicate 1 (bool_byte t))) ∷ []) ≡ truth_item t) [ true ↦ refl | false ↦ refl ]

alike_read : (holds : Bool) (n : ℕ) → map (item_from (ScalarDescr BoolScalar) (replicate n (bool_byte holds))) (multiples 1 n) ≡ replicate n (truth_item holds)
alike_read holds n =
    let all = replicate n (bool_byte holds) in
    let read = λ (k : ℕ). item_from (ScalarDescr BoolScalar) all (1 * k) in
    map-map (item_from (ScalarDescr BoolScalar) all) (λ (k : ℕ). 1 * k) (range_with_len 0 n)
    ∙ sym (fill_by_all read (replicate n (truth_item holds)) n [] (length-replicate n (truth_item holds)) (λ k low. get_or-replicate n k (truth_item holds) [] low ∙ sym (bool_read holds n k low)))

bool_bytes : (holds : Bool) → (bool_byte holds ∷ []) ≡ encode_item (ScalarDescr BoolScalar) (truth_item holds)
bool_bytes true = refl
bool_bytes false = refl

alike_encoded : (holds : Bool) (n : ℕ) → replicate n (bool_byte holds) ≡ flat_map (encode_item (ScalarDescr BoolScalar)) (replicate n (truth_item holds))
alike_encoded holds zero = refl
alike_encoded holds (suc n) = λ i. bool_bytes holds i ++ alike_encoded holds n i

pub alike_made : (holds : Bool) (shape b : List ℕ) (n : ℕ) → b ≡ replicate n (bool_byte holds) → n ≡ count shape →
    (map (item_from (ScalarDescr BoolScalar) b) (multiples 1 (count shape)) ≡ replicate (count shape) (truth_item holds)) × (b ≡ flat_map (encode_item (ScalarDescr BoolScalar)) (replicate (count shape) (truth_item holds)))
alike_made holds shape b n filled many =
    let is : b ≡ replicate (count shape) (bool_byte holds) = filled ∙ λ i. replicate (many i) (bool_byte holds) in
    ((λ i. map (item_from (ScalarDescr BoolScalar) (is i)) (multiples 1 (count shape))) ∙ alike_read holds (count shape), is ∙ alike_encoded holds (count shape))

-- ---- integers that are values of the scalar

-- an array of one item can be stretched to any shape
ones-stretch : (k : ℕ) (shape : List ℕ) → k ≡ length shape → all_stretch (replicate k 1 ++ []) shape ≡ true
ones-stretch zero [] is = refl
ones-stretch zero (n ∷ shape) is = absurd (omega (arith, is))
ones-stretch (suc k) [] is = absurd (omega (arith, is))
ones-stretch (suc k) (n ∷ shape) is =
    elim (1 == n) as (λ t. ((t || true) && all_stretch (replicate k 1 ++ []) shape) ≡ true) [ true ↦ ones-stretch k shape (omega (arith, is)) | false ↦ ones-stretch k shape (omega (arith, is)) ]

pub one-stretches : (shape target : List ℕ) → shape ≡ [] → can_stretch shape target ≡ true
one-stretches shape target is = ap (λ s. can_stretch s target) is ∙ ones-stretch (length target - 0) target (omega arith)

first_item : (f : ℕ → List LeafValue) (os : List ℕ) (item : List LeafValue) → map f os ≡ item ∷ [] → f (get_or os 0 0) ≡ item
first_item f [] item is = absurd (omega (arith, ap length is))
first_item f (o ∷ os) item is = cc

one-stretched : (d : Descr) (block : List ℕ) (l : Layout) (shape : List ℕ) (item : List LeafValue) → l.shape ≡ [] → map (item_from d block) (offsets l) ≡ item ∷ [] → stretched_items d block l shape ≡ replicate (count shape) item
one-stretched d block l shape item point is =
    let x = get_or (offsets l) 0 0 in
    (λ i. map (item_from d block) (map (λ index. get_or (offsets l) (rank (point i) (broadcast_index (point i) index)) 0) (indexes shape)))
    ∙ map-map (item_from d block) (λ (index : List ℕ). x) (indexes shape)
    ∙ (λ i. map (λ (index : List ℕ). first_item (item_from d block) (offsets l) item is i) (indexes shape))
    ∙ sym (splat_is_map (indexes shape) (count shape) item (length-indexes shape))

pub all_held : (comparison : Comparison) (d d' : Descr) (block block' : List ℕ) (l l' : Layout) (item : List LeafValue) → l'.shape ≡ [] → map (item_from d' block') (offsets l') ≡ item ∷ [] →
    pairwise (compared_item comparison) (stretched_items d block l l.shape) (stretched_items d' block' l' l.shape) ≡ map (λ offset. compared_item comparison (item_from d block offset) item) (offsets l)
all_held comparison d d' block block' l l' item point is =
    let read = item_from d block in
    (λ i. pairwise (compared_item comparison) (map read (stretched-self l i)) (one-stretched d' block' l' l.shape item point is i))
    ∙ ap (pairwise (compared_item comparison) (map read (offsets l))) (splat_is_map (offsets l) (count l.shape) item (length-offsets l))
    ∙ pairwise-map (compared_item comparison) read (λ _. item) (offsets l) (offsets l)
    ∙ pairwise-same (λ x y. compared_item comparison (read x) item) (offsets l)

pub one_read : (s : Scalar) (o : Owned) (shape b : List ℕ) → shape ≡ [] → o.descr ≡ ScalarDescr s → offsets o.layout ≡ multiples (size s) (count shape) → o.block ≡ b → length b ≡ size s → owned_items o ≡ (decode s b ∷ []) ∷ []
one_read s o shape b point descr order block whole =
    let first : size s * 0 ≡ 0 = omega arith in
    (λ i. map (item_from (descr i) (block i)) (order i))
    ∙ (λ i. map (item_from (ScalarDescr s) b) (multiples (size s) (count (point i))))
    ∙ (λ i. item_from (ScalarDescr s) b (first i) ∷ [])
    ∙ (λ i. (decode s (take (size s) (take_all (size s) b (omega (arith, whole)) i)) ∷ []) ∷ [])
    ∙ (λ i. (decode s (take_all (size s) b (omega (arith, whole)) i) ∷ []) ∷ [])

-- ---- results

-- operands that are not numbers are refused
module _ (d : Descr) (shape : List ℕ) where
  pub operand_refused : (e : Refusal) → scalar_of d ≡ Err e → integer_compared_result d shape ≡ Err e
  unfolding integer_compared_result
  operand_refused e is = rw is refl

  pub text_refused : (a : Scalar) → scalar_of d ≡ Ok a → is_text a ≡ true → integer_compared_result d shape ≡ Err NotForThisKind
  unfolding integer_compared_result
  text_refused a is text = rw (is, text) refl

  pub one_given : (a : Scalar) → scalar_of d ≡ Ok a → is_text a ≡ false → integer_compared_result d shape ≡ Ok (ScalarDescr BoolScalar, shape)
  unfolding integer_compared_result
  one_given a is text = rw (is, text) refl

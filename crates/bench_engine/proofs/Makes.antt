-- The contents of the arrays that commands make, for each way in which a command may end.
use Rattle.std.proofs.Common.{◌≡◌, ◌≢◌, ◌≤◌, ◌*◌, ℕ, zero, suc, ℤ, List, [], ◌∷◌, length, drop, map, replicate, refl, sym, ap, ◌∙◌, Result, Ok, Err, IfOk, IfErr, nat_le, if◌then◌else◌, ◌⊎◌, inl, inr, arith}
use Rattle.bench_engine.proofs.Words.{le-leb, ne_eqb, eq-eqb, length-map, Refusal, OutOfMemory, TooLarge, NumberOfValues, Scalar, Descr, Gives, Answers, descriptor, size, item_size, decode_item, blocks, items_in, LeafValue, max_bytes, max_items, C, count, offsets, offsets_in, shape_of, Literal, Owned, item_value, item_values, range_items, ScalarDescr, array_type, zeros_contents, full_contents, array_contents, arange_contents, integer_scalar, range_scalar, held, IsInCOrder}
use Rattle.bench_engine.specs.NewArrayLaws.{held-is, in-order}
use Rattle.bench_engine.proofs.StretchLaws.{map-replicate}
use Rattle.bench_engine.proofs.Zeros.{items_in-zeros}

zeros-done : (text lengths : List ℕ) (descr : Descr) (shape : List ℕ) (o : Owned) → array_type text lengths ≡ Ok (descr, shape) → o.descr ≡ descr → o.layout.shape ≡ shape → o.block ≡ replicate (count shape * item_size descr) 0 → offsets o.layout ≡ offsets_in C (item_size descr) shape →
    zeros_contents text lengths ≡ Ok (held o)
unfolding zeros_contents
zeros-done text lengths descr shape o good typed shaped filled laid =
    rw good (ap Ok (held-is o descr shape (replicate (count shape * item_size descr) 0) _ typed shaped filled (sym (items_in-zeros descr (count shape) (count shape * item_size descr))) (in-order o descr shape typed shaped laid)))

pub zeros-made : (text lengths : List ℕ) (descr : Descr) (shape : List ℕ) (owned : Result Owned Refusal) → array_type text lengths ≡ Ok (descr, shape) → count shape * item_size descr ≤ max_bytes → IfOk owned (λ o. o.descr ≡ descr) →
    IfOk owned (λ o. o.layout.shape ≡ shape) → IfOk owned (λ o. o.block ≡ replicate (count shape * item_size descr) 0) → IfOk owned (λ o. offsets o.layout ≡ offsets_in C (item_size descr) shape) →
    IfErr owned (λ e. e ≡ (if nat_le (count shape * item_size descr) max_bytes then OutOfMemory else TooLarge)) → Gives held owned (zeros_contents text lengths)
zeros-made text lengths descr shape (Ok o) good small typed shaped filled laid refused = zeros-done text lengths descr shape o good typed shaped filled laid
zeros-made text lengths descr shape (Err e) good small typed shaped filled laid refused =
    inl (refused ∙ ap (λ yes. if yes then OutOfMemory else TooLarge) (le-leb (count shape * item_size descr) max_bytes small))

pub full-done : (text lengths : List ℕ) (literal : Literal) (descr : Descr) (shape item bytes : List ℕ) (o : Owned) → array_type text lengths ≡ Ok (descr, shape) → item_value descr literal ≡ Ok (decode_item descr item) →
    length item ≡ item_size descr → blocks (length item) (count shape) bytes ≡ replicate (count shape) item → o.descr ≡ descr → o.layout.shape ≡ shape → o.block ≡ bytes → offsets o.layout ≡ offsets_in C (item_size descr) shape → full_contents text lengths literal ≡ Ok (held o)
unfolding full_contents
full-done text lengths literal descr shape item bytes o good value whole copies typed shaped filled laid =
    rw (good, value) (ap Ok (held-is o descr shape bytes (replicate (count shape) (decode_item descr item)) typed shaped filled items (in-order o descr shape typed shaped laid)))
  where
    items : replicate (count shape) (decode_item descr item) ≡ items_in descr (count shape) bytes
    items = sym (map-replicate (decode_item descr) (count shape) item) ∙ ap (map (decode_item descr)) (sym copies) ∙ ap (λ n. map (decode_item descr) (blocks n (count shape) bytes)) whole

pub array-number : (text lengths : List ℕ) (literals : List Literal) (descr : Descr) (shape : List ℕ) → array_type text lengths ≡ Ok (descr, shape) → length literals ≢ count shape → array_contents text lengths literals ≡ Err NumberOfValues
unfolding array_contents
array-number text lengths literals descr shape good other = rw (good, ne_eqb (length literals) (count shape) other) refl

pub array-done : (text lengths : List ℕ) (literals : List Literal) (descr : Descr) (shape bytes : List ℕ) (o : Owned) → array_type text lengths ≡ Ok (descr, shape) → length literals ≡ count shape →
    item_values descr literals ≡ Ok (map (decode_item descr) (blocks (item_size descr) (length literals) bytes)) → o.descr ≡ descr → o.layout.shape ≡ shape → o.block ≡ bytes → offsets o.layout ≡ offsets_in C (item_size descr) shape → array_contents text lengths literals ≡ Ok (held o)
unfolding array_contents
array-done text lengths literals descr shape bytes o good many values typed shaped filled laid =
    rw (good, eq-eqb (length literals) (count shape) many, values) (ap Ok (held-is o descr shape bytes _ typed shaped filled (ap (λ n. items_in descr n bytes) many) (in-order o descr shape typed shaped laid)))

integer-is : (text : List ℕ) (descr : Descr) (scalar : Result Scalar Refusal) → descriptor text ≡ Ok descr → integer_scalar descr ≡ scalar → range_scalar text ≡ scalar
unfolding range_scalar
integer-is text descr scalar good kind = rw good kind

pub integer-given : (text : List ℕ) (descr : Descr) (scalar : Result Scalar Refusal) → descriptor text ≡ Ok descr → Answers (λ s. s) scalar (integer_scalar descr) → Gives (λ s. s) scalar (range_scalar text)
integer-given text descr (Ok scalar) good is = integer-is text descr (Ok scalar) good is
integer-given text descr (Err e) good is = inr (integer-is text descr (Err e) good is)

-- a shape of one axis
one_axis : (n : ℕ) → n ≤ max_items → shape_of (n ∷ []) ≡ Ok (n ∷ [])
unfolding shape_of
one_axis n few = let once : n * 1 ≤ max_items = omega arith in rw (le-leb n max_items few, le-leb (n * 1) max_items once) refl

pub range-shape : (n : ℕ) (shape : List ℕ) → n ≤ max_items → shape_of (n ∷ []) ≡ Ok shape → shape ≡ n ∷ []
range-shape n shape few is = let same : Ok (n ∷ []) ≡ Ok shape = sym (one_axis n few) ∙ is in cc

pub range-shape-refused : (n : ℕ) (e : Refusal) → n ≤ max_items → (e ≡ OutOfMemory) ⊎ (shape_of (n ∷ []) ≡ Err e) → e ≡ OutOfMemory
range-shape-refused n e few (inl lacks) = lacks
range-shape-refused n e few (inr bad) = let no : Ok (n ∷ []) ≡ Err e = sym (one_axis n few) ∙ bad in cc

length-blocks : {A : Type 0} (width n : ℕ) (xs : List A) → length (blocks width n xs) ≡ n
length-blocks width zero xs = refl
length-blocks width (suc n) xs = ap suc (length-blocks width n (drop width xs))

pub arange-done : (text : List ℕ) (start stop step : ℤ) (scalar : Scalar) (n : ℕ) (bytes : List ℕ) (o : Owned) → range_scalar text ≡ Ok scalar →
    range_items scalar start stop step ≡ Ok (map (decode_item (ScalarDescr scalar)) (blocks (size scalar) n bytes)) →
    o.descr ≡ ScalarDescr scalar → o.layout.shape ≡ n ∷ [] → o.block ≡ bytes → IsInCOrder o → arange_contents text start stop step ≡ Ok (held o)
unfolding arange_contents
arange-done text start stop step scalar n bytes o kind numbers typed shaped filled laid =
    rw (kind, numbers) (ap Ok (held-is o (ScalarDescr scalar) (length items ∷ []) bytes items typed (shaped ∙ ap (λ m. m ∷ []) (sym many)) filled is laid))
  where
    items : List (List LeafValue)
    items = map (decode_item (ScalarDescr scalar)) (blocks (size scalar) n bytes)

    many : length (map (decode_item (ScalarDescr scalar)) (blocks (size scalar) n bytes)) ≡ n
    many = length-map (blocks (size scalar) n bytes) (decode_item (ScalarDescr scalar)) ∙ length-blocks (size scalar) n bytes

    once : length items * 1 ≡ n
    once = omega (arith, many)

    is : items ≡ items_in (ScalarDescr scalar) (count (length items ∷ [])) bytes
    is = ap (λ m. items_in (ScalarDescr scalar) m bytes) (sym once)

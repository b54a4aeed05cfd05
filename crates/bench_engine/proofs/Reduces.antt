-- The result of a reduction.
use Rattle.std.proofs.Common.{◌≡◌, ◌<◌, ◌≤◌, ◌+◌, ℕ, ℤ, zero, suc, Bool, true, Option, Some, None, List, [], ◌∷◌, length, map, get_or, slice_index, IfOk, Result, Ok, Err, refl, sym, ap, ◌∙◌, inl, inr, arith}
use Rattle.bench_engine.proofs.Words.{remove, range_with_len, length-map, get_or-map, map-map, Refusal, BadAxis, Descr, Gives, item_from, LeafValue, check_test, bind_ok, C, count, indexes, rank, IsIndex, rank-lt, same_on_indexes, length-offsets, offsets, axis_below, from_front, Owned, Red, lists, named_axis, is_axis, IsAxisOf, IsIndex-insert, outcome_of, number_scalar, reduced_item, reduced_items, State, find_array, buffer_of, descr_of, read, span_of, placed_item, part_at, Shows, ArrayRef, Array, new_contents, reduced_contents, held, IsInCOrder}
use Rattle.std.specs.List.{insert}
use Rattle.reductions.specs.Outcomes as reductions
use Rattle.bench_engine.proofs.Copies.{made-held}

-- ---- lists of places and lists of offsets

same-range : {A : Type 0} (f g : ℕ → A) (a n : ℕ) → ((k : ℕ) → a ≤ k → k < a + n → f k ≡ g k) → map f (range_with_len a n) ≡ map g (range_with_len a n)
same-range f g a zero same = refl
same-range f g a (suc n) same = λ i. same a (omega arith) (omega arith) i ∷ same-range f g (a + 1) n (λ k low high. same k (omega (arith, low)) (omega (arith, high))) i

-- lists that agree item by item agree along an axis
lists-same : {A : Type 0} (f g : ℕ → A) (shape : List ℕ) (axis : Option ℕ) (xs ys : List ℕ) → IsAxisOf (length shape) axis → length xs ≡ count shape → map f xs ≡ map g ys → map (map f) (lists shape axis xs) ≡ map (map g) (lists shape axis ys)
lists-same f g shape None xs ys is whole same = λ i. same i ∷ []
lists-same f g shape (Some a) xs ys is whole same =
    map-map (map f) (row xs) (indexes (remove shape a))
    ∙ same_on_indexes (remove shape a) (λ index. map f (row xs index)) (λ index. map g (row ys index)) each
    ∙ sym (map-map (map g) (row ys) (indexes (remove shape a)))
  where
    n : ℕ
    n = slice_index shape a

    row : List ℕ → List ℕ → List ℕ
    row items index = map (λ k. slice_index items (rank shape (insert index a k))) (range_with_len 0 n)

    item : (k : ℕ) → k < length xs → f (slice_index xs k) ≡ g (slice_index ys k)
    item k low =
        let low' : k < length ys = omega (arith, low, length-map xs f, length-map ys g, ap length same) in
        sym (get_or-map f xs k 0 (f 0) low) ∙ ap (λ items. get_or items k (f 0)) same ∙ get_or-map g ys k 0 (f 0) low'

    each : (index : List ℕ) → IsIndex (remove shape a) index → map f (row xs index) ≡ map g (row ys index)
    each index in' =
        map-map f (λ k. slice_index xs (rank shape (insert index a k))) (range_with_len 0 n)
        ∙ same-range (λ k. f (slice_index xs (rank shape (insert index a k)))) (λ k. g (slice_index ys (rank shape (insert index a k)))) 0 n
        (λ k low high. item (rank shape (insert index a k)) (omega (arith, whole, rank-lt shape (insert index a k) (IsIndex-insert shape index a k is in' (omega (arith, high))))))
        ∙ sym (map-map g (λ k. slice_index ys (rank shape (insert index a k))) (range_with_len 0 n))

-- ---- the axis is one of the array's

axis-passed : (reduction : Red) (descr : Descr) (shape : List ℕ) (named : Option ℤ) (keep : Bool) (there : reductions.ReducedType) → reductions.reduced_type reduction descr shape named keep ≡ Ok there → is_axis (length shape) named ≡ true
unfolding reductions.reduced_type
axis-passed reduction descr shape named keep there is =
    let rest = bind_ok (number_scalar descr) _ there is in
    check_test (is_axis (length shape) named) BadAxis _ there rest.2

is-axis : (rank : ℕ) (named : Option ℤ) → is_axis rank named ≡ true → IsAxisOf rank (named_axis rank named)
is-axis rank None is = tt
is-axis rank (Some axis) is = axis_below rank (from_front rank axis) is

-- ---- the reduced array

reduced-bad : (s : State) (reduction : Red) (source : List ℕ) (a : Array) (axis : Option ℤ) (keep : Bool) (e : Refusal) → find_array s.names source ≡ Some a → reductions.reduced_type reduction (descr_of s a) a.shape axis keep ≡ Err e →
    reduced_contents s reduction source axis keep ≡ Err e
unfolding reduced_contents
reduced-bad s reduction source a axis keep e found bad = rw (found, bad) refl

reduced-done : (s : State) (reduction : Red) (source : List ℕ) (a : Array) (axis : Option ℤ) (keep : Bool) (there : reductions.ReducedType) → find_array s.names source ≡ Some a → reductions.reduced_type reduction (descr_of s a) a.shape axis keep ≡ Ok there →
    reduced_contents s reduction source axis keep ≡ Ok (new_contents there.descr there.shape (map (λ places. reduced_item reduction there.descr (read s (record a { places = places }))) (lists a.shape (named_axis (length a.shape) axis) a.places)))
unfolding reduced_contents
reduced-done s reduction source a axis keep there found good = rw (found, good) refl

pub reduced-gives : (s : State) (reduction : Red) (source : List ℕ) (a : Array) (r : ArrayRef) (axis : Option ℤ) (keep : Bool) (result : Result Owned Refusal) → find_array s.names source ≡ Some a → Shows s a r →
    Gives outcome_of result (reductions.reduced_type reduction r.descr.now r.layout.now.shape axis keep) → IfOk result IsInCOrder →
    IfOk result (λ o. map (item_from o.descr o.block) (offsets o.layout) ≡ reduced_items reduction o.descr r.descr.now r.block.now (lists r.layout.now.shape (named_axis (length r.layout.now.shape) axis) (offsets r.layout.now))) → Gives held result (reduced_contents s reduction source axis keep)
reduced-gives s reduction source a r axis keep (Err e) found shows (inl lacks) order items = inl lacks
reduced-gives s reduction source a r axis keep (Err e) found shows (inr bad) order items =
    inr (reduced-bad s reduction source a axis keep e found ((λ i. reductions.reduced_type reduction (shows.descr i) (sym shows.view.laid.shape i) axis keep) ∙ bad))
reduced-gives s reduction source a r axis keep (Ok o) found shows gives order items =
    reduced-done s reduction source a axis keep (outcome_of o) found ((λ i. reductions.reduced_type reduction (shows.descr i) (sym shows.view.laid.shape i) axis keep) ∙ gives)
    ∙ ap Ok (made-held C o.descr o.layout.shape (map (λ places. reduced_item reduction o.descr (read s (record a { places = places }))) (lists a.shape (named_axis (length a.shape) axis) a.places)) o refl refl order (items ∙ sym same))
  where
    shape : List ℕ
    shape = r.layout.now.shape

    at : Option ℕ
    at = named_axis (length shape) axis

    value : ℕ → List LeafValue
    value = λ place. part_at (span_of s a) (placed_item (buffer_of s a).items place)

    each : map (map value) (lists shape at a.places) ≡ map (map (item_from r.descr.now r.block.now)) (lists shape at (offsets r.layout.now))
    each = sym (lists-same (item_from r.descr.now r.block.now) value shape at (offsets r.layout.now) a.places
        (is-axis (length shape) axis (axis-passed reduction r.descr.now shape axis keep (outcome_of o) gives)) (length-offsets r.layout.now) (sym shows.reads))

    same : map (λ places. reduced_item reduction o.descr (read s (record a { places = places }))) (lists a.shape (named_axis (length a.shape) axis) a.places) ≡ reduced_items reduction o.descr r.descr.now r.block.now (lists shape at (offsets r.layout.now))
    same =
        (λ i. map (λ places. reduced_item reduction o.descr (map value places)) (lists (sym shows.view.laid.shape i) (named_axis (length (sym shows.view.laid.shape i)) axis) a.places))
        ∙ sym (map-map (reduced_item reduction o.descr) (map value) (lists shape at a.places))
        ∙ ap (map (reduced_item reduction o.descr)) each
        ∙ map-map (reduced_item reduction o.descr) (map (item_from r.descr.now r.block.now)) (lists shape at (offsets r.layout.now))

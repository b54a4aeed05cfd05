-- Laws of runs, as the operations of a block take them.
--     place_within                 each item lies within the bytes
--     fewer, run_offsets-more      a run with one item less, and with one more
--     length-run_offsets           a run has one offset for each item
--     place-at, run-ends           the offset of an item; each item ends within the bytes
--     lie-within                   a run that lies within some bytes
--     run-within                   a run whose items begin within the limit and end within the bytes
--     All-front, All-back          a property of all also holds for the first ones, and for those after them
--     runs-within, walked-within   runs whose items end within the bytes lie within them
use Rattle.std.specs.Prelude.{◌≡◌, ◌+◌, ◌-◌, ◌<◌, ◌≤◌, List, ◌∷◌, ◌++◌, map, length, pos, ◌+ℤ◌, ◌*ℤ◌, ◌≤ℤ◌}
use Rattle.std.proofs.Common.{ℕ, zero, suc, [], All, get_or, refl, sym, ap, subst, ◌∙◌, arith, length-append}
use Rattle.arrays.specs.Words.{flat_map, range_with_len, Each, *ℤ_comm, +ℤ_idr, ints, map-append, get_or-map, get_or_append_left, get_or-append_right, All-head, All-tail, All-from_get_or, All-from_recursion, length-map-range_with_len, get_or-map-range_with_len, ℤ, negsuc, nat_abs, position, place, EachWithin, put, item_at, place_within, numbers_from, Run, natural, LieWithin, max_bytes, run_offsets, length-run_offsets, RunPair}
use Rattle.arrays.specs.Assignments.{assigned}

-- ---- the offset of an item

natural-abs : (z : ℤ) → pos 0 ≤ℤ z → natural z ≡ nat_abs z
natural-abs (pos n) low = refl
natural-abs (negsuc n) low = absurd (omega (arith, ints))

turned : (at : ℕ) (step : ℤ) (k : ℕ) → position at step k ≡ pos at +ℤ step *ℤ pos k
turned at step k = ap (λ z. pos at +ℤ z) (*ℤ_comm (pos k) step)

natural-place : (at : ℕ) (step : ℤ) (k : ℕ) → pos 0 ≤ℤ position at step k → natural (pos at +ℤ step *ℤ pos k) ≡ place at step k
natural-place at step k low = ap natural (sym (turned at step k)) ∙ natural-abs (position at step k) low

below : (z : ℤ) (width len : ℕ) → pos 0 ≤ℤ z → (z +ℤ pos width) ≤ℤ pos len → nat_abs z + width ≤ len
below (pos n) width len low high = omega (arith, ints)
below (negsuc n) width len low high = absurd (omega (arith, ints))

-- ---- one item more

range-more : (a n : ℕ) → range_with_len a (suc n) ≡ range_with_len a n ++ (a + n) ∷ []
range-more a zero = ap (λ m. m ∷ []) same
  where
    same : a ≡ a + 0
    same = omega arith
range-more a (suc n) = ap (λ ks. a ∷ ks) (range-more (a + 1) n ∙ ap (λ m. range_with_len (a + 1) n ++ m ∷ []) same)
  where
    same : a + 1 + n ≡ a + suc n
    same = omega arith

numbers-more : (at : ℕ) (step : ℤ) (n : ℕ) → map natural (numbers_from (pos at) step (suc n)) ≡ map natural (numbers_from (pos at) step n) ++ natural (pos at +ℤ step *ℤ pos n) ∷ []
numbers-more at step n =
    let number = λ (k : ℕ). pos at +ℤ step *ℤ pos k in
    let ks = range_with_len 0 n in
    let last : 0 + n ≡ n = omega arith in
    ap (λ l. map natural (map number l)) (range-more 0 n)
    ∙ ap (map natural) (map-append number ks ((0 + n) ∷ []))
    ∙ map-append natural (map number ks) (number (0 + n) ∷ [])
    ∙ ap (λ m. map natural (map number ks) ++ natural (number m) ∷ []) last

pub run_offsets-more : (len at : ℕ) (step : ℤ) (width n : ℕ) → EachWithin len at step width (suc n) →
    run_offsets (record { offset = at; count = suc n; step = step }) ≡ run_offsets (record { offset = at; count = n; step = step }) ++ place at step n ∷ []
run_offsets-more len at step width n within =
    numbers-more at step n
    ∙ ap (λ o. map natural (numbers_from (pos at) step n) ++ o ∷ []) (natural-place at step n (within.each n (omega arith)).0)

-- ---- runs within some bytes

-- the k-th offset of a run
pub nth-offset : (run : Run) (k : ℕ) → k < run.count → get_or (run_offsets run) k 0 ≡ natural (pos run.offset +ℤ run.step *ℤ pos k)
nth-offset run k low =
    let number = λ (j : ℕ). pos run.offset +ℤ run.step *ℤ pos j in
    let inside : k < length (numbers_from (pos run.offset) run.step run.count) = omega (arith, length-map-range_with_len number 0 run.count) in
    get_or-map natural (numbers_from (pos run.offset) run.step run.count) k (pos 0) 0 inside
    ∙ ap natural (get_or-map-range_with_len number 0 run.count k k (pos 0) low (omega arith))

-- the k-th offset of a run is the place of its k-th item
pub place-at : (len width : ℕ) (run : Run) (k : ℕ) → EachWithin len run.offset run.step width run.count → k < run.count → get_or (run_offsets run) k 0 ≡ place run.offset run.step k
place-at len width run k within low = nth-offset run k low ∙ natural-place run.offset run.step k (within.each k low).0

-- each item ends within the bytes
pub run-ends : (len width : ℕ) (run : Run) → EachWithin len run.offset run.step width run.count → All (λ offset. offset + width ≤ len) (run_offsets run)
run-ends len width run within = All-from_get_or (λ offset. offset + width ≤ len) (run_offsets run) 0 (λ k inside.
    let low : k < run.count = omega (arith, length-run_offsets run) in
    subst (λ o. o + width ≤ len) (sym (place-at len width run k within low)) (place_within len run.offset run.step width run.count k within low))

-- the address of the k-th item of a run, as that of a layout with one axis, is its position
turned' : (run : Run) (k : ℕ) → pos run.offset +ℤ (run.step *ℤ pos k +ℤ pos 0) ≡ position run.offset run.step k
turned' run k = ap (λ z. pos run.offset +ℤ z) (+ℤ_idr (run.step *ℤ pos k)) ∙ sym (turned run.offset run.step k)

pub lie-within : (len width : ℕ) (run : Run) → LieWithin (run.count ∷ []) (run.step ∷ []) run.offset len width → EachWithin len run.offset run.step width run.count
lie-within len width run lies = record {
  each = λ k low. (
    subst (λ z. pos 0 ≤ℤ z) (turned' run k) (lies.from_zero (k ∷ []) (low, tt)),
    subst (λ z. (z +ℤ pos width) ≤ℤ pos len) (turned' run k) (lies.within (k ∷ []) (low, tt)),
  );
}

above : (z : ℤ) (width len : ℕ) → pos 0 ≤ℤ z → natural z + width ≤ len → (z +ℤ pos width) ≤ℤ pos len
above (pos n) width len low high = omega (arith, ints)
above (negsuc n) width len low high = absurd (omega (arith, ints))

-- the items of a run begin within the limit of a buffer
abbrev pub BeginsWithin : Run → Type 0
BeginsWithin run = LieWithin (run.count ∷ []) (run.step ∷ []) run.offset max_bytes 1

-- if they also end within the bytes, each item lies within the bytes
pub run-within : (len width : ℕ) (run : Run) → BeginsWithin run → All (λ offset. offset + width ≤ len) (run_offsets run) → EachWithin len run.offset run.step width run.count
run-within len width run lies ends = record {
  each = λ k low.
      let z = pos run.offset +ℤ run.step *ℤ pos k in
      let is : position run.offset run.step k ≡ z = turned run.offset run.step k in
      let from : pos 0 ≤ℤ z = subst (λ y. pos 0 ≤ℤ y) is (((lie-within max_bytes 1 run lies).each k low).0) in
      let ends-here : natural z + width ≤ len = subst (λ o. o + width ≤ len) (nth-offset run k low) (ends k 0 (omega (arith, length-run_offsets run))) in (
        subst (λ y. pos 0 ≤ℤ y) (sym is) from,
        subst (λ y. (y +ℤ pos width) ≤ℤ pos len) (sym is) (above z width len from ends-here),
      );
}

pub All-front : {X : Type 0} (P : X → Type 0) (xs ys : List X) → All P (xs ++ ys) → All P xs
All-front P xs ys all = λ k d below. subst P (get_or_append_left xs ys d k below) (all k d (omega (arith, length-append xs ys)))

pub All-back : {X : Type 0} (P : X → Type 0) (xs ys : List X) → All P (xs ++ ys) → All P ys
All-back P xs ys all = λ k d below.
    let after : length xs + k - length xs ≡ k = omega arith in
    subst P (get_or-append_right xs ys (length xs) (length xs + k) d refl (omega arith) ∙ ap (λ m. get_or ys m d) after) (all (length xs + k) d (omega (arith, length-append xs ys)))

-- the items of each run begin within the limit of a buffer
abbrev BeginWithin : {X : Type 0} → (X → Run) → List X → Type 0
BeginWithin run_of xs = All (λ x. LieWithin ((run_of x).count ∷ []) ((run_of x).step ∷ []) (run_of x).offset max_bytes 1) xs

-- each item of each run, of `width` bytes, lies within `len` bytes
abbrev AreWithin : {X : Type 0} → ℕ → ℕ → (X → Run) → List X → Type 0
AreWithin len width run_of xs = All (λ x. EachWithin len (run_of x).offset (run_of x).step width (run_of x).count) xs

pub runs-within : {X : Type 0} (len width : ℕ) (run_of : X → Run) (xs : List X) → BeginWithin run_of xs → All (λ offset. offset + width ≤ len) (flat_map (λ x. run_offsets (run_of x)) xs) → AreWithin len width run_of xs
runs-within {X} len width run_of xs begin ends = All-from_recursion (λ x. EachWithin len (run_of x).offset (run_of x).step width (run_of x).count) xs (each xs begin ends)
  where
    each : (xs : List X) → BeginWithin run_of xs → All (λ offset. offset + width ≤ len) (flat_map (λ x. run_offsets (run_of x)) xs) → Each (λ x. EachWithin len (run_of x).offset (run_of x).step width (run_of x).count) xs
    each [] begin ends = tt
    each (x ∷ xs) begin ends =
        let rest = flat_map (λ x. run_offsets (run_of x)) xs in
        let ends-in = λ (offset : ℕ). offset + width ≤ len in
        let begins = λ (x : X). LieWithin ((run_of x).count ∷ []) ((run_of x).step ∷ []) (run_of x).offset max_bytes 1 in (
          run-within len width (run_of x) (All-head begins x xs begin) (All-front ends-in (run_offsets (run_of x)) rest ends),
          each xs (All-tail begins x xs begin) (All-back ends-in (run_offsets (run_of x)) rest ends),
        )

-- the same for runs that a walk gives
pub walked-within : {X : Type 0} (len width : ℕ) (run_of : X → Run) (walked xs : List X) (offsets : List ℕ) → walked ≡ xs → BeginWithin run_of xs →
    flat_map (λ x. run_offsets (run_of x)) xs ≡ offsets → All (λ offset. offset + width ≤ len) offsets → AreWithin len width run_of walked
walked-within {X} len width run_of walked xs offsets are begin is ends =
    subst (AreWithin len width run_of) (sym are) (runs-within len width run_of xs begin (subst (All (λ offset. offset + width ≤ len)) (sym is) ends))

-- a property of all remaining pairs holds of the next one
pub next_pair : (P : RunPair → Type 0) (left left' : List RunPair) (pair : RunPair) → left ≡ pair ∷ left' → All P left → P pair
next_pair P left left' pair walked all = All-head P pair left' (subst (All P) walked all)

-- two assignments, one after the other, are a single one
pub assigned-append : (to from to' from' : List ℕ) (width : ℕ) (other block : List ℕ) → length to ≡ length from →
    assigned (to ++ to') (from ++ from') width other block ≡ assigned to' from' width other (assigned to from width other block)
assigned-append [] [] to' from' width other block even = refl
assigned-append [] (offset ∷ from) to' from' width other block even = absurd (omega (arith, even))
assigned-append (at ∷ to) [] to' from' width other block even = absurd (omega (arith, even))
assigned-append (at ∷ to) (offset ∷ from) to' from' width other block even =
    assigned-append to from to' from' width other (put at (item_at offset width other) block) (omega (arith, even))

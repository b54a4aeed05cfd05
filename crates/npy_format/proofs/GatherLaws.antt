-- Appending items one after another.
use Rattle.std.proofs.Common.{◌≡◌, inl, inr, ℕ, suc, ◌+◌, ◌*◌, ◌<◌, ◌≤◌, ◌&&◌, ◌||◌, not, true, false, Bool, pos, List, [], ◌∷◌, ◌++◌, length, get_or, take, drop, replicate, reverse, All, refl, sym, ap, subst, ◌∙◌, arith, append_assoc, zero-mul, suc-mul, ◌==◌, if◌then◌else◌}
use Rattle.npy_format.proofs.Words.{and_parts, flat_map, take-add, eqb-true, true≢false, cases_lt, flat_map-append, append-nil, drop-drop, length-map, get_or-map, get_or_past, length-reverse, All-head, All-tail, place, item_at, EachWithin, begins_within, Run, count, indexes, rank, length-indexes, rank-lt, get_or-indexes, index_at, rank-zeros, IsIndex-first, zero_filled, count-reverse, IsIndex-from_reverse, first_address, fortran_order, is_c_contiguous, is_f_contiguous, offsets, run_offsets, first_address-entry, length-run_offsets, run_offsets-more, place-at, run-ends, length-fortran, reverse-replicate, gathered, addresses_in_file}

-- ---- adjacent items

abbrev pub AreAdjacent : ℕ → ℕ → List ℕ → Type 0
AreAdjacent width at [] = Unit {0}
AreAdjacent width at (offset ∷ offsets) = (offset ≡ at) × AreAdjacent width (at + width) offsets

pub gathered-adjacent : (width at : ℕ) (offsets bytes : List ℕ) → AreAdjacent width at offsets → gathered width bytes offsets ≡ item_at at (length offsets * width) bytes
gathered-adjacent width at [] bytes adjacent = let none : 0 * width ≡ 0 = zero-mul width in sym (ap (λ n. take n (drop at bytes)) none)
gathered-adjacent width at (offset ∷ offsets) bytes adjacent =
    let more : length (offset ∷ offsets) * width ≡ width + length offsets * width = suc-mul (length offsets) width ∙ omega arith in
    (λ i. item_at (adjacent.0 i) width bytes ++ gathered-adjacent width (at + width) offsets bytes adjacent.1 i)
    ∙ ap (λ behind. item_at at width bytes ++ take (length offsets * width) behind) (sym (drop-drop width at bytes))
    ∙ sym (take-add width (length offsets * width) (drop at bytes))
    ∙ ap (λ n. take n (drop at bytes)) (sym more)

-- If adjacent items end within `len` bytes, so do all of them together.
pub adjacent-ends : (width at len : ℕ) (offsets : List ℕ) → AreAdjacent width at offsets → All (λ offset. offset + width ≤ len) offsets → at ≤ len → at + length offsets * width ≤ len
adjacent-ends width at len [] adjacent inside low = omega (arith, low, zero-mul width)
adjacent-ends width at len (offset ∷ offsets) adjacent inside low =
    let here : offset + width ≤ len = All-head (λ o. o + width ≤ len) offset offsets inside in
    let rest = adjacent-ends width (at + width) len offsets adjacent.1 (All-tail (λ o. o + width ≤ len) offset offsets inside) (omega (arith, adjacent.0, here)) in
    omega (arith, rest, suc-mul (length offsets) width)

pub adjacent-contiguous : (width : ℕ) (offsets : List ℕ) → is_c_contiguous width offsets ≡ true → AreAdjacent width (first_address offsets) offsets
adjacent-contiguous width [] is = tt
adjacent-contiguous width (offset ∷ []) is = (refl, tt)
adjacent-contiguous width (offset ∷ next ∷ offsets) is =
    let parts = and_parts (next == offset + width) (is_c_contiguous width (next ∷ offsets)) is in
    (refl, subst (λ at. AreAdjacent width at (next ∷ offsets)) (eqb-true next (offset + width) parts.0) (adjacent-contiguous width (next ∷ offsets) parts.1))

adjacent-entries : (width at : ℕ) (offsets : List ℕ) → ((k : ℕ) → k < length offsets → get_or offsets k 0 ≡ at + k * width) → AreAdjacent width at offsets
adjacent-entries width at [] entries = tt
adjacent-entries width at (offset ∷ offsets) entries = (
  entries 0 (omega arith) ∙ omega (arith, zero-mul width),
  adjacent-entries width (at + width) offsets (λ k low. entries (suc k) (omega (arith, low)) ∙ omega (arith, suc-mul k width)),
)

-- The items of a run whose step is their size are adjacent.
pub adjacent-run : (len width : ℕ) (run : Run) → EachWithin len run.offset run.step width run.count → run.step ≡ pos width → AreAdjacent width run.offset (run_offsets run)
adjacent-run len width run within step =
    adjacent-entries width run.offset (run_offsets run) (λ k low. place-at len width run k within (omega (arith, low, length-run_offsets run)) ∙ ap (λ s. place run.offset s k) step)

-- The items of such a run are one stretch of bytes.
pub stretch : (len width : ℕ) (run : Run) (bytes : List ℕ) → EachWithin len run.offset run.step width run.count → 1 ≤ run.count → run.step ≡ pos width → (run.offset + run.count * width ≤ len) × (gathered width bytes (run_offsets run) ≡ item_at run.offset (run.count * width) bytes)
stretch len width run bytes within some step =
    let adjacent = adjacent-run len width run within step in
    let long = length-run_offsets run in (
      subst (λ n. run.offset + n * width ≤ len) long (adjacent-ends width run.offset len (run_offsets run) adjacent (run-ends len width run within) (begins_within len run.offset run.step width run.count 0 within some)),
      gathered-adjacent width run.offset (run_offsets run) bytes adjacent ∙ ap (λ n. item_at run.offset (n * width) bytes) long,
    )

-- ---- one more item

pub item_pushed : (len width : ℕ) (run : Run) (k : ℕ) (bytes file file' old : List ℕ) (at : ℕ) → EachWithin len run.offset run.step width run.count → k < run.count → at ≡ place run.offset run.step k
    → file' ≡ file ++ item_at at width bytes → file ≡ old ++ gathered width bytes (run_offsets (record { offset = run.offset; count = k; step = run.step }))
    → file' ≡ old ++ gathered width bytes (run_offsets (record { offset = run.offset; count = k + 1; step = run.step }))
item_pushed len width run k bytes file file' old at within low is pushed so_far =
    let front = run_offsets (record { offset = run.offset; count = k; step = run.step }) in
    let item = λ (o : ℕ). item_at o width bytes in
    let here = place run.offset run.step k in
    let more : suc k ≡ k + 1 = omega arith in
    let few : EachWithin len run.offset run.step width (suc k) = record { each = λ j below. within.each j (omega (arith, low, below)) } in
    pushed
    ∙ (λ i. so_far i ++ item_at (is i) width bytes)
    ∙ append_assoc old (flat_map item front) (item here)
    ∙ ap (λ back. old ++ (flat_map item front ++ back)) (sym (append-nil (item here)))
    ∙ ap (λ back. old ++ back) (sym (flat_map-append item front (here ∷ [])))
    ∙ ap (λ all. old ++ flat_map item all) (sym (run_offsets-more len run.offset run.step width k few))
    ∙ ap (λ n. old ++ flat_map item (run_offsets (record { offset = run.offset; count = n; step = run.step }))) more

pub run_pushed : (width : ℕ) (run : Run) (left left' : List Run) (bytes file file' whole : List ℕ) → left ≡ run ∷ left' → file' ≡ file ++ gathered width bytes (run_offsets run)
    → file ++ gathered width bytes (flat_map run_offsets left) ≡ whole → file' ++ gathered width bytes (flat_map run_offsets left') ≡ whole
run_pushed width run left left' bytes file file' whole walked pushed so_far =
    let item = λ (o : ℕ). item_at o width bytes in
    ap (λ f. f ++ gathered width bytes (flat_map run_offsets left')) pushed
    ∙ append_assoc file (flat_map item (run_offsets run)) (flat_map item (flat_map run_offsets left'))
    ∙ ap (λ back. file ++ back) (sym (flat_map-append item (run_offsets run) (flat_map run_offsets left')))
    ∙ ap (λ l. file ++ gathered width bytes (flat_map run_offsets l)) (sym walked)
    ∙ so_far

-- ---- Fortran order

-- an entry in Fortran order
pub fortran-entry : (shape offsets : List ℕ) (k d : ℕ) → k < length (fortran_order shape offsets) → length offsets ≡ count shape → (index : List ℕ) × (rank shape (reverse index) < length offsets) × (get_or (fortran_order shape offsets) k d ≡ get_or offsets (rank shape (reverse index)) 0) × (get_or (indexes (reverse shape)) k [] ≡ index)
fortran-entry shape offsets k d low long =
    let f = λ (index : List ℕ). get_or offsets (rank shape (reverse index)) 0 in
    let all = indexes (reverse shape) in
    let sized : length (fortran_order shape offsets) ≡ length all = length-map all f in
    let found = index_at (reverse shape) k (omega (arith, low, sized, length-indexes (reverse shape))) in
    let here : get_or all k [] ≡ found.0 = ap (λ r. get_or all r []) (sym found.2) ∙ get_or-indexes (reverse shape) found.0 [] found.1 in (
      found.0,
      omega (arith, long, rank-lt shape (reverse found.0) (IsIndex-from_reverse shape found.0 found.1)),
      get_or-map f all k [] d (omega (arith, low, sized)) ∙ ap f here,
      here,
    )

pub fortran-within : (shape offsets : List ℕ) (len width : ℕ) → length offsets ≡ count shape → All (λ offset. offset + width ≤ len) offsets → All (λ offset. offset + width ≤ len) (fortran_order shape offsets)
fortran-within shape offsets len width long inside = λ k d low.
    let found = fortran-entry shape offsets k d low long in
    subst (λ o. o + width ≤ len) (sym found.2) (inside (rank shape (reverse found.0)) 0 found.1)

-- the first index is all zeros
zeros-padded : (shape : List ℕ) → zero_filled shape [] ≡ replicate (length shape) 0
zeros-padded [] = refl
zeros-padded (n ∷ shape) = ap (λ index. 0 ∷ index) (zeros-padded shape)

fortran-first : (shape offsets : List ℕ) → 0 < count shape → get_or (fortran_order shape offsets) 0 0 ≡ get_or offsets 0 0
fortran-first shape offsets some =
    let f = λ (index : List ℕ). get_or offsets (rank shape (reverse index)) 0 in
    let all = indexes (reverse shape) in
    let zeros = zero_filled (reverse shape) [] in
    let some' : 0 < count (reverse shape) = omega (arith, some, count-reverse shape) in
    let here : get_or all 0 [] ≡ zeros = ap (λ r. get_or all r []) (sym (rank-zeros (reverse shape))) ∙ get_or-indexes (reverse shape) zeros [] (IsIndex-first (reverse shape) some') in
    let back : reverse zeros ≡ zero_filled shape [] = ap reverse (zeros-padded (reverse shape)) ∙ reverse-replicate (length (reverse shape)) ∙ ap (λ n. replicate n 0) (length-reverse shape) ∙ sym (zeros-padded shape) in
    get_or-map f all 0 [] 0 (omega (arith, some', length-indexes (reverse shape))) ∙ ap f here ∙ ap (λ index. get_or offsets (rank shape index) 0) back ∙ ap (λ r. get_or offsets r 0) (rank-zeros shape)

-- ---- all items

in_file-c : (width : ℕ) (shape offsets : List ℕ) → is_c_contiguous width offsets ≡ true → addresses_in_file width shape offsets ≡ offsets
in_file-c width shape offsets is =
    rw is (elim (is_f_contiguous width shape offsets) as (λ f. (if f && false then fortran_order shape offsets else offsets) ≡ offsets) [ true ↦ refl | false ↦ refl ])

pub in_file-none : (width : ℕ) (shape offsets : List ℕ) → (is_c_contiguous width offsets || is_f_contiguous width shape offsets) ≡ false → addresses_in_file width shape offsets ≡ offsets
in_file-none width shape offsets is = turn (is_c_contiguous width offsets) (is_f_contiguous width shape offsets) is
  where
    turn : (c f : Bool) → (c || f) ≡ false → (if f && not c then fortran_order shape offsets else offsets) ≡ offsets
    turn false false is = refl
    turn _ _ is = absurd (true≢false is)

-- the items of a file are one stretch of bytes, from the first address on
pub record AreTogether (width : ℕ) (bytes offsets in_file : List ℕ) (n : ℕ) : Type 0 where
  pub joined : gathered width bytes in_file ≡ item_at (first_address offsets) (n * width) bytes
  pub ends : first_address offsets + n * width ≤ length bytes

from_first : (width : ℕ) (bytes offsets in_file in_file' : List ℕ) (n : ℕ) → in_file ≡ in_file' → is_c_contiguous width in_file' ≡ true → length in_file' ≡ n → first_address in_file' ≡ first_address offsets → All (λ offset. offset + width ≤ length bytes) in_file' → first_address offsets ≤ length bytes
    → AreTogether width bytes offsets in_file n
from_first width bytes offsets in_file in_file' n same is long first inside low =
    let adjacent = subst (λ at. AreAdjacent width at in_file') first (adjacent-contiguous width in_file' is) in
    record {
      joined = ap (gathered width bytes) same ∙ gathered-adjacent width (first_address offsets) in_file' bytes adjacent ∙ ap (λ m. item_at (first_address offsets) (m * width) bytes) long;
      ends = subst (λ m. first_address offsets + m * width ≤ length bytes) long (adjacent-ends width (first_address offsets) (length bytes) in_file' adjacent inside low);
    }

first-within : (width len : ℕ) (offsets : List ℕ) → All (λ offset. offset + width ≤ len) offsets → first_address offsets ≤ len
first-within width len [] inside = omega arith
first-within width len (offset ∷ offsets) inside = let here = All-head (λ o. o + width ≤ len) offset offsets inside in omega (arith, here)

first-same : (shape offsets : List ℕ) → length offsets ≡ count shape → first_address (fortran_order shape offsets) ≡ first_address offsets
first-same shape offsets long = elim (cases_lt 0 (count shape)) [
  | inl some ↦ first_address-entry (fortran_order shape offsets) ∙ fortran-first shape offsets some ∙ sym (first_address-entry offsets)
  | inr none ↦
      first_address-entry (fortran_order shape offsets) ∙ get_or_past (fortran_order shape offsets) 0 0 (omega (arith, none, length-fortran shape offsets))
      ∙ sym (get_or_past offsets 0 0 (omega (arith, none, long))) ∙ sym (first_address-entry offsets)
]

pub together : (width : ℕ) (shape offsets bytes : List ℕ) → length offsets ≡ count shape → All (λ offset. offset + width ≤ length bytes) offsets → (is_c_contiguous width offsets || is_f_contiguous width shape offsets) ≡ true
    → AreTogether width bytes offsets (addresses_in_file width shape offsets) (count shape)
together width shape offsets bytes long inside is = elim (is_c_contiguous width offsets) as (λ c. is_c_contiguous width offsets ≡ c → AreTogether width bytes offsets (addresses_in_file width shape offsets) (count shape)) [
  | true ↦ λ c. from_first width bytes offsets (addresses_in_file width shape offsets) offsets (count shape) (in_file-c width shape offsets c) c long refl inside (first-within width (length bytes) offsets inside)
  | false ↦ λ c.
      let f : is_f_contiguous width shape offsets ≡ true = sym (ap (λ b. b || is_f_contiguous width shape offsets) c) ∙ is in
      from_first width bytes offsets (addresses_in_file width shape offsets) (fortran_order shape offsets) (count shape) (rw (c, f) refl) f (length-fortran shape offsets) (first-same shape offsets long) (fortran-within shape offsets (length bytes) width long inside) (first-within width (length bytes) offsets inside)
] refl

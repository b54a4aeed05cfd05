-- A file, put together from its header and its items.
use Rattle.std.proofs.Common.{◌≡◌, ℕ, ◌+◌, ◌*◌, ◌<◌, ◌≤◌, true, false, Bool, List, [], ◌∷◌, ◌++◌, map, length, get_or, take, drop, reverse, All, Ok, Err, refl, sym, ap, ◌∙◌, arith, zero-mul, suc-mul, length-append, if◌then◌else◌}
use Rattle.npy_format.proofs.Words.{flat_map, take-append_seam, drop-append_seam, lt-leb, le-leb, length-map, get_or-map, ext_get_or, flat_map-map, All-head, All-tail, item_at, length-item_at, TooLarge, Descr, LeafValue, item_size, encode_item, decode_item, blocks, item_from, max_bytes, count, indexes, rank, fortran_order, length-fortran, file_order, is_fortran, ordered, file_of, saved, gathered, addresses_in_file}
use Rattle.npy_format.proofs.GatherLaws.{fortran-entry, fortran-within}

-- gathered items, item by item
blocks_gathered : (f : List ℕ → List ℕ) (width : ℕ) (offsets bytes : List ℕ) → All (λ offset. offset + width ≤ length bytes) offsets → flat_map f (blocks width (length offsets) (gathered width bytes offsets)) ≡ flat_map (λ offset. f (item_at offset width bytes)) offsets
blocks_gathered f width [] bytes inside = refl
blocks_gathered f width (offset ∷ offsets) bytes inside =
    let item = item_at offset width bytes in
    let rest = gathered width bytes offsets in
    let wide : width ≡ length item = sym (length-item_at offset width bytes (All-head (λ o. o + width ≤ length bytes) offset offsets inside)) in
    let front : take width (item ++ rest) ≡ item = ap (λ n. take n (item ++ rest)) wide ∙ take-append_seam item rest in
    let back : drop width (item ++ rest) ≡ rest = ap (λ n. drop n (item ++ rest)) wide ∙ drop-append_seam item rest in
    (λ i. f (front i) ++ flat_map f (blocks width (length offsets) (back i)))
    ∙ ap (λ later. f item ++ later) (blocks_gathered f width offsets bytes (All-tail (λ o. o + width ≤ length bytes) offset offsets inside))

length-gathered : (width : ℕ) (offsets bytes : List ℕ) → All (λ offset. offset + width ≤ length bytes) offsets → length (gathered width bytes offsets) ≡ length offsets * width
length-gathered width [] bytes inside = sym (zero-mul width)
length-gathered width (offset ∷ offsets) bytes inside =
    omega (arith, length-append (item_at offset width bytes) (gathered width bytes offsets), length-item_at offset width bytes (All-head (λ o. o + width ≤ length bytes) offset offsets inside), length-gathered width offsets bytes (All-tail (λ o. o + width ≤ length bytes) offset offsets inside), suc-mul (length offsets) width)

-- The order of the file applies to the values of items as it does to their addresses.
pub ordered-items : (g : ℕ → List LeafValue) (fortran : Bool) (shape offsets : List ℕ) → length offsets ≡ count shape → ordered (file_order fortran) shape (map g offsets) ≡ map g (if fortran then fortran_order shape offsets else offsets)
ordered-items g false shape offsets long = refl
ordered-items g true shape offsets long =
    let all = indexes (reverse shape) in
    let f = λ (index : List ℕ). get_or (map g offsets) (rank shape (reverse index)) [] in
    let in_order = fortran_order shape offsets in
    let sized : length (map f all) ≡ length in_order = length-map all f ∙ sym (length-map all (λ index. get_or offsets (rank shape (reverse index)) 0)) in
    ext_get_or [] (map f all) (map g in_order) (sized ∙ sym (length-map in_order g)) (λ k low.
    let below : k < length in_order = omega (arith, low, sized) in
    let found = fortran-entry shape offsets k 0 below long in
    get_or-map f all k [] [] (omega (arith, low, length-map all f)) ∙ ap f found.3
    ∙ get_or-map g offsets (rank shape (reverse found.0)) 0 [] found.1
    ∙ ap g (sym found.2) ∙ sym (get_or-map g in_order k 0 [] below))

in_file-length : (width : ℕ) (shape offsets : List ℕ) → length offsets ≡ count shape → length (addresses_in_file width shape offsets) ≡ count shape
in_file-length width shape offsets long = elim (is_fortran width shape offsets) as (λ f. length (if f then fortran_order shape offsets else offsets) ≡ count shape) [ true ↦ length-fortran shape offsets | false ↦ long ]

in_file-within : (width len : ℕ) (shape offsets : List ℕ) → length offsets ≡ count shape → All (λ offset. offset + width ≤ len) offsets → All (λ offset. offset + width ≤ len) (addresses_in_file width shape offsets)
in_file-within width len shape offsets long inside = elim (is_fortran width shape offsets) as (λ f. All (λ offset. offset + width ≤ len) (if f then fortran_order shape offsets else offsets)) [ true ↦ fortran-within shape offsets len width long inside | false ↦ inside ]

-- the header, and the items as they are in memory
module _ (shape offsets bytes head file : List ℕ) (width : ℕ) (long : length offsets ≡ count shape) (inside : All (λ offset. offset + width ≤ length bytes) offsets) (is : file ≡ head ++ gathered width bytes (addresses_in_file width shape offsets)) where
  pub file_length : length file ≡ length head + count shape * width
  file_length =
      let all = addresses_in_file width shape offsets in
      ap length is ∙ length-append head (gathered width bytes all) ∙ ap (λ n. length head + n) (length-gathered width all bytes (in_file-within width (length bytes) shape offsets long inside) ∙ ap (λ n. n * width) (in_file-length width shape offsets long))

  -- the same file, with the items as they are written
  pub file_written : (descr : Descr) (file' : List ℕ) (start n : ℕ) → width ≡ item_size descr → start ≡ length head → n ≡ count shape
      → file' ≡ take start file ++ flat_map (λ item. encode_item descr (decode_item descr item)) (blocks (item_size descr) n (drop start file))
      → file' ≡ head ++ flat_map (encode_item descr) (ordered (file_order (is_fortran width shape offsets)) shape (map (item_from descr bytes) offsets))
  file_written descr file' start n sized begins many written =
      let all = addresses_in_file width shape offsets in
      let f = λ (item : List ℕ). encode_item descr (decode_item descr item) in
      let items = gathered width bytes all in
      let front : take start file ≡ head = (λ i. take (begins i) (is i)) ∙ take-append_seam head items in
      let back : drop start file ≡ items = (λ i. drop (begins i) (is i)) ∙ drop-append_seam head items in
      let counted : n ≡ length all = many ∙ sym (in_file-length width shape offsets long) in
      written
      ∙ (λ i. front i ++ flat_map f (blocks (sym sized i) (counted i) (back i)))
      ∙ ap (λ later. head ++ later) (
      blocks_gathered f width all bytes (in_file-within width (length bytes) shape offsets long inside)
      ∙ ap (λ w. flat_map (λ offset. f (item_at offset w bytes)) all) sized
      ∙ sym (flat_map-map (encode_item descr) (item_from descr bytes) all)
      ∙ ap (flat_map (encode_item descr)) (sym (ordered-items (item_from descr bytes) (is_fortran width shape offsets) shape offsets long)))

-- what is saved if the items have too many bytes, and if they do not
pub saved-large : (descr : Descr) (shape addresses : List ℕ) (items : List (List LeafValue)) → max_bytes < count shape * item_size descr → saved descr shape addresses items ≡ Err TooLarge
unfolding saved
saved-large descr shape addresses items large = rw (lt-leb (count shape * item_size descr) max_bytes large) refl

pub saved-small : (descr : Descr) (shape addresses : List ℕ) (items : List (List LeafValue)) → count shape * item_size descr ≤ max_bytes → saved descr shape addresses items ≡ Ok (file_of descr (is_fortran (item_size descr) shape addresses) shape items)
unfolding saved
saved-small descr shape addresses items small = rw (le-leb (count shape * item_size descr) max_bytes small) refl

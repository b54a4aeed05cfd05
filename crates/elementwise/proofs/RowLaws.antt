-- Items that are written at equal steps: they are read back, and the other bytes do not change.
use Rattle.std.proofs.Common.{◌≡◌, ◌+◌, ◌-◌, ◌*◌, ◌<◌, ◌≤◌, ◌⊎◌, inl, inr, ℕ, suc, pos, List, [], ◌∷◌, map, length, get_or, All, refl, sym, ap, subst, ◌∙◌, arith, suc-mul, mul-le-mul_right}
use Rattle.elementwise.proofs.Words.{cases_lt, Items, Layout, BeginsWithin, item_size, count, offsets, length-offsets, run_offsets, length-run_offsets, run-within, All-rest, All-head, All-from_get_or, ints, put, item_at, place, EachWithin, length-put, item_at-put_same, item_at-put_apart, Run, place-at, length-row, row_offsets, with_items}

-- rows of items
pub row-within : (len at item width n : ℕ) → width ≤ item → at + n * item ≤ len + item - width → EachWithin len at (pos item) width n
row-within len at item width n fits ends = record {
  each = λ k low.
      let most : suc k * item ≤ n * item = mul-le-mul_right item low in
      (omega (arith, ints), omega (arith, ints, most, suc-mul k item));
}

-- the offset of the `k`-th item
pub row-entry : (at item n k : ℕ) → k < n → get_or (row_offsets at item n) k 0 ≡ at + k * item
row-entry at item n k low =
    let row : Run = record { offset = at; count = n; step = pos item } in
    place-at (at + n * item) 0 row k (row-within (at + n * item) at item 0 n (omega arith) (omega arith)) low

-- two ranges of bytes do not overlap
abbrev pub AreBeside : ℕ → ℕ → ℕ → ℕ → Type 0
AreBeside place wide at width = (place + wide ≤ at) ⊎ (at + width ≤ place)

module _ (width : ℕ) where
  abbrev IsIn : List ℕ → ℕ → Type 0
  IsIn bytes at = at + width ≤ length bytes

  abbrev IsWide : List ℕ → Type 0
  IsWide item = length item ≡ width

  put-length : (at : ℕ) (item bytes : List ℕ) → IsIn bytes at → IsWide item → length (put at item bytes) ≡ length bytes
  put-length at item bytes in_bytes long = length-put at item bytes (omega (arith, long, in_bytes))

  read-back : (at : ℕ) (item bytes : List ℕ) → IsIn bytes at → IsWide item → item_at at width (put at item bytes) ≡ item
  read-back at item bytes in_bytes long = ap (λ n. item_at at n (put at item bytes)) (sym long) ∙ item_at-put_same at item bytes (omega (arith, long, in_bytes))

  -- the remaining items still fit, since the length does not change
  still-in : (at : ℕ) (ats item bytes : List ℕ) → All (IsIn bytes) (at ∷ ats) → IsWide item → All (IsIn (put at item bytes)) ats
  still-in at ats item bytes in_bytes long = subst (λ n. All (λ o. o + width ≤ n) ats) (sym (put-length at item bytes (All-head (IsIn bytes) at ats in_bytes) long)) (All-rest (IsIn bytes) at ats (at ∷ ats) refl in_bytes)

  pub kept : (place wide : ℕ) (ats : List ℕ) (items : List (List ℕ)) (bytes : List ℕ) → place + wide ≤ length bytes → All (IsIn bytes) ats → All IsWide items → All (λ at. AreBeside place wide at width) ats → item_at place wide (with_items ats items bytes) ≡ item_at place wide bytes
  kept place wide [] items bytes there in_bytes long beside = refl
  kept place wide (at ∷ ats) [] bytes there in_bytes long beside = refl
  kept place wide (at ∷ ats) (item ∷ items) bytes there in_bytes long beside =
      let here = All-head (IsIn bytes) at ats in_bytes in
      let first = All-head IsWide item items long in
      let sides : (place + wide ≤ at) ⊎ (at + length item ≤ place) = elim (All-head (λ o. AreBeside place wide o width) at ats beside) [ inl before ↦ inl before | inr after ↦ inr (omega (arith, after, first)) ] in
      kept place wide ats items (put at item bytes) (omega (arith, there, put-length at item bytes here first)) (still-in at ats item bytes in_bytes first) (All-rest IsWide item items (item ∷ items) refl long) (All-rest (λ o. AreBeside place wide o width) at ats (at ∷ ats) refl beside)
      ∙ item_at-put_apart at item bytes place wide (omega (arith, first, here)) there sides

  -- no two items overlap
  abbrev pub LieBeside : List ℕ → Type 0
  LieBeside ats = (j k : ℕ) → j < k → k < length ats → AreBeside (get_or ats j 0) width (get_or ats k 0) width

  pub landed : (ats : List ℕ) (items : List (List ℕ)) (bytes : List ℕ) → length ats ≡ length items → All (IsIn bytes) ats → All IsWide items → LieBeside ats → map (λ o. item_at o width (with_items ats items bytes)) ats ≡ items
  landed [] [] bytes even in_bytes long beside = refl
  landed [] (item ∷ items) bytes even in_bytes long beside = absurd (omega (arith, even))
  landed (at ∷ ats) [] bytes even in_bytes long beside = absurd (omega (arith, even))
  landed (at ∷ ats) (item ∷ items) bytes even in_bytes long beside =
      let here = All-head (IsIn bytes) at ats in_bytes in
      let first = All-head IsWide item items long in
      let next = put at item bytes in
      let left = still-in at ats item bytes in_bytes first in
      let later = All-rest IsWide item items (item ∷ items) refl long in
      let apart : All (λ o. AreBeside at width o width) ats = All-from_get_or (λ o. AreBeside at width o width) ats 0 (λ k inside. beside 0 (suc k) (omega arith) (omega (arith, inside))) in
      let one = kept at width ats items next (omega (arith, here, put-length at item bytes here first)) left later apart ∙ read-back at item bytes here first in
      let more = landed ats items next (omega (arith, even)) left later (λ j k before inside. beside (suc j) (suc k) (omega (arith, before)) (omega (arith, inside))) in
      λ i. one i ∷ more i

-- ---- rows

module _ (item n len : ℕ) (room : n * item ≤ len) where
  pub row-in : (at width : ℕ) → at + width ≤ item → (k : ℕ) → k < n → at + k * item + width ≤ len
  row-in at width fits k low = let most : suc k * item ≤ n * item = mul-le-mul_right item low in omega (arith, most, room, fits, suc-mul k item)

  pub rows-in : (at width : ℕ) → at + width ≤ item → All (λ o. o + width ≤ len) (row_offsets at item n)
  rows-in at width fits = All-from_get_or (λ o. o + width ≤ len) (row_offsets at item n) 0 (λ k inside.
      let low : k < n = omega (arith, inside, length-row at item n) in
      subst (λ o. o + width ≤ len) (sym (row-entry at item n k low)) (row-in at width fits k low))

  -- two parts of an item that do not overlap, in all rows
  pub rows-beside : (at width at' width' : ℕ) → at + width ≤ item → at' + width' ≤ item → AreBeside at width at' width' → (j k : ℕ) → AreBeside (at + j * item) width (at' + k * item) width'
  rows-beside at width at' width' fits fits' beside j k = elim (cases_lt j k) [
    | inl before ↦ let most : suc j * item ≤ k * item = mul-le-mul_right item before in inl (omega (arith, most, fits, suc-mul j item))
    | inr from ↦ elim (cases_lt k j) [
      | inl after ↦ let most : suc k * item ≤ j * item = mul-le-mul_right item after in inr (omega (arith, most, fits', suc-mul k item))
      | inr same ↦
          let is : j ≡ k = omega (arith, from, same) in
          let rows : j * item ≡ k * item = ap (λ m. m * item) is in
          elim beside [ inl before ↦ inl (omega (arith, before, rows)) | inr after ↦ inr (omega (arith, after, rows)) ]
    ]
  ]

  -- the same part of two rows
  pub rows-lie : (at width : ℕ) → at + width ≤ item → LieBeside width (row_offsets at item n)
  rows-lie at width fits j k before inside =
      let low : k < n = omega (arith, inside, length-row at item n) in
      let most : suc j * item ≤ k * item = mul-le-mul_right item before in
      inl (omega (arith, most, fits, suc-mul j item, row-entry at item n j (omega (arith, before, low)), row-entry at item n k low))

-- ---- runs of all items

-- a run of all items of a layout
pub count-run : (l : Layout) (run : Run) → run_offsets run ≡ offsets l → run.count ≡ count l.shape
count-run l run same = sym (length-run_offsets run) ∙ ap length same ∙ length-offsets l

-- they lie within the block
pub run-inside : (x : Items) (run : Run) → run_offsets run ≡ offsets x.layout.now → BeginsWithin run → EachWithin (length x.block.now) run.offset run.step (item_size x.descr.now) run.count
run-inside x run same begins = run-within (length x.block.now) (item_size x.descr.now) run begins (subst (All (λ offset. offset + item_size x.descr.now ≤ length x.block.now)) (sym same) x.inside)

-- What a write to bytes changes and what it does not, and where items at equal steps lie.
use Rattle.std.specs.Prelude.{◌≡◌, ℕ, ◌+◌, ◌-◌, ◌<◌, ◌≤◌, List, length, ◌++◌, take, drop, ◌⊎◌, ◌*◌, [], ℤ, pos, nat_abs, ◌≤ℤ◌}
use Rattle.std.proofs.Common.{suc, refl, sym, ap, ◌∙◌, arith, get_or, append_assoc, length-append, length-take, length-drop, inl, inr, zero}
use Rattle.raw_block.specs.Words.{get_or-append_right, get_or_append_left, get_or-take, get_or-drop, ext_get_or, drop-drop, take-append_seam, drop-append_seam, ints, zero-*ℤ, zero-mul, add-mul, mul-suc, first_chunks, negsuc}
use Rattle.raw_block.specs.Bytes.{position, place, EachWithin, put, item_at}

-- ---- one item

pub length-item_at : (at n : ℕ) (bytes : List ℕ) → at + n ≤ length bytes → length (item_at at n bytes) ≡ n
length-item_at at n bytes le = omega (arith, length-take n (drop at bytes), length-drop at bytes)

pub length-put : (at : ℕ) (xs bytes : List ℕ) → at + length xs ≤ length bytes → length (put at xs bytes) ≡ length bytes
length-put at xs bytes le = omega (arith, length-append (take at bytes ++ xs) (drop (at + length xs) bytes), length-append (take at bytes) xs, length-take at bytes, length-drop (at + length xs) bytes)

module _ (at : ℕ) (xs bytes : List ℕ) (le : at + length xs ≤ length bytes) where
  pub front_length : length (take at bytes ++ xs) ≡ at + length xs
  front_length = omega (arith, length-append (take at bytes) xs, length-take at bytes)

  pub get_or-put_after : (j : ℕ) → at + length xs ≤ j → get_or (put at xs bytes) j 0 ≡ get_or bytes j 0
  get_or-put_after j past =
      let m = at + length xs in let back : m + (j - m) ≡ j = omega arith in
      get_or-append_right (take at bytes ++ xs) (drop m bytes) m j 0 front_length past ∙ get_or-drop m bytes (j - m) 0 ∙ ap (λ k. get_or bytes k 0) back

  pub get_or-put_before : (j : ℕ) → j < at → get_or (put at xs bytes) j 0 ≡ get_or bytes j 0
  get_or-put_before j lt =
      get_or_append_left (take at bytes ++ xs) (drop (at + length xs) bytes) 0 j (omega (arith, front_length)) ∙ get_or_append_left (take at bytes) xs 0 j (omega (arith, length-take at bytes)) ∙ get_or-take at bytes j 0 lt

-- an item that was written is read back
pub item_at-put_same : (at : ℕ) (item bytes : List ℕ) → at + length item ≤ length bytes → item_at at (length item) (put at item bytes) ≡ item
item_at-put_same at item bytes le =
    let front = take at bytes in let rest = drop (at + length item) bytes in let long : length front ≡ at = omega (arith, length-take at bytes) in
    ap (λ k. take (length item) (drop k (front ++ item ++ rest))) (sym long) ∙ ap (λ l. take (length item) (drop (length front) l)) (append_assoc front item rest)
    ∙ ap (take (length item)) (drop-append_seam front (item ++ rest)) ∙ take-append_seam item rest

-- an item that does not overlap the one that was written is unchanged
pub item_at-put_apart : (at : ℕ) (item bytes : List ℕ) (other width : ℕ) → at + length item ≤ length bytes → other + width ≤ length bytes → other + width ≤ at ⊎ at + length item ≤ other
    → item_at other width (put at item bytes) ≡ item_at other width bytes
item_at-put_apart at item bytes other width le within apart =
    let new = put at item bytes in let same = length-put at item bytes le in
    let counted : length (item_at other width new) ≡ width = length-item_at other width new (omega arith) in
    let read : (l : List ℕ) (i : ℕ) → i < width → get_or (item_at other width l) i 0 ≡ get_or l (other + i) 0 = λ l i lt. get_or-take width (drop other l) i 0 lt ∙ get_or-drop other l i 0 in
    ext_get_or 0 (item_at other width new) (item_at other width bytes) (counted ∙ sym (length-item_at other width bytes within)) (λ i lt.
    let inside : i < width = omega arith in
    read new i inside ∙ elim apart [ inl before ↦ get_or-put_before at item bytes le (other + i) (omega arith) | inr after ↦ get_or-put_after at item bytes le (other + i) (omega arith) ] ∙ sym (read bytes i inside))

-- ---- items at equal steps

pub not_negative : (z : ℤ) → pos 0 ≤ℤ z → pos (nat_abs z) ≡ z
not_negative (pos n) h = refl
not_negative (negsuc n) h = absurd (omega (arith, ints))

-- the k-th item lies within the bytes
pub place_within : (len at : ℕ) (step : ℤ) (width n k : ℕ) → EachWithin len at step width n → k < n → place at step k + width ≤ len
place_within len at step width n k h lt =
    let here = h.each k lt in let low = here.0 in let high = here.1 in let is : pos (place at step k) ≡ position at step k = not_negative (position at step k) low in
    omega (arith, ints)

-- if n + 1 items lie within the bytes, so do the first n
pub fewer : (len at : ℕ) (step : ℤ) (width n : ℕ) → EachWithin len at step width (suc n) → EachWithin len at step width n
fewer len at step width n h = record { each = λ k lt. h.each k (omega arith) }

-- the first item begins within the bytes
pub begins_within : (len at : ℕ) (step : ℤ) (width n k : ℕ) → EachWithin len at step width n → k < n → at ≤ len
begins_within len at step width n k within low =
    let first = (within.each 0 (omega (arith, low))).1 in
    let none = zero-*ℤ step in
    omega (arith, ints)

-- the first item is at `at`
pub first_position : (at : ℕ) (step : ℤ) → position at step 0 ≡ pos at
first_position at (pos s) = let none : 0 * s ≡ 0 = zero-mul s in omega (arith, ints)
first_position at (negsuc s) = let none : 0 * suc s ≡ 0 = zero-mul (suc s) in omega (arith, ints)

pub byte_of : (at width i : ℕ) (bytes : List ℕ) → i < width → get_or (item_at at width bytes) i 0 ≡ get_or bytes (at + i) 0
byte_of at width i bytes lt = get_or-take width (drop at bytes) i 0 lt ∙ get_or-drop at bytes i 0

-- the item k steps after the m-th item is item m + k
pub position-add : (at : ℕ) (step : ℤ) (m k : ℕ) → pos 0 ≤ℤ position at step m → position (place at step m) step k ≡ position at step (m + k)
position-add at (pos s) m k low = let parts : (m + k) * s ≡ m * s + k * s = add-mul m k s in let same : at + m * s + k * s ≡ at + (m + k) * s = omega arith in ap pos same
position-add at (negsuc s) m k low =
    let parts : (m + k) * suc s ≡ m * suc s + k * suc s = add-mul m k (suc s) in let is : pos (place at (negsuc s) m) ≡ position at (negsuc s) m = not_negative (position at (negsuc s) m) low in omega (arith, ints)

pub length-chunks : (width n : ℕ) (bytes : List ℕ) → length (first_chunks width n bytes) ≡ n
length-chunks width zero bytes = refl
length-chunks width (suc n) bytes = ap suc (length-chunks width n (drop width bytes))

-- the k-th of n adjacent items
pub item_of_chunks : (width n k : ℕ) (bytes : List ℕ) → k < n → get_or (first_chunks width n bytes) k [] ≡ item_at (width * k) width bytes
item_of_chunks width zero k bytes lt = absurd (omega arith)
item_of_chunks width (suc n) zero bytes lt = let none : 0 ≡ width * 0 = omega arith in ap (λ m. take width (drop m bytes)) none
item_of_chunks width (suc n) (suc k) bytes lt =
    let next : width + width * k ≡ width * suc k = omega (arith, mul-suc width k) in
    item_of_chunks width n k (drop width bytes) (omega arith) ∙ ap (take width) (drop-drop (width * k) width bytes ∙ ap (λ m. drop m bytes) next)

-- Disjoint items can be swapped at once, and so can the items of runs that do not overlap.
use Rattle.std.proofs.Common.{◌≡◌, ℕ, suc, ◌+◌, ◌-◌, ◌*◌, ◌<◌, ◌≤◌, ◌⊎◌, inl, inr, max, min, List, length, get_or, sym, ap, ◌∙◌, arith, ℤ, pos, ◌≤ℤ◌}
use Rattle.raw_block.proofs.Words.{mul-le-mul_right, cases_lt, ints, ext_get_or, negsuc, position, place, EachWithin, put, item_at, exchanged, length-item_at, length-put, get_or-put_before, get_or-put_after, item_at-put_same, not_negative, byte_of, length-exchanged, exchanged-outside, exchanged-first, exchanged-second, LieApart}

-- ---- two disjoint items

module _ (at : ℕ) (xs bytes : List ℕ) (le : at + length xs ≤ length bytes) where
  get_or-put_inside : (i : ℕ) → i < length xs → get_or (put at xs bytes) (at + i) 0 ≡ get_or xs i 0
  get_or-put_inside i lt = sym (byte_of at (length xs) i (put at xs bytes) lt) ∙ ap (λ l. get_or l i 0) (item_at-put_same at xs bytes le)

  get_or-put_outside : (k : ℕ) → (k < at) ⊎ (at + length xs ≤ k) → get_or (put at xs bytes) k 0 ≡ get_or bytes k 0
  get_or-put_outside k off = elim off [ inl before ↦ get_or-put_before at xs bytes le k before | inr after ↦ get_or-put_after at xs bytes le k after ]

outside_or_in : (at width k : ℕ) → ((k < at) ⊎ (at + width ≤ k)) ⊎ ((k - at < width) × (at + (k - at) ≡ k))
outside_or_in at width k = elim (cases_lt k at) [
  | inl before ↦ inl (inl before)
  | inr from ↦ elim (cases_lt k (at + width)) [ inl within ↦ inr (omega arith, omega arith) | inr after ↦ inl (inr after) ]
]

module _ (a b width : ℕ) (bytes : List ℕ) (in_a : a + width ≤ length bytes) (in_b : b + width ≤ length bytes) (apart : (a + width ≤ b) ⊎ (b + width ≤ a)) where
  abbrev first : List ℕ
  first = item_at a width bytes

  abbrev second : List ℕ
  second = item_at b width bytes

  abbrev one_written : List ℕ
  one_written = put a second bytes

  abbrev both_written : List ℕ
  both_written = put b first one_written

  long : length first ≡ width
  long = length-item_at a width bytes in_a

  long' : length second ≡ width
  long' = length-item_at b width bytes in_b

  same : length one_written ≡ length bytes
  same = length-put a second bytes (omega (arith, long'))

  fits : b + length first ≤ length one_written
  fits = omega (arith, long, same)

  -- the bytes outside of the second item
  in_one : (k : ℕ) → (k < b) ⊎ (b + width ≤ k) → get_or both_written k 0 ≡ get_or one_written k 0
  in_one k off = get_or-put_outside b first one_written fits k (elim off [ inl h ↦ inl h | inr h ↦ inr (omega (arith, long)) ])

  at_first : (i : ℕ) → i < width → get_or both_written (a + i) 0 ≡ get_or bytes (b + i) 0
  at_first i lt =
      let off : (a + i < b) ⊎ (b + width ≤ a + i) = elim apart [ inl h ↦ inl (omega arith) | inr h ↦ inr (omega arith) ] in
      in_one (a + i) off ∙ get_or-put_inside a second bytes (omega (arith, long')) i (omega (arith, long')) ∙ byte_of b width i bytes lt

  at_second : (i : ℕ) → i < width → get_or both_written (b + i) 0 ≡ get_or bytes (a + i) 0
  at_second i lt = get_or-put_inside b first one_written fits i (omega (arith, long)) ∙ byte_of a width i bytes lt

  elsewhere : (k : ℕ) → (k < a) ⊎ (a + width ≤ k) → (k < b) ⊎ (b + width ≤ k) → get_or both_written k 0 ≡ get_or bytes k 0
  elsewhere k off_a off_b = in_one k off_b ∙ get_or-put_outside a second bytes (omega (arith, long')) k (elim off_a [ inl h ↦ inl h | inr h ↦ inr (omega (arith, long')) ])

  -- writing one item and then the other, as both were read before, is an exchange
  pub exchanged-apart : both_written ≡ exchanged a b width bytes
  exchanged-apart =
      let new = exchanged a b width bytes in
      ext_get_or 0 both_written new (length-put b first one_written fits ∙ same ∙ sym (length-exchanged a b width bytes)) (λ k lt.
      elim (outside_or_in a width k) [
        | inr here ↦ ap (λ j. get_or both_written j 0) (sym here.1) ∙ at_first (k - a) here.0 ∙ sym (exchanged-first a b bytes width (k - a) in_a in_b apart here.0) ∙ ap (λ j. get_or new j 0) here.1
        | inl off_a ↦ elim (outside_or_in b width k) [
          | inr here ↦ ap (λ j. get_or both_written j 0) (sym here.1) ∙ at_second (k - b) here.0 ∙ sym (exchanged-second a b bytes width (k - b) in_a in_b apart here.0) ∙ ap (λ j. get_or new j 0) here.1
          | inl off_b ↦ elsewhere k off_a off_b ∙ sym (exchanged-outside a b bytes width k in_a in_b off_a off_b)
        ]
      ])

-- ---- items at equal steps

-- each item is between the first and the last
between_ends : (at : ℕ) (step : ℤ) (last k : ℕ) → k ≤ last → pos 0 ≤ℤ position at step k → pos 0 ≤ℤ position at step last → (min at (place at step last) ≤ place at step k) × (place at step k ≤ max at (place at step last))
between_ends at (pos s) last k le low low' = let most : k * s ≤ last * s = mul-le-mul_right s le in (omega arith, omega arith)
between_ends at (negsuc s) last k le low low' =
    let most = mul-le-mul_right (suc s) le in
    let here = not_negative (position at (negsuc s) k) low in let there = not_negative (position at (negsuc s) last) low' in
    (omega (arith, ints), omega (arith, ints))

module _ (len a : ℕ) (a_step : ℤ) (b : ℕ) (b_step : ℤ) (width n : ℕ) (each_a : EachWithin len a a_step width n) (each_b : EachWithin len b b_step width n) where
  -- the items of each pair do not overlap if all of one run is before all of the other
  pub beside-apart : 0 < n → (max a (place a a_step (n - 1)) + width ≤ min b (place b b_step (n - 1))) ⊎ (max b (place b b_step (n - 1)) + width ≤ min a (place a a_step (n - 1))) → LieApart a a_step b b_step width n
  beside-apart some beside = record {
    apart = λ k lt.
        let last = n - 1 in let le : k ≤ last = omega arith in let end : last < n = omega arith in
        let in_a = between_ends a a_step last k le (each_a.each k lt).0 (each_a.each last end).0 in
        let in_b = between_ends b b_step last k le (each_b.each k lt).0 (each_b.each last end).0 in
        elim beside [ inl h ↦ inl (omega arith) | inr h ↦ inr (omega arith) ];
  }

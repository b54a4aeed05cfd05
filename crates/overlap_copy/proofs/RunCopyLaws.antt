-- Runs that are copied from one block to another, and the assignment that this makes.
use Rattle.std.proofs.Common.{◌≡◌, inl, inr, ◌+◌, ◌*◌, ◌<◌, ◌≤◌, ℕ, zero, suc, ℤ, pos, List, length, get_or, sym, ap, subst, ◌∙◌, arith, suc-mul, mul-le-mul_right, zero-mul}
use Rattle.overlap_copy.proofs.Words.{ext_get_or, cases_lt, byte_of, put, item_at, place, EachWithin, length-item_at, length-put, get_or-put_before, get_or-put_after, item_at-put_same, place_within, Run, RunsLie, IsAssigned, place_in}

-- ---- adjacent items

-- the bytes of n adjacent items lie within `len` bytes
whole_within : (len at width n : ℕ) (step : ℤ) → 1 ≤ n → step ≡ pos width → EachWithin len at step width n → at + n * width ≤ len
whole_within len at width zero step some is within = absurd (omega (arith, some))
whole_within len at width (suc n) step some is within =
    let last = place_within len at (pos width) width (suc n) n (subst (λ s. EachWithin len at s width (suc n)) is within) (omega arith) in
    omega (arith, last, suc-mul n width)

-- ---- items that move within one block

-- a byte among n adjacent items lies in one of them
among : (to width n j : ℕ) → to ≤ j → j < to + n * width → (k : ℕ) × (k < n) × (to + k * width ≤ j) × (j < to + k * width + width)
among to width zero j low high = absurd (omega (arith, low, high, zero-mul width))
among to width (suc n) j low high = elim (cases_lt j (to + n * width)) [
  | inl before ↦ let found = among to width n j low before in (found.0, omega (arith, found.1), found.2, found.3)
  | inr last ↦ (n, omega arith, last, omega (arith, high, suc-mul n width))
]

whole_moved : (to from width n : ℕ) (old : List ℕ) → to + n * width ≤ length old → from + n * width ≤ length old → IsAssigned n (place to (pos width)) (place from (pos width)) width old old (put to (item_at from (n * width) old) old)
whole_moved to from width n old in_to in_from =
    let all = item_at from (n * width) old in
    let long : length all ≡ n * width = length-item_at from (n * width) old in_from in
    let fits : to + length all ≤ length old = omega (arith, long, in_to) in
    let new = put to all old in
    let size = length-put to all old fits in
    let back : item_at to (length all) new ≡ all = item_at-put_same to all old fits in
    record {
      len = size;
      items = λ k below.
          let most : suc k * width ≤ n * width = mul-le-mul_right width below in
          let one = suc-mul k width in
          let counted = length-item_at (to + k * width) width new (omega (arith, size, most, one, in_to)) in
          ext_get_or 0 (item_at (to + k * width) width new) (item_at (from + k * width) width old) (counted ∙ sym (length-item_at (from + k * width) width old (omega (arith, most, one, in_from)))) (λ i lt.
          let inside : i < width = omega (arith, lt, counted) in
          let within : k * width + i < n * width = omega (arith, inside, most, one) in
          let there : to + k * width + i ≡ to + (k * width + i) = omega arith in
          let here : from + (k * width + i) ≡ from + k * width + i = omega arith in
          byte_of (to + k * width) width i new inside ∙ ap (λ p. get_or new p 0) there ∙ sym (byte_of to (length all) (k * width + i) new (omega (arith, within, long))) ∙ ap (λ l. get_or l (k * width + i) 0) back ∙ byte_of from (n * width) (k * width + i) old within ∙ ap (λ p. get_or old p 0) here ∙ sym (byte_of (from + k * width) width i old inside));
      rest = λ j outside. elim (cases_lt j to) [
        | inl before ↦ get_or-put_before to all old fits j before
        | inr low ↦ elim (cases_lt j (to + n * width)) [
          | inr after ↦ get_or-put_after to all old fits j (omega (arith, after, long))
          | inl high ↦
              let held = among to width n j low high in
              elim (outside held.0 held.1) [ inl below ↦ absurd (omega (arith, below, held.2)) | inr above ↦ absurd (omega (arith, above, held.3)) ]
        ]
      ];
    }

pub both-end : {to from : Run} {width : ℕ} {other block : List ℕ} → RunsLie to from width other block → 1 ≤ to.count → to.step ≡ pos width → from.step ≡ pos width → (to.offset + to.count * width ≤ length block) × (from.offset + to.count * width ≤ length other)
both-end {to} {from} {width} {other} {block} lie some is is' = (
  whole_within (length block) to.offset width to.count to.step some is lie.to_in,
  whole_within (length other) from.offset width to.count from.step some is' (subst (EachWithin (length other) from.offset from.step width) (sym lie.count) lie.from_in),
)

pub packed_moved : {to from : Run} {width : ℕ} {old new : List ℕ} → RunsLie to from width old old → 1 ≤ to.count → to.step ≡ pos width → from.step ≡ pos width → new ≡ put to.offset (item_at from.offset (to.count * width) old) old
    → IsAssigned to.count (place_in to) (place_in from) width old old new
packed_moved {to} {from} {width} {old} lie some is is' moved =
    let ends = both-end lie some is is' in
    subst (IsAssigned to.count (place_in to) (place_in from) width old old) (sym moved)
    (subst (λ s. IsAssigned to.count (place to.offset s) (place_in from) width old old (put to.offset (item_at from.offset (to.count * width) old) old)) (sym is)
    (subst (λ s. IsAssigned to.count (place to.offset (pos width)) (place from.offset s) width old old (put to.offset (item_at from.offset (to.count * width) old) old)) (sym is') (whole_moved to.offset from.offset width to.count old ends.0 ends.1)))

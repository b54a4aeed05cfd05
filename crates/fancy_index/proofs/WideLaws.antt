-- Adjacent items, copied as one.
use Rattle.std.proofs.Common.{◌≡◌, ◌+◌, ◌-◌, ◌*◌, ◌≤◌, ◌++◌, get_or, ℕ, zero, suc, List, [], ◌∷◌, map, length, take, drop, refl, sym, ap, subst, ◌∙◌, All, arith, length-append, suc-mul, zero-mul, add-mul}
use Rattle.fancy_index.proofs.Words.{take-add, flat_map-append, length-map, drop-drop, All-head, All-rest, All-cons, All-nil, All-back, All-front, item_at, joined_at, row_offsets, offsets, length-offsets, entry-first, length-row, Shifted, AreWide, moved_offset, shifted, shifted_all}
use Rattle.fancy_index.proofs.GatherLaws.{packed-suc}

module _ (base : ℕ) where
  moved-row : (start d width n : ℕ) → map (moved_offset base start) (row_offsets (base + d) width n) ≡ row_offsets (start + d) width n
  moved-row start d width zero = refl
  moved-row start d width (suc n) =
      let first : start + (base + d) - base ≡ start + d = omega arith in
      let next : base + d + width ≡ base + (d + width) = omega arith in
      let after : start + (d + width) ≡ start + d + width = omega arith in
      ap (map (moved_offset base start)) (packed-suc (base + d) width n)
      ∙ (λ i. first i ∷ map (moved_offset base start) (row_offsets (next i) width n))
      ∙ (λ i. (start + d) ∷ moved-row start (d + width) width n i)
      ∙ (λ i. (start + d) ∷ row_offsets (after i) width n)
      ∙ sym (packed-suc (start + d) width n)

  shifted-row : (width n place shift : ℕ) → shifted base (row_offsets base width n) place shift ≡ row_offsets (moved_offset base place shift) width n
  shifted-row width n place shift =
      let start = moved_offset base place shift in
      let none : base ≡ base + 0 = omega arith in
      let from : start + 0 ≡ start = omega arith in
      (λ i. map (moved_offset base start) (row_offsets (none i) width n)) ∙ moved-row start 0 width n ∙ λ i. row_offsets (from i) width n

-- the bytes of adjacent items are the bytes of one wider item
row-joined : (block : List ℕ) (width n at : ℕ) → joined_at (row_offsets at width n) width block ≡ item_at at (n * width) block
row-joined block width zero at = ap (λ n. item_at at n block) (sym (zero-mul width))
row-joined block width (suc n) at =
    let more : width + n * width ≡ suc n * width = omega (arith, suc-mul n width) in
    let parts : item_at at (width + n * width) block ≡ item_at at width block ++ item_at (at + width) (n * width) block =
    take-add width (n * width) (drop at block) ∙ ap (λ rest. item_at at width block ++ take (n * width) rest) (drop-drop width at block) in
    ap (λ os. joined_at os width block) (packed-suc at width n)
    ∙ ap (λ rest. item_at at width block ++ rest) (row-joined block width n (at + width))
    ∙ sym parts
    ∙ ap (λ bytes. item_at at bytes block) more

-- adjacent items end where the wider item ends
row-ends : (len width n at : ℕ) → 1 ≤ n → All (λ o. o + width ≤ len) (row_offsets at width n) → at + n * width ≤ len
row-ends len width zero at some inside = absurd (omega (arith, some))
row-ends len width (suc zero) at some inside =
    omega (arith, All-head (λ o. o + width ≤ len) at (row_offsets (at + width) width 0) (subst (All (λ o. o + width ≤ len)) (packed-suc at width 0) inside))
row-ends len width (suc (suc n)) at some inside =
    let all = subst (All (λ o. o + width ≤ len)) (packed-suc at width (suc n)) inside in
    let rest = row-ends len width (suc n) (at + width) (omega arith) (All-rest (λ o. o + width ≤ len) at (row_offsets (at + width) width (suc n)) (at ∷ row_offsets (at + width) width (suc n)) refl all) in
    omega (arith, rest, suc-mul (suc n) width)

-- ---- the inner items of a plan, at a place and for each shift

module _ (base width n place : ℕ) where
  abbrev inner : List ℕ
  inner = row_offsets base width n

  wide-joined : (block shifts : List ℕ) → joined_at (shifted_all base shifts inner place) width block ≡ joined_at (map (moved_offset base place) shifts) (n * width) block
  wide-joined block [] = refl
  wide-joined block (shift ∷ shifts) =
      flat_map-append (λ o. item_at o width block) (shifted base inner place shift) (shifted_all base shifts inner place)
      ∙ (λ i. joined_at (shifted-row base width n place shift i) width block ++ joined_at (shifted_all base shifts inner place) width block)
      ∙ λ i. row-joined block width n (moved_offset base place shift) i ++ wide-joined block shifts i

  wide-size : (shifts : List ℕ) → length (shifted_all base shifts inner place) * width ≡ length (map (moved_offset base place) shifts) * (n * width)
  wide-size [] = zero-mul width ∙ sym (zero-mul (n * width))
  wide-size (shift ∷ shifts) =
      let here : length (shifted base inner place shift) ≡ n = length-map inner (moved_offset base (moved_offset base place shift)) ∙ length-row base width n in
      let later = length (shifted_all base shifts inner place) in
      let all = length-append (shifted base inner place shift) (shifted_all base shifts inner place) ∙ λ i. here i + later in
      omega (arith, ap (λ m. m * width) all, add-mul n later width, wide-size shifts, suc-mul (length (map (moved_offset base place) shifts)) (n * width))

  wide-inside : (len : ℕ) (shifts : List ℕ) → 1 ≤ n → All (λ o. o + width ≤ len) (shifted_all base shifts inner place) → All (λ o. o + n * width ≤ len) (map (moved_offset base place) shifts)
  wide-inside len [] some inside = All-nil (λ o. o + n * width ≤ len)
  wide-inside len (shift ∷ shifts) some inside =
      let ends = λ (o : ℕ). o + width ≤ len in
      let here = shifted base inner place shift in
      let later = shifted_all base shifts inner place in
      All-cons (λ o. o + n * width ≤ len) (moved_offset base place shift) (map (moved_offset base place) shifts)
      (row-ends len width n (moved_offset base place shift) some (subst (All ends) (shifted-row base width n place shift) (All-front ends here later inside)))
      (wide-inside len shifts some (All-back ends here later inside))

row-first : (at width n : ℕ) → 1 ≤ n → get_or (row_offsets at width n) 0 0 ≡ at
row-first at width zero some = absurd (omega (arith, some))
row-first at width (suc n) some = ap (λ os. get_or os 0 0) (packed-suc at width n)

-- the inner axes are one run of adjacent items
pub are-wide : (rows : Shifted) (width at n : ℕ) → row_offsets at width n ≡ offsets rows.inner.now → 1 ≤ n → AreWide rows width (n * width)
are-wide rows width at n same some =
    let l = rows.inner.now in
    let many : length (offsets l) ≡ n = ap length (sym same) ∙ length-row at width n in
    let starts : at ≡ l.offset = sym (row-first at width n some) ∙ (λ i. get_or (same i) 0 0) ∙ entry-first l (omega (arith, many, some, length-offsets l)) in
    let is : offsets l ≡ row_offsets l.offset width n = sym same ∙ λ i. row_offsets (starts i) width n in
    record {
      size = (λ i. length (shifted_all l.offset rows.shifts.now (is i) rows.place) * width) ∙ wide-size l.offset width n rows.place rows.shifts.now;
      joined = λ block. (λ i. joined_at (shifted_all l.offset rows.shifts.now (is i) rows.place) width block) ∙ wide-joined l.offset width n rows.place block rows.shifts.now;
      inside = λ len inside.
          wide-inside l.offset width n rows.place len rows.shifts.now some (subst (λ os. All (λ o. o + width ≤ len) (shifted_all l.offset rows.shifts.now os rows.place)) is inside);
    }

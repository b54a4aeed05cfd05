-- Single items that are gathered, scattered and filled.
use Rattle.std.proofs.Common.{◌≡◌, ℕ, ◌+◌, ◌-◌, ◌<◌, ◌≤◌, List, [], ◌∷◌, ◌++◌, map, length, get_or, drop, slice_range, refl, sym, ap, ◌∙◌, arith, append-nil}
use Rattle.fancy_index.proofs.Words.{drop_more, map-append, drop_split, put, item_at, Layout, count, offsets, length-offsets, entry-first, assigned, CanScatter, moved_offset, shifted_all, packed}
use Rattle.fancy_index.proofs.GatherLaws.{packed-suc}
use Rattle.fancy_index.proofs.Passes.{Scattering, Pushing, Filling, scatter_front, scattered_front, push_front, pushed_front, fill_front, filled_front}

-- ---- layouts of one item

one-entry : (xs : List ℕ) (x : ℕ) → length xs ≡ 1 → get_or xs 0 0 ≡ x → xs ≡ x ∷ []
one-entry [] x one is = absurd (omega (arith, one))
one-entry (y ∷ []) x one is = ap (λ z. z ∷ []) is
one-entry (y ∷ z ∷ ys) x one is = absurd (omega (arith, one))

only-offset : (l : Layout) → count l.shape ≡ 1 → offsets l ≡ l.offset ∷ []
only-offset l one = one-entry (offsets l) l.offset (length-offsets l ∙ one) (entry-first l (omega (arith, one)))

alone : (base place : ℕ) (shifts : List ℕ) → shifted_all base shifts (base ∷ []) place ≡ map (moved_offset base place) shifts
alone base place [] = refl
alone base place (shift ∷ shifts) =
    let same : moved_offset base place shift + base - base ≡ moved_offset base place shift = omega arith in
    λ i. same i ∷ alone base place shifts i

-- the offsets of the one item of a layout, at a place and moved by each shift
pub shifted-single : (l : Layout) (shifts : List ℕ) (place : ℕ) → count l.shape ≡ 1 → shifted_all l.offset shifts (offsets l) place ≡ map (moved_offset l.offset place) shifts
shifted-single l shifts place one = ap (λ o. shifted_all l.offset shifts o place) (only-offset l one) ∙ alone l.offset place shifts

-- ---- shift after shift

split-single : (base place : ℕ) (shifts : List ℕ) (k start : ℕ) → k < length shifts → start ≡ moved_offset base place (get_or shifts k 0) →
    map (moved_offset base place) (drop k shifts) ≡ (start ∷ []) ++ map (moved_offset base place) (drop (k + 1) shifts)
split-single base place shifts k start low is =
    ap (map (moved_offset base place)) (drop_more shifts k 0 low) ∙ ap (λ s. s ∷ map (moved_offset base place) (drop (k + 1) shifts)) (sym is)

packed-one : (at width : ℕ) → packed at width 1 ≡ at ∷ []
packed-one at width = packed-suc at width 0

pub record CanCopy (start at width : ℕ) (items block : List ℕ) : Type 0 where
  pub inside : start + width ≤ length block
  pub room : at + width ≤ length items

can_copy : (start at width : ℕ) (items block : List ℕ) → CanScatter (start ∷ []) at width items block → CanCopy start at width items block
can_copy start at width items block can = record {
  inside = can.inside 0 0 (omega arith);
  room = omega (arith, can.room);
}

module _ (base place : ℕ) (shifts : List ℕ) (k start : ℕ) (low : k < length shifts) (is : start ≡ moved_offset base place (get_or shifts k 0)) where
  abbrev now : List ℕ
  now = map (moved_offset base place) (drop k shifts)

  abbrev later : List ℕ
  later = map (moved_offset base place) (drop (k + 1) shifts)

  split : now ≡ (start ∷ []) ++ later
  split = split-single base place shifts k start low is

  pub push_one : (all : List ℕ) (width : ℕ) (block : List ℕ) (old builder : List ℕ × ℕ) → Pushing all now width block old builder → (start + width ≤ length block) × (width ≤ builder.1)
  push_one all width block old builder have =
      let can = push_front all now (start ∷ []) later width block old builder split have in
      (can.inside 0 0 (omega arith), omega (arith, can.room))

  pub pushed_one : (all : List ℕ) (width : ℕ) (block : List ℕ) (old builder new : List ℕ × ℕ) → new.0 ≡ builder.0 ++ item_at start width block → width + new.1 ≡ builder.1 → Pushing all now width block old builder → Pushing all later width block old new
  pushed_one all width block old builder new pushed room have =
      pushed_front all now (start ∷ []) later width block old builder new split (record { bytes = pushed ∙ ap (λ l. builder.0 ++ l) (sym (append-nil (item_at start width block))); left = omega (arith, room) }) have

  pub scatter_one : (at width end : ℕ) (items block whole : List ℕ) → Scattering now at width end items block whole → CanCopy start at width items block
  scatter_one at width end items block whole have = can_copy start at width items block (scatter_front now (start ∷ []) later at width end items block whole split have)

  pub scattered_one : (at width end : ℕ) (items block block' whole : List ℕ) → block' ≡ put start (item_at at width items) block → length block' ≡ length block →
      Scattering now at width end items block whole → Scattering later (at + width) width end items block' whole
  scattered_one at width end items block block' whole written same have =
      scattered_front now (start ∷ []) later at (at + width) width end items block block' whole split
      (written ∙ ap (λ from. assigned (start ∷ []) from width items block) (sym (packed-one at width))) same (omega arith) have

  pub fill_one : (item block whole : List ℕ) → Filling now item block whole → start + length item ≤ length block
  fill_one item block whole have = fill_front now (start ∷ []) later item block whole split have 0 0 (omega arith)

  pub filled_one : (item block block' whole : List ℕ) → block' ≡ put start item block → length block' ≡ length block → Filling now item block whole → Filling later item block' whole
  filled_one item block block' whole written same have = filled_front now (start ∷ []) later item block block' whole split written same have

-- ---- stretch after stretch

pub split-part : (base place : ℕ) (shifts part : List ℕ) (from end : ℕ) → from ≤ end → part ≡ map (moved_offset base place) (slice_range shifts from end) →
    map (moved_offset base place) (drop from shifts) ≡ part ++ map (moved_offset base place) (drop end shifts)
split-part base place shifts part from end order is =
    ap (map (moved_offset base place)) (drop_split shifts from end order)
    ∙ map-append (moved_offset base place) (slice_range shifts from end) (drop end shifts)
    ∙ ap (λ l. l ++ map (moved_offset base place) (drop end shifts)) (sym is)

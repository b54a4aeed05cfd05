-- Runs that are moved, and adjacent items.
use Rattle.std.proofs.Common.{◌≡◌, ℕ, ◌+◌, ◌-◌, ◌*◌, ◌<◌, ◌≤◌, ◌≤ℤ◌, List, [], ◌∷◌, map, length, get_or, All, sym, ap, subst, ◌∙◌, arith, mul_comm, ℤ, pos, ◌+ℤ◌, ◌*ℤ◌}
use Rattle.fancy_index.proofs.Words.{ints, length-map, get_or-map, get_or_default, same_lists, All-get_or, same_number_lists, nat_abs, zero-*ℤ, *ℤ-zero, +ℤ_idr, position, place, EachWithin, not_negative, Run, natural, LieWithin, max_bytes, run_offsets, length-run_offsets, nth-offset, place-at, lie-within, moved_offset, IsMoved, IsRunOf, packed, length-packed}

-- ---- a run that is moved

-- the `k`-th item of a run, and of the run after it is moved
module _ (run : Run) (base start : ℕ) (lies : LieWithin (run.count ∷ []) (run.step ∷ []) run.offset max_bytes 1) (moves : All (IsMoved base start) (run_offsets run)) where
  within : EachWithin max_bytes run.offset run.step 1 run.count
  within = lie-within max_bytes 1 run lies

  entry : (k : ℕ) → k < run.count → get_or (run_offsets run) k 0 ≡ place run.offset run.step k
  entry k low = place-at max_bytes 1 run k within low

  pub moved_at : (k : ℕ) → k < run.count → IsMoved base start (place run.offset run.step k)
  moved_at k low = subst (IsMoved base start) (entry k low) (All-get_or (IsMoved base start) (run_offsets run) k 0 (omega (arith, length-run_offsets run)) moves)

  pub first_moved : 1 ≤ run.count → IsMoved base start run.offset
  first_moved some =
      let zero_th : place run.offset run.step 0 ≡ run.offset = place-zero run.offset run.step in
      subst (IsMoved base start) zero_th (moved_at 0 some)
    where
      place-zero : (at : ℕ) (step : ℤ) → place at step 0 ≡ at
      place-zero at step = ap (λ z. nat_abs (pos at +ℤ z)) (zero-*ℤ step) ∙ ap nat_abs (+ℤ_idr (pos at))

  -- the position of an item moves by the same distance as the run
  position-moved : 1 ≤ run.count → (k : ℕ) → k < run.count → position (moved_offset base start run.offset) run.step k ≡ pos (moved_offset base start (place run.offset run.step k))
  position-moved some k low =
      let is : pos (place run.offset run.step k) ≡ position run.offset run.step k = not_negative (position run.offset run.step k) ((within.each k low).0) in
      let there = moved_at k low in
      let first = first_moved some in
      slide run.offset (place run.offset run.step k) base start (pos k *ℤ run.step) is first.from there.from
    where
      slide : (a p b s : ℕ) (z : ℤ) → pos p ≡ pos a +ℤ z → b ≤ s + a → b ≤ s + p → pos (s + a - b) +ℤ z ≡ pos (s + p - b)
      slide a p b s z is low low' = omega (arith, ints)

  pub each-moved : 1 ≤ run.count → (len width : ℕ) → All (λ offset. moved_offset base start offset + width ≤ len) (run_offsets run) → EachWithin len (moved_offset base start run.offset) run.step width run.count
  each-moved some len width ends = record {
    each = λ k low.
        let here : moved_offset base start (place run.offset run.step k) + width ≤ len =
        subst (λ o. moved_offset base start o + width ≤ len) (entry k low) (All-get_or (λ o. moved_offset base start o + width ≤ len) (run_offsets run) k 0 (omega (arith, length-run_offsets run)) ends) in
        rw (position-moved some k low) (omega (arith, ints), omega (arith, ints));
  }

  pub offsets-moved : 1 ≤ run.count → run_offsets (record { offset = moved_offset base start run.offset; count = run.count; step = run.step }) ≡ map (moved_offset base start) (run_offsets run)
  offsets-moved some =
      let new : Run = record { offset = moved_offset base start run.offset; count = run.count; step = run.step } in
      same_lists (run_offsets new) (map (moved_offset base start) (run_offsets run)) (length-run_offsets new ∙ sym (length-map (run_offsets run) (moved_offset base start) ∙ length-run_offsets run)) (λ k d below.
      let low : k < run.count = omega (arith, below, length-run_offsets new) in
      let ends : All (λ offset. moved_offset base start offset + 1 ≤ max_bytes) (run_offsets run) = λ j e inside. omega (arith, (moves j e inside).from, (moves j e inside).below) in
      let old : k < length (run_offsets run) = omega (arith, length-run_offsets run) in
      default (run_offsets new) k d below
      ∙ place-at max_bytes 1 new k (each-moved some max_bytes 1 ends) low
      ∙ ap abs (position-moved some k low)
      ∙ sym (get_or-map (moved_offset base start) (run_offsets run) k 0 d old ∙ ap (moved_offset base start) (entry k low)))
    where
      abs : ℤ → ℕ
      abs z = nat_abs z

      default : (xs : List ℕ) (k d : ℕ) → k < length xs → get_or xs k d ≡ get_or xs k 0
      default xs k d low = get_or_default xs k d 0 low

-- ---- the steps of a run

module _ (run : Run) (lies : LieWithin (run.count ∷ []) (run.step ∷ []) run.offset max_bytes 1) (k : ℕ) (low : k < run.count) where
  pub steps-low : pos 0 ≤ℤ (pos run.offset +ℤ run.step *ℤ pos k)
  steps-low = omega (arith, ints, lies.from_zero (k ∷ []) (low, tt))

  pub steps-high : (pos run.offset +ℤ run.step *ℤ pos k) ≤ℤ pos max_bytes
  steps-high = omega (arith, ints, lies.within (k ∷ []) (low, tt))

  pub first-low : run.offset ≤ max_bytes
  first-low = omega (arith, ints, lies.within (0 ∷ []) (omega (arith, low), tt), *ℤ-zero run.step)

  pub lies-there : (offset : ℕ) → pos offset ≡ pos run.offset +ℤ run.step *ℤ pos k → offset ≡ get_or (run_offsets run) k 0
  lies-there offset there = ap natural there ∙ sym (nth-offset run k low)

  -- with a step of 0, all items are at one place
  pub at-one-place : run.step ≡ pos 0 → run.offset ≡ get_or (run_offsets run) k 0
  at-one-place still = lies-there run.offset (sym (ap (λ z. pos run.offset +ℤ z *ℤ pos k) still ∙ ap (λ z. pos run.offset +ℤ z) (zero-*ℤ (pos k)) ∙ +ℤ_idr (pos run.offset)))

-- ---- adjacent items

pub packed-entry : (at width n k : ℕ) → k < n → get_or (packed at width n) k 0 ≡ at + width * k
packed-entry at width n k low = nth-offset (record { offset = at; count = n; step = pos width }) k low ∙ there
  where
    there : natural (pos at +ℤ pos width *ℤ pos k) ≡ at + width * k
    there = omega arith

pub run-of : (at width n : ℕ) (offsets : List ℕ) → packed at width n ≡ offsets → IsRunOf offsets (record { offset = at; count = n; step = pos width })
run-of at width n offsets same =
    let long : length offsets ≡ n = ap length (sym same) ∙ length-packed at width n in
    record {
      same = same;
      count = sym long;
      within = λ len size ends. record {
        each = λ k low.
            let end : at + width * k + size ≤ len = subst (λ o. o + size ≤ len) (ap (λ l. get_or l k 0) (sym same) ∙ packed-entry at width n k low) (ends k 0 (omega (arith, low, long))) in
            let there : position at (pos width) k ≡ pos (at + width * k) = ap (λ n. pos (at + n)) (mul_comm k width) in
            rw there (omega (arith, ints), omega (arith, ints, end));
      };
    }

-- items at shifts that increase by the width of an item
pub neighbours : (base place width : ℕ) (shifts : List ℕ) → base ≤ place + get_or shifts 0 0 → ((k : ℕ) → k < length shifts → get_or shifts k 0 ≡ get_or shifts 0 0 + k * width) →
    packed (moved_offset base place (get_or shifts 0 0)) width (length shifts) ≡ map (moved_offset base place) shifts
neighbours base place width shifts from even =
    let first = moved_offset base place (get_or shifts 0 0) in
    let long = length-packed first width (length shifts) in
    same_number_lists (packed first width (length shifts)) (map (moved_offset base place) shifts) (long ∙ sym (length-map shifts (moved_offset base place))) (λ k below.
    let low : k < length shifts = omega (arith, below, long) in
    packed-entry first width (length shifts) k low
    ∙ omega (arith, from, even k low, mul_comm width k)
    ∙ sym (get_or-map (moved_offset base place) shifts k 0 0 low))

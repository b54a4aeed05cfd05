-- Items that are kept before others are written over them, part by part.
use Rattle.std.proofs.Common.{◌≡◌, ◌+◌, ◌-◌, ◌*◌, ◌<◌, ◌≤◌, ℕ, zero, suc, ℤ, pos, ◌+ℤ◌, ◌*ℤ◌, ◌≤ℤ◌, List, [], ◌∷◌, ◌++◌, length, get_or, map, replicate, All, refl, sym, ap, subst, ◌∙◌, arith, append_assoc, get_or-append-add, length-append, nat_abs}
use Rattle.overlap_copy.proofs.Words.{*ℤ_comm, zero-*ℤ, +ℤ_idl, add-mul, flat_map-append, ints, map-append, get_or-map, get_or-replicate, length-replicate, same_lists, take_all, All-head, All-tail, numbers_from, numbers-split, natural, put, item_at, length-item_at, length-put, place, position, position-add, max_bytes, LieWithin, address, address_at, Layout, count, indexes, length-indexes, offsets, length-offsets, Run, run_offsets, length-run_offsets, BeginsWithin, lie-within, IsNested, ArePaired, CanOverwrite, Overwrites, RunPair, All-back, All-front, assigned-append, items_at, assigned, joined_at}
use Rattle.overlap_copy.specs.Words.{dot}
use Rattle.overlap_copy.proofs.MovingLaws.{nested-back}
use Rattle.overlap_copy.proofs.ShiftLaws.{lies-from}
use Rattle.overlap_copy.proofs.TradeLaws.{kept_items}
use Rattle.overlap_copy.proofs.TurnLaws.{add-nothing}

joined-same : (os : List ℕ) (width : ℕ) (block block' : List ℕ) → items_at os width block ≡ items_at os width block' → joined_at os width block ≡ joined_at os width block'
joined-same [] width block block' same = refl
joined-same (o ∷ os) width block block' same =
    let here : item_at o width block ≡ item_at o width block' = cc in
    let rest : items_at os width block ≡ items_at os width block' = cc in
    λ i. here i ++ joined-same os width block block' rest i

-- items that do not overlap those that are written are unchanged
kept-behind : (width : ℕ) (to places from other block : List ℕ) → IsNested (to ++ places) width → All (λ o. o + width ≤ length block) (to ++ places) → All (λ o. o + width ≤ length other) from →
    joined_at places width (assigned to from width other block) ≡ joined_at places width block
kept-behind width (at ∷ to) places (offset ∷ from) other block nested in_to in_from =
    let ends = λ (o : ℕ). o + width ≤ length block in
    let item = item_at offset width other in
    let long = length-item_at offset width other (All-head (λ o. o + width ≤ length other) offset from in_from) in
    let here = All-head ends at (to ++ places) in_to in
    let same = length-put at item block (omega (arith, here, long)) in
    let behind = All-tail ends at (to ++ places) in_to in
    kept-behind width to places from other (put at item block) (nested-back (at ∷ []) (to ++ places) width nested) (subst (λ n. All (λ o. o + width ≤ n) (to ++ places)) (sym same) behind) (All-tail (λ o. o + width ≤ length other) offset from in_from)
    ∙ joined-same places width (put at item block) block (kept_items width at item places block long here (All-back ends to places behind) (λ k below.
    let far = nested.apart 0 (suc (length to + k)) (omega arith) (omega (arith, below, length-append to places)) in omega (arith, far, get_or-append-add to places k 0)))
kept-behind width _ places _ other block nested in_to in_from = refl

-- ---- the remaining places complete what all of them do

abbrev pub overwritten : List ℕ → List ℕ → ℕ → List ℕ → List ℕ → List ℕ → List ℕ × List ℕ
overwritten to from width other block kept = (assigned to from width other block, kept ++ joined_at to width block)

-- `now` is the block, and what is kept
pub record IsLeft (to from : List ℕ) (width : ℕ) (other : List ℕ) (now : List ℕ × (List ℕ × ℕ)) (whole : List ℕ × List ℕ) (spare : ℕ) : Type 0 where
  pub nested : IsNested to width
  pub paired : ArePaired to from width other now.0
  pub rest : overwritten to from width other now.0 now.1.0 ≡ whole
  pub fills : length to * width + spare ≡ now.1.1

-- the next items can be kept and written over, and then the others are left
pub next-left : (pair : RunPair) (to' from' os os' : List ℕ) (width : ℕ) (other : List ℕ) (now : List ℕ × (List ℕ × ℕ)) (whole : List ℕ × List ℕ) (spare : ℕ) → run_offsets pair.first ++ to' ≡ os → run_offsets pair.second ++ from' ≡ os' → pair.first.count ≡ pair.second.count
    → BeginsWithin pair.first → BeginsWithin pair.second → IsLeft os os' width other now whole spare → CanOverwrite pair width other now.0 now.1 × ((next : List ℕ × (List ℕ × ℕ)) → Overwrites pair width other now next → IsLeft to' from' width other next whole spare)
next-left pair to' from' os os' width other now whole spare all all' even begins begins' l =
    let to = run_offsets pair.first in
    let from = run_offsets pair.second in
    let in_block = λ (o : ℕ). o + width ≤ length now.0 in
    let in_other = λ (o : ℕ). o + width ≤ length other in
    let nested = subst (λ xs. IsNested xs width) (sym all) l.nested in
    let to_in = subst (All in_block) (sym all) l.paired.to_in in
    let from_in = subst (All in_other) (sym all') l.paired.from_in in
    let same = length-run_offsets pair.first ∙ even ∙ sym (length-run_offsets pair.second) in
    let many = sym (length-append to to') ∙ ap length all in
    let many' = sym (length-append from from') ∙ ap length all' in
    let bytes : length os * width ≡ pair.first.count * width + length to' * width = omega (arith, ap (λ n. n * width) many, add-mul (length to) (length to') width, ap (λ n. n * width) (length-run_offsets pair.first)) in (
      record {
        begins = begins;
        other_begins = begins';
        paired = record { to_in = All-front in_block to to' to_in; from_in = All-front in_other from from' from_in; count = sym same };
        room = omega (arith, l.fills, bytes);
      },
      λ next over.
          let behind : joined_at to' width next.0 ≡ joined_at to' width now.0 =
          ap (joined_at to' width) over.there.written ∙ kept-behind width to to' from other now.0 nested to_in (All-front in_other from from' from_in) in
          let written : assigned to' from' width other next.0 ≡ assigned os os' width other now.0 =
          ap (assigned to' from' width other) over.there.written
          ∙ sym (assigned-append to from to' from' width other now.0 same)
          ∙ (λ i. assigned (all i) (all' i) width other now.0) in
          let old : next.1.0 ++ joined_at to' width next.0 ≡ now.1.0 ++ joined_at os width now.0 =
          (λ i. over.old_items i ++ behind i)
          ∙ append_assoc now.1.0 (joined_at to width now.0) (joined_at to' width now.0)
          ∙ ap (λ l. now.1.0 ++ l) (sym (flat_map-append (λ o. item_at o width now.0) to to') ∙ ap (λ xs. joined_at xs width now.0) all) in
          record {
            nested = nested-back to to' width nested;
            paired = record {
              to_in = subst (λ n. All (λ o. o + width ≤ n) to') (sym over.there.len) (All-back in_block to to' to_in);
              from_in = All-back in_other from from' from_in;
              count = omega (arith, many, many', same, l.paired.count);
            };
            rest = (λ i. (written i, old i)) ∙ l.rest;
            fills = omega (arith, l.fills, over.left, bytes);
          },
    )

-- ---- the first items of a run, and those after them

pub run-split : (run : Run) (n offset : ℕ) (step : ℤ) → n < run.count → step ≡ run.step → pos offset ≡ pos run.offset +ℤ run.step *ℤ pos n →
    run_offsets (record { offset = run.offset; count = n; step = step }) ++ run_offsets (record { offset = offset; count = run.count - n; step = step }) ≡ run_offsets run
run-split run n offset step low same is =
    let whole : n + (run.count - n) ≡ run.count = omega arith in
    (λ i. map natural (numbers_from (pos run.offset) (same i) n) ++ map natural (numbers_from (is i) (same i) (run.count - n)))
    ∙ sym (map-append natural (numbers_from (pos run.offset) run.step n) (numbers_from (pos run.offset +ℤ run.step *ℤ pos n) run.step (run.count - n)))
    ∙ ap (map natural) (sym (numbers-split (pos run.offset) run.step n (run.count - n)))
    ∙ ap (λ m. map natural (numbers_from (pos run.offset) run.step m)) whole

pub rest-begins : (run : Run) (n offset : ℕ) → n < run.count → pos offset ≡ pos run.offset +ℤ run.step *ℤ pos n → BeginsWithin run → BeginsWithin (record { offset = offset; count = run.count - n; step = run.step })
rest-begins run n offset low is begins =
    let within = lie-within max_bytes 1 run begins in
    let at : offset ≡ place run.offset run.step n = ap nat_abs (is ∙ ap (λ z. pos run.offset +ℤ z) (*ℤ_comm run.step (pos n))) in
    lies-from max_bytes 1 (record { offset = offset; count = run.count - n; step = run.step }) (record {
      each = λ k below.
          let there = ap (λ a. position a run.step k) at ∙ position-add run.offset run.step n k (within.each n low).0 in
          subst (λ z. (pos 0 ≤ℤ z) × ((z +ℤ pos 1) ≤ℤ pos max_bytes)) (sym there) (within.each (n + k) (omega (arith, below)));
    })

-- where the rest of the run begins
pub rest-start : (run : Run) (n : ℕ) → n < run.count → BeginsWithin run → (pos 0 ≤ℤ (pos run.offset +ℤ run.step *ℤ pos n)) × (((pos run.offset +ℤ run.step *ℤ pos n) +ℤ pos 1) ≤ℤ pos max_bytes)
rest-start run n low begins =
    let is = add-nothing (pos run.offset) (run.step *ℤ pos n) (run.step *ℤ pos n) refl in
    (subst (λ z. pos 0 ≤ℤ z) is (begins.from_zero (n ∷ []) (low, tt)), subst (λ z. (z +ℤ pos 1) ≤ℤ pos max_bytes) is (begins.within (n ∷ []) (low, tt)))

-- ---- one item at all places

at-start : (strides : List ℤ) (index : List ℕ) → address_at (map (λ _. pos 0) strides) 0 index ≡ pos 0
at-start (step ∷ strides) (k ∷ index) = ap (λ z. pos 0 +ℤ (z +ℤ dot (map (λ _. pos 0) strides) index)) (zero-*ℤ (pos k)) ∙ ap (λ z. pos 0 +ℤ z) (+ℤ_idl (dot (map (λ _. pos 0) strides) index)) ∙ at-start strides index
at-start _ _ = refl

pub start-within : (shape : List ℕ) (strides : List ℤ) → LieWithin shape (map (λ _. pos 0) strides) 0 max_bytes 1
start-within shape strides = record {
  from_zero = λ index _. subst (λ z. pos 0 ≤ℤ z) (sym (at-start strides index)) (omega (arith, ints));
  within = λ index _. subst (λ z. (z +ℤ pos 1) ≤ℤ pos max_bytes) (sym (at-start strides index)) (omega (arith, ints));
}

pub start-offsets : (l : Layout) (strides : List ℤ) → (0 < count l.shape → l.strides ≡ map (λ _. pos 0) strides) → (0 < count l.shape → l.offset ≡ 0) → offsets l ≡ replicate (count l.shape) 0
unfolding offsets
start-offsets l strides are starts = same_lists (offsets l) (replicate (count l.shape) 0) (length-offsets l ∙ sym (length-replicate (count l.shape) 0)) (λ k d below.
    let low : k < count l.shape = omega (arith, below, length-offsets l) in
    let some : 0 < count l.shape = omega (arith, low) in
    let index = get_or (indexes l.shape) k [] in
    get_or-map (λ i. natural (address l i)) (indexes l.shape) k [] d (omega (arith, low, length-indexes l.shape))
    ∙ (λ i. natural (address_at (are some i) (starts some i) index))
    ∙ ap natural (at-start strides index)
    ∙ sym (get_or-replicate (count l.shape) k 0 d low))

pub same-items : (n : ℕ) (item : List ℕ) → items_at (replicate n 0) (length item) item ≡ replicate n item
same-items zero item = refl
same-items (suc n) item = λ i. take_all (length item) item (omega arith) i ∷ same-items n item i

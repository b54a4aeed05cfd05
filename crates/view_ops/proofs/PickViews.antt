-- The layout of the picks is a view.
use Rattle.std.proofs.Common.{◌≡◌, inl, inr, Ok, ℕ, suc, ◌+◌, ◌*◌, ◌<◌, ◌≤◌, nat_lt, nat_le, true, ℤ, pos, neg_ℤ, ◌+ℤ◌, ◌*ℤ◌, ◌≤ℤ◌, List, [], ◌∷◌, ◌++◌, All, map, length, get_or, drop, refl, sym, ap, ◌∙◌, arith, mul-le-mul_left, append_assoc}
use Rattle.view_ops.proofs.Words.{list_all, flat_map, mul-le-mul_right, cases_Bool, cases_lt, nat_tests, ints, drop_more, drop_all, zero-*ℤ, +ℤ_assoc, +ℤ_idl, +ℤ_idr, Layout, count, IsIndex, shape_of, max_axes, max_items, max_bytes, address_at, LieWithin, address, offsets, rank-lt, factors_pos, shape_of-ok, dot-nil, one-step, dot, AxisPick, AtAxis, AlongAxis, NewAxis, Progression, run_number, run_numbers, IsRunWithin, picked_shape, picked_index, pick_shown, ArePicks, axes_of_pick, run_stride, stride_of, picked_strides, IsSmallStep, IsSmallPick, HaveSmallSteps, first_of, view_through, IsViewOf, KeepsNested, ShowsThrough, length-run, number_at, first_number, LieWithin-view, inside-view, offsets-view}
use Rattle.view_ops.proofs.ViewLaws.{IsNested-view}
use Rattle.view_ops.proofs.StrideLaws.{stride_along, run_number-is, run-one}

-- the shape of the picks, and the index to which an index of it leads
abbrev pub shape_of_picks : List AxisPick → List ℕ
shape_of_picks picks = picked_shape (map pick_shown picks)

abbrev pub leads_of_picks : List AxisPick → List ℕ → List ℕ
leads_of_picks picks = picked_index (map pick_shown picks)

abbrev pub firsts : List AxisPick → List ℕ
firsts picks = flat_map first_of picks

-- ---- the shape

shorter : (m n c d : ℕ) → m ≤ n → c ≤ d → m * c ≤ n * d
shorter m n c d few low =
    let first : m * c ≤ n * c = mul-le-mul_right c few in
    let second : n * c ≤ n * d = mul-le-mul_left n low in
    omega arith

pub count-picks : (shape : List ℕ) (picks : List AxisPick) → ArePicks shape picks → count (shape_of_picks picks) ≤ count shape
count-picks shape (NewAxis ∷ picks) are = omega (arith, count-picks shape picks are)
count-picks [] [] are = omega arith
count-picks (n ∷ shape) (AtAxis number ∷ picks) are =
    let more : 1 * count (shape_of_picks picks) ≤ n * count shape = shorter 1 n (count (shape_of_picks picks)) (count shape) (omega (arith, are.0)) (count-picks shape picks are.1) in
    omega arith
count-picks (n ∷ shape) (AlongAxis run ∷ picks) are =
    shorter (length (run_numbers run)) n (count (shape_of_picks picks)) (count shape) (omega (arith, length-run run, are.0.count_within)) (count-picks shape picks are.1)
count-picks _ _ are = absurd are

pub short-picks : (shape : List ℕ) (picks : List AxisPick) → ArePicks shape picks → All (λ m. m ≤ max_items) shape → list_all (λ m. nat_le m max_items) (shape_of_picks picks) ≡ true
short-picks shape (NewAxis ∷ picks) are low = short-picks shape picks are low
short-picks [] [] are low = refl
short-picks (n ∷ shape) (AtAxis number ∷ picks) are low = short-picks shape picks are.1 (λ k d below. low (suc k) d (omega arith))
short-picks (n ∷ shape) (AlongAxis run ∷ picks) are low =
    let short : length (run_numbers run) ≤ max_items = omega (arith, length-run run, are.0.count_within, low 0 0 (omega arith)) in
    let test : nat_le (length (run_numbers run)) max_items ≡ true = grind (arith, nat_tests) in
    rw test (short-picks shape picks are.1 (λ k d below. low (suc k) d (omega arith)))
short-picks _ _ are low = absurd are

pub shape_of-picks : (shape : List ℕ) (picks : List AxisPick) → ArePicks shape picks → All (λ m. m ≤ max_items) shape → count shape ≤ max_items → length (shape_of_picks picks) ≤ max_axes → shape_of (shape_of_picks picks) ≡ Ok (shape_of_picks picks)
shape_of-picks shape picks are low small few = shape_of-ok (shape_of_picks picks) few (short-picks shape picks are low) (omega (arith, count-picks shape picks are))

-- ---- the indexes to which indexes lead

pub leads-picks : (shape : List ℕ) (picks : List AxisPick) (index : List ℕ) → ArePicks shape picks → IsIndex (shape_of_picks picks) index → IsIndex shape (leads_of_picks picks index)
leads-picks shape (NewAxis ∷ picks) (k ∷ index) are in' = leads-picks shape picks index are in'.1
leads-picks [] [] index are in' = tt
leads-picks (n ∷ shape) (AtAxis number ∷ picks) index are in' = (are.0, leads-picks shape picks index are.1 in')
leads-picks (n ∷ shape) (AlongAxis run ∷ picks) (k ∷ index) are in' =
    let low : k < run.count = omega (arith, length-run run, in'.0) in
    (rw (number_at run k low) (are.0.below k low), leads-picks shape picks index are.1 in'.1)
leads-picks _ _ _ are in' = absurd (omega arith)

-- If the view has items, the first numbers of the picks are an index of the old array.
pub IsIndex-firsts : (shape : List ℕ) (picks : List AxisPick) → ArePicks shape picks → 0 < count (shape_of_picks picks) → IsIndex shape (firsts picks)
IsIndex-firsts shape (NewAxis ∷ picks) are some = IsIndex-firsts shape picks are (omega arith)
IsIndex-firsts [] [] are some = tt
IsIndex-firsts (n ∷ shape) (AtAxis number ∷ picks) are some = (are.0, IsIndex-firsts shape picks are.1 some)
IsIndex-firsts (n ∷ shape) (AlongAxis run ∷ picks) are some =
    let both = factors_pos (length (run_numbers run)) (count (shape_of_picks picks)) some in
    let low : 0 < run.count = omega (arith, length-run run, both.0) in
    (rw (← first_number run) (are.0.below 0 low), IsIndex-firsts shape picks are.1 both.1)
IsIndex-firsts _ _ are some = absurd are

-- ---- the loops

-- The loop over the strides can handle a pick of axis `axis`, with the picks after it.
pub record CanStep (strides : List ℤ) (axis : ℕ) (pick : AxisPick) (later : List AxisPick) : Type 0 where
  pub axis_in : axes_of_pick pick ≡ 1 → axis < length strides
  pub small : IsSmallPick (get_or strides axis (pos 0)) pick
  pub within : axis + axes_of_pick pick ≤ length strides
  pub rest : HaveSmallSteps (drop (axis + axes_of_pick pick) strides) later
  pub made : picked_strides (drop axis strides) (pick ∷ later) ≡ stride_of (get_or strides axis (pos 0)) pick ++ picked_strides (drop (axis + axes_of_pick pick) strides) later

pub can_step : (strides : List ℤ) (axis : ℕ) (pick : AxisPick) (later : List AxisPick) → axis ≤ length strides → HaveSmallSteps (drop axis strides) (pick ∷ later) → CanStep strides axis pick later
can_step strides axis NewAxis later within small =
    let here : axis + 0 ≡ axis = omega arith in
    record {
      axis_in = λ one. absurd (omega arith);
      small = tt;
      within = omega arith;
      rest = rw here small;
      made = ap (λ a. pos 0 ∷ picked_strides (drop a strides) later) (sym here);
    }
can_step strides axis (AtAxis number) later within small =
    elim (cases_lt axis (length strides)) [
      | inl low ↦ record {
        axis_in = λ one. low;
        small = tt;
        within = omega arith;
        rest = (rw (drop_more strides axis (pos 0) low) at small).1;
        made = ap (λ s. picked_strides s (AtAxis number ∷ later)) (drop_more strides axis (pos 0) low);
      }
      | inr none ↦ absurd (rw (drop_all axis strides none) at small)
    ]
can_step strides axis (AlongAxis run) later within small =
    elim (cases_lt axis (length strides)) [
      | inl low ↦ record {
        axis_in = λ one. low;
        small = (rw (drop_more strides axis (pos 0) low) at small).0;
        within = omega arith;
        rest = (rw (drop_more strides axis (pos 0) low) at small).1;
        made = ap (λ s. picked_strides s (AlongAxis run ∷ later)) (drop_more strides axis (pos 0) low);
      }
      | inr none ↦ absurd (rw (drop_all axis strides none) at small)
    ]

-- the state of the loop before the i-th pick
pub record HaveStepped (strides made : List ℤ) (picks : List AxisPick) (i axis : ℕ) : Type 0 where
  pub within : axis ≤ length strides
  pub small : HaveSmallSteps (drop axis strides) (drop i picks)
  pub left : made ++ picked_strides (drop axis strides) (drop i picks) ≡ picked_strides strides picks

pub step_at : (strides made : List ℤ) (picks : List AxisPick) (i axis : ℕ) (d : AxisPick) → i < length picks → HaveStepped strides made picks i axis → CanStep strides axis (get_or picks i d) (drop (i + 1) picks)
step_at strides made picks i axis d low have =
    can_step strides axis (get_or picks i d) (drop (i + 1) picks) have.within (rw (drop_more picks i d low) at have.small)

pub stepped_on : (strides made new : List ℤ) (picks : List AxisPick) (i axis : ℕ) (d : AxisPick) → i < length picks → new ≡ made ++ stride_of (get_or strides axis (pos 0)) (get_or picks i d) → HaveStepped strides made picks i axis → HaveStepped strides new picks (i + 1) (axis + axes_of_pick (get_or picks i d))
stepped_on strides made new picks i axis d low is have =
    let pick = get_or picks i d in
    let step = step_at strides made picks i axis d low have in
    let left = picked_strides (drop (axis + axes_of_pick pick) strides) (drop (i + 1) picks) in
    record {
      within = step.within;
      small = step.rest;
      left = ap (λ l. l ++ left) is ∙ append_assoc made (stride_of (get_or strides axis (pos 0)) pick) left ∙ ap (λ l. made ++ l) (sym step.made) ∙ ap (λ p. made ++ picked_strides (drop axis strides) p) (sym (drop_more picks i d low)) ∙ have.left;
    }

pub length-strides : (strides : List ℤ) (shape : List ℕ) (picks : List AxisPick) → length strides ≡ length shape → ArePicks shape picks → length (picked_strides strides picks) ≡ length (shape_of_picks picks)
length-strides strides shape (NewAxis ∷ picks) one are = ap suc (length-strides strides shape picks one are)
length-strides strides [] [] one are = refl
length-strides (s ∷ strides) (n ∷ shape) (AtAxis number ∷ picks) one are = length-strides strides shape picks (omega arith) are.1
length-strides (s ∷ strides) (n ∷ shape) (AlongAxis run ∷ picks) one are = ap suc (length-strides strides shape picks (omega arith) are.1)
length-strides [] (n ∷ shape) picks one are = absurd (omega arith)
length-strides _ _ _ one are = absurd (omega arith)

-- ---- addresses

sums : (a b c d e m : ℤ) → a +ℤ c ≡ e → b +ℤ d ≡ m → (a +ℤ b) +ℤ (c +ℤ d) ≡ e +ℤ m
sums a b c d e m first second = omega (arith, ints)

along : (s : ℤ) (run : Progression) (n k : ℕ) → IsRunWithin run n → k < run.count → s *ℤ pos run.first +ℤ run_stride s run *ℤ pos k ≡ s *ℤ pos (run_number run k)
along s run n k within low =
    elim (cases_Bool (nat_lt run.count 2)) [
      | inl short ↦
          let none : k ≡ 0 = grind (arith, nat_tests) in
          rw (short, none, first_number run, zero-*ℤ (pos 0)) (+ℤ_idr (s *ℤ pos run.first))
      | inr long ↦ rw long (stride_along s run.step (run_number run k) run.first k (run_number-is run n k within low))
    ]

pub dot-picks : (strides : List ℤ) (shape : List ℕ) (picks : List AxisPick) (index : List ℕ) → length strides ≡ length shape → ArePicks shape picks → IsIndex (shape_of_picks picks) index → dot strides (firsts picks) +ℤ dot (picked_strides strides picks) index ≡ dot strides (leads_of_picks picks index)
dot-picks strides shape (NewAxis ∷ picks) (k ∷ index) one are in' =
    let d = dot strides (firsts picks) in
    let e = dot (picked_strides strides picks) index in
    ap (λ z. d +ℤ (z +ℤ e)) (zero-*ℤ (pos k)) ∙ ap (λ z. d +ℤ z) (+ℤ_idl e) ∙ dot-picks strides shape picks index one are in'.1
dot-picks strides [] [] index one are in' = rw (dot-nil strides) refl
dot-picks (s ∷ strides) (n ∷ shape) (AtAxis number ∷ picks) index one are in' =
    +ℤ_assoc (s *ℤ pos number) (dot strides (firsts picks)) (dot (picked_strides strides picks) index) ∙ ap (λ z. s *ℤ pos number +ℤ z) (dot-picks strides shape picks index (omega arith) are.1 in')
dot-picks (s ∷ strides) (n ∷ shape) (AlongAxis run ∷ picks) (k ∷ index) one are in' =
    let low : k < run.count = omega (arith, length-run run, in'.0) in
    let here = along s run n k are.0 low ∙ ap (λ x. s *ℤ pos x) (sym (number_at run k low)) in
    sums (s *ℤ pos run.first) (dot strides (firsts picks)) (run_stride s run *ℤ pos k) (dot (picked_strides strides picks) index) (s *ℤ pos (get_or (run_numbers run) k 0)) (dot strides (leads_of_picks picks index)) here (dot-picks strides shape picks index (omega arith) are.1 in'.1)
dot-picks [] (n ∷ shape) picks index one are in' = absurd (omega arith)
dot-picks _ _ _ _ one are in' = absurd (omega arith)

-- ---- different indexes lead to different items

pub one-picks : (shape : List ℕ) (picks : List AxisPick) (i j : List ℕ) → ArePicks shape picks → IsIndex (shape_of_picks picks) i → IsIndex (shape_of_picks picks) j → leads_of_picks picks i ≡ leads_of_picks picks j → i ≡ j
one-picks shape (NewAxis ∷ picks) (k ∷ i) (l ∷ j) are in-i in-j same =
    let first : k ≡ l = omega (arith, in-i.0, in-j.0) in
    let rest = one-picks shape picks i j are in-i.1 in-j.1 same in
    cc
one-picks [] [] [] [] are in-i in-j same = refl
one-picks (n ∷ shape) (AtAxis number ∷ picks) i j are in-i in-j same =
    let later : leads_of_picks picks i ≡ leads_of_picks picks j = cc in
    one-picks shape picks i j are.1 in-i in-j later
one-picks (n ∷ shape) (AlongAxis run ∷ picks) (k ∷ i) (l ∷ j) are in-i in-j same =
    let low-k : k < run.count = omega (arith, length-run run, in-i.0) in
    let low-l : l < run.count = omega (arith, length-run run, in-j.0) in
    let here : get_or (run_numbers run) k 0 ≡ get_or (run_numbers run) l 0 = cc in
    let later : leads_of_picks picks i ≡ leads_of_picks picks j = cc in
    let first : k ≡ l = run-one run n k l are.0 low-k low-l (sym (number_at run k low-k) ∙ here ∙ number_at run l low-l) in
    let rest = one-picks shape picks i j are.1 in-i.1 in-j.1 later in
    cc
one-picks _ _ _ _ are in-i in-j same = absurd (omega arith)

-- ---- no step leaves the limits

-- The sums starting at `z` stay within the limit of a buffer.
pub record StaysWithin (z : ℤ) (strides : List ℤ) (shape : List ℕ) : Type 0 where
  pub low : (index : List ℕ) → IsIndex shape index → pos 0 ≤ℤ (z +ℤ dot strides index)
  pub high : (index : List ℕ) → IsIndex shape index → (z +ℤ dot strides index) ≤ℤ pos max_bytes

-- They also do with a number given on the first axis.
stays_at : (z s : ℤ) (strides : List ℤ) (n x : ℕ) (shape : List ℕ) → x < n → StaysWithin z (s ∷ strides) (n ∷ shape) → StaysWithin (z +ℤ s *ℤ pos x) strides shape
stays_at z s strides n x shape low stays = record {
  low = λ index in'. rw (+ℤ_assoc z (s *ℤ pos x) (dot strides index)) (stays.low (x ∷ index) (low, in'));
  high = λ index in'. rw (+ℤ_assoc z (s *ℤ pos x) (dot strides index)) (stays.high (x ∷ index) (low, in'));
}

far_apart : (z d a b p : ℤ) (len : ℕ) → b ≡ a +ℤ p → pos 0 ≤ℤ (z +ℤ a +ℤ d) → (z +ℤ a +ℤ d) ≤ℤ pos len → pos 0 ≤ℤ (z +ℤ b +ℤ d) → (z +ℤ b +ℤ d) ≤ℤ pos len → (neg_ℤ (pos len) ≤ℤ p) × (p ≤ℤ pos len)
far_apart z d a b p len is low high low' high' = (omega (arith, ints), omega (arith, ints))

near_by : (x f n len : ℕ) (p : ℤ) → pos x ≡ pos f +ℤ p → x < n → f < n → n ≤ len → (neg_ℤ (pos len) ≤ℤ p) × (p ≤ℤ pos len)
near_by x f n len p is low low' few = (omega (arith, ints), omega (arith, ints))

small_step : (z s : ℤ) (strides : List ℤ) (n : ℕ) (shape : List ℕ) (run : Progression) (rest : List ℕ) → IsRunWithin run n → n ≤ max_items → IsIndex shape rest → StaysWithin z (s ∷ strides) (n ∷ shape) → 2 ≤ run.count → IsSmallStep s run.step
small_step z s strides n shape run rest within few in' stays two =
    let d = dot strides rest in
    let x = run_number run 1 in
    let low : run.first < n = rw (← first_number run) (within.below 0 (omega arith)) in
    let low' : x < n = within.below 1 (omega arith) in
    let one : run.step *ℤ pos 1 ≡ run.step = one-step run.step in
    let is : pos x ≡ pos run.first +ℤ run.step = run_number-is run n 1 within (omega arith) ∙ ap (λ t. pos run.first +ℤ t) one in
    let moved : s *ℤ pos x ≡ s *ℤ pos run.first +ℤ s *ℤ run.step = sym (stride_along s run.step x run.first 1 (run_number-is run n 1 within (omega arith))) ∙ ap (λ t. s *ℤ pos run.first +ℤ t) (one-step (s *ℤ run.step)) in
    let here = stays_at z s strides n run.first shape low stays in
    let there = stays_at z s strides n x shape low' stays in
    let near = near_by x run.first n max_bytes run.step is low' low (omega arith) in
    let far = far_apart z d (s *ℤ pos run.first) (s *ℤ pos x) (s *ℤ run.step) max_bytes moved (here.low rest in') (here.high rest in') (there.low rest in') (there.high rest in') in
    record { step_low = near.0; step_high = near.1; low = far.0; high = far.1 }

pub small-picks : (z : ℤ) (strides : List ℤ) (shape : List ℕ) (picks : List AxisPick) → length strides ≡ length shape → All (λ m. m ≤ max_items) shape → ArePicks shape picks → 0 < count (shape_of_picks picks) → StaysWithin z strides shape → HaveSmallSteps strides picks
small-picks z strides shape (NewAxis ∷ picks) one low are some stays = small-picks z strides shape picks one low are (omega arith) stays
small-picks z [] [] [] one low are some stays = tt
small-picks z (s ∷ strides) (n ∷ shape) (AtAxis number ∷ picks) one low are some stays =
    (tt, small-picks (z +ℤ s *ℤ pos number) strides shape picks (omega arith) (λ k d below. low (suc k) d (omega arith)) are.1 some (stays_at z s strides n number shape are.0 stays))
small-picks z (s ∷ strides) (n ∷ shape) (AlongAxis run ∷ picks) one low are some stays =
    let both = factors_pos (length (run_numbers run)) (count (shape_of_picks picks)) some in
    let one_or_more : 0 < run.count = omega (arith, length-run run, both.0) in
    let first : run.first < n = rw (← first_number run) (are.0.below 0 one_or_more) in
    (small_step z s strides n shape run (firsts picks) are.0 (low 0 0 (omega arith)) (IsIndex-firsts shape picks are.1 both.1) stays, small-picks (z +ℤ s *ℤ pos run.first) strides shape picks (omega arith) (λ k d below. low (suc k) d (omega arith)) are.1 both.1 (stays_at z s strides n run.first shape first stays))
small-picks z [] (n ∷ shape) picks one low are some stays = absurd (omega arith)
small-picks z (s ∷ strides) (n ∷ shape) [] one low are some stays = absurd are
small-picks z _ _ _ one low are some stays = absurd (omega arith)

below_limit : (a : ℤ) (len : ℕ) → (a +ℤ pos 1) ≤ℤ pos len → a ≤ℤ pos len
below_limit a len low = omega (arith, ints)

pub small-layout : (old : Layout) (picks : List AxisPick) → All (λ m. m ≤ max_items) old.shape → ArePicks old.shape picks → 0 < count (shape_of_picks picks) → HaveSmallSteps old.strides picks
small-layout old picks low are some =
    small-picks (pos old.offset) old.strides old.shape picks old.one_stride_an_axis low are some (record {
      low = λ index in'. old.within_limit.from_zero index in';
      high = λ index in'. below_limit (address old index) max_bytes (old.within_limit.within index in');
    })

-- ---- the view

-- how the shape, the strides and the offset are made, if there are items
pub record IsPicked (old : Layout) (shape : List ℕ) (strides : List ℤ) (offset : ℕ) (picks : List AxisPick) : Type 0 where
  pub are : ArePicks old.shape picks
  pub shape_is : shape ≡ shape_of_picks picks
  pub offset_is : 0 < count shape → pos offset ≡ address old (firsts picks)
  pub strides_are : 0 < count shape → strides ≡ picked_strides old.strides picks

pub picked_as : (old : Layout) (shape : List ℕ) (strides : List ℤ) (offset : ℕ) (picks : List AxisPick) (first : List ℕ) (seen : List ℤ) → ArePicks old.shape picks → shape ≡ shape_of_picks picks → pos offset ≡ address old first → first ≡ firsts picks → strides ≡ picked_strides seen picks → seen ≡ old.strides → IsPicked old shape strides offset picks
picked_as old shape strides offset picks first seen are shape_is at first_is made is = record {
  are = are;
  shape_is = shape_is;
  offset_is = λ _. at ∙ ap (address old) first_is;
  strides_are = λ _. made ∙ ap (λ s. picked_strides s picks) is;
}

-- Without items, any layout of that shape is made in this way.
pub picked_empty : (old new : Layout) (shape : List ℕ) (picks : List AxisPick) → ArePicks old.shape picks → new.shape ≡ shape → shape ≡ shape_of_picks picks → count shape ≡ 0 → IsPicked old new.shape new.strides new.offset picks
picked_empty old new shape picks are same shape_is none = record {
  are = are;
  shape_is = same ∙ shape_is;
  offset_is = λ some. absurd (omega (arith, ap count same));
  strides_are = λ some. absurd (omega (arith, ap count same));
}

picked-address : (old : Layout) (shape : List ℕ) (strides : List ℤ) (offset : ℕ) (picks : List AxisPick) (index : List ℕ) → IsPicked old shape strides offset picks → 0 < count shape → IsIndex (shape_of_picks picks) index → address_at strides offset index ≡ address old (leads_of_picks picks index)
picked-address old shape strides offset picks index picked some in' =
    ap (λ o. o +ℤ dot strides index) (picked.offset_is some) ∙ ap (λ s. address old (firsts picks) +ℤ dot s index) (picked.strides_are some) ∙ +ℤ_assoc (pos old.offset) (dot old.strides (firsts picks)) (dot (picked_strides old.strides picks) index) ∙ ap (λ z. pos old.offset +ℤ z) (dot-picks old.strides old.shape picks index old.one_stride_an_axis picked.are in')

pub picked-shows : (old : Layout) (shape : List ℕ) (strides : List ℤ) (offset : ℕ) (picks : List AxisPick) → IsPicked old shape strides offset picks → ShowsThrough old shape strides offset (leads_of_picks picks)
picked-shows old shape strides offset picks picked = record {
  leads = λ index in'. leads-picks old.shape picks index picked.are (rw (← picked.shape_is) in');
  same = λ index in'. picked-address old shape strides offset picks index picked (omega (arith, rank-lt shape index in')) (rw (← picked.shape_is) in');
}

pub picked-lies : (old : Layout) (shape : List ℕ) (strides : List ℤ) (offset : ℕ) (picks : List AxisPick) → IsPicked old shape strides offset picks → LieWithin shape strides offset max_bytes 1
picked-lies old shape strides offset picks picked =
    LieWithin-view old shape strides offset (leads_of_picks picks) max_bytes 1 (picked-shows old shape strides offset picks picked) old.within_limit

pub picked-is : (old new : Layout) (picks : List AxisPick) → IsPicked old new.shape new.strides new.offset picks → IsViewOf old new (record { shape = shape_of_picks picks; leads = leads_of_picks picks })
picked-is old new picks picked =
    let leads = leads_of_picks picks in
    let view = picked-shows old new.shape new.strides new.offset picks picked in
    record {
      shape = picked.shape_is;
      leads = λ index in'. view.leads index (rw picked.shape_is in');
      inside = inside-view old new leads (shape_of_picks picks) view picked.shape_is;
      places = offsets-view old new leads view ∙ ap (λ s. view_through (offsets old) old.shape s leads) picked.shape_is;
      fits = λ len item fits. LieWithin-view old new.shape new.strides new.offset leads len item view fits;
    }

pub picked-nested : (old new : Layout) (picks : List AxisPick) → IsPicked old new.shape new.strides new.offset picks → KeepsNested old new
picked-nested old new picks picked item nested =
    IsNested-view old new (leads_of_picks picks) item (picked-shows old new.shape new.strides new.offset picks picked) (λ i j in-i in-j same. one-picks old.shape picks i j picked.are (rw (← picked.shape_is) in-i) (rw (← picked.shape_is) in-j) same) nested

-- If a layout fits, so does each of its runs.
use Rattle.std.proofs.Common.{◌≡◌, ℕ, suc, ◌+◌, ◌-◌, ◌<◌, ◌≤◌, ◌==◌, min, ℤ, pos, ◌+ℤ◌, ◌*ℤ◌, ◌≤ℤ◌, List, [], ◌∷◌, ◌++◌, All, length, inl, inr, sym, ◌∙◌, ap, subst, arith}
use Rattle.shape_strides.proofs.Words.{flat_map, Each, cases_lt, cond_both, All-from_recursion, length-map-range_with_len, get_or-map-range_with_len, +ℤ_idr, numbers_from, Layout, StridedAxis, Run, count, IsIndex, natural, address_at, LieWithin, address, Fits, strided_axes, all_joined, runs_from, runs, run_front, run_after, cut, paired, all_offsets, run_pairs, pos-natural, numbers-suc}
use Rattle.shape_strides.proofs.JoinedLaws.{flat_map-id, addresses, addresses-joined, addresses-indexes}
use Rattle.shape_strides.proofs.RunLaws.{NoneBelow, Each-front, Each-back, Each-indexes, numbers-natural, runs-some, runs-none}
use Rattle.shape_strides.proofs.PairLaws.{split}

-- An item of `item` bytes at this address lies in the first `len` bytes.
abbrev IsWithin : ℕ → ℕ → ℤ → Type 0
IsWithin len item z = (pos 0 ≤ℤ z) × ((z +ℤ pos item) ≤ℤ pos len)

-- Each item of the run does.
abbrev IsRunWithin : ℕ → ℕ → Run → Type 0
IsRunWithin len item run = Each (IsWithin len item) (numbers_from (pos run.offset) run.step run.count)

none_below_within : (len item : ℕ) (zs : List ℤ) → Each (IsWithin len item) zs → NoneBelow zs
none_below_within len item [] each = tt
none_below_within len item (z ∷ zs) each = (each.0.0, none_below_within len item zs each.1)

within-gathered : (len item : ℕ) (f : ℤ → List Run) (g : ℤ → List ℤ) → ((at : ℤ) → Each (IsWithin len item) (g at) → Each (IsRunWithin len item) (f at)) → (zs : List ℤ) → Each (IsWithin len item) (flat_map g zs) → Each (IsRunWithin len item) (flat_map f zs)
within-gathered len item f g within [] each = tt
within-gathered len item f g within (z ∷ zs) each = append (f z) (flat_map f zs) (within z (Each-front (IsWithin len item) (g z) (flat_map g zs) each)) (within-gathered len item f g within zs (Each-back (IsWithin len item) (g z) (flat_map g zs) each))
  where
    append : (xs ys : List Run) → Each (IsRunWithin len item) xs → Each (IsRunWithin len item) ys → Each (IsRunWithin len item) (xs ++ ys)
    append [] ys first later = later
    append (x ∷ xs) ys first later = (first.0, append xs ys first.1 later)

runs_from-within : (len item : ℕ) (at : ℤ) (axes : List StridedAxis) → Each (IsWithin len item) (addresses at axes) → Each (IsRunWithin len item) (runs_from at axes)
runs_from-within len item at [] each =
    let only = numbers-suc (pos (natural at)) (pos 0) 0 ∙ ap (λ z. z ∷ []) (pos-natural at each.0.0) in
    (subst (Each (IsWithin len item)) (sym only) each, tt)
runs_from-within len item at (axis ∷ []) each =
    let lie = subst (Each (IsWithin len item)) (flat_map-id (numbers_from at axis.stride axis.len)) each in
    (subst (Each (IsWithin len item)) (sym (numbers-natural at axis.stride axis.len (none_below_within len item (numbers_from at axis.stride axis.len) lie))) lie, tt)
runs_from-within len item at (axis ∷ inner ∷ axes) each =
    within-gathered len item (λ next. runs_from next (inner ∷ axes)) (λ next. addresses next (inner ∷ axes)) (λ next. runs_from-within len item next (inner ∷ axes)) (numbers_from at axis.stride axis.len) each

runs-within : (l : Layout) (len item : ℕ) → Fits l len item → Each (IsRunWithin len item) (runs l)
runs-within l len item fits =
    let same = addresses-joined (pos l.offset) (strided_axes l.strides l.shape) ∙ addresses-indexes (pos l.offset) l.strides l.shape l.one_stride_an_axis in
    let all = subst (Each (IsWithin len item)) (sym same) (Each-indexes (IsWithin len item) (address l) l.shape (λ index in'. (fits.from_zero index in', fits.within index in'))) in
    elim (cases_lt 0 (count l.shape)) [
      | inl some ↦ subst (Each (IsRunWithin len item)) (sym (runs-some l some)) (runs_from-within len item (pos l.offset) (all_joined (strided_axes l.strides l.shape)) all)
      | inr above ↦ let none : count l.shape ≡ 0 = omega arith in subst (Each (IsRunWithin len item)) (sym (runs-none l none)) tt
    ]

-- a run seen as a layout with one axis
run-lies : (len item : ℕ) (run : Run) → IsRunWithin len item run → LieWithin (run.count ∷ []) (run.step ∷ []) run.offset len item
run-lies len item run each = record { from_zero = λ index in'. (at index in').0; within = λ index in'. (at index in').1 }
  where
    at : (index : List ℕ) → IsIndex (run.count ∷ []) index → IsWithin len item (address_at (run.step ∷ []) run.offset index)
    at [] in' = absurd in'
    at (k ∷ []) in' =
        let start : 0 + k ≡ k = omega arith in
        let entry = get_or-map-range_with_len (λ i. pos run.offset +ℤ run.step *ℤ pos i) 0 run.count k k (pos 0) in'.0 start in
        let inside : k < length (numbers_from (pos run.offset) run.step run.count) = omega (arith, in'.0, length-map-range_with_len (λ i. pos run.offset +ℤ run.step *ℤ pos i) 0 run.count) in
        subst (IsWithin len item) (entry ∙ ap (λ z. pos run.offset +ℤ z) (sym (+ℤ_idr (run.step *ℤ pos k)))) (All-from_recursion (IsWithin len item) (numbers_from (pos run.offset) run.step run.count) each k (pos 0) inside)
    at (k ∷ j ∷ index) in' = absurd in'.1

all_lie : {X : Type 0} (len item : ℕ) (f : X → Run) (xs : List X) → Each (λ x. IsRunWithin len item (f x)) xs → Each (λ x. LieWithin ((f x).count ∷ []) ((f x).step ∷ []) (f x).offset len item) xs
all_lie len item f [] each = tt
all_lie len item f (x ∷ xs) each = (run-lies len item (f x) each.0, all_lie len item f xs each.1)

pub runs-lie : (l : Layout) (len item : ℕ) → Fits l len item → All (λ run. LieWithin (run.count ∷ []) (run.step ∷ []) run.offset len item) (runs l)
runs-lie l len item fits =
    All-from_recursion (λ run. LieWithin (run.count ∷ []) (run.step ∷ []) run.offset len item) (runs l) (all_lie len item (λ run. run) (runs l) (runs-within l len item fits))

-- ---- runs that are cut

parts-within : (len item n : ℕ) (run : Run) → n ≤ run.count → IsRunWithin len item run → IsRunWithin len item (run_front n run) × IsRunWithin len item (run_after n run)
parts-within len item n run low each =
    let front = numbers_from (pos run.offset) run.step n in
    let next = pos run.offset +ℤ run.step *ℤ pos n in
    let back = numbers_from next run.step (run.count - n) in
    let parts = subst (Each (IsWithin len item)) (split run n low) each in
    let later = Each-back (IsWithin len item) front back parts in
    (Each-front (IsWithin len item) front back parts, subst (Each (IsWithin len item)) (sym (numbers-natural next run.step (run.count - n) (none_below_within len item back later))) later)

cut-within : (len item n : ℕ) (run : Run) (later : List Run) → n ≤ run.count → IsRunWithin len item run → Each (IsRunWithin len item) later → Each (IsRunWithin len item) (cut n run later)
cut-within len item n run later low each others =
    cond_both (run.count == n) later (run_after n run ∷ later) (Each (IsRunWithin len item)) (λ _. others) (λ _. ((parts-within len item n run low each).1, others))

first-within : (len item most : ℕ) (xs ys : List Run) → Each (IsRunWithin len item) xs → Each (λ pair. IsRunWithin len item pair.first) (paired most xs ys)
first-within len item (suc most) (x ∷ xs) (y ∷ ys) each =
    let n = min x.count y.count in
    let low : n ≤ x.count = omega arith in
    ((parts-within len item n x low each.0).0, first-within len item most (cut n x xs) (cut n y ys) (cut-within len item n x xs low each.0 each.1))
first-within len item _ _ _ each = tt

second-within : (len item most : ℕ) (xs ys : List Run) → Each (IsRunWithin len item) ys → Each (λ pair. IsRunWithin len item pair.second) (paired most xs ys)
second-within len item (suc most) (x ∷ xs) (y ∷ ys) each =
    let n = min x.count y.count in
    let low : n ≤ y.count = omega arith in
    ((parts-within len item n y low each.0).0, second-within len item most (cut n x xs) (cut n y ys) (cut-within len item n y ys low each.0 each.1))
second-within len item _ _ _ each = tt

pub run_pairs-first_lie : (l m : Layout) (len item : ℕ) → Fits l len item → All (λ pair. LieWithin (pair.first.count ∷ []) (pair.first.step ∷ []) pair.first.offset len item) (run_pairs l m)
unfolding run_pairs
run_pairs-first_lie l m len item fits =
    All-from_recursion (λ pair. LieWithin (pair.first.count ∷ []) (pair.first.step ∷ []) pair.first.offset len item) (run_pairs l m) (all_lie len item (λ pair. pair.first) (run_pairs l m) (first-within len item (length (all_offsets (runs l))) (runs l) (runs m) (runs-within l len item fits)))

pub run_pairs-second_lie : (l m : Layout) (len item : ℕ) → Fits m len item → All (λ pair. LieWithin (pair.second.count ∷ []) (pair.second.step ∷ []) pair.second.offset len item) (run_pairs l m)
unfolding run_pairs
run_pairs-second_lie l m len item fits =
    All-from_recursion (λ pair. LieWithin (pair.second.count ∷ []) (pair.second.step ∷ []) pair.second.offset len item) (run_pairs l m) (all_lie len item (λ pair. pair.second) (run_pairs l m) (second-within len item (length (all_offsets (runs l))) (runs l) (runs m) (runs-within m len item fits)))

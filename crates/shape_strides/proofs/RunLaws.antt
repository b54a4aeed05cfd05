-- Laws of runs: their items are those of the layout, and there is one run if all offsets go by one step.
use Rattle.std.proofs.Common.{◌≡◌, ℕ, zero, suc, ◌*◌, ◌<◌, ◌≤◌, ◌==◌, false, ℤ, pos, ◌+ℤ◌, ◌*ℤ◌, ◌≤ℤ◌, List, [], ◌∷◌, ◌++◌, map, length, get_or, inl, inr, refl, sym, ◌∙◌, ap, subst, arith, suc-mul}
use Rattle.shape_strides.proofs.Words.{flat_map, Each, cases_lt, cond_both, cond-true, cond-false, eqb-false, eq-eqb, ne_eqb, both_ways, Decides-int_eq, flat_map-append, ints, append-nil, map-append, length-map, get_or-map, recursion_from_All, numbers_from, Layout, StridedAxis, Run, count, indexes, IsIndex, natural, address, offsets, strided_axes, leads_over, join_outside, all_joined, run_offsets, runs_from, runs, GoesBy, index_at, length-indexes, get_or-indexes, pos-natural, offsets-none, factors_pos, one-step, numbers-suc, steps_later}
use Rattle.shape_strides.proofs.JoinedLaws.{flat_map-id, addresses, addresses-indexes, addresses-joined, offsets-joined}

-- ---- properties of each address

pub Each-front : (P : ℤ → Type 0) (xs ys : List ℤ) → Each P (xs ++ ys) → Each P xs
Each-front P [] ys each = tt
Each-front P (x ∷ xs) ys each = (each.0, Each-front P xs ys each.1)

pub Each-back : (P : ℤ → Type 0) (xs ys : List ℤ) → Each P (xs ++ ys) → Each P ys
Each-back P [] ys each = each
Each-back P (x ∷ xs) ys each = Each-back P xs ys each.1

-- what holds for each index of a shape
pub Each-indexes : (P : ℤ → Type 0) (f : List ℕ → ℤ) (shape : List ℕ) → ((index : List ℕ) → IsIndex shape index → P (f index)) → Each P (map f (indexes shape))
Each-indexes P f shape holds = recursion_from_All P (map f (indexes shape)) (λ k d below.
    let low : k < count shape = omega (arith, length-map (indexes shape) f, length-indexes shape) in
    let found = index_at shape k low in
    let inside : k < length (indexes shape) = omega (arith, length-indexes shape) in
    let here : get_or (map f (indexes shape)) k d ≡ f found.0 = get_or-map f (indexes shape) k [] d inside ∙ ap f (ap (λ r. get_or (indexes shape) r []) (sym found.2) ∙ get_or-indexes shape found.0 [] found.1) in
    subst P (sym here) (holds found.0 found.1))

-- No address is below 0.
abbrev pub NoneBelow : List ℤ → Type 0
NoneBelow = Each (λ z. pos 0 ≤ℤ z)

pub none_below : (l : Layout) → NoneBelow (addresses (pos l.offset) (all_joined (strided_axes l.strides l.shape)))
none_below l =
    let same = addresses-joined (pos l.offset) (strided_axes l.strides l.shape) ∙ addresses-indexes (pos l.offset) l.strides l.shape l.one_stride_an_axis in
    subst NoneBelow (sym same) (Each-indexes (λ z. pos 0 ≤ℤ z) (address l) l.shape l.within_limit.from_zero)

-- ---- the items of the runs

pub numbers-natural : (at s : ℤ) (n : ℕ) → NoneBelow (numbers_from at s n) → numbers_from (pos (natural at)) s n ≡ numbers_from at s n
numbers-natural at s zero none = refl
numbers-natural at s (suc n) none = ap (λ z. numbers_from z s (suc n)) (pos-natural at ((subst NoneBelow (numbers-suc at s n) none).0))

-- The items of consecutive runs are concatenated.
gathered : (f : ℤ → List Run) (g : ℤ → List ℤ) → ((at : ℤ) → NoneBelow (g at) → flat_map run_offsets (f at) ≡ map natural (g at)) → (zs : List ℤ) → NoneBelow (flat_map g zs) → flat_map run_offsets (flat_map f zs) ≡ map natural (flat_map g zs)
gathered f g same [] none = refl
gathered f g same (z ∷ zs) none =
    let first = same z (Each-front (λ y. pos 0 ≤ℤ y) (g z) (flat_map g zs) none) in
    let rest = gathered f g same zs (Each-back (λ y. pos 0 ≤ℤ y) (g z) (flat_map g zs) none) in
    flat_map-append run_offsets (f z) (flat_map f zs) ∙ ap (λ ys. ys ++ flat_map run_offsets (flat_map f zs)) first ∙ ap (λ ys. map natural (g z) ++ ys) rest ∙ sym (map-append natural (g z) (flat_map g zs))

pub runs_from-offsets : (at : ℤ) (axes : List StridedAxis) → NoneBelow (addresses at axes) → flat_map run_offsets (runs_from at axes) ≡ map natural (addresses at axes)
runs_from-offsets at [] none =
    append-nil (map natural (numbers_from (pos (natural at)) (pos 0) 1)) ∙ ap (map natural) (numbers-suc (pos (natural at)) (pos 0) 0)
runs_from-offsets at (axis ∷ []) none =
    let single = flat_map-id (numbers_from at axis.stride axis.len) in
    append-nil (map natural (numbers_from (pos (natural at)) axis.stride axis.len)) ∙ ap (map natural) (numbers-natural at axis.stride axis.len (subst NoneBelow single none) ∙ sym single)
runs_from-offsets at (axis ∷ inner ∷ axes) none =
    gathered (λ next. runs_from next (inner ∷ axes)) (λ next. addresses next (inner ∷ axes)) (λ next. runs_from-offsets next (inner ∷ axes)) (numbers_from at axis.stride axis.len) none

pub runs-some : (l : Layout) → 0 < count l.shape → runs l ≡ runs_from (pos l.offset) (all_joined (strided_axes l.strides l.shape))
unfolding runs
runs-some l some = cond-false (count l.shape == 0) [] (runs_from (pos l.offset) (all_joined (strided_axes l.strides l.shape))) (ne_eqb (count l.shape) 0 (λ none. omega arith))

pub runs-none : (l : Layout) → count l.shape ≡ 0 → runs l ≡ []
unfolding runs
runs-none l none = cond-true (count l.shape == 0) [] (runs_from (pos l.offset) (all_joined (strided_axes l.strides l.shape))) (eq-eqb (count l.shape) 0 none)

pub empty : {X : Type 0} (xs : List X) → length xs ≡ 0 → xs ≡ []
empty [] none = refl
empty (x ∷ xs) none = absurd (omega arith)

-- The runs cover the offsets of the layout.
pub runs-offsets : (l : Layout) → flat_map run_offsets (runs l) ≡ offsets l
runs-offsets l =
    elim (cases_lt 0 (count l.shape)) [
      | inl some ↦ ap (flat_map run_offsets) (runs-some l some) ∙ runs_from-offsets (pos l.offset) (all_joined (strided_axes l.strides l.shape)) (none_below l) ∙ sym (offsets-joined l)
      | inr above ↦ let none : count l.shape ≡ 0 = omega arith in ap (flat_map run_offsets) (runs-none l none) ∙ sym (offsets-none l none)
    ]

-- ---- joined axes cannot be joined further

-- An axis does not lead over the next one.
abbrev pub IsApart : StridedAxis → List StridedAxis → Type 0
IsApart axis [] = Unit {0}
IsApart axis (inner ∷ axes) = leads_over axis inner ≡ false

-- Each axis has 2 items or more and does not lead over the next one.
abbrev pub IsJoined : List StridedAxis → Type 0
IsJoined [] = Unit {0}
IsJoined (axis ∷ axes) = (2 ≤ axis.len) × IsApart axis axes × IsJoined axes

abbrev pub HasItems : List StridedAxis → Type 0
HasItems [] = Unit {0}
HasItems (axis ∷ axes) = (1 ≤ axis.len) × HasItems axes

more_than_one : (n : ℕ) → 1 ≤ n → (n == 1) ≡ false → 2 ≤ n
more_than_one n some other = let not_one = eqb-false n 1 other in omega arith

IsApart-merged : (n : ℕ) (inner : StridedAxis) (axes : List StridedAxis) → IsApart inner axes → IsApart (record { len = n; stride = inner.stride }) axes
IsApart-merged n inner [] apart = tt
IsApart-merged n inner (next ∷ axes) apart = apart

times-two : (m n : ℕ) → 1 ≤ m → 2 ≤ n → 2 ≤ m * n
times-two zero n some two = absurd (omega arith)
times-two (suc m) n some two = omega (arith, suc-mul m n)

pub IsJoined-join_outside : (axis : StridedAxis) (axes : List StridedAxis) → 1 ≤ axis.len → IsJoined axes → IsJoined (join_outside axis axes)
IsJoined-join_outside axis [] some done =
    cond_both (axis.len == 1) [] (axis ∷ []) IsJoined (λ _. tt) (λ other. (more_than_one axis.len some other, tt, tt))
IsJoined-join_outside axis (inner ∷ axes) some done =
    let merged : StridedAxis = record { len = axis.len * inner.len; stride = inner.stride } in
    cond_both (axis.len == 1) (inner ∷ axes) _ IsJoined (λ _. done) (λ other.
    cond_both (leads_over axis inner) (merged ∷ axes) (axis ∷ inner ∷ axes) IsJoined (λ _. (times-two axis.len inner.len some done.0, IsApart-merged (axis.len * inner.len) inner axes done.1, done.2)) (λ apart. (more_than_one axis.len some other, apart, done)))

pub IsJoined-joined : (axes : List StridedAxis) → HasItems axes → IsJoined (all_joined axes)
IsJoined-joined [] some = tt
IsJoined-joined (axis ∷ axes) some = IsJoined-join_outside axis (all_joined axes) some.0 (IsJoined-joined axes some.1)

-- ---- one run if the offsets go by one step

-- Each address is the previous one plus the step.
abbrev StepsBy : ℤ → List ℤ → Type 0
StepsBy step (a ∷ b ∷ numbers) = (b ≡ a +ℤ step) × StepsBy step (b ∷ numbers)
StepsBy step _ = Unit {0}

StepsBy-natural : (step : ℤ) (zs : List ℤ) → NoneBelow zs → GoesBy step (map natural zs) → StepsBy step zs
StepsBy-natural step (a ∷ b ∷ zs) none by =
    (sym (pos-natural b none.1.0) ∙ by.0 ∙ ap (λ z. z +ℤ step) (pos-natural a none.0), StepsBy-natural step (b ∷ zs) none.1 by.1)
StepsBy-natural step _ none by = tt

StepsBy-front : (step : ℤ) (xs ys : List ℤ) → StepsBy step (xs ++ ys) → StepsBy step xs
StepsBy-front step (a ∷ b ∷ xs) ys by = (by.0, StepsBy-front step (b ∷ xs) ys by.1)
StepsBy-front step _ ys by = tt

StepsBy-tail : (step a : ℤ) (xs : List ℤ) → StepsBy step (a ∷ xs) → StepsBy step xs
StepsBy-tail step a [] by = tt
StepsBy-tail step a (b ∷ xs) by = by.1

-- The number that follows is one step after the last.
after_numbers : (at step : ℤ) (k : ℕ) (z : ℤ) (zs : List ℤ) → StepsBy step (numbers_from at step (suc k) ++ z ∷ zs) → z ≡ at +ℤ step *ℤ pos (suc k)
after_numbers at step zero z zs by =
    let first = subst (λ xs. StepsBy step (xs ++ z ∷ zs)) (numbers-suc at step 0) by in
    first.0 ∙ ap (λ y. at +ℤ y) (sym (one-step step))
after_numbers at step (suc k) z zs by =
    let later = StepsBy-tail step at (numbers_from (at +ℤ step) step (suc k) ++ z ∷ zs) (subst (λ xs. StepsBy step (xs ++ z ∷ zs)) (numbers-suc at step (suc k)) by) in
    after_numbers (at +ℤ step) step k z zs later ∙ sym (steps_later at step (suc k))

-- The step between the first two numbers is `step`.
first_step : (at step s : ℤ) (m : ℕ) (zs : List ℤ) → 2 ≤ m → StepsBy step (numbers_from at s m ++ zs) → s ≡ step
first_step at step s (suc (suc m)) zs two by =
    let start = numbers-suc at s (suc m) ∙ ap (λ ys. at ∷ ys) (numbers-suc (at +ℤ s) s m) in
    let first = (subst (λ xs. StepsBy step (xs ++ zs)) start by).0 in
    omega (arith, ints, first)
first_step at step s _ zs two by = absurd (omega arith)

-- the first two blocks of an outer axis
blocks : (f : ℤ → List ℤ) (at s : ℤ) (n : ℕ) → 2 ≤ n → (zs : List ℤ) × (flat_map f (numbers_from at s n) ≡ f at ++ (f (at +ℤ s) ++ zs))
blocks f at s (suc (suc n)) two =
    let start = numbers-suc at s (suc n) ∙ ap (λ ys. at ∷ ys) (numbers-suc (at +ℤ s) s n) in
    (flat_map f (numbers_from ((at +ℤ s) +ℤ s) s n), ap (flat_map f) start)
blocks f at s _ two = absurd (omega arith)

leads : (at t s : ℤ) (n : ℕ) → at +ℤ t ≡ at +ℤ s *ℤ pos n → t ≡ s *ℤ pos n
leads at t s n same = let z = s *ℤ pos n in let here : at +ℤ t ≡ at +ℤ z = same in omega (arith, ints, here)

-- The next block starts m steps after this one.
next_block : (at t step : ℤ) (m : ℕ) (zs : List ℤ) → 2 ≤ m → StepsBy step (numbers_from at step m ++ (numbers_from (at +ℤ t) step m ++ zs)) → t ≡ step *ℤ pos m
next_block at t step zero zs two by = absurd (omega arith)
next_block at t step (suc m) zs two by =
    leads at t step (suc m) (after_numbers at step m (at +ℤ t) (numbers_from ((at +ℤ t) +ℤ step) step m ++ zs) (subst (λ ys. StepsBy step (numbers_from at step (suc m) ++ (ys ++ zs))) (numbers-suc (at +ℤ t) step m) by))

-- Two joined axes do not go by one step.
never : (step at : ℤ) (outer inner : StridedAxis) (axes : List StridedAxis) → IsJoined (outer ∷ inner ∷ axes) → StepsBy step (addresses at (outer ∷ inner ∷ axes)) → ⊥
never step at outer inner [] done by =
    let row : ℤ → List ℤ = λ next. numbers_from next inner.stride inner.len in
    let rows = blocks (λ next. addresses next (inner ∷ [])) at outer.stride outer.len done.0 in
    let flat : flat_map (λ next. addresses next (inner ∷ [])) (numbers_from at outer.stride outer.len) ≡ row at ++ (row (at +ℤ outer.stride) ++ rows.0) =
    rows.1 ∙ ap (λ ys. ys ++ (addresses (at +ℤ outer.stride) (inner ∷ []) ++ rows.0)) (flat_map-id (row at)) ∙ ap (λ ys. row at ++ (ys ++ rows.0)) (flat_map-id (row (at +ℤ outer.stride))) in
    let here = subst (StepsBy step) flat by in
    let is = first_step at step inner.stride inner.len (row (at +ℤ outer.stride) ++ rows.0) done.2.0 here in
    let over = next_block at outer.stride step inner.len rows.0 done.2.0 (subst (λ s. StepsBy step (numbers_from at s inner.len ++ (numbers_from (at +ℤ outer.stride) s inner.len ++ rows.0))) is here) in
    both_ways (leads_over outer inner) done.1 ((Decides-int_eq outer.stride (inner.stride *ℤ pos inner.len)).1 (over ∙ ap (λ s. s *ℤ pos inner.len) (sym is)))
never step at outer inner (next ∷ axes) done by =
    let rows = blocks (λ start. addresses start (inner ∷ next ∷ axes)) at outer.stride outer.len done.0 in
    never step at inner next axes done.2 (StepsBy-front step (addresses at (inner ∷ next ∷ axes)) _ (subst (StepsBy step) rows.1 by))

one_alone : (step at : ℤ) (axes : List StridedAxis) → IsJoined axes → StepsBy step (addresses at axes) → length (runs_from at axes) ≡ 1
one_alone step at (outer ∷ inner ∷ axes) done by = absurd (never step at outer inner axes done by)
one_alone step at _ done by = refl

pub HasItems-axes : (strides : List ℤ) (shape : List ℕ) → 0 < count shape → HasItems (strided_axes strides shape)
HasItems-axes (s ∷ strides) (n ∷ shape) some = let both = factors_pos n (count shape) some in (both.0, HasItems-axes strides shape both.1)
HasItems-axes _ _ some = tt

-- If the offsets go by one step, there is one run.
pub runs-alone : (l : Layout) (step : ℤ) → 0 < count l.shape → GoesBy step (offsets l) → length (runs l) ≡ 1
runs-alone l step some by =
    let axes = strided_axes l.strides l.shape in
    ap length (runs-some l some) ∙ one_alone step (pos l.offset) (all_joined axes) (IsJoined-joined axes (HasItems-axes l.strides l.shape some)) (StepsBy-natural step (addresses (pos l.offset) (all_joined axes)) (none_below l) (subst (GoesBy step) (offsets-joined l) by))

-- If two axes or more remain after all are joined, the offsets do not go by one step.
pub two_never : (l : Layout) (step : ℤ) (outer inner : StridedAxis) (axes : List StridedAxis) → 0 < count l.shape → all_joined (strided_axes l.strides l.shape) ≡ outer ∷ inner ∷ axes → GoesBy step (offsets l) → ⊥
two_never l step outer inner axes some are by =
    let all = strided_axes l.strides l.shape in
    let at : ℤ = pos l.offset in
    let steps = StepsBy-natural step (addresses at (all_joined all)) (none_below l) (subst (GoesBy step) (offsets-joined l) by) in
    never step at outer inner axes (subst IsJoined are (IsJoined-joined all (HasItems-axes l.strides l.shape some))) (subst (λ made. StepsBy step (addresses at made)) are steps)

-- If the offsets are one run, their step is the step of the run.
pub run_goes : (l : Layout) (step : ℤ) (axis : StridedAxis) → 2 ≤ axis.len → all_joined (strided_axes l.strides l.shape) ≡ axis ∷ [] → GoesBy step (offsets l) → axis.stride ≡ step
run_goes l step axis two are by =
    let all = strided_axes l.strides l.shape in
    let at : ℤ = pos l.offset in
    let steps = StepsBy-natural step (addresses at (all_joined all)) (none_below l) (subst (GoesBy step) (offsets-joined l) by) in
    let line = subst (StepsBy step) (flat_map-id (numbers_from at axis.stride axis.len)) (subst (λ made. StepsBy step (addresses at made)) are steps) in
    first_step at step axis.stride axis.len [] two (subst (StepsBy step) (sym (append-nil (numbers_from at axis.stride axis.len))) line)

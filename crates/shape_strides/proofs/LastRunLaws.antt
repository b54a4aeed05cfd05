-- Laws of the run that the last axes of a layout make: a run begins at each offset that the outer axes lead to.
use Rattle.std.proofs.Common.{◌≡◌, ℕ, zero, suc, ◌-◌, ◌*◌, ◌/◌, ◌<◌, ◌≤◌, ◌==◌, cond, ℤ, pos, ◌+ℤ◌, ◌*ℤ◌, ◌≤ℤ◌, List, [], ◌∷◌, ◌++◌, map, length, get_or, take, drop, refl, sym, ◌∙◌, ap, subst, arith, mul_assoc, mul-le-mul_left, length-append, length-take, one-mul, mul-div_cancel}
use Rattle.shape_strides.proofs.Words.{cond_both, cond-true, cond-false, ne_eqb, eqb-true, All-from_recursion, map-map, Layout, StridedAxis, Run, max_items, max_bytes, count, indexes, IsIndex, dot, natural, address_at, strided_axes, leads_over, join_outside, all_joined, run_along, runs_from, runs, AreAxes, offsets_at, zero_filled, if_long, IsLastRun, dot-nil, IsIndex-first, length-index, factors_pos, offsets-none}
use Rattle.shape_strides.proofs.StepLaws.{dot-padded}
use Rattle.shape_strides.proofs.JoinedLaws.{addresses, addresses-indexes, addresses-joined}
use Rattle.shape_strides.proofs.RunLaws.{runs-some, runs-none}
use Rattle.shape_strides.proofs.FrontLaws.{runs_from-front, lengths-low}
use Rattle.shape_strides.proofs.SingleLaws.{two_of_later}
use Rattle.shape_strides.proofs.AdvanceLaws.{offsets-at}

-- ---- axes outside of two axes that do not join

join-before : (axis : StridedAxis) (front : List StridedAxis) (last : StridedAxis) → 1 ≤ length front → join_outside axis (front ++ last ∷ []) ≡ join_outside axis front ++ last ∷ []
join-before axis [] last some = absurd (omega arith)
join-before axis (inner ∷ front) last some =
    let merged : StridedAxis = record { len = axis.len * inner.len; stride = inner.stride } in
    let whole = inner ∷ (front ++ last ∷ []) in
    cond_both (axis.len == 1) (inner ∷ front) _ (λ made. join_outside axis whole ≡ made ++ last ∷ []) (λ one. cond-true (axis.len == 1) whole _ one) (λ other.
    cond-false (axis.len == 1) whole _ other
    ∙ cond_both (leads_over axis inner) (merged ∷ front) (axis ∷ inner ∷ front) (λ made. cond (leads_over axis inner) (merged ∷ (front ++ last ∷ [])) (axis ∷ whole) ≡ made ++ last ∷ []) (λ over. cond-true (leads_over axis inner) (merged ∷ (front ++ last ∷ [])) (axis ∷ whole) over) (λ apart. cond-false (leads_over axis inner) (merged ∷ (front ++ last ∷ [])) (axis ∷ whole) apart))

last_split : (strides : List ℤ) (lengths : List ℕ) (j : ℕ) (along : StridedAxis) → length strides ≡ length lengths → j < length lengths → 2 ≤ get_or lengths j 0 → all_joined (strided_axes (drop j strides) (drop j lengths)) ≡ record { len = get_or lengths j 0; stride = get_or strides j (pos 0) } ∷ along ∷ [] → all_joined (strided_axes strides lengths) ≡ all_joined (strided_axes (take (suc j) strides) (take (suc j) lengths)) ++ along ∷ []
last_split (s ∷ strides) (n ∷ lengths) zero along same below long two =
    let axis : StridedAxis = record { len = n; stride = s } in
    two ∙ ap (λ made. made ++ along ∷ []) (sym (cond-false (n == 1) [] (axis ∷ []) (ne_eqb n 1 (λ is. omega arith))))
last_split (s ∷ strides) (n ∷ lengths) (suc j) along same below long two =
    let axis : StridedAxis = record { len = n; stride = s } in
    let later = last_split strides lengths j along (omega arith) (omega arith) long two in
    let front = all_joined (strided_axes (take (suc j) strides) (take (suc j) lengths)) in
    let more = two_of_later strides lengths j (omega arith) (omega (arith, ap length two)) in
    ap (join_outside axis) later ∙ join-before axis front along (omega (arith, more, ap length later, length-append front (along ∷ [])))
last_split _ _ j along same below long two = absurd (omega arith)

-- ---- the runs

-- There is a run from each address that the outer axes lead to.
starts-are : (shape : List ℕ) (strides : List ℤ) (offset : ℕ) (along : StridedAxis) → length strides ≡ length shape → map (run_along along) (offsets_at shape strides offset) ≡ map (λ z. run_along along (natural z)) (addresses (pos offset) (strided_axes strides shape))
starts-are shape strides offset along same =
    let at = λ (index : List ℕ). address_at strides offset index in
    map-map (run_along along) (λ index. natural (at index)) (indexes shape)
    ∙ sym (ap (map (λ z. run_along along (natural z))) (addresses-indexes (pos offset) strides shape same) ∙ map-map (λ z. run_along along (natural z)) at (indexes shape))

-- If all axes join to at most one, there is one run.
runs_from-single : (at : ℤ) (along : StridedAxis) → (along.len ≡ 1 → along.stride ≡ pos 0) → runs_from at (if_long along) ≡ run_along along (natural at) ∷ []
runs_from-single at along single =
    cond_both (along.len == 1) [] (along ∷ []) (λ axes. runs_from at axes ≡ run_along along (natural at) ∷ []) (λ one.
    let is : along.len ≡ 1 = eqb-true along.len 1 one in
    λ i. record { offset = natural at; count = sym is i; step = sym (single is) i } ∷ []) (λ _. refl)

pub runs-last : (l : Layout) (outside : ℕ) (along : StridedAxis) → 0 < count l.shape → IsLastRun l.strides l.shape outside along → map (run_along along) (offsets_at (take outside l.shape) (take outside l.strides) l.offset) ≡ runs l
runs-last l zero along some last =
    let are = last.inside.are in
    starts-are [] [] l.offset along refl
    ∙ sym (runs-some l some ∙ ap (runs_from (pos l.offset)) (sym are) ∙ runs_from-single (pos l.offset) along last.inside.single)
runs-last l (suc j) along some last =
    let ts = take (suc j) l.strides in
    let th = take (suc j) l.shape in
    let same : length ts ≡ length th = omega (arith, length-take (suc j) l.strides, length-take (suc j) l.shape, l.one_stride_an_axis) in
    let before : suc j - 1 ≡ j = omega arith in
    let two = subst (λ k. all_joined (strided_axes (drop k l.strides) (drop k l.shape)) ≡ record { len = get_or l.shape k 0; stride = get_or l.strides k (pos 0) } ∷ along ∷ []) before (last.apart (omega arith)) in
    let long = subst (λ k. 2 ≤ get_or l.shape k 0) before (last.long (omega arith)) in
    let is = last_split l.strides l.shape j along l.one_stride_an_axis (omega (arith, last.within)) long two in
    let start : ℤ → Run = λ z. run_along along (natural z) in
    starts-are th ts l.offset along same
    ∙ ap (map start) (sym (addresses-joined (pos l.offset) (strided_axes ts th)))
    ∙ sym (runs-some l some ∙ ap (runs_from (pos l.offset)) is ∙ runs_from-front (pos l.offset) (all_joined (strided_axes ts th)) along)

-- Without items there is no run.
pub runs-empty : (l : Layout) (shape : List ℕ) (strides : List ℤ) (offset : ℕ) (along : StridedAxis) → l.shape ≡ shape → l.strides ≡ strides → l.offset ≡ offset → count l.shape ≡ 0 → map (run_along along) (offsets_at shape strides offset) ≡ runs l
runs-empty l shape strides offset along is is' is'' none =
    (λ i. map (run_along along) (offsets_at (sym is i) (sym is' i) (sym is'' i)))
    ∙ ap (map (run_along along)) (sym (offsets-at l) ∙ offsets-none l none)
    ∙ sym (runs-none l none)

-- ---- the outer axes

pub count-split : (shape : List ℕ) (k : ℕ) → count (take k shape) * count (drop k shape) ≡ count shape
count-split shape zero = one-mul (count shape)
count-split [] (suc k) = refl
count-split (n ∷ shape) (suc k) = mul_assoc n (count (take k shape)) (count (drop k shape)) ∙ ap (λ c. n * c) (count-split shape k)

padded-in : (shape index : List ℕ) (k : ℕ) → 0 < count shape → IsIndex (take k shape) index → IsIndex shape (zero_filled shape index)
padded-in shape [] zero some in' = IsIndex-first shape some
padded-in [] index (suc k) some in' = tt
padded-in (n ∷ shape) (i ∷ index) (suc k) some in' = let both = factors_pos n (count shape) some in (in'.0, padded-in shape index k both.1 in'.1)
padded-in _ _ _ some in' = absurd in'

dot-take : (strides : List ℤ) (index : List ℕ) (k : ℕ) → length index ≤ k → dot (take k strides) index ≡ dot strides index
dot-take strides [] zero short = sym (dot-nil strides)
dot-take strides (i ∷ index) zero short = absurd (omega arith)
dot-take (s ∷ strides) (i ∷ index) (suc k) short = ap (λ z. s *ℤ pos i +ℤ z) (dot-take strides index k (omega arith))
dot-take _ _ (suc k) short = refl

pub outside-axes : (shape : List ℕ) (strides : List ℤ) (offset k : ℕ) → 0 < count shape → count shape ≤ max_items → AreAxes shape strides offset → AreAxes (take k shape) (take k strides) offset
outside-axes shape strides offset k some low axes =
    let whole = count-split shape k in
    let both = factors_pos (count (take k shape)) (count (drop k shape)) (omega (arith, whole)) in
    let grown : count (take k shape) * 1 ≤ count (take k shape) * count (drop k shape) = mul-le-mul_left (count (take k shape)) both.1 in
    let same : (index : List ℕ) → IsIndex (take k shape) index → address_at strides offset (zero_filled shape index) ≡ address_at (take k strides) offset index = λ index in'.
    let size = length-index (take k shape) index in' in
    let long = length-take k shape in
    ap (λ z. pos offset +ℤ z) (dot-padded strides shape index (omega arith) ∙ sym (dot-take strides index k (omega arith))) in
    record {
      one_stride_an_axis = omega (arith, length-take k strides, length-take k shape, axes.one_stride_an_axis);
      small = All-from_recursion (λ n. n ≤ max_items) (take k shape) (lengths-low (take k shape) max_items both.0 (omega arith));
      within_limit = record {
        from_zero = λ index in'. subst (λ z. pos 0 ≤ℤ z) (same index in') (axes.within_limit.from_zero (zero_filled shape index) (padded-in shape index k some in'));
        within = λ index in'. subst (λ z. (z +ℤ pos 1) ≤ℤ pos max_bytes) (same index in') (axes.within_limit.within (zero_filled shape index) (padded-in shape index k some in'));
      };
      zero_if_empty = λ none. absurd (omega (arith, both.0));
    }

-- the number of runs
pub starts-count : (shape : List ℕ) (strides : List ℤ) (items outside : ℕ) (along : StridedAxis) → items ≡ count shape → 0 < items → IsLastRun strides shape outside along → (0 < along.len) × (items / along.len ≡ count (take outside shape))
starts-count shape strides items outside along all some last =
    let whole : count (take outside shape) * along.len ≡ items = ap (λ n. count (take outside shape) * n) last.inside.items ∙ count-split shape outside ∙ sym all in
    let both = factors_pos (count (take outside shape)) along.len (omega (arith, whole)) in
    (both.1, ap (λ n. n / along.len) (sym whole) ∙ mul-div_cancel (count (take outside shape)) both.1)

pub runs-last_of : (l : Layout) (shape : List ℕ) (strides : List ℤ) (offset outside : ℕ) (along : StridedAxis) → l.shape ≡ shape → l.strides ≡ strides → l.offset ≡ offset → 0 < count shape → IsLastRun strides shape outside along → map (run_along along) (offsets_at (take outside shape) (take outside strides) offset) ≡ runs l
runs-last_of l shape strides offset outside along is is' is'' some last =
    (λ i. map (run_along along) (offsets_at (take outside (sym is i)) (take outside (sym is' i)) (sym is'' i)))
    ∙ runs-last l outside along (subst (λ s. 0 < count s) (sym is) some) (subst (λ s. IsLastRun s l.shape outside along) (sym is') (subst (λ s. IsLastRun strides s outside along) (sym is) last))

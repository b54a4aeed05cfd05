-- What each exit of the planning must return.
use Rattle.std.proofs.Common.{◌≡◌, ◌⊎◌, inl, inr, Result, Ok, Err, ℕ, ◌≤◌, Bool, true, false, IsTrue, List, [], map, length, get_or, All, refl, sym, ap, subst, ◌∙◌, arith}
use Rattle.fancy_index.proofs.Words.{is_ok, IfOk, false≢true, nil_from_length, length-map, Refusal, OutOfMemory, IndexOutOfRange, check, ◌>>=◌, Layout, max_axes, count, indexes, rank, shape_of, shape_of-same, offsets, length-indexes, rank-lt, common_with, can_stretch, with-fits, IndexPart, Part, point_shapes, as_index_shapes, points_shape, all_axes, leads_through, parts_view, Planned, IsPlanOf, GivesPlan, IsWithin, IsOutside, shown_part, all_named, view_if_named, AreParts, IsReady}
use Rattle.fancy_index.proofs.LeadLaws.{all_ready}
use Rattle.fancy_index.proofs.PartLaws.{passed}

-- ---- the cases of the definition

no-points : (parts : List Part) (e : Refusal) → points_shape parts ≡ Err e → parts_view parts ≡ Err e
unfolding parts_view
no-points parts e there = rw there

no-shape : (parts : List Part) (points : List ℕ) (e : Refusal) → points_shape parts ≡ Ok points → shape_of (all_axes points parts) ≡ Err e → parts_view parts ≡ Err e
unfolding parts_view
no-shape parts points e found there = rw (found, there)

seen : (parts : List Part) (points shape : List ℕ) → points_shape parts ≡ Ok points → shape_of (all_axes points parts) ≡ Ok shape → parts_view parts ≡ Ok (record { shape = shape; leads = leads_through (length points) parts })
unfolding parts_view
seen parts points shape found there = rw (found, there)

-- ---- refusals

pub view_no_points : (parts : List Part) (e : Refusal) → (e ≡ OutOfMemory) ⊎ (points_shape parts ≡ Err e) → (e ≡ OutOfMemory) ⊎ (parts_view parts ≡ Err e)
view_no_points parts e (inl memory) = inl memory
view_no_points parts e (inr there) = inr (no-points parts e there)

pub view_no_shape : (parts : List Part) (points used : List ℕ) (e : Refusal) → points_shape parts ≡ Ok points → used ≡ points → (e ≡ OutOfMemory) ⊎ (shape_of (all_axes used parts) ≡ Err e) → (e ≡ OutOfMemory) ⊎ (parts_view parts ≡ Err e)
view_no_shape parts points used e found is (inl memory) = inl memory
view_no_shape parts points used e found is (inr there) = inr (no-shape parts points e found (ap (λ p. shape_of (all_axes p parts)) (sym is) ∙ there))

-- ---- plans

-- the shape of the result, if it is one
pub shape-made : (parts : List Part) (used shape : List ℕ) → shape_of (all_axes used parts) ≡ Ok shape → shape ≡ all_axes used parts
shape-made parts used shape there = sym (shape_of-same (all_axes used parts) shape there)

-- a result without items
pub gives_none : (layout : Layout) (parts : List Part) (points used shape : List ℕ) (plan : Planned) → points_shape parts ≡ Ok points → used ≡ points → shape_of (all_axes used parts) ≡ Ok shape → count shape ≡ 0 → plan.shape ≡ shape → plan.offsets ≡ [] → GivesPlan layout (Ok plan) (parts_view parts)
gives_none layout parts points used shape plan found is there none shape-is offsets-are =
    let view = seen parts points shape found (ap (λ p. shape_of (all_axes p parts)) (sym is) ∙ there) in
    subst (GivesPlan layout (Ok plan)) (sym view) (record {
      shape = shape-is;
      leads = λ index in'. absurd (omega (arith, rank-lt shape index in', none));
      places = offsets-are ∙ sym (nil_from_length _ (length-map (indexes shape) (λ index. get_or (offsets layout) (rank layout.shape (leads_through (length points) parts index)) 0) ∙ length-indexes shape ∙ none));
    })

-- ---- numbers that are not read yet

pub gives_named : (layout : Layout) (parts : List IndexPart) (result : Result Planned Refusal) → all_named parts ≡ true → GivesPlan layout result (parts_view (map shown_part parts)) → GivesPlan layout result (view_if_named parts)
gives_named layout parts result named gives = subst (λ t. GivesPlan layout result (check t IndexOutOfRange >>= λ _. parts_view (map shown_part parts))) (sym named) gives

pub gives_outside : (layout : Layout) (parts : List IndexPart) (e : Refusal) → IsOutside (all_named parts) e → GivesPlan layout (Err e) (view_if_named parts)
gives_outside layout parts e (inl memory) = inl memory
gives_outside layout parts e (inr out) = inr (ap (λ r. r >>= λ _. parts_view (map shown_part parts)) out)

-- the view of the parts of an index list
pub named-view : (parts : List IndexPart) (list : List Part) (test : Bool) → all_named parts ≡ test → (test ≡ true → map shown_part parts ≡ list) → view_if_named parts ≡ (check test IndexOutOfRange >>= λ _. parts_view list)
named-view parts list true named shown = (λ i. check (named i) IndexOutOfRange >>= λ _. parts_view (map shown_part parts)) ∙ ap parts_view (shown refl)
named-view parts list false named shown = λ i. check (named i) IndexOutOfRange >>= λ _. parts_view (map shown_part parts)

-- a result with items
pub gives_some : (layout : Layout) (list : List IndexPart) (points used shape : List ℕ) (result : Result Planned Refusal) → points_shape (map shown_part list) ≡ Ok points → used ≡ points → shape_of (all_axes used (map shown_part list)) ≡ Ok shape →
    IfOk result (λ plan. IsPlanOf layout plan (record { shape = all_axes used (map shown_part list); leads = leads_through (length used) (map shown_part list) })) → IsWithin (all_named list) result → GivesPlan layout result (view_if_named list)
gives_some layout list points used shape (Ok plan) found is there ok within =
    let parts = map shown_part list in
    let view = seen parts points (all_axes used parts) found (ap (λ p. shape_of (all_axes p parts)) (sym is) ∙ there ∙ ap Ok (shape-made parts used shape there)) in
    gives_named layout list (Ok plan) (passed (all_named list) IndexOutOfRange within) (subst (GivesPlan layout (Ok plan)) (sym view) (subst (λ p. IsPlanOf layout plan (record { shape = all_axes used parts; leads = leads_through (length p) parts })) is ok))
gives_some layout list points used shape (Err e) found is there ok within = gives_outside layout list e within

-- ---- points that are stretched to their common shape

common_of_points : (shapes : List (List ℕ)) (points : List ℕ) (r : Result (List ℕ) Refusal) → common_with [] shapes ≡ r → as_index_shapes r ≡ Ok points → All (λ s. IsTrue (can_stretch s points)) shapes
common_of_points shapes points (Ok lengths) found told = (with-fits [] shapes points (found ∙ told)).1
common_of_points shapes points (Err e) found told = absurd (false≢true (ap is_ok told))

pub points-ready : (shape points used : List ℕ) (parts : List IndexPart) → AreParts shape parts → length shape ≤ max_axes → points_shape (map shown_part parts) ≡ Ok points → used ≡ points → All (IsReady used) parts
points-ready shape points used parts are few found is =
    subst (λ (p : List ℕ). All (IsReady p) parts) (sym is) (all_ready shape points parts are few (common_of_points (point_shapes (map shown_part parts)) points _ refl found))

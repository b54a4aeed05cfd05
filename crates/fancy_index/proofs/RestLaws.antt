-- What is picked if all points are 0.
use Rattle.std.proofs.Common.{◌≡◌, Result, Ok, Err, ℕ, ◌<◌, ◌≤◌, nat_le, true, pos, List, [], ◌∷◌, ◌++◌, map, length, get_or, refl, sym, ap, subst, ◌∙◌, arith}
use Rattle.fancy_index.proofs.Words.{IfOk, IfErr, le-leb, get_or-map, Refusal, OutOfMemory, Layout, max_axes, indexes, rank, IsIndex, address, offsets, length-indexes, rank-lt, get_or-indexes, pos-offset, AxisPick, axis_of, picked_shape, picked_index, picked_view, pick_shown, View, IsViewOf, GivesView, AtAxis, IndexPart, AxisPart, PointsPart, BetweenPart, other_axes, shown_part, rest_picks, IsRest}
use Rattle.fancy_index.proofs.CutLaws.{only-memory}

-- ---- the shape

zeros-gone : (axes : List ℕ) (picks : List AxisPick) → picked_shape (map pick_shown (map (λ _. AtAxis 0) axes ++ picks)) ≡ picked_shape (map pick_shown picks)
zeros-gone [] picks = refl
zeros-gone (n ∷ axes) picks = zeros-gone axes picks

pub rest-shape : (parts : List IndexPart) → picked_shape (map pick_shown (rest_picks parts)) ≡ other_axes (map shown_part parts)
rest-shape [] = refl
rest-shape (AxisPart pick ∷ parts) = ap (λ l. axis_of (pick_shown pick) ++ l) (rest-shape parts)
rest-shape (PointsPart p ∷ parts) = zeros-gone p.axes.items (rest_picks parts) ∙ rest-shape parts
rest-shape (BetweenPart ∷ parts) = rest-shape parts

-- ---- the layout

view-ok : (parts : List IndexPart) → length (other_axes (map shown_part parts)) ≤ max_axes →
    picked_view (map pick_shown (rest_picks parts)) ≡ Ok (record { shape = picked_shape (map pick_shown (rest_picks parts)); leads = picked_index (map pick_shown (rest_picks parts)) })
unfolding picked_view
view-ok parts few =
    let test : nat_le (length (picked_shape (map pick_shown (rest_picks parts)))) max_axes ≡ true = le-leb (length (picked_shape (map pick_shown (rest_picks parts)))) max_axes (omega (arith, few, ap length (rest-shape parts))) in
    rw test refl

-- an address of a view is an address of the layout that it is a view of
pub address-view : (old new : Layout) (view : View) → IsViewOf old new view → (index : List ℕ) → IsIndex new.shape index → address new index ≡ address old (view.leads index)
address-view old new view is index in' =
    let in-view : IsIndex view.shape index = subst (λ (s : List ℕ). IsIndex s index) is.shape in' in
    let through : List ℕ → ℕ = λ i. get_or (offsets old) (rank old.shape (view.leads i)) 0 in
    let below : rank view.shape index < length (indexes view.shape) = omega (arith, length-indexes view.shape, rank-lt view.shape index in-view) in
    sym (pos-offset new index 0 in')
    ∙ ap pos (
    (λ i. get_or (is.places i) (rank (is.shape i) index) 0)
    ∙ get_or-map through (indexes view.shape) (rank view.shape index) [] 0 below
    ∙ ap through (get_or-indexes view.shape index [] in-view)
    )
    ∙ pos-offset old (view.leads index) 0 (is.leads index in-view)

is-rest : (layout rest : Layout) (parts : List IndexPart) → IsViewOf layout rest (record { shape = picked_shape (map pick_shown (rest_picks parts)); leads = picked_index (map pick_shown (rest_picks parts)) }) → IsRest layout parts rest
is-rest layout rest parts view = record {
  shape = view.shape ∙ rest-shape parts;
  leads = λ index in'. view.leads index (subst (λ (s : List ℕ). IsIndex s index) view.shape in');
  same = address-view layout rest _ view;
}

pub gives_rest : (layout : Layout) (parts : List IndexPart) (picks : List AxisPick) (result : Result Layout Refusal) → picks ≡ rest_picks parts → length (other_axes (map shown_part parts)) ≤ max_axes → GivesView layout result (picked_view (map pick_shown picks)) → IfOk result (IsRest layout parts)
gives_rest layout parts picks (Ok rest) is few given =
    is-rest layout rest parts (subst (GivesView layout (Ok rest)) (ap (λ p. picked_view (map pick_shown p)) is ∙ view-ok parts few) given)
gives_rest layout parts picks (Err e) is few given = tt

pub gives_memory : (layout : Layout) (parts : List IndexPart) (picks : List AxisPick) (result : Result Layout Refusal) → picks ≡ rest_picks parts → length (other_axes (map shown_part parts)) ≤ max_axes → GivesView layout result (picked_view (map pick_shown picks)) → IfErr result (λ e. e ≡ OutOfMemory)
gives_memory layout parts picks (Ok rest) is few given = tt
gives_memory layout parts picks (Err e) is few given =
    only-memory _ _ e (ap (λ p. picked_view (map pick_shown p)) is ∙ view-ok parts few) given

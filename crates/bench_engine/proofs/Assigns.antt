-- Items that are written to a name's array, and where they come from.
use Rattle.std.proofs.Common.{◌≡◌, ◌<◌, ◌≤◌, ◌+◌, ◌*◌, ℕ, zero, suc, ◌==◌, Bool, true, false, List, [], ◌∷◌, ◌++◌, length, take, drop, replicate, IfOk, map, refl, sym, ap, ◌∙◌, subst, get_or, slice_index, All, Result, Ok, Err, arith}
use Rattle.bench_engine.proofs.Words.{Contains, list_all, length-map, All-map, Contains-get_or, Refusal, ShapesDoNotBroadcast, ◌>>=◌, check, Descr, item_size, AreAlike, size, decode, item_from, cast_item, axes_beyond, stretched, stretched_into, Layout, indexes, rank, offsets, view_through, IsViewOf, GivesView, State, buffer_of, start_at, Shows, ArrayRef, offsets-at, View, Array, viewed, LiesIn}

-- a shown array is a part of itself
pub lies-whole : (s : State) (a : Array) (r : ArrayRef) → Shows s a r → LiesIn s a a r.layout.now
lies-whole s a r shows = record {
  places = a.places;
  shape = a.shape;
  part_is = refl;
  shape_is = shows.view.laid.shape;
  offsets_are = shows.view.laid.places;
  among = λ k d below. Contains-get_or a.places k d below;
  fits = shows.view.laid.fits;
}

-- a view of a part is a part
pub lies-viewed : (s : State) (a part : Array) (old new : Layout) (view : View) → LiesIn s a part old → IsViewOf old new view → LiesIn s a (viewed part view) new
lies-viewed s a part old new view lies is = record {
  places = view_through lies.places lies.shape view.shape view.leads;
  shape = view.shape;
  part_is = λ i. viewed (lies.part_is i) view;
  shape_is = is.shape;
  offsets_are = is.places ∙ (λ j. view_through (lies.offsets_are j) (lies.shape_is j) view.shape view.leads)
      ∙ offsets-at (item_size (buffer_of s a).descr) (start_at (buffer_of s a).descr a.path) lies.places lies.shape view.leads (indexes view.shape) inside;
  among = All-map (Contains a.places) (λ index. slice_index lies.places (rank lies.shape (view.leads index))) (indexes view.shape)
      (λ k d below. lies.among (rank lies.shape (view.leads (get_or (indexes view.shape) k d))) 0 (inside k d below));
  fits = is.fits _ _ lies.fits;
}
  where
    counted : length (offsets old) ≡ length lies.places
    counted = ap length lies.offsets_are ∙ length-map lies.places (λ place. item_size (buffer_of s a).descr * place + start_at (buffer_of s a).descr a.path)

    inside : All (λ index. rank lies.shape (view.leads index) < length lies.places) (indexes view.shape)
    inside = λ k d below.
        let index : List ℕ = get_or (indexes view.shape) k d in
        let here : rank old.shape (view.leads index) < length (offsets old) = is.inside k d below in
        subst (λ (n : ℕ). rank lies.shape (view.leads index) < n) counted (subst (λ (l : List ℕ). rank l (view.leads index) < length (offsets old)) lies.shape_is here)

-- what holds for all offsets of a layout holds for those of a view of it
pub all-viewed : (P : ℕ → Type 0) (old new : Layout) (view : View) → IsViewOf old new view → All P (offsets old) → All P (offsets new)
all-viewed P old new view is all = subst (All P) (sym is.places)
    (All-map P (λ index. slice_index (offsets old) (rank old.shape (view.leads index))) (indexes view.shape)
    (λ k d below. all (rank old.shape (view.leads (get_or (indexes view.shape) k d))) 0 (is.inside k d below)))

-- ---- the shape of stretched items

shape-then : (can : Bool) (e : Refusal) (there : Result View Refusal) (f : View → View) (target : List ℕ) → ((view : View) → (f view).shape ≡ target) → IfOk (check can e >>= (λ _. there >>= (λ view. Ok (f view)))) (λ view. view.shape ≡ target)
shape-then true e (Ok view) f target is = is view
shape-then true e (Err e') f target is = tt
shape-then false e there f target is = tt

into-shape : (shape target : List ℕ) → IfOk (stretched_into shape target) (λ view. view.shape ≡ target)
unfolding stretched_into
into-shape shape target =
    shape-then (list_all (λ n. n == 1) (take (axes_beyond (length target) shape) shape)) ShapesDoNotBroadcast (stretched (drop (axes_beyond (length target) shape) shape) target)
    (λ view. record { shape = target; leads = λ index. replicate (axes_beyond (length target) shape) 0 ++ view.leads index }) target (λ view. refl)

view-shape : (old : Layout) (result : Result Layout Refusal) (there : Result View Refusal) (target : List ℕ) → GivesView old result there → IfOk there (λ view. view.shape ≡ target) → IfOk result (λ l. l.shape ≡ target)
view-shape old (Ok new) (Ok view) target is shaped = is.shape ∙ shaped
view-shape old (Ok new) (Err e) target is shaped = absurd is
view-shape old (Err e) there target is shaped = tt

pub stretched-shape : (old : Layout) (result : Result Layout Refusal) (target : List ℕ) → GivesView old result (stretched_into old.shape target) → IfOk result (λ l. l.shape ≡ target)
stretched-shape old result target is = view-shape old result (stretched_into old.shape target) target is (into-shape old.shape target)

-- ---- items that a cast leaves as they are

-- items of element types that are alike are the same
alike-item : (a b : Descr) (block : List ℕ) (offset : ℕ) → AreAlike a b → item_from a block offset ≡ item_from b block offset
alike-item a b block offset alike = λ i. map (λ leaf. decode leaf.scalar (take (size leaf.scalar) (drop leaf.at (take (alike.size i) (drop offset block))))) (alike.leaves i)

pub kept-items : (a b : Descr) (block offsets : List ℕ) → AreAlike a b → ((offset : ℕ) → offset + item_size a ≤ length block → cast_item a b (item_from a block offset) ≡ item_from b block offset) →
    All (λ offset. offset + item_size a ≤ length block) offsets → map (item_from a block) offsets ≡ map (λ offset. cast_item a b (item_from a block offset)) offsets
kept-items a b block [] alike same inside = refl
kept-items a b block (offset ∷ offsets) alike same inside = λ i.
    (alike-item a b block offset alike ∙ sym (same offset (inside zero offset (omega arith)))) i
    ∷ kept-items a b block offsets alike same (λ k d below. inside (suc k) d (omega (arith, below))) i

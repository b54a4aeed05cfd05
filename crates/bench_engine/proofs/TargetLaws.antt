-- The items that an index list selects from an array, to be read or to be written.
use Rattle.std.proofs.Common.{Some, get_or, slice_index, ◌≡◌, ◌⊎◌, ◌≤◌, if◌then◌else◌, nat_le, ◌+◌, ◌*◌, ℕ, true, false, List, length, map, refl, sym, ap, ◌∙◌, subst, All, Ok, Err}
use Rattle.bench_engine.proofs.Words.{list_all, All-map, Refusal, OutOfMemory, ReadOnly, TooLarge, Descr, item_from, item_size, IndexItem, Layout, is_basic, indexes, rank, length-offsets, offsets, IsNested, count, max_bytes, IsViewOf, GivesView, KeepsNested, basic, Owned, Planned, IsPlanOf, GivesPlan, State, find_array, descr_of, read, Shows, ArrayRef, Target, View, Array, taken, gathered, viewed, target_part, Holds, IsAimed, IsTarget, IsInCOrder, Meets}
use Rattle.name_store.specs.declared.target.Target.TheVariants as target
use Rattle.bench_engine.proofs.Assigns.{lies-whole, lies-viewed}
use Rattle.bench_engine.proofs.GivenLaws.{cast-lacks}
use Rattle.bench_engine.proofs.IndexLaws.{given-plan, plan-counted, plan-inside, plan-addresses, plan-among}
use Rattle.bench_engine.specs.NewArrayLaws.{passed}
use Rattle.bench_engine.proofs.Sets.{items-at, target-few}
use Rattle.bench_engine.proofs.Views.{given-view}
use Rattle.bench_engine.proofs.Answered.{met}

pub taken-plain : (s : State) (a : Array) (index : List (IndexItem (List ℕ))) → list_all is_basic index ≡ true → taken s a index ≡ basic a.shape index
taken-plain s a index plain = rw plain refl

pub taken-arrays : (s : State) (a : Array) (index : List (IndexItem (List ℕ))) → list_all is_basic index ≡ false → taken s a index ≡ gathered s a index
taken-arrays s a index arrays = rw arrays refl

module _ (s : State) (a : Array) (r : ArrayRef) (shows : Shows s a r) (index : List (IndexItem (List ℕ))) where
  plain-view : (l : Layout) → list_all is_basic index ≡ true → GivesView r.layout.now (Ok l) (basic r.layout.now.shape index) → (view : View) × (taken s a index ≡ Ok view) × IsViewOf r.layout.now l view
  plain-view l plain gives =
      let view = given-view r.layout.now l (basic r.layout.now.shape index) gives in
      (view.0, taken-plain s a index plain ∙ (λ i. basic (sym shows.view.laid.shape i) index) ∙ view.1, view.2)

  plan-view : (plan : Planned) → list_all is_basic index ≡ false → GivesPlan r.layout.now (Ok plan) (gathered s a index) → (view : View) × (taken s a index ≡ Ok view) × IsPlanOf r.layout.now plan view
  plan-view plan arrays gives =
      let view = given-plan r.layout.now plan (gathered s a index) gives in
      (view.0, taken-arrays s a index arrays ∙ view.1, view.2)

  -- ---- read

  pub plan-read : (plan : Planned) (view : View) → IsPlanOf r.layout.now plan view → map (item_from r.descr.now r.block.now) plan.offsets ≡ read s (viewed a view)
  plan-read plan view is =
      ap (map (item_from r.descr.now r.block.now)) (plan-addresses s a r shows plan view is)
      ∙ sym (items-at s a r (viewed a view).places shows (plan-among s a r shows plan view is))

  pub takes-copy : (plan : Planned) (view : View) (o : Owned) → IsPlanOf r.layout.now plan view → o.descr ≡ r.descr.now → o.layout.shape ≡ plan.shape → IsInCOrder o →
      map (item_from o.descr o.block) (offsets o.layout) ≡ map (item_from r.descr.now r.block.now) plan.offsets → Holds s (viewed a view) o
  takes-copy plan view o is typed shaped order items = record {
    descr = typed ∙ sym shows.descr;
    shape = shaped ∙ is.shape;
    order = order;
    items = items ∙ plan-read plan view is;
  }

  -- the view that a target leads to
  pub aimed : (t t' : Target) → t ≡ t' → Meets (IsAimed r (list_all is_basic index)) (Ok t) (taken s a index) → (view : View) × (taken s a index ≡ Ok view) × IsAimed r (list_all is_basic index) t' view
  aimed t t' same gives = met (IsAimed r (list_all is_basic index)) t' (taken s a index) (subst (λ (t : Target). Meets (IsAimed r (list_all is_basic index)) (Ok t) (taken s a index)) same gives)

  -- a copy of the items of a plan is refused only as out of memory
  pub copy-lacks : (plan : Planned) (view : View) (e : Refusal) → IsPlanOf r.layout.now plan view → length plan.offsets * item_size r.descr.now ≤ max_bytes → e ≡ (if nat_le (count plan.shape * item_size r.descr.now) max_bytes then OutOfMemory else TooLarge) → e ≡ OutOfMemory
  copy-lacks plan view e is few refused =
      cast-lacks true plan.shape plan.shape (item_size r.descr.now) e refl refl (subst (λ n. n * item_size r.descr.now ≤ max_bytes) (plan-counted r.layout.now plan view is) few) refused

  -- the items that a plan leads to lie in the block
  pub plan-within : (plan : Planned) (view : View) → IsPlanOf r.layout.now plan view → All (λ offset. offset + item_size r.descr.now ≤ length r.block.now) plan.offsets
  plan-within plan view is =
      subst (All (λ offset. offset + item_size r.descr.now ≤ length r.block.now)) (sym is.places) (All-map (λ offset. offset + item_size r.descr.now ≤ length r.block.now) (λ index. slice_index (offsets r.layout.now) (rank r.layout.now.shape (view.leads index))) (indexes view.shape)
      (λ k d below. shows.inside (rank r.layout.now.shape (view.leads (get_or (indexes view.shape) k d))) 0 (plan-inside r.layout.now plan view is k d below)))

  -- ---- written

  pub aims-view : (l : Layout) → list_all is_basic index ≡ true → GivesView r.layout.now (Ok l) (basic r.layout.now.shape index) → KeepsNested r.layout.now l → Meets (IsAimed r (list_all is_basic index)) (Ok (target.View l)) (taken s a index)
  aims-view l plain gives kept =
      let view = plain-view l plain gives in
      subst (Meets (IsAimed r (list_all is_basic index)) (Ok (target.View l))) (sym view.1) (plain, view.2, kept)

  pub aims-plan : (plan : Planned) → list_all is_basic index ≡ false → GivesPlan r.layout.now (Ok plan) (gathered s a index) → length plan.offsets * item_size r.descr.now ≤ max_bytes → Meets (IsAimed r (list_all is_basic index)) (Ok (target.Plan plan)) (taken s a index)
  aims-plan plan arrays gives few =
      let view = plan-view plan arrays gives in
      subst (Meets (IsAimed r (list_all is_basic index)) (Ok (target.Plan plan))) (sym view.1) (arrays, view.2, few)

  target-bad : (e : Refusal) → taken s a index ≡ Err e → target_part s a index ≡ Err e
  unfolding target_part
  target-bad e bad = rw bad refl

  target-fixed : (view : View) → taken s a index ≡ Ok view → a.writable ≡ false → target_part s a index ≡ Err ReadOnly
  unfolding target_part
  target-fixed view good fixed = rw (good, fixed) refl

  target-done : (view : View) → taken s a index ≡ Ok view → a.writable ≡ true → target_part s a index ≡ Ok (viewed a view)
  unfolding target_part
  target-done view good free = rw (good, free) refl

  pub refused-target : (e : Refusal) → Meets (IsAimed r (list_all is_basic index)) (Err e) (taken s a index) → (e ≡ OutOfMemory) ⊎ (target_part s a index ≡ Err e)
  refused-target e gives = passed (taken s a index) (target_part s a index) e (target-bad e) gives

  pub fixed-target : (t : Target) → Meets (IsAimed r (list_all is_basic index)) (Ok t) (taken s a index) → r.writable ≡ false → target_part s a index ≡ Err ReadOnly
  fixed-target t gives fixed =
      let aim = met (IsAimed r (list_all is_basic index)) t (taken s a index) gives in
      target-fixed aim.0 aim.1 (sym shows.view.laid.writable_is ∙ fixed)

  pub given-target : (name : List ℕ) (t : Target) → 1 ≤ item_size r.descr.now → find_array s.names name ≡ Some a → Meets (IsAimed r (list_all is_basic index)) (Ok t) (taken s a index) → r.writable ≡ true → Meets (IsTarget s name a) (Ok t) (target_part s a index)
  given-target name t some found gives free =
      let aim = met (IsAimed r (list_all is_basic index)) t (taken s a index) gives in
      subst (Meets (IsTarget s name a) (Ok t)) (sym (target-done aim.0 aim.1 writable)) (by t aim.0 aim.2)
    where
      writable : a.writable ≡ true
      writable = sym shows.view.laid.writable_is ∙ free

      by : (t : Target) (view : View) → IsAimed r (list_all is_basic index) t view → IsTarget s name a t (viewed a view)
      by (target.View l) view (plain, is, kept) =
          let lies = lies-viewed s a a r.layout.now l view (lies-whole s a r shows) is in
          let nested : IsNested (offsets l) (item_size (descr_of s a)) = kept _ (shows.view.laid.nested free) in
          record {
            places = lies.places;
            part_is = lies.part_is ∙ ap (λ shape. record a { shape = shape; places = lies.places }) (sym lies.shape_is);
            counted = length-offsets l;
            leads = record { found = found; writable = writable; offsets_are = lies.offsets_are; among = lies.among };
            may_write = (lies.fits, nested);
            few = subst (λ n. n ≤ max_bytes) (λ i. sym (length-offsets l) i * item_size (sym shows.descr i)) (target-few s a (viewed a view) r l shows lies some (subst (λ (d : Descr). IsNested (offsets l) (item_size d)) shows.descr nested));
          }
      by (target.Plan plan) view (arrays, is, few) =
          let small = subst (λ (d : Descr). length plan.offsets * item_size d ≤ max_bytes) (sym shows.descr) few in
          record {
            places = (viewed a view).places;
            part_is = ap (λ shape. record a { shape = shape; places = (viewed a view).places }) (sym is.shape);
            counted = plan-counted r.layout.now plan view is;
            leads = record { found = found; writable = writable; offsets_are = plan-addresses s a r shows plan view is; among = plan-among s a r shows plan view is };
            may_write = small;
            few = small;
          }

-- The old items of a target, and the new ones.
use Rattle.std.proofs.Common.{◌≡◌, ◌≤◌, ◌+◌, ◌*◌, ℕ, List, length, map, get_or, All, refl, sym, ap, ◌∙◌, subst, arith}
use Rattle.bench_engine.proofs.Words.{Contains, length-map, get_or-map, All-map, All-contains, item_from, item_size, Layout, offsets, offsets_of, Items, Owned, Planned, State, buffer_of, descr_of, read, start_at, Shows, ArrayRef, Array, LiesIn, IsTarget, StandsFor}
use Rattle.name_store.specs.declared.target.Target.TheVariants as target
use Rattle.bench_engine.proofs.Sets.{items-at, read-part, part-inside}

-- what holds for all addresses holds for some of them
some-inside : (P : ℕ → Type 0) (item start : ℕ) (places some : List ℕ) → All P (offsets_of item start places) → All (Contains places) some → All P (offsets_of item start some)
some-inside P item start places some all among =
    All-map P (λ place. item * place + start) some (λ k d below. All-contains (λ place. P (item * place + start)) places (get_or some k d) each (among k d below))
  where
    each : All (λ place. P (item * place + start)) places
    each = λ k d below. subst P (get_or-map (λ place. item * place + start) places k d 0 below) (all k 0 (omega (arith, below, length-map places (λ place. item * place + start))))

module _ (s : State) (name : List ℕ) (a part : Array) (r : ArrayRef) (shows : Shows s a r) where
  -- ---- a view

  pub lies : (layout : Layout) → IsTarget s name a (target.View layout) part → LiesIn s a part layout
  lies layout is = record {
    places = is.places;
    shape = layout.shape;
    part_is = is.part_is;
    shape_is = refl;
    offsets_are = is.leads.offsets_are;
    among = is.leads.among;
    fits = is.may_write.0;
  }

  pub old-view : (layout : Layout) (x : Items) → IsTarget s name a (target.View layout) part → x.block.now ≡ r.block.now → x.layout.now ≡ layout → x.descr.now ≡ r.descr.now → StandsFor s part x
  old-view layout x is block laid typed = record {
    descr = ap (descr_of s) is.part_is ∙ shows.descr ∙ sym typed;
    shape = ap (λ (a : Array). a.shape) is.part_is ∙ ap (λ (l : Layout). l.shape) (sym laid);
    items = read-part s a part r layout shows (lies layout is) ∙ λ i. map (item_from (sym typed i) (sym block i)) (offsets (sym laid i));
  }

  pub view-inside : (layout : Layout) → IsTarget s name a (target.View layout) part → All (λ offset. offset + item_size r.descr.now ≤ length r.block.now) (offsets layout)
  view-inside layout is = part-inside s a part r layout shows (lies layout is)

  -- ---- a plan

  pub plan-inside : (plan : Planned) → IsTarget s name a (target.Plan plan) part → All (λ offset. offset + item_size r.descr.now ≤ length r.block.now) plan.offsets
  plan-inside plan is =
      let P = λ (offset : ℕ). offset + item_size r.descr.now ≤ length r.block.now in
      subst (All P) (sym is.leads.offsets_are) (some-inside P (item_size (buffer_of s a).descr) (start_at (buffer_of s a).descr a.path) a.places is.places (subst (All P) shows.view.laid.places shows.inside) is.leads.among)

  pub old-plan : (plan : Planned) (o : Owned) (x : Items) → IsTarget s name a (target.Plan plan) part → o.descr ≡ r.descr.now → o.layout.shape ≡ plan.shape → map (item_from r.descr.now o.block) (offsets o.layout) ≡ map (item_from r.descr.now r.block.now) plan.offsets →
      x.block.now ≡ o.block → x.layout.now ≡ o.layout → x.descr.now ≡ o.descr → StandsFor s part x
  old-plan plan o x is typed-o shaped items block laid typed = record {
    descr = ap (descr_of s) is.part_is ∙ shows.descr ∙ sym (typed ∙ typed-o);
    shape = ap (λ (a : Array). a.shape) is.part_is ∙ sym shaped ∙ ap (λ (l : Layout). l.shape) (sym laid);
    items = ap (read s) is.part_is ∙ items-at s a r is.places shows is.leads.among ∙ ap (map (item_from r.descr.now r.block.now)) (sym is.leads.offsets_are) ∙ sym items
        ∙ λ i. map (item_from (sym (typed ∙ typed-o) i) (sym block i)) (offsets (sym laid i));
  }

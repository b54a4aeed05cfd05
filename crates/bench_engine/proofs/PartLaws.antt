-- What an index list selects from an array.
use Rattle.std.proofs.Common.{◌≡◌, true, false, ℕ, List, refl, sym, ap, ◌∙◌, subst, Ok}
use Rattle.bench_engine.proofs.Words.{list_all, IndexItem, C, is_basic, item_size, Layout, Owned, offsets_in, State, descr_of, read, Shows, ArrayRef, View, Array, new_contents, taken, a_view, a_copy, viewed, part_seen, Viewed, Holds, IsAimed, held, IsSeen, Meets}
use Rattle.name_store.specs.declared.bound.Bound.TheVariants as bound
use Rattle.name_store.specs.declared.target.Target.TheVariants as target
use Rattle.bench_engine.proofs.Copies.{made-held}
use Rattle.bench_engine.proofs.Views.{viewed-part}

module _ (s : State) (a : Array) (r : ArrayRef) (index : List (IndexItem (List ℕ))) where
  part-viewed : (view : View) → taken s a index ≡ Ok view → list_all is_basic index ≡ true → part_seen s a index ≡ Ok (a_view (viewed a view))
  part-viewed view good plain = rw (good, plain) refl

  part-copied : (view : View) → taken s a index ≡ Ok view → list_all is_basic index ≡ false → part_seen s a index ≡ Ok (a_copy (new_contents (descr_of s a) view.shape (read s (viewed a view))))
  part-copied view good arrays = rw (good, arrays) refl

  pub view-seen : (x : Viewed) (layout : Layout) (view : View) → Shows s a r → taken s a index ≡ Ok view → IsAimed r (list_all is_basic index) (target.View layout) view → x.bound ≡ bound.View r.number r.path.now layout r.writable → x.descr ≡ r.descr →
      Meets (IsSeen s) (Ok x) (part_seen s a index)
  view-seen x layout view shows good (plain, is, kept) same descr =
      subst (Meets (IsSeen s) (Ok x)) (sym (part-viewed view good plain))
      (viewed-part s a r a.writable (Ok view) x layout shows (same ∙ λ i. bound.View r.number r.path.now layout (shows.view.laid.writable_is i)) descr is (λ free. (free, kept)))

  pub copy-seen : (o : Owned) (view : View) → Shows s a r → taken s a index ≡ Ok view → list_all is_basic index ≡ false → Holds s (viewed a view) o → Meets (IsSeen s) (Ok (record { bound = bound.Fresh o; descr = r.descr })) (part_seen s a index)
  copy-seen o view shows good arrays holds =
      subst (Meets (IsSeen s) (Ok (record { bound = bound.Fresh o; descr = r.descr }))) (sym (part-copied view good arrays)) (held-is, shows.descr)
    where
      held-is : new_contents (descr_of s a) view.shape (read s (viewed a view)) ≡ held o
      held-is =
          sym (ap (λ d. new_contents d view.shape (read s (viewed a view))) holds.descr)
          ∙ made-held C o.descr view.shape (read s (viewed a view)) o refl holds.shape (holds.order ∙ ap (offsets_in C (item_size o.descr)) holds.shape) holds.items

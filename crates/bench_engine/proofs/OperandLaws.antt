-- Operands: parts of arrays, and single items.
use Rattle.std.proofs.Common.{◌≡◌, ◌+◌, ◌≤◌, ℕ, List, [], ◌∷◌, length, map, All, sym, ap, ◌∙◌}
use Rattle.bench_engine.proofs.Words.{Descr, item_from, item_size, LeafValue, Layout, offsets, length-offsets, offsets_within, count, view_through, IsViewOf, can_stretch, broadcast_index, stretched_items, Items, Owned, State, buffer_of, span_of, placed_item, part_at, Shows, ArrayRef, View, Array, OperandValues, operand_values, one_item, viewed, StandsFor, Stands, OwnStands}
use Rattle.bench_engine.proofs.Assigns.{all-viewed, lies-whole, lies-viewed}
use Rattle.bench_engine.proofs.Sets.{read-part}
use Rattle.bench_engine.proofs.StretchLaws.{stretched-same, one-stretched, map-replicate}

-- ---- items taken from an array

pub view-within : (s : State) (a : Array) (r : ArrayRef) (layout : Layout) (view : View) → Shows s a r → IsViewOf r.layout.now layout view → All (λ offset. offset + item_size r.descr.now ≤ length r.block.now) (offsets layout)
view-within s a r layout view shows is = all-viewed (λ offset. offset + item_size r.descr.now ≤ length r.block.now) r.layout.now layout view is shows.inside

pub view-stands : (s : State) (a : Array) (r : ArrayRef) (layout : Layout) (view : View) (x : Items) → Shows s a r → IsViewOf r.layout.now layout view → x.block.now ≡ r.block.now → x.layout.now ≡ layout → x.descr.now ≡ r.descr.now → StandsFor s (viewed a view) x
view-stands s a r layout view x shows is block laid typed = record {
  descr = shows.descr ∙ sym typed;
  shape = sym is.shape ∙ ap (λ (l : Layout). l.shape) (sym laid);
  items = read-part s a (viewed a view) r layout shows (lies-viewed s a a r.layout.now layout view (lies-whole s a r shows) is) ∙ λ i. map (item_from (sym typed i) (sym block i)) (offsets (sym laid i));
}

pub own-inside : (o : Owned) → All (λ offset. offset + item_size o.descr ≤ length o.block) (offsets o.layout)
own-inside o = offsets_within o.layout _ _ o.fills_block.fits

-- ---- stretched

pub all-stand : (s : State) (part : Array) (x : Items) → StandsFor s part x → Stands (operand_values s part) x
all-stand s part x h = record {
  descr = h.descr;
  shape = h.shape;
  items = λ target can.
      (λ i. map (λ place. part_at (span_of s part) (placed_item (buffer_of s part).items place)) (view_through part.places (h.shape i) target (broadcast_index (h.shape i))))
      ∙ sym (stretched-same (item_from x.descr.now x.block.now) (λ place. part_at (span_of s part) (placed_item (buffer_of s part).items place)) (offsets x.layout.now) part.places x.layout.now.shape target
      (sym h.items) (length-offsets x.layout.now) (ap (λ (shape : List ℕ). can_stretch shape target) (sym h.shape) ∙ can));
}

pub one-stands : (descr : Descr) (item : List LeafValue) (o : Owned) → o.descr ≡ descr → o.layout.shape ≡ [] → map (item_from o.descr o.block) (offsets o.layout) ≡ item ∷ [] → OwnStands o (one_item descr item)
one-stands descr item o typed shaped is = record {
  descr = sym typed;
  shape = sym shaped;
  items = λ target can.
      sym (map-replicate (λ (at : ℕ). item) (count target) 0)
      ∙ ap (map (λ (at : ℕ). item)) (sym (one-stretched 0 target))
      ∙ (λ i. map (λ (at : ℕ). item) (view_through (0 ∷ []) (sym shaped i) target (broadcast_index (sym shaped i))))
      ∙ sym (stretched-same (item_from o.descr o.block) (λ (at : ℕ). item) (offsets o.layout) (0 ∷ []) o.layout.shape target is (length-offsets o.layout) (ap (λ (shape : List ℕ). can_stretch shape target) shaped ∙ can));
}

pub own-stands : (v : OperandValues) (o : Owned) (x : Items) → OwnStands o v → x.block.now ≡ o.block → x.layout.now ≡ o.layout → x.descr.now ≡ o.descr → Stands v x
own-stands v o x h block laid typed = record {
  descr = h.descr ∙ sym typed;
  shape = h.shape ∙ ap (λ (l : Layout). l.shape) (sym laid);
  items = λ target can. h.items target can ∙ λ i. stretched_items (sym typed i) (sym block i) (sym laid i) target;
}

-- Arrays that are copied.
use Rattle.std.proofs.Common.{◌≡◌, ◌⊎◌, ◌≤◌, ◌*◌, ℕ, nat_le, true, false, List, map, refl, sym, ap, ◌∙◌, subst, if◌then◌else◌, Result, Ok, Err, IfOk, IfErr, inl, inr, arith}
use Rattle.bench_engine.proofs.Words.{le-leb, Refusal, OutOfMemory, TooLarge, Gives, Descr, item_size, items_in, item_from, LeafValue, MemoryOrder, max_bytes, count, offsets, Owned, offsets_in, places_of, State, descr_of, read, Shows, ArrayRef, Array, new_contents_in, held, copied_contents}
use Rattle.bench_engine.proofs.Stored.{places-stored, stored-is}

pub copied-large : (s : State) (a : Array) (order : MemoryOrder) (shape : List ℕ) → nat_le (count shape * item_size (descr_of s a)) max_bytes ≡ false → copied_contents s a order shape ≡ Err TooLarge
unfolding copied_contents
copied-large s a order shape large = rw large refl

pub copied-done : (s : State) (a : Array) (order : MemoryOrder) (shape : List ℕ) → nat_le (count shape * item_size (descr_of s a)) max_bytes ≡ true → copied_contents s a order shape ≡ Ok (new_contents_in order (descr_of s a) shape (read s a))
unfolding copied_contents
copied-done s a order shape small = rw small refl

-- the contents of an owned array whose items are stored in this order
pub made-held : (order : MemoryOrder) (descr : Descr) (shape : List ℕ) (items : List (List LeafValue)) (o : Owned) → o.descr ≡ descr → o.layout.shape ≡ shape → offsets o.layout ≡ offsets_in order (item_size descr) shape →
    map (item_from descr o.block) (offsets o.layout) ≡ items → new_contents_in order descr shape items ≡ held o
made-held order descr shape items o typed shaped laid is = λ i. record {
  shape = sym shaped i;
  places = (sym (places-stored order (item_size descr) shape (omega (arith, o.fills_block.some, ap item_size typed))) ∙ λ j. places_of (item_size (sym typed j)) (sym laid j)) i;
  buffer = record {
    descr = sym typed i;
    items = (stored-is order descr shape o.block items (ap (map (item_from descr o.block)) (sym laid) ∙ is) ∙ λ j. items_in (sym typed j) (count (sym shaped j)) o.block) i;
  };
}

pub items-copied : (s : State) (a : Array) (r : ArrayRef) (order : MemoryOrder) (o : Owned) → Shows s a r → count r.layout.now.shape * item_size r.descr.now ≤ max_bytes → o.descr ≡ r.descr.now → o.layout.shape ≡ r.layout.now.shape →
    offsets o.layout ≡ offsets_in order (item_size r.descr.now) r.layout.now.shape → map (item_from r.descr.now o.block) (offsets o.layout) ≡ map (item_from r.descr.now r.block.now) (offsets r.layout.now) → copied_contents s a order a.shape ≡ Ok (held o)
items-copied s a r order o shows few typed shaped laid items =
    copied-done s a order a.shape (le-leb (count a.shape * item_size (descr_of s a)) max_bytes fits)
    ∙ ap Ok ((λ i. new_contents_in order (shows.descr i) (sym shows.view.laid.shape i) (shows.reads i)) ∙ made-held order r.descr.now r.layout.now.shape (map (item_from r.descr.now r.block.now) (offsets r.layout.now)) o typed shaped laid items)
  where
    fits : count a.shape * item_size (descr_of s a) ≤ max_bytes
    fits = subst (λ (n : ℕ). n ≤ max_bytes) (λ i. count (shows.view.laid.shape i) * item_size (sym shows.descr i)) few

pub copy-refused : (s : State) (a : Array) (r : ArrayRef) (order : MemoryOrder) (e : Refusal) → Shows s a r → e ≡ (if nat_le (count r.layout.now.shape * item_size r.descr.now) max_bytes then OutOfMemory else TooLarge) → (e ≡ OutOfMemory) ⊎ (copied_contents s a order a.shape ≡ Err e)
copy-refused s a r order e shows is =
    elim (nat_le (count r.layout.now.shape * item_size r.descr.now) max_bytes) as (λ b. nat_le (count r.layout.now.shape * item_size r.descr.now) max_bytes ≡ b → e ≡ (if b then OutOfMemory else TooLarge) → (e ≡ OutOfMemory) ⊎ (copied_contents s a order a.shape ≡ Err e)) [
      | true ↦ λ _ lacks. inl lacks
      | false ↦ λ large bad. inr (copied-large s a order a.shape ((λ i. nat_le (count (sym shows.view.laid.shape i) * item_size (shows.descr i)) max_bytes) ∙ large) ∙ ap Err (sym bad))
    ] refl is

pub copied-gives : (s : State) (a : Array) (r : ArrayRef) (order : MemoryOrder) (result : Result Owned Refusal) → Shows s a r → IfOk result (λ o. o.descr ≡ r.descr.now) → IfOk result (λ o. o.layout.shape ≡ r.layout.now.shape) → IfOk result (λ o. offsets o.layout ≡ offsets_in order (item_size r.descr.now) r.layout.now.shape) →
    IfOk result (λ o. map (item_from r.descr.now o.block) (offsets o.layout) ≡ map (item_from r.descr.now r.block.now) (offsets r.layout.now)) → IfOk result (λ _. count r.layout.now.shape * item_size r.descr.now ≤ max_bytes) →
    IfErr result (λ e. e ≡ (if nat_le (count r.layout.now.shape * item_size r.descr.now) max_bytes then OutOfMemory else TooLarge)) → Gives held result (copied_contents s a order a.shape)
copied-gives s a r order (Ok o) shows typed shaped laid items few refused = items-copied s a r order o shows few typed shaped laid items
copied-gives s a r order (Err e) shows typed shaped laid items few refused = copy-refused s a r order e shows refused

-- New arrays, as the contracts of calls describe them.
use Rattle.std.proofs.Common.{◌≡◌, ◌⊎◌, ℕ, Result, Ok, Err, List, map, IfOk, IsErrAnd, sym, ap, subst, ◌∙◌}
use Rattle.elementwise.proofs.Words.{err_from_is_err_and, flat_map, AllocError, Refusal, Descr, LeafValue, item_size, encode_item, item_from, count, offsets, multiples, owned_items, Owned, GivesArray, OutOfMemory, IsMade}

-- an array with a block of items
pub over-made : (t d : Descr) (shape : List ℕ) (values : List (List LeafValue)) (result : Result Owned AllocError) (block : List ℕ) → t ≡ d →
    IfOk result (λ o. o.descr ≡ t) → IfOk result (λ o. o.layout.shape ≡ shape) → IfOk result (λ o. offsets o.layout ≡ multiples (item_size t) (count shape)) → IfOk result (λ o. o.block ≡ block) →
    map (item_from d block) (multiples (item_size d) (count shape)) ≡ values → block ≡ flat_map (encode_item d) values → IfOk result (IsMade d shape values)
over-made t d shape values (Ok o) block same descr shape-is order is read wrote =
    let at : offsets o.layout ≡ multiples (item_size d) (count shape) = order ∙ λ i. multiples (item_size (same i)) (count shape) in
    record {
      descr_is = descr ∙ same;
      shape_is = shape-is;
      order = at;
      items = (λ i. map (item_from d (is i)) (at i)) ∙ read;
      encoded = is ∙ wrote;
    }
over-made t d shape values (Err e) block same descr shape-is order is read wrote = tt

-- the items may be given by any equal list
pub made-as : (d : Descr) (shape : List ℕ) (xs ys : List (List LeafValue)) (result : Result Owned AllocError) → xs ≡ ys → IfOk result (IsMade d shape xs) → IfOk result (IsMade d shape ys)
made-as d shape xs ys result same made = subst (λ values. IfOk result (IsMade d shape values)) same made

pub made-in : (d : Descr) (shape shape' : List ℕ) (xs ys : List (List LeafValue)) (result : Result Owned AllocError) → shape ≡ shape' → xs ≡ ys → IfOk result (IsMade d shape xs) → IfOk result (IsMade d shape' ys)
made-in d shape shape' xs ys result there same made = subst (λ s. IfOk result (IsMade d s ys)) there (made-as d shape xs ys result same made)

-- what is known of a new array
module _ (d : Descr) (shape : List ℕ) (values : List (List LeafValue)) (o : Owned) (made : IsMade d shape values o) where
  pub made-encoded : o.block ≡ flat_map (encode_item o.descr) (owned_items o)
  made-encoded =
      made.encoded
      ∙ ap (flat_map (encode_item d)) (sym made.items)
      ∙ λ i. flat_map (encode_item (sym made.descr_is i)) (map (item_from (sym made.descr_is i) o.block) (offsets o.layout))

  pub made-given : (there : Result (Descr × List ℕ) Refusal) (f : Descr → List ℕ → List (List LeafValue)) → there ≡ Ok (d, shape) → values ≡ f d shape → GivesArray there f (Ok o)
  made-given there f is same = record {
    gives = is ∙ λ i. Ok (sym made.descr_is i, sym made.shape_is i);
    order = made.order ∙ λ i. multiples (item_size (sym made.descr_is i)) (count (sym made.shape_is i));
    items = (λ i. map (item_from (made.descr_is i) o.block) (offsets o.layout)) ∙ made.items ∙ same ∙ λ i. f (sym made.descr_is i) (sym made.shape_is i);
    encoded = made-encoded;
  }

-- a call that refuses as another one did
pub refused : (there : Result (Descr × List ℕ) Refusal) (f : Descr → List ℕ → List (List LeafValue)) (e : Refusal) (result : Result Owned Refusal) → IsErrAnd result (λ y. y ≡ e) → (e ≡ OutOfMemory) ⊎ (there ≡ Err e) → GivesArray there f result
refused there f e result returned is = let p = err_from_is_err_and result returned in rw (p.1, p.2) (record { gives = is; order = tt; items = tt; encoded = tt })

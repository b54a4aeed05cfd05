-- Arrays that are cast.
use Rattle.std.proofs.Common.{◌≡◌, ◌≤◌, ◌*◌, ℕ, nat_le, true, false, List, map, refl, sym, ◌∙◌, if◌then◌else◌, Result, Ok, Err, IfOk, IfErr}
use Rattle.bench_engine.proofs.Words.{Refusal, OutOfMemory, TooLarge, NoSuchCast, Gives, descriptor, Descr, item_size, item_from, can_cast, cast_item, C, max_bytes, count, offsets, Owned, offsets_in, State, descr_of, read, Shows, ArrayRef, Array, new_contents, held, cast_items, cast_contents}
use Rattle.bench_engine.specs.NewArrayLaws.{cast-answers}
use Rattle.bench_engine.proofs.Copies.{made-held}

-- ---- the array that is made

pub cast-none : (s : State) (a : Array) (descr : Descr) → can_cast (descr_of s a) descr ≡ false → cast_items s a descr ≡ Err NoSuchCast
unfolding cast_items
cast-none s a descr none = rw none refl

pub cast-some : (s : State) (a : Array) (descr : Descr) → can_cast (descr_of s a) descr ≡ true → cast_items s a descr ≡ Ok (map (cast_item (descr_of s a) descr) (read s a))
unfolding cast_items
cast-some s a descr can = rw can refl

pub cast-gives : (s : State) (a : Array) (r : ArrayRef) (text : List ℕ) (descr : Descr) (result : Result Owned Refusal) → Shows s a r → descriptor text ≡ Ok descr → IfOk result (λ o. o.descr ≡ descr) → IfOk result (λ o. o.layout.shape ≡ r.layout.now.shape) →
    IfOk result (λ o. offsets o.layout ≡ offsets_in C (item_size descr) r.layout.now.shape) →
    IfOk result (λ o. map (item_from descr o.block) (offsets o.layout) ≡ map (λ offset. cast_item r.descr.now descr (item_from r.descr.now r.block.now offset)) (offsets r.layout.now)) → IfOk result (λ _. can_cast r.descr.now descr ≡ true) →
    IfOk result (λ _. count r.layout.now.shape * item_size descr ≤ max_bytes) →
    IfErr result (λ e. e ≡ (if can_cast r.descr.now descr then (if nat_le (count r.layout.now.shape * item_size descr) max_bytes then OutOfMemory else TooLarge) else NoSuchCast)) → Gives held result (cast_contents s a text)
unfolding cast_contents
cast-gives s a r text descr (Ok o) shows good typed shaped laid items can few refused =
    rw good (cast-answers held (new_contents descr a.shape) s a r descr (Ok o) shows made can few tt)
  where
    made : new_contents descr a.shape (map (λ offset. cast_item r.descr.now descr (item_from r.descr.now r.block.now offset)) (offsets r.layout.now)) ≡ held o
    made = (λ i. new_contents descr (sym shows.view.laid.shape i) (map (λ offset. cast_item r.descr.now descr (item_from r.descr.now r.block.now offset)) (offsets r.layout.now))) ∙ made-held C descr r.layout.now.shape _ o typed shaped laid items
cast-gives s a r text descr (Err e) shows good typed shaped laid items can few refused =
    rw good (cast-answers held (new_contents descr a.shape) s a r descr (Err e) shows tt tt tt refused)

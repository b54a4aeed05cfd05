use Rattle.std.proofs.Common.{◌≡◌, ◌≤◌, refl, sym, ap, subst, ◌∙◌, is_some, slice_set, Some, arith}
use Rattle.name_store.proofs.Words.{same_Some, IfSome_then, IfOk-weaker, IfErr-weaker, max_bytes, slot_at, Slot, AreKept, CanPut, NeedsNone, with_source, without_slot}
use Rattle.name_store.proofs.RewriteLaws.{can-slot, puts-back, keeps-back, length-tried}
use Rattle.name_store.proofs.SlotLaws.{slot_at-get_or, slot_at-within}
use Rattle.name_store.proofs.write.write_items.Goals.{After-as_slice}
use Rattle.name_store.proofs.write.write_items.Goals as goal

pub index_mut-requires : goal.index_mut-requires
index_mut-requires c = omega (arith, c.args.cells.now.ok.0, slot_at-within c.args.cells.now.items c.args.home.number c.requires.slot c.requires.there)

pub unwrap-slot-requires : goal.unwrap-slot-requires
unwrap-slot-requires c =
    ap is_some (c.take.ensures.value ∙ c.index_mut.ensures.value ∙ slot_at-get_or c.args.cells.now.items c.args.home.number _ (slot_at-within c.args.cells.now.items c.args.home.number c.requires.slot c.requires.there) ∙ c.requires.there)

-- the slot was there, and the other slots are unchanged
there : (c : After-as_slice) → slot_at c.args.cells.now.items c.args.home.number ≡ Some c.unwrap-slot.result
there c =
    sym (c.take.ensures.value ∙ c.index_mut.ensures.value ∙ slot_at-get_or c.args.cells.now.items c.args.home.number _ (slot_at-within c.args.cells.now.items c.args.home.number c.requires.slot c.requires.there))
    ∙ c.unwrap-slot.ensures

others : (c : After-as_slice) → c.as_slice.result.now ≡ without_slot c.args.cells.now.items c.args.home.number
others c = c.as_slice.ensures.value ∙ ap (slice_set c.args.cells.now.items c.args.home.number) c.take.ensures.after

can : (c : After-as_slice) → CanPut c.as_slice.result.now c.args.home.width c.args.target c.args.source c.unwrap-slot.result.block
can c =
    subst (λ os. CanPut os c.args.home.width c.args.target c.args.source c.unwrap-slot.result.block) (sym (others c))
    (can-slot c.args.cells.now.items c.args.home c.args.target c.args.source c.requires c.unwrap-slot.result (there c))

pub put-written-requires : goal.put-written-requires
put-written-requires c = can (goal.at.put-written-requires c).After-as_slice

pub invariant_of-slot-clause-is_whole : goal.invariant_of-slot-clause-is_whole
invariant_of-slot-clause-is_whole c =
    let s = c.unwrap-slot.result in
    let len = length-tried c.as_slice.result.now c.args.home.width c.args.target c.args.source s.block (can (goal.at.invariant_of-slot-clause-is_whole c).After-as_slice) c.put-written.result c.put-written.new.block c.put-written.ensures.put.0 c.put-written.ensures.put.1 in
    record { legal = s.is_whole.legal; whole = len ∙ s.is_whole.whole; small = subst (λ n. n ≤ max_bytes) (sym len) s.is_whole.small }

pub index_mut-requires-2 : goal.index_mut-requires-2
index_mut-requires-2 c = omega (arith, c.args.cells.now.ok.0, slot_at-within c.args.cells.now.items c.args.home.number c.requires.slot c.requires.there)

pub returns-clause-written : goal.returns-clause-written
returns-clause-written c =
    let s = c.unwrap-slot.result in
    let h = (goal.at.returns-clause-written c).After-as_slice in (
      IfOk-weaker c.put-written.result _ _ (λ _ (bytes : c.put-written.new.block ≡ with_source c.as_slice.result.now c.args.home.width c.args.target c.args.source s.block).
          puts-back c.args.cells.now.items c.args.home c.args.target c.args.source c.requires s (there h) _ _ refl refl refl
          (bytes ∙ ap (λ os. with_source os c.args.home.width c.args.target c.args.source s.block) (others h))) c.put-written.ensures.put.0,
      IfErr-weaker c.put-written.result _ _ (λ _ same. keeps-back c.args.cells.now.items c.args.home c.args.target c.args.source c.requires s (there h) _ _ refl refl refl same) c.put-written.ensures.put.1,
    )

pub returns-clause-old : goal.returns-clause-old
returns-clause-old c =
    let s = c.unwrap-slot.result in
    let was = there (goal.at.returns-clause-old c).After-as_slice in
    IfOk-weaker c.put-written.result _ _ (λ over olds.
    IfSome_then over olds (λ w kept x is. subst (λ (y : Slot). AreKept c.args.home.width y.block c.args.target w) (same_Some s x (sym was ∙ is)) kept)) c.put-written.ensures.old

pub returns-clause-no_memory : goal.returns-clause-no_memory
returns-clause-no_memory c = λ drops none.
    c.put-written.ensures.no_memory drops (subst (λ os. NeedsNone os c.args.home.width c.args.target c.args.source) (sym (others (goal.at.returns-clause-no_memory c).After-as_slice)) none)

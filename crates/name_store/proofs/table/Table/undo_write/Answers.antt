use Rattle.std.proofs.Common.{◌≡◌, ◌+◌, ◌≤◌, refl, sym, subst, ◌∙◌, All, Some, arith}
use Rattle.name_store.proofs.Words.{GoBackAt, with_old, target_offsets, slot_at, Slot}
use Rattle.name_store.proofs.HeldLaws.{lowest-lent}
use Rattle.name_store.proofs.RewriteLaws.{lent-new}
use Rattle.name_store.proofs.SlotLaws.{lent-some, lent-there}
use Rattle.name_store.proofs.UndoWrite.{goes-back, goes-some, goes-within, undo-write}
use Rattle.name_store.proofs.table.Table.undo_write.Goals.{After-unwrap-slot}
use Rattle.name_store.proofs.table.Table.undo_write.Goals as goal

pub index_mut-requires : goal.index_mut-requires
index_mut-requires c = omega (arith, c.args.self.now.slots.cells.ok.0, goes-within c.args.self.now.names.entries c.args.self.now.slots.cells.items c.requires.can.0 _ c.args.number c.args.target.now c.args.items.now c.requires.can.1)

pub unwrap-slot-requires : goal.unwrap-slot-requires
unwrap-slot-requires c = lent-some c.args.self.now.slots.cells.items c.args.number _ c.as_mut.result (goes-within c.args.self.now.names.entries c.args.self.now.slots.cells.items c.requires.can.0 _ c.args.number c.args.target.now c.args.items.now c.requires.can.1) (c.as_mut.ensures.value ∙ c.index_mut.ensures.value) (goes-some c.args.self.now.names.entries c.args.self.now.slots.cells.items c.requires.can.0 _ c.args.number c.args.target.now c.args.items.now c.requires.can.1)

-- the buffer was in the slot
was : (c : After-unwrap-slot) → slot_at c.args.self.now.slots.cells.items c.args.number ≡ Some c.unwrap-slot.result.now
was c = lent-there c.args.self.now.slots.cells.items c.args.number _ c.as_mut.result c.unwrap-slot.result (goes-within c.args.self.now.names.entries c.args.self.now.slots.cells.items c.requires.can.0 _ c.args.number c.args.target.now c.args.items.now c.requires.can.1) (c.as_mut.ensures.value ∙ c.index_mut.ensures.value) c.unwrap-slot.ensures

pub put_back-requires : goal.put_back-requires
put_back-requires c =
    let goes = subst (GoBackAt c.args.target.now c.args.items.now) (was (goal.at.put_back-requires c).After-unwrap-slot) (goes-back c.args.self.now.names.entries c.args.self.now.slots.cells.items c.requires.can.0 _ c.args.number c.args.target.now c.args.items.now c.requires.can.1) in record {
      inside = subst (λ n. All (λ offset. offset + c.args.items.now.width ≤ n) (target_offsets c.args.target.now)) (sym c.unwrap-slot.result.now.is_whole.whole) goes.inside;
      whole = goes.whole;
    }

pub returns : goal.returns
returns c ring sound =
    undo-write c.args.self.now.names.entries c.args.self.now.slots.cells.items ring _ c.args.number c.args.target.now c.args.items.now sound _
    (λ old. lent-new c.args.self.now.slots.cells.items c.args.number c.unwrap-slot.result.now _ old (λ (s : Slot). with_old (target_offsets c.args.target.now) c.args.items.now s.block)
    (goes-within c.args.self.now.names.entries c.args.self.now.slots.cells.items ring _ c.args.number c.args.target.now c.args.items.now sound) (was (goal.at.returns c).After-unwrap-slot) refl refl refl c.put_back.ensures.bytes)

pub invariant_of-self : goal.invariant_of-self
invariant_of-self c = (
  (lowest-lent c.args.self.now.slots.cells.items c.args.self.now.slots.lowest c.args.number _ (goes-within c.args.self.now.names.entries c.args.self.now.slots.cells.items c.requires.can.0 _ c.args.number c.args.target.now c.args.items.now c.requires.can.1) c.args.self.now.slots.taken, tt),
  (
    (undo-write c.args.self.now.names.entries c.args.self.now.slots.cells.items c.requires.can.0 _ c.args.number c.args.target.now c.args.items.now c.requires.can.1 _
        (λ old. lent-new c.args.self.now.slots.cells.items c.args.number c.unwrap-slot.result.now _ old (λ (s : Slot). with_old (target_offsets c.args.target.now) c.args.items.now s.block)
        (goes-within c.args.self.now.names.entries c.args.self.now.slots.cells.items c.requires.can.0 _ c.args.number c.args.target.now c.args.items.now c.requires.can.1) (was (goal.at.invariant_of-self c).After-unwrap-slot) refl refl refl c.put_back.ensures.bytes)).sound.holds,
    tt,
  ),
)

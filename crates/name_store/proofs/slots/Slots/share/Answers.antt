use Rattle.std.proofs.Common.{◌≡◌, ◌∙◌, ap, refl, arith, Some}
use Rattle.name_store.proofs.Words.{users_of, slot_at}
use Rattle.name_store.proofs.HeldLaws.{used-within, used-some, lent-more, lent-stays, lowest-lent}
use Rattle.name_store.proofs.SlotLaws.{lent-some, lent-there}
use Rattle.name_store.proofs.slots.Slots.share.Goals.{After-unwrap-slot}
use Rattle.name_store.proofs.slots.Slots.share.Goals as goal

pub index_mut-requires : goal.index_mut-requires
index_mut-requires c = omega (arith, c.args.self.now.cells.ok.0, used-within c.args.self.now.cells.items c.args.number c.requires.there)

pub unwrap-slot-requires : goal.unwrap-slot-requires
unwrap-slot-requires c = lent-some c.args.self.now.cells.items c.args.number _ c.as_mut.result (used-within c.args.self.now.cells.items c.args.number c.requires.there) (c.as_mut.ensures.value ∙ c.index_mut.ensures.value) (used-some c.args.self.now.cells.items c.args.number c.requires.there)

-- the buffer was in the slot
was : (c : After-unwrap-slot) → slot_at c.args.self.now.cells.items c.args.number ≡ Some c.unwrap-slot.result.now
was c = lent-there c.args.self.now.cells.items c.args.number _ c.as_mut.result c.unwrap-slot.result (used-within c.args.self.now.cells.items c.args.number c.requires.there) (c.as_mut.ensures.value ∙ c.index_mut.ensures.value) c.unwrap-slot.ensures

pub overflow_add-slot : goal.overflow_add-slot
overflow_add-slot c = omega (arith, c.requires.few, ap users_of (was (goal.at.overflow_add-slot c).After-unwrap-slot))

pub invariant_of-self : goal.invariant_of-self
invariant_of-self c = record { taken = lowest-lent c.args.self.now.cells.items c.args.self.now.lowest c.args.number _ (used-within c.args.self.now.cells.items c.args.number c.requires.there) c.args.self.now.taken }

pub returns-clause-users : goal.returns-clause-users
returns-clause-users c = lent-more c.args.self.now.cells.items c.args.number c.unwrap-slot.result.now _ (used-within c.args.self.now.cells.items c.args.number c.requires.there) (was (goal.at.returns-clause-users c).After-unwrap-slot) refl

pub returns-clause-stays : goal.returns-clause-stays
returns-clause-stays c = lent-stays c.args.self.now.cells.items c.args.number c.unwrap-slot.result.now _ (used-within c.args.self.now.cells.items c.args.number c.requires.there) (was (goal.at.returns-clause-stays c).After-unwrap-slot) refl

use Rattle.std.proofs.Common.{◌≡◌, ◌+◌, ◌∙◌, ap, refl, arith, Some, None, cond, nat_lt}
use Rattle.name_store.proofs.Words.{option_map, users_of, slot_at, stand}
use Rattle.name_store.proofs.HeldLaws.{set-case, held-stand, used-within, used-some, lent-fewer, lent-freed, lowest-lent, lowest-emptied}
use Rattle.name_store.proofs.SlotLaws.{lent-some, lent-there}
use Rattle.name_store.proofs.slots.Slots.release.Goals.{After-unwrap-slot}
use Rattle.name_store.proofs.slots.Slots.release.Goals as goal

pub index_mut-requires : goal.index_mut-requires
index_mut-requires c = omega (arith, c.args.self.now.cells.ok.0, used-within c.args.self.now.cells.items c.args.number c.requires)

pub invariant_of-self : goal.invariant_of-self
invariant_of-self c = record { taken = lowest-emptied c.args.self.now.cells.items c.args.self.now.lowest c.args.number _ (used-within c.args.self.now.cells.items c.args.number c.requires) (omega (arith, c.min-self.ensures)) (omega (arith, c.min-self.ensures)) c.args.self.now.taken }

pub returns-then-slot-eq1-clause-users : goal.returns-then-slot-eq1-clause-users
returns-then-slot-eq1-clause-users c = set-case (λ new old k. users_of new + k ≡ users_of old) c.args.self.now.cells.items c.args.number None (used-within c.args.self.now.cells.items c.args.number c.requires) (omega (arith, c.if-slot-eq1.true, ap users_of c.slot.ensures)) (λ o. omega arith)

pub returns-then-slot-eq1-clause-swept : goal.returns-then-slot-eq1-clause-swept
returns-then-slot-eq1-clause-swept c = set-case (λ new old _. option_map stand new ≡ cond (nat_lt 0 (users_of new)) (option_map stand old) None) c.args.self.now.cells.items c.args.number None (used-within c.args.self.now.cells.items c.args.number c.requires) refl held-stand

pub index_mut-requires-else-slot-eq1 : goal.index_mut-requires-else-slot-eq1
index_mut-requires-else-slot-eq1 c = omega (arith, c.args.self.now.cells.ok.0, used-within c.args.self.now.cells.items c.args.number c.requires)

pub unwrap-slot-requires : goal.unwrap-slot-requires
unwrap-slot-requires c = lent-some c.args.self.now.cells.items c.args.number _ c.as_mut.result (used-within c.args.self.now.cells.items c.args.number c.requires) (c.as_mut.ensures.value ∙ c.index_mut-else-slot-eq1.ensures.value) (used-some c.args.self.now.cells.items c.args.number c.requires)

-- the buffer was in the slot
was : (c : After-unwrap-slot) → slot_at c.args.self.now.cells.items c.args.number ≡ Some c.unwrap-slot.result.now
was c = lent-there c.args.self.now.cells.items c.args.number _ c.as_mut.result c.unwrap-slot.result (used-within c.args.self.now.cells.items c.args.number c.requires) (c.as_mut.ensures.value ∙ c.index_mut-else-slot-eq1.ensures.value) c.unwrap-slot.ensures

pub invariant_of-slot-clause-is_used : goal.invariant_of-slot-clause-is_used
invariant_of-slot-clause-is_used c =
    omega (arith, c.if-slot-eq1.false, c.unwrap-slot.result.now.is_used, ap users_of c.slot.ensures, ap users_of (was (goal.at.invariant_of-slot-clause-is_used c).After-unwrap-slot))

pub invariant_of-self-else-slot-eq1 : goal.invariant_of-self-else-slot-eq1
invariant_of-self-else-slot-eq1 c = record { taken = lowest-lent c.args.self.now.cells.items c.args.self.now.lowest c.args.number _ (used-within c.args.self.now.cells.items c.args.number c.requires) c.args.self.now.taken }

pub returns-else-slot-eq1-clause-users : goal.returns-else-slot-eq1-clause-users
returns-else-slot-eq1-clause-users c = lent-fewer c.args.self.now.cells.items c.args.number c.unwrap-slot.result.now _ (used-within c.args.self.now.cells.items c.args.number c.requires) (was (goal.at.returns-else-slot-eq1-clause-users c).After-unwrap-slot) (omega (arith, c.unwrap-slot.result.now.is_used))

pub returns-else-slot-eq1-clause-swept : goal.returns-else-slot-eq1-clause-swept
returns-else-slot-eq1-clause-swept c = lent-freed c.args.self.now.cells.items c.args.number c.unwrap-slot.result.now _ (used-within c.args.self.now.cells.items c.args.number c.requires) (was (goal.at.returns-else-slot-eq1-clause-swept c).After-unwrap-slot) refl

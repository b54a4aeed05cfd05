use Rattle.std.proofs.Common.{◌∙◌, refl, sym, Some, None, arith}
use Rattle.name_store.proofs.Words.{spare}
use Rattle.name_store.proofs.StateLaws.{found-held, freed-none}
use Rattle.name_store.proofs.UndoBinding.{undo-binding}
use Rattle.name_store.proofs.table.Table.undo_first.Goals as goal

pub release-requires : goal.release-requires
release-requires c = found-held c.args.self.now.names.entries c.args.self.now.slots.cells.items c.requires.can.1.holds _ c.args.key (λ _. refl) c.in-Some.entry (sym c.shift_remove.ensures.value ∙ c.in-Some.is)

pub returns-in-Some : goal.returns-in-Some
returns-in-Some c ring sound =
    undo-binding c.args.self.now.names.entries c.args.key c.args.self.now.slots.cells.items ring _ None sound c.shift_remove.new.self.entries c.shift_remove.ensures.entries _ (omega (arith, c.shift_remove.ensures.room.0))
    (Some c.in-Some.entry) (sym c.in-Some.is ∙ c.shift_remove.ensures.value) c.release.new.self.cells.items c.release.ensures.swept c.release.ensures.users

pub returns : goal.returns
returns c ring sound =
    undo-binding c.args.self.now.names.entries c.args.key c.args.self.now.slots.cells.items ring _ None sound c.shift_remove.new.self.entries c.shift_remove.ensures.entries _ (omega (arith, c.shift_remove.ensures.room.0))
    None (sym c.in_default.is ∙ c.shift_remove.ensures.value) _ (freed-none c.args.self.now.slots.cells.items) (λ q. omega arith)

pub invariant_of-self : goal.invariant_of-self
invariant_of-self c = record {
  holds = (undo-binding c.args.self.now.names.entries c.args.key c.args.self.now.slots.cells.items c.requires.can.0 _ None c.requires.can.1 c.shift_remove.new.self.entries c.shift_remove.ensures.entries (spare c.shift_remove.new.self) (omega (arith, c.shift_remove.ensures.room.0))
      (Some c.in-Some.entry) (sym c.in-Some.is ∙ c.shift_remove.ensures.value) c.release.new.self.cells.items c.release.ensures.swept c.release.ensures.users).sound.holds;
}

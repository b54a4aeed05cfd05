use Rattle.std.proofs.Common.{◌∙◌, refl, sym, Some, None, arith}
use Rattle.name_store.proofs.Words.{IfOk-at_ok}
use Rattle.name_store.proofs.StateLaws.{found-held, freed-none}
use Rattle.name_store.proofs.UndoBinding.{undo-binding}
use Rattle.name_store.proofs.table.Table.undo_rebinding.Goals as goal

pub release-requires : goal.release-requires
release-requires c =
    found-held c.args.self.now.names.entries c.args.self.now.slots.cells.items c.requires.can.1.holds _ c.args.key (λ _. refl) c.in-Some.entry (sym (IfOk-at_ok _ c.unwrap.ensures c.insert.ensures.old) ∙ c.in-Some.is)

pub returns-in-Some : goal.returns-in-Some
returns-in-Some c ring sound =
    undo-binding c.args.self.now.names.entries c.args.key c.args.self.now.slots.cells.items ring _ (Some c.args.earlier) sound c.insert.new.self.entries (IfOk-at_ok _ c.unwrap.ensures c.insert.ensures.entries) _ c.insert.ensures.spare
    (Some c.in-Some.entry) (sym c.in-Some.is ∙ IfOk-at_ok _ c.unwrap.ensures c.insert.ensures.old) c.release.new.self.cells.items c.release.ensures.swept c.release.ensures.users

pub returns-in_default : goal.returns-in_default
returns-in_default c ring sound =
    undo-binding c.args.self.now.names.entries c.args.key c.args.self.now.slots.cells.items ring _ (Some c.args.earlier) sound c.insert.new.self.entries (IfOk-at_ok _ c.unwrap.ensures c.insert.ensures.entries) _ c.insert.ensures.spare
    None (sym c.in_default.is ∙ IfOk-at_ok _ c.unwrap.ensures c.insert.ensures.old) _ (freed-none c.args.self.now.slots.cells.items) (λ q. omega arith)

pub invariant_of-self : goal.invariant_of-self
invariant_of-self c = record {
  holds = (undo-binding c.args.self.now.names.entries c.args.key c.args.self.now.slots.cells.items c.requires.can.0 _ (Some c.args.earlier) c.requires.can.1 c.insert.new.self.entries (IfOk-at_ok _ c.unwrap.ensures c.insert.ensures.entries) _ c.insert.ensures.spare
      (Some c.in-Some.entry) (sym c.in-Some.is ∙ IfOk-at_ok _ c.unwrap.ensures c.insert.ensures.old) c.release.new.self.cells.items c.release.ensures.swept c.release.ensures.users).sound.holds;
}

pub invariant_of-self-in_default : goal.invariant_of-self-in_default
invariant_of-self-in_default c = record {
  holds = (undo-binding c.args.self.now.names.entries c.args.key c.args.self.now.slots.cells.items c.requires.can.0 _ (Some c.args.earlier) c.requires.can.1 c.insert.new.self.entries (IfOk-at_ok _ c.unwrap.ensures c.insert.ensures.entries) _ c.insert.ensures.spare
      None (sym c.in_default.is ∙ IfOk-at_ok _ c.unwrap.ensures c.insert.ensures.old) _ (freed-none c.args.self.now.slots.cells.items) (λ q. omega arith)).sound.holds;
}

use Rattle.std.proofs.Common.{◌∙◌, ap, refl, sym, true, false, ◌≡◌, is_some}
use Rattle.name_store.proofs.Words.{IfOk-at_ok, spare}
use Rattle.name_store.proofs.UndoLaws.{at-ok, undo-room}
use Rattle.name_store.proofs.UndoUnbinding.{unbind-absent, unbind-within, undo-unbinding}
use Rattle.name_store.proofs.table.Table.undo_unbinding.Goals as goal

pub shift_insert-requires-clause-in_bounds : goal.shift_insert-requires-clause-in_bounds
shift_insert-requires-clause-in_bounds c =
    unbind-within c.args.self.now.names.entries c.args.self.now.slots.cells.items c.requires.can.0 _ c.args.place c.args.key c.args.entry c.requires.can.1 _ (λ _. refl)

pub shift_insert-requires-clause-below_len : goal.shift_insert-requires-clause-below_len
shift_insert-requires-clause-below_len c there =
    let no : true ≡ false = sym there ∙ ap is_some (unbind-absent c.args.self.now.names.entries c.args.self.now.slots.cells.items c.requires.can.0 _ c.args.place c.args.key c.args.entry c.requires.can.1 _ (λ _. refl)) in cc

pub returns : goal.returns
returns c ring sound =
    undo-unbinding c.args.self.now.names.entries c.args.self.now.slots.cells.items ring _ c.args.place c.args.key c.args.entry sound _ (λ _. refl) _ refl c.shift_insert.new.self.entries (IfOk-at_ok _ c.unwrap.ensures c.shift_insert.ensures.entries) _ c.shift_insert.ensures.spare

pub invariant_of-self : goal.invariant_of-self
invariant_of-self c = record {
  holds = (undo-unbinding c.args.self.now.names.entries c.args.self.now.slots.cells.items c.requires.can.0 _ c.args.place c.args.key c.args.entry c.requires.can.1 _ (λ _. refl) _ refl c.shift_insert.new.self.entries (at-ok c.shift_insert.result (c.shift_insert.ensures.succeeds (undo-room _ _ _ _ _ c.requires.can.1)) c.shift_insert.ensures.entries) (spare c.shift_insert.new.self) c.shift_insert.ensures.spare).sound.holds;
}

use Rattle.std.proofs.Common.{◌∙◌, sym, ap, is_some, arith}
use Rattle.name_store.proofs.Words.{option_copied}
use Rattle.name_store.proofs.SlotLaws.{occupied-within, slot_at-get_or}
use Rattle.name_store.proofs.slots.Slots.slot.Goals as goal

pub index-requires : goal.index-requires
index-requires c = omega (arith, c.args.self.now.cells.ok.0, occupied-within c.args.self.now.cells.items c.args.number c.requires)

pub unwrap-requires : goal.unwrap-requires
unwrap-requires c =
    c.as_ref.ensures.variant ∙ ap is_some (c.index.ensures ∙ slot_at-get_or c.args.self.now.cells.items c.args.number _ (occupied-within c.args.self.now.cells.items c.args.number c.requires)) ∙ c.requires

pub returns : goal.returns
returns c =
    sym (slot_at-get_or c.args.self.now.cells.items c.args.number _ (occupied-within c.args.self.now.cells.items c.args.number c.requires)) ∙ sym c.index.ensures ∙ sym c.as_ref.ensures.value ∙ ap option_copied c.unwrap.ensures

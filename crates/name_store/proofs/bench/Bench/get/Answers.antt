use Rattle.std.proofs.Common.{ap, sym, ◌∙◌, refl, is_some}
use Rattle.name_store.proofs.Words.{option_copied}
use Rattle.name_store.proofs.StateLaws.{found-slot, found-lies, bound-found, none-found}
use Rattle.name_store.proofs.NameLaws.{lookup-used}
use Rattle.name_store.proofs.ShowLaws.{shown, finds}
use Rattle.name_store.proofs.bench.Bench.get.Goals as goal

pub returns-in_err-entry : goal.returns-in_err-entry
returns-in_err-entry c =
    rw (← c.self.view_is, none-found _ _ c.self.inside.table.holds _ c.args.name.now (λ _. refl) (sym c.get.ensures.value ∙ ap option_copied c.in_err-entry.was), c.from_residual.ensures) tt

pub slot-slot-requires : goal.slot-slot-requires
slot-slot-requires c =
    let there = found-slot _ _ c.self.inside.table.holds _ c.args.name.now (λ _. refl) c.in_ok-entry.entry.now (sym c.get.ensures.value ∙ ap option_copied c.in_ok-entry.was) in
    ap is_some there.1

pub descr_in-requires : goal.descr_in-requires
descr_in-requires c =
    let was = sym c.get.ensures.value ∙ ap option_copied c.in_ok-entry.was in
    let lies = found-lies _ _ c.self.inside.table.holds _ c.args.name.now (λ _. refl) c.in_ok-entry.entry.now c.slot-slot.result.now was c.slot-slot.ensures in
    lies.laid.part

pub returns : goal.returns
returns c =
    let was = sym c.get.ensures.value ∙ ap option_copied c.in_ok-entry.was in
    let lies = found-lies _ _ c.self.inside.table.holds _ c.args.name.now (λ _. refl) c.in_ok-entry.entry.now c.slot-slot.result.now was c.slot-slot.ensures in
    rw (← c.self.view_is)
    (finds _ _ _ _ (bound-found _ _ c.self.inside.table.holds _ c.args.name.now (λ _. refl) c.in_ok-entry.entry.now was)
    (shown c.self.inside.table.names.entries c.self.inside.table.slots.cells.items c.in_ok-entry.entry.now c.slot-slot.result.now _ (lookup-used _ c.self.inside.table.names.entries c.in_ok-entry.entry.now was) c.slot-slot.ensures lies refl refl refl refl c.descr_in.ensures refl c.self.inside.history))

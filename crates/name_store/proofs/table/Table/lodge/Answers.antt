use Rattle.std.proofs.Common.{◌∙◌, ap, sym, subst, refl, true}
use Rattle.name_store.proofs.Words.{same_Some, item_size, present, MayBind, Bound, Entry, Slot, Lodges}
use Rattle.name_store.proofs.BindLaws.{fresh-lodges, view-lodges, tried-kept, holds-kept}
use Rattle.name_store.proofs.Needs.{there-used}
use Rattle.name_store.proofs.ViewLaws.{view-slot, view-occupied}
use Rattle.name_store.proofs.table.Table.lodge.Goals as goal

pub slot-requires : goal.slot-requires
slot-requires c =
    let may = subst (MayBind (present c.args.self.now.names.entries c.args.self.now.slots.cells.items)) c.in-View.is c.requires.may in
    view-occupied c.args.self.now.names.entries c.args.self.now.slots.cells.items _ _ _ _ may.0 may.1

pub share-requires-clause-there : goal.share-requires-clause-there
share-requires-clause-there c =
    let may = subst (MayBind (present c.args.self.now.names.entries c.args.self.now.slots.cells.items)) c.in-View.is c.requires.may in
    there-used _ (view-occupied c.args.self.now.names.entries c.args.self.now.slots.cells.items _ _ _ _ may.0 may.1)

pub returns-in-View-clause-lodges : goal.returns-in-View-clause-lodges
returns-in-View-clause-lodges c =
    let may = subst (MayBind (present c.args.self.now.names.entries c.args.self.now.slots.cells.items)) c.in-View.is c.requires.may in
    let there = view-slot c.args.self.now.names.entries c.args.self.now.slots.cells.items _ _ _ _ may.0 may.1 in
    let item = c.size-item.ensures.value ∙ ap (λ (x : Slot). item_size x.descr) (same_Some _ _ (sym c.slot.ensures ∙ there.1)) in
    let v : Entry = record { number = c.in-View.number; path = c.in-View.path; layout = c.in-View.layout; item = c.size-item.result; writable = c.in-View.writable } in
    subst (λ (b : Bound). Lodges c.args.self.now.names.entries c.args.self.now.slots.cells.items b v c.share.new.self.cells.items) (sym c.in-View.is)
    (view-lodges c.args.self.now.names.entries c.args.self.now.slots.cells.items _ _ _ _ may.0 may.1 v there.0 there.1 refl refl item refl refl c.share.new.self.cells.items c.share.ensures.stays c.share.ensures.users)

pub returns-in_ok-number-in-Fresh-clause-lodges : goal.returns-in_ok-number-in-Fresh-clause-lodges
returns-in_ok-number-in-Fresh-clause-lodges c =
    let v : Entry = record { number = c.in_ok-number-in-Fresh.number; path = c.whole.result; layout = c.in-Fresh.owned.layout; item = c.legal_size-item.result; writable = true } in
    subst (λ (b : Bound). Lodges c.args.self.now.names.entries c.args.self.now.slots.cells.items b v c.add.new.self.cells.items) (sym c.in-Fresh.is)
    (fresh-lodges c.args.self.now.names.entries c.args.self.now.slots.cells.items c.add.new.self.cells.items v _ c.in-Fresh.owned c.in_ok-number-in-Fresh.ensures.adds refl refl c.items.ensures.value refl refl c.legal_size-item.ensures.value c.whole.ensures refl)

pub invariant_of-self : goal.invariant_of-self
invariant_of-self c = record { holds = holds-kept c.args.self.now.names.entries c.args.self.now.slots.cells.items c.add.new.self.cells.items c.args.self.now.holds (tried-kept c.add.result c.args.self.now.slots.cells.items c.add.new.self.cells.items _ c.add.ensures.adds c.add.ensures.kept) }

pub invariant_of-self-in-View : goal.invariant_of-self-in-View
invariant_of-self-in-View c = record { holds = holds-kept c.args.self.now.names.entries c.args.self.now.slots.cells.items c.share.new.self.cells.items c.args.self.now.holds (λ q _. c.share.ensures.stays q) }

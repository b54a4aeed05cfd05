use Rattle.std.proofs.Common.{◌≡◌, ap, sym, ◌∙◌, refl, Option, Some, None, is_some, Bor}
use Rattle.name_store.proofs.Words.{option_copied, item_size}
use Rattle.name_store.proofs.StateLaws.{found-slot, found-lies, bound-found}
use Rattle.name_store.proofs.WriteLaws.{entry-bound}
use Rattle.name_store.proofs.table.Table.home.Goals as goal

copied : {T : Type 0} (o : Option (Bor T)) → is_some o ≡ is_some (option_copied o)
copied None = refl
copied (Some b) = refl

pub unwrap-entry-requires : goal.unwrap-entry-requires
unwrap-entry-requires c =
    copied c.get.result ∙ ap is_some c.get.ensures.value
    ∙ entry-bound c.args.self.now.names.entries c.args.self.now.slots.cells.items c.args.self.now.holds _ c.args.key.now (λ _. refl) c.requires

pub slot-slot-requires : goal.slot-slot-requires
slot-slot-requires c =
    let was = sym c.get.ensures.value ∙ ap option_copied c.unwrap-entry.ensures in
    let there = found-slot _ _ c.args.self.now.holds _ c.args.key.now (λ _. refl) c.unwrap-entry.result.now was in
    ap is_some there.1

pub descr_in-requires : goal.descr_in-requires
descr_in-requires c =
    let was = sym c.get.ensures.value ∙ ap option_copied c.unwrap-entry.ensures in
    let lies = found-lies _ _ c.args.self.now.holds _ c.args.key.now (λ _. refl) c.unwrap-entry.result.now c.slot-slot.result.now was c.slot-slot.ensures in
    lies.laid.part

pub returns : goal.returns
returns c =
    let was = sym c.get.ensures.value ∙ ap option_copied c.unwrap-entry.ensures in record {
      entry = c.unwrap-entry.result.now;
      slot = c.slot-slot.result.now;
      found = bound-found _ c.args.self.now.slots.cells.items c.args.self.now.holds _ c.args.key.now (λ _. refl) c.unwrap-entry.result.now was;
      number_is = refl;
      there = c.slot-slot.ensures;
      lies = found-lies _ _ c.args.self.now.holds _ c.args.key.now (λ _. refl) c.unwrap-entry.result.now c.slot-slot.result.now was c.slot-slot.ensures;
      width_is = c.size.ensures.value ∙ ap item_size c.descr_in.ensures;
    }

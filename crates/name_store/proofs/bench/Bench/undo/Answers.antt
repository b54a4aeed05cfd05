use Rattle.std.proofs.Common.{◌∙◌, ap, refl, sym, subst}
use Rattle.name_store.proofs.Words.{Ring, spare, IsSound, state_of, bench_value, Change}
use Rattle.name_store.proofs.UndoLaws.{undone-state, patches-pop, same-ring, with-last, none-kept}
use Rattle.name_store.proofs.bench.Bench.undo.Goals as goal

pub undo-requires : goal.undo-requires
undo-requires c =
    let ring-is = with-last c.self.inside.history c.pop.new.self c.in-Some.change (sym c.in-Some.is ∙ c.pop.ensures.value) c.pop.ensures.items in
    record { can = (c.pop.new.self, subst (λ (r : Ring Change). IsSound c.self.inside.table.names.entries c.self.inside.table.slots.cells.items r (spare c.self.inside.table.names)) ring-is c.self.invariant) }

pub invariant_of-self : goal.invariant_of-self
invariant_of-self c =
    let same = same-ring c.self.inside.history c.pop.new.self (sym c.in-None.is ∙ c.pop.ensures.value) c.pop.ensures.items in
    subst (λ (r : Ring Change). IsSound c.self.inside.table.names.entries c.self.inside.table.slots.cells.items r (spare c.self.inside.table.names)) (sym same) c.self.invariant

pub returns-in-None-clause-answers : goal.returns-in-None-clause-answers
returns-in-None-clause-answers c =
    let none = sym c.in-None.is ∙ c.pop.ensures.value in rw (← c.self.view_is) (
      none-kept c.self.inside.table.names.entries c.self.inside.table.slots.cells.items c.self.inside.history none,
      refl,
      ap (state_of c.self.inside.table.names.entries c.self.inside.table.slots.cells.items) (same-ring c.self.inside.history c.pop.new.self none c.pop.ensures.items),
    )

pub returns-in-Some-clause-answers : goal.returns-in-Some-clause-answers
returns-in-Some-clause-answers c =
    let ring-is = with-last c.self.inside.history c.pop.new.self c.in-Some.change (sym c.in-Some.is ∙ c.pop.ensures.value) c.pop.ensures.items in
    let sound = subst (λ (r : Ring Change). IsSound c.self.inside.table.names.entries c.self.inside.table.slots.cells.items r (spare c.self.inside.table.names)) ring-is c.self.invariant in
    rw (← c.self.view_is) (undone-state c.self.inside.table.names.entries c.undo.new.self.names.entries c.self.inside.table.slots.cells.items c.undo.new.self.slots.cells.items c.self.inside.history c.pop.new.self c.in-Some.change _
    (ap (λ (r : Ring Change). r.items) ring-is) (sym (ap (λ (r : Ring Change). r.capacity) ring-is)) (c.undo.ensures c.pop.new.self sound))

pub invariant_of-self-in-Some : goal.invariant_of-self-in-Some
invariant_of-self-in-Some c =
    let ring-is = with-last c.self.inside.history c.pop.new.self c.in-Some.change (sym c.in-Some.is ∙ c.pop.ensures.value) c.pop.ensures.items in
    (c.undo.ensures c.pop.new.self (subst (λ (r : Ring Change). IsSound c.self.inside.table.names.entries c.self.inside.table.slots.cells.items r (spare c.self.inside.table.names)) ring-is c.self.invariant)).sound

pub returns-in-None-clause-patches : goal.returns-in-None-clause-patches
returns-in-None-clause-patches c =
    rw (← c.self.view_is) (ap (bench_value c.self.inside.table.names.entries c.self.inside.table.slots.cells.items) (same-ring c.self.inside.history c.pop.new.self (sym c.in-None.is ∙ c.pop.ensures.value) c.pop.ensures.items))

pub returns-in-Some-clause-patches : goal.returns-in-Some-clause-patches
returns-in-Some-clause-patches c =
    rw (← c.self.view_is) (patches-pop c.self.inside.history c.pop.new.self c.in-Some.change (ap (λ (r : Ring Change). r.items) (with-last c.self.inside.history c.pop.new.self c.in-Some.change (sym c.in-Some.is ∙ c.pop.ensures.value) c.pop.ensures.items)))

use Rattle.std.proofs.Common.{sym, ◌∙◌, subst, arith, ℕ, List}
use Rattle.name_store.proofs.Words.{spare, Binds, IsSound, BenchValue, state_of, MayBind, Entry}
use Rattle.name_store.proofs.BindLaws.{may-present, bind-held, bind-kept}
use Rattle.name_store.proofs.KeepLaws.{patches-push}
use Rattle.name_store.proofs.Needs.{users-small}
use Rattle.name_store.proofs.UnbindLaws.{same-sound}
use Rattle.name_store.proofs.bench.Bench.bind.Goals as goal
use Rattle.name_store.proofs.bench.Bench.bind.Goals.{After-keep}

-- the invariant, and the new state
kept : (c : After-keep) → IsSound c.bind.new.self.names.entries c.keep.new.slots.cells.items c.keep.new.history (spare c.bind.new.self.names)
    × Binds (state_of c.make_room.new.names.entries c.self.inside.table.slots.cells.items c.self.inside.history) c.copy.result c.args.bound (state_of c.bind.new.self.names.entries c.keep.new.slots.cells.items c.keep.new.history)
kept c =
    bind-kept c.make_room.new.names.entries c.self.inside.table.slots.cells.items c.self.inside.history _ (same-sound c.self.inside.table.names.entries _ _ _ _ _ c.in_ok-make_room.ensures.entries c.in_ok-make_room.ensures.kept c.self.invariant) c.copy.result c.args.bound c.in_ok-earlier.earlier c.bind.new.self.names.entries c.bind.new.self.slots.cells.items
    c.in_ok-earlier.ensures.done c.bind.new.self.holds c.copy-key.result (c.copy-key.ensures ∙ sym c.copy.ensures)
    c.keep.new.history c.keep.new.slots.cells.items (spare c.bind.new.self.names) c.keep.ensures.history c.keep.ensures.freed c.keep.ensures.users (omega (arith, c.in_ok-make_room.ensures.room, c.in_ok-earlier.ensures.spare))

pub bind-requires-clause-few : goal.bind-requires-clause-few
bind-requires-clause-few c = users-small c.self.inside.table.names.entries c.self.inside.table.slots.cells.items c.self.inside.history _ c.self.invariant c.in_ok-make_room.ensures.small

pub bind-requires-clause-may : goal.bind-requires-clause-may
bind-requires-clause-may c =
    rw c.in_ok-make_room.ensures.entries
    (may-present c.self.inside.table.names.entries c.self.inside.table.slots.cells.items c.self.inside.history c.args.bound (subst (λ (v : BenchValue). MayBind v.state c.args.bound) (sym c.self.view_is) c.requires))

pub keep-requires-clause-held : goal.keep-requires-clause-held
keep-requires-clause-held c =
    bind-held c.make_room.new.names.entries c.self.inside.table.slots.cells.items c.self.inside.history _ (same-sound c.self.inside.table.names.entries _ _ _ _ _ c.in_ok-make_room.ensures.entries c.in_ok-make_room.ensures.kept c.self.invariant) c.copy.result c.args.bound c.in_ok-earlier.earlier c.bind.new.self.names.entries c.bind.new.self.slots.cells.items
    c.in_ok-earlier.ensures.done c.bind.new.self.holds c.copy-key.result (c.copy-key.ensures ∙ sym c.copy.ensures)

pub invariant_of-self-2 : goal.invariant_of-self-2
invariant_of-self-2 c = (kept (goal.at.invariant_of-self-2 c).After-keep).0

pub invariant_of-self-inside-2 : goal.invariant_of-self-inside-2
invariant_of-self-inside-2 c = record { holds = (kept (goal.at.invariant_of-self-inside-2 c).After-keep).0.holds }

pub returns-clause-answers : goal.returns-clause-answers
returns-clause-answers c = (
  sym c.has_room_for.ensures ∙ c.if-not-has_room_for.false,
  rw (← c.self.view_is, ← c.copy.ensures) (subst (λ (ns : List (List ℕ × Entry)). Binds (state_of ns c.self.inside.table.slots.cells.items c.self.inside.history) c.copy.result c.args.bound (state_of c.bind.new.self.names.entries c.keep.new.slots.cells.items c.keep.new.history)) c.in_ok-make_room.ensures.entries (kept (goal.at.returns-clause-answers c).After-keep).1),
)

pub returns-clause-patches : goal.returns-clause-patches
returns-clause-patches c = rw (← c.self.view_is) (patches-push c.self.inside.history c.keep.new.history _ c.keep.ensures.history)

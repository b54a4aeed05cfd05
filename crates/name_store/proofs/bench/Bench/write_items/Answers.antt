use Rattle.std.proofs.Common.{ℕ, ap, sym, ◌∙◌, refl, subst, arith, List, nat_lt}
use Rattle.name_store.proofs.Words.{false≢true, ltb-false, err_from_is_err_and, spare, IsSound, NeedsNoMemory, BenchValue, IsAim, state_of, bench_value, Entry, IsHome}
use Rattle.name_store.proofs.UnbindLaws.{same-sound}
use Rattle.name_store.proofs.WriteKept.{same-still, same-state, same-value, tried-sound, tried-lowest, put-can, none-can, needs-shallow, none-answers, wrote-sound, write-held, write-sound, write-answers, write-counts}
use Rattle.name_store.proofs.bench.Bench.write_items.Goals as goal
use Rattle.name_store.proofs.bench.Bench.write_items.Goals.{After-home-home, After-keep}

-- the array lies in its slot, and the target leads to it
aimed : (c : After-home-home) → IsHome c.self.inside.table.names.entries c.self.inside.table.slots.cells.items c.args.name.now c.home-home.result.number c.home-home.result.width × IsAim (state_of c.self.inside.table.names.entries c.self.inside.table.slots.cells.items c.self.inside.history) c.args.name.now c.args.target c.args.source
aimed c = (
  c.home-home.ensures,
  subst (λ (v : BenchValue). IsAim v.state c.args.name.now c.args.target c.args.source) (sym c.self.view_is) c.requires.aim,
)

kept : (c : After-keep) → IsSound c.make_room.new.names.entries c.keep.new.slots.cells.items c.keep.new.history (spare c.make_room.new.names)
kept c =
    let home = c.home-home.ensures in
    let aim = subst (λ (v : BenchValue). IsAim v.state c.args.name.now c.args.target c.args.source) (sym c.self.view_is) c.requires.aim in
    same-sound c.self.inside.table.names.entries c.make_room.new.names.entries c.keep.new.slots.cells.items c.keep.new.history (spare c.make_room.new.names) (spare c.make_room.new.names) c.in_ok-make_room.ensures.entries (omega arith)
    (write-sound c.self.inside.table.names.entries c.self.inside.table.slots.cells.items c.self.inside.history _ c.self.invariant c.args.name.now c.home-home.result.number c.home-home.result.width home c.args.target c.args.source aim c.write_items.new.cells.items c.in_ok-over.ensures.written.0 c.in-Some.over (rw c.in-Some.is at c.in_ok-over.ensures.old)
    c.keep.new.history c.keep.new.slots.cells.items (spare c.make_room.new.names) c.keep.ensures.history c.keep.ensures.freed c.keep.ensures.users (omega (arith, c.in_ok-make_room.ensures.room)))

pub write_items-requires : goal.write_items-requires
write_items-requires c =
    let h = aimed (goal.at.write_items-requires c).After-home-home in
    put-can c.self.inside.table.names.entries c.self.inside.table.slots.cells.items c.self.inside.history _ c.self.invariant c.args.name.now c.home-home.result.number c.home-home.result.width h.0 c.args.target c.args.source h.1

pub invariant_of-self-inside-2 : goal.invariant_of-self-inside-2
invariant_of-self-inside-2 c =
    let h = aimed (goal.at.invariant_of-self-inside-2 c).After-home-home in
    let s = tried-sound c.self.inside.table.names.entries c.self.inside.table.slots.cells.items c.self.inside.history _ c.self.invariant c.args.name.now c.home-home.result.number c.home-home.result.width h.0 c.args.target c.args.source h.1 c.write_items.new.cells.items c.write_items.result c.write_items.ensures.written in
    let t = same-sound c.self.inside.table.names.entries c.make_room.new.names.entries c.write_items.new.cells.items c.self.inside.history _ (spare c.make_room.new.names) c.in_ok-make_room.ensures.entries c.in_ok-make_room.ensures.kept s in (
      (tried-lowest c.self.inside.table.names.entries c.self.inside.table.slots.cells.items c.self.inside.history _ c.self.invariant c.args.name.now c.home-home.result.number c.home-home.result.width h.0 c.args.target c.args.source h.1 c.write_items.new.cells.items c.write_items.result c.write_items.ensures.written c.self.inside.table.slots.lowest c.self.inside.table.slots.taken, tt),
      (t.holds, tt),
    )

pub invariant_of-self-in_err-over : goal.invariant_of-self-in_err-over
invariant_of-self-in_err-over c =
    same-sound c.self.inside.table.names.entries c.make_room.new.names.entries c.write_items.new.cells.items c.self.inside.history _ (spare c.make_room.new.names) c.in_ok-make_room.ensures.entries c.in_ok-make_room.ensures.kept
    (same-still c.self.inside.table.names.entries c.self.inside.table.slots.cells.items c.write_items.new.cells.items c.self.inside.history _ c.in_err-over.ensures.written.1 c.self.invariant)

pub returns-in_err-over-clause-answers : goal.returns-in_err-over-clause-answers
returns-in_err-over-clause-answers c =
    let p = err_from_is_err_and c.from_residual-in_err-over.result c.from_residual-in_err-over.ensures.1 in
    rw (p.1, p.2, ← c.self.view_is) (
      ap (λ (ns : List (List ℕ × Entry)). state_of ns c.write_items.new.cells.items c.self.inside.history) c.in_ok-make_room.ensures.entries ∙ same-state c.self.inside.table.names.entries c.self.inside.table.slots.cells.items c.write_items.new.cells.items c.self.inside.history c.in_err-over.ensures.written.1,
      refl,
    )

pub returns-in_err-over-clause-patches : goal.returns-in_err-over-clause-patches
returns-in_err-over-clause-patches c = λ array found.
    let p = err_from_is_err_and c.from_residual-in_err-over.result c.from_residual-in_err-over.ensures.1 in
    rw (p.1, ← c.self.view_is) (ap (λ (ns : List (List ℕ × Entry)). bench_value ns c.write_items.new.cells.items c.self.inside.history) c.in_ok-make_room.ensures.entries
    ∙ same-value c.self.inside.table.names.entries c.self.inside.table.slots.cells.items c.write_items.new.cells.items c.self.inside.history c.in_err-over.ensures.written.1)

pub returns-in_err-over-clause-no_memory : goal.returns-in_err-over-clause-no_memory
returns-in_err-over-clause-no_memory c = λ needs.
    let h = aimed (goal.at.returns-in_err-over-clause-no_memory c).After-home-home in
    let none = subst (λ (v : BenchValue). NeedsNoMemory v.state c.args.name.now c.args.target c.args.source) (sym c.self.view_is) needs in
    let shallow = needs-shallow c.self.inside.table.names.entries c.self.inside.table.slots.cells.items c.self.inside.history c.args.name.now c.args.target c.args.source none in
    absurd (false≢true (c.in_err-over.ensures.no_memory (ap (nat_lt 0) (c.capacity-keeps.ensures.capacity ∙ shallow)) (none-can c.self.inside.table.names.entries c.self.inside.table.slots.cells.items c.self.inside.history _ c.self.invariant c.args.name.now c.home-home.result.number c.home-home.result.width h.0 c.args.target c.args.source h.1 none)))

pub keep-requires-clause-held : goal.keep-requires-clause-held
keep-requires-clause-held c =
    let h = aimed (goal.at.keep-requires-clause-held c).After-home-home in
    write-held c.self.inside.table.names.entries c.self.inside.table.slots.cells.items c.self.inside.history _ c.self.invariant c.args.name.now c.home-home.result.number c.home-home.result.width h.0 c.args.target c.args.source h.1 c.write_items.new.cells.items c.in_ok-over.ensures.written.0 c.in-Some.over (rw c.in-Some.is at c.in_ok-over.ensures.old)

pub invariant_of-self-inside-in-Some : goal.invariant_of-self-inside-in-Some
invariant_of-self-inside-in-Some c = record { holds = (kept (goal.at.invariant_of-self-inside-in-Some c).After-keep).holds }

pub invariant_of-self-in-Some : goal.invariant_of-self-in-Some
invariant_of-self-in-Some c = kept (goal.at.invariant_of-self-in-Some c).After-keep

pub returns-in-Some-clause-answers : goal.returns-in-Some-clause-answers
returns-in-Some-clause-answers c =
    let h = aimed (goal.at.returns-in-Some-clause-answers c).After-home-home in
    rw (← c.self.view_is, c.count-count.ensures, c.in_ok-make_room.ensures.entries) (write-answers c.self.inside.table.names.entries c.self.inside.table.slots.cells.items c.self.inside.history _ c.self.invariant c.args.name.now c.home-home.result.number c.home-home.result.width h.0 c.args.target c.args.source h.1 c.write_items.new.cells.items c.in_ok-over.ensures.written.0 c.in-Some.over (rw c.in-Some.is at c.in_ok-over.ensures.old)
    c.keep.new.history c.keep.new.slots.cells.items (spare c.make_room.new.names) c.keep.ensures.history c.keep.ensures.freed c.keep.ensures.users (omega (arith, c.in_ok-make_room.ensures.room)))

pub returns-in-Some-clause-patches : goal.returns-in-Some-clause-patches
returns-in-Some-clause-patches c =
    let h = aimed (goal.at.returns-in-Some-clause-patches c).After-home-home in
    rw (← c.self.view_is) (write-counts c.self.inside.table.names.entries c.self.inside.table.slots.cells.items c.self.inside.history _ c.self.invariant c.args.name.now c.home-home.result.number c.home-home.result.width h.0 c.args.target c.args.source h.1 c.write_items.new.cells.items c.in_ok-over.ensures.written.0 c.in-Some.over (rw c.in-Some.is at c.in_ok-over.ensures.old)
    c.keep.new.history c.keep.new.slots.cells.items (spare c.make_room.new.names) c.keep.ensures.history c.keep.ensures.freed c.keep.ensures.users (omega (arith, c.in_ok-make_room.ensures.room)))

pub invariant_of-self-in_default : goal.invariant_of-self-in_default
invariant_of-self-in_default c =
    let h = aimed (goal.at.invariant_of-self-in_default c).After-home-home in
    same-sound c.self.inside.table.names.entries c.make_room.new.names.entries c.write_items.new.cells.items c.self.inside.history _ (spare c.make_room.new.names) c.in_ok-make_room.ensures.entries c.in_ok-make_room.ensures.kept
    (wrote-sound c.self.inside.table.names.entries c.self.inside.table.slots.cells.items c.self.inside.history _ c.self.invariant c.args.name.now c.home-home.result.number c.home-home.result.width h.0 c.args.target c.args.source h.1 c.write_items.new.cells.items c.in_ok-over.ensures.written.0)

pub returns-in_default-clause-answers : goal.returns-in_default-clause-answers
returns-in_default-clause-answers c =
    let h = aimed (goal.at.returns-in_default-clause-answers c).After-home-home in
    let few = ltb-false 0 c.capacity-keeps.result (sym (rw c.in_default.is at c.in_ok-over.ensures.keeps)) in
    rw (← c.self.view_is, c.count-count.ensures, c.in_ok-make_room.ensures.entries) (none-answers c.self.inside.table.names.entries c.self.inside.table.slots.cells.items c.self.inside.history _ c.self.invariant c.args.name.now c.home-home.result.number c.home-home.result.width h.0 c.args.target c.args.source h.1 c.write_items.new.cells.items c.in_ok-over.ensures.written.0 (omega (arith, c.capacity-keeps.ensures.capacity, few)))

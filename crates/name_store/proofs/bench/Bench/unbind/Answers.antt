use Rattle.std.proofs.Common.{◌≡◌, ap, sym, subst, ◌∙◌, refl, arith, ℕ, List, inl, inr}
use Rattle.name_store.proofs.Words.{option_map, false≢true, err_from_is_err_and, spare, unbound, Holds, IsSound, state_of, bench_value, Entry}
use Rattle.name_store.proofs.KeepLaws.{patches-push}
use Rattle.name_store.proofs.UnbindLaws.{same-sound, removed-holds, unbind-held, unbind-kept, bound-has, deep, removed-one}
use Rattle.name_store.proofs.bench.Bench.unbind.Goals as goal
use Rattle.name_store.proofs.bench.Bench.unbind.Goals.{After-keep}

-- the invariant, and the new state
kept : (c : After-keep) → IsSound c.shift_remove_full.new.self.entries c.keep.new.slots.cells.items c.keep.new.history (spare c.shift_remove_full.new.self)
    × (state_of c.shift_remove_full.new.self.entries c.keep.new.slots.cells.items c.keep.new.history ≡ unbound (state_of c.make_room.new.names.entries c.self.inside.table.slots.cells.items c.self.inside.history) c.copy-key.result)
kept c =
    unbind-kept c.make_room.new.names.entries c.self.inside.table.slots.cells.items c.self.inside.history _ (same-sound c.self.inside.table.names.entries _ _ _ _ _ c.in_ok-make_room.ensures.entries c.in_ok-make_room.ensures.kept c.self.invariant) _ c.copy-key.result (λ _. refl) c.unwrap-place.result.2 c.unwrap-place.result.0
    (sym c.shift_remove_full.ensures.value ∙ ap (option_map (λ p. p.2)) c.unwrap-place.ensures)
    (sym (ap (option_map (λ p. p.0)) c.unwrap-place.ensures) ∙ c.shift_remove_full.ensures.index) c.shift_remove_full.new.self.entries c.shift_remove_full.ensures.entries
    c.shift_remove_full.ensures.updates.1 (removed-one _ _ c.unwrap-place.ensures c.shift_remove_full.ensures.len)
    c.keep.new.history c.keep.new.slots.cells.items _ c.keep.ensures.history c.keep.ensures.freed c.keep.ensures.users (omega (arith, c.in_ok-make_room.ensures.room, c.shift_remove_full.ensures.room.0))

pub returns-then-not-contains_key-clause-answers : goal.returns-then-not-contains_key-clause-answers
returns-then-not-contains_key-clause-answers c =
    rw (← c.self.view_is, ← c.copy-key.ensures) (refl, inl (bound-has _ c.copy-key.result (λ _. refl) c.self.inside.table.names.entries ∙ sym c.contains_key.ensures ∙ c.if-not-contains_key.true, refl))

pub returns-in_err-make_room-clause-answers : goal.returns-in_err-make_room-clause-answers
returns-in_err-make_room-clause-answers c =
    let p = err_from_is_err_and c.from_residual.result c.from_residual.ensures.1 in
    rw (p.1, p.2, ← c.self.view_is, ← c.copy-key.ensures) (
      ap (λ (ns : List (List ℕ × Entry)). state_of ns c.self.inside.table.slots.cells.items c.self.inside.history) c.in_err-make_room.ensures.entries,
      inr (
        bound-has _ c.copy-key.result (λ _. refl) c.self.inside.table.names.entries ∙ sym c.contains_key.ensures ∙ c.if-not-contains_key.false,
        refl,
        deep c.self.inside.history.capacity _ (λ none. false≢true (c.in_err-make_room.ensures.none none)),
      ),
    )

pub keep-requires-clause-held : goal.keep-requires-clause-held
keep-requires-clause-held c =
    unbind-held c.make_room.new.names.entries c.self.inside.table.slots.cells.items c.self.inside.history _ (same-sound c.self.inside.table.names.entries _ _ _ _ _ c.in_ok-make_room.ensures.entries c.in_ok-make_room.ensures.kept c.self.invariant) _ c.copy-key.result (λ _. refl) c.unwrap-place.result.2 c.unwrap-place.result.0
    (sym c.shift_remove_full.ensures.value ∙ ap (option_map (λ p. p.2)) c.unwrap-place.ensures)
    (sym (ap (option_map (λ p. p.0)) c.unwrap-place.ensures) ∙ c.shift_remove_full.ensures.index) c.shift_remove_full.new.self.entries c.shift_remove_full.ensures.entries
    c.shift_remove_full.ensures.updates.1 (removed-one _ _ c.unwrap-place.ensures c.shift_remove_full.ensures.len)

pub invariant_of-self-2 : goal.invariant_of-self-2
invariant_of-self-2 c = (kept (goal.at.invariant_of-self-2 c).After-keep).0

pub invariant_of-self-inside-3 : goal.invariant_of-self-inside-3
invariant_of-self-inside-3 c = record { holds = (kept (goal.at.invariant_of-self-inside-3 c).After-keep).0.holds }

pub invariant_of-self-inside-2 : goal.invariant_of-self-inside-2
invariant_of-self-inside-2 c =
    let h = subst (λ (ns : List (List ℕ × Entry)). Holds ns c.self.inside.table.slots.cells.items) (sym c.in_ok-make_room.ensures.entries) c.self.inside.table.holds in
    record { holds = removed-holds _ c.make_room.new.names.entries c.self.inside.table.slots.cells.items c.shift_remove_full.new.self.entries h c.shift_remove_full.ensures.entries (omega (arith, c.shift_remove_full.ensures.len)) }

pub returns-clause-answers : goal.returns-clause-answers
returns-clause-answers c =
    rw (← c.self.view_is, ← c.copy-key.ensures) (
      bound-has _ c.copy-key.result (λ _. refl) c.self.inside.table.names.entries ∙ sym c.contains_key.ensures ∙ c.if-not-contains_key.false,
      (kept (goal.at.returns-clause-answers c).After-keep).1 ∙ ap (λ (ns : List (List ℕ × Entry)). unbound (state_of ns c.self.inside.table.slots.cells.items c.self.inside.history) c.copy-key.result) c.in_ok-make_room.ensures.entries,
    )

pub returns-in_err-make_room-clause-patches : goal.returns-in_err-make_room-clause-patches
returns-in_err-make_room-clause-patches c =
    let p = err_from_is_err_and c.from_residual.result c.from_residual.ensures.1 in
    rw (p.1, ← c.self.view_is) (ap (λ (ns : List (List ℕ × Entry)). bench_value ns c.self.inside.table.slots.cells.items c.self.inside.history) c.in_err-make_room.ensures.entries)

pub returns-clause-patches : goal.returns-clause-patches
returns-clause-patches c = rw (← c.self.view_is) (patches-push c.self.inside.history c.keep.new.history _ c.keep.ensures.history)

-- Undoing a write.
use Rattle.std.proofs.Common.{◌≡◌, ◌<◌, ℕ, true, false, List, [], ◌∷◌, ◌++◌, length, refl, sym, ap, ◌∙◌, cond, Option, Some, None, is_some, nat_eq, arith}
use Rattle.name_store.proofs.Words.{AllByRecursion, option_map, eqb-true, buffer, Ring, IsSound, LiesAt, GoBackAt, users_at, with_old, target_offsets, slot_at, Change, Write, Entry, OldItems, Slot, Target, stand, HasNew, Undoes}
use Rattle.name_store.proofs.SlotLaws.{occupied-within}
use Rattle.name_store.proofs.NameLaws.{all-both}
use Rattle.name_store.proofs.PastLaws.{Restored, content_before, restored-shape, lies-shaped, Slots}
use Rattle.name_store.proofs.RewriteLaws.{new-users}
use Rattle.name_store.proofs.StateLaws.{freed-none}
use Rattle.name_store.proofs.UnbindLaws.{same-content}
use Rattle.name_store.proofs.UndoLaws.{undoes, popped}

-- Old items are written back.
module _ (es : List (List ℕ × Entry)) (slots : Slots) (ring : Ring Change) (spare : ℕ) (number : ℕ) (target : Target) (items : OldItems) (sound : IsSound es slots (buffer (ring.items ++ Write number target items ∷ []) ring.capacity) spare) where
  abbrev wrote : Change
  wrote = Write number target items

  abbrev back : Slot → List ℕ
  back old = with_old (target_offsets target) items old.block

  pub goes-back : GoBackAt target items (slot_at slots number)
  goes-back = (popped es slots ring wrote spare sound).2.1

  -- the slot that they go back to
  was : (old : Slot) × (slot_at slots number ≡ Some old)
  was = by (slot_at slots number) refl goes-back
    where
      by : (o : Option Slot) → slot_at slots number ≡ o → GoBackAt target items o → (old : Slot) × (slot_at slots number ≡ Some old)
      by None there nothing = absurd nothing
      by (Some old) there goes = (old, there)

  pub goes-some : is_some (slot_at slots number) ≡ true
  goes-some = ap is_some was.1

  pub goes-within : number < length slots
  goes-within = occupied-within slots number goes-some

  module _ (after : Slots) (done : (old : Slot) → slot_at slots number ≡ Some old → HasNew slots number old (back old) after) where
    restored : (q : ℕ) → Restored wrote q (slot_at slots q) (slot_at after q)
    restored q =
        let old : Slot = was.0 in
        let there : slot_at slots number ≡ Some old = was.1 in
        let h = done old there in
        elim (nat_eq q number) as (λ t. nat_eq q number ≡ t → slot_at after q ≡ cond t (Some h.new) (slot_at slots q) → Restored wrote q (slot_at slots q) (slot_at after q)) [
          | true ↦ λ same put.
              ap (option_map (content_before wrote q)) (ap (slot_at slots) (eqb-true q number same) ∙ there)
              ∙ ap (λ t. Some (old.descr, old.items, cond t (back old) old.block)) same
              ∙ (λ i. Some (sym h.rewritten.descr i, sym h.rewritten.items i, sym h.rewritten.block i))
              ∙ ap (option_map stand) (sym put)
          | false ↦ λ other put. same-content wrote q (slot_at slots q) (λ bytes. ap (λ t. cond t (with_old (target_offsets target) items bytes) bytes) other) ∙ ap (option_map stand) (sym put)
        ] refl (h.set q)

    lie : AllByRecursion (λ entry. LiesAt (slot_at after entry.1.number) entry.1) es
    lie = all-both (λ e. LiesAt (slot_at slots e.number) e) (λ e. LiesAt (slot_at slots e.number) e) (λ e. LiesAt (slot_at after e.number) e)
        (λ e there _. lies-shaped (slot_at after e.number) (slot_at slots e.number) e (sym (restored-shape wrote e.number (slot_at slots e.number) (slot_at after e.number) (restored e.number))) there) es sound.holds.lie sound.holds.lie

    users-same : (q : ℕ) → users_at after q ≡ users_at slots q
    users-same q = new-users slots number was.0 (back was.0) after was.1 (done was.0 was.1) q

    pub undo-write : Undoes es slots wrote es after ring spare
    undo-write = undoes es slots ring wrote spare sound es after after spare refl lie (λ q _. restored q) (freed-none after) (λ q. omega (arith, users-same q)) (omega arith)

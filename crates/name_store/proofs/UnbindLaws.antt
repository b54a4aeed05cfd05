-- Unbinding a name, and keeping the change.
use Rattle.std.proofs.Common.{◌≡◌, ◌+◌, ◌<◌, ◌≤◌, ℕ, zero, suc, Bool, true, false, List, [], ◌∷◌, ◌++◌, length, map, min, position, insert, refl, sym, ap, subst, ◌∙◌, cond, Option, Some, None, is_some, nat_lt, arith}
use Rattle.name_store.proofs.Words.{cond_some, length-keys_of, AllByRecursion, position_or_len, lookup, keys_of, option_map, ltb-true, length-map, buffer, keep_last, shift_remove_entry, Ring, find_array, is_in_use, without, unbound, Holds, IsSound, LiesAt, IsUndoable, users_at, users_in, found_at, pins, all_pins, Names, names_before, past_buffers, past_buffer, bytes_before, array_at, named_array, slot_at, state_of, present, Change, Unbind, Entry, Slot, stand, nat_cmp_total, retain_keys, get-retain_keys, same_map, nat_cmp-IsAntisymmetric}
use Rattle.name_store.proofs.NameLaws.{TestsName, find-lookup, without-remove, all-lookup, all-remove, insert-removed, used-back-without}
use Rattle.name_store.proofs.Needs.{is_needed, made-held, kept-counted, number_of, users-without}
use Rattle.name_store.proofs.PastLaws.{Restored, content_before, Slots}
use Rattle.name_store.proofs.SlotLaws.{get-past, get-buffers}
use Rattle.name_store.proofs.StateLaws.{Freed}
use Rattle.name_store.proofs.KeepLaws.{keep-sound, keep-state}

pub placed : (test : List ℕ → Bool) (keys : List (List ℕ)) (n : ℕ) → Some n ≡ position test keys → (n ≡ position_or_len test keys) × (n < length keys)
placed test keys n h =
    let p = cond_some (nat_lt (position_or_len test keys) (length keys)) (position_or_len test keys) n (sym h) in
    (sym p.1, omega (arith, p.1, ltb-true (position_or_len test keys) (length keys) p.0))

pub same-content : (c : Change) (q : ℕ) (o : Option Slot) → ((bytes : List ℕ) → bytes_before c q bytes ≡ bytes) → option_map (content_before c q) o ≡ option_map stand o
same-content c q None same = refl
same-content c q (Some s) same = ap (λ bytes. Some (s.descr, s.items, bytes)) (same s.block)

-- the buffers that names use are among those that more names use
pub fewer-buffers : (es : List (List ℕ × Entry)) (slots : Slots) (names : Names) → ((q : ℕ) → is_in_use names q ≡ true → is_in_use (map named_array es) q ≡ true) → past_buffers [] names slots ≡ retain_keys (present es slots).buffers (is_in_use names)
fewer-buffers es slots names fewer = same_map nat_cmp_total nat_cmp-IsAntisymmetric _ _ (λ q.
    get-past [] names slots q
    ∙ at q
    ∙ ap (λ o. cond (is_in_use names q) o None) (sym (get-buffers es slots q))
    ∙ sym (get-retain_keys (present es slots).buffers (is_in_use names) q (λ x e. ap (is_in_use names) (sym (nat_cmp-IsAntisymmetric q x e)))))
  where
    at : (q : ℕ) → cond (is_in_use names q) (option_map (past_buffer [] q) (slot_at slots q)) None ≡ cond (is_in_use names q) (cond (is_in_use (map named_array es) q) (option_map (past_buffer [] q) (slot_at slots q)) None) None
    at q =
        elim (is_in_use names q) as (λ t. is_in_use names q ≡ t → cond t (option_map (past_buffer [] q) (slot_at slots q)) None ≡ cond t (cond (is_in_use (map named_array es) q) (option_map (past_buffer [] q) (slot_at slots q)) None) None) [
          | true ↦ λ used. ap (λ t. cond t (option_map (past_buffer [] q) (slot_at slots q)) None) (sym (fewer q used))
          | false ↦ λ _. refl
        ] refl

pub removed-holds : (test : List ℕ → Bool) (es : List (List ℕ × Entry)) (slots : Slots) (es' : List (List ℕ × Entry)) → Holds es slots → es' ≡ shift_remove_entry test es → length es' ≤ length es → Holds es' slots
removed-holds test es slots es' h removed len = record {
  few = omega (arith, len, h.few);
  lie = subst (λ (ns : List (List ℕ × Entry)). AllByRecursion (λ entry. LiesAt (slot_at slots entry.1.number) entry.1) ns) (sym removed) (all-remove (λ x. LiesAt (slot_at slots x.number) x) test es h.lie);
}

module _ (es : List (List ℕ × Entry)) (slots : Slots) (ring : Ring Change) (spare : ℕ) (sound : IsSound es slots ring spare) (test : List ℕ → Bool) (key : List ℕ) (is : TestsName test key)
    (e : Entry) (place : ℕ) (was : lookup test es ≡ Some e) (at : Some place ≡ position test (keys_of es)) (es' : List (List ℕ × Entry)) (removed : es' ≡ shift_remove_entry test es) (gone : lookup test es' ≡ None) (len : length es' + 1 ≡ length es) where
  abbrev c : Change
  c = Unbind place key e

  abbrev names' : Names
  names' = map named_array es'

  spot : (place ≡ position_or_len test (keys_of es)) × (place < length (keys_of es))
  spot = placed test (keys_of es) place at

  before-is : names_before c names' ≡ map named_array es
  before-is = ap (λ (ns : List (List ℕ × Entry)). insert (map named_array ns) place (key, array_at e)) removed ∙ insert-removed test key is es e place was spot.0

  names-are : names' ≡ without (map named_array es) key
  names-are = ap (map named_array) removed ∙ without-remove test key is es

  holds : Holds es' slots
  holds = removed-holds test es slots es' sound.holds removed (omega (arith, len))

  restored : (q : ℕ) → is_needed (map named_array es) ring.items q ≡ true → Restored c q (slot_at slots q) (slot_at slots q)
  restored q needed = same-content c q (slot_at slots q) (λ bytes. refl)

  own : IsUndoable c names' slots
  own = (
    all-lookup (λ x. LiesAt (slot_at slots x.number) x) test es e sound.holds.lie was,
    omega (arith, spot.1, length-keys_of es, len, length-map es' named_array),
    find-lookup test key is es' ∙ ap (option_map array_at) gone,
  )

  found-is : find_array (map named_array es) key ≡ Some (array_at e)
  found-is = find-lookup test key is es ∙ ap (option_map array_at) was

  -- the change keeps the buffer that the name used
  made : (q : ℕ) → users_at slots q + users_in q (map named_array es) ≡ users_at slots q + users_in q names' + pins q c
  made q = omega (arith, users-without q (map named_array es) key, ap (λ o. found_at q (number_of o)) found-is, ap (users_in q) names-are)

  pub unbind-held : (q : ℕ) → all_pins q (ring.items ++ c ∷ []) ≤ users_at slots q
  unbind-held = made-held (map named_array es) names' ring.items c slots slots sound.counted made

  module _ (ring' : Ring Change) (after : Slots) (spare' : ℕ) (ring-is : ring' ≡ buffer (keep_last ring.capacity (ring.items ++ c ∷ [])) ring.capacity) (freed : Freed slots after)
      (kept : (q : ℕ) → users_at after q + all_pins q (ring.items ++ c ∷ []) ≡ users_at slots q + all_pins q ring'.items) (room : min ring.capacity (length ring.items + 1) ≤ spare') where
    counted : (q : ℕ) → users_at after q ≡ users_in q names' + all_pins q ring'.items
    counted = kept-counted (map named_array es) names' ring.items c slots slots sound.counted made ring'.items after kept

    state : state_of es' after ring' ≡ unbound (state_of es slots ring) key
    state =
        keep-state es slots ring spare sound es' slots c before-is holds restored own ring' after spare' ring-is freed counted room
        ∙ λ i. record (unbound (state_of es slots ring) key) { names = names-are i; buffers = (fewer-buffers es slots names' (λ q used. used-back-without (map named_array es) key q (ap (λ (ns : Names). is_in_use ns q) (sym names-are) ∙ used)) ∙ ap (λ (ns : Names). retain_keys (present es slots).buffers (is_in_use ns)) names-are) i }

    pub unbind-kept : IsSound es' after ring' spare' × (state_of es' after ring' ≡ unbound (state_of es slots ring) key)
    unbind-kept = (keep-sound es slots ring spare sound es' slots c before-is holds restored own ring' after spare' ring-is freed counted room, state)

-- the same table with more room
pub same-sound : (es es' : List (List ℕ × Entry)) (slots : Slots) (ring : Ring Change) (spare spare' : ℕ) → es' ≡ es → spare ≤ spare' → IsSound es slots ring spare → IsSound es' slots ring spare'
same-sound es es' slots ring spare spare' same more sound = subst (λ (ns : List (List ℕ × Entry)). IsSound ns slots ring spare') (sym same) (record { holds = sound.holds; counted = sound.counted; undoable = sound.undoable; short = sound.short; room = omega (arith, sound.room, more) })

-- a name is bound if and only if it has an entry
pub bound-has : (test : List ℕ → Bool) (name : List ℕ) → TestsName test name → (es : List (List ℕ × Entry)) → is_some (find_array (map named_array es) name) ≡ is_some (lookup test es)
bound-has test name is es = ap is_some (find-lookup test name is es) ∙ some-array (lookup test es)
  where
    some-array : (found : Option Entry) → is_some (option_map array_at found) ≡ is_some found
    some-array None = refl
    some-array (Some e) = refl

-- room is needed only if changes are kept
pub deep : (cap len : ℕ) → (min cap (len + 1) + 0 ≡ 0 → ⊥) → 1 ≤ cap
deep zero len lacks = absurd (lacks (omega arith))
deep (suc cap) len lacks = omega arith

pub removed-one : {X : Type 0} {o : Option X} {x : X} → (n m : ℕ) → o ≡ Some x → n + cond (is_some o) 1 0 ≡ m → n + 1 ≡ m
removed-one n m some len = ap (λ o. n + cond (is_some o) 1 0) (sym some) ∙ len

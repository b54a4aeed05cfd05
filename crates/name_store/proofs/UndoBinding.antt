-- Undoing a binding: the name is bound to its earlier array again, or unbound if it had none.
use Rattle.std.proofs.Common.{◌≡◌, ◌+◌, ◌≤◌, ℕ, List, [], ◌∷◌, ◌++◌, map, refl, sym, ap, subst, ◌∙◌, Option, Some, None, arith}
use Rattle.name_store.proofs.Words.{AllByRecursion, lookup, option_map, bytes_eq, buffer, insert_entry, shift_remove_entry, Ring, find_array, IsSound, IsUndoable, LiesAt, users_at, users_in, found_at, pins, Names, names_before, array_at, named_array, slot_at, Change, Bind, Entry, Undoes}
use Rattle.name_store.proofs.NameLaws.{TestsName, find-lookup, without-remove, put-insert, all-remove, all-insert}
use Rattle.name_store.proofs.Needs.{number_of, users-without, users-put}
use Rattle.name_store.proofs.StateLaws.{Freed}
use Rattle.name_store.proofs.UnbindLaws.{same-content}
use Rattle.name_store.proofs.UndoLaws.{undoes, popped}
use Rattle.name_store.proofs.PastLaws.{Slots}

-- the entries after a name is bound to its earlier entry, or unbound if it had none
abbrev pub rebound : List ℕ → Option Entry → List (List ℕ × Entry) → List (List ℕ × Entry)
rebound key None es = shift_remove_entry (bytes_eq key) es
rebound key (Some e) es = insert_entry bytes_eq es key e

module _ (es : List (List ℕ × Entry)) (key : List ℕ) where
  is : TestsName (bytes_eq key) key
  is k = refl

  abbrev names : Names
  names = map named_array es

  table : (earlier : Option Entry) → map named_array (rebound key earlier es) ≡ names_before (Bind key earlier) names
  table None = without-remove (bytes_eq key) key is es
  table (Some e) = put-insert bytes_eq key e is es

  users : (earlier : Option Entry) (q : ℕ) → users_in q (names_before (Bind key earlier) names) + found_at q (number_of (find_array names key)) ≡ users_in q names + pins q (Bind key earlier)
  users None q = omega (arith, users-without q names key)
  users (Some e) q = users-put q names key (array_at e)

  module _ (slots : Slots) where
    abbrev Lie : List (List ℕ × Entry) → Type 0
    Lie = AllByRecursion (λ entry. LiesAt (slot_at slots entry.1.number) entry.1)

    lie : (earlier : Option Entry) → IsUndoable (Bind key earlier) names slots → Lie es → Lie (rebound key earlier es)
    lie None can all = all-remove (λ x. LiesAt (slot_at slots x.number) x) (bytes_eq key) es all
    lie (Some e) can all = all-insert (λ x. LiesAt (slot_at slots x.number) x) bytes_eq key e es can all

    pub undo-binding : (ring : Ring Change) (spare : ℕ) (earlier : Option Entry) → IsSound es slots (buffer (ring.items ++ Bind key earlier ∷ []) ring.capacity) spare → (es' : List (List ℕ × Entry)) → es' ≡ rebound key earlier es → (spare' : ℕ) → spare ≤ spare' + 1 →
        (was : Option Entry) → was ≡ lookup (bytes_eq key) es → (after : Slots) → Freed slots after → ((q : ℕ) → users_at after q + found_at q (number_of (option_map array_at was)) ≡ users_at slots q) → Undoes es slots (Bind key earlier) es' after ring spare'
    undo-binding ring spare earlier sound es' is-rebound spare' room was was-is after freed fewer =
        undoes es slots ring (Bind key earlier) spare sound es' slots after spare' (ap (map named_array) is-rebound ∙ table earlier)
        (subst Lie (sym is-rebound) (lie earlier (popped es slots ring (Bind key earlier) spare sound).2 sound.holds.lie)) (λ q needed. same-content (Bind key earlier) q (slot_at slots q) (λ bytes. refl)) freed
        (λ q. omega (arith, fewer q, users earlier q, ap (users_in q) (ap (map named_array) is-rebound ∙ table earlier), ap (λ o. found_at q (number_of o)) (find-lookup (bytes_eq key) key is es ∙ ap (option_map array_at) (sym was-is)))) room

-- Undoing an unbinding.
use Rattle.std.proofs.Common.{◌≡◌, ◌+◌, ◌≤◌, ℕ, zero, suc, Bool, true, false, List, [], ◌∷◌, ◌++◌, length, map, insert, refl, sym, ap, subst, ◌∙◌, cond, not, Option, Some, None, arith}
use Rattle.name_store.proofs.Words.{AllByRecursion, position_or_len, lookup, keys_of, option_map, length-map, buffer, insert_entry, move_index, Ring, push_moved, IsSound, LiesAt, users_in, Names, array_at, named_array, slot_at, Change, Unbind, Entry, Undoes}
use Rattle.name_store.proofs.NameLaws.{TestsName, find-lookup}
use Rattle.name_store.proofs.Needs.{users-insert}
use Rattle.name_store.proofs.StateLaws.{freed-none}
use Rattle.name_store.proofs.UnbindLaws.{same-content}
use Rattle.name_store.proofs.UndoLaws.{undoes, popped}
use Rattle.name_store.proofs.PastLaws.{Slots}

-- An entry that is inserted between others.

none-map : (o : Option Entry) → option_map array_at o ≡ None → o ≡ None
none-map None h = refl
none-map (Some e) h = let no : ⊥ = cc in absurd no

last-entry : (eq : List ℕ → List ℕ → Bool) (k : List ℕ) (v : Entry) (es : List (List ℕ × Entry)) → lookup (eq k) es ≡ None → (insert_entry eq es k v ≡ es ++ (k, v) ∷ []) × (position_or_len (eq k) (keys_of es) ≡ length es)
last-entry eq k v [] none = (refl, refl)
last-entry eq k v (e ∷ es) none =
    elim (eq k e.0) as (λ t. cond t (Some e.1) (lookup (eq k) es) ≡ None → (cond t ((e.0, v) ∷ es) (e ∷ insert_entry eq es k v) ≡ e ∷ (es ++ (k, v) ∷ [])) × (cond (not t) (1 + position_or_len (eq k) (keys_of es)) 0 ≡ suc (length es))) [
      | true ↦ λ h. let no : ⊥ = cc in absurd no
      | false ↦ λ h. let rest = last-entry eq k v es h in (ap (λ ns. e ∷ ns) rest.0, omega (arith, rest.1))
    ] none

named-insert : (es : List (List ℕ × Entry)) (n : ℕ) (x : List ℕ × Entry) → map named_array (insert es n x) ≡ insert (map named_array es) n (named_array x)
named-insert es zero x = refl
named-insert [] (suc n) x = refl
named-insert (e ∷ es) (suc n) x = ap (λ ns. named_array e ∷ ns) (named-insert es n x)

all-between : (P : Entry → Type 0) (es : List (List ℕ × Entry)) (n : ℕ) (x : List ℕ × Entry) → P x.1 → AllByRecursion (λ e. P e.1) es → AllByRecursion (λ e. P e.1) (insert es n x)
all-between P es zero x new all = (new, all)
all-between P [] (suc n) x new all = (new, tt)
all-between P (e ∷ es) (suc n) x new all = (all.0, all-between P es n x new all.1)

-- A name that was unbound is bound again.
module _ (es : List (List ℕ × Entry)) (slots : Slots) (ring : Ring Change) (spare : ℕ) (place : ℕ) (key : List ℕ) (entry : Entry) (sound : IsSound es slots (buffer (ring.items ++ Unbind place key entry ∷ []) ring.capacity) spare)
    (test : List ℕ → Bool) (is : TestsName test key) where
  abbrev unbind : Change
  unbind = Unbind place key entry

  abbrev names : Names
  names = map named_array es

  pub unbind-absent : lookup test es ≡ None
  unbind-absent = none-map (lookup test es) (sym (find-lookup test key is es) ∙ (popped es slots ring unbind spare sound).2.2)

  pub unbind-within : place ≤ length es
  unbind-within = omega (arith, (popped es slots ring unbind spare sound).2.1, length-map es named_array)

  module _ (eq : List ℕ → List ℕ → Bool) (alike : eq key ≡ test) (es' : List (List ℕ × Entry)) (moved : es' ≡ move_index (insert_entry eq es key entry) (position_or_len (eq key) (keys_of es)) place) (spare' : ℕ) (room : spare ≤ spare' + 1) where
    abbrev names' : Names
    names' = map named_array es'

    inserted : es' ≡ insert es place (key, entry)
    inserted =
        let last = last-entry eq key entry es (ap (λ t. lookup t es) alike ∙ unbind-absent) in
        moved ∙ (λ i. move_index (last.0 i) (last.1 i) place) ∙ push_moved es (key, entry) place unbind-within

    table : names' ≡ insert names place (key, array_at entry)
    table = ap (map named_array) inserted ∙ named-insert es place (key, entry)

    lie : AllByRecursion (λ x. LiesAt (slot_at slots x.1.number) x.1) es'
    lie = subst (λ (ns : List (List ℕ × Entry)). AllByRecursion (λ x. LiesAt (slot_at slots x.1.number) x.1) ns) (sym inserted)
        (all-between (λ x. LiesAt (slot_at slots x.number) x) es place (key, entry) (popped es slots ring unbind spare sound).2.0 sound.holds.lie)

    pub undo-unbinding : Undoes es slots unbind es' slots ring spare'
    undo-unbinding =
        undoes es slots ring unbind spare sound es' slots slots spare' table lie (λ q _. same-content unbind q (slot_at slots q) (λ bytes. refl)) (freed-none slots)
        (λ q. omega (arith, users-insert q names place (key, array_at entry), ap (users_in q) table)) room

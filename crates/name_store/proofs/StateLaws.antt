-- Names and slots after buffers are freed.
use Rattle.std.proofs.Common.{◌≡◌, ◌+◌, ◌≤◌, ℕ, Bool, true, List, length, map, refl, sym, ap, subst, ◌∙◌, cond, ◌||◌, Option, Some, None, is_some, nat_lt, arith}
use Rattle.name_store.proofs.Words.{lookup, option_map, ltb-true, length-map, find_array, has_room_for, Holds, LiesAt, LiesIn, users_at, users_in, all_pins, Names, array_at, named_array, slot_at, present, Change, Entry, Slot, stand}
use Rattle.name_store.proofs.NameLaws.{TestsName, find-lookup, all-lookup}
use Rattle.name_store.proofs.Needs.{is_needed, needed-count, there-used}
use Rattle.name_store.proofs.HeldLaws.{held-stand}
use Rattle.name_store.proofs.PastLaws.{Slots}

-- the slots that are needed have the same contents as before, and the others are empty
abbrev pub Swept : (ℕ → Bool) → Slots → Slots → Type 0
Swept needed before after = (q : ℕ) → option_map stand (slot_at after q) ≡ cond (needed q) (option_map stand (slot_at before q)) None

-- the slots with users have the same contents as before, and the others are empty
abbrev pub Freed : Slots → Slots → Type 0
Freed before after = Swept (λ q. nat_lt 0 (users_at after q)) before after

-- if no slot changes, nothing is freed
pub freed-none : (slots : Slots) → Freed slots slots
freed-none slots q = held-stand (slot_at slots q)

-- the buffers with users are those that are needed
pub freed-swept : (names : Names) (cs : List Change) (before after : Slots) → ((q : ℕ) → users_at after q ≡ users_in q names + all_pins q cs) → Freed before after → Swept (is_needed names cs) before after
freed-swept names cs before after counted freed q = freed q ∙ ap (λ t. cond t (option_map stand (slot_at before q)) None) (ap (nat_lt 0) (counted q) ∙ needed-count names cs q)

pub lies-there : (o : Option Slot) (e : Entry) → LiesAt o e → is_some o ≡ true
lies-there None e nothing = absurd nothing
lies-there (Some s) e lies = refl

-- the number of names after one is added
pub few-bound : (es : List (List ℕ × Entry)) (slots : Slots) (test : List ℕ → Bool) (name : List ℕ) → TestsName test name → has_room_for (present es slots) name ≡ true → lookup test es ≡ None → length es + 1 ≤ 1024
few-bound es slots test name is room none =
    let unbound : find_array (map named_array es) name ≡ None = find-lookup test name is es ∙ ap (option_map array_at) none in
    let less : nat_lt (length (map named_array es)) 1024 ≡ true = sym (ap (λ o. is_some o || nat_lt (length (map named_array es)) 1024) unbound) ∙ room in
    omega (arith, ltb-true (length (map named_array es)) 1024 less, length-map es named_array)

-- An entry that is found.
module _ (es : List (List ℕ × Entry)) (slots : Slots) (h : Holds es slots) (test : List ℕ → Bool) (name : List ℕ) (is : TestsName test name) where
  -- the slot of a name that is found
  pub found-slot : (e : Entry) → lookup test es ≡ Some e → (s : Slot) × (slot_at slots e.number ≡ Some s) × LiesIn s e
  found-slot e was = occupied (slot_at slots e.number) refl (all-lookup (λ x. LiesAt (slot_at slots x.number) x) test es e h.lie was)
    where
      occupied : (there : Option Slot) → slot_at slots e.number ≡ there → LiesAt there e → (s : Slot) × (slot_at slots e.number ≡ Some s) × LiesIn s e
      occupied None is-there nothing = absurd nothing
      occupied (Some s) is-there lies = (s, is-there, lies)

  pub found-held : (e : Entry) → lookup test es ≡ Some e → 1 ≤ users_at slots e.number
  found-held e was = there-used (slot_at slots e.number) (ap is_some (found-slot e was).1)

  pub found-lies : (e : Entry) (s : Slot) → lookup test es ≡ Some e → slot_at slots e.number ≡ Some s → LiesIn s e
  found-lies e s was there = subst (λ o. LiesAt o e) there (all-lookup (λ x. LiesAt (slot_at slots x.number) x) test es e h.lie was)

  pub bound-found : (e : Entry) → lookup test es ≡ Some e → find_array (map named_array es) name ≡ Some (array_at e)
  bound-found e was = find-lookup test name is es ∙ ap (option_map array_at) was

  pub none-found : lookup test es ≡ None → find_array (map named_array es) name ≡ None
  none-found none = find-lookup test name is es ∙ ap (option_map array_at) none

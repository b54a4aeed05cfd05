-- Keeping a change.
use Rattle.std.proofs.Common.{◌≡◌, ◌+◌, ◌-◌, ◌≤◌, ℕ, true, false, List, [], ◌∷◌, ◌++◌, length, drop, map, min, refl, sym, ap, subst, ◌∙◌, cond, Some, None, nat_lt, slice_get, arith, length-drop, length-append}
use Rattle.name_store.proofs.Words.{or_left, list_any, option_map, ltb-false, length-map, map-append, drop-map, buffer, keep_last, Ring, is_in_use, keeping, Holds, IsSound, LiesAt, IsUndoable, AreUndoable, one_at, users_at, users_in, held_number, found_at, all_pins, Names, names_before, past_buffers, kept_states, patch_size, named_array, slot_at, state_of, Change, Entry, stand}
use Rattle.name_store.proofs.NameLaws.{all-both, all-in_use}
use Rattle.name_store.proofs.Needs.{needs, is_needed}
use Rattle.name_store.proofs.PastLaws.{Alike, alike-shape, past-alike, lies-shaped, Restored, restored-shape, same-buffers, kept-push, kept-free, kept-drop, kept-length, undoable-push, undoable-drop, undoable-still, Slots}
use Rattle.name_store.proofs.StateLaws.{Freed, freed-swept}

-- The change that is forgotten is the first.

pub gone-first : (cap : ℕ) (xs : List Change) (c gone : Change) → length xs ≤ cap → Some gone ≡ cond (nat_lt (length xs) cap) None (slice_get (xs ++ c ∷ []) 0) → gone ∷ keep_last cap (xs ++ c ∷ []) ≡ xs ++ c ∷ []
gone-first cap xs c gone short is =
    elim (nat_lt (length xs) cap) as (λ t. nat_lt (length xs) cap ≡ t → Some gone ≡ cond t None (slice_get (xs ++ c ∷ []) 0) → gone ∷ keep_last cap (xs ++ c ∷ []) ≡ xs ++ c ∷ []) [
      | true ↦ λ _ no-one. let no : ⊥ = cc in absurd no
      | false ↦ λ full first.
          let one : length (xs ++ c ∷ []) - cap ≡ 1 = omega (arith, short, ltb-false (length xs) cap full, length-append xs (c ∷ [])) in
          ap (λ n. gone ∷ drop n (xs ++ c ∷ [])) one ∙ front xs first
    ] refl is
  where
    front : (xs : List Change) → Some gone ≡ slice_get (xs ++ c ∷ []) 0 → gone ∷ drop 1 (xs ++ c ∷ []) ≡ xs ++ c ∷ []
    front [] first = let same : gone ≡ c = cc in ap (λ x. x ∷ []) same
    front (x ∷ xs) first = let same : gone ≡ x = cc in ap (λ y. y ∷ xs ++ c ∷ []) same

-- The oldest change is forgotten, and its buffer loses a user.
module _ (ring ring' : Ring Change) (c gone : Change) (short : length ring.items ≤ ring.capacity) (is : Some gone ≡ cond (nat_lt (length ring.items) ring.capacity) None (slice_get (ring.items ++ c ∷ []) 0))
    (ring-is : ring' ≡ buffer (keep_last ring.capacity (ring.items ++ c ∷ [])) ring.capacity) where
  pub first-pins : (q : ℕ) → found_at q (held_number gone) + all_pins q ring'.items ≡ all_pins q (ring.items ++ c ∷ [])
  first-pins q = ap (all_pins q) (ap (λ (r : Ring Change). gone ∷ r.items) ring-is ∙ gone-first ring.capacity ring.items c gone short is)

  pub gone-users : (slots after : Slots) (n : ℕ) → held_number gone ≡ Some n → ((q : ℕ) → users_at after q + one_at q n ≡ users_at slots q) → (q : ℕ) → users_at after q + all_pins q (ring.items ++ c ∷ []) ≡ users_at slots q + all_pins q ring'.items
  gone-users slots after n keeps fewer q = omega (arith, fewer q, first-pins q, ap (found_at q) keeps)

  pub gone-same : (slots : Slots) → held_number gone ≡ None → (q : ℕ) → users_at slots q + all_pins q (ring.items ++ c ∷ []) ≡ users_at slots q + all_pins q ring'.items
  gone-same slots keeps q = omega (arith, first-pins q, ap (found_at q) keeps)

-- the number of bytes that are kept to undo each kept change
pub patches-push : (ring ring' : Ring Change) (c : Change) → ring' ≡ buffer (keep_last ring.capacity (ring.items ++ c ∷ [])) ring.capacity → map patch_size ring'.items ≡ keep_last ring.capacity (map patch_size ring.items ++ patch_size c ∷ [])
patches-push ring ring' c ring-is =
    let all = ring.items ++ c ∷ [] in
    ap (λ (r : Ring Change). map patch_size r.items) ring-is
    ∙ sym (drop-map patch_size (length all - ring.capacity) all)
    ∙ ap (λ k. drop (k - ring.capacity) (map patch_size all)) (sym (length-map all patch_size))
    ∙ ap (keep_last ring.capacity) (map-append patch_size ring.items (c ∷ []))

-- A change was made to the names and slots.
module _ (es : List (List ℕ × Entry)) (slots : Slots) (ring : Ring Change) (spare : ℕ) (sound : IsSound es slots ring spare) (es' : List (List ℕ × Entry)) (now : Slots) (c : Change)
    (before-is : names_before c (map named_array es') ≡ map named_array es) (holds : Holds es' now) (restored : (q : ℕ) → is_needed (map named_array es) ring.items q ≡ true → Restored c q (slot_at now q) (slot_at slots q))
    (own : IsUndoable c (map named_array es') now) where
  abbrev names : Names
  names = map named_array es

  abbrev names' : Names
  names' = map named_array es'

  abbrev all : List Change
  all = ring.items ++ c ∷ []

  all-undoable : AreUndoable all names' now
  all-undoable = undoable-push ring.items c names' now
      (subst (λ (ns : Names). AreUndoable ring.items ns now) (sym before-is)
      (undoable-still ring.items names now slots (λ q needed. restored-shape c q (slot_at now q) (slot_at slots q) (restored q needed)) sound.undoable))
      (omega (arith, ap length before-is, length-map es named_array, sound.holds.few)) own

  module _ (ring' : Ring Change) (after : Slots) (spare' : ℕ) (ring-is : ring' ≡ buffer (keep_last ring.capacity all) ring.capacity) (freed : Freed now after) (counted : (q : ℕ) → users_at after q ≡ users_in q names' + all_pins q ring'.items) (room : min ring.capacity (length ring.items + 1) ≤ spare') where
    abbrev n : ℕ
    n = length all - ring.capacity

    items-are : ring'.items ≡ drop n all
    items-are = ap (λ (r : Ring Change). r.items) ring-is

    capacity-is : ring'.capacity ≡ ring.capacity
    capacity-is = ap (λ (r : Ring Change). r.capacity) ring-is

    stays : (q : ℕ) → is_needed names' ring'.items q ≡ true → Alike (slot_at after q) (slot_at now q)
    stays q needed = freed-swept names' ring'.items now after counted freed q ∙ ap (λ t. cond t (option_map stand (slot_at now q)) None) needed

    kept-few : length (drop n all) ≡ min ring.capacity (length ring.items + 1)
    kept-few = omega (arith, length-drop n all, length-append ring.items (c ∷ []), sound.short)

    pub keep-sound : IsSound es' after ring' spare'
    keep-sound = record {
      holds = record {
        few = holds.few;
        lie = all-both (λ e. LiesAt (slot_at now e.number) e) (λ e. is_in_use names' e.number ≡ true) (λ e. LiesAt (slot_at after e.number) e)
            (λ e here used. lies-shaped (slot_at after e.number) (slot_at now e.number) e (alike-shape (slot_at after e.number) (slot_at now e.number) (stays e.number (or_left (is_in_use names' e.number) (list_any (needs e.number) ring'.items) used))) here) es' holds.lie (all-in_use es');
      };
      counted = counted;
      undoable = undoable-still ring'.items names' after now (λ q needed. alike-shape (slot_at after q) (slot_at now q) (stays q needed)) (subst (λ (cs : List Change). AreUndoable cs names' now) (sym items-are) (undoable-drop n all names' now all-undoable));
      short = omega (arith, ap length items-are, capacity-is, length-drop n all);
      room = omega (arith, ap length items-are, kept-few, room);
    }

    kept-now : kept_states all names' now ≡ kept_states ring.items names slots ++ (names, past_buffers [] names slots) ∷ []
    kept-now =
        kept-push ring.items c names' now slots (λ q needed. restored q (subst (λ (ns : Names). is_needed ns ring.items q ≡ true) before-is needed))
        ∙ λ i. kept_states ring.items (before-is i) slots ++ (before-is i, past_buffers [] (before-is i) slots) ∷ []

    kept-is : kept_states ring'.items names' after ≡ keep_last ring.capacity (kept_states ring.items names slots ++ (names, past_buffers [] names slots) ∷ [])
    kept-is =
        kept-free ring'.items names' after now stays
        ∙ ap (λ (cs : List Change). kept_states cs names' now) items-are
        ∙ kept-drop n all names' now
        ∙ ap (λ k. drop (k - ring.capacity) (kept_states all names' now)) (sym (kept-length all names' now))
        ∙ ap (keep_last ring.capacity) kept-now

    buffers-are : past_buffers [] names' after ≡ past_buffers [] names' now
    buffers-are = same-buffers [] [] names' after now (λ q used. past-alike [] q (slot_at after q) (slot_at now q) (stays q (or_left (is_in_use names' q) (list_any (needs q) ring'.items) used)))

    -- the state before the change is kept, and names and buffers are the new ones
    pub keep-state : state_of es' after ring' ≡ record (keeping (state_of es slots ring)) { names = names'; buffers = past_buffers [] names' now }
    keep-state = λ i. record { names = names'; buffers = buffers-are i; depth = capacity-is i; kept = kept-is i }

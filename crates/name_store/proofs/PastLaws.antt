-- The kept states after a change is kept, undone or forgotten.
use Rattle.std.proofs.Common.{◌≡◌, ◌+◌, ◌*◌, ◌≤◌, ℕ, zero, suc, Bool, true, false, List, [], ◌∷◌, ◌++◌, length, drop, refl, sym, ap, subst, ◌∙◌, cond, ◌||◌, Option, Some, None, All, ◌⊎◌, inl, inr}
use Rattle.name_store.proofs.Words.{same_Some, none-some, or_cases, or_left, or_right, AllByRecursion, list_any, option_map, nat_cmp_total, get, same_map, nat_cmp-IsAntisymmetric, eqb-true, Descr, items_in, item_size, Buffer, put_array, is_in_use, LiesAt, GoBackAt, IsUndoable, AreUndoable, Names, names_before, bytes_before, past_names, past_bytes, past_buffer, past_buffers, kept_states, target_offsets, array_at, slot_at, Change, Bind, Unbind, Write, Entry, OldItems, Slot, Target, stand}
use Rattle.name_store.proofs.LaidLaws.{laid-same}
use Rattle.name_store.proofs.NameLaws.{used-back-put, used-back-without, used-back-insert, used-put, used-insert, nat_itself}
use Rattle.name_store.proofs.Needs.{needs, is_needed}
use Rattle.name_store.proofs.SlotLaws.{get-past}

abbrev pub Slots : Type 0
Slots = List (Option Slot)

-- Buffers that are needed

-- a buffer in use before a change is in use after it, or the change needs it
pub used-before : (c : Change) (names : Names) (q : ℕ) → is_in_use (names_before c names) q ≡ true → (is_in_use names q ≡ true) ⊎ (needs q c ≡ true)
used-before (Bind key None) names q used = inl (used-back-without names key q used)
used-before (Bind key (Some e)) names q used = used-back-put names key (array_at e) q used
used-before (Unbind place key e) names q used = used-back-insert names place (key, array_at e) q used
used-before (Write number target items) names q used = inl used

pub needed-more : (names : Names) (c : Change) (cs : List Change) (q : ℕ) → is_needed names cs q ≡ true → is_needed names (c ∷ cs) q ≡ true
needed-more names c cs q h =
    elim (or_cases (is_in_use names q) (list_any (needs q) cs) h) [
      | inl used ↦ or_left (is_in_use names q) (needs q c || list_any (needs q) cs) used
      | inr needed ↦ or_right (is_in_use names q) (needs q c || list_any (needs q) cs) (or_right (needs q c) (list_any (needs q) cs) needed)
    ]

pub needed-first : (names : Names) (c : Change) (cs : List Change) (q : ℕ) → needs q c ≡ true → is_needed names (c ∷ cs) q ≡ true
needed-first names c cs q h = or_right (is_in_use names q) (needs q c || list_any (needs q) cs) (or_left (needs q c) (list_any (needs q) cs) h)

pub needed-past : (cs : List Change) (names : Names) (q : ℕ) → is_in_use (past_names cs names) q ≡ true → is_needed names cs q ≡ true
needed-past [] names q used = or_left (is_in_use names q) false used
needed-past (c ∷ cs) names q used =
    elim (used-before c (past_names cs names) q used) [
      | inl later ↦ needed-more names c cs q (needed-past cs names q later)
      | inr own ↦ needed-first names c cs q own
    ]

-- Going back

pub past_names-push : (cs : List Change) (c : Change) (names : Names) → past_names (cs ++ c ∷ []) names ≡ past_names cs (names_before c names)
past_names-push [] c names = refl
past_names-push (d ∷ cs) c names = ap (names_before d) (past_names-push cs c names)

pub past_bytes-push : (cs : List Change) (c : Change) (q : ℕ) (bytes : List ℕ) → past_bytes (cs ++ c ∷ []) q bytes ≡ past_bytes cs q (bytes_before c q bytes)
past_bytes-push [] c q bytes = refl
past_bytes-push (d ∷ cs) c q bytes = ap (bytes_before d q) (past_bytes-push cs c q bytes)

abbrev pub content_before : Change → ℕ → Slot → Descr × ℕ × List ℕ
content_before c q s = (s.descr, s.items, bytes_before c q s.block)

-- two slots have the same contents, or both are empty
abbrev pub Alike : Option Slot → Option Slot → Type 0
Alike now before = option_map stand now ≡ option_map stand before

-- once the change is undone, a slot has the same contents as before
abbrev pub Restored : Change → ℕ → Option Slot → Option Slot → Type 0
Restored c q now before = option_map (content_before c q) now ≡ option_map stand before

-- what is told by the contents of slots is the same if the contents are
told : {X Y : Type 0} (f g : Slot → X) (h h' : Slot → Y) (tell : X → Y) → ((s : Slot) → h s ≡ tell (f s)) → ((s : Slot) → tell (g s) ≡ h' s) → (now before : Option Slot) → option_map f now ≡ option_map g before → option_map h now ≡ option_map h' before
told f g h h' tell first last now before same = one now ∙ ap (option_map tell) same ∙ other before
  where
    one : (o : Option Slot) → option_map h o ≡ option_map tell (option_map f o)
    one None = refl
    one (Some s) = ap Some (first s)

    other : (o : Option Slot) → option_map tell (option_map g o) ≡ option_map h' o
    other None = refl
    other (Some s) = ap Some (last s)

-- the buffer with contents, after changes are undone
abbrev undone_buffer : List Change → ℕ → Descr × ℕ × List ℕ → Buffer
undone_buffer cs q t = record { descr = t.0; items = items_in t.0 t.1 (past_bytes cs q t.2) }

restored-past : (cs : List Change) (c : Change) (q : ℕ) (now before : Option Slot) → Restored c q now before → option_map (past_buffer (cs ++ c ∷ []) q) now ≡ option_map (past_buffer cs q) before
restored-past cs c q = told (content_before c q) stand (past_buffer (cs ++ c ∷ []) q) (past_buffer cs q) (undone_buffer cs q)
    (λ s. ap (λ bytes. record { descr = s.descr; items = items_in s.descr s.items bytes }) (past_bytes-push cs c q s.block)) (λ s. refl)

pub past-alike : (cs : List Change) (q : ℕ) (now before : Option Slot) → Alike now before → option_map (past_buffer cs q) now ≡ option_map (past_buffer cs q) before
past-alike cs q = told stand stand (past_buffer cs q) (past_buffer cs q) (undone_buffer cs q) (λ s. refl) (λ s. refl)

-- the buffers that names use depend only on the contents of their slots
pub same-buffers : (cs cs' : List Change) (names : Names) (slots slots' : Slots) → ((q : ℕ) → is_in_use names q ≡ true → option_map (past_buffer cs q) (slot_at slots q) ≡ option_map (past_buffer cs' q) (slot_at slots' q)) →
    past_buffers cs names slots ≡ past_buffers cs' names slots'
same-buffers cs cs' names slots slots' same = same_map nat_cmp_total nat_cmp-IsAntisymmetric _ _ (λ q. get-past cs names slots q ∙ at q ∙ sym (get-past cs' names slots' q))
  where
    at : (q : ℕ) → cond (is_in_use names q) (option_map (past_buffer cs q) (slot_at slots q)) None ≡ cond (is_in_use names q) (option_map (past_buffer cs' q) (slot_at slots' q)) None
    at q =
        elim (is_in_use names q) as (λ t. is_in_use names q ≡ t → cond t (option_map (past_buffer cs q) (slot_at slots q)) None ≡ cond t (option_map (past_buffer cs' q) (slot_at slots' q)) None) [
          | true ↦ λ used. same q used
          | false ↦ λ _. refl
        ] refl

-- With one more change, the kept states are the earlier ones, followed by the state before the change.
pub kept-push : (cs : List Change) (c : Change) (names : Names) (slots before : Slots) → ((q : ℕ) → is_needed (names_before c names) cs q ≡ true → Restored c q (slot_at slots q) (slot_at before q)) →
    kept_states (cs ++ c ∷ []) names slots ≡ kept_states cs (names_before c names) before ++ (names_before c names, past_buffers [] (names_before c names) before) ∷ []
kept-push [] c names slots before restored =
    let past : Names = names_before c names in
    λ i. (past, same-buffers (c ∷ []) [] past slots before (λ q used. restored-past [] c q (slot_at slots q) (slot_at before q) (restored q (or_left (is_in_use past q) false used))) i) ∷ []
kept-push (d ∷ cs) c names slots before restored =
    let now : Names = names_before c names in
    let past : Names = past_names (d ∷ cs) now in
    let at : (q : ℕ) → is_in_use past q ≡ true → option_map (past_buffer ((d ∷ cs) ++ c ∷ []) q) (slot_at slots q) ≡ option_map (past_buffer (d ∷ cs) q) (slot_at before q) =
    λ q used. restored-past (d ∷ cs) c q (slot_at slots q) (slot_at before q) (restored q (needed-past (d ∷ cs) now q used)) in
    λ i. (past_names-push (d ∷ cs) c names i, (ap (λ ns. past_buffers ((d ∷ cs) ++ c ∷ []) ns slots) (past_names-push (d ∷ cs) c names) ∙ same-buffers ((d ∷ cs) ++ c ∷ []) (d ∷ cs) past slots before at) i)
    ∷ kept-push cs c names slots before (λ q needed. restored q (needed-more now d cs q needed)) i

-- The kept states are unchanged if the contents of the slots that are needed are unchanged.
pub kept-free : (cs : List Change) (names : Names) (slots before : Slots) → ((q : ℕ) → is_needed names cs q ≡ true → Alike (slot_at slots q) (slot_at before q)) → kept_states cs names slots ≡ kept_states cs names before
kept-free [] names slots before same = refl
kept-free (c ∷ cs) names slots before same =
    let past : Names = past_names (c ∷ cs) names in
    λ i. (past, same-buffers (c ∷ cs) (c ∷ cs) past slots before (λ q used. past-alike (c ∷ cs) q (slot_at slots q) (slot_at before q) (same q (needed-past (c ∷ cs) names q used))) i)
    ∷ kept-free cs names slots before (λ q needed. same q (needed-more names c cs q needed)) i

pub kept-drop : (n : ℕ) (cs : List Change) (names : Names) (slots : Slots) → kept_states (drop n cs) names slots ≡ drop n (kept_states cs names slots)
kept-drop zero cs names slots = refl
kept-drop (suc n) [] names slots = refl
kept-drop (suc n) (c ∷ cs) names slots = kept-drop n cs names slots

pub kept-length : (cs : List Change) (names : Names) (slots : Slots) → length (kept_states cs names slots) ≡ length cs
kept-length [] names slots = refl
kept-length (c ∷ cs) names slots = ap suc (kept-length cs names slots)

-- Changes that can be undone

abbrev pub shape : Slot → Descr × ℕ
shape s = (s.descr, s.items)

abbrev pub SameShape : Option Slot → Option Slot → Type 0
SameShape now before = option_map shape now ≡ option_map shape before

pub restored-shape : (c : Change) (q : ℕ) (now before : Option Slot) → Restored c q now before → SameShape now before
restored-shape c q = told (content_before c q) stand shape shape (λ t. (t.0, t.1)) (λ s. refl) (λ s. refl)

pub alike-shape : (now before : Option Slot) → Alike now before → SameShape now before
alike-shape = told stand stand shape shape (λ t. (t.0, t.1)) (λ s. refl) (λ s. refl)

pub lies-shaped : (now before : Option Slot) (e : Entry) → SameShape now before → LiesAt before e → LiesAt now e
lies-shaped now None e same nothing = absurd nothing
lies-shaped None (Some s) e same lies = let no : ⊥ = cc in absurd no
lies-shaped (Some s') (Some s) e same lies =
    let both = same_Some (shape s') (shape s) same in
    record {
      item = lies.item ∙ ap item_size (ap (λ (p : Descr × ℕ). p.0) (sym both));
      laid = laid-same s.descr s'.descr s.items s'.items (array_at e) (array_at e) e.layout e.layout e.writable e.writable (ap (λ (p : Descr × ℕ). p.0) (sym both)) (ap (λ (p : Descr × ℕ). p.1) (sym both)) refl refl refl lies.laid;
    }

goes-shaped : (target : Target) (items : OldItems) (now before : Option Slot) → SameShape now before → GoBackAt target items before → GoBackAt target items now
goes-shaped target items now None same nothing = absurd nothing
goes-shaped target items None (Some s) same goes = let no : ⊥ = cc in absurd no
goes-shaped target items (Some s') (Some s) same goes =
    let both = same_Some (shape s') (shape s) same in
    record {
      inside = subst (λ (p : Descr × ℕ). All (λ offset. offset + items.width ≤ p.1 * item_size p.0) (target_offsets target)) (sym both) goes.inside;
      whole = goes.whole;
    }

still-one : (c : Change) (names : Names) (slots before : Slots) → ((q : ℕ) → needs q c ≡ true → SameShape (slot_at slots q) (slot_at before q)) → ((q : ℕ) → is_in_use names q ≡ true → SameShape (slot_at slots q) (slot_at before q)) →
    IsUndoable c names before → IsUndoable c names slots
still-one (Bind key None) names slots before same used can = tt
still-one (Bind key (Some e)) names slots before same used can = lies-shaped (slot_at slots e.number) (slot_at before e.number) e (same e.number (nat_itself e.number)) can
still-one (Unbind place key e) names slots before same used can = (lies-shaped (slot_at slots e.number) (slot_at before e.number) e (same e.number (nat_itself e.number)) can.0, can.1, can.2)
still-one (Write number target items) names slots before same used can = (can.0, goes-shaped target items (slot_at slots number) (slot_at before number) (used number can.0) can.1)

pub undoable-still : (cs : List Change) (names : Names) (slots before : Slots) → ((q : ℕ) → is_needed names cs q ≡ true → SameShape (slot_at slots q) (slot_at before q)) → AreUndoable cs names before → AreUndoable cs names slots
undoable-still [] names slots before same can = tt
undoable-still (c ∷ cs) names slots before same can = (
  can.0,
  still-one c (past_names cs names) slots before (λ q own. same q (needed-first names c cs q own)) (λ q used. same q (needed-more names c cs q (needed-past cs names q used))) can.1,
  undoable-still cs names slots before (λ q needed. same q (needed-more names c cs q needed)) can.2,
)

pub undoable-push : (cs : List Change) (c : Change) (names : Names) (slots : Slots) → AreUndoable cs (names_before c names) slots → length (names_before c names) ≤ 1024 → IsUndoable c names slots → AreUndoable (cs ++ c ∷ []) names slots
undoable-push [] c names slots can few own = (few, own, tt)
undoable-push (d ∷ cs) c names slots can few own = (
  subst (λ (ns : Names). length (names_before d ns) ≤ 1024) (sym (past_names-push cs c names)) can.0,
  subst (λ (ns : Names). IsUndoable d ns slots) (sym (past_names-push cs c names)) can.1,
  undoable-push cs c names slots can.2 few own,
)

pub undoable-pop : (cs : List Change) (c : Change) (names : Names) (slots : Slots) → AreUndoable (cs ++ c ∷ []) names slots → AreUndoable cs (names_before c names) slots × (length (names_before c names) ≤ 1024) × IsUndoable c names slots
undoable-pop [] c names slots can = (tt, can.0, can.1)
undoable-pop (d ∷ cs) c names slots can =
    let rest = undoable-pop cs c names slots can.2 in (
      (subst (λ (ns : Names). length (names_before d ns) ≤ 1024) (past_names-push cs c names) can.0, subst (λ (ns : Names). IsUndoable d ns slots) (past_names-push cs c names) can.1, rest.0),
      rest.1,
      rest.2,
    )

pub undoable-drop : (n : ℕ) (cs : List Change) (names : Names) (slots : Slots) → AreUndoable cs names slots → AreUndoable (drop n cs) names slots
undoable-drop zero cs names slots can = can
undoable-drop (suc n) [] names slots can = can
undoable-drop (suc n) (c ∷ cs) names slots can = undoable-drop n cs names slots can.2

-- Numbers of buffers

pub none-either : (t : Bool) → cond {A = Option Buffer} t None None ≡ None
none-either true = refl
none-either false = refl

-- the number of a free slot is in no kept state
pub kept-none : (cs : List Change) (names : Names) (slots : Slots) (q : ℕ) → slot_at slots q ≡ None → AllByRecursion (λ state. get state.1 q ≡ None) (kept_states cs names slots)
kept-none [] names slots q free = tt
kept-none (c ∷ cs) names slots q free =
    let past : Names = past_names (c ∷ cs) names in
    (get-past (c ∷ cs) past slots q ∙ ap (λ o. cond (is_in_use past q) (option_map (past_buffer (c ∷ cs) q) o) None) free ∙ none-either (is_in_use past q), kept-none cs names slots q free)

-- a buffer that a change needs was in use before the change
pub needs-used : (c : Change) (names : Names) (slots : Slots) (q : ℕ) → IsUndoable c names slots → needs q c ≡ true → is_in_use (names_before c names) q ≡ true
needs-used (Bind key None) names slots q can own = let no : ⊥ = cc in absurd no
needs-used (Bind key (Some e)) names slots q can own = ap (is_in_use (put_array names key (array_at e))) (sym (eqb-true e.number q own)) ∙ used-put names key (array_at e)
needs-used (Unbind place key e) names slots q can own = used-insert names place (key, array_at e) q own
needs-used (Write number target items) names slots q can own = let no : ⊥ = cc in absurd no

-- the number of a buffer that a change needs is in some kept state
pub kept-some : (cs : List Change) (names : Names) (slots : Slots) (q : ℕ) (s : Slot) → slot_at slots q ≡ Some s → AreUndoable cs names slots → list_any (needs q) cs ≡ true → AllByRecursion (λ state. get state.1 q ≡ None) (kept_states cs names slots) → ⊥
kept-some [] names slots q s there can needed none = let no : ⊥ = cc in no
kept-some (c ∷ cs) names slots q s there can needed none =
    elim (or_cases (needs q c) (list_any (needs q) cs) needed) [
      | inl own ↦
          let past : Names = past_names (c ∷ cs) names in
          let used : is_in_use past q ≡ true = needs-used c (past_names cs names) slots q can.1 own in
          let is : get (past_buffers (c ∷ cs) past slots) q ≡ Some (past_buffer (c ∷ cs) q s) = get-past (c ∷ cs) past slots q ∙ (λ i. cond (used i) (option_map (past_buffer (c ∷ cs) q) (there i)) None) in
          none-some (past_buffer (c ∷ cs) q s) (sym none.0 ∙ is)
      | inr others ↦ kept-some cs names slots q s there can.2 others none.1
    ]

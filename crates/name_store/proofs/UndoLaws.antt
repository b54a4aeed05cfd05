-- Undoing a change.
use Rattle.std.proofs.Common.{◌≡◌, ◌+◌, ◌-◌, ◌≤◌, ℕ, suc, true, false, List, [], ◌∷◌, ◌++◌, length, take, map, slice_get, refl, sym, ap, subst, ◌∙◌, cond, Some, None, is_some, Result, Ok, Err, IsOk, OnOk, arith, length-append}
use Rattle.name_store.proofs.Words.{or_left, AllByRecursion, list_any, option_map, option_map_or, length-map, map-append, take-append_seam, buffer, last_item, Ring, FinMap, nat_cmp, Buffer, is_in_use, has_kept, undone, IsSound, LiesAt, IsUndoable, AreUndoable, users_at, users_in, pins, all_pins, Names, names_before, past_buffers, kept_states, patch_size, named_array, slot_at, state_of, Change, Entry, stand, Undoes}
use Rattle.name_store.proofs.NameLaws.{all-both, all-in_use}
use Rattle.name_store.proofs.Needs.{needs, is_needed, pins-push}
use Rattle.name_store.proofs.PastLaws.{Alike, alike-shape, past-alike, lies-shaped, Restored, restored-shape, same-buffers, kept-push, kept-free, undoable-pop, undoable-still, Slots}
use Rattle.name_store.proofs.StateLaws.{Freed, freed-swept}

-- the last item after one is appended
pub last-push : {X : Type 0} (xs : List X) (x : X) → last_item (xs ++ x ∷ []) ≡ Some x
last-push {X = X} xs x = ap (λ n. slice_get (xs ++ x ∷ []) n) (omega (arith, length-append xs (x ∷ []))) ∙ at xs
  where
    at : (xs : List X) → slice_get (xs ++ x ∷ []) (length xs) ≡ Some x
    at [] = refl
    at (y ∷ ys) = at ys

pub front-push : {X : Type 0} (xs : List X) (x : X) → take (length (xs ++ x ∷ []) - 1) (xs ++ x ∷ []) ≡ xs
front-push xs x = ap (λ n. take n (xs ++ x ∷ [])) (omega (arith, length-append xs (x ∷ []))) ∙ take-append_seam xs (x ∷ [])

pub split-last : {X : Type 0} (xs : List X) (x : X) → Some x ≡ last_item xs → take (length xs - 1) xs ++ x ∷ [] ≡ xs
split-last {X = X} [] x h = let no : ⊥ = cc in absurd no
split-last {X = X} (y ∷ ys) x h = ap (λ k. take k (y ∷ ys) ++ x ∷ []) more ∙ go ys y (h ∙ ap (slice_get (y ∷ ys)) more)
  where
    more : suc (length ys) - 1 ≡ length ys
    more = omega arith

    go : (ys : List X) (y : X) → Some x ≡ slice_get (y ∷ ys) (length ys) → take (length ys) (y ∷ ys) ++ x ∷ [] ≡ y ∷ ys
    go [] y h = let same : x ≡ y = cc in ap (λ z. z ∷ []) same
    go (z ∷ ys) y h = ap (λ zs. y ∷ zs) (go ys z h)

module _ (es : List (List ℕ × Entry)) (slots : Slots) (ring : Ring Change) (c : Change) (spare : ℕ) (sound : IsSound es slots (buffer (ring.items ++ c ∷ []) ring.capacity) spare) where
  abbrev names : Names
  names = map named_array es

  abbrev past : Names
  past = names_before c names

  pub popped : AreUndoable ring.items past slots × (length past ≤ 1024) × IsUndoable c names slots
  popped = undoable-pop ring.items c names slots sound.undoable

  -- names and slots are restored, and then the buffers that are not needed are freed
  module _ (es' : List (List ℕ × Entry)) (now after : Slots) (spare' : ℕ) (names-are : map named_array es' ≡ past) (lie : AllByRecursion (λ entry. LiesAt (slot_at now entry.1.number) entry.1) es')
      (restored : (q : ℕ) → is_needed past ring.items q ≡ true → Restored c q (slot_at slots q) (slot_at now q)) (freed : Freed now after)
      (made : (q : ℕ) → users_at after q + users_in q (map named_array es) + pins q c ≡ users_at slots q + users_in q (map named_array es')) (room : spare ≤ spare' + 1) where
    abbrev names' : Names
    names' = map named_array es'

    counted : (q : ℕ) → users_at after q ≡ users_in q names' + all_pins q ring.items
    counted q = omega (arith, made q, sound.counted q, pins-push q ring.items c)

    stays : (q : ℕ) → is_needed past ring.items q ≡ true → Alike (slot_at after q) (slot_at now q)
    stays q needed =
        freed-swept names' ring.items now after counted freed q
        ∙ ap (λ t. cond t (option_map stand (slot_at now q)) None) (ap (λ (ns : Names). is_needed ns ring.items q) names-are ∙ needed)

    undo-sound : IsSound es' after ring spare'
    undo-sound = record {
      holds = record {
        few = omega (arith, popped.1, ap length names-are, length-map es' named_array);
        lie = all-both (λ e. LiesAt (slot_at now e.number) e) (λ e. is_in_use names' e.number ≡ true) (λ e. LiesAt (slot_at after e.number) e)
            (λ e here used. lies-shaped (slot_at after e.number) (slot_at now e.number) e (alike-shape (slot_at after e.number) (slot_at now e.number) (stays e.number (or_left (is_in_use past e.number) (list_any (needs e.number) ring.items) (ap (λ (ns : Names). is_in_use ns e.number) (sym names-are) ∙ used)))) here) es' lie (all-in_use es');
      };
      counted = counted;
      undoable = subst (λ (ns : Names). AreUndoable ring.items ns after) (sym names-are)
          (undoable-still ring.items past after slots (λ q needed. alike-shape (slot_at after q) (slot_at now q) (stays q needed) ∙ sym (restored-shape c q (slot_at slots q) (slot_at now q) (restored q needed))) popped.0);
      short = omega (arith, sound.short, length-append ring.items (c ∷ []));
      room = omega (arith, sound.room, length-append ring.items (c ∷ []), room);
    }

    undo-kept : kept_states (ring.items ++ c ∷ []) names slots ≡ kept_states ring.items names' after ++ (names', past_buffers [] names' after) ∷ []
    undo-kept =
        kept-push ring.items c names slots now restored
        ∙ (λ i. sym (kept-free ring.items past after now stays) i ++ (past, sym (same-buffers [] [] past after now (λ q used. past-alike [] q (slot_at after q) (slot_at now q) (stays q (or_left (is_in_use past q) (list_any (needs q) ring.items) used)))) i) ∷ [])
        ∙ λ i. kept_states ring.items (sym names-are i) after ++ (sym names-are i, past_buffers [] (sym names-are i) after) ∷ []

    pub undoes : Undoes es slots c es' after ring spare'
    undoes = record { sound = undo-sound; kept = undo-kept }

-- the last kept state is restored
pub undone-state : (es es' : List (List ℕ × Entry)) (slots slots' : Slots) (old ring : Ring Change) (c : Change) (spare : ℕ) → old.items ≡ ring.items ++ c ∷ [] → ring.capacity ≡ old.capacity → Undoes es slots c es' slots' ring spare →
    (has_kept (state_of es slots old) ≡ true) × (state_of es' slots' ring ≡ undone (state_of es slots old))
undone-state es es' slots slots' old ring c spare items-are deep done =
    let names' : Names = map named_array es' in
    let kept = kept_states ring.items names' slots' in
    let last : Names × FinMap nat_cmp Buffer = (names', past_buffers [] names' slots') in
    let all : kept_states old.items (map named_array es) slots ≡ kept ++ last ∷ [] = ap (λ cs. kept_states cs (map named_array es) slots) items-are ∙ done.kept in
    let found : last_item (kept_states old.items (map named_array es) slots) ≡ Some last = ap last_item all ∙ last-push kept last in (
      ap is_some found,
      (λ i. record (state_of es' slots' ring) {
        depth = deep i;
        kept = (sym (front-push kept last) ∙ ap (λ ks. take (length ks - 1) ks) (sym all)) i;
      })
          ∙ ap (λ o. option_map_or (λ before. record (state_of es slots old) { names = before.0; buffers = before.1; kept = take (length (state_of es slots old).kept - 1) (state_of es slots old).kept }) o (state_of es slots old)) (sym found),
    )

-- the last number of bytes is removed
pub patches-pop : (old ring : Ring Change) (c : Change) → old.items ≡ ring.items ++ c ∷ [] → map patch_size ring.items ≡ take (length (map patch_size old.items) - 1) (map patch_size old.items)
patches-pop old ring c items-are =
    sym (front-push (map patch_size ring.items) (patch_size c)) ∙ ap (λ ps. take (length ps - 1) ps) (sym (ap (map patch_size) items-are ∙ map-append patch_size ring.items (c ∷ [])))

-- The change that is undone is the last one.

pub none-last : {X : Type 0} (xs : List X) → None ≡ last_item xs → xs ≡ []
none-last {X = X} [] none = refl
none-last {X = X} (y ∷ ys) none = absurd (some ys y (none ∙ ap (slice_get (y ∷ ys)) (let more : suc (length ys) - 1 ≡ length ys = omega arith in more)))
  where
    some : (ys : List X) (y : X) → None ≡ slice_get (y ∷ ys) (length ys) → ⊥
    some [] y h = cc
    some (z ∷ ys) y h = some ys z h

pub same-ring : (old new : Ring Change) → None ≡ last_item old.items → new ≡ buffer (take (length old.items - 1) old.items) old.capacity → new ≡ old
same-ring old new none is =
    let empty : old.items ≡ [] = none-last old.items none in
    is ∙ (λ i. buffer (take (length (empty i) - 1) (empty i)) old.capacity) ∙ λ i. buffer (sym empty i) old.capacity

pub with-last : (old new : Ring Change) (c : Change) → Some c ≡ last_item old.items → new ≡ buffer (take (length old.items - 1) old.items) old.capacity → old ≡ buffer (new.items ++ c ∷ []) new.capacity
with-last old new c last is =
    let items : old.items ≡ new.items ++ c ∷ [] = sym (split-last old.items c last) ∙ ap (λ (r : Ring Change). r.items ++ c ∷ []) (sym is) in
    λ i. buffer (items i) (sym (ap (λ (r : Ring Change). r.capacity) is) i)

pub none-kept : (es : List (List ℕ × Entry)) (slots : Slots) (ring : Ring Change) → None ≡ last_item ring.items → has_kept (state_of es slots ring) ≡ false
none-kept es slots ring none = ap (λ (cs : List Change). is_some (last_item (kept_states cs (map named_array es) slots))) (none-last ring.items none)

-- a call that succeeds does what it does on success
pub at-ok : {A E P : Type 0} (r : Result A E) → IsOk r → OnOk r P → P
at-ok (Ok a) _ done = done
at-ok (Err e) bad _ = let wrong : ⊥ = cc in absurd wrong

-- there is room to bind a name again
pub undo-room : (es : List (List ℕ × Entry)) (slots : Slots) (ring : Ring Change) (c : Change) (spare : ℕ) → IsSound es slots (buffer (ring.items ++ c ∷ []) ring.capacity) spare → 1 ≤ spare
undo-room es slots ring c spare sound = omega (arith, sound.room, length-append ring.items (c ∷ []))

-- Binding a name, and keeping the change.
use Rattle.std.proofs.Common.{◌≡◌, ◌+◌, ◌≤◌, ℕ, Bool, true, false, List, [], ◌∷◌, ◌++◌, length, map, min, refl, sym, ap, subst, ◌∙◌, cond, Option, Some, None, is_some, IfSome, Result, Ok, Err, IsOk, IfOk, OnOk, OnErr, nat_eq, arith, inl, inr}
use Rattle.name_store.proofs.Words.{unsigned_tied, none-some, or_cases, AllByRecursion, list_any, lookup, option_map, nat_cmp_total, get, retain_keys, get-insert, get-retain_keys, same_map, nat_cmp-IsAntisymmetric, eqb-true, All-from_recursion, recursion_from_All, item_size, buffer, keep_last, insert_entry, Layout, count, Owned, Ring, find_array, put_array, without, is_in_use, has_room_for, keeping, Binds, IsUnused, own_array, own_buffer, Holds, IsSound, LiesAt, IsUndoable, one_at, users_of, users_at, users_in, found_at, pins, all_pins, Names, names_before, past_buffers, past_buffer, kept_states, Array, State, array_at, named_array, buffer_in, slot_at, present, state_of, IsViewIn, MayBind, Bound, Fresh, Change, Bind, Entry, Slot, stand, Adds, IsOf, Lodges, Rebinds}
use Rattle.std.specs.FinMap.{insert}
use Rattle.name_store.specs.declared.bound.Bound.TheVariants.{View}
use Rattle.name_store.proofs.FreshLaws.{fresh-lies, fresh-array_at, fresh-buffer}
use Rattle.name_store.proofs.HeldLaws.{one-when}
use Rattle.name_store.proofs.KeepLaws.{keep-sound, keep-state}
use Rattle.name_store.proofs.NameLaws.{TestsName, find-lookup, put-insert, all-both, all-insert, all-lookup, used-back-put, without-put, put-put, nat_itself}
use Rattle.name_store.proofs.Needs.{needs, is_needed, occupied, number_of, users-put, made-held, kept-counted}
use Rattle.name_store.proofs.PastLaws.{Alike, none-either, alike-shape, past-alike, lies-shaped, Restored, same-buffers, kept-none, kept-some, Slots}
use Rattle.name_store.proofs.SlotLaws.{get-past, get-buffers}
use Rattle.name_store.proofs.StateLaws.{Freed, few-bound, lies-there}
use Rattle.name_store.proofs.UnbindLaws.{same-content, fewer-buffers}
use Rattle.name_store.proofs.ViewLaws.{view-used, view-array, view-lies}

-- A buffer is added in a free slot. The contents of the occupied slots are unchanged.
added-kept : (slots before : Slots) (slot : Slot) (number : ℕ) → Adds slots slot number before → (q : ℕ) → is_some (slot_at slots q) ≡ true → Alike (slot_at before q) (slot_at slots q)
added-kept slots before slot number adds q there =
    elim (nat_eq q number) as (λ t. nat_eq q number ≡ t → slot_at before q ≡ cond t (Some slot) (slot_at slots q) → Alike (slot_at before q) (slot_at slots q)) [
      | true ↦ λ same _. let no : true ≡ false = sym there ∙ ap is_some (ap (slot_at slots) (eqb-true q number same) ∙ adds.free) in cc
      | false ↦ λ _ there-is. ap (option_map stand) there-is
    ] refl (adds.put q)

pub tried-kept : {E : Type 0} (r : Result ℕ E) (slots before : Slots) (slot : Slot) → IfOk r (λ number. Adds slots slot number before) → OnErr r (before ≡ slots) → (q : ℕ) → is_some (slot_at slots q) ≡ true → Alike (slot_at before q) (slot_at slots q)
tried-kept (Ok number) slots before slot adds _ = added-kept slots before slot number adds
tried-kept (Err e) slots before slot _ same = λ q _. ap (λ (ss : Slots). option_map stand (slot_at ss q)) same

-- the arrays of the names still lie in their slots if the contents of occupied slots are unchanged
pub holds-kept : (es : List (List ℕ × Entry)) (slots now : Slots) → Holds es slots → ((q : ℕ) → is_some (slot_at slots q) ≡ true → Alike (slot_at now q) (slot_at slots q)) → Holds es now
holds-kept es slots now h kept = record {
  few = h.few;
  lie = all-both (λ e. LiesAt (slot_at slots e.number) e) (λ e. LiesAt (slot_at slots e.number) e) (λ e. LiesAt (slot_at now e.number) e)
      (λ e there _. lies-shaped (slot_at now e.number) (slot_at slots e.number) e (alike-shape (slot_at now e.number) (slot_at slots e.number) (kept e.number (lies-there (slot_at slots e.number) e there))) there) es h.lie h.lie;
}

-- The entry is inserted in the table.
module _ (es es' : List (List ℕ × Entry)) (slots now : Slots) (before : Holds es slots) (h : Holds es now) (eq : List ℕ → List ℕ → Bool) (k : List ℕ) (v : Entry) (replaced : Option Entry)
    (inserted : es' ≡ insert_entry eq es k v) (is : TestsName (eq k) k) (was : replaced ≡ lookup (eq k) es) (len : length es' ≡ length es + cond (is_some replaced) 0 1)
    (room : has_room_for (present es slots) k ≡ true) (bound : Bound) (lodges : Lodges es slots bound v now) where
  few : length es' ≤ 1024
  few = counted replaced refl
    where
      counted : (r : Option Entry) → replaced ≡ r → length es' ≤ 1024
      counted None e = omega (arith, len ∙ ap (λ r. length es + cond (is_some r) 0 1) e, few-bound es slots (eq k) k is room (sym was ∙ e))
      counted (Some r) e = omega (arith, len ∙ ap (λ r. length es + cond (is_some r) 0 1) e, h.few)

  earlier-lies : (r : Option Entry) → replaced ≡ r → IfSome r (λ e. LiesAt (slot_at slots e.number) e)
  earlier-lies None e = tt
  earlier-lies (Some old) e = all-lookup (λ x. LiesAt (slot_at slots x.number) x) (eq k) es old before.lie (sym was ∙ e)

  pub rebinds : Rebinds es slots k bound replaced es' now
  rebinds = record {
    entry = v;
    lodges = lodges;
    table = ap (map named_array) inserted ∙ put-insert eq k v is es;
    was = ap (option_map array_at) was ∙ sym (find-lookup (eq k) k is es);
    earlier_lies = earlier-lies replaced refl;
  }

  pub rebound-holds : Holds es' now
  rebound-holds = record {
    few = few;
    lie = subst (λ (ns : List (List ℕ × Entry)). AllByRecursion (λ entry. LiesAt (slot_at now entry.1.number) entry.1) ns) (sym inserted)
        (all-insert (λ e. LiesAt (slot_at now e.number) e) eq k v es lodges.lies h.lie);
  }

-- the same for an insertion that succeeds
pub inserted-holds : {E : Type 0} (r : Result (Option Entry) E) (es es' : List (List ℕ × Entry)) (slots now : Slots) → Holds es slots → Holds es now → (eq : List ℕ → List ℕ → Bool) (k : List ℕ) (v : Entry) → IsOk r → OnOk r (es' ≡ insert_entry eq es k v) → TestsName (eq k) k → IfOk r (λ replaced. replaced ≡ lookup (eq k) es) →
    IfOk r (λ replaced. length es' ≡ length es + cond (is_some replaced) 0 1) → has_room_for (present es slots) k ≡ true → (bound : Bound) → Lodges es slots bound v now → Holds es' now
inserted-holds (Ok replaced) es es' slots now before h eq k v _ inserted is was len room bound lodges = rebound-holds es es' slots now before h eq k v replaced inserted is was len room bound lodges
inserted-holds (Err e) es es' slots now before h eq k v bad inserted is was len room bound lodges = let wrong : ⊥ = cc in absurd wrong

-- A new array: its buffer is added in the first free slot.
module _ (es : List (List ℕ × Entry)) (slots now : Slots) (v : Entry) (slot : Slot) (o : Owned) (adds : Adds slots slot v.number now) (one : slot.users ≡ 1)
    (descr-is : slot.descr ≡ o.descr) (items-are : slot.items ≡ count o.layout.shape) (block-is : slot.block ≡ o.block) (layout-is : v.layout ≡ o.layout) (item-is : v.item ≡ item_size o.descr) (path-is : v.path ≡ [])
    (writable-is : v.writable ≡ true) where
  own-is : buffer_in slot ≡ own_buffer o
  own-is = fresh-buffer o slot v descr-is items-are block-is layout-is item-is path-is writable-is

  fresh-buffers : (name : List ℕ) (names' : Names) → names' ≡ put_array (map named_array es) name (array_at v) → past_buffers [] names' now ≡ retain_keys (insert (present es slots).buffers v.number (own_buffer o)) (is_in_use names')
  fresh-buffers name names' table = same_map nat_cmp_total nat_cmp-IsAntisymmetric _ _ (λ q.
      get-past [] names' now q
      ∙ ap (λ s. cond (is_in_use names' q) (option_map (past_buffer [] q) s) None) (adds.put q)
      ∙ at q
      ∙ ap (λ b. cond (is_in_use names' q) b None)
      (ap (cond (nat_eq q v.number) (Some (own_buffer o))) (sym (get-buffers es slots q))
      ∙ ap (λ t. cond t (Some (own_buffer o)) (get (present es slots).buffers q)) (sym (unsigned_tied q v.number))
      ∙ sym (get-insert nat_cmp_total (present es slots).buffers v.number (own_buffer o) q))
      ∙ sym (get-retain_keys (insert (present es slots).buffers v.number (own_buffer o)) (is_in_use names') q (λ x e. ap (is_in_use names') (sym (nat_cmp-IsAntisymmetric q x e)))))
    where
      at : (q : ℕ) → cond (is_in_use names' q) (option_map (past_buffer [] q) (cond (nat_eq q v.number) (Some slot) (slot_at slots q))) None
          ≡ cond (is_in_use names' q) (cond (nat_eq q v.number) (Some (own_buffer o)) (cond (is_in_use (map named_array es) q) (option_map (past_buffer [] q) (slot_at slots q)) None)) None
      at q =
          elim (nat_eq q v.number) as (λ t. nat_eq q v.number ≡ t → cond (is_in_use names' q) (option_map (past_buffer [] q) (cond t (Some slot) (slot_at slots q))) None
          ≡ cond (is_in_use names' q) (cond t (Some (own_buffer o)) (cond (is_in_use (map named_array es) q) (option_map (past_buffer [] q) (slot_at slots q)) None)) None) [
            | true ↦ λ _. ap (λ b. cond (is_in_use names' q) (Some b) None) own-is
            | false ↦ λ other. elsewhere (is_in_use names' q) refl other
          ] refl
        where
          elsewhere : (t : Bool) → is_in_use names' q ≡ t → nat_eq q v.number ≡ false → cond (is_in_use names' q) (option_map (past_buffer [] q) (slot_at slots q)) None
              ≡ cond (is_in_use names' q) (cond (is_in_use (map named_array es) q) (option_map (past_buffer [] q) (slot_at slots q)) None) None
          elsewhere false e other = ap (λ t. cond t (option_map (past_buffer [] q) (slot_at slots q)) None) e ∙ ap (λ t. cond t (cond (is_in_use (map named_array es) q) (option_map (past_buffer [] q) (slot_at slots q)) None) None) (sym e)
          elsewhere true e other =
              let used : is_in_use (map named_array es) q ≡ true = elim (used-back-put (map named_array es) name (array_at v) q (ap (λ (ns : Names). is_in_use ns q) (sym table) ∙ e)) [
                | inl before ↦ before
                | inr its ↦ let no : true ≡ false = sym (ap (λ n. nat_eq n v.number) (sym (eqb-true v.number q its)) ∙ nat_itself v.number) ∙ other in cc
              ] in
              ap (λ t. cond (is_in_use names' q) (cond t (option_map (past_buffer [] q) (slot_at slots q)) None) None) (sym used)

  users : (q : ℕ) → users_at now q ≡ users_at slots q + one_at q v.number
  users q =
      elim (nat_eq q v.number) as (λ t. nat_eq q v.number ≡ t → slot_at now q ≡ cond t (Some slot) (slot_at slots q) → users_at now q ≡ users_at slots q + one_at q v.number) [
        | true ↦ λ same there-is.
            let number : q ≡ v.number = eqb-true q v.number same in
            omega (arith, ap users_of there-is ∙ one, ap users_of (ap (slot_at slots) number ∙ adds.free), one-when true q v.number same)
        | false ↦ λ other there-is. omega (arith, ap users_of there-is, one-when false q v.number other)
      ] refl (adds.put q)

  pub fresh-lodges : Lodges es slots (Fresh o) v now
  fresh-lodges = record {
    kept = added-kept slots now slot v.number adds;
    users = users;
    lies = subst (λ there. LiesAt there v) (sym (adds.put v.number ∙ ap (λ t. cond t (Some slot) (slot_at slots v.number)) (nat_itself v.number))) (fresh-lies o slot v descr-is items-are block-is layout-is item-is path-is writable-is);
    is_of = (
      adds.free,
      adds.least,
      fresh-array_at o slot v descr-is items-are block-is layout-is item-is path-is writable-is,
      (λ name. fresh-buffers name (put_array (map named_array es) name (array_at v)) refl),
    );
  }

-- A view: its buffer gets one more user.
module _ (es : List (List ℕ × Entry)) (slots : Slots) (number : ℕ) (path : List ℕ) (layout : Layout) (writable : Bool) (array : Array) (view : IsViewIn (present es slots) number path layout writable array)
    (v : Entry) (s : Slot) (there : slot_at slots number ≡ Some s) (v-number : v.number ≡ number) (layout-is : v.layout ≡ layout) (item-is : v.item ≡ item_size s.descr) (writable-is : v.writable ≡ writable) (path-is : v.path ≡ path) where
  module _ (now : Slots) (stays : (q : ℕ) → Alike (slot_at now q) (slot_at slots q)) (users : (q : ℕ) → users_at now q ≡ users_at slots q + one_at q v.number) where
    pub view-lodges : Lodges es slots (View number path layout writable) v now
    view-lodges = record {
      kept = λ q there. stays q;
      users = users;
      lies = lies-shaped (slot_at now v.number) (slot_at slots v.number) v (alike-shape (slot_at now v.number) (slot_at slots v.number) (stays v.number))
          (subst (λ o. LiesAt o v) (sym (ap (slot_at slots) v-number ∙ there)) (view-lies es slots number path layout writable array view v s there v-number layout-is item-is writable-is path-is));
      is_of = (λ other its. view-array es slots number path layout writable other its v s there v-number layout-is item-is writable-is path-is, buffers);
    }
      where
        buffers : (name : List ℕ) → past_buffers [] (put_array (map named_array es) name (array_at v)) now ≡ retain_keys (present es slots).buffers (is_in_use (put_array (map named_array es) name (array_at v)))
        buffers name =
            let bound = put_array (map named_array es) name (array_at v) in
            same-buffers [] [] bound now slots (λ q _. past-alike [] q (slot_at now q) (slot_at slots q) (stays q))
            ∙ fewer-buffers es slots bound (λ q used. elim (used-back-put (map named_array es) name (array_at v) q used) [
              | inl before ↦ before
              | inr its ↦ ap (is_in_use (map named_array es)) (sym (eqb-true v.number q its) ∙ v-number) ∙ view-used es slots number path layout writable array view
            ])

-- What holds of a state with its kept states also holds of it without them.

pub view-present : (es : List (List ℕ × Entry)) (slots : Slots) (ring : Ring Change) (number : ℕ) (path : List ℕ) (layout : Layout) (writable : Bool) (array : Array) → IsViewIn (state_of es slots ring) number path layout writable array → IsViewIn (present es slots) number path layout writable array
view-present es slots ring number path layout writable array view = record { number_is = view.number_is; path_is = view.path_is; there = view.there; laid = view.laid }

pub may-present : (es : List (List ℕ × Entry)) (slots : Slots) (ring : Ring Change) (bound : Bound) → MayBind (state_of es slots ring) bound → MayBind (present es slots) bound
may-present es slots ring (Fresh o) may = tt
may-present es slots ring (View number path layout writable) may = (may.0, view-present es slots ring number path layout writable may.0 may.1)

-- The change is kept.
module _ (es : List (List ℕ × Entry)) (slots : Slots) (ring : Ring Change) (spare : ℕ) (sound : IsSound es slots ring spare) (name : List ℕ) (bound : Bound) (earlier : Option Entry) (es' : List (List ℕ × Entry)) (now : Slots)
    (r : Rebinds es slots name bound earlier es' now) (holds : Holds es' now) (key : List ℕ) (key-is : key ≡ name) where
  abbrev names : Names
  names = map named_array es

  abbrev names' : Names
  names' = map named_array es'

  abbrev c : Change
  c = Bind key earlier

  before-is : names_before c names' ≡ names
  before-is = by earlier refl
    where
      by : (o : Option Entry) → earlier ≡ o → names_before (Bind key earlier) names' ≡ names
      by None e =
          ap (λ o. names_before (Bind key o) names') e
          ∙ (λ i. without (r.table i) (key-is i))
          ∙ without-put names name (array_at r.entry) (sym r.was ∙ ap (option_map array_at) e)
      by (Some x) e =
          ap (λ o. names_before (Bind key o) names') e
          ∙ (λ i. put_array (r.table i) (key-is i) (array_at x))
          ∙ put-put names name (array_at r.entry) (array_at x) (sym r.was ∙ ap (option_map array_at) e)

  restored : (q : ℕ) → is_needed names ring.items q ≡ true → Restored c q (slot_at now q) (slot_at slots q)
  restored q needed = same-content c q (slot_at now q) (λ bytes. refl) ∙ r.lodges.kept q (occupied es slots ring spare sound q ∙ needed)

  own : IsUndoable c names' now
  own = by earlier r.earlier_lies
    where
      by : (o : Option Entry) → IfSome o (λ e. LiesAt (slot_at slots e.number) e) → IsUndoable (Bind key o) names' now
      by None lies = tt
      by (Some e) lies = lies-shaped (slot_at now e.number) (slot_at slots e.number) e (alike-shape (slot_at now e.number) (slot_at slots e.number) (r.lodges.kept e.number (lies-there (slot_at slots e.number) e lies))) lies

  was-numbers : (q : ℕ) → found_at q (number_of (find_array names name)) ≡ pins q c
  was-numbers q = ap (λ o. found_at q (number_of o)) (sym r.was) ∙ by earlier
    where
      by : (o : Option Entry) → found_at q (number_of (option_map array_at o)) ≡ pins q (Bind key o)
      by None = refl
      by (Some e) = refl

  -- the buffer of the new array has one more user, and the change keeps the buffer of the old array
  made : (q : ℕ) → users_at now q + users_in q names ≡ users_at slots q + users_in q names' + pins q c
  made q = omega (arith, r.lodges.users q, users-put q names name (array_at r.entry), was-numbers q, ap (users_in q) r.table)

  pub bind-held : (q : ℕ) → all_pins q (ring.items ++ c ∷ []) ≤ users_at now q
  bind-held = made-held names names' ring.items c slots now sound.counted made

  module _ (ring' : Ring Change) (after : Slots) (spare' : ℕ) (ring-is : ring' ≡ buffer (keep_last ring.capacity (ring.items ++ c ∷ [])) ring.capacity) (freed : Freed now after)
      (kept : (q : ℕ) → users_at after q + all_pins q (ring.items ++ c ∷ []) ≡ users_at now q + all_pins q ring'.items) (room : min ring.capacity (length ring.items + 1) ≤ spare') where
    counted : (q : ℕ) → users_at after q ≡ users_in q names' + all_pins q ring'.items
    counted = kept-counted names names' ring.items c slots now sound.counted made ring'.items after kept

    abbrev old : State
    old = state_of es slots ring

    kept-so : state_of es' after ring' ≡ record (keeping old) { names = names'; buffers = past_buffers [] names' now }
    kept-so = keep-state es slots ring spare sound es' now c before-is holds restored own ring' after spare' ring-is freed counted room

    binds : Binds old name bound (state_of es' after ring')
    binds = by bound r.lodges.is_of
      where
        least : (m : ℕ) → is_some (slot_at slots m) ≡ true → IsUnused old m → ⊥
        least m there free = at (slot_at slots m) refl there
          where
            at : (o : Option Slot) → slot_at slots m ≡ o → is_some o ≡ true → ⊥
            at None e h = let no : ⊥ = cc in no
            at (Some s) e h =
                elim (or_cases (is_in_use names m) (list_any (needs m) ring.items) (sym (occupied es slots ring spare sound m) ∙ there)) [
                  | inl used ↦ none-some (buffer_in s) (sym free.unused ∙ (get-buffers es slots m ∙ λ i. cond (used i) (option_map buffer_in (e i)) None))
                  | inr others ↦ kept-some ring.items names slots m s e sound.undoable others (recursion_from_All (λ state. get state.1 m ≡ None) (kept_states ring.items names slots) free.unkept)
                ]

        by : (b : Bound) → IsOf es slots b r.entry now → Binds old name b (state_of es' after ring')
        by (Fresh o) of-it =
            let names-are : names' ≡ put_array names name (own_array r.entry.number o) = r.table ∙ ap (put_array names name) of-it.2 in (
              r.entry.number,
              record {
                unused = record {
                  unused = get-buffers es slots r.entry.number ∙ ap (λ s. cond (is_in_use names r.entry.number) (option_map buffer_in s) None) of-it.0 ∙ none-either (is_in_use names r.entry.number);
                  unkept = All-from_recursion (λ state. get state.1 r.entry.number ≡ None) (kept_states ring.items names slots) (kept-none ring.items names slots r.entry.number of-it.0);
                };
                least = λ m less free. least m (of-it.1 m less) free;
              },
              kept-so ∙ λ i. record (keeping old) {
                names = names-are i;
                buffers = (ap (λ (ns : Names). past_buffers [] ns now) r.table ∙ of-it.3 name ∙ ap (λ (ns : Names). retain_keys (insert old.buffers r.entry.number (own_buffer o)) (is_in_use ns)) (sym r.table ∙ names-are)) i;
              },
            )
        by (View number path layout writable) of-it = λ array view.
            let array-is : array_at r.entry ≡ array = of-it.0 array (view-present es slots ring number path layout writable array view) in
            let names-are : names' ≡ put_array names name array = r.table ∙ ap (put_array names name) array-is in
            kept-so ∙ λ i. record (keeping old) { names = names-are i; buffers = (ap (λ (ns : Names). past_buffers [] ns now) r.table ∙ of-it.1 name ∙ ap (λ (ns : Names). retain_keys old.buffers (is_in_use ns)) (sym r.table ∙ names-are)) i }

    pub bind-kept : IsSound es' after ring' spare' × Binds old name bound (state_of es' after ring')
    bind-kept = (keep-sound es slots ring spare sound es' now c before-is holds restored own ring' after spare' ring-is freed counted room, binds)

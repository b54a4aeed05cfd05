-- Writing items, and keeping the old ones.
use Rattle.std.proofs.Common.{◌≡◌, ◌+◌, ◌*◌, ◌≤◌, ℕ, true, false, List, [], ◌∷◌, ◌++◌, length, map, min, refl, sym, ap, subst, ◌∙◌, cond, Some, Result, Ok, Err, nat_eq, All, arith, ◌⊎◌, inl, inr}
use Rattle.name_store.proofs.Words.{IsPermutation, All-permutation, length_permutation, AllByRecursion, option_map, eqb-true, All-from_recursion, recursion_from_All, drop_of_length-le, buffer, keep_last, Descr, item_size, LeafValue, items_at, with_items, Ring, State, Array, is_in_use, keeping, descr_of, AnswersWrite, CountsWrite, Holds, IsSound, LiesAt, GoBackAt, GoBack, IsUndoable, users_at, users_in, pins, all_pins, with_old, Names, past_names, past_buffers, kept_states, patch_size, MoveInPlace, NeedsNoMemory, target_offsets, LeadsTo, MayWrite, Supplies, IsAim, array_at, named_array, slot_at, present, state_of, bench_value, Change, Write, Entry, OldItems, Slot, Overwritten, Source, One, Block, Target, View, Plan, IsHome, HasNew, CanWrite, NeedsNone, Puts, Writes, parts_of, without_slot, IsLowest, stand, AreKeptAt, AreOld, AreSame}
use Rattle.name_store.specs.declared.target.Source.TheVariants.{Buffer}
use Rattle.name_store.proofs.BindLaws.{view-present}
use Rattle.name_store.proofs.AimLaws.{can-here, can-put, put-answers, whole-parts}
use Rattle.name_store.proofs.HeldLaws.{lowest-same}
use Rattle.name_store.proofs.KeepLaws.{keep-sound, keep-state, patches-push}
use Rattle.name_store.proofs.NameLaws.{all-both, found-used, nat_itself}
use Rattle.name_store.proofs.Needs.{is_needed, made-held, kept-counted}
use Rattle.name_store.proofs.PastLaws.{Restored, alike-shape, past-alike, content_before, shape, SameShape, lies-shaped, same-buffers, undoable-still, Slots}
use Rattle.name_store.proofs.RestoreLaws.{restores-moved}
use Rattle.name_store.proofs.RewriteLaws.{new-users, none-other}
use Rattle.name_store.proofs.StateLaws.{Freed}
use Rattle.name_store.proofs.UnbindLaws.{same-content}
use Rattle.name_store.proofs.ViewLaws.{view-slot}
use Rattle.name_store.proofs.WriteLaws.{size-is, written-holds}

-- What holds of a state with its kept states also holds of it without them.
module _ (es : List (List ℕ × Entry)) (slots : Slots) (ring : Ring Change) where
  abbrev whole : State
  whole = state_of es slots ring

  abbrev now : State
  now = present es slots

  pub leads-now : (name : List ℕ) (target : Target) (array : Array) (places : List ℕ) → LeadsTo whole name target array places → LeadsTo now name target array places
  leads-now name target array places leads = record { found = leads.found; writable = leads.writable; offsets_are = leads.offsets_are; among = leads.among }

  may-now : (array : Array) (target : Target) → MayWrite whole array target → MayWrite now array target
  may-now array (View layout) may = may
  may-now array (Plan plan) may = may

  pub supplies-now : (descr : Descr) (n : ℕ) (source : Source) (items : List (List LeafValue)) → Supplies whole descr n source items → Supplies now descr n source items
  supplies-now descr n (One bytes) items has = has
  supplies-now descr n (Block owned) items has = has
  supplies-now descr n (Buffer number layout) items has =
      (has.0, record { view = view-present es slots ring number has.0.path layout false has.0 has.1.view; alike = has.1.alike; count = has.1.count }, has.2)

  pub aim-now : (name : List ℕ) (target : Target) (source : Source) → IsAim whole name target source → IsAim now name target source
  aim-now name target source aim = record {
    array = aim.array;
    places = aim.places;
    items = aim.items;
    leads = leads-now name target aim.array aim.places aim.leads;
    may_write = may-now aim.array target aim.may_write;
    supplies = supplies-now (descr_of now aim.array) (length (target_offsets target)) source aim.items aim.supplies;
  }

  -- if no memory is needed, no states are kept
  pub needs-shallow : (name : List ℕ) (target : Target) (source : Source) → NeedsNoMemory whole name target source → ring.capacity ≡ 0
  needs-shallow name (View to) source needs-none = needs-none.0
  needs-shallow name (Plan plan) source needs-none = needs-none.0

  pub needs-now : (name : List ℕ) (target : Target) (source : Source) → NeedsNoMemory whole name target source → NeedsNoMemory now name target source
  needs-now name (View to) (One bytes) needs-none = (refl, needs-none.1)
  needs-now name (View to) (Block owned) needs-none = (refl, needs-none.1)
  needs-now name (View to) (Buffer number from) needs-none = (refl, needs-none.1)
  needs-now name (Plan plan) source needs-none = (refl, needs-none.1)

-- the kept states are unchanged if the contents of each slot are
same-past : (cs : List Change) (names : Names) (slots after : Slots) → AreSame slots after → past_buffers cs names after ≡ past_buffers cs names slots
same-past cs names slots after same = same-buffers cs cs names after slots (λ q used. past-alike cs q (slot_at after q) (slot_at slots q) (same q).0)

same-kept : (cs : List Change) (names : Names) (slots after : Slots) → AreSame slots after → kept_states cs names after ≡ kept_states cs names slots
same-kept [] names slots after same = refl
same-kept (c ∷ cs) names slots after same = λ i. (past_names (c ∷ cs) names, same-past (c ∷ cs) (past_names (c ∷ cs) names) slots after same i) ∷ same-kept cs names slots after same i

pub same-state : (es : List (List ℕ × Entry)) (slots after : Slots) (ring : Ring Change) → AreSame slots after → state_of es after ring ≡ state_of es slots ring
same-state es slots after ring same = λ i. record (state_of es slots ring) { buffers = same-past [] (map named_array es) slots after same i; kept = same-kept ring.items (map named_array es) slots after same i }

pub same-value : (es : List (List ℕ × Entry)) (slots after : Slots) (ring : Ring Change) → AreSame slots after → bench_value es after ring ≡ bench_value es slots ring
same-value es slots after ring same = λ i. record { state = same-state es slots after ring same i; patches = map patch_size ring.items }

-- if no states are kept
none-items : (cap : ℕ) (cs : List Change) → length cs ≤ cap → cap ≡ 0 → cs ≡ []
none-items cap [] short shallow = refl
none-items cap (c ∷ cs) short shallow = absurd (omega (arith, short, shallow))

none-last : {X : Type 0} (cap : ℕ) (xs : List X) → cap ≡ 0 → keep_last cap xs ≡ []
none-last cap xs shallow = drop_of_length-le xs (omega (arith, shallow))

-- If a call left the contents and the users of each slot unchanged, all is still sound.
pub same-still : (es : List (List ℕ × Entry)) (slots after : Slots) (ring : Ring Change) (spare : ℕ) → AreSame slots after → IsSound es slots ring spare → IsSound es after ring spare
same-still es slots after ring spare same sound = record {
  holds = record {
    few = sound.holds.few;
    lie = all-both (λ e. LiesAt (slot_at slots e.number) e) (λ e. LiesAt (slot_at slots e.number) e) (λ e. LiesAt (slot_at after e.number) e)
        (λ e there _. lies-shaped (slot_at after e.number) (slot_at slots e.number) e (shaped e.number) there) es sound.holds.lie sound.holds.lie;
  };
  counted = λ q. (same q).1 ∙ sound.counted q;
  undoable = undoable-still ring.items (map named_array es) after slots (λ q _. shaped q) sound.undoable;
  short = sound.short;
  room = sound.room;
}
  where
    shaped : (q : ℕ) → SameShape (slot_at after q) (slot_at slots q)
    shaped q = alike-shape (slot_at after q) (slot_at slots q) (same q).0

-- The items of a source were written to a target in a name's array.
module _ (es : List (List ℕ × Entry)) (slots : Slots) (ring : Ring Change) (spare : ℕ) (sound : IsSound es slots ring spare) (name : List ℕ) (number width : ℕ) (home : IsHome es slots name number width) (target : Target) (source : Source)
    (aim : IsAim (state_of es slots ring) name target source) where
  now-aim : IsAim (present es slots) name target source
  now-aim = aim-now es slots ring name target source aim

  pub put-can : CanWrite slots (record { number = number; width = width }) target source
  put-can = can-put es slots name number width home target source now-aim

  pub none-can : NeedsNoMemory (state_of es slots ring) name target source → NeedsNone (without_slot slots number) width target source
  none-can needs-none = by target source (descr_of (present es slots) now-aim.array) (length (target_offsets target)) now-aim.items now-aim.supplies (needs-now es slots ring name target source needs-none)
    where
      by : (target : Target) (source : Source) (descr : Descr) (n : ℕ) (items : List (List LeafValue)) → Supplies (present es slots) descr n source items → NeedsNoMemory (present es slots) name target source → NeedsNone (without_slot slots number) width target source
      by target (One bytes) descr n items has none = tt
      by target (Block owned) descr n items has none = tt
      by (View to) (Buffer q from) descr n items has none = λ free.
          let other = view-slot es slots q has.0.path from false has.0 has.1.view in
          subst (MoveInPlace to from) (size-is es slots name number width home (array_at home.entry) home.found)
          (none.1 (array_at home.entry) home.found (sym home.number_is ∙ sym (none-other slots number home.slot q other.0 home.there other.1 free)))
      by (Plan plan) (Buffer q from) descr n items has none = absurd none.1

  module _ (after : Slots) (puts : Puts slots (record { number = number; width = width }) target source after) where
    abbrev n : ℕ
    n = length (target_offsets target)

    abbrev parts : List (List ℕ)
    parts = parts_of (without_slot slots number) width home.slot.block n source

    whole' : AllByRecursion (λ part. length part ≡ width) parts
    whole' = whole-parts es slots name number width home target source now-aim

    new : HasNew slots number home.slot (with_items (target_offsets target) parts home.slot.block) after
    new = puts home.slot home.there

    present-answers : AnswersWrite (present es slots) name target source (Ok n) (present es after)
    present-answers = put-answers es slots name number width home target source now-aim sound.holds after puts

    abbrev names : Names
    names = map named_array es

    abbrev s : Slot
    s = home.slot

    abbrev s' : Slot
    s' = new.new

    holds : Holds es after
    holds = written-holds es slots name number width home sound.holds (with_items (target_offsets target) parts s.block) after new

    at : (q : ℕ) → ((q ≡ number) × (slot_at after q ≡ Some s') × (slot_at slots q ≡ Some s)) ⊎ ((nat_eq q number ≡ false) × (slot_at after q ≡ slot_at slots q))
    at q =
        elim (nat_eq q number) as (λ t. nat_eq q number ≡ t → slot_at after q ≡ cond t (Some s') (slot_at slots q) → ((q ≡ number) × (slot_at after q ≡ Some s') × (slot_at slots q ≡ Some s)) ⊎ ((nat_eq q number ≡ false) × (slot_at after q ≡ slot_at slots q))) [
          | true ↦ λ is there. let same : q ≡ number = eqb-true q number is in inl (same, there, ap (slot_at slots) same ∙ home.there)
          | false ↦ λ is there. inr (is, there)
        ] refl (new.set q)

    wrote-shape : (q : ℕ) → SameShape (slot_at after q) (slot_at slots q)
    wrote-shape q =
        elim (at q) [
          | inl here ↦ ap (option_map shape) here.1 ∙ (λ i. Some (new.rewritten.descr i, new.rewritten.items i)) ∙ ap (option_map shape) (sym here.2)
          | inr other ↦ ap (option_map shape) other.1
        ]

    wrote-users : (q : ℕ) → users_at after q ≡ users_at slots q
    wrote-users = new-users slots number s (with_items (target_offsets target) parts s.block) after home.there new

    pub wrote-sound : IsSound es after ring spare
    wrote-sound = record {
      holds = holds;
      counted = λ q. wrote-users q ∙ sound.counted q;
      undoable = undoable-still ring.items names after slots (λ q _. wrote-shape q) sound.undoable;
      short = sound.short;
      room = sound.room;
    }

    -- no states are kept
    pub none-answers : ring.capacity ≡ 0 → AnswersWrite (state_of es slots ring) name target source (Ok n) (state_of es after ring)
    none-answers shallow = (
      refl,
      λ array places values leads has.
          let descr : Descr = descr_of (present es slots) array in
          let is = present-answers.1 array places values (leads-now es slots ring name target array places leads) (supplies-now es slots ring descr n source values has) in
          λ i. record (keeping (state_of es slots ring)) {
            buffers = (ap (λ (x : State). x.buffers) is) i;
            kept = (ap (λ cs. kept_states cs names after) (none-items ring.capacity ring.items sound.short shallow) ∙ sym (none-last ring.capacity (kept_states ring.items names slots ++ (names, past_buffers [] names slots) ∷ []) shallow)) i;
          },
    )

    -- the old items are kept, with the target's places in some order
    module _ (over : Overwritten) (olds : AreKeptAt slots (record { number = number; width = width }) target over) where
      abbrev items : OldItems
      items = over.items

      abbrev os : List ℕ
      os = target_offsets over.target

      moved : IsPermutation (target_offsets target) os
      moved = (olds s home.there).moved

      old : AreOld width s.block os items
      old = (olds s home.there).old

      abbrev c : Change
      c = Write number over.target items

      all-within : All (λ o. o + width ≤ length s.block) (target_offsets target)
      all-within = (can-here es slots name number width home target source now-aim).inside

      within : AllByRecursion (λ o. o + width ≤ length s.block) os
      within = recursion_from_All (λ o. o + width ≤ length s.block) os (All-permutation (λ o. o + width ≤ length s.block) (target_offsets target) os moved all-within)

      bytes-back : with_old os items s'.block ≡ s.block
      bytes-back =
          ap (λ parts. with_items os parts s'.block) old.packed.items
          ∙ (λ i. with_items os (items_at os width s.block) (new.rewritten.block i))
          ∙ restores-moved width (target_offsets target) os parts s.block moved whole' (recursion_from_All (λ o. o + width ≤ length s.block) (target_offsets target) all-within) within

      restored : (q : ℕ) → is_needed names ring.items q ≡ true → Restored c q (slot_at after q) (slot_at slots q)
      restored q _ =
          elim (at q) [
            | inl here ↦
                ap (option_map (content_before c q)) here.1
                ∙ (λ i. Some (new.rewritten.descr i, new.rewritten.items i, (ap (λ t. cond t (with_old os items s'.block) s'.block) (ap (λ n. nat_eq n number) here.0 ∙ nat_itself number) ∙ bytes-back) i))
                ∙ ap (option_map stand) (sym here.2)
            | inr other ↦ ap (option_map (content_before c q)) other.1 ∙ same-content c q (slot_at slots q) (λ bytes. ap (λ t. cond t (with_old os items bytes) bytes) other.0)
          ]

      goes : GoBack over.target items s'
      goes = record {
        inside = subst (λ n. All (λ o. o + items.width ≤ n) os) (s.is_whole.whole ∙ λ i. sym new.rewritten.items i * item_size (sym new.rewritten.descr i))
            (subst (λ n. All (λ o. o + n ≤ length s.block) os) (sym old.size) (All-from_recursion (λ o. o + width ≤ length s.block) os within));
        whole = old.packed.long;
      }

      own' : IsUndoable c names after
      own' = (
        ap (is_in_use names) home.number_is ∙ found-used names name (array_at home.entry) home.found,
        subst (GoBackAt over.target items) (sym (new.set number ∙ ap (λ t. cond t (Some s') (slot_at slots number)) (nat_itself number))) goes,
      )

      -- the change keeps no buffer alive, and the users of each buffer are unchanged
      made : (q : ℕ) → users_at after q + users_in q names ≡ users_at slots q + users_in q names + pins q c
      made q = omega (arith, wrote-users q)

      pub write-held : (q : ℕ) → all_pins q (ring.items ++ c ∷ []) ≤ users_at after q
      write-held = made-held names names ring.items c slots after sound.counted made

      module _ (ring' : Ring Change) (last : Slots) (spare' : ℕ) (ring-is : ring' ≡ buffer (keep_last ring.capacity (ring.items ++ c ∷ [])) ring.capacity) (freed : Freed after last)
          (kept : (q : ℕ) → users_at last q + all_pins q (ring.items ++ c ∷ []) ≡ users_at after q + all_pins q ring'.items) (room : min ring.capacity (length ring.items + 1) ≤ spare') where
        counted : (q : ℕ) → users_at last q ≡ users_in q names + all_pins q ring'.items
        counted = kept-counted names names ring.items c slots after sound.counted made ring'.items last kept

        pub write-sound : IsSound es last ring' spare'
        write-sound = keep-sound es slots ring spare sound es after c refl holds restored own' ring' last spare' ring-is freed counted room

        pub write-answers : AnswersWrite (state_of es slots ring) name target source (Ok n) (state_of es last ring')
        write-answers = (
          refl,
          λ array places values leads has.
              let descr : Descr = descr_of (present es slots) array in
              let is = present-answers.1 array places values (leads-now es slots ring name target array places leads) (supplies-now es slots ring descr n source values has) in
              keep-state es slots ring spare sound es after c refl holds restored own' ring' last spare' ring-is freed counted room
              ∙ λ i. record (keeping (state_of es slots ring)) {
                buffers = (ap (λ (x : State). x.buffers) is) i;
              },
        )

        pub write-counts : CountsWrite (bench_value es slots ring) name target (Ok n) (bench_value es last ring')
        write-counts = λ array found.
            patches-push ring ring' c ring-is
            ∙ ap (λ bytes. keep_last ring.capacity (map patch_size ring.items ++ bytes ∷ [])) (old.packed.long ∙ (λ i. length_permutation (target_offsets target) os moved i * (old.size ∙ sym (size-is es slots name number width home array found)) i))

-- Whether items were written or not, the arrays of the names lie in their slots, and the users of each are unchanged.
module _ (es : List (List ℕ × Entry)) (slots : Slots) (ring : Ring Change) (spare : ℕ) (sound : IsSound es slots ring spare) (name : List ℕ) (number width : ℕ) (home : IsHome es slots name number width) (target : Target) (source : Source)
    (aim : IsAim (state_of es slots ring) name target source) (after : Slots) where
  pub tried-sound : {A E : Type 0} (r : Result A E) → Writes slots (record { number = number; width = width }) target source r after → IsSound es after ring spare
  tried-sound (Ok a) wrote = wrote-sound es slots ring spare sound name number width home target source aim after wrote.0
  tried-sound (Err e) wrote = same-still es slots after ring spare wrote.1 sound

  pub tried-lowest : {A E : Type 0} (r : Result A E) → Writes slots (record { number = number; width = width }) target source r after → (low : ℕ) → IsLowest slots low → IsLowest after low
  tried-lowest r wrote low = lowest-same slots after low (λ q. (tried-sound r wrote).counted q ∙ sym (sound.counted q))

-- What a disk with a cache finds, and what crashes leave after each event.
use Rattle.std.proofs.Common.{◌≡◌, ◌≢◌, inl, inr, ⊎_elim, ◌-◌, ◌<◌, ◌≤◌, Bool, true, false, ℕ, suc, List, [], ◌∷◌, length, take, drop, get_or, Option, None, Vec, cond, MatchBool, IsTrue, refl, sym, ap, ◌∙◌, subst, arith}
use Rattle.disk_tests.proofs.Words.{Global, common_steps, get, get-empty, slice_cmp, nat_cmp, bytes_eq, cases_lt, false_from_ne_true, when_true, when_false, bytes_eq-Decides, Event, Changed, FileSynced, NamesSynced, Files, Same, SameBut, Leaves, SameButBoth, Replaces, follows, weaker, only_but, only_same, replaces_again, unmoved, bytes_of_change, bound, get-bound, bound_here, bound_else, found, is_synced, MayStand, MayStay, cached_history, cached_state, change_count, file_name, IsUnchanged, ChangesOnly, Moves, found_may_stand, newest}

-- a list by its first event
headed : (rest : List Event) (event : Event) → 1 ≤ length rest → event ≡ get_or rest 0 event → rest ≡ event ∷ take (length rest - 1) (drop 1 rest)
headed [] event some is = absurd (omega (arith, some))
headed (first ∷ older) event some is = grind (arith, common_steps, is)

-- the newest event is a change of this name, or of another
pub found_here : (rest : List Event) (event : Event) (name : List ℕ) (other : Vec ℕ Global) (bytes : Option (Vec ℕ Global)) (is_whole : Bool) → 1 ≤ length rest → event ≡ get_or rest 0 event
    → event ≡ Changed other bytes is_whole → name ≡ other.items → get (found rest) name ≡ bytes_of_change bytes
found_here rest event name other bytes is_whole some first is same =
    ap (λ (l : List Event). get (found l) name) (headed rest event some first)
    ∙ ap (λ (e : Event). get (found (e ∷ take (length rest - 1) (drop 1 rest))) name) is
    ∙ ap (get (bound other.items (bytes_of_change bytes) (found (take (length rest - 1) (drop 1 rest))))) same
    ∙ bound_here other.items (bytes_of_change bytes) (found (take (length rest - 1) (drop 1 rest)))

pub found_later : (rest : List Event) (event : Event) (name : List ℕ) (other : Vec ℕ Global) (bytes : Option (Vec ℕ Global)) (is_whole : Bool) → 1 ≤ length rest → event ≡ get_or rest 0 event
    → event ≡ Changed other bytes is_whole → name ≢ other.items → get (found (take (length rest - 1) (drop 1 rest))) name ≡ get (found rest) name
found_later rest event name other bytes is_whole some first is far =
    sym (ap (λ (l : List Event). get (found l) name) (headed rest event some first)
    ∙ ap (λ (e : Event). get (found (e ∷ take (length rest - 1) (drop 1 rest))) name) is
    ∙ bound_else other.items (bytes_of_change bytes) (found (take (length rest - 1) (drop 1 rest))) name far)

pub found_nowhere : (rest : List Event) (name : List ℕ) → length rest < 1 → get (found rest) name ≡ None
found_nowhere [] name none = get-empty (slice_cmp nat_cmp) name
found_nowhere (first ∷ older) name none = absurd (omega (arith, none))

-- One more event: a crash leaves what it might have left before, after a change.
module _ (Change : Files → Files → Type 0) (events : List Event) (event : Event) (stays : (files : Files) → Change files files)
    (steps : (files : Files) → MayStay (event ∷ events) files → (before : Files) × MayStay events before × Change before files) where
  older : (t : ℕ) → t ≤ length events → drop (length (event ∷ events) - t) (event ∷ events) ≡ drop (length events - t) events
  older t le = ap (λ n. drop n (event ∷ events)) (let more : length (event ∷ events) - t ≡ suc (length events - t) = omega (arith, le) in more)

  pub one_event : Leaves Change (cached_history events) (cached_history (event ∷ events))
  one_event = record {
    later = omega arith;
    past = λ t files le. (
      λ left. subst (λ (l : List Event). MayStay l files) (older t le) left,
      λ left. subst (λ (l : List Event). MayStay l files) (sym (older t le)) left,
    );
    each = λ t files from to left. elim (cases_lt t (length (event ∷ events))) [
      | inl before ↦ (
        files,
        subst (λ (l : List Event). MayStay l files) (older t (omega (arith, before)) ∙ ap (λ n. drop (length events - n) events) (let is : t ≡ length events = omega (arith, before, from) in is)) left,
        stays files,
      )
      | inr last ↦ (
          let was = steps files (subst (λ (l : List Event). MayStay l files) (ap (λ n. drop n (event ∷ events)) (let none : length (event ∷ events) - t ≡ 0 = omega (arith, last) in none)) left) in
          (was.0, subst (λ (l : List Event). MayStay l was.0) (newest events) was.1, was.2)
          )
    ];
  }

-- what a crash leaves after a change, compared with what it might have left before
module _ (events : List Event) (name : Vec ℕ Global) (bytes : Option (Vec ℕ Global)) (is_whole : Bool) where
  apart : (files : Files) (other : List ℕ) → bytes_eq other name.items ≡ false → MayStay (Changed name bytes is_whole ∷ events) files → MayStand events other (get files other)
  apart files other differs left = when_false _ _ differs (left other)

  pub restored : (files : Files) → MayStay (Changed name bytes is_whole ∷ events) files → MayStay events (bound name.items (get (found events) name.items) files)
  restored files left other =
      subst (MayStand events other) (sym (get-bound name.items (get (found events) name.items) files other))
      (elim (bytes_eq other name.items) as (λ b. bytes_eq other name.items ≡ b → MayStand events other (cond b (get (found events) name.items) (get files other))) [
        | true ↦ λ is. subst (λ (n : List ℕ). MayStand events other (get (found events) n)) ((bytes_eq-Decides other name.items).0 is) (found_may_stand events other)
        | false ↦ λ differs. apart files other differs left
      ] refl)

  pub changes : Leaves (SameBut name.items) (cached_history events) (cached_history (Changed name bytes is_whole ∷ events))
  changes = one_event (SameBut name.items) events (Changed name bytes is_whole) (λ files other far. refl)
      (λ files left. (bound name.items (get (found events) name.items) files, restored files left, λ other far. sym (bound_else name.items (get (found events) name.items) files other far)))

-- a change of one name does not count as a change of another
counted_else : (name : Vec ℕ Global) (bytes : Option (Vec ℕ Global)) (is_whole : Bool) (events : List Event) (other : List ℕ) → other ≢ name.items → change_count (Changed name bytes is_whole ∷ events) other ≡ change_count events other
counted_else name bytes is_whole events other far =
    ap (λ b. cond b (suc (change_count events other)) (change_count events other)) (false_from_ne_true _ (λ same. far ((bytes_eq-Decides other name.items).0 same)))

-- A whole file takes a name: a crash leaves what was there or the file.
module _ (events : List Event) (from : List ℕ) (name : Vec ℕ Global) (bytes : Option (Vec ℕ Global)) where
  kept : (files : Files) → MayStay (Changed name bytes true ∷ events) files → MayStand events name.items (get files name.items) → MayStay events files
  kept files left old other =
      elim (bytes_eq other name.items) as (λ b. bytes_eq other name.items ≡ b → MayStand events other (get files other)) [
        | true ↦ λ is. subst (λ (n : List ℕ). MayStand events n (get files n)) (sym ((bytes_eq-Decides other name.items).0 is)) old
        | false ↦ λ differs. apart events name bytes true files other differs left
      ] refl

  pub arrives : Leaves (Replaces from name.items (bytes_of_change bytes)) (cached_history events) (cached_history (Changed name bytes true ∷ events))
  arrives = one_event (Replaces from name.items (bytes_of_change bytes)) events (Changed name bytes true) (λ files. record { others = λ other far near. refl; whole = inl refl })
      (λ files left. ⊎_elim
      (λ old. (files, kept files left old, record { others = λ other far near. refl; whole = inl refl }))
      (λ new. (
        bound name.items (get (found events) name.items) files,
        restored events name bytes true files left,
        record { others = λ other far near. sym (bound_else name.items (get (found events) name.items) files other near); whole = inr new },
      ))
      (when_true _ _ ((bytes_eq-Decides name.items name.items).1 refl) (left name.items)))

-- no event at all
still : (Step : Files → Files → Type 0) → ((x y : Files) → Same x y → Step x y) → (events : List Event) → Leaves Step (cached_history events) (cached_history events)
still Step stays events = weaker Same Step (cached_history events) (cached_history events) stays (unmoved (cached_history events))

pub still_same : (old new : List Event) → new ≡ old → IsUnchanged (cached_state old) (cached_state new)
still_same old new same = subst (λ (l : List Event). IsUnchanged (cached_state old) (cached_state l)) (sym same) (record { files = refl; crash = unmoved (cached_history old); current = λ file current. current })

pub still_but : (name : List ℕ) (old new : List Event) → new ≡ old → ChangesOnly file_name name (cached_state old) (cached_state new)
still_but name old new same = subst (λ (l : List Event). ChangesOnly file_name name (cached_state old) (cached_state l)) (sym same) (record {
  files = λ other far. refl;
  crash = still (SameBut name) (λ x y same other far. same other) old;
  current = λ file far current. current;
})

pub still_there : (from to : List ℕ) (old new : List Event) → new ≡ old → Moves file_name from to (cached_state old) (cached_state new)
still_there from to old new same = subst (λ (l : List Event). Moves file_name from to (cached_state old) (cached_state l)) (sym same) (record {
  files = record { others = λ other far near. refl; whole = inl refl };
  crash = still (SameButBoth from to) (λ x y same other far near. same other) old;
  whole = λ synced. only_same from to (get (found old) from) (unmoved (cached_history old));
  current = λ file far near current. current;
})

-- a sync
pub file_synced : (name : Vec ℕ Global) (old new : List Event) → new ≡ FileSynced name ∷ old → IsUnchanged (cached_state old) (cached_state new)
file_synced name old new is = subst (λ (l : List Event). IsUnchanged (cached_state old) (cached_state l)) (sym is) (record {
  files = refl;
  crash = one_event Same old (FileSynced name) (λ files other. refl) (λ files left. (files, left, λ other. refl));
  current = λ file current. current;
})

pub names_synced : (old new : List Event) → new ≡ NamesSynced ∷ old → IsUnchanged (cached_state old) (cached_state new)
names_synced old new is = subst (λ (l : List Event). IsUnchanged (cached_state old) (cached_state l)) (sym is) (record {
  files = refl;
  crash = one_event Same old NamesSynced (λ files other. refl) (λ files left. (
    files,
    λ other. elim (is_synced old other) as (λ b. MatchBool b (get files other ≡ get (found old) other) (MayStand old other (get files other)) → MayStand old other (get files other)) [
      | true ↦ λ is. subst (MayStand old other) (sym is) (found_may_stand old other)
      | false ↦ λ stood. stood
    ] (left other),
    λ other. refl,
  ));
  current = λ file current. current;
})

-- a change of this name
module _ (name : List ℕ) (bytes : Option (Vec ℕ Global)) (is_whole : Bool) (called : Vec ℕ Global) (is : called.items ≡ name) (old new : List Event) (made : new ≡ Changed called bytes is_whole ∷ old) where
  pub binds : get (found new) name ≡ bytes_of_change bytes
  binds = ap (λ (l : List Event). get (found l) name) made ∙ ap (get (found (Changed called bytes is_whole ∷ old))) (sym is) ∙ bound_here called.items (bytes_of_change bytes) (found old)

  pub changes_only : ChangesOnly file_name name (cached_state old) (cached_state new)
  changes_only = subst (λ (v : List ℕ × List Event). ChangesOnly file_name v.0 (cached_state old) (cached_state v.1)) (λ i. (is i, sym made i)) (record {
    files = bound_else called.items (bytes_of_change bytes) (found old);
    crash = changes old called bytes is_whole;
    current = λ file far current. current ∙ sym (counted_else called bytes is_whole old file.name.items far);
  })

-- A file has moved: what was found under the one name is found under the other.
pub record IsRenamed (from to : List ℕ) (old new : List Event) : Type 0 where
  pub renamed : get (found new) to ≡ get (found old) from
  pub synced : IsTrue (is_synced old from) → IsTrue (is_synced new to)
  pub others : Moves file_name from to (cached_state old) (cached_state new)

-- a file arrives under one name, and is gone under the other
module _ (old : List Event) (arrived gone : Vec ℕ Global) (bytes : Option (Vec ℕ Global)) (is_whole : Bool) (differ : arrived.items ≢ gone.items) where
  abbrev come : List Event
  come = Changed arrived bytes is_whole ∷ old

  moved_there : bytes_of_change bytes ≡ get (found old) gone.items → is_whole ≡ is_synced old gone.items → IsRenamed gone.items arrived.items old (Changed gone None true ∷ come)
  moved_there has whole =
      let there = bound_else gone.items None (found come) arrived.items differ ∙ bound_here arrived.items (bytes_of_change bytes) (found old) ∙ has in
      record {
        renamed = there;
        synced = λ synced.
            ap (λ b. cond b true (cond (bytes_eq arrived.items arrived.items) is_whole (is_synced old arrived.items))) (false_from_ne_true _ (λ same. differ ((bytes_eq-Decides arrived.items gone.items).0 same)))
            ∙ ap (λ b. cond b is_whole (is_synced old arrived.items)) ((bytes_eq-Decides arrived.items arrived.items).1 refl)
            ∙ whole ∙ synced;
        others = record {
          files = record {
            others = λ other far near. bound_else gone.items None (found come) other far ∙ bound_else arrived.items (bytes_of_change bytes) (found old) other near;
            whole = inr there;
          };
          crash = follows (SameBut arrived.items) (SameBut gone.items) (SameButBoth gone.items arrived.items) (cached_history old) (cached_history come) (cached_history (Changed gone None true ∷ come))
              (λ x y same other far near. same other near) (λ x y z first second other far near. second other far ∙ first other near)
              (changes old arrived bytes is_whole) (changes come gone None true);
          whole = λ synced. subst (λ (v : Option (List ℕ) × Bool). Leaves (Replaces gone.items arrived.items v.0) (cached_history old) (cached_history (Changed gone None true ∷ Changed arrived bytes v.1 ∷ old))) (λ i. (has i, sym (whole ∙ synced) i))
              (replaces_again gone.items arrived.items (bytes_of_change bytes) (arrives old gone.items arrived bytes) (only_but gone.items arrived.items (bytes_of_change bytes) differ (changes (Changed arrived bytes true ∷ old) gone None true)));
          current = λ file far near current. current ∙ sym (counted_else gone None true come file.name.items far ∙ counted_else arrived bytes is_whole old file.name.items near);
        };
      }

pub renames : (old new : List Event) (arrived gone : Vec ℕ Global) (bytes : Option (Vec ℕ Global)) (is_whole : Bool) (from to : List ℕ) → to ≢ from → gone.items ≡ from → arrived.items ≡ to
    → new ≡ Changed gone None true ∷ Changed arrived bytes is_whole ∷ old → bytes_of_change bytes ≡ get (found old) from → is_whole ≡ is_synced old from → IsRenamed from to old new
renames old new arrived gone bytes is_whole from to distinct goes comes made has whole =
    subst (λ (v : List ℕ × List ℕ × List Event). IsRenamed v.0 v.1 old v.2) (λ i. (goes i, comes i, sym made i))
    (moved_there old arrived gone bytes is_whole (λ same. distinct (sym comes ∙ same ∙ goes)) (has ∙ ap (get (found old)) (sym goes)) (whole ∙ ap (is_synced old) (sym goes)))

-- each content that a crash may leave under one name is left by some crash
pub may_be_left : (events : List Event) (name : List ℕ) (left : Option (List ℕ)) → MayStand events name left
    → (files : Files) × MayStay (drop (length events - length events) events) files × (get files name ≡ left)
may_be_left events name left may = (
  bound name left (found events),
  subst (λ (l : List Event). MayStay l (bound name left (found events))) (newest events) (λ other.
      subst (MayStand events other) (sym (get-bound name left (found events) other))
      (elim (bytes_eq other name) as (λ b. bytes_eq other name ≡ b → MayStand events other (cond b left (get (found events) other))) [
        | true ↦ λ is. subst (λ (n : List ℕ). MayStand events n left) (sym ((bytes_eq-Decides other name).0 is)) may
        | false ↦ λ differs. found_may_stand events other
      ] refl)),
  bound_here name left (found events),
)

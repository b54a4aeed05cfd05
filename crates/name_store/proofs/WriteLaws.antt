-- Writing items to places of a name's array, and reading items.
use Rattle.std.proofs.Common.{◌≡◌, ◌*◌, ◌<◌, ◌≤◌, ℕ, Bool, true, false, List, [], ◌∷◌, length, map, refl, sym, ap, subst, ◌∙◌, cond, Option, Some, None, is_some, nat_eq, All, arith}
use Rattle.name_store.proofs.Words.{unsigned_tied, Contains, get, get-insert, same_map, nat_cmp-IsAntisymmetric, nat_cmp_total, AllByRecursion, lookup, option_map, eqb-true, All-contains, All-head, All-tail, All-from_recursion, same_Some, items_in, item_size, decode_item, Layout, offsets, Fits, offsets_of, with_items, places_of, State, Array, Buffer, find_array, buffer_of, descr_of, span_of, addresses, write, written, is_in_use, is_bound, Holds, LiesAt, LiesIn, descr_at, start_at, span_at, target_offsets, FitsBuffer, LeadsTo, IsHome, HasNew, array_at, named_array, buffer_in, slot_at, present, Entry, Slot, Target}
use Rattle.std.specs.FinMap.{insert}
use Rattle.name_store.proofs.BlockLaws.{length-items_in}
use Rattle.name_store.proofs.PartLaws.{part-some}
use Rattle.name_store.proofs.LaidLaws.{laid-same, places-within}
use Rattle.name_store.proofs.PutLaws.{with_items-items}
use Rattle.name_store.proofs.NameLaws.{TestsName, all-both, found-used}
use Rattle.name_store.proofs.SlotLaws.{get-buffers}
use Rattle.name_store.proofs.StateLaws.{none-found}
use Rattle.name_store.proofs.ShowLaws.{buffer-found}
use Rattle.name_store.proofs.PastLaws.{Slots}

-- a property of all elements holds for some of them
all-among : (P : ℕ → Type 0) (xs ys : List ℕ) → AllByRecursion P xs → All (Contains xs) ys → AllByRecursion P ys
all-among P xs [] all among = tt
all-among P xs (y ∷ ys) all among =
    (All-contains P xs y (All-from_recursion P xs all) (All-head (Contains xs) y ys among), all-among P xs ys all (All-tail (Contains xs) y ys among))

-- a bound name has an entry
pub entry-bound : (es : List (List ℕ × Entry)) (slots : Slots) (h : Holds es slots) (test : List ℕ → Bool) (name : List ℕ) → TestsName test name → is_bound (present es slots) name ≡ true → is_some (lookup test es) ≡ true
entry-bound es slots h test name is bound =
    elim (lookup test es) as (λ (o : Option Entry). lookup test es ≡ o → is_some o ≡ true) [
      | None ↦ λ none. sym (ap is_some (none-found es slots h test name is none)) ∙ bound
      | Some e ↦ λ _. refl
    ] refl

module _ (es : List (List ℕ × Entry)) (slots : Slots) (name : List ℕ) (number width : ℕ) (home : IsHome es slots name number width) where
  abbrev s : Slot
  s = home.slot

  abbrev e : Entry
  e = home.entry

  abbrev state : State
  state = present es slots

  there : slot_at slots e.number ≡ Some s
  there = ap (slot_at slots) (sym home.number_is) ∙ home.there

  pub home-some : 1 ≤ width
  home-some = subst (λ n. 1 ≤ n) (sym home.width_is) (part-some s.descr s.is_whole.legal e.path home.lies.laid.part)

  -- the name's array
  module _ (array : Array) (found : find_array (map named_array es) name ≡ Some array) where
    same : array ≡ array_at e
    same = same_Some array (array_at e) (sym found ∙ home.found)

    buffer : buffer_of state array ≡ buffer_in s
    buffer = ap (buffer_of state) same ∙ buffer-found es slots e s (found-used (map named_array es) name (array_at e) home.found) there

    type-is : (buffer_of state array).descr ≡ s.descr
    type-is = ap (λ (b : Buffer). b.descr) buffer

    path-is : array.path ≡ e.path
    path-is = ap (λ (a : Array). a.path) same

    own-is : descr_of state array ≡ descr_at s.descr e.path
    own-is = λ i. descr_at (type-is i) (path-is i)

    start-is : start_at (buffer_of state array).descr array.path ≡ start_at s.descr e.path
    start-is = λ i. start_at (type-is i) (path-is i)

    pub size-is : item_size (descr_of state array) ≡ width
    size-is = ap item_size own-is ∙ sym home.width_is

    -- a layout that fits the array's buffer
    pub home-fits : (l : Layout) → FitsBuffer state array l → Fits l (length s.block) width
    home-fits l fits = subst (Fits l (length s.block)) size-is (subst (λ n. Fits l n (item_size (descr_of state array))) len fits)
      where
        counted : length (buffer_of state array).items ≡ s.items
        counted = ap (λ (b : Buffer). length b.items) buffer ∙ length-items_in s.descr s.items s.block

        len : length (buffer_of state array).items * item_size (buffer_of state array).descr ≡ length s.block
        len = (λ i. counted i * item_size (type-is i)) ∙ sym s.is_whole.whole

    pub within : (places : List ℕ) → All (Contains array.places) places → AllByRecursion (λ place. place < s.items) places
    within places among =
        all-among (λ place. place < s.items) (places_of e.item (offsets e.layout)) places
        (places-within s.descr s.items (array_at e) e.layout e.writable home.lies.laid (part-some s.descr s.is_whole.legal e.path home.lies.laid.part)) (subst (λ (a : Array). All (Contains a.places) places) same among)

    pub spread : (os places : List ℕ) → os ≡ addresses state (record array { places = places }) → os ≡ offsets_of (item_size s.descr) (start_at s.descr e.path) places
    spread os places is = is ∙ λ i. offsets_of (item_size (type-is i)) (start-is i) places

  -- the bytes of its buffer are replaced
  module _ (h : Holds es slots) (bytes : List ℕ) (after : Slots) (new : HasNew slots number s bytes after) where
    abbrev s' : Slot
    s' = new.new

    still : (x : Entry) → LiesAt (slot_at slots x.number) x → LiesAt (slot_at after x.number) x
    still x here =
        elim (nat_eq x.number number) as (λ t. nat_eq x.number number ≡ t → slot_at after x.number ≡ cond t (Some s') (slot_at slots x.number) → LiesAt (slot_at after x.number) x) [
          | true ↦ λ same-number there-is.
              let l : LiesIn s x = subst (λ o. LiesAt o x) (ap (slot_at slots) (eqb-true x.number number same-number) ∙ home.there) here in
              subst (λ o. LiesAt o x) (sym there-is) (moved l)
          | false ↦ λ _ there-is. subst (λ o. LiesAt o x) (sym there-is) here
        ] refl (new.set x.number)
      where
        moved : LiesIn s x → LiesIn s' x
        moved l = record {
          item = l.item ∙ ap item_size (sym new.rewritten.descr);
          laid = laid-same s.descr s'.descr s.items s'.items (array_at x) (array_at x) x.layout x.layout x.writable x.writable (sym new.rewritten.descr) (sym new.rewritten.items) refl refl refl l.laid;
        }

    pub written-holds : Holds es after
    written-holds = record {
      few = h.few;
      lie = all-both (λ x. LiesAt (slot_at slots x.number) x) (λ x. LiesAt (slot_at slots x.number) x) (λ x. LiesAt (slot_at after x.number) x) (λ x here _. still x here) es h.lie h.lie;
    }

    -- parts of items are written at the target's offsets
    module _ (target : Target) (array : Array) (places : List ℕ) (leads : LeadsTo state name target array places) (parts : List (List ℕ)) (whole : AllByRecursion (λ part. length part ≡ width) parts) (put-is : bytes ≡ with_items (target_offsets target) parts s.block) where
      abbrev new-buffer : Buffer
      new-buffer = record (buffer_of state array) { items = write (span_of state array) places (map (decode_item (descr_of state array)) parts) (buffer_of state array).items }

      items-written : write (span_of state array) places (map (decode_item (descr_of state array)) parts) (buffer_of state array).items ≡ items_in s'.descr s'.items s'.block
      items-written =
          (λ i. write (span_at (type-is array leads.found i) (path-is array leads.found i)) places (map (decode_item (own-is array leads.found i)) parts) (ap (λ (b : Buffer). b.items) (buffer array leads.found) i))
          ∙ sym (with_items-items s.descr s.is_whole.legal e.path home.lies.laid.part s.items places parts s.block (within array leads.found places leads.among)
          (subst (λ n. AllByRecursion (λ part. length part ≡ n) parts) home.width_is whole) (omega (arith, s.is_whole.whole)))
          ∙ ap (items_in s.descr s.items) (ap (λ os. with_items os parts s.block) (sym (spread array leads.found (target_offsets target) places leads.offsets_are)) ∙ sym (new.rewritten.block ∙ put-is))
          ∙ λ i. items_in (sym new.rewritten.descr i) (sym new.rewritten.items i) s'.block

      new-is : new-buffer ≡ buffer_in s'
      new-is = λ i. record { descr = (type-is array leads.found ∙ sym new.rewritten.descr) i; items = items-written i }

      number-is : number ≡ array.buffer
      number-is = home.number_is ∙ ap (λ (a : Array). a.buffer) (sym (same array leads.found))

      pub written-state : present es after ≡ written state array places (map (decode_item (descr_of state array)) parts)
      written-state = λ i. record { names = map named_array es; buffers = buffers i; depth = 0; kept = [] }
        where
          with_one : (t : Bool) (o : Option Slot) → option_map buffer_in (cond t (Some s') o) ≡ cond t (Some (buffer_in s')) (option_map buffer_in o)
          with_one true o = refl
          with_one false o = refl

          -- the buffer is in use
          there-too : (q : ℕ) → cond (is_in_use (map named_array es) q) (cond (nat_eq q number) (Some (buffer_in s')) (option_map buffer_in (slot_at slots q))) None
              ≡ cond (nat_eq q number) (Some (buffer_in s')) (cond (is_in_use (map named_array es) q) (option_map buffer_in (slot_at slots q)) None)
          there-too q =
              elim (nat_eq q number) as (λ t. nat_eq q number ≡ t → cond (is_in_use (map named_array es) q) (cond t (Some (buffer_in s')) (option_map buffer_in (slot_at slots q))) None
              ≡ cond t (Some (buffer_in s')) (cond (is_in_use (map named_array es) q) (option_map buffer_in (slot_at slots q)) None)) [
                | true ↦ λ is.
                    ap (λ t. cond t (Some (buffer_in s')) None)
                    (ap (is_in_use (map named_array es)) (eqb-true q number is ∙ home.number_is) ∙ found-used (map named_array es) name (array_at e) home.found)
                | false ↦ λ _. refl
              ] refl

          buffers : (present es after).buffers ≡ insert state.buffers array.buffer new-buffer
          buffers = same_map nat_cmp_total nat_cmp-IsAntisymmetric _ _ (λ q.
              get-buffers es after q
              ∙ ap (λ o. cond (is_in_use (map named_array es) q) o None) (ap (option_map buffer_in) (new.set q) ∙ with_one (nat_eq q number) (slot_at slots q))
              ∙ there-too q
              ∙ ap (λ o. cond (nat_eq q number) (Some (buffer_in s')) o) (sym (get-buffers es slots q))
              ∙ ap (λ t. cond t (Some (buffer_in s')) (get state.buffers q)) (sym (unsigned_tied q number))
              ∙ sym (get-insert nat_cmp_total state.buffers number (buffer_in s') q))
              ∙ λ i. insert state.buffers (number-is i) (sym new-is i)

-- Views: places of an array in an existing buffer.
use Rattle.std.proofs.Common.{◌≡◌, ◌<◌, ◌*◌, ℕ, Bool, List, length, map, refl, sym, ap, subst, ◌∙◌, cond, Option, Some, None, is_some, true, false, unwrap_or, arith}
use Rattle.name_store.proofs.Words.{option_map, Descr, item_from, item_size, Layout, offsets, Fits, offsets_of, places_of, Array, Buffer, buffer_of, descr_of, is_in_use, no_buffer, placed_item, read, LiesIn, descr_at, start_at, span_at, part_at, IsPathOf, array_at, named_array, buffer_in, slot_at, present, IsLaidOut, IsViewIn, Entry, Slot, places-offsets}
use Rattle.name_store.proofs.BlockLaws.{length-items_in}
use Rattle.name_store.proofs.LaidLaws.{laid-same, places-within}
use Rattle.name_store.proofs.PartLaws.{part-some, part-within}
use Rattle.name_store.proofs.PutLaws.{items-read}
use Rattle.name_store.proofs.SlotLaws.{get-buffers, get-used}
use Rattle.name_store.proofs.PastLaws.{Slots}

module _ (es : List (List ℕ × Entry)) (slots : Slots) (number : ℕ) (path : List ℕ) (layout : Layout) (writable : Bool) (array : Array) (view : IsViewIn (present es slots) number path layout writable array) where
  in-use : (is_in_use (map named_array es) number ≡ true) × (is_some (slot_at slots number) ≡ true)
  in-use = by (is_in_use (map named_array es) number) (slot_at slots number) (ap is_some (sym (get-buffers es slots number)) ∙ view.there)
    where
      by : (t : Bool) (o : Option Slot) → is_some (cond t (option_map buffer_in o) None) ≡ true → (t ≡ true) × (is_some o ≡ true)
      by true None h = let no : ⊥ = cc in absurd no
      by true (Some s) h = (refl, refl)
      by false o h = let no : ⊥ = cc in absurd no

  pub view-used : is_in_use (map named_array es) number ≡ true
  view-used = in-use.0

  pub view-slot : (s : Slot) × (slot_at slots number ≡ Some s)
  view-slot = occupied (slot_at slots number) refl in-use.1
    where
      occupied : (o : Option Slot) → slot_at slots number ≡ o → is_some o ≡ true → (s : Slot) × (slot_at slots number ≡ Some s)
      occupied None was there = let no : ⊥ = cc in absurd no
      occupied (Some s) was there = (s, was)

  pub view-occupied : is_some (slot_at slots number) ≡ true
  view-occupied = ap is_some view-slot.1

  slot-buffer : (s : Slot) → slot_at slots number ≡ Some s → buffer_of (present es slots) array ≡ buffer_in s
  slot-buffer s there = ap (λ n. buffer_of (present es slots) (record array { buffer = n })) (sym view.number_is) ∙ ap (λ o. unwrap_or o no_buffer) (get-used es slots number view-used ∙ ap (option_map buffer_in) there)

  -- what the layout shows in its slot
  module _ (s : Slot) (there : slot_at slots number ≡ Some s) where
    slot-descr : (buffer_of (present es slots) array).descr ≡ s.descr
    slot-descr = ap (λ (b : Buffer). b.descr) (slot-buffer s there)

    slot-count : length (buffer_of (present es slots) array).items ≡ s.items
    slot-count = ap (λ (b : Buffer). length b.items) (slot-buffer s there) ∙ length-items_in s.descr s.items s.block

    slot-laid : IsLaidOut s.descr s.items array layout writable
    slot-laid = laid-same (buffer_of (present es slots) array).descr s.descr (length (buffer_of (present es slots) array).items) s.items array array layout layout writable writable slot-descr slot-count refl refl refl view.laid

    pub view-fits : Fits layout (length s.block) (item_size (descr_of (present es slots) array))
    view-fits =
        subst (λ n. Fits layout n (item_size (descr_of (present es slots) array))) (sym s.is_whole.whole) (subst (λ (d : Descr). Fits layout (s.items * item_size s.descr) (item_size (descr_at d array.path))) (sym slot-descr) slot-laid.fits)

    pub view-reads : read (present es slots) array ≡ map (item_from (descr_of (present es slots) array) s.block) (offsets layout)
    view-reads =
        ap (λ (b : Buffer). map (λ place. part_at (span_at b.descr array.path) (placed_item b.items place)) array.places) (slot-buffer s there)
        ∙ items-read s.descr s.is_whole.legal array.path slot-laid.part s.items s.block array.places
        (places-within s.descr s.items array layout writable slot-laid (part-some s.descr s.is_whole.legal array.path slot-laid.part))
        ∙ λ i. map (item_from (descr_at (sym slot-descr i) array.path) s.block) (sym slot-laid.places i)

  module _ (v : Entry) (s : Slot) (there : slot_at slots number ≡ Some s) (v-number : v.number ≡ number) (layout-is : v.layout ≡ layout) (item-is : v.item ≡ item_size s.descr) (writable-is : v.writable ≡ writable) (path-is : v.path ≡ path) where
    buffer : buffer_of (present es slots) array ≡ buffer_in s
    buffer = slot-buffer s there

    type-is : (buffer_of (present es slots) array).descr ≡ s.descr
    type-is = ap (λ (b : Buffer). b.descr) buffer

    counted : length (buffer_of (present es slots) array).items ≡ s.items
    counted = ap (λ (b : Buffer). length b.items) buffer ∙ length-items_in s.descr s.items s.block

    own-path : v.path ≡ array.path
    own-path = path-is ∙ view.path_is

    part : IsPathOf s.descr v.path
    part = subst (λ (b : Buffer). IsPathOf b.descr v.path) buffer (subst (IsPathOf (buffer_of (present es slots) array).descr) (sym own-path) view.laid.part)

    spread : offsets v.layout ≡ offsets_of v.item (start_at s.descr v.path) array.places
    spread = ap offsets layout-is ∙ view.laid.places ∙ λ i. offsets_of ((ap item_size type-is ∙ sym item-is) i) (start_at (type-is i) (sym own-path i)) array.places

    starts-within : start_at s.descr v.path < v.item
    starts-within = omega (arith, item-is, part-within s.descr s.is_whole.legal v.path part, part-some s.descr s.is_whole.legal v.path part)

    places : places_of v.item (offsets v.layout) ≡ array.places
    places = ap (places_of v.item) spread ∙ places-offsets v.item (start_at s.descr v.path) array.places starts-within

    pub view-array : array_at v ≡ array
    view-array = λ i. record { buffer = (v-number ∙ view.number_is) i; path = own-path i; shape = (ap (λ (l : Layout). l.shape) layout-is ∙ view.laid.shape) i; places = places i; writable = (writable-is ∙ view.laid.writable_is) i }

    pub view-lies : LiesIn s v
    view-lies = record {
      item = item-is;
      laid = laid-same (buffer_of (present es slots) array).descr s.descr (length (buffer_of (present es slots) array).items) s.items array (array_at v) layout v.layout writable v.writable
          type-is counted (sym view-array) (sym layout-is) (sym writable-is) view.laid;
    }

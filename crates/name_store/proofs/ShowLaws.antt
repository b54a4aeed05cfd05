-- What a lookup shows: an entry, and the slot that its array lies in.
use Rattle.std.proofs.Common.{◌≡◌, ◌≤◌, ◌<◌, ◌+◌, ◌*◌, ℕ, suc, All, arith, List, [], ◌∷◌, length, map, true, refl, sym, ap, subst, ◌∙◌, Option, Some, is_some, unwrap_or}
use Rattle.name_store.proofs.Words.{get, AllByRecursion, option_map, All-from_recursion, mul-suc, mul-le-mul_left, Descr, item_size, fields, offsets, offsets_of, max_bytes, items_in, item_from, State, Array, Buffer, buffer_of, descr_of, placed_item, no_buffer, read, is_in_use, descr_at, start_at, span_at, part_at, LiesIn, Shows, Finds, Ring, array_at, named_array, buffer_in, slot_at, present, state_of, Change, ArrayRef, Entry, Slot}
use Rattle.name_store.proofs.BlockLaws.{length-items_in}
use Rattle.name_store.proofs.LaidLaws.{laid-same, places-within}
use Rattle.name_store.proofs.OnceLaws.{no_place_twice}
use Rattle.name_store.proofs.FieldSplits.{type-some}
use Rattle.name_store.proofs.PartLaws.{part-deeper, part-some, part-within}
use Rattle.name_store.proofs.PutLaws.{items-read}
use Rattle.name_store.proofs.SlotLaws.{get-used}
use Rattle.name_store.proofs.PastLaws.{Slots}

pub buffer-found : (es : List (List ℕ × Entry)) (slots : Slots) (e : Entry) (s : Slot) → is_in_use (map named_array es) e.number ≡ true → slot_at slots e.number ≡ Some s → buffer_of (present es slots) (array_at e) ≡ buffer_in s
buffer-found es slots e s used there = ap (λ o. unwrap_or o no_buffer) (get-used es slots e.number used ∙ ap (option_map buffer_in) there)

-- the parts of the items at places lie within the bytes
pub inside-places : (item start width n len : ℕ) (places : List ℕ) → AllByRecursion (λ place. place < n) places → n * item ≡ len → start + width ≤ item → AllByRecursion (λ offset. offset + width ≤ len) (offsets_of item start places)
inside-places item start width n len [] within whole few = tt
inside-places item start width n len (place ∷ places) within whole few =
    let most : item * suc place ≤ item * n = mul-le-mul_left item within.0 in
    (omega (arith, mul-suc item place), inside-places item start width n len places within.1 whole few)

module _ (es : List (List ℕ × Entry)) (slots : Slots) (e : Entry) (s : Slot) (r : ArrayRef) (used : is_in_use (map named_array es) e.number ≡ true) (there : slot_at slots e.number ≡ Some s) (lies : LiesIn s e)
    (number-is : r.number ≡ e.number) (writable-is : r.writable ≡ e.writable) (layout-is : r.layout.now ≡ e.layout) (path-is : r.path.now ≡ e.path)
    (descr-is : r.descr.now ≡ descr_at s.descr e.path) (block-is : r.block.now ≡ s.block) where
  abbrev array : Array
  array = array_at e

  abbrev buffer : Buffer
  buffer = buffer_of (present es slots) array

  found : buffer ≡ buffer_in s
  found = buffer-found es slots e s used there

  type-is : buffer.descr ≡ s.descr
  type-is = ap (λ (b : Buffer). b.descr) found

  own-is : descr_of (present es slots) array ≡ r.descr.now
  own-is = ap (λ d. descr_at d e.path) type-is ∙ sym descr-is

  counted : length buffer.items ≡ s.items
  counted = ap (λ (b : Buffer). length b.items) found ∙ length-items_in s.descr s.items s.block

  spread : offsets r.layout.now ≡ offsets_of (item_size s.descr) (start_at s.descr e.path) array.places
  spread = ap offsets layout-is ∙ lies.laid.places

  within : AllByRecursion (λ place. place < s.items) array.places
  within = places-within s.descr s.items array e.layout e.writable lies.laid (part-some s.descr s.is_whole.legal e.path lies.laid.part)

  size-is : item_size (descr_at s.descr e.path) ≡ item_size r.descr.now
  size-is = ap item_size (sym descr-is)

  shown-reads : read (present es slots) array ≡ map (item_from r.descr.now r.block.now) (offsets r.layout.now)
  shown-reads =
      ap (λ (b : Buffer). map (λ place. part_at (span_at b.descr e.path) (placed_item b.items place)) array.places) found
      ∙ items-read s.descr s.is_whole.legal e.path lies.laid.part s.items s.block array.places within
      ∙ ap (map (item_from (descr_at s.descr e.path) s.block)) (sym spread)
      ∙ λ i. map (item_from (sym descr-is i) (sym block-is i)) (offsets r.layout.now)

  shown-inside : All (λ offset. offset + item_size r.descr.now ≤ length r.block.now) (offsets r.layout.now)
  shown-inside =
      subst (All (λ offset. offset + item_size r.descr.now ≤ length r.block.now)) (sym spread)
      (All-from_recursion _ _ (inside-places (item_size s.descr) (start_at s.descr e.path) (item_size r.descr.now) s.items (length r.block.now) array.places within
      (sym s.is_whole.whole ∙ ap length (sym block-is))
      (omega (arith, size-is, part-within s.descr s.is_whole.legal e.path lies.laid.part))))

  occupied : is_some (get (present es slots).buffers r.number) ≡ true
  occupied = ap (λ n. is_some (get (present es slots).buffers n)) number-is ∙ ap is_some (get-used es slots e.number used ∙ ap (option_map buffer_in) there)

  pub shown : (ring : Ring Change) → Shows (state_of es slots ring) array r
  shown ring = record {
    view = record {
      number_is = number-is;
      path_is = path-is;
      there = occupied;
      laid = laid-same s.descr buffer.descr s.items (length buffer.items) array array e.layout r.layout.now e.writable r.writable
          (sym type-is) (sym counted) refl (sym layout-is) (sym writable-is) lies.laid;
    };
    descr = own-is;
    whole = ap length block-is ∙ s.is_whole.whole ∙ λ i. sym counted i * item_size (sym type-is i);
    some = subst (λ (d : Descr). 1 ≤ item_size d) (sym type-is) (type-some s.descr s.is_whole.legal);
    starts = subst (λ (d : Descr). start_at d e.path < item_size d) (sym type-is) (omega (arith, part-within s.descr s.is_whole.legal e.path lies.laid.part, part-some s.descr s.is_whole.legal e.path lies.laid.part));
    small = subst (λ (b : List ℕ). length b ≤ max_bytes) (sym block-is) s.is_whole.small;
    items = ap (λ (b : Buffer). b.items) found ∙ λ i. items_in (sym type-is i) (sym counted i) (sym block-is i);
    reads = shown-reads;
    deeper = λ k low. let short : length e.path < 4 = part-deeper s.descr s.is_whole.legal e.path lies.laid.part k (subst (λ (d : Descr). k < length (fields d)) descr-is low) in omega (arith, short, ap length path-is);
    inside = shown-inside;
    once = no_place_twice s e lies;
  }

pub finds : (s : State) (there : Option Array) (a : Array) (r : ArrayRef) → there ≡ Some a → Shows s a r → Finds s there (Some r)
finds s there a r is shows = subst (λ f. Finds s f (Some r)) (sym is) shows

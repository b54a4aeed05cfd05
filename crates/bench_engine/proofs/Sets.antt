-- Parts of an array: the items that are read, and how many bytes are written.
use Rattle.std.proofs.Common.{◌≡◌, ◌≤◌, ◌+◌, ◌*◌, ℕ, zero, suc, List, [], ◌∷◌, length, map, refl, sym, ap, ◌∙◌, subst, All, get_or, arith}
use Rattle.bench_engine.proofs.Words.{Contains, map-map, get_or-map, All-contains, Descr, item_size, item_from, Layout, count, max_bytes, offsets, IsNested, offsets_of, length-offsets, offsets_within, State, buffer_of, read, start_at, part_at, span_of, placed_item, Shows, ArrayRef, Array, LiesIn}
use Rattle.bench_engine.proofs.Nested.{nested-fits}

-- ---- parts

-- ---- the items of a part

same-each : {A B : Type 0} (f g : A → B) (xs : List A) → map f xs ≡ map g xs → All (λ x. f x ≡ g x) xs
same-each f g xs same = λ k d below. sym (get_or-map f xs k d (f d) below) ∙ ap (λ l. get_or l k (f d)) same ∙ get_or-map g xs k d (f d) below

-- the item at each place of an array is the one at its address
pub item-at : (s : State) (a : Array) (r : ArrayRef) (place : ℕ) → Shows s a r → Contains a.places place →
    part_at (span_of s a) (placed_item (buffer_of s a).items place) ≡ item_from r.descr.now r.block.now (item_size (buffer_of s a).descr * place + start_at (buffer_of s a).descr a.path)
item-at s a r place shows there =
    All-contains (λ place. part_at (span_of s a) (placed_item (buffer_of s a).items place) ≡ item_from r.descr.now r.block.now (item_size (buffer_of s a).descr * place + start_at (buffer_of s a).descr a.path)) a.places place
    (same-each (λ place. part_at (span_of s a) (placed_item (buffer_of s a).items place)) (λ place. item_from r.descr.now r.block.now (item_size (buffer_of s a).descr * place + start_at (buffer_of s a).descr a.path)) a.places
    (shows.reads ∙ ap (map (item_from r.descr.now r.block.now)) shows.view.laid.places ∙ map-map (item_from r.descr.now r.block.now) (λ place. item_size (buffer_of s a).descr * place + start_at (buffer_of s a).descr a.path) a.places))
    there

pub items-at : (s : State) (a : Array) (r : ArrayRef) (places : List ℕ) → Shows s a r → All (Contains a.places) places →
    map (λ place. part_at (span_of s a) (placed_item (buffer_of s a).items place)) places ≡ map (item_from r.descr.now r.block.now) (offsets_of (item_size (buffer_of s a).descr) (start_at (buffer_of s a).descr a.path) places)
items-at s a r [] shows among = refl
items-at s a r (place ∷ places) shows among = λ i. item-at s a r place shows (among zero place (omega arith)) i ∷ items-at s a r places shows (λ k d below. among (suc k) d (omega (arith, below))) i

pub read-part : (s : State) (a part : Array) (r : ArrayRef) (layout : Layout) → Shows s a r → LiesIn s a part layout → read s part ≡ map (item_from r.descr.now r.block.now) (offsets layout)
read-part s a part r layout shows lies =
    ap (read s) lies.part_is ∙ items-at s a r lies.places shows lies.among ∙ ap (map (item_from r.descr.now r.block.now)) (sym lies.offsets_are)

-- the items of a part lie in the block
pub part-inside : (s : State) (a part : Array) (r : ArrayRef) (layout : Layout) → Shows s a r → LiesIn s a part layout → All (λ offset. offset + item_size r.descr.now ≤ length r.block.now) (offsets layout)
part-inside s a part r layout shows lies = subst (λ (n : ℕ). All (λ offset. offset + item_size r.descr.now ≤ n) (offsets layout)) (sym shows.whole)
    (subst (λ (d : Descr). All (λ offset. offset + item_size d ≤ length (buffer_of s a).items * item_size (buffer_of s a).descr) (offsets layout)) shows.descr (offsets_within layout _ _ lies.fits))

-- items that are to be written have no more bytes than the block
pub target-few : (s : State) (a part : Array) (r : ArrayRef) (layout : Layout) → Shows s a r → LiesIn s a part layout → 1 ≤ item_size r.descr.now → IsNested (offsets layout) (item_size r.descr.now) → count layout.shape * item_size r.descr.now ≤ max_bytes
target-few s a part r layout shows lies some nested =
    let fits : length (offsets layout) * item_size r.descr.now ≤ length r.block.now = nested-fits (item_size r.descr.now) (length r.block.now) (offsets layout) some (part-inside s a part r layout shows lies) nested in
    let counted : length (offsets layout) * item_size r.descr.now ≡ count layout.shape * item_size r.descr.now = ap (λ n. n * item_size r.descr.now) (length-offsets layout) in
    omega (arith, fits, counted, shows.small)

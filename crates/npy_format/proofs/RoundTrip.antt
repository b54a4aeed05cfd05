-- The file of an array loads as that array.
use Rattle.std.proofs.Common.{◌≡◌, ℕ, zero, suc, ◌+◌, ◌-◌, ◌*◌, ◌<◌, ◌≤◌, true, false, Bool, pos, List, [], ◌∷◌, ◌++◌, map, length, get_or, take, drop, replicate, reverse, codes, All, Ok, refl, sym, ap, Result, ◌∙◌, arith, append_assoc, length-append, zero-mul, suc-mul, if◌then◌else◌}
use Rattle.npy_format.proofs.Words.{flat_map, range_with_len, take-append_seam, drop-append_seam, drop-append-add, le-leb, append-nil, length-map, get_or-map, ext_get_or, length-replicate, reverse-reverse, length-map-range_with_len, get_or-map-range_with_len, item_at, length-item_at, Leaf, Scalar, Descr, Refusal, ◌>>=◌, fortran_order, length-fortran, LeafValue, number, size, decode, encode, truth, item_size, leaves_of, AreInOrder, encode_from, encode_item, decode_item, AreInOrder-within, leaves_in_order, item_from, AreBytes, bytes-drop, bytes-take, truth-twice, length-encode, max_bytes, count, indexes, rank, length-indexes, rank-lt, get_or-indexes, index_at, count-reverse, IsIndex-reverse, IsShape, offsets_in, BoolScalar, ScalarDescr, RecordDescr, Header, load, load_behind, file_order, data_size, split_front, split_header, header, written_text, written_header, ordered, file_of, LoadsAs, IsSound, read_leaf}
use Rattle.npy_format.proofs.GatherLaws.{fortran-within}
use Rattle.npy_format.proofs.WriterLaws.{ordered-items}
use Rattle.npy_format.proofs.ScalarBytes.{scalar_again}
use Rattle.npy_format.proofs.WrittenItemLaws.{length-written}
use Rattle.npy_format.proofs.LoadLaws.{written_split, front_split}
use Rattle.npy_format.proofs.ReadHeaders.{header_read}
use Rattle.npy_format.proofs.TextLengths.{short_text}

-- ---- one item

value_again : (scalar : Scalar) (bytes : List ℕ) → length bytes ≡ size scalar → AreBytes bytes → decode scalar (encode scalar (decode scalar bytes)) ≡ decode scalar bytes
value_again BoolScalar bytes long are =
    let n = get_or bytes 0 0 + 256 * 0 in
    let same : truth (truth n) + 256 * 0 ≡ truth (truth n) = omega arith in
    ap (λ m. number (pos (truth m))) same ∙ ap (λ m. number (pos m)) (ap truth (truth-twice n) ∙ truth-twice n)
value_again scalar bytes long are = ap (decode scalar) (scalar_again scalar bytes refl long are)

leaves_again : (front : List ℕ) (from bytes : ℕ) (leaves : List Leaf) (item : List ℕ) → length front ≡ from → AreInOrder from leaves bytes → length item ≡ bytes → AreBytes item
    → map (read_leaf (front ++ encode_from from leaves (map (read_leaf item) leaves) bytes)) leaves ≡ map (read_leaf item) leaves
leaves_again front from bytes [] item begins order long are = refl
leaves_again front from bytes (leaf ∷ leaves) item begins order long are =
    let at = leaf.at in
    let n = size leaf.scalar in
    let zeros : List ℕ = replicate (at - from) 0 in
    let value = read_leaf item leaf in
    let enc = encode leaf.scalar value in
    let later = encode_from (at + n) leaves (map (read_leaf item) leaves) bytes in
    let whole = front ++ ((zeros ++ enc) ++ later) in
    let low = AreInOrder-within (at + n) leaves bytes order.2 in
    let gap : length zeros ≡ at - from = length-replicate (at - from) 0 in
    let wide : length enc ≡ n = length-encode leaf.scalar value in
    let first : List ℕ = front ++ zeros in
    let next : List ℕ = first ++ enc in
    let first-long : length first ≡ at = omega (arith, length-append front zeros, gap, begins, order.0) in
    let next-long : length next ≡ at + n = omega (arith, length-append first enc, first-long, wide) in
    let joined : whole ≡ next ++ later = sym (append_assoc front (zeros ++ enc) later) ∙ ap (λ l. l ++ later) (sym (append_assoc front zeros enc)) in
    let joined' : next ++ later ≡ first ++ (enc ++ later) = append_assoc first enc later in
    let here : item_at at n (next ++ later) ≡ enc =
    (λ i. take (sym wide i) (drop (sym first-long i) (joined' i))) ∙ ap (take (length enc)) (drop-append_seam first (enc ++ later)) ∙ take-append_seam enc later in
    let item-long : length (item_at at n item) ≡ n = length-item_at at n item (omega (arith, low, long)) in
    ap (λ w. map (read_leaf w) (leaf ∷ leaves)) joined
    ∙ (λ i. (ap (decode leaf.scalar) here ∙ value_again leaf.scalar (item_at at n item) item-long (bytes-take n (drop at item) (bytes-drop at item are))) i ∷ leaves_again next (at + n) bytes leaves item next-long order.2 long are i)

in_order : (descr : Descr) → IsSound descr → AreInOrder 0 (leaves_of descr) (item_size descr)
in_order (ScalarDescr scalar) sound = (omega arith, sound.0, omega arith)
in_order (RecordDescr structure) sound = leaves_in_order structure sound

pub item_again : (descr : Descr) (item : List ℕ) → IsSound descr → length item ≡ item_size descr → AreBytes item → decode_item descr (encode_item descr (decode_item descr item)) ≡ decode_item descr item
item_again descr item sound long are = leaves_again [] 0 (item_size descr) (leaves_of descr) item refl (in_order descr sound) long are

item_length : (descr : Descr) (item : List ℕ) → IsSound descr → length (encode_item descr (decode_item descr item)) ≡ item_size descr
item_length descr item sound = length-written 0 (leaves_of descr) item (item_size descr) (in_order descr sound) ∙ omega arith

-- ---- all items

-- the bytes of each item are `width` bytes
abbrev AllLong : ℕ → List (List LeafValue) → (List LeafValue → List ℕ) → Type 0
AllLong width [] f = Unit {0}
AllLong width (item ∷ items) f = (length (f item) ≡ width) × AllLong width items f

nth_block : (f : List LeafValue → List ℕ) (width : ℕ) (items : List (List LeafValue)) (k : ℕ) → AllLong width items f → k < length items → item_at (width * k) width (flat_map f items) ≡ f (get_or items k [])
nth_block f width [] k long below = absurd (omega (arith, below))
nth_block f width (item ∷ items) zero long below =
    let none : width * 0 ≡ 0 = omega arith in
    (λ i. take (sym long.0 i) (drop (none i) (f item ++ flat_map f items))) ∙ take-append_seam (f item) (flat_map f items)
nth_block f width (item ∷ items) (suc k) long below =
    let next : width * suc k ≡ width + width * k = omega arith in
    ap (λ n. take width (drop n (f item ++ flat_map f items))) (next ∙ ap (λ w. w + width * k) (sym long.0))
    ∙ ap (take width) (drop-append-add (f item) (flat_map f items) (width * k))
    ∙ nth_block f width items k long.1 (omega (arith, below))

all_length : (f : List LeafValue → List ℕ) (width : ℕ) (items : List (List LeafValue)) → AllLong width items f → length (flat_map f items) ≡ length items * width
all_length f width [] long = sym (zero-mul width)
all_length f width (item ∷ items) long = omega (arith, length-append (f item) (flat_map f items), long.0, all_length f width items long.1, suc-mul (length items) width)

-- a file in which only the items follow the header
load_is : (file text items : List ℕ) (head : Header) → split_header file ≡ Ok (text, items) → header text ≡ Ok head → data_size head ≤ max_bytes → length items ≡ data_size head → load file ≡ Ok (record { head = head; items = items; rest = 0 })
unfolding load load_behind
load_is file text items head split is small whole =
    rw (split, is, le-leb (data_size head) max_bytes small) (ap (λ (r : Result (List ℕ × List ℕ) Refusal). r >>= λ body. Ok (record { head = head; items = body.0; rest = length body.1 })) body)
  where
    body : split_front (data_size head) items ≡ Ok (items, [])
    body = (λ i. split_front (sym whole i) (sym (append-nil items) i)) ∙ front_split items []

module _ (descr : Descr) (sound : IsSound descr) (block : List ℕ) (are : AreBytes block) where
  -- the value of the item at an offset
  abbrev value : ℕ → List LeafValue
  value offset = item_from descr block offset

  values_long : (offsets : List ℕ) → AllLong (item_size descr) (map value offsets) (encode_item descr)
  values_long [] = tt
  values_long (offset ∷ offsets) = (item_length descr (item_at offset (item_size descr) block) sound, values_long offsets)

  block_value : (offsets : List ℕ) (k : ℕ) → All (λ offset. offset + item_size descr ≤ length block) offsets → k < length offsets → item_from descr (flat_map (encode_item descr) (map value offsets)) (item_size descr * k) ≡ value (get_or offsets k 0)
  block_value offsets k inside below =
      let width = item_size descr in
      let item = item_at (get_or offsets k 0) width block in
      ap (decode_item descr) (nth_block (encode_item descr) width (map value offsets) k (values_long offsets) (omega (arith, below, length-map offsets value)) ∙ ap (encode_item descr) (get_or-map value offsets k 0 [] below))
      ∙ item_again descr item sound (length-item_at (get_or offsets k 0) width block (inside k 0 below)) (bytes-take width (drop (get_or offsets k 0) block) (bytes-drop (get_or offsets k 0) block are))

  -- the items of a shape, in C order of their indexes
  items_again : (fortran : Bool) (shape offsets : List ℕ) → length offsets ≡ count shape → All (λ offset. offset + item_size descr ≤ length block) offsets
      → map (item_from descr (flat_map (encode_item descr) (ordered (file_order fortran) shape (map value offsets)))) (offsets_in (file_order fortran) (item_size descr) shape) ≡ map value offsets
  items_again false shape offsets long inside =
      let width = item_size descr in
      let all = flat_map (encode_item descr) (map value offsets) in
      let places = map (λ k. width * k) (range_with_len 0 (count shape)) in
      let sized : length places ≡ count shape = length-map-range_with_len (λ k. width * k) 0 (count shape) in
      ext_get_or [] (map (item_from descr all) places) (map value offsets) (length-map places (item_from descr all) ∙ sized ∙ sym long ∙ sym (length-map offsets value)) (λ k low.
      let below : k < count shape = omega (arith, low, length-map places (item_from descr all), sized) in
      get_or-map (item_from descr all) places k 0 [] (omega (arith, below, sized))
      ∙ ap (item_from descr all) (get_or-map-range_with_len (λ j. width * j) 0 (count shape) k k 0 below (omega arith))
      ∙ block_value offsets k inside (omega (arith, below, long))
      ∙ sym (get_or-map value offsets k 0 [] (omega (arith, below, long))))
  items_again true shape offsets long inside =
      let width = item_size descr in
      let in_file = fortran_order shape offsets in
      let all = flat_map (encode_item descr) (map value in_file) in
      let place = λ (index : List ℕ). width * rank (reverse shape) (reverse index) in
      let places = map place (indexes shape) in
      let sized : length places ≡ count shape = length-map (indexes shape) place ∙ length-indexes shape in
      ap (λ written. map (item_from descr (flat_map (encode_item descr) written)) places) (ordered-items value true shape offsets long)
      ∙ ext_get_or [] (map (item_from descr all) places) (map value offsets) (length-map places (item_from descr all) ∙ sized ∙ sym long ∙ sym (length-map offsets value)) (λ k low.
      let below : k < count shape = omega (arith, low, length-map places (item_from descr all), sized) in
      let found = index_at shape k below in
      let index = found.0 in
      let here : get_or (indexes shape) k [] ≡ index = ap (λ r. get_or (indexes shape) r []) (sym found.2) ∙ get_or-indexes shape index [] found.1 in
      let back = IsIndex-reverse shape index found.1 in
      let r = rank (reverse shape) (reverse index) in
      let low' : r < length in_file = omega (arith, rank-lt (reverse shape) (reverse index) back, count-reverse shape, length-fortran shape offsets) in
      let entry : get_or in_file r 0 ≡ get_or offsets k 0 =
      get_or-map (λ i. get_or offsets (rank shape (reverse i)) 0) (indexes (reverse shape)) r [] 0 (omega (arith, rank-lt (reverse shape) (reverse index) back, length-indexes (reverse shape)))
      ∙ ap (λ i. get_or offsets (rank shape (reverse i)) 0) (get_or-indexes (reverse shape) (reverse index) [] back)
      ∙ ap (λ i. get_or offsets (rank shape i) 0) (reverse-reverse index) ∙ ap (λ j. get_or offsets j 0) found.2 in
      get_or-map (item_from descr all) places k 0 [] (omega (arith, below, sized))
      ∙ ap (item_from descr all) (get_or-map place (indexes shape) k [] 0 (omega (arith, below, length-indexes shape)) ∙ ap place here)
      ∙ block_value in_file r (fortran-within shape offsets (length block) width long inside) low'
      ∙ ap value entry
      ∙ sym (get_or-map value offsets k 0 [] (omega (arith, below, long))))

  items_length : (fortran : Bool) (shape offsets : List ℕ) → length offsets ≡ count shape → length (flat_map (encode_item descr) (ordered (file_order fortran) shape (map value offsets))) ≡ count shape * item_size descr
  items_length fortran shape offsets long =
      let in_file = if fortran then fortran_order shape offsets else offsets in
      let counted : length in_file ≡ count shape = in_either fortran in
      ap (λ l. length (flat_map (encode_item descr) l)) (ordered-items value fortran shape offsets long)
      ∙ all_length (encode_item descr) (item_size descr) (map value in_file) (values_long in_file)
      ∙ ap (λ n. n * item_size descr) (length-map in_file value ∙ counted)
    where
      in_either : (f : Bool) → length (if f then fortran_order shape offsets else offsets) ≡ count shape
      in_either true = length-fortran shape offsets
      in_either false = long

  -- ---- the file
  pub file_loads : (fortran : Bool) (shape offsets file : List ℕ) → IsShape shape → length offsets ≡ count shape → All (λ offset. offset + item_size descr ≤ length block) offsets → count shape * item_size descr ≤ max_bytes
      → file ≡ file_of descr fortran shape (map value offsets) → LoadsAs file descr shape (map value offsets)
  file_loads fortran shape offsets file is long inside small written =
      let text = written_text descr fortran shape in
      let items = flat_map (encode_item descr) (ordered (file_order fortran) shape (map value offsets)) in
      let parts = written_split text items (omega (arith, short_text descr fortran shape sound is)) in
      record {
        loaded = record { head = record { descr = descr; fortran = fortran; shape = shape }; items = items; rest = 0 };
        loads = ap load written ∙ load_is (written_header text ++ items) (text ++ (replicate parts.0 32 ++ codes "\n")) items (record { descr = descr; fortran = fortran; shape = shape }) parts.1 (header_read descr fortran shape parts.0 sound is) small (items_length fortran shape offsets long);
        same_descr = refl;
        same_shape = refl;
        same_items = items_again fortran shape offsets long inside;
        no_rest = refl;
      }

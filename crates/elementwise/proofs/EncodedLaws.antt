-- Items that are written leaf by leaf over zeros: their bytes are the encoded values.
use Rattle.std.proofs.Common.{◌≡◌, ◌+◌, ◌-◌, ◌*◌, ◌<◌, ◌≤◌, inl, inr, ℕ, zero, suc, true, pos, List, [], ◌∷◌, ◌++◌, map, length, get_or, take, drop, replicate, sym, ap, ◌∙◌, arith, append_assoc, length-append, refl, mul_comm, zero-mul, suc-mul, add-mul, mul-le-mul_right}
use Rattle.elementwise.proofs.Words.{take-add, flat_map-append, length-map, get_or-map, same_lists, drop-drop, take-replicate, drop-replicate, All-from_get_or, All-append, length-map-range_with_len, get_or-map-range_with_len, Leaf, Descr, LeafValue, number, size, encode, item_size, leaves_of, leaf_at, no_leaf, LeavesInOrder, encode_from, decode_item, encode_item, item_from, item_at, length-item_at, joined, all_joined, joined_list, item_of_joined, multiples, can_cast, cast_item, source, with_leaf, cast_items, IsLeafCast, AreItems}
use Rattle.elementwise.proofs.RowLaws.{AreBeside}
use Rattle.elementwise.proofs.CastLaws.{row-kept, each-wide, length-cast_item, leaf-encoded, one_item}

-- ---- leaves and the gaps between them

-- a range of bytes that no leaf overlaps
abbrev IsGap : List Leaf → ℕ → ℕ → Type 0
IsGap leaves at width = (k : ℕ) → k < length leaves → AreBeside at width (get_or leaves k no_leaf).at (size (get_or leaves k no_leaf).scalar)

-- a range before the first leaf
before-first : (leaf : Leaf) (leaves : List Leaf) (at width : ℕ) → at + width ≤ leaf.at → ((k : ℕ) → k < length leaves → leaf.at ≤ (get_or leaves k no_leaf).at) → IsGap (leaf ∷ leaves) at width
before-first leaf leaves at width low later zero inside = inl low
before-first leaf leaves at width low later (suc k) inside = inl (omega (arith, low, later k (omega (arith, inside))))

-- a range after the first leaf that no other leaf overlaps
behind-first : (leaf : Leaf) (leaves : List Leaf) (at width : ℕ) → leaf.at + size leaf.scalar ≤ at → IsGap leaves at width → IsGap (leaf ∷ leaves) at width
behind-first leaf leaves at width after gap zero inside = inr after
behind-first leaf leaves at width after gap (suc k) inside = gap k (omega (arith, inside))

pub cut : (bytes : List ℕ) (o a b : ℕ) → item_at o (a + b) bytes ≡ item_at o a bytes ++ item_at (o + a) b bytes
cut bytes o a b = take-add a b (drop o bytes) ∙ ap (λ rest. take a (drop o bytes) ++ take b rest) (drop-drop a o bytes)

-- from the byte `p` of an item on, these leaves are written in order, over zeros; the item begins at the offset `o`
record AreWritten (bytes : List ℕ) (o item p : ℕ) (leaves : List Leaf) (values : List LeafValue) : Type 0 where
  ends : p ≤ item
  even : length values ≡ length leaves
  from : (k : ℕ) → k < length leaves → p ≤ (get_or leaves k no_leaf).at
  within : (k : ℕ) → k < length leaves → (get_or leaves k no_leaf).at + size (get_or leaves k no_leaf).scalar ≤ item
  apart : (j k : ℕ) → j < k → k < length leaves → (get_or leaves j no_leaf).at + size (get_or leaves j no_leaf).scalar ≤ (get_or leaves k no_leaf).at
  wrote : (k : ℕ) → k < length leaves → item_at ((get_or leaves k no_leaf).at + o) (size (get_or leaves k no_leaf).scalar) bytes ≡ encode (get_or leaves k no_leaf).scalar (get_or values k (number (pos 0)))
  zeros : (at width : ℕ) → p ≤ at → at + width ≤ item → IsGap leaves at width → item_at (at + o) width bytes ≡ replicate width 0

encoded-from : (bytes : List ℕ) (o item p : ℕ) (leaves : List Leaf) (values : List LeafValue) → AreWritten bytes o item p leaves values → item_at (p + o) (item - p) bytes ≡ encode_from p leaves values item
encoded-from bytes o item p [] values are = are.zeros p (item - p) (omega arith) (omega (arith, are.ends)) (λ k inside. absurd (omega (arith, inside)))
encoded-from bytes o item p (leaf ∷ leaves) [] are = absurd (omega (arith, are.even))
encoded-from bytes o item p (leaf ∷ leaves) (value ∷ values) are =
    let w = size leaf.scalar in
    let q = leaf.at + w in
    let low : p ≤ leaf.at = are.from 0 (omega arith) in
    let fits : q ≤ item = are.within 0 (omega arith) in
    let parts : item - p ≡ (leaf.at - p) + (w + (item - q)) = omega (arith, low, fits) in
    let on : p + o + (leaf.at - p) ≡ leaf.at + o = omega (arith, low) in
    let past : leaf.at + o + w ≡ q + o = omega arith in
    let later = λ (k : ℕ) (inside : k < length leaves). are.apart 0 (suc k) (omega arith) (omega (arith, inside)) in
    let gap : item_at (p + o) (leaf.at - p) bytes ≡ replicate (leaf.at - p) 0 =
    are.zeros p (leaf.at - p) (omega arith) (omega (arith, low, fits)) (before-first leaf leaves p (leaf.at - p) (omega (arith, low)) (λ k inside. omega (arith, later k inside))) in
    let here : item_at (leaf.at + o) w bytes ≡ encode leaf.scalar value = are.wrote 0 (omega arith) in
    let rest : item_at (q + o) (item - q) bytes ≡ encode_from q leaves values item = encoded-from bytes o item q leaves values (record {
      ends = fits;
      even = omega (arith, are.even);
      from = later;
      within = λ k inside. are.within (suc k) (omega (arith, inside));
      apart = λ j k before inside. are.apart (suc j) (suc k) (omega (arith, before)) (omega (arith, inside));
      wrote = λ k inside. are.wrote (suc k) (omega (arith, inside));
      zeros = λ at width after ends gap. are.zeros at width (omega (arith, after, low)) ends (behind-first leaf leaves at width after gap);
    }) in
    ap (λ n. item_at (p + o) n bytes) parts
    ∙ cut bytes (p + o) (leaf.at - p) (w + (item - q))
    ∙ (λ i. gap i ++ item_at (on i) (w + (item - q)) bytes)
    ∙ ap (λ l. replicate (leaf.at - p) 0 ++ l) (cut bytes (leaf.at + o) w (item - q) ∙ λ i. here i ++ item_at (past i) (item - q) bytes)
    ∙ ap (λ l. replicate (leaf.at - p) 0 ++ (encode leaf.scalar value ++ l)) rest
    ∙ sym (append_assoc (replicate (leaf.at - p) 0) (encode leaf.scalar value) (encode_from q leaves values item))

-- ---- all items

-- `n` items have zeros wherever there is none of the first `k` leaves
pub record HaveZeros (to : Descr) (n k : ℕ) (bytes : List ℕ) : Type 0 where
  pub zeros : (at width : ℕ) → at + width ≤ item_size to → ((i : ℕ) → i < k → i < length (leaves_of to) → AreBeside at width (leaf_at to i).at (size (leaf_at to i).scalar)) → (j : ℕ) → j < n →
      item_at (at + j * item_size to) width bytes ≡ replicate width 0

-- zeros have them
pub all-zeros : (to : Descr) (n : ℕ) (bytes : List ℕ) → n * item_size to ≤ length bytes → bytes ≡ replicate (length bytes) 0 → HaveZeros to n 0 bytes
all-zeros to n bytes room are = record {
  zeros = λ at width fits _ j low.
      let most : suc j * item_size to ≤ n * item_size to = mul-le-mul_right (item_size to) low in
      let o = at + j * item_size to in
      ap (item_at o width) are ∙ ap (take width) (drop-replicate o (length bytes) 0) ∙ take-replicate width (length bytes - o) 0 (omega (arith, room, most, fits, suc-mul j (item_size to)));
}

-- they still do after a leaf is cast
pub zeros-stay : (from to : Descr) (other offsets bytes bytes' : List ℕ) (k : ℕ) → k < length (leaves_of to) → length offsets * item_size to ≤ length bytes → LeavesInOrder to →
    bytes' ≡ with_leaf from to other offsets k bytes → HaveZeros to (length offsets) k bytes → HaveZeros to (length offsets) (k + 1) bytes'
zeros-stay from to other offsets bytes bytes' k low room apart wrote have = record {
  zeros = λ at width fits gap j inside.
      ap (item_at (at + j * item_size to) width) wrote
      ∙ row-kept to (length offsets) at width k _ bytes room fits (apart.within k low) (gap k (omega arith) low) (each-wide from to other offsets k) j inside
      ∙ have.zeros at width fits (λ i before. gap i (omega (arith, before))) j inside;
}

-- there are zeros where the next leaf goes
pub zeros-next : (to : Descr) (n k : ℕ) (bytes : List ℕ) → HaveZeros to n k bytes → LeavesInOrder to → k < length (leaves_of to) →
    (at width j : ℕ) → (leaf_at to k).at ≤ at → at + width ≤ (leaf_at to k).at + size (leaf_at to k).scalar → j < n → item_at (at + j * item_size to) width bytes ≡ replicate width 0
zeros-next to n k bytes have apart low at width j from ends =
    have.zeros at width (omega (arith, ends, apart.within k low)) (λ i before _. inr (omega (arith, from, apart.apart i k before low))) j

module _ (from to : Descr) (other offsets bytes : List ℕ) (long : length bytes ≡ length offsets * item_size to) (can : can_cast from to ≡ true) (cast : (k : ℕ) → k < length (leaves_of to) → IsLeafCast from to other offsets bytes k)
    (k : ℕ) (have : HaveZeros to (length offsets) k bytes) (apart : LeavesInOrder to) (within : (k : ℕ) → k < length (leaves_of to) → (source from k).at + size (source from k).scalar ≤ item_size from) where
  abbrev make : ℕ → List LeafValue
  make o = cast_item from to (item_from from other o)

  abbrev row : ℕ → List ℕ
  row j = item_at (j * item_size to) (item_size to) bytes

  row-encoded : (j : ℕ) → j < length offsets → row j ≡ encode_item to (make (get_or offsets j 0))
  row-encoded j low =
      let none : 0 + j * item_size to ≡ j * item_size to = omega arith in
      let whole : item_size to - 0 ≡ item_size to = omega arith in
      (λ i. item_at (sym none i) (sym whole i) bytes)
      ∙ encoded-from bytes (j * item_size to) (item_size to) 0 (leaves_of to) (make (get_or offsets j 0)) (record {
        ends = omega arith;
        even = length-cast_item from to other (get_or offsets j 0) can;
        from = λ k inside. omega arith;
        within = apart.within;
        apart = apart.apart;
        wrote = λ k inside. leaf-encoded from to other offsets bytes j k low can inside (cast k inside) (within k inside);
        zeros = λ at width _ fits gap. have.zeros at width fits (λ i _. gap i) j low;
      })

  row-wide : (j : ℕ) → j < length offsets → length (row j) ≡ item_size to
  row-wide j low =
      let most : suc j * item_size to ≤ length offsets * item_size to = mul-le-mul_right (item_size to) low in
      length-item_at (j * item_size to) (item_size to) bytes (omega (arith, long, most, suc-mul j (item_size to)))

  row-back : (j : ℕ) → j < length offsets → decode_item to (row j) ≡ make (get_or offsets j 0)
  row-back j low = ap (item_from to bytes) (mul_comm j (item_size to)) ∙ one_item from to other offsets bytes j can low cast (λ k inside. apart.within k inside) within

  pub all-encoded : AreItems to (cast_items from to other offsets) bytes
  all-encoded =
      let values = map make offsets in
      let d = make 0 in
      let value = λ (j : ℕ). get_or values j d in
      let many : length values ≡ length offsets = length-map offsets make in
      let each : (j : ℕ) → j < length offsets → row j ≡ encode_item to (value j) = λ j low. row-encoded j low ∙ ap (encode_item to) (sym (get_or-map make offsets j 0 d low)) in
      let inside = λ (j : ℕ) (low : j < length values). let in_offsets : j < length offsets = omega (arith, low, many) in in_offsets in
      record {
        long = long ∙ ap (λ n. n * item_size to) (sym many);
        encoded = all_joined (λ j. encode_item to (value j)) (item_size to) (length offsets) bytes long each ∙ ap (joined (λ j. encode_item to (value j))) (sym many) ∙ joined_list (encode_item to) d values;
        wide = All-from_get_or (λ v. length (encode_item to v) ≡ item_size to) values d (λ j low. ap length (sym (each j (inside j low))) ∙ row-wide j (inside j low));
        back = All-from_get_or (λ v. decode_item to (encode_item to v) ≡ v) values d (λ j low.
            ap (decode_item to) (sym (each j (inside j low))) ∙ row-back j (inside j low) ∙ sym (get_or-map make offsets j 0 d (inside j low)));
      }

-- ---- adjacent items

pub no-items : (d : Descr) → AreItems d [] []
no-items d = record { long = sym (zero-mul (item_size d)); encoded = refl; wide = λ k e low. absurd (omega (arith, low)); back = λ k e low. absurd (omega (arith, low)) }

pub items-append : (d : Descr) (xs ys : List (List LeafValue)) (bytes more : List ℕ) → AreItems d xs bytes → AreItems d ys more → AreItems d (xs ++ ys) (bytes ++ more)
items-append d xs ys bytes more are are' = record {
  long = omega (arith, length-append bytes more, are.long, are'.long, ap (λ n. n * item_size d) (length-append xs ys), add-mul (length xs) (length ys) (item_size d));
  encoded = (λ i. are.encoded i ++ are'.encoded i) ∙ sym (flat_map-append (encode_item d) xs ys);
  wide = All-append (λ v. length (encode_item d v) ≡ item_size d) xs ys are.wide are'.wide;
  back = All-append (λ v. decode_item d (encode_item d v) ≡ v) xs ys are.back are'.back;
}

pub items-read : (d : Descr) (values : List (List LeafValue)) (bytes : List ℕ) → AreItems d values bytes → map (item_from d bytes) (multiples (item_size d) (length values)) ≡ values
items-read d values bytes are =
    let w = item_size d in
    let n = length values in
    let place = λ (k : ℕ). w * k in
    let counted : length (multiples w n) ≡ n = length-map-range_with_len place 0 n in
    let long = length-map (multiples w n) (item_from d bytes) in
    same_lists (map (item_from d bytes) (multiples w n)) values (long ∙ counted) (λ j v inside.
    let low : j < n = omega (arith, inside, long, counted) in
    let value = λ (k : ℕ). get_or values k v in
    get_or-map (item_from d bytes) (multiples w n) j 0 v (omega (arith, low, counted))
    ∙ ap (item_from d bytes) (get_or-map-range_with_len place 0 n j j 0 low (omega arith) ∙ mul_comm w j)
    ∙ ap (λ b. decode_item d (item_at (j * w) w b)) (are.encoded ∙ sym (joined_list (encode_item d) v values))
    ∙ ap (decode_item d) (item_of_joined (λ k. encode_item d (value k)) w n j (λ k below. are.wide k v below) low)
    ∙ are.back j v low)

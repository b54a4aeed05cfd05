-- Items that are cast leaf by leaf.
use Rattle.std.proofs.Common.{◌≡◌, ◌+◌, ◌-◌, ◌*◌, ◌<◌, ◌≤◌, inl, inr, ℕ, zero, suc, true, pos, List, [], ◌∷◌, ◌++◌, map, length, get_or, take, drop, All, refl, sym, ap, subst, ◌∙◌, arith, mul_comm}
use Rattle.elementwise.proofs.Words.{and_parts, cases_lt, length-map, get_or-map, same_lists, take-take, drop-take, drop-drop, All-from_get_or, AllPass-from_list_all, Leaf, Descr, LeafValue, number, size, decode, encode, Fields, no_more, scalar_field, record_field, item_size, leaves_of, leaves_from, leaf_at, no_leaf, LeavesInOrder, item_from, item_at, with_items, length-row, row_offsets, ScalarDescr, RecordDescr, can_cast, can_cast_scalar, can_cast_fields, cast_value, cast_values, cast_item, leaf_from, source, HasSource, with_leaf, IsLeafCast}
use Rattle.elementwise.proofs.RowLaws.{row-entry, AreBeside, landed, kept, row-in, rows-in, rows-lie, rows-beside}
use Rattle.elementwise.proofs.LeafLaws.{length-leaf_cast, cast_read_back}

-- ---- which leaves are cast to which

-- equally many leaves, each of which can be cast to the one at its position
record AllCan (xs ys : List Leaf) : Type 0 where
  even : length xs ≡ length ys
  each : (k : ℕ) → k < length xs → can_cast_scalar (get_or xs k no_leaf).scalar (get_or ys k no_leaf).scalar ≡ true

AllCan-cons : (x y : Leaf) (xs ys : List Leaf) → can_cast_scalar x.scalar y.scalar ≡ true → AllCan xs ys → AllCan (x ∷ xs) (y ∷ ys)
AllCan-cons x y xs ys first all = record { even = omega (arith, all.even); each = at }
  where
    at : (k : ℕ) → k < length (x ∷ xs) → can_cast_scalar (get_or (x ∷ xs) k no_leaf).scalar (get_or (y ∷ ys) k no_leaf).scalar ≡ true
    at zero low = first
    at (suc k) low = all.each k (omega (arith, low))

AllCan-append : (xs ys xs' ys' : List Leaf) → AllCan xs ys → AllCan xs' ys' → AllCan (xs ++ xs') (ys ++ ys')
AllCan-append [] [] xs' ys' all all' = all'
AllCan-append [] (y ∷ ys) xs' ys' all all' = absurd (omega (arith, all.even))
AllCan-append (x ∷ xs) [] xs' ys' all all' = absurd (omega (arith, all.even))
AllCan-append (x ∷ xs) (y ∷ ys) xs' ys' all all' =
    AllCan-cons x y (xs ++ xs') (ys ++ ys') (all.each 0 (omega arith)) (AllCan-append xs ys xs' ys' (record { even = omega (arith, all.even); each = λ k low. all.each (suc k) (omega (arith, low)) }) all')

can_leaves : (from to : Fields) (s t : ℕ) → can_cast_fields from to ≡ true → AllCan (leaves_from s from) (leaves_from t to)
can_leaves no_more no_more s t can = record { even = refl; each = λ k low. absurd (omega (arith, low)) }
can_leaves no_more (scalar_field name at to others) s t can = absurd (cc)
can_leaves no_more (record_field name at width to others) s t can = absurd (cc)
can_leaves (scalar_field name at from rest) no_more s t can = absurd (cc)
can_leaves (scalar_field name at from rest) (scalar_field name' at' to others) s t can =
    let both = and_parts (can_cast_scalar from to) (can_cast_fields rest others) can in
    AllCan-cons (record { scalar = from; at = s + at }) (record { scalar = to; at = t + at' }) (leaves_from s rest) (leaves_from t others) both.0 (can_leaves rest others s t both.1)
can_leaves (scalar_field name at from rest) (record_field name' at' width to others) s t can = absurd (cc)
can_leaves (record_field name at width from rest) no_more s t can = absurd (cc)
can_leaves (record_field name at width from rest) (scalar_field name' at' to others) s t can = absurd (cc)
can_leaves (record_field name at width from rest) (record_field name' at' width' to others) s t can =
    let both = and_parts (can_cast_fields from to) (can_cast_fields rest others) can in
    AllCan-append (leaves_from (s + at) from) (leaves_from (t + at') to) (leaves_from s rest) (leaves_from t others) (can_leaves from to (s + at) (t + at') both.0) (can_leaves rest others s t both.1)

-- each leaf has a source that can be cast to it
pub has_source : (from to : Descr) → can_cast from to ≡ true → (k : ℕ) → k < length (leaves_of to) → HasSource from k × (can_cast_scalar (source from k).scalar (leaf_at to k).scalar ≡ true)
has_source (ScalarDescr from) to can k low = (tt, AllPass-from_list_all (λ leaf. can_cast_scalar from leaf.scalar) (leaves_of to) can k no_leaf low)
has_source (RecordDescr from) (ScalarDescr to) can k low = absurd (cc)
has_source (RecordDescr from) (RecordDescr to) can k low =
    let all = can_leaves from.fields to.fields 0 0 can in
    let here : k < length (leaves_from 0 from.fields) = omega (arith, low, all.even) in
    (here, all.each k here)

-- ---- the values of an item

-- a part of the bytes of an item
part : (o at width item : ℕ) (bytes : List ℕ) → at + width ≤ item → take width (drop at (take item (drop o bytes))) ≡ item_at (o + at) width bytes
part o at width item bytes fits =
    let whole : at + (item - at) ≡ item = omega (arith, fits) in
    ap (λ n. take width (drop at (take n (drop o bytes)))) (sym whole)
    ∙ ap (take width) (drop-take at (item - at) (drop o bytes))
    ∙ take-take width (item - at) (drop at (drop o bytes)) (omega (arith, fits))
    ∙ ap (take width) (drop-drop at o bytes)

length-cast_values : (leaves : List Leaf) (values : List LeafValue) → length leaves ≡ length values → length (cast_values leaves values) ≡ length leaves
length-cast_values [] values even = refl
length-cast_values (leaf ∷ leaves) [] even = absurd (omega (arith, even))
length-cast_values (leaf ∷ leaves) (value ∷ values) even = omega (arith, length-cast_values leaves values (omega (arith, even)))

cast_values-at : (leaves : List Leaf) (values : List LeafValue) (k : ℕ) (d d' : LeafValue) → k < length leaves → k < length values → get_or (cast_values leaves values) k d ≡ cast_value (get_or leaves k no_leaf).scalar (get_or values k d')
cast_values-at [] values k d d' low near = absurd (omega (arith, low))
cast_values-at (leaf ∷ leaves) [] k d d' low near = absurd (omega (arith, near))
cast_values-at (leaf ∷ leaves) (value ∷ values) zero d d' low near = refl
cast_values-at (leaf ∷ leaves) (value ∷ values) (suc k) d d' low near = cast_values-at leaves values k d d' (omega (arith, low)) (omega (arith, near))

-- the value of a leaf of an item that begins at an offset
abbrev value_from : Leaf → ℕ → List ℕ → ℕ → LeafValue
value_from leaf item bytes o = decode leaf.scalar (take (size leaf.scalar) (drop leaf.at (take item (drop o bytes))))

pub length-cast_item : (from to : Descr) (other : List ℕ) (o : ℕ) → can_cast from to ≡ true → length (cast_item from to (item_from from other o)) ≡ length (leaves_of to)
length-cast_item (ScalarDescr from) to other o can = length-map (leaves_of to) (λ leaf. cast_value leaf.scalar (get_or (item_from (ScalarDescr from) other o) 0 (number (pos 0))))
length-cast_item (RecordDescr from) (ScalarDescr to) other o can = absurd (cc)
length-cast_item (RecordDescr from) (RecordDescr to) other o can =
    let all = can_leaves from.fields to.fields 0 0 can in
    let long : length (item_from (RecordDescr from) other o) ≡ length (leaves_from 0 from.fields) = length-map (leaves_from 0 from.fields) (λ leaf. value_from leaf from.size other o) in
    length-cast_values (leaves_from 0 to.fields) (item_from (RecordDescr from) other o) (omega (arith, long, all.even))

cast_item-at : (from to : Descr) (other : List ℕ) (o k : ℕ) (d : LeafValue) → can_cast from to ≡ true → k < length (leaves_of to) → get_or (cast_item from to (item_from from other o)) k d ≡ cast_value (leaf_at to k).scalar (value_from (source from k) (item_size from) other o)
cast_item-at (ScalarDescr from) to other o k d can low = get_or-map (λ leaf. cast_value leaf.scalar (get_or (item_from (ScalarDescr from) other o) 0 (number (pos 0)))) (leaves_of to) k no_leaf d low
cast_item-at (RecordDescr from) (ScalarDescr to) other o k d can low = absurd (cc)
cast_item-at (RecordDescr from) (RecordDescr to) other o k d can low =
    let all = can_leaves from.fields to.fields 0 0 can in
    let leaves = leaves_from 0 from.fields in
    let read = λ (leaf : Leaf). value_from leaf from.size other o in
    let here : k < length leaves = omega (arith, low, all.even) in
    cast_values-at (leaves_from 0 to.fields) (map read leaves) k d (number (pos 0)) low (omega (arith, here, length-map leaves read))
    ∙ ap (cast_value (leaf_at (RecordDescr to) k).scalar) (get_or-map read leaves k no_leaf (number (pos 0)) here)

-- one leaf of one item
leaf_value-at : (from to : Descr) (other offsets bytes : List ℕ) (j k : ℕ) → j < length offsets → IsLeafCast from to other offsets bytes k →
    item_at ((leaf_at to k).at + j * item_size to) (size (leaf_at to k).scalar) bytes ≡ leaf_from (source from k) (leaf_at to k).scalar other (get_or offsets j 0)
leaf_value-at from to other offsets bytes j k low is =
    let leaf = leaf_at to k in
    let rows = row_offsets leaf.at (item_size to) (length offsets) in
    let read = λ (o : ℕ). item_at o (size leaf.scalar) bytes in
    let make = leaf_from (source from k) leaf.scalar other in
    ap read (sym (row-entry leaf.at (item_size to) (length offsets) j low))
    ∙ sym (get_or-map read rows j 0 [] (omega (arith, low, length-row leaf.at (item_size to) (length offsets))))
    ∙ ap (λ items. get_or items j []) is.written
    ∙ get_or-map make offsets j 0 [] low

-- its bytes are the encoded value
pub leaf-encoded : (from to : Descr) (other offsets bytes : List ℕ) (j k : ℕ) → j < length offsets → can_cast from to ≡ true → k < length (leaves_of to) → IsLeafCast from to other offsets bytes k → (source from k).at + size (source from k).scalar ≤ item_size from →
    item_at ((leaf_at to k).at + j * item_size to) (size (leaf_at to k).scalar) bytes ≡ encode (leaf_at to k).scalar (get_or (cast_item from to (item_from from other (get_or offsets j 0))) k (number (pos 0)))
leaf-encoded from to other offsets bytes j k low can here cast within =
    let o = get_or offsets j 0 in
    let leaf = leaf_at to k in
    let first = source from k in
    leaf_value-at from to other offsets bytes j k low cast
    ∙ ap (λ b. encode leaf.scalar (cast_value leaf.scalar (decode first.scalar b))) (sym (part o first.at (size first.scalar) (item_size from) other within))
    ∙ ap (encode leaf.scalar) (sym (cast_item-at from to other o k (number (pos 0)) can here))

-- one item
pub one_item : (from to : Descr) (other offsets bytes : List ℕ) (j : ℕ) → can_cast from to ≡ true → j < length offsets → ((k : ℕ) → k < length (leaves_of to) → IsLeafCast from to other offsets bytes k) →
    ((k : ℕ) → k < length (leaves_of to) → (leaf_at to k).at + size (leaf_at to k).scalar ≤ item_size to) → ((k : ℕ) → k < length (leaves_of to) → (source from k).at + size (source from k).scalar ≤ item_size from) →
    item_from to bytes (item_size to * j) ≡ cast_item from to (item_from from other (get_or offsets j 0))
one_item from to other offsets bytes j can low cast within within' =
    let o = get_or offsets j 0 in
    let read = λ (leaf : Leaf). value_from leaf (item_size to) bytes (item_size to * j) in
    let long : length (map read (leaves_of to)) ≡ length (leaves_of to) = length-map (leaves_of to) read in
    same_lists (map read (leaves_of to)) (cast_item from to (item_from from other o)) (long ∙ sym (length-cast_item from to other o can)) (λ k d inside.
    let here : k < length (leaves_of to) = omega (arith, inside, long) in
    let leaf = leaf_at to k in
    let place : item_size to * j + leaf.at ≡ leaf.at + j * item_size to = omega (arith, mul_comm (item_size to) j) in
    get_or-map read (leaves_of to) k no_leaf d here
    ∙ ap (decode leaf.scalar) (part (item_size to * j) leaf.at (size leaf.scalar) (item_size to) bytes (within k here) ∙ ap (λ at. item_at at (size leaf.scalar) bytes) place ∙ leaf_value-at from to other offsets bytes j k low (cast k here))
    ∙ cast_read_back (source from k).scalar leaf.scalar (item_at (o + (source from k).at) (size (source from k).scalar) other)
    ∙ ap (λ b. cast_value leaf.scalar (decode (source from k).scalar b)) (sym (part o (source from k).at (size (source from k).scalar) (item_size from) other (within' k here)))
    ∙ sym (cast_item-at from to other o k d can here))

-- ---- leaf after leaf

-- the bytes of each leaf have the same length
pub each-wide : (from to : Descr) (other offsets : List ℕ) (k : ℕ) → All (λ item. length item ≡ size (leaf_at to k).scalar) (map (leaf_from (source from k) (leaf_at to k).scalar other) offsets)
each-wide from to other offsets k =
    let make = leaf_from (source from k) (leaf_at to k).scalar other in
    All-from_get_or (λ item. length item ≡ size (leaf_at to k).scalar) (map make offsets) [] (λ j inside.
    let low : j < length offsets = omega (arith, inside, length-map offsets make) in
    ap length (get_or-map make offsets j 0 [] low) ∙ length-leaf_cast (source from k).scalar (leaf_at to k).scalar _)

-- a leaf is cast
pub leaf-done : (from to : Descr) (other offsets bytes bytes' : List ℕ) (k : ℕ) → length offsets * item_size to ≤ length bytes → (leaf_at to k).at + size (leaf_at to k).scalar ≤ item_size to →
    bytes' ≡ with_leaf from to other offsets k bytes → IsLeafCast from to other offsets bytes' k
leaf-done from to other offsets bytes bytes' k room fits wrote =
    let leaf = leaf_at to k in
    let n = length offsets in
    let rows = row_offsets leaf.at (item_size to) n in
    let make = leaf_from (source from k) leaf.scalar other in
    let even : length rows ≡ length (map make offsets) = length-row leaf.at (item_size to) n ∙ sym (length-map offsets make) in
    record { written = ap (λ all. map (λ o. item_at o (size leaf.scalar) all) rows) wrote ∙ landed (size leaf.scalar) rows (map make offsets) bytes even (rows-in (item_size to) n (length bytes) room leaf.at (size leaf.scalar) fits) (each-wide from to other offsets k) (rows-lie (item_size to) n (length bytes) room leaf.at (size leaf.scalar) fits) }

-- the other bytes of an item do not change
pub row-kept : (to : Descr) (n at width k : ℕ) (items : List (List ℕ)) (bytes : List ℕ) → n * item_size to ≤ length bytes → at + width ≤ item_size to → (leaf_at to k).at + size (leaf_at to k).scalar ≤ item_size to →
    AreBeside at width (leaf_at to k).at (size (leaf_at to k).scalar) → All (λ item. length item ≡ size (leaf_at to k).scalar) items → (j : ℕ) → j < n →
    item_at (at + j * item_size to) width (with_items (row_offsets (leaf_at to k).at (item_size to) n) items bytes) ≡ item_at (at + j * item_size to) width bytes
row-kept to n at width k items bytes room fits fits' beside wide j low =
    let next = leaf_at to k in
    let item = item_size to in
    let ats = row_offsets next.at item n in
    let apart : All (λ o. AreBeside (at + j * item) width o (size next.scalar)) ats = All-from_get_or (λ o. AreBeside (at + j * item) width o (size next.scalar)) ats 0 (λ m there.
    subst (λ o. AreBeside (at + j * item) width o (size next.scalar)) (sym (row-entry next.at item n m (omega (arith, there, length-row next.at item n)))) (rows-beside item n (length bytes) room at width next.at (size next.scalar) fits fits' beside j m)) in
    kept (size next.scalar) (at + j * item) width ats items bytes (row-in item n (length bytes) room at width fits j low) (rows-in item n (length bytes) room next.at (size next.scalar) fits') wide apart

-- nor do the leaves that are already cast
leaf-kept : (from to : Descr) (other offsets bytes bytes' : List ℕ) (i k : ℕ) → length offsets * item_size to ≤ length bytes → (leaf_at to i).at + size (leaf_at to i).scalar ≤ (leaf_at to k).at → (leaf_at to k).at + size (leaf_at to k).scalar ≤ item_size to →
    bytes' ≡ with_leaf from to other offsets k bytes → IsLeafCast from to other offsets bytes i → IsLeafCast from to other offsets bytes' i
leaf-kept from to other offsets bytes bytes' i k room before fits wrote is =
    let leaf = leaf_at to i in
    let n = length offsets in
    let rows = row_offsets leaf.at (item_size to) n in
    let items = map (leaf_from (source from k) (leaf_at to k).scalar other) offsets in
    let read = λ (all : List ℕ) (o : ℕ). item_at o (size leaf.scalar) all in
    let new = with_items (row_offsets (leaf_at to k).at (item_size to) n) items bytes in
    let long = length-map rows (read new) in
    let same : map (read new) rows ≡ map (read bytes) rows = same_lists (map (read new) rows) (map (read bytes) rows) (long ∙ sym (length-map rows (read bytes))) (λ j d inside.
    let low : j < length rows = omega (arith, inside, long) in
    let near : j < n = omega (arith, low, length-row leaf.at (item_size to) n) in
    get_or-map (read new) rows j 0 d low
    ∙ ap (read new) (row-entry leaf.at (item_size to) n j near)
    ∙ row-kept to n leaf.at (size leaf.scalar) k items bytes room (omega (arith, before, fits)) fits (inl before) (each-wide from to other offsets k) j near
    ∙ sym (get_or-map (read bytes) rows j 0 d low ∙ ap (read bytes) (row-entry leaf.at (item_size to) n j near))) in
    record { written = ap (λ all. map (read all) rows) wrote ∙ same ∙ is.written }

pub turn-done : (from to : Descr) (other offsets bytes bytes' : List ℕ) (k : ℕ) → k < length (leaves_of to) → length offsets * item_size to ≤ length bytes → LeavesInOrder to →
    bytes' ≡ with_leaf from to other offsets k bytes → ((i : ℕ) → i < k → IsLeafCast from to other offsets bytes i) → (i : ℕ) → i < k + 1 → IsLeafCast from to other offsets bytes' i
turn-done from to other offsets bytes bytes' k low room apart wrote done i below = elim (cases_lt i k) [
  | inl before ↦ leaf-kept from to other offsets bytes bytes' i k room (apart.apart i k before low) (apart.within k low) wrote (done i before)
  | inr from_k ↦ subst (IsLeafCast from to other offsets bytes') (let is : k ≡ i = omega (arith, from_k, below) in is) (leaf-done from to other offsets bytes bytes' k room (apart.within k low) wrote)
]

-- what the code requires for a leaf
pub source-within : (from : Descr) (k : ℕ) → LeavesInOrder from → HasSource from k → (source from k).at + size (source from k).scalar ≤ item_size from
source-within (ScalarDescr scalar) k apart has = omega arith
source-within (RecordDescr structure) k apart has = apart.within k has

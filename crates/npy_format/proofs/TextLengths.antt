-- The maximum length of the text of a header.
use Rattle.std.proofs.Common.{◌≡◌, ℕ, zero, suc, ◌+◌, ◌-◌, ◌*◌, ◌≤◌, ◌&&◌, Bool, true, false, All, List, [], ◌∷◌, ◌++◌, length, codes, decimal, ap, arith, length-append, mul-one, suc-mul, nat_le}
use Rattle.npy_format.proofs.Words.{mul-le-mul_left, list_all, flat_map, leb-true, and_parts, length-decimal-le, All-head, All-tail, mul-add, Little, Scalar, Byte, Int, Descr, size, Fields, no_more, scalar_field, record_field, total, is_field_name_byte, is_legal_name, InOrder, AreNamedWithin, names_of, depth, leaf_count, InOrder-within, some_depth, some_leaves, spelling, max_items, IsShape, shape_text, ScalarDescr, RecordDescr, IsSound, quoted, opened_entry, entry, gap, separated, in_brackets, entries, written_descr, written_truth, written_text}
use Rattle.npy_format.proofs.WrittenEntries.{in_brackets-separated}

short_decimal : (n : ℕ) → n ≤ 65536 → length (decimal n) ≤ 5
short_decimal n small = length-decimal-le 5 n (omega arith) (omega (arith, small)) (omega (arith, small))

short_spelling : (scalar : Scalar) → size scalar ≤ 65536 → length (spelling scalar) ≤ 7
short_spelling (Byte true) small = omega (arith, short_decimal 1 small)
short_spelling (Int true width Little) small = omega (arith, short_decimal (size (Int true width Little)) small)
short_spelling (Int false width Little) small = omega (arith, short_decimal (size (Int false width Little)) small)
short_spelling scalar small = omega (arith, short_decimal (size scalar) small)

length-quoted : (text : List ℕ) → length (quoted text) ≡ length text + 2
length-quoted text = omega (arith, length-append text (codes "'"))

length-entry : (name type : List ℕ) → length (entry name type) ≡ length name + length type + 6
length-entry name type =
    omega (arith, length-append (opened_entry name) (type ++ codes ")"), length-append (quoted name) (codes ", "), length-quoted name, length-append type (codes ")"))

length-separated : (text : List ℕ) (texts : List (List ℕ)) → length (separated false (text ∷ texts)) ≡ 2 + length text + length (separated false texts)
length-separated text texts = omega (arith, length-append text (separated false texts))

separated-append : (texts texts' : List (List ℕ)) → length (separated false (texts ++ texts')) ≡ length (separated false texts) + length (separated false texts')
separated-append [] texts' = omega arith
separated-append (text ∷ texts) texts' = omega (arith, length-separated text (texts ++ texts'), length-separated text texts, separated-append texts texts')

first-shorter : (texts : List (List ℕ)) → length (separated true texts) ≤ length (separated false texts)
first-shorter [] = omega arith
first-shorter (text ∷ texts) = omega (arith, length-separated text texts, length-append text (separated false texts))

short_gap : (n : ℕ) → n ≤ 65536 → length (separated false (gap n)) ≤ 17
short_gap zero small = omega arith
short_gap (suc n) small =
    let digits = decimal (suc n) in
    let type = quoted (codes "|V" ++ digits) in
    omega (arith, length-separated (entry [] type) [], length-entry [] type, length-quoted (codes "|V" ++ digits), length-append (codes "|V") digits, short_decimal (suc n) small)

short_name : (name : List ℕ) → is_legal_name name ≡ true → length name ≤ 64
short_name name legal =
    let parts = and_parts (nat_le 1 (length name) && nat_le (length name) 64) (list_all is_field_name_byte name) legal in
    leb-true (length name) 64 (and_parts (nat_le 1 (length name)) (nat_le (length name) 64) parts.0).1

length-brackets : (texts : List (List ℕ)) → length (in_brackets texts) ≤ 2 + length (separated false texts)
length-brackets texts = omega (arith, ap length (in_brackets-separated texts), length-append (separated true texts) (codes "]"), first-shorter texts)

-- at most 108 bytes a field
short_entries : (fields : Fields) (from bytes : ℕ) → InOrder from fields bytes → bytes ≤ 65536 → list_all is_legal_name (names_of fields) ≡ true → AreNamedWithin fields → length (separated false (entries from fields bytes)) ≤ 108 * total fields + 17
short_entries no_more from bytes order small names within = omega (arith, short_gap (bytes - from) (omega (arith, small)))
short_entries (scalar_field name at scalar rest) from bytes order small names within =
    let ends = InOrder-within (at + size scalar) rest bytes order.2 in
    let legal = and_parts (is_legal_name name) (list_all is_legal_name (names_of rest)) names in
    let type = quoted (spelling scalar) in
    let later = entries (at + size scalar) rest bytes in
    omega (arith, separated-append (gap (at - from)) (entry name type ∷ later), length-separated (entry name type) later, short_gap (at - from) (omega (arith, small, ends)), length-entry name type, short_name name legal.0, length-quoted (spelling scalar), short_spelling scalar (omega (arith, small, ends)), short_entries rest (at + size scalar) bytes order.2 small legal.1 within)
short_entries (record_field name at width inner rest) from bytes order small names within =
    let ends = InOrder-within (at + width) rest bytes order.3 in
    let legal = and_parts (is_legal_name name) (list_all is_legal_name (names_of rest)) names in
    let type = in_brackets (entries 0 inner width) in
    let later = entries (at + width) rest bytes in
    omega (arith, separated-append (gap (at - from)) (entry name type ∷ later), length-separated (entry name type) later, short_gap (at - from) (omega (arith, small, ends)), length-entry name type, short_name name legal.0, length-brackets (entries 0 inner width), short_entries inner 0 width order.2 (omega (arith, small, ends)) within.0.named within.1, short_entries rest (at + width) bytes order.3 small legal.1 within.2)

-- At each level there are at most as many fields as leaves.
few_fields : (fields : Fields) (levels : ℕ) → depth fields ≤ levels → AreNamedWithin fields → total fields ≤ levels * leaf_count fields
few_fields fields zero deep within = absurd (omega (arith, deep, some_depth fields))
few_fields no_more (suc levels) deep within = omega arith
few_fields (scalar_field name at scalar rest) (suc levels) deep within =
    omega (arith, few_fields rest (suc levels) deep within, mul-add (suc levels) 1 (leaf_count rest), mul-one (suc levels))
few_fields (record_field name at width inner rest) (suc levels) deep within =
    omega (arith, few_fields inner levels (omega (arith, deep)) within.1, few_fields rest (suc levels) (omega (arith, deep)) within.2, some_leaves inner within.0.some within.1, mul-add (suc levels) (leaf_count inner) (leaf_count rest), suc-mul levels (leaf_count inner))

short_descr : (descr : Descr) → IsSound descr → length (written_descr descr) ≤ 884755
short_descr (ScalarDescr scalar) sound = omega (arith, length-quoted (spelling scalar), short_spelling scalar sound.1)
short_descr (RecordDescr structure) sound =
    let all = entries 0 structure.fields structure.size in
    let most : 4 * leaf_count structure.fields ≤ 4 * 2048 = mul-le-mul_left 4 sound.few in
    omega (arith, length-brackets all, short_entries structure.fields 0 structure.size sound.in_order sound.small sound.named.named sound.within, few_fields structure.fields 4 sound.shallow sound.within, most)

short_lengths : (shape : List ℕ) → All (λ n. n ≤ max_items) shape → length (flat_map (λ m. codes ", " ++ decimal m) shape) ≤ 10 * length shape
short_lengths [] few = omega arith
short_lengths (n ∷ shape) few =
    let here : n ≤ max_items = All-head (λ m. m ≤ max_items) n shape few in
    omega (arith, length-append (codes ", " ++ decimal n) (flat_map (λ m. codes ", " ++ decimal m) shape), length-decimal-le 8 n (omega arith) (omega (arith, here)) (omega (arith, here)), short_lengths shape (All-tail (λ m. m ≤ max_items) n shape few))

short_shape : (shape : List ℕ) → IsShape shape → length (shape_text shape) ≤ 700
short_shape [] is = omega arith
short_shape (n ∷ []) is =
    let here : n ≤ max_items = All-head (λ m. m ≤ max_items) n [] is.lengths in
    omega (arith, length-append (codes "(" ++ decimal n) (codes ",)"), length-decimal-le 8 n (omega arith) (omega (arith, here)) (omega (arith, here)))
short_shape (n ∷ m ∷ shape) is =
    let here : n ≤ max_items = All-head (λ k. k ≤ max_items) n (m ∷ shape) is.lengths in
    let rest = flat_map (λ k. codes ", " ++ decimal k) (m ∷ shape) in
    omega (arith, length-append ((codes "(" ++ decimal n) ++ rest) (codes ")"), length-append (codes "(" ++ decimal n) rest, length-decimal-le 8 n (omega arith) (omega (arith, here)) (omega (arith, here)), short_lengths (m ∷ shape) (All-tail (λ k. k ≤ max_items) n (m ∷ shape) is.lengths), is.axes)

short_truth : (truth : Bool) → length (written_truth truth) ≤ 5
short_truth true = omega arith
short_truth false = omega arith

-- the text is shorter than the maximum length of a header that is read
pub short_text : (descr : Descr) (fortran : Bool) (shape : List ℕ) → IsSound descr → IsShape shape → length (written_text descr fortran shape) ≤ 900000
short_text descr fortran shape sound is =
    let d = written_descr descr in
    let b = written_truth fortran in
    let s = shape_text shape in
    let end = s ++ codes ", }" in
    let second = b ++ (codes ", 'shape': " ++ end) in
    omega (arith, length-append d (codes ", 'fortran_order': " ++ second), length-append b (codes ", 'shape': " ++ end), length-append s (codes ", }"), short_descr descr sound, short_truth fortran, short_shape shape is)

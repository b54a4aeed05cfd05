-- Writing items over their own bytes.
use Rattle.std.proofs.Common.{◌≡◌, ℕ, zero, suc, ◌+◌, ◌-◌, ◌*◌, ◌<◌, ◌≤◌, min, All, inl, inr, List, [], ◌∷◌, ◌++◌, map, length, get_or, take, drop, replicate, slice_set, refl, sym, ap, subst, ◌∙◌, arith, append_assoc, length-append, length-take, length-drop, zero-mul, suc-mul, mul-one}
use Rattle.npy_format.proofs.Words.{append-nil, flat_map, repeat, take-append_seam, drop-append_seam, mul-le-mul_left, min-zero, cases_lt, drop_all, take-append-drop, drop-drop, length-replicate, item_at, put, front_length, Leaf, Scalar, size, decode, encode, truth_suc, AreInOrder, encode_from, AreInOrder-within, blocks, AreBytes, bytes-drop, bytes-take, length-encode, BoolScalar, read_leaf, written_item, limit, limits_from, capped, All-head, All-tail}
use Rattle.npy_format.proofs.ScalarBytes.{scalar_again, bool_again}

-- ---- bytes that are put in place

pub take-put : (at : ℕ) (item bytes : List ℕ) → at + length item ≤ length bytes → take (at + length item) (put at item bytes) ≡ take at bytes ++ item
take-put at item bytes within =
    let rest = drop (at + length item) bytes in
    ap (λ n. take n (put at item bytes)) (sym (front_length at item bytes within)) ∙ take-append_seam (take at bytes ++ item) rest

pub drop-put : (at : ℕ) (item bytes : List ℕ) → at + length item ≤ length bytes → drop (at + length item) (put at item bytes) ≡ drop (at + length item) bytes
drop-put at item bytes within =
    let rest = drop (at + length item) bytes in
    ap (λ n. drop n (put at item bytes)) (sym (front_length at item bytes within)) ∙ drop-append_seam (take at bytes ++ item) rest

pub length-written : (from : ℕ) (leaves : List Leaf) (item : List ℕ) (bytes : ℕ) → AreInOrder from leaves bytes → length (encode_from from leaves (map (read_leaf item) leaves) bytes) ≡ bytes - from
length-written from [] item bytes order = length-replicate (bytes - from) 0
length-written from (leaf ∷ leaves) item bytes order =
    let gap : List ℕ = replicate (leaf.at - from) 0 in
    let value = encode leaf.scalar (read_leaf item leaf) in
    let next = leaf.at + size leaf.scalar in
    let later = encode_from next leaves (map (read_leaf item) leaves) bytes in
    omega (arith, length-append (gap ++ value) later, length-append gap value, length-replicate {A = ℕ} (leaf.at - from) 0, length-encode leaf.scalar (read_leaf item leaf), length-written next leaves item bytes order.2, order.0, AreInOrder-within next leaves bytes order.2)

-- ---- bytes and their limits

pub length-capped : (bytes limits : List ℕ) → length (capped bytes limits) ≡ length bytes
length-capped (b ∷ bytes) (l ∷ limits) = ap suc (length-capped bytes limits)
length-capped _ _ = refl

-- bytes in two parts, each with its limits
pub capped-append : (bytes limits more later : List ℕ) → length bytes ≡ length limits → capped (bytes ++ more) (limits ++ later) ≡ capped bytes limits ++ capped more later
capped-append [] [] more later same = refl
capped-append (b ∷ bytes) (l ∷ limits) more later same = ap (λ xs. min b l ∷ xs) (capped-append bytes limits more later (omega (arith, same)))
capped-append _ _ more later same = absurd (omega (arith, same))

-- limits beyond the bytes change nothing
pub capped-enough : (bytes limits later : List ℕ) → length bytes ≤ length limits → capped bytes (limits ++ later) ≡ capped bytes limits
capped-enough [] limits later low = refl
capped-enough (b ∷ bytes) [] later low = absurd (omega (arith, low))
capped-enough (b ∷ bytes) (l ∷ limits) later low = ap (λ xs. min b l ∷ xs) (capped-enough bytes limits later (omega (arith, low)))

capped-zeros : (n : ℕ) (bytes : List ℕ) → length bytes ≡ n → capped bytes (replicate n 0) ≡ replicate n 0
capped-zeros zero [] long = refl
capped-zeros (suc n) (b ∷ bytes) long = λ i. min-zero b i ∷ capped-zeros n bytes (omega (arith, long)) i
capped-zeros _ _ long = absurd (omega (arith, long))

capped-bytes : (n : ℕ) (bytes : List ℕ) → length bytes ≡ n → AreBytes bytes → capped bytes (replicate n 255) ≡ bytes
capped-bytes n [] long are = refl
capped-bytes zero (b ∷ bytes) long are = absurd (omega (arith, long))
capped-bytes (suc n) (b ∷ bytes) long are =
    let low : b < 256 = are 0 in
    let same : min b 255 ≡ b = omega (arith, low) in
    λ i. same i ∷ capped-bytes n bytes (omega (arith, long)) (λ k. are (suc k)) i

-- capping the bytes of a scalar writes its value
scalar_capped : (scalar : Scalar) (bytes : List ℕ) → length bytes ≡ size scalar → AreBytes bytes → capped bytes (replicate (size scalar) (limit scalar)) ≡ encode scalar (decode scalar bytes)
scalar_capped BoolScalar (zero ∷ []) long are = sym (bool_again 0)
scalar_capped BoolScalar (suc b ∷ []) long are = let one : min (suc b) 1 ≡ 1 = omega arith in ap (λ n. n ∷ []) one ∙ sym (bool_again (suc b) ∙ ap (λ n. n ∷ []) (truth_suc b))
scalar_capped BoolScalar _ long are = absurd (omega (arith, long))
scalar_capped scalar bytes long are = capped-bytes (size scalar) bytes long are ∙ sym (scalar_again scalar bytes refl long are)

-- capping the bytes of an item writes its values
item_capped : (from : ℕ) (leaves : List Leaf) (bytes : ℕ) (item : List ℕ) → AreInOrder from leaves bytes → length item ≡ bytes → AreBytes item → capped (drop from item) (limits_from from leaves bytes) ≡ encode_from from leaves (map (read_leaf item) leaves) bytes
item_capped from [] bytes item order long are = capped-zeros (bytes - from) (drop from item) (omega (arith, order, long, length-drop from item))
item_capped from (leaf ∷ leaves) bytes item order long are =
    let n = size leaf.scalar in
    let gap = leaf.at - from in
    let next = leaf.at + n in
    let here = item_at leaf.at n item in
    let low : next ≤ bytes = AreInOrder-within next leaves bytes order.2 in
    let split : from + gap ≡ leaf.at = omega (arith, order.0) in
    let empty : length (take gap (drop from item)) ≡ gap = omega (arith, order.0, low, long, length-take gap (drop from item), length-drop from item) in
    let wide : length here ≡ n = omega (arith, low, long, length-take n (drop leaf.at item), length-drop leaf.at item) in
    let parts : drop from item ≡ (take gap (drop from item) ++ here) ++ drop next item =
    sym (take-append-drop gap (drop from item)) ∙ ap (λ back. take gap (drop from item) ++ back) (drop-drop gap from item ∙ ap (λ k. drop k item) split ∙ sym (take-append-drop n (drop leaf.at item)) ∙ ap (λ back. here ++ back) (drop-drop n leaf.at item))
    ∙ sym (append_assoc (take gap (drop from item)) here (drop next item)) in
    let zeros : List ℕ = replicate gap 0 in
    let most = replicate n (limit leaf.scalar) in
    ap (λ xs. capped xs (limits_from from (leaf ∷ leaves) bytes)) parts
    ∙ capped-append (take gap (drop from item) ++ here) (zeros ++ most) (drop next item) (limits_from next leaves bytes) (omega (arith, empty, wide, length-append (take gap (drop from item)) here, length-append zeros most, length-replicate {A = ℕ} gap 0, length-replicate n (limit leaf.scalar)))
    ∙ (λ i. capped-append (take gap (drop from item)) zeros here most (omega (arith, empty, length-replicate {A = ℕ} gap 0)) i ++ item_capped next leaves bytes item order.2 long are i)
    ∙ (λ i. (capped-zeros gap (take gap (drop from item)) empty i ++ scalar_capped leaf.scalar here wide (bytes-take n (drop leaf.at item) (bytes-drop leaf.at item are)) i) ++ encode_from next leaves (map (read_leaf item) leaves) bytes)

pub length-limits : (from : ℕ) (leaves : List Leaf) (bytes : ℕ) → AreInOrder from leaves bytes → length (limits_from from leaves bytes) ≡ bytes - from
length-limits from [] bytes order = length-replicate (bytes - from) 0
length-limits from (leaf ∷ leaves) bytes order =
    let gap : List ℕ = replicate (leaf.at - from) 0 in
    let most = replicate (size leaf.scalar) (limit leaf.scalar) in
    let next = leaf.at + size leaf.scalar in
    omega (arith, length-append (gap ++ most) (limits_from next leaves bytes), length-append gap most, length-replicate {A = ℕ} (leaf.at - from) 0, length-replicate (size leaf.scalar) (limit leaf.scalar), length-limits next leaves bytes order.2, order.0, AreInOrder-within next leaves bytes order.2)

-- capping one more byte
pub byte_capped : (k value : ℕ) (bytes limits : List ℕ) → k < length bytes → k < length limits → value ≡ min (get_or bytes k 0) (get_or limits k 0)
    → take (suc k) (slice_set bytes k value) ++ capped (drop (suc k) (slice_set bytes k value)) (drop (suc k) limits) ≡ take k bytes ++ capped (drop k bytes) (drop k limits)
byte_capped zero value (b ∷ bytes) (l ∷ limits) low low' is = ap (λ n. n ∷ capped bytes limits) is
byte_capped (suc k) value (b ∷ bytes) (l ∷ limits) low low' is = ap (λ xs. b ∷ xs) (byte_capped k value bytes limits (omega (arith, low)) (omega (arith, low')) is)
byte_capped k value _ _ low low' is = absurd (omega (arith, low, low'))

-- items one after another
items_capped : (leaves : List Leaf) (width count : ℕ) (bytes : List ℕ) → AreInOrder 0 leaves width → length bytes ≡ count * width → AreBytes bytes → capped bytes (repeat count (limits_from 0 leaves width)) ≡ flat_map (written_item leaves width) (blocks width count bytes)
items_capped leaves width zero bytes order long are = ap (λ xs. capped xs []) (drop_all 0 bytes (omega (arith, long)))
items_capped leaves width (suc count) bytes order long are =
    let limits = limits_from 0 leaves width in
    let total : length bytes ≡ width + count * width = omega (arith, long, suc-mul count width) in
    let wide : length (take width bytes) ≡ width = omega (arith, total, length-take width bytes) in
    ap (λ xs. capped xs (limits ++ repeat count limits)) (sym (take-append-drop width bytes))
    ∙ capped-append (take width bytes) limits (drop width bytes) (repeat count limits) (omega (arith, wide, length-limits 0 leaves width order))
    ∙ (λ i. item_capped 0 leaves width (take width bytes) order wide (bytes-take width bytes are) i ++ items_capped leaves width count (drop width bytes) order (omega (arith, total, length-drop width bytes)) (bytes-drop width bytes are) i)

-- ---- repeated limits

repeat-add : (m n : ℕ) (xs : List ℕ) → repeat (m + n) xs ≡ repeat m xs ++ repeat n xs
repeat-add zero n xs = let none : 0 + n ≡ n = omega arith in ap (λ k. repeat k xs) none
repeat-add (suc m) n xs =
    let more : suc m + n ≡ suc (m + n) = omega arith in
    ap (λ k. repeat k xs) more ∙ ap (λ ys. xs ++ ys) (repeat-add m n xs) ∙ sym (append_assoc xs (repeat m xs) (repeat n xs))

repeat-repeat : (m n : ℕ) (xs : List ℕ) → repeat m (repeat n xs) ≡ repeat (m * n) xs
repeat-repeat zero n xs = sym (ap (λ k. repeat k xs) (zero-mul n))
repeat-repeat (suc m) n xs =
    let more : n + m * n ≡ suc m * n = omega (arith, suc-mul m n) in
    ap (λ ys. repeat n xs ++ ys) (repeat-repeat m n xs) ∙ sym (repeat-add n (m * n) xs) ∙ ap (λ k. repeat k xs) more

pub length-repeat : (n : ℕ) (xs : List ℕ) → length (repeat n xs) ≡ n * length xs
length-repeat zero xs = sym (zero-mul (length xs))
length-repeat (suc n) xs = omega (arith, length-append xs (repeat n xs), length-repeat n xs, suc-mul n (length xs))

-- if the limits are repeated often enough for the bytes, more repetitions change nothing
capped-more : (m n : ℕ) (bytes limits : List ℕ) → m ≤ n → length bytes ≤ m * length limits → capped bytes (repeat n limits) ≡ capped bytes (repeat m limits)
capped-more m n bytes limits low enough =
    let split : n ≡ m + (n - m) = omega (arith, low) in
    ap (λ k. capped bytes (repeat k limits)) split ∙ ap (capped bytes) (repeat-add m (n - m) limits)
    ∙ capped-enough bytes (repeat m limits) (repeat (n - m) limits) (omega (arith, length-repeat m limits, enough))

-- capping one more band of bytes with the same limits
pub band_capped : (at len many : ℕ) (bytes bytes' limits : List ℕ) → at < length bytes → len ≡ min (length limits) (length bytes - at) → 1 ≤ length limits → length bytes ≤ many → bytes' ≡ put at (capped (item_at at len bytes) limits) bytes
    → take (at + len) bytes' ++ capped (drop (at + len) bytes') (repeat many limits) ≡ take at bytes ++ capped (drop at bytes) (repeat many limits)
band_capped at len many bytes bytes' limits low is some enough put_is =
    let piece = item_at at len bytes in
    let rest = drop (at + len) bytes in
    let within : at + len ≤ length bytes = omega (arith, low, is) in
    let long : length piece ≡ len = omega (arith, within, length-take len (drop at bytes), length-drop at bytes) in
    let wide : length (capped piece limits) ≡ len = length-capped piece limits ∙ long in
    let fits : at + length (capped piece limits) ≤ length bytes = omega (arith, wide, within) in
    let front : take (at + len) bytes' ≡ take at bytes ++ capped piece limits = (λ i. take (at + sym wide i) (put_is i)) ∙ take-put at (capped piece limits) bytes fits in
    let back : drop (at + len) bytes' ≡ rest = (λ i. drop (at + sym wide i) (put_is i)) ∙ drop-put at (capped piece limits) bytes fits ∙ ap (λ n. drop (at + n) bytes) wide in
    let parts : drop at bytes ≡ piece ++ rest = sym (take-append-drop len (drop at bytes)) ∙ ap (λ xs. piece ++ xs) (drop-drop len at bytes) in
    let first : many ≡ suc (many - 1) = omega (arith, low, enough) in
    let begins : repeat many limits ≡ limits ++ repeat (many - 1) limits = ap (λ n. repeat n limits) first in
    let left : length rest ≡ length bytes - (at + len) = length-drop (at + len) bytes in
    let joined : capped piece limits ++ capped rest (repeat many limits) ≡ capped (piece ++ rest) (repeat many limits) = elim (cases_lt (length bytes - at) (length limits)) [
      | inl last ↦
          let none : rest ≡ [] = drop_all (at + len) bytes (omega (arith, is, last)) in
          ap (λ xs. capped piece limits ++ capped xs (repeat many limits)) none ∙ append-nil (capped piece limits)
          ∙ sym (capped-enough piece limits (repeat (many - 1) limits) (omega (arith, long, is)))
          ∙ (λ i. capped (sym (append-nil piece) i) (sym begins i)) ∙ ap (λ xs. capped (piece ++ xs) (repeat many limits)) (sym none)
      | inr more ↦
          let full : length piece ≡ length limits = omega (arith, long, is, more) in
          let turns : many - 1 ≤ (many - 1) * length limits = subst (λ n. n ≤ (many - 1) * length limits) (mul-one (many - 1)) (mul-le-mul_left (many - 1) some) in
          let covers : length rest ≤ (many - 1) * length limits = omega (arith, left, turns, enough, full, long, some) in
          ap (λ xs. capped piece limits ++ xs) (capped-more (many - 1) many rest limits (omega arith) covers)
          ∙ sym (capped-append piece limits rest (repeat (many - 1) limits) full) ∙ ap (capped (piece ++ rest)) (sym begins)
    ] in
    (λ i. front i ++ capped (back i) (repeat many limits)) ∙ append_assoc (take at bytes) (capped piece limits) (capped rest (repeat many limits))
    ∙ ap (λ xs. take at bytes ++ xs) (joined ∙ ap (λ xs. capped xs (repeat many limits)) (sym parts))

pub bands_capped : (leaves : List Leaf) (width count copies : ℕ) (bytes bytes' : List ℕ) → AreInOrder 0 leaves width → 1 ≤ width → 1 ≤ copies → length bytes ≡ count * width → AreBytes bytes
    → bytes' ≡ capped bytes (repeat (length bytes) (repeat copies (limits_from 0 leaves width))) → bytes' ≡ flat_map (written_item leaves width) (blocks width count bytes)
bands_capped leaves width count copies bytes bytes' order some more long are is =
    let limits = limits_from 0 leaves width in
    let wide : length limits ≡ width = omega (arith, length-limits 0 leaves width order) in
    let many : count ≤ length bytes = subst (λ n. count ≤ n) (sym long) (subst (λ n. n ≤ count * width) (mul-one count) (mul-le-mul_left count some)) in
    let all : length bytes ≤ length bytes * copies = subst (λ n. n ≤ length bytes * copies) (mul-one (length bytes)) (mul-le-mul_left (length bytes) more) in
    is ∙ ap (capped bytes) (repeat-repeat (length bytes) copies limits)
    ∙ capped-more count (length bytes * copies) bytes limits (omega (arith, many, all)) (subst (λ n. length bytes ≤ count * n) (sym wide) (omega (arith, long)))
    ∙ items_capped leaves width count bytes order long are

-- ---- items that are written as they are

capped-most : (bytes limits : List ℕ) → All (λ limit. limit ≡ 255) limits → AreBytes bytes → capped bytes limits ≡ bytes
capped-most (b ∷ bytes) (l ∷ limits) most are =
    let low : b < 256 = are 0 in
    let here : l ≡ 255 = All-head (λ limit. limit ≡ 255) l limits most in
    let same : min b l ≡ b = omega (arith, low, here) in
    λ i. same i ∷ capped-most bytes limits (All-tail (λ limit. limit ≡ 255) l limits most) (λ k. are (suc k)) i
capped-most _ _ most are = refl

pub plain_again : (leaves : List Leaf) (bytes : ℕ) (item : List ℕ) → All (λ limit. limit ≡ 255) (limits_from 0 leaves bytes) → AreInOrder 0 leaves bytes → length item ≡ bytes → AreBytes item → written_item leaves bytes item ≡ item
plain_again leaves bytes item plain order long are = sym (item_capped 0 leaves bytes item order long are) ∙ capped-most item (limits_from 0 leaves bytes) plain are

-- items that are all written as they are
pub all_again : (f : List ℕ → List ℕ) (width n : ℕ) (bytes : List ℕ) → ((item : List ℕ) → length item ≡ width → AreBytes item → f item ≡ item) → length bytes ≡ n * width → AreBytes bytes → bytes ≡ flat_map f (blocks width n bytes)
all_again f width zero bytes stays long are = drop_all 0 bytes (omega (arith, long))
all_again f width (suc n) bytes stays long are =
    let total : length bytes ≡ width + n * width = omega (arith, long, suc-mul n width) in
    sym ((λ i. stays (take width bytes) (omega (arith, total, length-take width bytes)) (bytes-take width bytes are) i ++ sym (all_again f width n (drop width bytes) stays (omega (arith, total, length-drop width bytes)) (bytes-drop width bytes are)) i)
    ∙ take-append-drop width bytes)

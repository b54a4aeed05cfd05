-- Adjacent items in a block of bytes.
use Rattle.std.proofs.Common.{◌≡◌, ◌≤◌, ◌<◌, ◌+◌, ◌*◌, ℕ, zero, suc, List, ◌∷◌, ◌++◌, length, take, drop, map, refl, sym, ap, ◌∙◌, Some, slice_get, slice_set, append_assoc, arith, length-take, length-drop}
use Rattle.name_store.proofs.Words.{mul-suc, suc-mul, mul-le-mul_left, take-add, map-set, drop-drop, drop_at, Descr, item_size, decode_item, put, blocks, items_in, item_from, take_front}

pub put-add : (width at : ℕ) (item bytes : List ℕ) → put (width + at) item bytes ≡ take width bytes ++ put at item (drop width bytes)
put-add width at item bytes =
    ap (λ front. front ++ item ++ drop ((width + at) + length item) bytes) (take-add width at bytes)
    ∙ ap (λ back. (take width bytes ++ take at (drop width bytes)) ++ item ++ back) later
    ∙ ap (λ front. front ++ drop (at + length item) (drop width bytes)) (append_assoc (take width bytes) (take at (drop width bytes)) item)
    ∙ append_assoc (take width bytes) (take at (drop width bytes) ++ item) (drop (at + length item) (drop width bytes))
  where
    later : drop ((width + at) + length item) bytes ≡ drop (at + length item) (drop width bytes)
    later = ap (λ n. drop n bytes) (omega arith) ∙ sym (drop-drop (at + length item) width bytes)

-- one item of a block is written
blocks-put : (width n place at : ℕ) (item bytes : List ℕ) → place < n → at ≡ width * place → length item ≡ width → n * width ≤ length bytes →
    blocks width n (put at item bytes) ≡ slice_set (blocks width n bytes) place item
blocks-put width zero place at item bytes within is whole fits = absurd (omega arith)
blocks-put width (suc n) zero at item bytes within is whole fits =
    let none : at ≡ 0 = omega arith in
    let there : put at item bytes ≡ item ++ drop width bytes = ap (λ k. take k bytes ++ item ++ drop (k + length item) bytes) none ∙ ap (λ k. item ++ drop k bytes) (omega arith) in
    ap (blocks width (suc n)) there
    ∙ λ i. take_front width item (drop width bytes) whole i ∷ blocks width n (drop_at item (drop width bytes) width whole i)
blocks-put width (suc n) (suc place) at item bytes within is whole fits =
    let more : at ≡ width + width * place = is ∙ mul-suc width place ∙ omega arith in
    let enough : n * width + width ≤ length bytes = omega (arith, suc-mul n width) in
    let front : length (take width bytes) ≡ width = omega (arith, length-take width bytes) in
    ap (λ k. blocks width (suc n) (put k item bytes)) more
    ∙ ap (blocks width (suc n)) (put-add width (width * place) item bytes)
    ∙ (λ i. take_front width (take width bytes) (put (width * place) item (drop width bytes)) front i ∷ blocks width n (drop_at (take width bytes) (put (width * place) item (drop width bytes)) width front i))
    ∙ ap (λ later. take width bytes ∷ later) (blocks-put width n place (width * place) item (drop width bytes) (omega arith) refl whole (omega (arith, length-drop width bytes)))

pub length-items_in : (descr : Descr) (n : ℕ) (bytes : List ℕ) → length (items_in descr n bytes) ≡ n
length-items_in descr zero bytes = refl
length-items_in descr (suc n) bytes = ap suc (length-items_in descr n (drop (item_size descr) bytes))

-- the item at a place is the one whose bytes begin there
pub item-at : (descr : Descr) (n place : ℕ) (bytes : List ℕ) → place < n → slice_get (items_in descr n bytes) place ≡ Some (item_from descr bytes (item_size descr * place))
item-at descr zero place bytes h = absurd (omega arith)
item-at descr (suc n) zero bytes h =
    let none : 0 ≡ item_size descr * 0 = omega arith in ap (λ at. Some (item_from descr bytes at)) none
item-at descr (suc n) (suc place) bytes h =
    item-at descr n place (drop (item_size descr) bytes) (omega arith)
    ∙ ap (λ rest. Some (decode_item descr (take (item_size descr) rest))) (drop-drop (item_size descr * place) (item_size descr) bytes ∙ ap (λ at. drop at bytes) (omega (arith, mul-suc (item_size descr) place)))

-- each item ends within the bytes of all items
pub item-inside : (width n place : ℕ) → place < n → width * place + width ≤ n * width
item-inside width n place h =
    let most : width * suc place ≤ width * n = mul-le-mul_left width h in
    omega (arith, mul-suc width place)

pub put-item : (descr : Descr) (n place : ℕ) (item bytes : List ℕ) → place < n → length item ≡ item_size descr → n * item_size descr ≤ length bytes →
    items_in descr n (put (item_size descr * place) item bytes) ≡ slice_set (items_in descr n bytes) place (decode_item descr item)
put-item descr n place item bytes within whole fits =
    ap (map (decode_item descr)) (blocks-put (item_size descr) n place (item_size descr * place) item bytes within refl whole fits)
    ∙ map-set (decode_item descr) (blocks (item_size descr) n bytes) place item

-- Repeated items do not change the widths of leaves.
use Rattle.std.proofs.Common.{◌≡◌, ℕ, zero, suc, ◌+◌, ◌*◌, ◌<◌, List, [], ◌∷◌, ◌++◌, length, map, take, drop, get_or, pos, max, refl, sym, ap, ap₂, ◌∙◌, ◌-◌, arith, take-add, take_all, fold}
use Rattle.std.proofs.lemmas.Simd.{map-map}
use Rattle.array_print.proofs.Words.{map-append, drop_more, BoolScalar, Scalar, Byte, Int, Bytes, Leaf, Descr, Layout, count, item_from, leaves_of, items_from, widest, leaf_texts, first_text, leaf_width, leaf_widths, widths_at, IsPart, part_offsets}
use Rattle.array_print.proofs.PartLaws.{stays, part-some, part-block, length-part}

-- ---- the longest text of a list

widest-from : (w : ℕ) (texts : List (List ℕ)) → fold (λ width text. max width (length text)) w texts ≡ max w (widest texts)
widest-from w [] = omega arith
widest-from w (text ∷ texts) = omega (arith, widest-from (max w (length text)) texts, widest-from (max 0 (length text)) texts)

widest-append : (texts more : List (List ℕ)) → widest (texts ++ more) ≡ max (widest texts) (widest more)
widest-append [] more = omega arith
widest-append (text ∷ texts) more =
    let all = widest-from (max 0 (length text)) (texts ++ more) in
    omega (arith, all, widest-append texts more, widest-from (max 0 (length text)) texts)

-- ---- lists whose items have the same longest text, whatever the texts are

abbrev Agree : {X : Type 0} → List X → List X → Type 0
Agree {X} xs ys = (text : X → List ℕ) → widest (map text xs) ≡ widest (map text ys)

agree-map : {X Y : Type 0} (g : X → Y) (xs ys : List X) → Agree xs ys → Agree (map g xs) (map g ys)
agree-map g xs ys same text = ap widest (map-map text g xs) ∙ same (λ x. text (g x)) ∙ ap widest (sym (map-map text g ys))

agree-behind : {X : Type 0} (seen xs ys : List X) → Agree xs ys → Agree (seen ++ xs) (seen ++ ys)
agree-behind seen xs ys same text =
    ap widest (map-append text seen xs)
    ∙ widest-append (map text seen) (map text xs)
    ∙ ap (max (widest (map text seen))) (same text)
    ∙ sym (widest-append (map text seen) (map text ys))
    ∙ ap widest (sym (map-append text seen ys))

same-width : (scalar : Scalar) (texts more : List (List ℕ)) → widest texts ≡ widest more → leaf_width scalar texts ≡ leaf_width scalar more
same-width BoolScalar texts more same = refl
same-width (Byte signed) texts more same = same
same-width (Int signed wide order) texts more same = same
same-width (Bytes n) texts more same = refl

same-widths : (leaves : List Leaf) (items more : List (List (List ℕ))) → Agree items more → leaf_widths leaves items ≡ leaf_widths leaves more
same-widths [] items more same = refl
same-widths (leaf ∷ leaves) items more same =
    ap₂ (λ w ws. w ∷ ws) (same-width leaf.scalar (map first_text items) (map first_text more) (same first_text))
    (same-widths leaves (map (drop 1) items) (map (drop 1) more) (agree-map (drop 1) items more same))

-- ---- an axis whose blocks are all the same

pub count-outer : (l : Layout) (axis : ℕ) → axis < length l.shape → count (drop axis l.shape) ≡ get_or l.shape axis 0 * count (drop (axis + 1) l.shape)
count-outer l axis below = ap count (drop_more l.shape axis 0 below)

again : (offsets block : List ℕ) (c n : ℕ) → ((j : ℕ) → j < suc n → take c (drop (j * c) offsets) ≡ block) → Agree (take (suc n * c) offsets) block
again offsets block c zero each text =
    let one : suc zero * c ≡ c = omega arith in
    let none : 0 ≡ 0 * c = omega arith in
    ap (λ m. widest (map text (take m offsets))) one ∙ ap (λ m. widest (map text (take c (drop m offsets)))) none ∙ ap (λ l. widest (map text l)) (each 0 (omega arith))
again offsets block c (suc n) each text =
    let more : suc (suc n) * c ≡ suc n * c + c = omega arith in
    let so_far = again offsets block c n (λ j low. each j (omega arith)) text in
    let next = ap (λ l. widest (map text l)) (each (suc n) (omega arith)) in
    let front = take (suc n * c) offsets in
    let back = take c (drop (suc n * c) offsets) in
    let split = ap (λ m. widest (map text (take m offsets))) more ∙ ap (λ l. widest (map text l)) (take-add (suc n * c) c offsets)
    ∙ ap widest (map-append text front back) ∙ widest-append (map text front) (map text back) in
    omega (arith, split, so_far, next)

-- the widths of the first block are the widths of all blocks
pub widths-of-one : (descr : Descr) (block seen : List ℕ) (l : Layout) (axis start len item : ℕ) → axis < length l.shape → IsPart l axis start len item → get_or l.strides axis (pos 0) ≡ pos 0 →
    widths_at descr block (seen ++ take (1 * count (drop (axis + 1) l.shape)) (part_offsets l axis start)) ≡ widths_at descr block (seen ++ part_offsets l axis start)
widths-of-one descr block seen l axis start len item below is_part none =
    let leaves = leaves_of descr in
    let c = count (drop (axis + 1) l.shape) in
    let n = get_or l.shape axis 0 in
    let offsets = part_offsets l axis start in
    let some = part-some l axis start len item below is_part in
    let each = λ (j : ℕ) (low : j < n). part-block l axis start len item below is_part j start low (stays _ start j none) in
    let pred : suc (n - 1) ≡ n = omega (arith, some.0) in
    let all : take (suc (n - 1) * c) offsets ≡ offsets =
    take_all (suc (n - 1) * c) offsets (omega (arith, length-part l axis start, count-outer l axis below, ap (λ m. m * c) pred)) in
    let same : Agree (take (1 * c) offsets) offsets = λ text.
    again offsets (part_offsets l (axis + 1) start) c 0 (λ j low. each j (omega (arith, low, some.0))) text
    ∙ sym (again offsets (part_offsets l (axis + 1) start) c (n - 1) (λ j low. each j (omega (arith, low, pred))) text)
    ∙ ap (λ os. widest (map text os)) all in
    let one = seen ++ take (1 * c) offsets in
    let items = items_from descr block in
    let texts = λ (os : List ℕ). map (leaf_texts leaves) (items os) in
    same-widths leaves (texts one) (texts (seen ++ offsets)) (agree-map (leaf_texts leaves) (items one) (items (seen ++ offsets))
    (agree-map (item_from descr block) one (seen ++ offsets) (agree-behind seen (take (1 * c) offsets) offsets same)))

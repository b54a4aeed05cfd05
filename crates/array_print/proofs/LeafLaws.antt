-- Laws of the texts of an item's values, and of their widths.
use Rattle.std.proofs.Common.{◌≡◌, ℕ, zero, suc, ◌+◌, ◌<◌, ◌≤◌, List, [], ◌∷◌, ◌++◌, length, map, take, drop, replicate, get_or, refl, sym, ap, subst, ◌∙◌, ◌-◌, arith, append_assoc, IfSome, slice_get}
use Rattle.array_print.proofs.Words.{take-take, drop-take, drop-drop, take_more, length-take, AllZip-long, Scalar, Byte, Int, Bytes, Leaf, Descr, Field, Fields, before, listed, length-leaves_from, leaf_value, LeafValue, size, decode, leaves_of, BoolScalar, ScalarDescr, RecordDescr, leaf_text, leaf_texts, first_text, leaf_width, leaf_widths, widths, right_justified, all_justified, join_texts, in_parentheses, field_texts, structure_text, IsWidth, AreWidths, lead}

-- ---- values in a block

-- the bytes of a leaf of an item, by their position in the block
pub bytes-at : (block : List ℕ) (offset at wide n : ℕ) → at + wide ≤ n → take wide (drop at (take n (drop offset block))) ≡ take wide (drop (offset + at) block)
bytes-at block offset at wide n fits =
    let more : n ≡ at + (n - at) = omega arith in
    let most : wide ≤ n - at = omega arith in
    ap (λ m. take wide (drop at (take m (drop offset block)))) more
    ∙ ap (take wide) (drop-take at (n - at) (drop offset block))
    ∙ take-take wide (n - at) (drop at (drop offset block)) most
    ∙ ap (take wide) (drop-drop at offset block)

-- ---- widths of leaves

pub count-widths : (leaves : List Leaf) (ws : List ℕ) → AreWidths leaves ws → length ws ≡ length leaves
count-widths leaves ws are = AllZip-long (λ leaf width. IsWidth leaf.scalar width) leaves ws are

pub width-at : (leaves : List Leaf) (ws : List ℕ) (k : ℕ) (scalar : Scalar) (at : ℕ) → AreWidths leaves ws → k < length leaves → IfSome (slice_get leaves k) (λ leaf. (scalar ≡ leaf.scalar) × (at ≡ leaf.at)) → IsWidth scalar (get_or ws k 0)
width-at [] ws k scalar at are below is = absurd (omega arith)
width-at (leaf ∷ leaves) [] k scalar at are below is = absurd are
width-at (leaf ∷ leaves) (w ∷ ws) zero scalar at are below is = subst (λ s. IsWidth s w) (sym is.0) are.0
width-at (leaf ∷ leaves) (w ∷ ws) (suc k) scalar at are below is = width-at leaves ws k scalar at are.1 (omega arith) is

is-width : (scalar : Scalar) (texts : List (List ℕ)) → IsWidth scalar (leaf_width scalar texts)
is-width BoolScalar texts = tt
is-width (Byte signed) texts = tt
is-width (Int signed wide order) texts = tt
is-width (Bytes n) texts = refl

no-width : (scalar : Scalar) → IsWidth scalar 0
no-width BoolScalar = tt
no-width (Byte signed) = tt
no-width (Int signed wide order) = tt
no-width (Bytes n) = refl

pub are-leaf-widths : (leaves : List Leaf) (items : List (List (List ℕ))) → AreWidths leaves (leaf_widths leaves items)
are-leaf-widths [] items = tt
are-leaf-widths (leaf ∷ leaves) items = (is-width leaf.scalar (map first_text items), are-leaf-widths leaves (map (drop 1) items))

are-no-widths : (leaves : List Leaf) → AreWidths leaves (replicate (length leaves) 0)
are-no-widths [] = tt
are-no-widths (leaf ∷ leaves) = (no-width leaf.scalar, are-no-widths leaves)

pub are-widths : (descr : Descr) (shape : List ℕ) (items : List (List LeafValue)) → AreWidths (leaves_of descr) (widths descr shape items)
are-widths descr [] items = are-no-widths (leaves_of descr)
are-widths descr (n ∷ shape) items = are-leaf-widths (leaves_of descr) (map (leaf_texts (leaves_of descr)) items)

-- ---- the texts of an item

pub text-at : (leaves : List Leaf) (ws bytes : List ℕ) (k : ℕ) (scalar : Scalar) (at : ℕ) → AreWidths leaves ws → k < length leaves → IfSome (slice_get leaves k) (λ leaf. (scalar ≡ leaf.scalar) × (at ≡ leaf.at)) →
    get_or (all_justified ws (leaf_texts leaves (map (leaf_value bytes) leaves))) k [] ≡ right_justified (get_or ws k 0) (leaf_text scalar (decode scalar (take (size scalar) (drop at bytes))))
text-at [] ws bytes k scalar at are below is = absurd (omega arith)
text-at (leaf ∷ leaves) [] bytes k scalar at are below is = absurd are
text-at (leaf ∷ leaves) (w ∷ ws) bytes zero scalar at are below is =
    λ i. right_justified w (leaf_text (sym is.0 i) (decode (sym is.0 i) (take (size (sym is.0 i)) (drop (sym is.1 i) bytes))))
text-at (leaf ∷ leaves) (w ∷ ws) bytes (suc k) scalar at are below is = text-at leaves ws bytes k scalar at are.1 (omega arith) is

-- one more text, with the separator before it
joined-push : (separator text : List ℕ) (texts : List (List ℕ)) → join_texts separator (texts ++ text ∷ []) ≡ join_texts separator texts ++ lead (length texts) separator ++ text
joined-push separator text [] = refl
joined-push separator text (first ∷ []) = refl
joined-push separator text (first ∷ (next ∷ texts)) =
    let rest = join_texts separator (next ∷ texts) in
    ap (λ l. first ++ separator ++ l) (joined-push separator text (next ∷ texts))
    ∙ sym (append_assoc (first ++ separator) (rest ++ separator) text)
    ∙ ap (λ l. l ++ text) (sym (append_assoc (first ++ separator) rest separator))

pub joined-take-more : (separator : List ℕ) (texts : List (List ℕ)) (k : ℕ) → k < length texts → join_texts separator (take (k + 1) texts) ≡ join_texts separator (take k texts) ++ lead k separator ++ get_or texts k []
joined-take-more separator texts k below =
    let count : length (take k texts) ≡ k = omega (arith, length-take k texts) in
    ap (join_texts separator) (take_more texts k [] below)
    ∙ joined-push separator (get_or texts k []) (take k texts)
    ∙ ap (λ n. join_texts separator (take k texts) ++ lead n separator ++ get_or texts k []) count

-- ---- the texts of one leaf in all items

first-texts : (leaf : Leaf) (leaves : List Leaf) (bytes : ℕ → List ℕ) (offsets : List ℕ) →
    map first_text (map (leaf_texts (leaf ∷ leaves)) (map (λ offset. map (leaf_value (bytes offset)) (leaf ∷ leaves)) offsets)) ≡ map (λ offset. leaf_text leaf.scalar (leaf_value (bytes offset) leaf)) offsets
first-texts leaf leaves bytes [] = refl
first-texts leaf leaves bytes (offset ∷ offsets) = ap (λ later. leaf_text leaf.scalar (leaf_value (bytes offset) leaf) ∷ later) (first-texts leaf leaves bytes offsets)

rest-texts : (leaf : Leaf) (leaves : List Leaf) (bytes : ℕ → List ℕ) (offsets : List ℕ) →
    map (drop 1) (map (leaf_texts (leaf ∷ leaves)) (map (λ offset. map (leaf_value (bytes offset)) (leaf ∷ leaves)) offsets)) ≡ map (leaf_texts leaves) (map (λ offset. map (leaf_value (bytes offset)) leaves) offsets)
rest-texts leaf leaves bytes [] = refl
rest-texts leaf leaves bytes (offset ∷ offsets) = ap (λ later. leaf_texts leaves (map (leaf_value (bytes offset)) leaves) ∷ later) (rest-texts leaf leaves bytes offsets)

pub leaf-width-at : (leaves : List Leaf) (bytes : ℕ → List ℕ) (offsets : List ℕ) (k : ℕ) (scalar : Scalar) (at : ℕ) → k < length leaves → IfSome (slice_get leaves k) (λ leaf. (scalar ≡ leaf.scalar) × (at ≡ leaf.at)) →
    get_or (leaf_widths leaves (map (leaf_texts leaves) (map (λ offset. map (leaf_value (bytes offset)) leaves) offsets))) k 0 ≡ leaf_width scalar (map (λ offset. leaf_text scalar (decode scalar (take (size scalar) (drop at (bytes offset))))) offsets)
leaf-width-at [] bytes offsets k scalar at below is = absurd (omega arith)
leaf-width-at (leaf ∷ leaves) bytes offsets zero scalar at below is =
    ap (leaf_width leaf.scalar) (first-texts leaf leaves bytes offsets)
    ∙ λ i. leaf_width (sym is.0 i) (map (λ offset. leaf_text (sym is.0 i) (decode (sym is.0 i) (take (size (sym is.0 i)) (drop (sym is.1 i) (bytes offset))))) offsets)
leaf-width-at (leaf ∷ leaves) bytes offsets (suc k) scalar at below is =
    ap (λ items. get_or (leaf_widths leaves items) k 0) (rest-texts leaf leaves bytes offsets)
    ∙ leaf-width-at leaves bytes offsets k scalar at (omega arith) is

-- ---- the texts of fields

-- the text of one field, and those after it
pub field_texts-before : (name : List ℕ) (at : ℕ) (descr : Descr) (rest : Fields) (texts : List (List ℕ)) → field_texts (before name at descr rest) texts ≡ structure_text descr texts ∷ field_texts rest (drop (length (leaves_of descr)) texts)
field_texts-before name at (ScalarDescr scalar) rest texts = refl
field_texts-before name at (RecordDescr structure) rest texts =
    ap (λ n. in_parentheses (field_texts structure.fields texts) ∷ field_texts rest (drop n texts)) (sym (length-leaves_from 0 structure.fields))

pub length-field_texts : (fields : List Field) (texts : List (List ℕ)) → length (field_texts (listed fields) texts) ≡ length fields
length-field_texts [] texts = refl
length-field_texts (field ∷ fields) texts =
    ap length (field_texts-before field.name field.at field.descr (listed fields) texts) ∙ ap suc (length-field_texts fields (drop (length (leaves_of field.descr)) texts))

-- Widths of leaves, as they grow item by item.
use Rattle.std.proofs.Common.{◌≡◌, ℕ, ◌+◌, ◌<◌, ◌≤◌, List, [], ◌∷◌, ◌++◌, length, map, take, drop, get_or, refl, sym, ap, arith, ◌∙◌, IfSome, slice_get}
use Rattle.array_print.proofs.Words.{refill, take-append_seam, map-append, Scalar, Descr, size, decode, item_size, leaves_of, leaf_text, leaf_texts, leaf_width, leaf_widths, widths, items_from, widths_at}
use Rattle.array_print.proofs.LeafLaws.{are-leaf-widths, bytes-at, count-widths, leaf-width-at}

pub length-widths-at : (descr : Descr) (block seen : List ℕ) → length (widths_at descr block seen) ≡ length (leaves_of descr)
length-widths-at descr block seen =
    count-widths (leaves_of descr) (widths_at descr block seen) (are-leaf-widths (leaves_of descr) (map (leaf_texts (leaves_of descr)) (items_from descr block seen)))

-- the texts of a leaf
abbrev texts_of : Descr → List ℕ → Scalar → ℕ → List ℕ → List (List ℕ)
texts_of descr block scalar at seen = map (λ offset. leaf_text scalar (decode scalar (take (size scalar) (drop at (take (item_size descr) (drop offset block)))))) seen

width-at : (descr : Descr) (block seen : List ℕ) (k : ℕ) (scalar : Scalar) (at : ℕ) → k < length (leaves_of descr) → IfSome (slice_get (leaves_of descr) k) (λ leaf. (scalar ≡ leaf.scalar) × (at ≡ leaf.at)) →
    get_or (widths_at descr block seen) k 0 ≡ leaf_width scalar (texts_of descr block scalar at seen)
width-at descr block seen k scalar at below is = leaf-width-at (leaves_of descr) (λ offset. take (item_size descr) (drop offset block)) seen k scalar at below is

-- the width of a leaf, of no items
pub least-at : (descr : Descr) (k : ℕ) (scalar : Scalar) (at : ℕ) → k < length (leaves_of descr) → IfSome (slice_get (leaves_of descr) k) (λ leaf. (scalar ≡ leaf.scalar) × (at ≡ leaf.at)) → leaf_width scalar [] ≡ get_or (leaf_widths (leaves_of descr) []) k 0
least-at descr k scalar at below is = sym (width-at descr [] [] k scalar at below is)

-- the width of a leaf, with one more item
pub one-wider : (descr : Descr) (block seen : List ℕ) (offset k : ℕ) (scalar : Scalar) (at width wider : ℕ) → k < length (leaves_of descr) → at + size scalar ≤ item_size descr → IfSome (slice_get (leaves_of descr) k) (λ leaf. (scalar ≡ leaf.scalar) × (at ≡ leaf.at)) →
    width ≡ get_or (widths_at descr block seen) k 0 →
    ((texts : List (List ℕ)) → width ≡ leaf_width scalar texts → wider ≡ leaf_width scalar (texts ++ leaf_text scalar (decode scalar (take (size scalar) (drop (offset + at) block))) ∷ [])) →
    wider ≡ get_or (widths_at descr block (seen ++ offset ∷ [])) k 0
one-wider descr block seen offset k scalar at width wider below within is so_far grows =
    let read = λ (o : ℕ). leaf_text scalar (decode scalar (take (size scalar) (drop at (take (item_size descr) (drop o block))))) in
    grows (texts_of descr block scalar at seen) (so_far ∙ width-at descr block seen k scalar at below is)
    ∙ ap (λ b. leaf_width scalar (texts_of descr block scalar at seen ++ leaf_text scalar (decode scalar b) ∷ [])) (sym (bytes-at block offset at (size scalar) (item_size descr) within))
    ∙ ap (leaf_width scalar) (sym (map-append read seen (offset ∷ [])))
    ∙ sym (width-at descr block (seen ++ offset ∷ []) k scalar at below is)

-- the widths of an array with axes
pub with-axes : (descr : Descr) (shape block offsets : List ℕ) → 0 < length shape → widths_at descr block offsets ≡ widths descr shape (items_from descr block offsets)
with-axes descr [] block offsets some = absurd (omega (arith, some))
with-axes descr (n ∷ shape) block offsets some = refl

-- new widths written over the same number of old ones
pub refilled : (ws new : List ℕ) → length new ≡ length ws → refill (length ws) ws new ≡ new
refilled ws new same = ap (λ n. take n (new ++ drop (length new) ws)) (sym same) ∙ take-append_seam new (drop (length new) ws)

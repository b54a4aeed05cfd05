-- Indexes of concatenated axes, and lists over them.
use Rattle.std.proofs.Common.{◌≡◌, ℕ, List, [], ◌∷◌, ◌++◌, map, length, get_or, take, drop, All, refl, sym, ap, ◌∙◌, arith, append-nil}
use Rattle.fancy_index.proofs.Words.{flat_map, range_with_len, All-map, All-head, All-tail, flat_map-map, map-map, Layout, natural, indexes, IsIndex, address, offsets, length-indexes, get_or-indexes, index_at, same_on_indexes, flat_map_same, flat_map-flat_map, map-flat_map, moved_offset, shifted, shifted_all, moved_all}

-- ---- properties of each index

pub all_indexes : (P : List ℕ → Type 0) (shape : List ℕ) → ((index : List ℕ) → IsIndex shape index → P index) → All P (indexes shape)
all_indexes P shape each k d below =
    let found = index_at shape k (omega (arith, length-indexes shape)) in
    let here : get_or (indexes shape) k d ≡ found.0 = ap (λ r. get_or (indexes shape) r d) (sym found.2) ∙ get_or-indexes shape found.0 d found.1 in
    rw here (each found.0 found.1)

pub all_offsets : (P : ℕ → Type 0) (l : Layout) → ((index : List ℕ) → IsIndex l.shape index → P (natural (address l index))) → All P (offsets l)
unfolding offsets
all_offsets P l each = All-map P (λ index. natural (address l index)) (indexes l.shape) (all_indexes (λ index. P (natural (address l index))) l.shape each)

pub flat_map_all : {X Y : Type 0} (f g : X → List Y) (xs : List X) → All (λ x. f x ≡ g x) xs → flat_map f xs ≡ flat_map g xs
flat_map_all f g [] all = refl
flat_map_all f g (x ∷ xs) all = λ i. All-head (λ x. f x ≡ g x) x xs all i ++ flat_map_all f g xs (All-tail (λ x. f x ≡ g x) x xs all) i

-- functions that agree on all indexes give the same list
flat_same : {Y : Type 0} (shape : List ℕ) (f g : List ℕ → List Y) → ((index : List ℕ) → IsIndex shape index → f index ≡ g index) → flat_map f (indexes shape) ≡ flat_map g (indexes shape)
flat_same shape f g each = flat_map_all f g (indexes shape) (all_indexes (λ index. f index ≡ g index) shape each)

-- ---- indexes of concatenated axes

pub map-joined : {Y : Type 0} (f : List ℕ → Y) (front back : List ℕ) → map f (indexes (front ++ back)) ≡ flat_map (λ i. map (λ j. f (i ++ j)) (indexes back)) (indexes front)
map-joined f [] back = sym (append-nil (map f (indexes back)))
map-joined f (n ∷ front) back =
    let numbers = range_with_len 0 n in
    let later : List ℕ → List _ = λ i. map (λ j. f (i ++ j)) (indexes back) in
    let row : (k : ℕ) → map f (map (λ i. k ∷ i) (indexes (front ++ back))) ≡ flat_map later (map (λ i. k ∷ i) (indexes front)) = λ k.
    map-map f (λ i. k ∷ i) (indexes (front ++ back)) ∙ map-joined (λ i. f (k ∷ i)) front back ∙ sym (flat_map-map later (λ i. k ∷ i) (indexes front)) in
    map-flat_map f (λ k. map (λ i. k ∷ i) (indexes (front ++ back))) numbers
    ∙ flat_map_same (λ k. map f (map (λ i. k ∷ i) (indexes (front ++ back)))) (λ k. flat_map later (map (λ i. k ∷ i) (indexes front))) row numbers
    ∙ sym (flat_map-flat_map later (λ k. map (λ i. k ∷ i) (indexes front)) numbers)

-- the offsets of a plan, index by index
pub moved-joined : (base : ℕ) (outer inner : Layout) (points : List ℕ) (shift : List ℕ → ℕ) (f : List ℕ → ℕ) →
    ((o at i : List ℕ) → IsIndex outer.shape o → IsIndex points at → IsIndex inner.shape i → moved_offset base (moved_offset base (natural (address outer o)) (shift at)) (natural (address inner i)) ≡ f (o ++ (at ++ i))) →
    moved_all base (offsets outer) (map shift (indexes points)) (offsets inner) ≡ map f (indexes (outer.shape ++ (points ++ inner.shape)))
unfolding offsets
moved-joined base outer inner points shift f same =
    let items = map (λ i. natural (address inner i)) (indexes inner.shape) in
    let places = λ (o : List ℕ). natural (address outer o) in
    flat_map-map (shifted_all base (map shift (indexes points)) items) places (indexes outer.shape)
    ∙ flat_same outer.shape _ (λ o. map (λ r. f (o ++ r)) (indexes (points ++ inner.shape))) (λ o in-o.
    flat_map-map (shifted base items (places o)) shift (indexes points)
    ∙ flat_same points _ (λ at. map (λ i. f (o ++ (at ++ i))) (indexes inner.shape)) (λ at in-at.
    map-map (moved_offset base (moved_offset base (places o) (shift at))) (λ i. natural (address inner i)) (indexes inner.shape)
    ∙ same_on_indexes inner.shape _ (λ i. f (o ++ (at ++ i))) (λ i in-i. same o at i in-o in-at in-i))
    ∙ sym (map-joined (λ r. f (o ++ r)) points inner.shape))
    ∙ sym (map-joined f outer.shape (points ++ inner.shape))

-- ---- cutting an index of concatenated axes

pub IsIndex-cut : (front back index : List ℕ) → IsIndex (front ++ back) index → IsIndex front (take (length front) index) × IsIndex back (drop (length front) index)
IsIndex-cut [] back index in' = (tt, in')
IsIndex-cut (n ∷ front) back [] in' = absurd in'
IsIndex-cut (n ∷ front) back (k ∷ index) in' =
    let later = IsIndex-cut front back index in'.1 in
    ((in'.0, later.0), later.1)

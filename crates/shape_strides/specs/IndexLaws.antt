-- Laws of indexes and their ranks.
use Rattle.std.specs.Prelude.{◌≡◌, ℕ, ◌<◌, List, length, ◌+◌, ◌*◌, ◌/◌, ◌%◌, [], ◌∷◌, ◌++◌, map}
use Rattle.std.proofs.Common.{arith, zero, suc, get_or, refl, sym, ◌∙◌, ap, length-append, get_or-append-add, zero-mul, suc-mul, mod-lt, div-add-mod', mul_comm}
use Rattle.shape_strides.specs.Words.{flat_map, range_with_len, get_or_append_left, length-map, get_or-map, same_lists, mul-add-lt, div_below}
use Rattle.shape_strides.specs.Indexes.{count, indexes, rank, IsIndex}
use Rattle.shape_strides.specs.CountLaws.{pos_of_factor}

-- ---- blocks of equal length, concatenated

pub length-blocks : {X : Type 0} (f : ℕ → List X) (m : ℕ) → ((k : ℕ) → length (f k) ≡ m) → (a n : ℕ) → length (flat_map f (range_with_len a n)) ≡ n * m
length-blocks f m same a zero = sym (zero-mul m)
length-blocks f m same a (suc n) =
    omega (arith, length-append (f a) (flat_map f (range_with_len (a + 1) n)), same a, length-blocks f m same (a + 1) n, suc-mul n m)

-- The entry at position k * m + j is entry j of block k.
pub get_or-blocks : {X : Type 0} (f : ℕ → List X) (m : ℕ) → ((k : ℕ) → length (f k) ≡ m) → (a n k j : ℕ) (d : X) → k < n → j < m → get_or (flat_map f (range_with_len a n)) (k * m + j) d ≡ get_or (f (a + k)) j d
get_or-blocks f m same a zero k j d below within = absurd (omega arith)
get_or-blocks f m same a (suc n) zero j d below within =
    let rest = flat_map f (range_with_len (a + 1) n) in
    let first : zero * m + j ≡ j = omega (arith, zero-mul m) in
    let inside : j < length (f a) = omega (arith, same a) in
    let start : a ≡ a + zero = omega arith in
    ap (λ i. get_or (f a ++ rest) i d) first ∙ get_or_append_left (f a) rest d j inside ∙ ap (λ x. get_or (f x) j d) start
get_or-blocks f m same a (suc n) (suc k) j d below within =
    let rest = flat_map f (range_with_len (a + 1) n) in
    let later : suc k * m + j ≡ length (f a) + (k * m + j) = omega (arith, same a, suc-mul k m) in
    let next : a + 1 + k ≡ a + suc k = omega arith in
    ap (λ i. get_or (f a ++ rest) i d) later ∙ get_or-append-add (f a) rest (k * m + j) d ∙ get_or-blocks f m same (a + 1) n k j d (omega arith) within ∙ ap (λ x. get_or (f x) j d) next

-- ---- indexes

pub length-indexes : (shape : List ℕ) → length (indexes shape) ≡ count shape
length-indexes [] = refl
length-indexes (n ∷ shape) =
    length-blocks (λ k. map (λ i. k ∷ i) (indexes shape)) (count shape) (λ k. length-map (indexes shape) (λ i. k ∷ i) ∙ length-indexes shape) 0 n

pub rank-lt : (shape index : List ℕ) → IsIndex shape index → rank shape index < count shape
rank-lt (n ∷ shape) (k ∷ index) in' =
    omega (arith, mul-add-lt k (count shape) (rank shape index) n in'.0 (rank-lt shape index in'.1), mul_comm (count shape) n)
rank-lt _ _ in' = omega arith

-- The position of an index in the list of indexes is its rank.
pub get_or-indexes : (shape index : List ℕ) (d : List ℕ) → IsIndex shape index → get_or (indexes shape) (rank shape index) d ≡ index
get_or-indexes [] [] d in' = refl
get_or-indexes (n ∷ shape) (k ∷ index) d in' =
    let block : ℕ → List (List ℕ) = λ j. map (λ i. j ∷ i) (indexes shape) in
    let same : (j : ℕ) → length (block j) ≡ count shape = λ j. length-map (indexes shape) (λ i. j ∷ i) ∙ length-indexes shape in
    let low : rank shape index < count shape = rank-lt shape index in'.1 in
    let inside : rank shape index < length (indexes shape) = omega (arith, length-indexes shape) in
    let zero_more : 0 + k ≡ k = omega arith in
    get_or-blocks block (count shape) same 0 n k (rank shape index) d in'.0 low ∙ ap (λ j. get_or (block j) (rank shape index) d) zero_more ∙ get_or-map (λ i. k ∷ i) (indexes shape) (rank shape index) [] d inside ∙ ap (λ i. k ∷ i) (get_or-indexes shape index [] in'.1)
get_or-indexes _ _ d in' = absurd in'

-- Every number below the number of items is the rank of an index.
pub index_at : (shape : List ℕ) (k : ℕ) → k < count shape → (index : List ℕ) × IsIndex shape index × (rank shape index ≡ k)
index_at [] k below = ([], tt, omega arith)
index_at (n ∷ shape) k below =
    let c = count shape in
    let some : 0 < c = pos_of_factor n c k below in
    let rest = index_at shape (k % c) (mod-lt k some) in
    (k / c ∷ rest.0, (div_below k c n some below, rest.1), ap (λ r. k / c * c + r) rest.2 ∙ div-add-mod' k c)

-- Functions that agree on all indexes give the same list.
pub same_on_indexes : {A : Type 0} (shape : List ℕ) (f g : List ℕ → A) → ((index : List ℕ) → IsIndex shape index → f index ≡ g index) → map f (indexes shape) ≡ map g (indexes shape)
same_on_indexes shape f g agree =
    same_lists (map f (indexes shape)) (map g (indexes shape)) (length-map (indexes shape) f ∙ sym (length-map (indexes shape) g)) (λ k d below.
    let low : k < count shape = omega (arith, length-map (indexes shape) f, length-indexes shape) in
    let inside : k < length (indexes shape) = omega (arith, length-indexes shape) in
    let found = index_at shape k low in
    let here : get_or (indexes shape) k [] ≡ found.0 = ap (λ r. get_or (indexes shape) r []) (sym found.2) ∙ get_or-indexes shape found.0 [] found.1 in
    get_or-map f (indexes shape) k [] d inside ∙ ap f here ∙ agree found.0 found.1 ∙ ap g (sym here) ∙ sym (get_or-map g (indexes shape) k [] d inside))

-- Indexes with the same rank are equal.
pub rank-same : (shape i j : List ℕ) → IsIndex shape i → IsIndex shape j → rank shape i ≡ rank shape j → i ≡ j
rank-same shape i j in-i in-j same = sym (get_or-indexes shape i [] in-i) ∙ ap (λ r. get_or (indexes shape) r []) same ∙ get_or-indexes shape j [] in-j

-- ---- indexes, number by number

pub length-index : (shape index : List ℕ) → IsIndex shape index → length index ≡ length shape
length-index [] [] in' = refl
length-index (n ∷ shape) (k ∷ index) in' = ap suc (length-index shape index in'.1)
length-index _ _ in' = absurd in'

pub number-lt : (shape index : List ℕ) (j : ℕ) → IsIndex shape index → j < length shape → get_or index j 0 < get_or shape j 0
number-lt (n ∷ shape) (k ∷ index) zero in' below = in'.0
number-lt (n ∷ shape) (k ∷ index) (suc j) in' below = number-lt shape index j in'.1 (omega arith)
number-lt _ _ j in' below = absurd (omega arith)

pub IsIndex-from_numbers : (shape index : List ℕ) → length index ≡ length shape → ((j : ℕ) → j < length shape → get_or index j 0 < get_or shape j 0) → IsIndex shape index
IsIndex-from_numbers [] [] same below = tt
IsIndex-from_numbers (n ∷ shape) (k ∷ index) same below =
    (below 0 (omega arith), IsIndex-from_numbers shape index (omega arith) (λ j inside. below (suc j) (omega arith)))
IsIndex-from_numbers _ _ same below = absurd (omega arith)

pub IsIndex-append : (shape shape' index index' : List ℕ) → IsIndex shape index → IsIndex shape' index' → IsIndex (shape ++ shape') (index ++ index')
IsIndex-append [] shape' [] index' in' later = later
IsIndex-append (n ∷ shape) shape' (k ∷ index) index' in' later = (in'.0, IsIndex-append shape shape' index index' in'.1 later)
IsIndex-append _ shape' _ index' in' later = absurd in'

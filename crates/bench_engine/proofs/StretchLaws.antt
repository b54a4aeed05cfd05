-- Items that are stretched to a shape.
use Rattle.std.proofs.Common.{◌≡◌, ◌<◌, ℕ, zero, suc, ◌-◌, ◌&&◌, max, true, false, List, [], ◌∷◌, ◌++◌, length, map, get_or, slice_index, replicate, Result, Ok, refl, sym, ap, ◌∙◌, arith}
use Rattle.bench_engine.proofs.Words.{is_ok, false≢true, and_parts, nat_tests, length-map, get_or-map, map-map, Refusal, ◌>>=◌, count, indexes, rank, IsIndex, length-indexes, rank-lt, same_on_indexes, shape_of, shape_of-same, view_through, aligned, go_together, common_length, all_go_together, common_lengths, common_of_two, common_with, common_shape, stretches, all_stretch, can_stretch, broadcast_index, stretched, IsIndex-broadcast, common-some, few-axes}

-- ---- items, stretched

-- lists with the same items have the same items when they are stretched
pub stretched-same : {A : Type 0} (f g : ℕ → A) (xs ys shape target : List ℕ) → map f xs ≡ map g ys → length xs ≡ count shape → can_stretch shape target ≡ true →
    map f (view_through xs shape target (broadcast_index shape)) ≡ map g (view_through ys shape target (broadcast_index shape))
stretched-same f g xs ys shape target same whole can =
    map-map f (λ index. slice_index xs (rank shape (broadcast_index shape index))) (indexes target)
    ∙ same_on_indexes target (λ index. f (slice_index xs (rank shape (broadcast_index shape index)))) (λ index. g (slice_index ys (rank shape (broadcast_index shape index)))) each
    ∙ sym (map-map g (λ index. slice_index ys (rank shape (broadcast_index shape index))) (indexes target))
  where
    each : (index : List ℕ) → IsIndex target index → f (slice_index xs (rank shape (broadcast_index shape index))) ≡ g (slice_index ys (rank shape (broadcast_index shape index)))
    each index in' =
        let k = rank shape (broadcast_index shape index) in
        let low : k < length xs = omega (arith, whole, rank-lt shape (broadcast_index shape index) (IsIndex-broadcast shape target index can in')) in
        let low' : k < length ys = omega (arith, low, length-map xs f, length-map ys g, ap length same) in
        sym (get_or-map f xs k 0 (f 0) low) ∙ ap (λ items. get_or items k (f 0)) same ∙ get_or-map g ys k 0 (f 0) low'

-- a single item is at each index
pub one-stretched : (at : ℕ) (target : List ℕ) → view_through (at ∷ []) [] target (broadcast_index []) ≡ replicate (count target) at
one-stretched at target = all-alike (indexes target) ∙ ap (λ n. replicate n at) (length-indexes target)
  where
    all-alike : (list : List (List ℕ)) → map (λ index. slice_index (at ∷ []) (rank [] (broadcast_index [] index))) list ≡ replicate (length list) at
    all-alike [] = refl
    all-alike (index ∷ list) = λ i. at ∷ all-alike list i

pub map-replicate : {A B : Type 0} (f : A → B) (n : ℕ) (x : A) → map f (replicate n x) ≡ replicate n (f x)
map-replicate f zero x = refl
map-replicate f (suc n) x = λ i. f x ∷ map-replicate f n x i

-- ---- a shape without axes stretches to every shape

ones-fit : (target : List ℕ) → all_stretch (replicate (length target) 1 ++ []) target ≡ true
ones-fit [] = refl
ones-fit (n ∷ target) = λ i. one-fits i && ones-fit target i
  where
    one-fits : stretches 1 n ≡ true
    one-fits = grind (arith, nat_tests)

pub none-fits : (target : List ℕ) → can_stretch [] target ≡ true
none-fits target =
    let whole : length target - 0 ≡ length target = omega arith in
    ap (λ k. all_stretch (replicate k 1 ++ []) target) whole ∙ ones-fit target

-- ---- the common shape of a shape and one that stretches to it

ones-go : (target : List ℕ) → all_go_together (replicate (length target) 1 ++ []) target ≡ true
ones-go [] = refl
ones-go (n ∷ target) = λ i. one-goes i && ones-go target i
  where
    one-goes : go_together 1 n ≡ true
    one-goes = grind (arith, nat_tests)

ones-common : (target : List ℕ) → common_lengths (replicate (length target) 1 ++ []) target ≡ target
ones-common [] = refl
ones-common (n ∷ target) = λ i. n ∷ ones-common target i

none-before : (target : List ℕ) → aligned (length target) target ≡ target
none-before target =
    let none : length target - length target ≡ 0 = omega arith in
    ap (λ k. replicate k 1 ++ target) none

from-none : (target : List ℕ) → common_of_two [] target ≡ Ok target
from-none target =
    let rank : length target ≡ max 0 (length target) = omega arith in
    let whole : length target - 0 ≡ length target = omega arith in
    common-some [] target (length target) rank (ap (all_go_together (aligned (length target) [])) (none-before target) ∙ ap (λ k. all_go_together (replicate k 1 ++ []) target) whole ∙ ones-go target)
    ∙ ap Ok (ap (common_lengths (aligned (length target) [])) (none-before target) ∙ ap (λ k. common_lengths (replicate k 1 ++ []) target) whole ∙ ones-common target)

goes : (m n : ℕ) → stretches n m ≡ true → go_together m n ≡ true
goes m n fits = grind (arith, nat_tests)

common-is : (m n : ℕ) → stretches n m ≡ true → common_length m n ≡ m
common-is m n fits = grind (arith, nat_tests)

all-go : (target shape : List ℕ) → all_stretch shape target ≡ true → all_go_together target shape ≡ true
all-go [] shape fits = refl
all-go (m ∷ target) [] fits = refl
all-go (m ∷ target) (n ∷ shape) fits =
    let both = and_parts (stretches n m) (all_stretch shape target) fits in
    λ i. goes m n both.0 i && all-go target shape both.1 i

all-common : (target shape : List ℕ) → all_stretch shape target ≡ true → common_lengths target shape ≡ target
all-common [] shape fits = refl
all-common (m ∷ target) [] fits = absurd (false≢true fits)
all-common (m ∷ target) (n ∷ shape) fits =
    let both = and_parts (stretches n m) (all_stretch shape target) fits in
    λ i. common-is m n both.0 i ∷ all-common target shape both.1 i

onto : (target shape : List ℕ) → can_stretch shape target ≡ true → common_of_two target shape ≡ Ok target
onto target shape can =
    let wide : length target ≡ max (length target) (length shape) = omega (arith, few-axes shape target can) in
    common-some target shape (length target) wide (ap (λ l. all_go_together l (aligned (length target) shape)) (none-before target) ∙ all-go target (aligned (length target) shape) can)
    ∙ ap Ok (ap (λ l. common_lengths l (aligned (length target) shape)) (none-before target) ∙ all-common target (aligned (length target) shape) can)

pub common-lengths : (target shape : List ℕ) → can_stretch shape target ≡ true → common_with [] (target ∷ shape ∷ []) ≡ Ok target
common-lengths target shape can = rw (from-none target, onto target shape can) refl

pub common-onto : (target shape common : List ℕ) → can_stretch shape target ≡ true → common_shape (target ∷ shape ∷ []) ≡ Ok common → common ≡ target
unfolding common_shape
common-onto target shape common can found =
    sym (shape_of-same target common (sym (ap (λ (r : Result (List ℕ) Refusal). r >>= shape_of) (common-lengths target shape can)) ∙ found))

-- ---- whether a shape stretches

pub stretched-can : (shape target : List ℕ) → is_ok (stretched shape target) ≡ true → can_stretch shape target ≡ true
unfolding stretched
stretched-can shape target ok =
    elim (can_stretch shape target) as (λ t. can_stretch shape target ≡ t → can_stretch shape target ≡ true) [
      | true ↦ λ is. is
      | false ↦ λ none. absurd (false≢true (sym (refused none) ∙ ok))
    ] refl
  where
    refused : can_stretch shape target ≡ false → is_ok (stretched shape target) ≡ false
    refused none = rw none refl

-- The points that the code stores are those of the definitions.
use Rattle.std.proofs.Common.{◌≡◌, inl, inr, Result, Ok, Err, ℕ, ◌+◌, ◌<◌, Bool, true, false, cond, ◌&&◌, List, [], ◌∷◌, map, length, get_or, drop, All, refl, sym, ap, subst, ◌∙◌, arith, ℤ, pos}
use Rattle.fancy_index.proofs.Words.{IfOk, list_all, int_eq, bytes_eq, and_parts, mod-eq_of_lt, mod-lt, length-map, drop_more, All-cons, bytes_eq-Decides, Refusal, Gives, count, indexes, rank, get_or-indexes, length-indexes, axis_below, from_front, is_place, PointList, Kind, Integers, Mask, covers_kind, are_places, Points, true_indexes, point_at, points_of, place_of, named_places, rank_on, HavePlaces, true_ranks, tuple, ranks_of, are_named, IsPart}
use Rattle.fancy_index.proofs.WordLaws.{places-named}

pub place-low : (n : ℕ) (at : ℤ) → is_place n at ≡ true → place_of n at < n
place-low n at test = axis_below n (from_front n at) test

-- the point with a rank on one axis
tuple-one : (n k : ℕ) → k < n → tuple (n ∷ []) k ≡ k ∷ []
tuple-one n k low =
    let is : rank (n ∷ []) (k ∷ []) ≡ k = omega arith in
    ap (λ r. get_or (indexes (n ∷ [])) r []) (sym is) ∙ get_or-indexes (n ∷ []) (k ∷ []) [] (low, tt)

points-along : (n : ℕ) (numbers : List ℤ) → list_all (is_place n) numbers ≡ true → map (tuple (n ∷ [])) (map (place_of n) numbers) ≡ map (point_at n) numbers
points-along n [] all = refl
points-along n (number ∷ numbers) all =
    let both = and_parts (is_place n number) (list_all (is_place n) numbers) all in
    let first = tuple-one n (place_of n number) (place-low n number both.0) in
    let later = points-along n numbers both.1 in
    λ i. first i ∷ later i

-- the ranks of numbers that are in range are their places
pub ranks-named : (n : ℕ) (numbers : List ℤ) → list_all (is_place n) numbers ≡ true → map (rank_on n) numbers ≡ map (place_of n) numbers
ranks-named n [] all = refl
ranks-named n (number ∷ numbers) all =
    let both = and_parts (is_place n number) (list_all (is_place n) numbers) all in
    λ i. mod-eq_of_lt (place-low n number both.0) i ∷ ranks-named n numbers both.1 i

pub ranks-read : {X : Type 0} (view : X → List ℕ) (n : ℕ) (numbers : List ℤ) (r : Result X Refusal) → Gives view r (named_places n numbers) → IfOk r (λ x. view x ≡ map (rank_on n) numbers)
ranks-read view n numbers (Ok x) read =
    let named = places-named n numbers (view x) read in
    named.1 ∙ sym (ranks-named n numbers named.0)
ranks-read view n numbers (Err e) read = tt

ranks-on : (n : ℕ) (numbers : List ℤ) → HavePlaces n numbers → All (λ rank. rank < count (n ∷ [])) (map (rank_on n) numbers)
ranks-on n [] have = λ k d below. absurd (omega arith)
ranks-on n (number ∷ numbers) (inl some) = All-cons (λ rank. rank < count (n ∷ [])) (rank_on n number) (map (rank_on n) numbers) (omega (arith, mod-lt (place_of n number) some)) (ranks-on n numbers (inl some))
ranks-on n (number ∷ numbers) (inr none) = absurd (omega (arith, ap length none))

-- on an empty axis no number is in range
pub none-named : (n : ℕ) (numbers : List ℤ) → n ≡ 0 → 0 < length numbers → list_all (is_place n) numbers ≡ false
none-named n [] none some = absurd (omega (arith, some))
none-named n (number ∷ numbers) none some = ap (λ b. b && list_all (is_place n) numbers) (elim (is_place n number) as (λ b. is_place n number ≡ b → b ≡ false) [ true ↦ λ is. absurd (omega (arith, place-low n number is, none)) | false ↦ λ is. refl ] refl)

-- ---- an integer

pub integer-part : (n : ℕ) (at : ℤ) (p : PointList) → is_place n at ≡ true → p.lengths.items ≡ [] → p.axes.items ≡ n ∷ [] → are_named p.ranks ≡ true → ranks_of p.ranks ≡ place_of n at ∷ [] → IsPart (n ∷ []) (is_place n at) p (Points [] (point_at n at ∷ []) ∷ [])
integer-part n at p is-place lengths axes named ranks = record {
  axes = axes;
  list = record {
    within = subst (All (λ rank. rank < count p.axes.items)) (sym ranks) (rw axes (All-cons (λ rank. rank < count (n ∷ [])) (place_of n at) [] (omega (arith, place-low n at is-place)) (λ k d below. absurd (omega arith))));
    many = ap length ranks ∙ sym (ap count lengths);
  };
  named = named ∙ sym is-place;
  shows = λ _.
      let one = tuple-one n (place_of n at) (place-low n at is-place) in
      (λ i. Points [] (sym one i ∷ []) ∷ [])
      ∙ (λ i. Points (sym lengths i) (map (tuple (sym axes i)) (sym ranks i)) ∷ []);
}

-- ---- an array of integers

pub integers-part : (n : ℕ) (shape : List ℕ) (numbers : List ℤ) (p : PointList) → HavePlaces n numbers → length numbers ≡ count shape → p.lengths.items ≡ shape → p.axes.items ≡ n ∷ [] → are_named p.ranks ≡ list_all (is_place n) numbers → ranks_of p.ranks ≡ map (rank_on n) numbers →
    IsPart (n ∷ []) (list_all (is_place n) numbers) p (points_of Integers (n ∷ []) shape numbers)
integers-part n shape numbers p have many lengths axes named ranks = record {
  axes = axes;
  list = record {
    within = subst (All (λ rank. rank < count p.axes.items)) (sym ranks) (rw axes (ranks-on n numbers have));
    many = ap length ranks ∙ length-map numbers (rank_on n) ∙ many ∙ sym (ap count lengths);
  };
  named = named;
  shows = λ within.
      (λ i. Points shape (sym (points-along n numbers within) i) ∷ [])
      ∙ (λ i. Points shape (map (tuple (n ∷ [])) (sym (ranks-named n numbers within) i)) ∷ [])
      ∙ (λ i. Points (sym lengths i) (map (tuple (sym axes i)) (sym ranks i)) ∷ []);
}

-- ---- a mask

module _ (shape : List ℕ) where
  true-step : (index : List ℕ) (indexes' : List (List ℕ)) (number : ℤ) (numbers : List ℤ) (ranks : List ℕ) (rank : ℕ) → tuple shape rank ≡ index → true_indexes indexes' numbers ≡ map (tuple shape) ranks → (zero' : Bool) → int_eq number (pos 0) ≡ zero' →
      true_indexes (index ∷ indexes') (number ∷ numbers) ≡ map (tuple shape) (cond zero' ranks (rank ∷ ranks))
  true-step index indexes' number numbers ranks rank here later true is = rw is later
  true-step index indexes' number numbers ranks rank here later false is = rw is (λ i. sym here i ∷ later i)

  rank-step : (number : ℤ) (numbers : List ℤ) (rank : ℕ) (zero' : Bool) → int_eq number (pos 0) ≡ zero' → true_ranks rank (number ∷ numbers) ≡ cond zero' (true_ranks (rank + 1) numbers) (rank ∷ true_ranks (rank + 1) numbers)
  rank-step number numbers rank true is = rw is refl
  rank-step number numbers rank false is = rw is refl

  -- the true indexes from a rank on
  true-from : (numbers : List ℤ) (rank : ℕ) → rank + length numbers ≡ count shape → true_indexes (drop rank (indexes shape)) numbers ≡ map (tuple shape) (true_ranks rank numbers)
  true-from [] rank long = none (drop rank (indexes shape))
    where
      none : (list : List (List ℕ)) → true_indexes list [] ≡ []
      none [] = refl
      none (index ∷ list) = refl
  true-from (number ∷ numbers) rank long =
      let inside : rank < length (indexes shape) = omega (arith, length-indexes shape) in
      let next : rank + 1 + length numbers ≡ count shape = omega (arith, long) in
      ap (λ l. true_indexes l (number ∷ numbers)) (drop_more (indexes shape) rank [] inside)
      ∙ true-step (tuple shape rank) (drop (rank + 1) (indexes shape)) number numbers (true_ranks (rank + 1) numbers) rank refl (true-from numbers (rank + 1) next) (int_eq number (pos 0)) refl
      ∙ ap (map (tuple shape)) (sym (rank-step number numbers rank (int_eq number (pos 0)) refl))

  ranks-low : (numbers : List ℤ) (rank : ℕ) → rank + length numbers ≡ count shape → All (λ r. r < count shape) (true_ranks rank numbers)
  ranks-low [] rank long = λ k d below. absurd (omega arith)
  ranks-low (number ∷ numbers) rank long =
      let later = ranks-low numbers (rank + 1) (omega (arith, long)) in
      subst (All (λ r. r < count shape)) (sym (rank-step number numbers rank (int_eq number (pos 0)) refl))
      (elim (int_eq number (pos 0)) as (λ z. All (λ r. r < count shape) (cond z (true_ranks (rank + 1) numbers) (rank ∷ true_ranks (rank + 1) numbers))) [
        | true ↦ later
        | false ↦ All-cons (λ r. r < count shape) rank (true_ranks (rank + 1) numbers) (omega (arith, long)) later
      ])

mask-part : (axes shape : List ℕ) (numbers : List ℤ) (p : PointList) → bytes_eq shape axes ≡ true → length numbers ≡ count shape → p.lengths.items ≡ length (ranks_of p.ranks) ∷ [] → p.axes.items ≡ axes → are_named p.ranks ≡ true → ranks_of p.ranks ≡ true_ranks 0 numbers → IsPart axes true p (points_of Mask axes shape numbers)
mask-part axes shape numbers p covers many lengths axes_is named ranks = let axes_are = axes_is ∙ sym ((bytes_eq-Decides shape axes).0 covers) in record {
  axes = axes_is;
  list = record {
    within = subst (All (λ rank. rank < count p.axes.items)) (sym ranks) (rw axes_are (ranks-low shape numbers 0 (omega (arith, many))));
    many = one (length (ranks_of p.ranks)) ∙ sym (ap count lengths);
  };
  named = named;
  shows = λ _.
      let points = true-from shape numbers 0 (omega (arith, many)) in
      let count-same : length (map (tuple shape) (true_ranks 0 numbers)) ≡ length (ranks_of p.ranks) = length-map (true_ranks 0 numbers) (tuple shape) ∙ ap length (sym ranks) in
      (λ i. Points (length (points i) ∷ []) (points i) ∷ [])
      ∙ (λ i. Points (count-same i ∷ []) (map (tuple shape) (true_ranks 0 numbers)) ∷ [])
      ∙ (λ i. Points (sym lengths i) (map (tuple (sym axes_are i)) (sym ranks i)) ∷ []);
}
  where
    one : (n : ℕ) → n ≡ count (n ∷ [])
    one n = omega arith

-- ---- an array

pub part-of_mask : (k : Kind) (axes shape : List ℕ) (numbers : List ℤ) (p : PointList) → k ≡ Mask → covers_kind k shape axes ≡ true → length numbers ≡ count shape → p.lengths.items ≡ length (ranks_of p.ranks) ∷ [] → p.axes.items ≡ axes → are_named p.ranks ≡ true → ranks_of p.ranks ≡ true_ranks 0 numbers →
    IsPart axes (are_places k axes numbers) p (points_of k axes shape numbers)
part-of_mask k axes shape numbers p is covers many lengths axes_are named ranks =
    subst (λ k. IsPart axes (are_places k axes numbers) p (points_of k axes shape numbers)) (sym is) (mask-part axes shape numbers p (sym (ap (λ k. covers_kind k shape axes) is) ∙ covers) many lengths axes_are named ranks)

-- an array of integers has one axis
pub part-of_integers : (axes shape : List ℕ) (numbers : List ℤ) (p : PointList) (n : ℕ) → length axes ≡ 1 → HavePlaces n numbers → length numbers ≡ count shape → n ≡ get_or axes 0 0 →
    p.lengths.items ≡ shape → p.axes.items ≡ axes → are_named p.ranks ≡ list_all (is_place n) numbers → ranks_of p.ranks ≡ map (rank_on n) numbers → IsPart axes (are_places Integers axes numbers) p (points_of Integers axes shape numbers)
part-of_integers [] shape numbers p n one have many first lengths axes_are named ranks = absurd (omega (arith, one))
part-of_integers (m ∷ m' ∷ axes) shape numbers p n one have many first lengths axes_are named ranks = absurd (omega (arith, one))
part-of_integers (m ∷ []) shape numbers p n one have many first lengths axes_are named ranks =
    integers-part m shape numbers p (subst (λ n. HavePlaces n numbers) first have) many lengths axes_are (named ∙ ap (λ n. list_all (is_place n) numbers) first) (ranks ∙ ap (λ n. map (rank_on n) numbers) first)

-- its numbers are tested against that axis
pub places_tested : (axes : List ℕ) (numbers : List ℤ) (n : ℕ) → length axes ≡ 1 → n ≡ get_or axes 0 0 → are_places Integers axes numbers ≡ list_all (is_place n) numbers
places_tested [] numbers n one first = absurd (omega (arith, one))
places_tested (m ∷ axes) numbers n one first = ap (λ n. list_all (is_place n) numbers) (sym first)

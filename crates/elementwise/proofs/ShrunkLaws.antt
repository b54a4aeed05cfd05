-- Arrays whose items repeat: the result on the different items is stretched.
use Rattle.std.proofs.Common.{◌≡◌, ◌<◌, ℕ, pos, true, List, [], ◌∷◌, map, take, drop, length, get_or, All, sym, ap, subst, ◌∙◌, arith}
use Rattle.elementwise.proofs.Words.{length-map, get_or-map, All-map, map-map, Descr, Little, LeafValue, number, number_in, item_from, truth-twice, Layout, count, indexes, rank, IsIndex, length-indexes, rank-lt, get_or-indexes, index_at, same_on_indexes, offsets, length-offsets, view_through, can_stretch, broadcast_index, IsIndex-broadcast, stretched-self, IsStretchOf, IsViewOf, Owned, ScalarDescr, BoolScalar, cast_item, stretched_items, pairwise, IsShrunk, stretched_view, IsMade}
use Rattle.elementwise.proofs.PairLaws.{pairwise-map, get_or-pairwise}
use Rattle.elementwise.proofs.StretchedLaws.{inside}
use Rattle.elementwise.proofs.AppliedLaws.{pairwise-same}

-- ---- items of one shape, stretched to another

abbrev through : List ℕ → List ℕ → List (List LeafValue) → List (List LeafValue)
through once shape items = map (λ index. get_or items (rank once (broadcast_index once index)) []) (indexes shape)

module _ (once shape : List ℕ) (can : can_stretch once shape ≡ true) where
  within : (index : List ℕ) → IsIndex shape index → rank once (broadcast_index once index) < count once
  within index in' = rank-lt once (broadcast_index once index) (IsIndex-broadcast once shape index can in')

  seen : (read : ℕ → List LeafValue) (os : List ℕ) → length os ≡ count once → map read (view_through os once shape (broadcast_index once)) ≡ through once shape (map read os)
  seen read os many =
      let at = λ (index : List ℕ). rank once (broadcast_index once index) in
      map-map read (λ index. get_or os (at index) 0) (indexes shape)
      ∙ same_on_indexes shape (λ index. read (get_or os (at index) 0)) (λ index. get_or (map read os) (at index) []) (λ index in'. sym (get_or-map read os (at index) 0 [] (omega (arith, within index in', many))))

  seen-pairs : (f : List LeafValue → List LeafValue → List LeafValue) (xs ys : List (List LeafValue)) → length xs ≡ count once → length ys ≡ count once → through once shape (pairwise f xs ys) ≡ pairwise f (through once shape xs) (through once shape ys)
  seen-pairs f xs ys many many' =
      let at = λ (index : List ℕ). rank once (broadcast_index once index) in
      let x = λ (index : List ℕ). get_or xs (at index) [] in
      let y = λ (index : List ℕ). get_or ys (at index) [] in
      same_on_indexes shape (λ index. get_or (pairwise f xs ys) (at index) []) (λ index. f (x index) (y index)) (λ index in'. get_or-pairwise f xs ys (at index) [] [] (omega (arith, within index in', many)) (many ∙ sym many'))
      ∙ sym (pairwise-same (λ i j. f (x i) (y j)) (indexes shape))
      ∙ sym (pairwise-map f x y (indexes shape) (indexes shape))

-- ---- operands

-- the items of an operand, stretched to the whole shape
whole : (d : Descr) (block : List ℕ) (l small : Layout) (once shape : List ℕ) → IsShrunk small l once shape → stretched_items d block l shape ≡ through once shape (map (item_from d block) (offsets small))
whole d block l small once shape is =
    ap (map (item_from d block)) (sym is.places)
    ∙ (λ i. map (item_from d block) (view_through (offsets small) (is.shape_is i) shape (broadcast_index (is.shape_is i))))
    ∙ seen once shape is.can (item_from d block) (offsets small) (length-offsets small ∙ ap count is.shape_is)

-- and in its own shape
own : (d : Descr) (block : List ℕ) (small : Layout) (once : List ℕ) → small.shape ≡ once → stretched_items d block small once ≡ map (item_from d block) (offsets small)
own d block small once is = (λ i. map (item_from d block) (view_through (offsets small) small.shape (sym is i) (broadcast_index small.shape))) ∙ ap (map (item_from d block)) (stretched-self small)

length-items : (d : Descr) (block : List ℕ) (small : Layout) (once : List ℕ) → small.shape ≡ once → length (map (item_from d block) (offsets small)) ≡ count once
length-items d block small once is = length-map (offsets small) (item_from d block) ∙ length-offsets small ∙ ap count is

-- ---- results

-- the items of a result, stretched to the whole shape
result-whole : (made : Owned) (once shape : List ℕ) → can_stretch once shape ≡ true → made.layout.shape ≡ once → stretched_items made.descr made.block made.layout shape ≡ through once shape (map (item_from made.descr made.block) (offsets made.layout))
result-whole made once shape can is =
    (λ i. map (item_from made.descr made.block) (view_through (offsets made.layout) (is i) shape (broadcast_index (is i))))
    ∙ seen once shape can (item_from made.descr made.block) (offsets made.layout) (length-offsets made.layout ∙ ap count is)

-- the results on pairs of items
pub pairs_spread : (f : List LeafValue → List LeafValue → List LeafValue) (b d d' : Descr) (block block' : List ℕ) (l l' small small' : Layout) (once shape : List ℕ) (made : Owned) → IsShrunk small l once shape → IsShrunk small' l' once shape →
    IsMade b once (pairwise f (stretched_items d block small once) (stretched_items d' block' small' once)) made → stretched_items made.descr made.block made.layout shape ≡ pairwise f (stretched_items d block l shape) (stretched_items d' block' l' shape)
pairs_spread f b d d' block block' l l' small small' once shape made is is' there =
    let xs = map (item_from d block) (offsets small) in
    let ys = map (item_from d' block') (offsets small') in
    let each : map (item_from made.descr made.block) (offsets made.layout) ≡ pairwise f xs ys =
    (λ i. map (item_from (there.descr_is i) made.block) (offsets made.layout)) ∙ there.items ∙ λ i. pairwise f (own d block small once is.shape_is i) (own d' block' small' once is'.shape_is i) in
    result-whole made once shape is.can there.shape_is
    ∙ ap (through once shape) each
    ∙ seen-pairs once shape is.can f xs ys (length-items d block small once is.shape_is) (length-items d' block' small' once is'.shape_is)
    ∙ λ i. pairwise f (sym (whole d block l small once shape is) i) (sym (whole d' block' l' small' once shape is') i)

pub bools_again : (d : Descr) (block os : List ℕ) → d ≡ ScalarDescr BoolScalar → map (λ o. cast_item d (ScalarDescr BoolScalar) (item_from d block o)) os ≡ map (item_from d block) os
bools_again d block os is =
    (λ i. map (λ o. cast_item (is i) (ScalarDescr BoolScalar) (item_from (is i) block o)) os)
    ∙ (λ i. map (λ o. number (pos (truth-twice (number_in Little 1 (take 1 (take 1 (drop o block)))) i)) ∷ []) os)
    ∙ λ i. map (item_from (sym is i) block) os

-- ---- properties of each item

-- what holds for all items also holds for those that a stretched array shows
pub all_through : (P : ℕ → Type 0) (os once shape : List ℕ) → can_stretch once shape ≡ true → length os ≡ count once → All P os → All P (view_through os once shape (broadcast_index once))
all_through P os once shape can many all =
    All-map P (λ index. get_or os (rank once (broadcast_index once index)) 0) (indexes shape) (λ k d below.
    let found = index_at shape k (omega (arith, length-indexes shape)) in
    let here : get_or (indexes shape) k d ≡ found.0 = ap (λ r. get_or (indexes shape) r d) (sym found.2) ∙ get_or-indexes shape found.0 d found.1 in
    let low : rank once (broadcast_index once found.0) < length os = omega (arith, many, within once shape can found.0 found.1) in
    subst (λ (index : List ℕ). P (get_or os (rank once (broadcast_index once index)) 0)) (sym here) (all (rank once (broadcast_index once found.0)) 0 low))

pub all_seen : (P : ℕ → Type 0) (l small : Layout) (once : List ℕ) → IsShrunk small l once l.shape → All P (offsets small) → All P (offsets l)
all_seen P l small once is all =
    subst (All P) (is.places ∙ stretched-self l) (all_through P (offsets small) small.shape l.shape ((λ i. can_stretch (is.shape_is i) l.shape) ∙ is.can) (length-offsets small) all)

-- ---- what `without_repeats` must return

pub is_shrunk : (l wide small : Layout) (once shape : List ℕ) → IsViewOf l wide (stretched_view l shape) → small.shape ≡ once → IsStretchOf small wide → IsShrunk small l once shape
is_shrunk l wide small once shape seen once-is is = record {
  shape_is = once-is;
  can = (λ i. can_stretch (sym once-is i) (sym seen.shape i)) ∙ is.can;
  places = (λ i. view_through (offsets small) small.shape (sym seen.shape i) (broadcast_index small.shape)) ∙ sym is.larger.places ∙ seen.places;
  inside = λ len width all. inside len width is.smaller (inside len width seen all);
}

-- The results on the items of two layouts, item by item.
use Rattle.std.proofs.Common.{◌≡◌, ◌*◌, ℕ, Result, IfOk, List, [], ◌∷◌, ◌++◌, map, length, drop, refl, sym, ap, ◌∙◌, arith}
use Rattle.elementwise.proofs.Words.{concat, flat_map, Each, AllocError, take-take, map-map, ScalarDescr, Scalar, LeafValue, size, decode, encode, item_from, item_at, count, offsets, multiples, item_size, encode_item, length-encode, one-encoded, length-offsets, Owned, row-multiples, row_offsets, pairwise, value_in, Pairing, Operands, IsMade, all_made, pairs_of, made_of_all, left_of, right_of, target_of, gives, pair_made, CanPair, value_pair, pair_from}
use Rattle.elementwise.proofs.WorkLaws.{pair_reads_back}
use Rattle.elementwise.proofs.MadeLaws.{over-made}
use Rattle.elementwise.proofs.AppendedLaws.{rows-read}
use Rattle.elementwise.proofs.TurnedLaws.{length-concat}
use Rattle.elementwise.proofs.PairLaws.{length-pairwise, map-pairwise, pairwise-map}

-- an item of a scalar is its value
pub scalar-item : (scalar : Scalar) (bytes : List ℕ) (o : ℕ) → item_from (ScalarDescr scalar) bytes o ≡ decode scalar (item_at o (size scalar) bytes) ∷ []
scalar-item scalar bytes o = ap (λ b. decode scalar b ∷ []) (take-take (size scalar) (size scalar) (drop o bytes) (omega arith))

pub each-wide : (left right to : Scalar) (gives : LeafValue → LeafValue → LeafValue) (w w' : ℕ) (a b xs ys : List ℕ) → Each (λ item. length item ≡ size to) (pairwise (pair_from (value_pair left right to gives) w w' a b) xs ys)
each-wide left right to gives w w' a b [] ys = tt
each-wide left right to gives w w' a b (x ∷ xs) [] = tt
each-wide left right to gives w w' a b (x ∷ xs) (y ∷ ys) = (length-encode to (gives (decode left (item_at x w a)) (decode right (item_at y w' b))), each-wide left right to gives w w' a b xs ys)

-- the bytes of the results are the encoded items
pairs-encoded : (left right to : Scalar) (gives : LeafValue → LeafValue → LeafValue) (a b xs ys : List ℕ) →
    concat (pairwise (pair_from (value_pair left right to gives) (size left) (size right) a b) xs ys) ≡ flat_map (encode_item (ScalarDescr to)) (pairwise (λ x y. gives (value_in x) (value_in y) ∷ []) (map (item_from (ScalarDescr left) a) xs) (map (item_from (ScalarDescr right) b) ys))
pairs-encoded left right to gives a b [] ys = refl
pairs-encoded left right to gives a b (x ∷ xs) [] = refl
pairs-encoded left right to gives a b (x ∷ xs) (y ∷ ys) =
    let here : encode to (gives (decode left (item_at x (size left) a)) (decode right (item_at y (size right) b))) ≡ encode_item (ScalarDescr to) (gives (value_in (item_from (ScalarDescr left) a x)) (value_in (item_from (ScalarDescr right) b y)) ∷ []) =
    sym (one-encoded to (gives (decode left (item_at x (size left) a)) (decode right (item_at y (size right) b))))
    ∙ λ i. encode_item (ScalarDescr to) (gives (value_in (sym (scalar-item left a x) i)) (value_in (sym (scalar-item right b y) i)) ∷ []) in
    λ i. here i ++ pairs-encoded left right to gives a b xs ys i

-- the length of the bytes, and the items that are read from them
all_appended : (left right to : Scalar) (gives : LeafValue → LeafValue → LeafValue) (a b xs ys bytes : List ℕ) (n : ℕ) → length xs ≡ n → length ys ≡ n →
    ((x y : LeafValue) → decode to (encode to (gives x y)) ≡ gives x y) →
    bytes ≡ concat (pairwise (pair_from (value_pair left right to gives) (size left) (size right) a b) xs ys) →
    (length bytes ≡ n * size to)
    × (map (item_from (ScalarDescr to) bytes) (multiples (size to) n) ≡ pairwise (λ x y. gives (value_in x) (value_in y) ∷ []) (map (item_from (ScalarDescr left) a) xs) (map (item_from (ScalarDescr right) b) ys))
    × (bytes ≡ flat_map (encode_item (ScalarDescr to)) (pairwise (λ x y. gives (value_in x) (value_in y) ∷ []) (map (item_from (ScalarDescr left) a) xs) (map (item_from (ScalarDescr right) b) ys)))
all_appended left right to gives a b xs ys bytes n many many' back wrote =
    let w = size to in
    let make = pair_from (value_pair left right to gives) (size left) (size right) a b in
    let each = each-wide left right to gives (size left) (size right) a b xs ys in
    let counted : length (pairwise make xs ys) ≡ n = length-pairwise make xs ys (many ∙ sym many') ∙ many in
    let rows = row_offsets 0 w n in
    let read = λ (o : ℕ). item_at o w bytes in
    let value = λ (item : List ℕ). decode to item ∷ [] in
    let there : map read rows ≡ pairwise make xs ys = (λ i. map (λ o. item_at o w (wrote i)) (row_offsets 0 w (sym counted i))) ∙ rows-read w (pairwise make xs ys) each in (
      ap length wrote ∙ length-concat w (pairwise make xs ys) each ∙ ap (λ k. k * w) counted,
      ap (map (item_from (ScalarDescr to) bytes)) (sym (row-multiples w n))
          ∙ (λ i. map (λ o. scalar-item to bytes o i) rows)
          ∙ sym (map-map value read rows)
          ∙ ap (map value) there
          ∙ map-pairwise value make xs ys
          ∙ (λ i. pairwise (λ o o'. back (decode left (item_at o (size left) a)) (decode right (item_at o' (size right) b)) i ∷ []) xs ys)
          ∙ sym (pairwise-map (λ x y. gives (value_in x) (value_in y) ∷ []) (item_from (ScalarDescr left) a) (item_from (ScalarDescr right) b) xs ys
          ∙ λ i. pairwise (λ o o'. gives (value_in (scalar-item left a o i)) (value_in (scalar-item right b o' i)) ∷ []) xs ys),
      wrote ∙ pairs-encoded left right to gives a b xs ys,
    )

-- ---- arrays of the results on pairs

module _ (p : Pairing) (o : Operands) (can : CanPair p) (is : o.left.descr.now ≡ ScalarDescr (left_of p)) (is' : o.right.descr.now ≡ ScalarDescr (right_of p)) where
  pub all_paired : (block : List ℕ) → block ≡ made_of_all (pair_made p) o →
      (length block ≡ pairs_of o * size (target_of p)) × (map (item_from (ScalarDescr (target_of p)) block) (multiples (size (target_of p)) (pairs_of o)) ≡ all_made p o) × (block ≡ flat_map (encode_item (ScalarDescr (target_of p))) (all_made p o))
  all_paired block wrote =
      let l = o.left.layout.now in let r = o.right.layout.now in
      let a = o.left.block.now in let b = o.right.block.now in
      let all = all_appended (left_of p) (right_of p) (target_of p) (gives p) a b (offsets l) (offsets r) block (count l.shape) (length-offsets l) (length-offsets r ∙ ap count (sym o.even)) (λ x y. pair_reads_back p x y can)
      (wrote ∙ λ i. concat (pairwise (pair_from (pair_made p) (item_size (is i)) (item_size (is' i)) a b) (offsets l) (offsets r))) in
      let shown : pairwise (λ x y. gives p (value_in x) (value_in y) ∷ []) (map (item_from (ScalarDescr (left_of p)) a) (offsets l)) (map (item_from (ScalarDescr (right_of p)) b) (offsets r)) ≡ all_made p o =
      λ i. pairwise (λ x y. gives p (value_in x) (value_in y) ∷ []) (map (item_from (sym is i) a) (offsets l)) (map (item_from (sym is' i) b) (offsets r)) in
      (all.0, all.1 ∙ shown, all.2 ∙ ap (flat_map (encode_item (ScalarDescr (target_of p)))) shown)

  pub pairs_made : (to : Scalar) (block : List ℕ) (result : Result Owned AllocError) → to ≡ target_of p → block ≡ made_of_all (pair_made p) o →
      IfOk result (λ made. made.descr ≡ ScalarDescr to) → IfOk result (λ made. made.layout.shape ≡ o.left.layout.now.shape) → IfOk result (λ made. offsets made.layout ≡ multiples (size to) (pairs_of o)) → IfOk result (λ made. made.block ≡ block) →
      IfOk result (IsMade (ScalarDescr (target_of p)) o.left.layout.now.shape (all_made p o))
  pairs_made to block result same wrote descr shape order held =
      let all = all_paired block wrote in
      over-made (ScalarDescr to) (ScalarDescr (target_of p)) o.left.layout.now.shape (all_made p o) result block (ap ScalarDescr same) descr shape order held all.1 all.2

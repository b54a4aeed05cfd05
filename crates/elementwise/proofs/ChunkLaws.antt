-- Parts of runs as layouts of one axis, and the results on them.
use Rattle.std.proofs.Common.{◌≡◌, ◌+◌, ◌*◌, ◌<◌, ◌≤◌, All, ℕ, pos, ◌+ℤ◌, ◌*ℤ◌, List, [], ◌∷◌, ◌++◌, map, length, append-nil, get_or, sym, ap, subst, ◌∙◌, arith, ◌≤ℤ◌}
use Rattle.elementwise.proofs.Words.{take_all, length-map, map-append, same_lists, get_or_default, All-cons, flat_map, ScalarDescr, *ℤ_comm, +ℤ_idr, Descr, Scalar, LeafValue, Items, size, encode, decode, encode_item, decode_item, item_from, one-encoded, length-encode, run_front, Layout, Run, BeginsWithin, IsIndex, address_at, natural, position, place, position-add, rank, count, offsets, run_offsets, max_bytes, lie-within, run-ends, run-within, nth-offset, get_or-offsets, length-offsets, length-run_offsets, pairwise, value_in, cast_item, InRuns, Broadcast, Pairing, given, run_items, all_given, items_stretched, run_part, AreItems, left_of, right_of, target_of, gives, CanPair}
use Rattle.elementwise.proofs.ColumnLaws.{part-within, run-parts}
use Rattle.elementwise.proofs.EncodedLaws.{items-append, no-items}
use Rattle.elementwise.proofs.PairLaws.{length-pairwise, pairwise-append}
use Rattle.elementwise.proofs.RowLaws.{count-run}
use Rattle.elementwise.proofs.StretchedLaws.{stretches-itself}
use Rattle.elementwise.proofs.WorkLaws.{pair_reads_back}

-- a layout of one axis shows the items of a run
pub one-axis : (l : Layout) (run : Run) → l.shape ≡ run.count ∷ [] → l.strides ≡ run.step ∷ [] → l.offset ≡ run.offset → offsets l ≡ run_offsets run
one-axis l run shape strides offset =
    let one : count (run.count ∷ []) ≡ run.count = omega arith in
    let many : length (offsets l) ≡ length (run_offsets run) = length-offsets l ∙ ap count shape ∙ one ∙ sym (length-run_offsets run) in
    same_lists (offsets l) (run_offsets run) many (λ k d below.
    let low : k < run.count = omega (arith, below, many, length-run_offsets run) in
    let in' : IsIndex l.shape (k ∷ []) = subst (λ s. IsIndex s (k ∷ [])) (sym shape) (low, tt) in
    let first : k ≡ rank (run.count ∷ []) (k ∷ []) = omega arith in
    ap (λ r. get_or (offsets l) r d) (first ∙ ap (λ s. rank s (k ∷ [])) (sym shape))
    ∙ get_or-offsets l (k ∷ []) d in'
    ∙ (λ i. natural (address_at (strides i) (offset i) (k ∷ [])))
    ∙ ap (λ z. natural (pos run.offset +ℤ z)) (+ℤ_idr (run.step *ℤ pos k))
    ∙ sym (nth-offset run k low)
    ∙ get_or_default (run_offsets run) k 0 d (omega (arith, below, many)))

-- the address of the `k`-th item
pub address-of : (run : Run) (k : ℕ) → address_at (run.step ∷ []) run.offset (k ∷ []) ≡ position run.offset run.step k
address-of run k = ap (λ z. pos run.offset +ℤ z) (+ℤ_idr (run.step *ℤ pos k) ∙ *ℤ_comm run.step (pos k))

-- if a run begins within the limit, so does a part of it
module _ (run : Run) (first n : ℕ) (lies : BeginsWithin run) (low : first < run.count) (ends : first + n ≤ run.count) where
  at : (k : ℕ) → address_at (run.step ∷ []) (place run.offset run.step first) (k ∷ []) ≡ position run.offset run.step (first + k)
  at k = address-of (run_part run first n) k ∙ position-add run.offset run.step first k ((lie-within max_bytes 1 run lies).each first low).0

  from : (index : List ℕ) → IsIndex (n ∷ []) index → pos 0 ≤ℤ address_at (run.step ∷ []) (place run.offset run.step first) index
  from [] in' = absurd in'
  from (k ∷ []) in' = subst (λ z. pos 0 ≤ℤ z) (sym (at k)) ((lie-within max_bytes 1 run lies).each (first + k) (omega (arith, in'.0, ends))).0
  from (k ∷ (j ∷ index)) in' = absurd in'.1

  end : (index : List ℕ) → IsIndex (n ∷ []) index → (address_at (run.step ∷ []) (place run.offset run.step first) index +ℤ pos 1) ≤ℤ pos max_bytes
  end [] in' = absurd in'
  end (k ∷ []) in' = subst (λ z. (z +ℤ pos 1) ≤ℤ pos max_bytes) (sym (at k)) ((lie-within max_bytes 1 run lies).each (first + k) (omega (arith, in'.0, ends))).1
  end (k ∷ (j ∷ index)) in' = absurd in'.1

  pub part-begins : BeginsWithin (run_part run first n)
  part-begins = record { from_zero = from; within = end }

-- the items of a part lie within the same bytes as those of the run
pub part-inside : (len width : ℕ) (run : Run) (first n : ℕ) → BeginsWithin run → All (λ offset. offset + width ≤ len) (run_offsets run) → first < run.count → first + n ≤ run.count → All (λ offset. offset + width ≤ len) (run_offsets (run_part run first n))
part-inside len width run first n lies ends low within =
    run-ends len width (run_part run first n) (part-within len width run first n (run-within len width run lies ends) low within)

-- ---- the results on two lists of items

-- their bytes are the encoded results, and each result is read back
module _ (p : Pairing) (can : CanPair p) (from other : Descr) where
  abbrev to : Scalar
  to = target_of p

  abbrev give : List LeafValue → List LeafValue → List LeafValue
  give = given p from other

  one-given : (x y : List LeafValue) → AreItems (ScalarDescr to) (give x y ∷ []) (encode_item (ScalarDescr to) (give x y))
  one-given x y =
      let value = gives p (value_in (cast_item from (ScalarDescr (left_of p)) x)) (value_in (cast_item other (ScalarDescr (right_of p)) y)) in
      let bytes = encode_item (ScalarDescr to) (give x y) in
      let is : bytes ≡ encode to value = one-encoded to value in
      let wide : length bytes ≡ size to = ap length is ∙ length-encode to value in
      let one : size to ≡ 1 * size to = omega arith in
      record {
        long = wide ∙ one;
        encoded = sym (append-nil bytes);
        wide = All-cons (λ v. length (encode_item (ScalarDescr to) v) ≡ size to) (give x y) [] wide (λ k d low. absurd (omega (arith, low)));
        back = All-cons (λ v. decode_item (ScalarDescr to) (encode_item (ScalarDescr to) v) ≡ v) (give x y) []
            (ap (λ l. decode to l ∷ []) (take_all (size to) bytes (omega (arith, wide)) ∙ is) ∙ ap (λ v. v ∷ []) (pair_reads_back p _ _ can))
            (λ k d low. absurd (omega (arith, low)));
      }

  pub given-are : (xs ys : List (List LeafValue)) → AreItems (ScalarDescr to) (pairwise give xs ys) (flat_map (encode_item (ScalarDescr to)) (pairwise give xs ys))
  given-are [] ys = no-items (ScalarDescr to)
  given-are (x ∷ xs) [] = no-items (ScalarDescr to)
  given-are (x ∷ xs) (y ∷ ys) = items-append (ScalarDescr to) (give x y ∷ []) (pairwise give xs ys) (encode_item (ScalarDescr to) (give x y)) (flat_map (encode_item (ScalarDescr to)) (pairwise give xs ys)) (one-given x y) (given-are xs ys)

-- ---- the results on the first items of two runs, and on those of the next parts

pub count-given : (p : Pairing) (b : Broadcast) (run other : Run) → run.count ≡ other.count → length (all_given p b run other) ≡ run.count
count-given p b run other even =
    let x = b.left in let y = b.right in
    let many : length (run_items x run) ≡ run.count = length-map (run_offsets run) (item_from x.descr.now x.block.now) ∙ length-run_offsets run in
    let many' : length (run_items y other) ≡ other.count = length-map (run_offsets other) (item_from y.descr.now y.block.now) ∙ length-run_offsets other in
    length-pairwise (given p x.descr.now y.descr.now) (run_items x run) (run_items y other) (many ∙ even ∙ sym many') ∙ many

-- the number of their bytes
pub long-given : (p : Pairing) (b : Broadcast) (run other : Run) → CanPair p → run.count ≡ other.count → length (flat_map (encode_item (ScalarDescr (target_of p))) (all_given p b run other)) ≡ run.count * size (target_of p)
long-given p b run other can even =
    (given-are p can b.left.descr.now b.right.descr.now (run_items b.left run) (run_items b.right other)).long
    ∙ ap (λ n. n * size (target_of p)) (count-given p b run other even)

pub given-more : (p : Pairing) (b : Broadcast) (run other : Run) (k n : ℕ) → BeginsWithin run → BeginsWithin other → run.count ≡ other.count → k < run.count →
    all_given p b (run_front (k + n) run) (run_front (k + n) other) ≡ all_given p b (run_front k run) (run_front k other) ++ all_given p b (run_part run k n) (run_part other k n)
given-more p b run other k n lies lies' even low =
    let x = b.left in let y = b.right in
    let give = given p x.descr.now y.descr.now in
    let read = item_from x.descr.now x.block.now in
    let read' = item_from y.descr.now y.block.now in
    let first = ap (map read) (run-parts max_bytes 1 run k n (lie-within max_bytes 1 run lies) low) ∙ map-append read (run_offsets (run_front k run)) (run_offsets (run_part run k n)) in
    let second = ap (map read') (run-parts max_bytes 1 other k n (lie-within max_bytes 1 other lies') (omega (arith, low, even))) ∙ map-append read' (run_offsets (run_front k other)) (run_offsets (run_part other k n)) in
    let many : length (run_items x (run_front k run)) ≡ k = length-map (run_offsets (run_front k run)) read ∙ length-run_offsets (run_front k run) in
    let many' : length (run_items y (run_front k other)) ≡ k = length-map (run_offsets (run_front k other)) read' ∙ length-run_offsets (run_front k other) in
    (λ i. pairwise give (first i) (second i))
    ∙ pairwise-append give (run_items x (run_front k run)) (run_items y (run_front k other)) (run_items x (run_part run k n)) (run_items y (run_part other k n)) (many ∙ sym many')

-- the items along that run, in the layout's own shape
run-stretched : (x : Items) (run : Run) (shape : List ℕ) → run_offsets run ≡ offsets x.layout.now → x.layout.now.shape ≡ shape → run_items x run ≡ items_stretched x shape
run-stretched x run shape same there = ap (map (item_from x.descr.now x.block.now)) same ∙ stretches-itself x shape there

-- two such runs
module _ (r : InRuns) where
  pub many_left : r.left.count ≡ count r.both.shape.now
  many_left = count-run r.both.left.layout.now r.left r.same ∙ ap count r.shape

  pub many_right : r.right.count ≡ count r.both.shape.now
  many_right = count-run r.both.right.layout.now r.right r.also ∙ ap count r.other

  pub runs_given : (p : Pairing) → all_given p r.both r.left r.right ≡ pairwise (given p r.both.left.descr.now r.both.right.descr.now) (items_stretched r.both.left r.both.shape.now) (items_stretched r.both.right r.both.shape.now)
  runs_given p = λ i. pairwise (given p r.both.left.descr.now r.both.right.descr.now) (run-stretched r.both.left r.left r.both.shape.now r.same r.shape i) (run-stretched r.both.right r.right r.both.shape.now r.also r.other i)

use Rattle.std.proofs.Common.{◌≡◌, [], ◌∷◌, ◌+◌, ◌*◌, ◌≤◌, ◌++◌, ℕ, List, length, All, sym, ap, subst, ◌∙◌, arith}
use Rattle.elementwise.proofs.Words.{concat, ScalarDescr, LeafValue, size, item_size, fortran_order, count, offsets, length-offsets, offsets_within, count-reverse, fortran-all, pairwise, value_in, pair_from, left_of, right_of, target_of, gives, pair_made}
use Rattle.elementwise.proofs.PairedLaws.{each-wide, pairs_made}
use Rattle.elementwise.proofs.MadeLaws.{made-in}
use Rattle.elementwise.proofs.TurnedLaws.{AreWide, turned-back, turned-long}
use Rattle.elementwise.proofs.fast.columns.made_of_many.Goals as goal

-- ---- row by row

pub invariant_of-near : goal.invariant_of-near
invariant_of-near c =
    record { even = c.items.ensures.shape ∙ c.near-left.ensures.shape ∙ c.args.operands.even ∙ sym (c.items-in_default.ensures.shape ∙ c.near-right.ensures.shape) }

pub made_by_rows-requires : goal.made_by_rows-requires
made_by_rows-requires c = record {
  can = c.requires.can;
  left = c.items.ensures.descr ∙ c.near-left.ensures.descr ∙ c.requires.left;
  right = c.items-in_default.ensures.descr ∙ c.near-right.ensures.descr ∙ c.requires.right;
  few = omega (arith, ap (λ shape. count shape * size (target_of c.args.pairing.now)) (c.items.ensures.shape ∙ c.near-left.ensures.shape), c.requires.few);
}

pub returns-in_default : goal.returns-in_default
returns-in_default c =
    let p = c.args.pairing.now in
    let make = λ (u v : List LeafValue). gives p (value_in u) (value_in v) ∷ [] in
    let first = c.items.ensures.items ∙ c.near-left.ensures.items in
    let second = c.items-in_default.ensures.items ∙ c.near-right.ensures.items in
    made-in (ScalarDescr (target_of p)) c.items.result.layout.now.shape c.args.operands.left.layout.now.shape _ _ c.made_by_rows.result (c.items.ensures.shape ∙ c.near-left.ensures.shape)
    (λ i. pairwise make (first i) (second i))
    c.made_by_rows.ensures

-- ---- column by column

pub invariant_of-turned : goal.invariant_of-turned
invariant_of-turned c =
    let x = c.args.operands.left in let l = x.layout.now in let r = c.args.operands.right.layout.now in
    let both = rw c.in-Some.is at c.in_ok-columns.ensures in
    let ends = λ (o : ℕ). o + item_size x.descr.now ≤ length x.block.now in
    record { inside = subst (All ends) (sym both.0.places) (fortran-all ends l.shape (offsets l) (length-offsets l) x.inside) }

pub invariant_of-turned-2 : goal.invariant_of-turned-2
invariant_of-turned-2 c =
    let y = c.args.operands.right in let l = c.args.operands.left.layout.now in let r = y.layout.now in
    let both = rw c.in-Some.is at c.in_ok-columns.ensures in
    let ends = λ (o : ℕ). o + item_size y.descr.now ≤ length y.block.now in
    record { inside = subst (All ends) (sym both.1.places) (fortran-all ends r.shape (offsets r) (length-offsets r) y.inside) }

pub push-requires-clause-room : goal.push-requires-clause-room
push-requires-clause-room c =
    let p = c.args.pairing.now in let o = c.args.operands in
    let l = o.left.layout.now in let r = o.right.layout.now in
    let both = rw c.in-Some.is at c.in_ok-columns.ensures in
    let to = size (target_of p) in
    let same : count c.in-Some.columns.0.shape * to ≡ count l.shape * to = ap (λ n. n * to) (ap count both.0.shape_is ∙ count-reverse l.shape) in
    let len : c.in_ok-block.block.1 ≡ count l.shape * to = (λ i. (c.in_ok-block.ensures i).1) ∙ λ i. c.items-2.ensures.value i * (c.size-width.ensures.value ∙ ap size c.target-scalar.ensures) i in
    omega (arith, same, len)

pub finish-block-requires : goal.finish-block-requires
finish-block-requires c =
    let p = c.args.pairing.now in let o = c.args.operands in
    let l = o.left.layout.now in let r = o.right.layout.now in
    let both = rw c.in-Some.is at c.in_ok-columns.ensures in
    let to = size (target_of p) in
    let same : count c.in-Some.columns.0.shape * to ≡ count l.shape * to = ap (λ n. n * to) (ap count both.0.shape_is ∙ count-reverse l.shape) in
    let len : c.in_ok-block.block.1 ≡ count l.shape * to = (λ i. (c.in_ok-block.ensures i).1) ∙ λ i. c.items-2.ensures.value i * (c.size-width.ensures.value ∙ ap size c.target-scalar.ensures) i in
    omega (arith, same, len, c.push.ensures.left)

pub gather-requires : goal.gather-requires
gather-requires c =
    let p = c.args.pairing.now in let o = c.args.operands in
    let l = o.left.layout.now in let r = o.right.layout.now in
    let both = rw c.in-Some.is at c.in_ok-columns.ensures in
    let left = left_of p in let right = right_of p in let to = target_of p in
    let width = c.size-width.result in
    let make = pair_from (pair_made p) (item_size o.left.descr.now) (item_size o.right.descr.now) o.left.block.now o.right.block.now in
    let sized : size to ≡ width = sym (c.size-width.ensures.value ∙ ap size c.target-scalar.ensures) in
    let each = λ (us vs : List ℕ). subst (λ n. AreWide n (pairwise make us vs)) sized (each-wide left right to (gives p) (item_size o.left.descr.now) (item_size o.right.descr.now) o.left.block.now o.right.block.now us vs) in
    let xs = fortran_order l.shape (offsets l) in let ys = fortran_order l.shape (offsets r) in
    let is : c.finish-block.result ≡ concat (pairwise make xs ys) = c.finish-block.ensures ∙ c.push.ensures.bytes ∙ λ i. (c.in_ok-block.ensures i).0 ++ concat (pairwise make (both.0.places i) ((both.1.places ∙ λ j. fortran_order (sym o.even j) (offsets r)) i)) in
    let long = turned-long make width l.shape (offsets l) (offsets r) (length-offsets l) (length-offsets r ∙ ap count (sym o.even)) c.finish-block.result (each xs ys) is in
    subst (λ n. All (λ o. o + width ≤ n) (offsets c.in_ok-order.order)) (sym long) (offsets_within c.in_ok-order.order (count l.shape * width) width c.in_ok-order.ensures.fits)

pub returns : goal.returns
returns c =
    let p = c.args.pairing.now in let o = c.args.operands in
    let l = o.left.layout.now in let r = o.right.layout.now in
    let both = rw c.in-Some.is at c.in_ok-columns.ensures in
    let left = left_of p in let right = right_of p in let to = target_of p in
    let width = c.size-width.result in
    let make = pair_from (pair_made p) (item_size o.left.descr.now) (item_size o.right.descr.now) o.left.block.now o.right.block.now in
    let sized : size to ≡ width = sym (c.size-width.ensures.value ∙ ap size c.target-scalar.ensures) in
    let each = λ (us vs : List ℕ). subst (λ n. AreWide n (pairwise make us vs)) sized (each-wide left right to (gives p) (item_size o.left.descr.now) (item_size o.right.descr.now) o.left.block.now o.right.block.now us vs) in
    let xs = fortran_order l.shape (offsets l) in let ys = fortran_order l.shape (offsets r) in
    let is : c.finish-block.result ≡ concat (pairwise make xs ys) = c.finish-block.ensures ∙ c.push.ensures.bytes ∙ λ i. (c.in_ok-block.ensures i).0 ++ concat (pairwise make (both.0.places i) ((both.1.places ∙ λ j. fortran_order (sym o.even j) (offsets r)) i)) in
    let kept = c.in_ok-block-2.ensures in
    let wrote = turned-back make width l.shape (offsets l) (offsets r) (length-offsets l) (length-offsets r ∙ ap count (sym o.even)) (offsets c.in_ok-order.order) c.finish-block.result c.in_ok-block-2.block (each (offsets l) (offsets r)) (each xs ys) c.in_ok-order.ensures.count c.in_ok-order.ensures.order is kept.len kept.items in
    let owned = c.over.ensures in
    pairs_made p o c.requires.can c.requires.left c.requires.right c.target-scalar.result c.in_ok-block-2.block c.over.result c.target-scalar.ensures wrote owned.descr owned.shape owned.order owned.block

-- The refusals of a header, in order.
use Rattle.std.proofs.Common.{◌≡◌, ◌∙◌, ⊎_elim, inl, inr, ap, refl, sym, length, arith, List, Ok}
use Rattle.npy_format.proofs.Words.{err_from_is_err_and, shape_of, descr_in, lengths_of, header_of, tokens, ◌>>=◌, HasPairs, Literal, Pair, Stands}
use Rattle.npy_format.proofs.PlaceLaws.{front_of}
use Rattle.npy_format.proofs.StandLaws.{truth_is}
use Rattle.npy_format.proofs.HeaderLaws.{no_lengths, shape_found, or_refused}
use Rattle.npy_format.proofs.header.header_of.Goals.{In_ok-tuple}
use Rattle.npy_format.proofs.header.header_of.Goals as goal

pub returns-in_err-fortran : goal.returns-in_err-fortran
unfolding header_of
returns-in_err-fortran c = λ pairs s.
    let n : c.in_ok-pair_count.field-0 ≡ length pairs = (let e = c.in_ok-pair_count.ensures pairs s in cc) in
    let three : length pairs ≡ 3 = omega (arith, n, c.if-branch-ne3.false) in
    let el = c.in_ok-element.ensures pairs s in
    let or = c.in_ok-order.ensures pairs s in
    let p = err_from_is_err_and c.from_residual-in_err-fortran.result c.from_residual-in_err-fortran.ensures.1 in
    rw (p.1, p.2) (inr (rw (three, el.1, or.1, sym (truth_is (front_of (tokens c.in_ok-order.order.now) or.0 or.2)) ∙ sym c.in_err-fortran.ensures) refl))

pub returns-in_err-tuple : goal.returns-in_err-tuple
unfolding header_of
returns-in_err-tuple c = λ pairs s.
    let n : c.in_ok-pair_count.field-0 ≡ length pairs = (let e = c.in_ok-pair_count.ensures pairs s in cc) in
    let three : length pairs ≡ 3 = omega (arith, n, c.if-branch-ne3.false) in
    let el = c.in_ok-element.ensures pairs s in
    let or = c.in_ok-order.ensures pairs s in
    let truth = sym (truth_is (front_of (tokens c.in_ok-order.order.now) or.0 or.2)) ∙ sym c.in_ok-fortran.ensures in
    let p = err_from_is_err_and c.from_residual-in_err-tuple.result c.from_residual-in_err-tuple.ensures.1 in
    rw (p.1, p.2) (inr (rw (three, el.1, or.1, truth, c.in_err-tuple.ensures pairs s) refl))

-- the values of the three keys have the right form
begun : (c : In_ok-tuple) (pairs : List Pair) → HasPairs (tokens c.args.pairs.now) pairs → (element tuple : Literal) × Stands (tokens c.in_ok-element.element.now) element × Stands (tokens c.in_ok-tuple.tuple.now) tuple
    × (header_of pairs ≡ (lengths_of tuple >>= λ axes. descr_in element >>= λ descr. shape_of axes >>= λ shape. Ok (record { descr = descr; fortran = c.in_ok-fortran.fortran; shape = shape })))
unfolding header_of
begun c pairs s =
    let n : c.in_ok-pair_count.field-0 ≡ length pairs = (let e = c.in_ok-pair_count.ensures pairs s in cc) in
    let three : length pairs ≡ 3 = omega (arith, n, c.if-branch-ne3.false) in
    let el = c.in_ok-element.ensures pairs s in
    let or = c.in_ok-order.ensures pairs s in
    let truth = sym (truth_is (front_of (tokens c.in_ok-order.order.now) or.0 or.2)) ∙ sym c.in_ok-fortran.ensures in
    let tu = c.in_ok-tuple.ensures pairs s in
    (el.0, tu.0, el.2, tu.2, rw (three, el.1, or.1, truth, tu.1) refl)

pub returns-in_err-axes : goal.returns-in_err-axes
returns-in_err-axes c pairs s =
    let it = begun (goal.at.returns-in_err-axes c).In_ok-tuple pairs s in
    let p = err_from_is_err_and c.from_residual-in_err-axes.result c.from_residual-in_err-axes.ensures.1 in
    rw (p.1, p.2, it.4) (or_refused _ (lengths_of it.1) _ (⊎_elim inl (λ e. inr (no_lengths it.1 _ e)) (c.in_err-axes.ensures it.1 it.3)))

pub returns-in_err-descr : goal.returns-in_err-descr
returns-in_err-descr c pairs s =
    let it = begun (goal.at.returns-in_err-descr c).In_ok-tuple pairs s in
    let ls = shape_found it.1 _ (c.in_ok-axes.ensures it.1 it.3) in
    let p = err_from_is_err_and c.from_residual-in_err-descr.result c.from_residual-in_err-descr.ensures.1 in
    rw (p.1, p.2, it.4, ls.1) (or_refused _ (descr_in it.0) _ (c.in_err-descr.ensures it.0 it.2))

pub returns-in_err-shape : goal.returns-in_err-shape
returns-in_err-shape c pairs s =
    let it = begun (goal.at.returns-in_err-shape c).In_ok-tuple pairs s in
    let ls = shape_found it.1 _ (c.in_ok-axes.ensures it.1 it.3) in
    let p = err_from_is_err_and c.from_residual-in_err-shape.result c.from_residual-in_err-shape.ensures.1 in
    rw (p.1, p.2, it.4, ls.1, c.in_ok-descr.ensures it.0 it.2, ls.2 ∙ ap shape_of (sym c.as_slice.ensures.value)) (or_refused _ (shape_of c.as_slice.result.now) _ c.in_err-shape.ensures)

pub returns : goal.returns
returns c pairs s =
    let it = begun (goal.at.returns c).In_ok-tuple pairs s in
    let ls = shape_found it.1 _ (c.in_ok-axes.ensures it.1 it.3) in
    rw (it.4, ls.1, c.in_ok-descr.ensures it.0 it.2, ls.2 ∙ ap shape_of (sym c.as_slice.ensures.value) ∙ c.in_ok-shape.ensures) refl

use Rattle.std.proofs.Common.{◌≡◌, ◌+◌, ◌*◌, ◌≤◌, ℕ, length, All, sym, ap, subst, ◌∙◌}
use Rattle.arrays.proofs.Words.{IfOk-weaker, count, offsets, multiples, length-offsets, count-reverse, items_at, offsets_in, fortran-all, items-in_fortran}
use Rattle.arrays.proofs.copies.gather_in.Goals as goal
use Rattle.arrays.proofs.copies.gather_in.Goals.{After-reversed-in-Fortran}

pub returns-in-C-clause-len : goal.returns-in-C-clause-len
returns-in-C-clause-len c =
    IfOk-weaker c.gather.result _ _ (λ items is. is ∙ ap (λ n. n * c.args.width) (length-offsets c.args.layout.now)) c.gather.ensures.len

pub returns-in-C-clause-items : goal.returns-in-C-clause-items
returns-in-C-clause-items c =
    let l = c.args.layout.now in let width = c.args.width in
    let order : offsets_in c.args.order width l.shape ≡ multiples width (length (offsets l)) = ap (λ o. offsets_in o width l.shape) c.in-C.is ∙ ap (multiples width) (sym (length-offsets l)) in
    IfOk-weaker c.gather.result _ _ (λ items is. ap (λ os. items_at os width items) order ∙ is) c.gather.ensures.items

pub gather-requires-in-Fortran : goal.gather-requires-in-Fortran
gather-requires-in-Fortran c =
    let l = c.args.layout.now in let ends = λ (o : ℕ). o + c.args.width ≤ length c.args.block.now in
    subst (All ends) (sym c.in_ok-reversed-in-Fortran.ensures.offsets) (fortran-all ends l.shape (offsets l) (length-offsets l) c.requires)

pub returns-in_ok-reversed-in-Fortran-clause-len : goal.returns-in_ok-reversed-in-Fortran-clause-len
returns-in_ok-reversed-in-Fortran-clause-len c =
    let l = c.args.layout.now in
    let many : length (offsets c.in_ok-reversed-in-Fortran.reversed) ≡ count l.shape = length-offsets c.in_ok-reversed-in-Fortran.reversed ∙ ap count c.in_ok-reversed-in-Fortran.ensures.shape ∙ count-reverse l.shape in
    IfOk-weaker c.gather-in-Fortran.result _ _ (λ items is. is ∙ ap (λ n. n * c.args.width) many) c.gather-in-Fortran.ensures.len

pub returns-in_ok-reversed-in-Fortran-clause-items : goal.returns-in_ok-reversed-in-Fortran-clause-items
returns-in_ok-reversed-in-Fortran-clause-items c =
    let l = c.args.layout.now in let width = c.args.width in let block = c.args.block.now in
    let turned = c.in_ok-reversed-in-Fortran.ensures in
    let many : count l.shape ≡ length (offsets c.in_ok-reversed-in-Fortran.reversed) = sym (length-offsets c.in_ok-reversed-in-Fortran.reversed ∙ ap count turned.shape ∙ count-reverse l.shape) in
    IfOk-weaker c.gather-in-Fortran.result _ _ (λ items is.
    ap (λ o. items_at (offsets_in o width l.shape) width items) c.in-Fortran.is
    ∙ items-in_fortran width l.shape (offsets l) items block (length-offsets l)
    (ap (λ n. items_at (multiples width n) width items) many ∙ is ∙ ap (λ os. items_at os width block) turned.offsets))
    c.gather-in-Fortran.ensures.items

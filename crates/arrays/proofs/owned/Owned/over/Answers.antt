use Rattle.std.proofs.Common.{ap, arith, ◌∙◌}
use Rattle.arrays.proofs.Words.{common_steps, fortran_order, offsets}
use Rattle.arrays.proofs.OwnedLaws.{multiples-whole, f_multiples-whole, c-in_order, f-in_order}
use Rattle.arrays.proofs.owned.Owned.over.Goals as goal
use Rattle.arrays.proofs.owned.Owned.over.Goals.{in-C+in_ok-layout-in-C, in-Fortran+in_ok-layout-in-Fortran}

pub invariant_of-result : goal.invariant_of-result
invariant_of-result c =
    let size = c.size-item.ensures in
    record {
      fills_block = elim c.match-order.branch [
        | in-C+in_ok-layout-in-C w ↦
            let is = w.in_ok-layout-in-C.ensures in
            let whole = multiples-whole _ _ _ size.not_empty is.offsets in
            let in_order = c-in_order _ _ w.in_ok-layout-in-C.layout.shape _ is.offsets in
            rw w.layout-is (grind (arith, common_steps, whole, in_order, is, size, c.requires))
        | in-Fortran+in_ok-layout-in-Fortran w ↦
            let l = w.in_ok-layout-in-Fortran.layout in
            let is = w.in_ok-layout-in-Fortran.ensures in
            let whole = f_multiples-whole _ c.args.shape.now _ size.not_empty is.offsets in
            let in_order = f-in_order _ _ l.shape (offsets l) (ap (λ s. fortran_order s (offsets l)) is.shape ∙ is.order) in
            rw w.layout-is (grind (arith, common_steps, whole, in_order, is, size, c.requires))
      ];
    }

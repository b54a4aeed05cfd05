use Rattle.std.proofs.Common.{◌≡◌, ◌≤◌, w64, min, pos, length, sym, subst, ◌∙◌, arith}
use Rattle.elementwise.proofs.Words.{ints, to_z, Bytes, size, with_items, EachWithin, run_offsets, items_at}
use Rattle.elementwise.specs.inside.Columns.{AreRows, IsColumn, HasZeros}
use Rattle.elementwise.proofs.ColumnLaws.{texts-copied}
use Rattle.elementwise.proofs.RowLaws.{row-within}
use Rattle.elementwise.proofs.kernels.leaf_casts.Column.cast.Goals as goal

pub copy_run-requires-clause-to : goal.copy_run-requires-clause-to
copy_run-requires-clause-to c =
    let s = c.args.self in
    let fit = c.requires.column in
    let near : to_z w64 s.row ≡ pos s.row = omega (arith, ints, fit.small) in
    let kept : c.min.result ≤ size c.args.to.now = subst (λ t. c.min.result ≤ size t) (sym c.in-Bytes-Bytes.is-1) (omega (arith, c.min.ensures)) in
    subst (λ z. EachWithin (length s.rows) s.at z c.min.result s.from.count) (sym near)
    (row-within (length s.rows) s.at s.row c.min.result s.from.count (omega (arith, kept, fit.fits)) (omega (arith, kept, fit.fits, fit.room)))

pub copy_run-requires-clause-from : goal.copy_run-requires-clause-from
copy_run-requires-clause-from c =
    let kept : c.min.result ≤ size c.args.scalar.now = subst (λ t. c.min.result ≤ size t) (sym c.in-Bytes-Bytes.is-0) (omega (arith, c.min.ensures)) in
    record { each = λ k low. let lies = c.requires.column.within.each k low in (lies.0, omega (arith, ints, lies.1, kept)) }

pub returns-in-Bytes-Bytes : goal.returns-in-Bytes-Bytes
returns-in-Bytes-Bytes c =
    let s = c.args.self in
    let m = c.in-Bytes-Bytes.width in
    let n = c.in-Bytes-Bytes.len in
    let from = s.from in
    let fit : IsColumn s m n = subst (λ t. IsColumn s m (size t)) c.in-Bytes-Bytes.is-1 (subst (λ t. IsColumn s (size t) (size c.args.to.now)) c.in-Bytes-Bytes.is-0 c.requires.column) in
    let zeros : HasZeros s n = subst (λ t. HasZeros s (size t)) c.in-Bytes-Bytes.is-1 c.requires.zeros in
    let near : to_z w64 s.row ≡ pos s.row = omega (arith, ints, fit.small) in
    let wrote = c.copy_run.ensures.written
    ∙ (λ i. with_items (run_offsets (record { offset = s.at; count = from.count; step = near i })) (items_at (run_offsets from) ((c.min.ensures ∙ λ j. min (c.get.ensures.value j) (c.get-in-Bytes-Bytes.ensures.value j)) i) s.block.now) s.rows)
    ∙ texts-copied m n s.at s.row from s.block.now s.rows fit.fits fit.room fit.within zeros in
    subst (λ t. AreRows c.args.scalar.now t s c.copy_run.new.block) (sym c.in-Bytes-Bytes.is-1) (subst (λ t. AreRows t (Bytes n) s c.copy_run.new.block) (sym c.in-Bytes-Bytes.is-0) (wrote, c.copy_run.ensures.len))

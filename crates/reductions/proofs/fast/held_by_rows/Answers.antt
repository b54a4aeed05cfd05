use Rattle.std.proofs.Common.{◌+◌, ◌<◌, [], ◌∷◌, ◌++◌, length, take, drop, sym, ap, subst, ◌∙◌, get_or}
use Rattle.reductions.proofs.Words.{take-append_seam, place, line_first, line_front, line_run, number_at}
use Rattle.reductions.proofs.LineLaws.{front, numbers-more, length-numbers, at_first}
use Rattle.reductions.proofs.RowLaws.{row_number}
use Rattle.reductions.proofs.fast.held_by_rows.Goals as goal

pub loop-k-init : goal.loop-k-init
loop-k-init g c =
    let scalar = g.S.Number.scalar g.O.Ordered.order in
    let l = c.args.lines in (
      c.in_ok-held.ensures.len ∙ ap (λ r. r.count) c.row.ensures.2,
      λ j d low.
          subst (λ z. g.F.Fold.holds (get_or c.in_ok-held.held.items j d) z [])
          (row_number l c.requires.starts scalar 0 j c.row.result (c.requires.width ∙ sym (g.met.S.Number.has_width g.O.Ordered.order)) low c.requires.some c.row.ensures ∙ ap (number_at scalar l.starts.bytes.now) (at_first (place l.starts.run.offset l.starts.run.step j) l.axis.stride))
          (c.in_ok-held.ensures.held j d (subst (λ r. j < r.count) (sym c.row.ensures.2) low)),
    )

pub loop-k-preserved : goal.loop-k-preserved
loop-k-preserved g c =
    let scalar = g.S.Number.scalar g.O.Ordered.order in
    let l = c.args.lines in
    let k = c.loop-k.k in
    let inv = c.loop-k.invariant in
    let new = c.take_row.new.held in
    let value = c.deref_mut.ensures.value in
    let is = ap (λ n. take n (new ++ drop (length new) c.loop-k.held.items)) (sym (c.take_row.ensures.len ∙ c.deref_mut.ensures.len)) ∙ take-append_seam new (drop (length new) c.loop-k.held.items) in (
      ap length is ∙ c.take_row.ensures.len ∙ ap length value ∙ inv.0,
      λ j d low.
          let number = row_number l c.requires.starts scalar k j c.row-in-loop-k.result (c.requires.width ∙ sym (g.met.S.Number.has_width g.O.Ordered.order)) low c.loop-k-test.true c.row-in-loop-k.ensures in
          let before = subst (λ xs. g.F.Fold.holds (get_or xs j d) (line_first scalar l j) (line_front scalar l k j)) (sym value) (inv.1 j d low) in
          subst (λ xs. g.F.Fold.holds (get_or xs j d) (line_first scalar l j) (line_front scalar l (k + 1) j)) (sym is)
          (subst (g.F.Fold.holds (get_or new j d) (line_first scalar l j))
          (ap (λ z. line_front scalar l k j ++ z ∷ []) number ∙ sym (numbers-more scalar l.starts.bytes.now (length l.starts.bytes.now) l.starts.width (line_run l j) k c.loop-k-test.true (l.within j low)))
          (c.take_row.ensures.held j d (subst (λ r. j < r.count) (sym c.row-in-loop-k.ensures.2) low) (line_first scalar l j) (line_front scalar l k j) (sym (length-numbers scalar l.starts.bytes.now (front k (line_run l j)))) before)),
    )

use Rattle.std.proofs.Common.{◌<◌, [], length, sym, ap, ◌∙◌, arith}
use Rattle.array_print.proofs.Words.{item_size, leaves_of, offsets, offsets-none, leaf_widths, widths_at}
use Rattle.array_print.proofs.LeafLaws.{are-leaf-widths, count-widths}
use Rattle.array_print.proofs.PartLaws.{whole-part, whole-offsets}
use Rattle.array_print.proofs.WidthLaws.{refilled, with-axes}
use Rattle.array_print.proofs.widths.widths_of.Goals as goal
use Rattle.array_print.proofs.widths.widths_of.Goals.{then-items-gt0, else-items-gt0}

pub widen_part-requires-clause-leaves : goal.widen_part-requires-clause-leaves
widen_part-requires-clause-leaves c =
    let leaves = leaves_of c.args.descr.now in
    ap length (c.as_mut_slice.ensures.value ∙ c.in_ok-widths.ensures) ∙ count-widths leaves (leaf_widths leaves []) (are-leaf-widths leaves [])

pub widen_part-requires-clause-part : goal.widen_part-requires-clause-part
widen_part-requires-clause-part c =
    whole-part c.args.layout.now (length c.args.block.now) (item_size c.args.descr.now) (omega (arith, c.if-items-gt0.true, c.items.ensures.value)) c.requires.inside

pub returns : goal.returns
returns c =
    let d = c.args.descr.now in
    let l = c.args.layout.now in
    let block = c.args.block.now in
    let axes : 0 < length l.shape = omega (arith, c.if-rank-eq0.false, c.rank.ensures.value) in
    elim c.if-items-gt0.branch [
      | then-items-gt0 w ↦
          ap (λ v. v.items) w.widths-is
          ∙ refilled c.in_ok-widths.widths.items w.widen_part.new.widths (w.widen_part.auto.widths ∙ ap length w.as_mut_slice.ensures.value)
          ∙ w.widen_part.ensures [] (w.as_mut_slice.ensures.value ∙ c.in_ok-widths.ensures)
          ∙ ap (widths_at d block) (whole-offsets l)
          ∙ with-axes d l.shape block (offsets l) axes
      | else-items-gt0 w ↦
          let none = offsets-none l (omega (arith, w.if-items-gt0.false, c.items.ensures.value)) in
          ap (λ v. v.items) w.widths-is ∙ c.in_ok-widths.ensures
          ∙ ap (widths_at d block) (sym none)
          ∙ with-axes d l.shape block (offsets l) axes
    ]

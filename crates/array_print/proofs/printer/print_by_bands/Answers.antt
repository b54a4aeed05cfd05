use Rattle.std.proofs.Common.{◌<◌, ◌++◌, subst, ◌∙◌, ap, arith}
use Rattle.array_print.proofs.Words.{count, Sends, SendsPart}
use Rattle.array_print.proofs.WholeLaws.{whole-text, whole-items}
use Rattle.array_print.proofs.printer.print_by_bands.Goals as goal

pub push_block-printed-requires : goal.push_block-printed-requires
push_block-printed-requires g c =
    whole-items _ c.args.layout.now (omega (arith, c.if-items-eq0.false, c.items.ensures.value)) (c.as_slice.ensures ∙ c.in_ok-widths.ensures) c.requires.inside

pub returns-in_err-printed-clause-write : goal.returns-in_err-printed-clause-write
returns-in_err-printed-clause-write g c is =
    let held = ap (λ v. v.items) c.replace.ensures.value ∙ c.in_ok-reserve-2.ensures.items in
    let some : 0 < count c.args.layout.now.shape = omega (arith, c.if-items-eq0.false, c.items.ensures.value) in
    let text = whole-text c.args.descr.now c.args.layout.now c.args.block.now c.as_slice.result.now some (c.as_slice.ensures ∙ c.in_ok-widths.ensures) in
    subst (λ t. SendsPart (g.W.Write.contents c.args.writer.now) (g.W.Write.contents c.push_block-printed.new.writer) t) (λ i. held i ++ text i) c.in_err-printed.ensures.err

pub returns-clause-ok : goal.returns-clause-ok
returns-clause-ok g c =
    let held = ap (λ v. v.items) c.replace.ensures.value ∙ c.in_ok-reserve-2.ensures.items in
    let some : 0 < count c.args.layout.now.shape = omega (arith, c.if-items-eq0.false, c.items.ensures.value) in
    let text = whole-text c.args.descr.now c.args.layout.now c.args.block.now c.as_slice.result.now some (c.as_slice.ensures ∙ c.in_ok-widths.ensures) in
    subst (λ t. Sends (g.W.Write.contents c.args.writer.now) (g.W.Write.contents c.push_block-printed.new.writer) c.push_block-printed.new.out.text.items t) (λ i. held i ++ text i) c.in_ok-printed.ensures.ok.sends

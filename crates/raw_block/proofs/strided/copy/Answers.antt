use Rattle.std.proofs.Common.{◌≡◌, pos, length, sym, ap, ◌∙◌, w64, arith, rules}
use Rattle.raw_block.proofs.Words.{to_z-of_z, SFits, to_z, put, copied, filled}
use Rattle.raw_block.proofs.Runs.{run_within, copied-run, copied-one}
use Rattle.raw_block.proofs.strided.copy.Goals as goal

pub part-requires : goal.part-requires
part-requires c =
    let from = c.args.from in
    run_within (length c.args.other.now) from.steps.at from.steps.step from.width from.count c.if-count-gt0.true (c.is_adjacent-then-is_adjacent.ensures c.if-is_adjacent-2.true) c.requires.src

pub put_item-requires : goal.put_item-requires
put_item-requires c =
    let to = c.args.to in let from = c.args.from in
    let end = run_within (length c.args.bytes.now) to.at to.step from.width from.count c.if-count-gt0.true (c.is_adjacent.ensures c.if-is_adjacent.true) c.requires.dst in
    omega (arith, end, c.part.ensures.len)

pub returns-then-is_adjacent-2 : goal.returns-then-is_adjacent-2
returns-then-is_adjacent-2 c =
    let to = c.args.to in let from = c.args.from in let width = from.width in let n = from.count in let other = c.args.other.now in let bytes = c.args.bytes.now in
    let to_is : to.step ≡ pos width = c.is_adjacent.ensures c.if-is_adjacent.true in
    let from_is : from.steps.step ≡ pos width = c.is_adjacent-then-is_adjacent.ensures c.if-is_adjacent-2.true in
    let to_end = run_within (length bytes) to.at to.step width n c.if-count-gt0.true to_is c.requires.dst in
    let from_end = run_within (length other) from.steps.at from.steps.step width n c.if-count-gt0.true from_is c.requires.src in
    c.put_item.ensures ∙ ap (λ l. put to.at l bytes) c.part.ensures.value ∙ sym (copied-run to.at other from.steps.at width n bytes to_end from_end)
    ∙ (λ i. copied to.at (sym to_is i) other from.steps.at (sym from_is i) width n bytes)

pub returns-then-steps-eq0 : goal.returns-then-steps-eq0
returns-then-steps-eq0 c =
    let to = c.args.to in let from = c.args.from in let other = c.args.other.now in let bytes = c.args.bytes.now in
    let fits : SFits w64 from.steps.step = search rules in
    let none : pos 0 ≡ from.steps.step = ap (to_z w64) (sym c.if-steps-eq0.true) ∙ to_z-of_z w64 from.steps.step fits in
    c.fill.ensures ∙ ap (λ l. filled to.at to.step l from.count bytes) c.part-then-steps-eq0.ensures.value ∙ copied-one to.at to.step other from.steps.at from.width from.count bytes
    ∙ ap (λ s. copied to.at to.step other from.steps.at s from.width from.count bytes) none

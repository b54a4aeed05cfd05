use Rattle.std.proofs.Common.{length, sym, ◌∙◌, arith, rules}
use Rattle.raw_block.proofs.Words.{traded}
use Rattle.raw_block.proofs.Runs.{run_within, traded-run}
use Rattle.raw_block.proofs.strided.trade.Goals as goal

pub trade_item-requires : goal.trade_item-requires
trade_item-requires c = record {
  bounds = (
    run_within (length c.args.bytes.now) c.args.a.at c.args.a.step c.args.b.width c.args.b.count (omega (arith, c.if-count-gt-FEW_ITEMS.true)) (c.is_adjacent.ensures c.if-is_adjacent.true) c.requires.a,
    run_within (length c.args.other.now) c.args.b.steps.at c.args.b.steps.step c.args.b.width c.args.b.count (omega (arith, c.if-count-gt-FEW_ITEMS.true)) (c.is_adjacent-then-is_adjacent.ensures c.if-is_adjacent-2.true) c.requires.b,
  );
}

pub returns-then-is_adjacent-2 : goal.returns-then-is_adjacent-2
returns-then-is_adjacent-2 c =
    let a_is = c.is_adjacent.ensures c.if-is_adjacent.true in
    let b_is = c.is_adjacent-then-is_adjacent.ensures c.if-is_adjacent-2.true in
    let in_a = run_within (length c.args.bytes.now) c.args.a.at c.args.a.step c.args.b.width c.args.b.count (omega (arith, c.if-count-gt-FEW_ITEMS.true)) a_is c.requires.a in
    let in_b = run_within (length c.args.other.now) c.args.b.steps.at c.args.b.steps.step c.args.b.width c.args.b.count (omega (arith, c.if-count-gt-FEW_ITEMS.true)) b_is c.requires.b in
    (λ i. (c.trade_item.ensures.bytes i, c.trade_item.ensures.other i))
    ∙ sym (traded-run c.args.a.at c.args.b.steps.at c.args.b.width c.args.b.count c.args.bytes.now c.args.other.now in_a in_b)
    ∙ (λ i. traded c.args.a.at (sym a_is i) c.args.b.steps.at (sym b_is i) c.args.b.width c.args.b.count c.args.bytes.now c.args.other.now)

pub overflow_mul-count : goal.overflow_mul-count
overflow_mul-count c =
    let within = run_within (length c.args.bytes.now) c.args.a.at c.args.a.step c.args.b.width c.args.b.count (omega (arith, c.if-count-gt-FEW_ITEMS.true)) (c.is_adjacent.ensures c.if-is_adjacent.true) c.requires.a in
    search (rules, within)

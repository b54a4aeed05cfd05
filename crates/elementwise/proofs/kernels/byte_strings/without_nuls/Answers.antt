use Rattle.std.proofs.Common.{ℕ, ◌-◌, length, take, reverse, ap, ◌∙◌, arith, rules, tests, nat_eq}
use Rattle.elementwise.proofs.Words.{YieldsList-from_rev_slice, count_from_yields_List, YieldsList-from_take_while, length-prefix_len, without_nuls}
use Rattle.elementwise.proofs.TextWordLaws.{fewer-nuls}
use Rattle.elementwise.proofs.kernels.byte_strings.without_nuls.Goals as goal

pub loop-len-preserved : goal.loop-len-preserved
loop-len-preserved c =
    let item = c.args.item.now in
    let len = c.loop-len.len in
    record {
      few = omega (arith, c.loop-len.invariant.few);
      same = fewer-nuls item (without_nuls item) len (len - 8) (len - (len - 8)) c.read_eight.result (omega (arith, c.loop-len-test.true)) (omega (arith, c.loop-len-test.true)) c.loop-len.invariant.few (λ k. search (rules, c.type_inv.item k)) c.read_eight.ensures c.if-read_eight-eq0.true c.loop-len.invariant.same;
    }

pub returns : goal.returns
returns c =
    let s = take c.loop-len.len c.args.item.now in
    ap (λ (n : ℕ). take (length s - n) s)
    (count_from_yields_List c.take_while.result c.count-nuls.result c.count-nuls.ensures.ran (YieldsList-from_take_while _ (λ b. nat_eq b 0) (YieldsList-from_rev_slice s cc) c.take_while.ensures.closure c.take_while.ensures.done (λ x b q k. search (rules, tests))) ∙ length-prefix_len (λ b. nat_eq b 0) (reverse s))
    ∙ c.loop-len.invariant.same

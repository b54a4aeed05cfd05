-- A turn counts one byte, and the brace that it opens or closes.
use Rattle.std.proofs.Common.{arith, rules}
use Rattle.script_lang.proofs.Words.{tests, drop_more, drop_all}
use Rattle.script_lang.proofs.Braces.{brace_closes, brace_goes_on, no_brace}
use Rattle.script_lang.proofs.grammar.descriptors.record_len.Goals as goal

pub returns-then-depth-eq0-clause-found : goal.returns-then-depth-eq0-clause-found
returns-then-depth-eq0-clause-found c =
    brace_closes _ _ _ _ _ c.loop-i.invariant.counted _ _ (drop_more c.args.bytes.now c.loop-i.i 0 (omega arith)) (rw (← c.depth_behind-depth.ensures.value) (search (rules, tests)))

pub loop-i-preserved : goal.loop-i-preserved
loop-i-preserved c = record {
  counted = rw (c.named_behind-is_named.ensures, c.depth_behind-depth.ensures.value) (brace_goes_on _ _ _ _ _ c.loop-i.invariant.counted _ _ (drop_more c.args.bytes.now c.loop-i.i 0 (omega arith)) (rw (← c.depth_behind-depth.ensures.value) (search (rules, tests))));
  few = omega arith;
}

pub returns-clause-found : goal.returns-clause-found
returns-clause-found c = no_brace _ _ _ _ _ c.loop-i.invariant.counted (drop_all c.loop-i.i c.args.bytes.now (omega arith))

use Rattle.std.proofs.Common.{◌≤◌, ◌++◌, length, take, sym, ap, ◌∙◌, arith}
use Rattle.npy_format.proofs.Words.{append-nil, repeat, take_all, drop_all, capped}
use Rattle.npy_format.proofs.WrittenItemLaws.{band_capped}
use Rattle.npy_format.proofs.items.cap_each.Goals as goal

pub loop-at-preserved : goal.loop-at-preserved
loop-at-preserved c =
    let enough : length c.loop-at.bytes ≤ length c.args.bytes.now = omega (arith, c.loop-at.auto.bytes) in
    record {
      low = omega (arith, c.min-len.ensures, c.loop-at-test.true, c.cap_at.auto.bytes);
      rest = band_capped c.loop-at.at c.min-len.result (length c.args.bytes.now) c.loop-at.bytes c.cap_at.new.bytes c.args.limits.now c.loop-at-test.true c.min-len.ensures c.requires enough c.cap_at.ensures ∙ c.loop-at.invariant.rest;
    }

pub returns : goal.returns
returns c =
    let at = c.loop-at.at in
    let bytes = c.loop-at.bytes in
    let all : length bytes ≤ at = omega (arith, c.loop-at-test.false) in
    sym (ap (λ xs. take at bytes ++ capped xs (repeat (length c.args.bytes.now) c.args.limits.now)) (drop_all at bytes all) ∙ append-nil (take at bytes) ∙ take_all at bytes all)
    ∙ c.loop-at.invariant.rest

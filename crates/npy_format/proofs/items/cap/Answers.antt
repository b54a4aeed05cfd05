use Rattle.std.proofs.Common.{◌≡◌, ◌+◌, ◌<◌, ◌≤◌, ◌++◌, suc, length, take, drop, slice_set, sym, ap, subst, ◌∙◌, arith}
use Rattle.npy_format.proofs.Words.{append-nil, take_all, drop_all, capped}
use Rattle.npy_format.proofs.WrittenItemLaws.{byte_capped}
use Rattle.npy_format.proofs.items.cap.Goals as goal

pub loop-k-preserved : goal.loop-k-preserved
loop-k-preserved c =
    let k = c.loop-k.k in
    let new = slice_set c.loop-k.bytes k c.min.result in
    let limits = c.args.limits.now in
    let next : suc k ≡ k + 1 = omega arith in
    let low : k < length c.loop-k.bytes = omega (arith, c.loop-k-test.true, c.loop-k.auto.bytes) in
    subst (λ n. take n new ++ capped (drop n new) (drop n limits) ≡ capped c.args.bytes.now limits) next
    (byte_capped k c.min.result c.loop-k.bytes limits low (omega (arith, c.loop-k-test.true, c.requires)) c.min.ensures ∙ c.loop-k.invariant)

pub returns : goal.returns
returns c =
    let all : length c.loop-k.bytes ≤ c.loop-k.k = omega (arith, c.loop-k-test.false, c.loop-k.auto.bytes) in
    sym (ap (λ xs. take c.loop-k.k c.loop-k.bytes ++ capped xs (drop c.loop-k.k c.args.limits.now)) (drop_all c.loop-k.k c.loop-k.bytes all) ∙ append-nil (take c.loop-k.k c.loop-k.bytes) ∙ take_all c.loop-k.k c.loop-k.bytes all)
    ∙ c.loop-k.invariant

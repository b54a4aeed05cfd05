use Rattle.std.proofs.Common.{◌≡◌, ◌-◌, ◌++◌, length, replicate, ◌∙◌, rules}
use Rattle.npy_format.proofs.Words.{vec_len, take_all}
use Rattle.npy_format.proofs.items.pad.Goals as goal

pub returns : goal.returns
returns c =
    let old = c.args.bytes.now in
    let size : vec_len old ≡ length old.items = search rules in
    c.in_ok-resize.ensures.items ∙ (λ i. take_all c.args.len old.items c.requires i ++ replicate (c.args.len - size i) c.args.byte)

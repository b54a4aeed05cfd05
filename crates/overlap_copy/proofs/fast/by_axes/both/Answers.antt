use Rattle.std.proofs.Common.{◌≡◌, ◌+◌, ◌++◌, length, take, drop, sym, ap, ◌∙◌, length-append}
use Rattle.overlap_copy.proofs.Words.{take-append_seam}
use Rattle.overlap_copy.proofs.fast.by_axes.both.Goals as goal

pub returns : goal.returns
returns c =
    let a = c.args.axes.now in
    let b = c.args.others.now in
    let rest = drop (length a + length b) c.put.new.all in
    let front : take (length a) c.put.new.all ≡ a = ap (take (length a)) c.put.ensures ∙ take-append_seam a (drop (0 + length a) _) in
    ap (λ n. take n c.put-2.new.all) (sym (length-append a b)) ∙ ap (take (length (a ++ b))) (c.put-2.ensures ∙ ap (λ xs. (xs ++ b) ++ rest) front) ∙ take-append_seam (a ++ b) rest

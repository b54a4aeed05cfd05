use Rattle.std.proofs.Common.{◌≡◌, ◌*◌, ◌++◌, sym, ◌∙◌, arith}
use Rattle.elementwise.proofs.Words.{size, pairs_of, made_of_all, pair_made}
use Rattle.elementwise.proofs.PairedLaws.{all_paired, pairs_made}
use Rattle.elementwise.proofs.pairing.made_by_rows.Goals as goal

pub over-requires-clause-whole : goal.over-requires-clause-whole
over-requires-clause-whole c =
    let p = c.args.pairing.now in let o = c.args.operands in
    let wrote : c.finish-block.result ≡ made_of_all (pair_made p) o = c.finish-block.ensures ∙ c.push.ensures.bytes ∙ λ i. (c.in_ok-block.ensures i).0 ++ made_of_all (pair_made p) o in
    (all_paired p o c.requires.can c.requires.left c.requires.right c.finish-block.result wrote).0 ∙ λ i. pairs_of o * size (sym c.target-scalar.ensures i)

pub over-requires-clause-small : goal.over-requires-clause-small
over-requires-clause-small c =
    let p = c.args.pairing.now in let o = c.args.operands in
    let wrote : c.finish-block.result ≡ made_of_all (pair_made p) o = c.finish-block.ensures ∙ c.push.ensures.bytes ∙ λ i. (c.in_ok-block.ensures i).0 ++ made_of_all (pair_made p) o in
    omega (arith, (all_paired p o c.requires.can c.requires.left c.requires.right c.finish-block.result wrote).0, c.requires.few)

pub returns : goal.returns
returns c =
    let p = c.args.pairing.now in let o = c.args.operands in
    let wrote : c.finish-block.result ≡ made_of_all (pair_made p) o = c.finish-block.ensures ∙ c.push.ensures.bytes ∙ λ i. (c.in_ok-block.ensures i).0 ++ made_of_all (pair_made p) o in
    let owned = c.over.ensures in
    pairs_made p o c.requires.can c.requires.left c.requires.right c.target-scalar.result c.finish-block.result c.over.result c.target-scalar.ensures wrote owned.descr owned.shape owned.order owned.block

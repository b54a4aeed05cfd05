use Rattle.std.proofs.Common.{◌≡◌, Bool, IfOk, subst}
use Rattle.overlap_copy.proofs.Words.{offsets}
use Rattle.overlap_copy.proofs.OverlapLaws.{common-turned}
use Rattle.overlap_copy.proofs.share.share_cell.Goals as goal

pub returns-then-len-clause-value : goal.returns-then-len-clause-value
returns-then-len-clause-value c =
    subst (λ (shared : Bool). IfOk c.share_by_map.result (λ yes. yes ≡ shared)) (common-turned (offsets c.args.b.now) c.args.b_item (offsets c.args.a.now) c.args.a_item) c.share_by_map.ensures

use Rattle.std.proofs.Common.{sym, subst}
use Rattle.name_store.proofs.Words.{Target, View, IsNear}
use Rattle.name_store.proofs.NearLaws.{is-near}
use Rattle.name_store.proofs.write.near.Goals as goal

pub returns-in_ok-pair-in-View : goal.returns-in_ok-pair-in-View
returns-in_ok-pair-in-View c =
    subst (λ (t : Target). IsNear t (View c.in_ok-pair-in-View.pair.target)) (sym c.in-View.is) (is-near c.in-View.layout c.in_ok-pair-in-View.pair c.in_ok-pair-in-View.ensures.pairs)

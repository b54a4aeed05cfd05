use Rattle.std.proofs.Common.{◌++◌, ap, sym, ◌∙◌, add-one, append_assoc, codes, drop, suc}
use Rattle.bench_engine.proofs.Listings.{listed, listed-next}
use Rattle.bench_engine.proofs.ask.set_names_text.Goals as goal

pub loop-k-preserved : goal.loop-k-preserved
loop-k-preserved c =
    rw add-one
    (ap (λ text. text ++ listed (drop (suc c.loop-k.k) c.args.bench.now.state.names)) (c.in_ok-push-2.ensures ∙ ap (λ text. text ++ c.name_at.result.now) c.in_ok-push.ensures ∙ append_assoc c.loop-k.out (codes " ") c.name_at.result.now)
    ∙ append_assoc c.loop-k.out (codes " " ++ c.name_at.result.now) (listed (drop (suc c.loop-k.k) c.args.bench.now.state.names))
    ∙ ap (λ rest. c.loop-k.out ++ rest) (sym (listed-next c.args.bench.now.state.names c.loop-k.k c.name_at.result.now c.name_at.ensures))
    ∙ c.loop-k.invariant)

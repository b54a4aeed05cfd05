use Rattle.std.proofs.Common.{◌≡◌, ◌∙◌, sym, ap, [], map}
use Rattle.name_store.proofs.Words.{nat_cmp_total, nat_cmp, empty, get-empty, same_map, nat_cmp-IsAntisymmetric, Ring, past_buffers, patch_size, start, state_of, Change}
use Rattle.name_store.proofs.SlotLaws.{get-past}
use Rattle.name_store.proofs.bench.Bench.try_new.Goals as goal

nothing : past_buffers [] [] [] ≡ empty
nothing = same_map nat_cmp_total nat_cmp-IsAntisymmetric _ _ (λ q. get-past [] [] [] q ∙ sym (get-empty nat_cmp q))

pub returns-clause-empty : goal.returns-clause-empty
returns-clause-empty c =
    (λ i. state_of (c.new.ensures.names i) (c.new.ensures.slots i) (c.in_ok-try_new.ensures.empty i))
    ∙ λ i. record (start c.args.depth) { buffers = nothing i }

pub returns-clause-patches : goal.returns-clause-patches
returns-clause-patches c = ap (λ (r : Ring Change). map patch_size r.items) c.in_ok-try_new.ensures.empty

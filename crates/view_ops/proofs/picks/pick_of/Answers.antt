use Rattle.std.proofs.Common.{◌≡◌, ℕ, List, Result, Ok, Err, sym, ap, ◌∙◌, MatchResult}
use Rattle.view_ops.proofs.Words.{is_ok, Refusal, Progression, run_numbers}
use Rattle.view_ops.proofs.PickLaws.{has_step-ok}
use Rattle.view_ops.proofs.picks.pick_of.Goals as goal

both_ok : (result : Result Progression Refusal) (there : Result (List ℕ) Refusal) → MatchResult result (λ run. there ≡ Ok (run_numbers run)) (λ refusal. there ≡ Err refusal) → is_ok result ≡ is_ok there
both_ok (Ok run) there is = sym (ap is_ok is)
both_ok (Err refusal) there is = sym (ap is_ok is)

pub unwrap-requires : goal.unwrap-requires
unwrap-requires g c =
    let has = rw c.in-Slice.is at c.requires.step in
    both_ok c.slice_of.result _ c.slice_of.ensures.value ∙ has_step-ok c.args.n c.in-Slice.start c.in-Slice.stop c.in-Slice.step has

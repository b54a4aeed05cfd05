use Rattle.std.proofs.Common.{◌≡◌, true, false, Result, Ok, Err, OnOk}
use Rattle.std.proofs.lemmas.Result.{on_ok_weaker}
use Rattle.std.proofs.lemmas.Fmt.{contents_after_writes}
use Rattle.std.specs.Result.{is_ok}
use Rattle.bench_engine.proofs.replies.push_shape.Goals as goal

-- what holds after one result holds after another that is `Ok` only with it
with : {A B E F : Type 0} (r : Result A E) (q : Result B F) (P : Type 0) → is_ok q ≡ is_ok r → OnOk r P → OnOk q P
with (Ok x) (Ok y) P same holds = holds
with (Err e) (Ok y) P same holds = let no : true ≡ false = same in cc
with r (Err e) P same holds = tt

pub returns : goal.returns
returns c = with c.write.result c.map_err.result _ c.map_err.ensures.variant (on_ok_weaker _ (contents_after_writes _ (λ t. t) (λ _ _ _ t. t) _ _ _) c.write.ensures.writes)

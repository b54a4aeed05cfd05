use Rattle.std.proofs.Common.{◌≡◌, ◌+◌, ◌-◌, ◌*◌, ◌/◌, ℕ, length, take, drop, ap, ◌∙◌, arith, length-take, length-drop}
use Rattle.raw_block.proofs.Words.{mul-div_cancel_left, length-chunks}
use Rattle.raw_block.proofs.Runs.{item_of_run}
use Rattle.raw_block.proofs.number_runs.items_at.Goals as goal

pub returns : goal.returns
returns g c =
    let width = g.row.N in let at = c.args.at in let n = c.args.n in let bytes = c.args.bytes.now in let run = take (at + width * n - at) (drop at bytes) in
    let long : length run ≡ width * n = omega (arith, length-take (at + width * n - at) (drop at bytes), length-drop at bytes, c.requires.within) in
    let many : length run / width ≡ n = ap (λ (m : ℕ). m / width) long ∙ mul-div_cancel_left n c.requires.some in
    record {
      len = ap length c.as_chunks.ensures.front ∙ length-chunks width (length run / width) run ∙ many;
      items = λ k lt. item_of_run width at n (length run / width) k bytes c.as_chunks.result.0.now c.as_chunks.ensures.front (omega (arith, many)) lt;
    }

use Rattle.std.proofs.Common.{◌≡◌, ◌≤◌, ℕ, List, Option, Some, None, IfSome, length, sym, ap, subst, ◌∙◌, arith}
use Rattle.shape_strides.proofs.Words.{Run, max_items, offsets, run_offsets, length-offsets, length-run_offsets}
use Rattle.shape_strides.proofs.layout.Layout.as_run.Goals as goal

-- A run of these items has as many.
counted : (found : Option Run) (items : List ℕ) (P : ℕ → Type 0) → P (length items) → IfSome found (λ run. run_offsets run ≡ items) → IfSome found (λ run. P run.count)
counted None items P holds are = tt
counted (Some run) items P holds are = subst P (sym (ap length are) ∙ length-run_offsets run) holds

pub returns-then-items-lt2-clause-found : goal.returns-then-items-lt2-clause-found
returns-then-items-lt2-clause-found c = λ step two by. omega (arith, two, length-offsets c.args.self.now, c.items.ensures.value, c.if-items-lt2.true)

pub returns-clause-two : goal.returns-clause-two
returns-clause-two c = counted c.as_one_run.result (offsets c.args.self.now) (λ n. 2 ≤ n) (omega (arith, length-offsets c.args.self.now, c.items.ensures.value, c.if-items-lt2.false)) c.as_one_run.ensures.items

pub returns-clause-few : goal.returns-clause-few
returns-clause-few c = counted c.as_one_run.result (offsets c.args.self.now) (λ n. n ≤ max_items) (omega (arith, length-offsets c.args.self.now, c.items.ensures)) c.as_one_run.ensures.items

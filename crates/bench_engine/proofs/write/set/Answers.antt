use Rattle.std.proofs.Common.{◌≡◌, ap, sym, refl, ◌∙◌, inl, arith, subst, ℕ}
use Rattle.bench_engine.proofs.Words.{BenchValue, err_from_is_err_and, Supplies, descr_of, written, accepted_with, write_reply}
use Rattle.bench_engine.proofs.Steps.{spare}
use Rattle.bench_engine.proofs.KeptBytes.{counted-items}
use Rattle.bench_engine.proofs.write.set.Goals as goal

pub returns-in_err-writing-clause-answers : goal.returns-in_err-writing-clause-answers
returns-in_err-writing-clause-answers c =
    let e = err_from_is_err_and c.from_residual.result c.from_residual.ensures.1 in
    rw (e.1, e.2) (refl, c.in_err-writing.ensures)

pub write_items-requires : goal.write_items-requires
write_items-requires c =
    let is = c.in_ok-writing.ensures in
    let leaves = is.leaves in
    record { aim = record { array = is.array; places = leaves.places; items = leaves.items; leads = leaves.leads; may_write = leaves.may_write; supplies = leaves.supplies } }

pub returns-in_err-count-clause-answers : goal.returns-in_err-count-clause-answers
returns-in_err-count-clause-answers c =
    let e = err_from_is_err_and c.from_residual-in_err-count.result c.from_residual-in_err-count.ensures.1 in
    rw e.1 (c.in_err-count.ensures.answers.0, inl (e.2 ∙ c.in_err-count.ensures.answers.1, rw c.in_ok-writing.ensures.bound refl))

pub set_count-requires : goal.set_count-requires
set_count-requires c =
    let is = c.in_ok-writing.ensures in
    omega (arith, c.in_ok-count.ensures.answers.0, is.leaves.counted, is.few)

pub returns-clause-answers : goal.returns-clause-answers
returns-clause-answers c =
    let s = c.args.bench.now.state in
    let is = c.in_ok-writing.ensures in
    let leaves = is.leaves in
    let done : c.write_items.new.self.state ≡ written s is.array is.part.places is.new =
    c.in_ok-count.ensures.answers.1 is.array leaves.places leaves.items leaves.leads (subst (λ (k : ℕ). Supplies s (descr_of s is.array) k c.in_ok-writing.writing.source leaves.items) (sym c.in_ok-count.ensures.answers.0) leaves.supplies) ∙ leaves.same in
    let any = spare s in
    let told = c.set_count.ensures ∙ ap (write_reply c.args.operation) (c.in_ok-count.ensures.answers.0 ∙ leaves.counted) in
    (any.0, any.1, is.outcome ∙ (λ i. accepted_with (sym done i) (sym told i)))

pub returns-in_err-count-clause-kept : goal.returns-in_err-count-clause-kept
returns-in_err-count-clause-kept c =
    let e = err_from_is_err_and c.from_residual-in_err-count.result c.from_residual-in_err-count.ensures.1 in
    let is = c.in_ok-writing.ensures in
    rw e.1 (ap (λ (v : BenchValue). v.patches) (c.in_err-count.ensures.patches is.array is.found))

pub returns-clause-patches : goal.returns-clause-patches
returns-clause-patches c =
    let is = c.in_ok-writing.ensures in
    counted-items c.args.bench.now c.write_items.new.self _ _ c.in_ok-writing.writing.target c.in_ok-count.count is.array is.part is.found is.there is.leaves.counted c.in_ok-count.ensures.patches

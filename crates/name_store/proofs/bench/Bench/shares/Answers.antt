use Rattle.std.proofs.Common.{◌≡◌, ◌&&◌, ◌∙◌, Option, Some, None, ap, refl, subst, sym, is_some, inl, inr}
use Rattle.name_store.proofs.Words.{err_from_is_err_and, same_Some, found-array, find_array, is_bound, buffer_of, State, Array, BenchValue, Finds, IsElementType, Shows}
use Rattle.name_store.proofs.ShareLaws.{buffer-legal, shares-apart, shares-one, shown-fits}
use Rattle.name_store.proofs.bench.Bench.shares.Goals.{In-Some, In-Some-get}
use Rattle.name_store.proofs.bench.Bench.shares.Goals as goal

missed : (s : State) (found : Option Array) → Finds s found None → found ≡ None
missed s None none = refl
missed s (Some a) nothing = absurd nothing

-- the arrays of the names
first : (c : In-Some) → (a : Array) × (find_array c.args.self.now.state.names c.args.left.now ≡ Some a) × Shows c.args.self.now.state a c.in-Some.first
first c = found-array c.args.self.now.state _ c.in-Some.first (rw c.in-Some.is at c.get.ensures)

second : (c : In-Some-get) → (a : Array) × (find_array c.args.self.now.state.names c.args.right.now ≡ Some a) × Shows c.args.self.now.state a c.in-Some-get.second
second c = found-array c.args.self.now.state _ c.in-Some-get.second (rw c.in-Some-get.is at c.get-2.ensures)

pub returns-in_default-clause-answers : goal.returns-in_default-clause-answers
returns-in_default-clause-answers c =
    let none = missed c.args.self.now.state _ (rw c.in_default.is at c.get.ensures) in
    inl ((λ i. is_some (none i) && is_bound c.args.self.now.state c.args.right.now), refl)

pub returns-in_default-get-clause-answers : goal.returns-in_default-get-clause-answers
returns-in_default-get-clause-answers c =
    let left = first (goal.at.returns-in_default-get-clause-answers c).In-Some in
    let none = missed c.args.self.now.state _ (rw c.in_default-get.is at c.get-2.ensures) in
    inl ((λ i. is_some (left.1 i) && is_some (none i)), refl)

pub returns-then-first-second-clause-answers : goal.returns-then-first-second-clause-answers
returns-then-first-second-clause-answers c =
    let left = first (goal.at.returns-then-first-second-clause-answers c).In-Some in
    let right = second (goal.at.returns-then-first-second-clause-answers c).In-Some-get in
    (left.0, right.0, left.1, right.1, shares-apart c.args.self.now.state left.0 right.0 (λ same. c.if-first-second.true (left.2.view.number_is ∙ same ∙ sym right.2.view.number_is)))

pub share_cell-requires-clause-a_fits : goal.share_cell-requires-clause-a_fits
share_cell-requires-clause-a_fits c =
    let left = first (goal.at.share_cell-requires-clause-a_fits c).In-Some in
    rw c.size.ensures.value (shown-fits c.args.self.now.state left.0 c.in-Some.first left.2)

pub share_cell-requires-clause-b_fits : goal.share_cell-requires-clause-b_fits
share_cell-requires-clause-b_fits c =
    let right = second (goal.at.share_cell-requires-clause-b_fits c).In-Some-get in
    rw c.size-2.ensures.value (shown-fits c.args.self.now.state right.0 c.in-Some-get.second right.2)

pub returns-in_err-has_common-clause-answers : goal.returns-in_err-has_common-clause-answers
returns-in_err-has_common-clause-answers c =
    let left = first (goal.at.returns-in_err-has_common-clause-answers c).In-Some in
    let right = second (goal.at.returns-in_err-has_common-clause-answers c).In-Some-get in
    let p = err_from_is_err_and c.from_residual.result c.from_residual.ensures.1 in
    rw (p.1, p.2) (inr ((λ i. is_some (left.1 i) && is_some (right.1 i)), refl))

pub returns-clause-answers : goal.returns-clause-answers
returns-clause-answers c =
    let left = first (goal.at.returns-clause-answers c).In-Some in
    let right = second (goal.at.returns-clause-answers c).In-Some-get in
    let same = sym left.2.view.number_is ∙ c.if-first-second.false ∙ right.2.view.number_is in
    let legal = subst (λ (v : BenchValue). IsElementType (buffer_of v.state left.0).descr) c.self.view_is (buffer-legal c.self.inside.table.names.entries c.self.inside.table.slots.cells.items left.0.buffer) in
    (left.0, right.0, left.1, right.1, rw (c.size.ensures.value, c.size-2.ensures.value) at c.in_ok-has_common.ensures.value ∙ shares-one c.args.self.now.state left.0 right.0 c.in-Some.first c.in-Some-get.second legal left.2 right.2 same)

pub returns-in_default-clause-no_memory : goal.returns-in_default-clause-no_memory
returns-in_default-clause-no_memory c two =
    let none = missed c.args.self.now.state _ (rw c.in_default.is at c.get.ensures) in
    let found = two.left_is in
    let no : ⊥ = cc in absurd no

pub returns-in_default-get-clause-no_memory : goal.returns-in_default-get-clause-no_memory
returns-in_default-get-clause-no_memory c two =
    let none = missed c.args.self.now.state _ (rw c.in_default-get.is at c.get-2.ensures) in
    let found = two.right_is in
    let no : ⊥ = cc in absurd no

pub returns-in_err-has_common-clause-no_memory : goal.returns-in_err-has_common-clause-no_memory
returns-in_err-has_common-clause-no_memory c two =
    let left = first (goal.at.returns-in_err-has_common-clause-no_memory c).In-Some in
    let right = second (goal.at.returns-in_err-has_common-clause-no_memory c).In-Some-get in
    absurd (two.two (ap (λ (a : Array). a.buffer) (same_Some _ _ (sym two.left_is ∙ left.1)) ∙ sym left.2.view.number_is ∙ c.if-first-second.false ∙ right.2.view.number_is ∙ ap (λ (a : Array). a.buffer) (same_Some _ _ (sym right.1 ∙ two.right_is))))

use Rattle.std.proofs.Common.{◌≡◌, ◌≤◌, ◌⊎◌, ◌&&◌, ◌∷◌, ◌++◌, ap, sym, subst, refl, ◌∙◌, inl, inr, arith, List, ℕ, true, false, is_some, Option, Some, None, Result, Ok, Err}
use Rattle.bench_engine.proofs.Words.{list_all, list_all-append, and_parts, err_from_is_err_and, Argument, Descr, IndexItem, Operation, OutOfMemory, Refusal, State, UnknownName, LeafValue, count, descr_of, find_array, is_bound, max_items, written, Array, names_in_index, accepted_with, names_in_argument, new_items, target_part, write_outcome, write_reply, Writing, Operand, operand_part, IsPart, IsTarget, Meets, Leaves, Prepares}
use Rattle.script_lang.specs.declared.command.Argument.TheVariants as argument
use Rattle.bench_engine.specs.NewArrayLaws.{passed}
use Rattle.bench_engine.proofs.Answered.{met}
use Rattle.bench_engine.proofs.TargetLaws.{refused-target, fixed-target, given-target}
use Rattle.bench_engine.proofs.Views.{refused-or}
use Rattle.bench_engine.proofs.write.writing_of.Goals.{In_ok-source, After-items-count}
use Rattle.bench_engine.proofs.write.writing_of.Goals as goal

-- if the operand is refused, so are the new items
ungiven : (s : State) (descr : Descr) (part : Array) (op : Option Operation) (operand : Operand) (e : Refusal) → operand_part s operand ≡ Err e → new_items s descr part op (argument.Operand operand) ≡ Err e
ungiven s descr part None operand e wrong = rw wrong refl
ungiven s descr part (Some op) operand e wrong = rw wrong refl

-- the outcome of the machine, if a name is unbound, and from the new items of a target
unknown : (s : State) (name : List ℕ) (index : List (IndexItem (List ℕ))) (op : Option Operation) (value : Argument) (found : Option Array) → find_array s.names name ≡ found → (is_some found && list_all (is_bound s) (names_in_index index ++ names_in_argument value)) ≡ false → write_outcome s name index op value ≡ Err UnknownName
unfolding write_outcome
unknown s name index op value None is none = rw is refl
unknown s name index op value (Some a) is none = rw (is, none) refl

carries : (s : State) (name : List ℕ) (index : List (IndexItem (List ℕ))) (op : Option Operation) (value : Argument) (a part : Array) (new : List (List LeafValue)) → find_array s.names name ≡ Some a → list_all (is_bound s) (names_in_index index ++ names_in_argument value) ≡ true → target_part s a index ≡ Ok part →
    new_items s (descr_of s a) part op value ≡ Ok new → write_outcome s name index op value ≡ accepted_with (written s a part.places new) (write_reply op (count part.shape))
unfolding write_outcome
carries s name index op value a part new is all at good = rw (is, all, at, good) refl

others : (s : State) (name : List ℕ) (index : List (IndexItem (List ℕ))) (value : Argument) → list_all (is_bound s) (name ∷ names_in_index index ++ names_in_argument value) ≡ true → list_all (is_bound s) (names_in_index index ++ names_in_argument value) ≡ true
others s name index value all = (and_parts _ _ all).1

prepared : (s : State) (name : List ℕ) (index : List (IndexItem (List ℕ))) (op : Option Operation) (value : Argument) (a part : Array) → find_array s.names name ≡ Some a → list_all (is_bound s) (name ∷ names_in_index index ++ names_in_argument value) ≡ true → target_part s a index ≡ Ok part → count part.shape ≤ max_items →
    (result : Result Writing Refusal) → Meets (Leaves s name a part) result (new_items s (descr_of s a) part op value) → Prepares s name index op value result
unfolding write_outcome
prepared s name index op value a part is all at few (Ok w) meets =
    let new = met (Leaves s name a part) w (new_items s (descr_of s a) part op value) meets in
    record { bound = all; array = a; found = is; part = part; there = at; few = few; new = new.0; outcome = carries s name index op value a part new.0 is (others s name index value all) at new.1; leaves = new.2 }
prepared s name index op value a part is all at few (Err e) meets =
    refused-or _ _ _ (new_items s (descr_of s a) part op value) all meets (λ bad choice. rw (is, others s name index value all, at, bad) refl)

-- all names are bound
all-bound : (c : In_ok-source) → list_all (is_bound c.args.bench.now.state) (c.args.selection.name.now ∷ names_in_index c.args.selection.index.now ++ names_in_argument c.args.value.now) ≡ true
all-bound c =
    list_all-append (is_bound c.args.bench.now.state) (c.args.selection.name.now ∷ names_in_index c.args.selection.index.now) (names_in_argument c.args.value.now)
    ∙ λ i. c.in_ok-array.ensures.0 i && c.in_ok-source.ensures.0 i

-- the part that is written, and the target that leads to it
aimed : (c : After-items-count) → (part : Array) × (target_part c.args.bench.now.state c.in_ok-array.ensures.1.0 c.args.selection.index.now ≡ Ok part) × IsTarget c.args.bench.now.state c.args.selection.name.now c.in_ok-array.ensures.1.0 c.in_ok-target.target part
aimed c =
    let s = c.args.bench.now.state in
    let it = c.in_ok-array.ensures.1 in
    let p = met (IsTarget s c.args.selection.name.now it.0) c.in_ok-target.target (target_part s it.0 c.as_slice.result.now) (given-target s it.0 c.in_ok-array.array it.2 c.as_slice.result.now c.args.selection.name.now c.in_ok-target.target (omega (arith, c.size-size.ensures)) it.1 (c.in_ok-target.ensures it.0 it.2) c.if-not-array.false) in
    (p.0, ap (target_part s it.0) (sym c.as_slice.ensures) ∙ p.1, p.2)

-- the part does not have too many items
few : (c : After-items-count) (part : Array) {a : Array} → IsTarget c.args.bench.now.state c.args.selection.name.now a c.in_ok-target.target part → count part.shape ≤ max_items
few c part is = omega (arith, ap count (ap (λ (a : Array). a.shape) is.part_is), ap count c.shape.ensures, c.items-count.ensures.value, c.items-count.ensures.limit)

pub returns-in_err-array : goal.returns-in_err-array
returns-in_err-array c =
    let s = c.args.bench.now.state in
    let e = err_from_is_err_and c.from_residual.result c.from_residual.ensures.1 in
    let split = list_all-append (is_bound s) (c.args.selection.name.now ∷ names_in_index c.args.selection.index.now) (names_in_argument c.args.value.now) in
    rw (e.1, e.2, c.in_err-array.ensures.0) (inr (λ choice. unknown s _ _ _ _ _ refl (split ∙ λ i. c.in_err-array.ensures.1 i && list_all (is_bound s) (names_in_argument c.args.value.now))))

pub returns-in_err-source : goal.returns-in_err-source
returns-in_err-source c =
    let s = c.args.bench.now.state in
    let e = err_from_is_err_and c.from_residual-in_err-source.result c.from_residual-in_err-source.ensures.1 in
    let split = list_all-append (is_bound s) (c.args.selection.name.now ∷ names_in_index c.args.selection.index.now) (names_in_argument c.args.value.now) in
    rw (e.1, e.2, c.in_err-source.ensures.0) (inr (λ choice. unknown s _ _ _ _ _ refl (split ∙ λ i. c.in_ok-array.ensures.0 i && c.in_err-source.ensures.1 i)))

pub returns-in_err-target : goal.returns-in_err-target
unfolding write_outcome
returns-in_err-target c =
    let s = c.args.bench.now.state in
    let e = err_from_is_err_and c.from_residual-in_err-target.result c.from_residual-in_err-target.ensures.1 in
    let it = c.in_ok-array.ensures.1 in
    let all = all-bound (goal.at.returns-in_err-target c).In_ok-source in
    rw (e.1, e.2) (refused-or _ _ _ (target_part s it.0 c.as_slice.result.now) all (refused-target s it.0 c.in_ok-array.array it.2 c.as_slice.result.now _ (c.in_err-target.ensures it.0 it.2))
    (λ bad choice. rw (it.1, others s c.args.selection.name.now c.args.selection.index.now c.args.value.now all, ap (target_part s it.0) (sym c.as_slice.ensures) ∙ bad) refl))

pub returns-then-not-array : goal.returns-then-not-array
unfolding write_outcome
returns-then-not-array c =
    let s = c.args.bench.now.state in
    let it = c.in_ok-array.ensures.1 in
    let all = all-bound (goal.at.returns-then-not-array c).In_ok-source in
    let fixed = fixed-target s it.0 c.in_ok-array.array it.2 c.as_slice.result.now c.in_ok-target.target (c.in_ok-target.ensures it.0 it.2) c.if-not-array.true in
    inr (λ choice. rw (it.1, others s c.args.selection.name.now c.args.selection.index.now c.args.value.now all, ap (target_part s it.0) (sym c.as_slice.ensures) ∙ fixed) refl)

pub operand_part-requires-clause-bound : goal.operand_part-requires-clause-bound
operand_part-requires-clause-bound c = rw c.in-Operand.is at c.in_ok-source.ensures.0

pub operand_part-requires-clause-named : goal.operand_part-requires-clause-named
operand_part-requires-clause-named c = rw (c.in-Operand.is, c.unwrap.ensures) at c.in_ok-source.ensures.1

pub returns-in_err-part-in-Operand : goal.returns-in_err-part-in-Operand
returns-in_err-part-in-Operand c =
    let s = c.args.bench.now.state in
    let at = goal.at.returns-in_err-part-in-Operand c in
    let e = err_from_is_err_and c.from_residual-in_err-part-in-Operand.result c.from_residual-in_err-part-in-Operand.ensures.1 in
    let it = c.in_ok-array.ensures.1 in
    let p = aimed at.After-items-count in
    rw (e.1, e.2) (prepared s c.args.selection.name.now c.args.selection.index.now c.args.operation c.args.value.now it.0 p.0 it.1 (all-bound at.In_ok-source) p.1 (few at.After-items-count p.0 p.2)
    (Err _) (passed (operand_part s c.in-Operand.operand) _ _ (λ wrong. ap (new_items s (descr_of s it.0) p.0 c.args.operation) c.in-Operand.is ∙ ungiven s (descr_of s it.0) p.0 c.args.operation c.in-Operand.operand _ wrong) c.in_err-part-in-Operand.ensures))

pub new_items-requires : goal.new_items-requires
new_items-requires c =
    let it = c.in_ok-array.ensures.1 in
    let p = aimed (goal.at.new_items-requires c).After-items-count in
    (c.args.bench.now.state, c.args.value.now, c.in-Literal.is, (c.args.selection.name.now, it.0, p.0, it.2, p.2))

pub new_items-requires-in-Operand : goal.new_items-requires-in-Operand
new_items-requires-in-Operand c =
    let s = c.args.bench.now.state in
    let it = c.in_ok-array.ensures.1 in
    let p = aimed (goal.at.new_items-requires-in-Operand c).After-items-count in
    let is = met (IsPart s) c.in_ok-part-in-Operand.part (operand_part s _) c.in_ok-part-in-Operand.ensures in
    (s, c.args.value.now, (c.in-Operand.operand, is.0, c.in-Operand.is, is.1, is.2), (c.args.selection.name.now, it.0, p.0, it.2, p.2))

pub returns-in-Literal : goal.returns-in-Literal
returns-in-Literal c =
    let s = c.args.bench.now.state in
    let at = goal.at.returns-in-Literal c in
    let it = c.in_ok-array.ensures.1 in
    let p = aimed at.After-items-count in
    prepared s c.args.selection.name.now c.args.selection.index.now c.args.operation c.args.value.now it.0 p.0 it.1 (all-bound at.In_ok-source) p.1 (few at.After-items-count p.0 p.2) c.new_items.result
    (subst (λ (d : Descr). Meets (Leaves s c.args.selection.name.now it.0 p.0) c.new_items.result (new_items s d p.0 c.args.operation c.args.value.now)) (sym it.2.descr)
    (c.new_items.ensures s c.args.value.now c.in-Literal.is c.args.selection.name.now it.0 p.0 it.2 p.2))

pub returns-in_ok-part-in-Operand : goal.returns-in_ok-part-in-Operand
returns-in_ok-part-in-Operand c =
    let s = c.args.bench.now.state in
    let at = goal.at.returns-in_ok-part-in-Operand c in
    let it = c.in_ok-array.ensures.1 in
    let p = aimed at.After-items-count in
    let is = met (IsPart s) c.in_ok-part-in-Operand.part (operand_part s _) c.in_ok-part-in-Operand.ensures in
    prepared s c.args.selection.name.now c.args.selection.index.now c.args.operation c.args.value.now it.0 p.0 it.1 (all-bound at.In_ok-source) p.1 (few at.After-items-count p.0 p.2) c.new_items-in-Operand.result
    (subst (λ (d : Descr). Meets (Leaves s c.args.selection.name.now it.0 p.0) c.new_items-in-Operand.result (new_items s d p.0 c.args.operation c.args.value.now)) (sym it.2.descr)
    (c.new_items-in-Operand.ensures s c.args.value.now (c.in-Operand.operand, is.0, c.in-Operand.is, is.1, is.2) c.args.selection.name.now it.0 p.0 it.2 p.2))

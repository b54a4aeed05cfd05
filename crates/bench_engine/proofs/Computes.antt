-- A name that is bound to the result of a computation.
use Rattle.std.proofs.Common.{◌≡◌, ℕ, true, false, Some, None, List, map, IfOk, Result, Ok, Err, refl, sym, ap, ◌∙◌, ◌⊎◌, inl, inr}
use Rattle.bench_engine.proofs.Words.{list_all, map-map, Refusal, UnknownName, TooManyNames, OutOfMemory, Descr, Gives, item_from, IndexItem, C, offsets, unary_result, unary_item, Items, Owned, Operation, UnOp, Operand, Argument, Computation, State, find_array, is_bound, has_room_for, descr_of, read, View, Array, Contents, new_contents, taken, bound_in_computation, Choice, compute_outcome, bound_new, operand_values, viewed, operand_part, argument_values, operation_with, operation_contents, transformed, computed_contents, origin_of, StandsFor, held, IsInCOrder}
use Rattle.script_lang.specs.declared.command.Argument.TheVariants as argument
use Rattle.bench_engine.proofs.Copies.{made-held}

-- ---- the command

module _ (s : State) (name : List ℕ) (c : Computation) where
  pub compute-unknown : list_all (is_bound s) (bound_in_computation c) ≡ false → (choice : Choice) → compute_outcome choice s name c ≡ Err UnknownName
  unfolding compute_outcome
  compute-unknown none choice = rw none refl

  module _ (all : list_all (is_bound s) (bound_in_computation c) ≡ true) where
    pub compute-many : has_room_for s name ≡ false → (choice : Choice) → compute_outcome choice s name c ≡ Err TooManyNames
    unfolding compute_outcome
    compute-many full choice = rw (all, full) refl

    pub compute-bad : (e : Refusal) → has_room_for s name ≡ true → computed_contents s c ≡ Err e → (choice : Choice) → compute_outcome choice s name c ≡ Err e
    unfolding compute_outcome
    compute-bad e room bad choice = rw (all, room, bad) refl

    pub compute-done : (new : Contents) → has_room_for s name ≡ true → computed_contents s c ≡ Ok new → (choice : Choice) → compute_outcome choice s name c ≡ bound_new choice s name (origin_of c) new
    unfolding compute_outcome
    compute-done new room good choice = rw (all, room, good) refl

-- ---- operands

module _ (s : State) (operand : Operand) (a : Array) (found : find_array s.names operand.name ≡ Some a) where
  pub part-whole : operand.index ≡ None → operand_part s operand ≡ Ok a
  unfolding operand_part
  part-whole none = rw (found, none) refl

  pub part-bad : (index : List (IndexItem (List ℕ))) (e : Refusal) → operand.index ≡ Some index → taken s a index ≡ Err e → operand_part s operand ≡ Err e
  unfolding operand_part
  part-bad index e some bad = rw (found, some, bad) refl

  pub part-done : (index : List (IndexItem (List ℕ))) (view : View) → operand.index ≡ Some index → taken s a index ≡ Ok view → operand_part s operand ≡ Ok (viewed a view)
  unfolding operand_part
  part-done index view some good = rw (found, some, good) refl

-- ---- two operands

pub combined-part : (s : State) (op : Operation) (left : Operand) (right : Argument) (part : Array) → operand_part s left ≡ Ok part → operation_contents s op left right ≡ operation_with op (operand_values s part) (argument_values s op (descr_of s part) right)
unfolding operation_contents
combined-part s op left right part good = rw good refl

pub combined-bad : (s : State) (op : Operation) (left right : Operand) (part : Array) (e : Refusal) → operand_part s left ≡ Ok part → operand_part s right ≡ Err e → operation_contents s op left (argument.Operand right) ≡ Err e
combined-bad s op left right part e good bad = combined-part s op left (argument.Operand right) part good ∙ rw bad refl

-- ---- one operand

transformed-other : (s : State) (op : UnOp) (operand : Operand) (part : Array) (e : Refusal) → operand_part s operand ≡ Ok part → unary_result op (descr_of s part) part.shape ≡ Err e → transformed s op operand ≡ Err e
unfolding transformed
transformed-other s op operand part e good bad = rw (good, bad) refl

transformed-done : (s : State) (op : UnOp) (operand : Operand) (part : Array) (d : Descr) (shape : List ℕ) → operand_part s operand ≡ Ok part → unary_result op (descr_of s part) part.shape ≡ Ok (d, shape) → transformed s op operand ≡ Ok (new_contents d shape (map (unary_item op d) (read s part)))
unfolding transformed
transformed-done s op operand part d shape good there = rw (good, there) refl

pub transformed-gives : (s : State) (op : UnOp) (operand : Operand) (part : Array) (x : Items) (result : Result Owned Refusal) → operand_part s operand ≡ Ok part → StandsFor s part x → Gives (λ o. (o.descr, o.layout.shape)) result (unary_result op x.descr.now x.layout.now.shape) →
    IfOk result IsInCOrder → IfOk result (λ o. map (item_from o.descr o.block) (offsets o.layout) ≡ map (λ offset. unary_item op o.descr (item_from x.descr.now x.block.now offset)) (offsets x.layout.now)) → Gives held result (transformed s op operand)
transformed-gives s op operand part x (Ok o) good stands gives order items =
    transformed-done s op operand part o.descr o.layout.shape good ((λ i. unary_result op (stands.descr i) (stands.shape i)) ∙ gives)
    ∙ ap Ok (made-held C o.descr o.layout.shape (map (unary_item op o.descr) (read s part)) o refl refl order
    (items ∙ sym (map-map (unary_item op o.descr) (item_from x.descr.now x.block.now) (offsets x.layout.now)) ∙ ap (map (unary_item op o.descr)) (sym stands.items)))
transformed-gives s op operand part x (Err e) good stands (inl lacks) order items = inl lacks
transformed-gives s op operand part x (Err e) good stands (inr bad) order items = inr (transformed-other s op operand part e good ((λ i. unary_result op (stands.descr i) (stands.shape i)) ∙ bad))

-- An argument is what follows the blanks.
use Rattle.std.proofs.Common.{◌≡◌, ◌⊎◌, ℕ, Bool, false, List, Option, Some, None, is_some, not, ◌&&◌, IsTrue, IfSome, refl, sym, ◌∙◌, inl, inr, rules}
use Rattle.script_lang.proofs.Words.{err_from_is_err_and, ◌>>=◌, one_part, Refusal, Syntax, OutOfMemory, OperandArgument, LiteralArgument, unspaced, bytes_mark_at, name_at, literal_at, optional_index_at, operand_named, operand_at, argument_at, literal_room, operand_room, argument_room}
use Rattle.script_lang.proofs.Rooms.{Has, after_known}
use Rattle.script_lang.proofs.Spelling.{name_unspaced, literal_unspaced}
use Rattle.script_lang.proofs.grammar.indexes.argument.Goals as goal
use Rattle.script_lang.proofs.grammar.indexes.argument.Goals.{else-is_none-via-else-is_none, else-is_none-via-then-is_none+in-None-1}

operand_is : (bytes : List ℕ) (name : List ℕ × List ℕ) → bytes_mark_at (unspaced bytes) ≡ None → name_at (unspaced bytes) ≡ Some name → argument_at bytes ≡ (one_part (operand_named name.0) optional_index_at name.1 >>= λ a. Some (OperandArgument a.0, a.1))
unfolding argument_at operand_at
operand_is bytes name unmarked named = rw (unmarked, sym (name_unspaced bytes) ∙ named) refl

literal_is : (bytes : List ℕ) → (not (is_some (bytes_mark_at (unspaced bytes))) && is_some (name_at (unspaced bytes))) ≡ false → argument_at bytes ≡ (literal_at (unspaced bytes) >>= λ a. Some (LiteralArgument a.0, a.1))
unfolding argument_at
literal_is bytes other = rw (rw (name_unspaced bytes) at other, literal_unspaced bytes) refl

-- If a part is refused, so is the whole, with the same refusal.
part_failed : {A B : Type 0} (refusal : Refusal) (there : Option (A × List ℕ)) (whole : Option (B × List ℕ)) (make : A → B) (room : A → Bool) (wide : B → Bool) → whole ≡ (there >>= λ a. Some (make a.0, a.1)) → ((refusal ≡ Syntax) × (there ≡ None)) ⊎ ((refusal ≡ OutOfMemory) × IfSome there (Has room)) → ((x : A) → IsTrue (room x) → IsTrue (wide (make x))) → ((refusal ≡ Syntax) × (whole ≡ None)) ⊎ ((refusal ≡ OutOfMemory) × IfSome whole (Has wide))
part_failed refusal there whole make room wide is failed each =
    rw is (elim failed [ inl misspelt ↦ inl (misspelt.0, rw misspelt.1 refl) | inr full ↦ inr (full.0, after_known (Has room) (Has wide) there _ full.1 (λ found more. each found.0 more)) ])

pub returns-in_err-operand : goal.returns-in_err-operand
returns-in_err-operand c =
    let error = err_from_is_err_and c.from_residual.result c.from_residual.ensures.1 in
    let unmarked : bytes_mark_at c.unspaced-bytes.result.now ≡ None = search rules in
    let is = operand_is c.args.bytes.now (c.in-Some.name.now, c.in-Some.rest.now) (rw c.unspaced-bytes.ensures at unmarked) (rw c.unspaced-bytes.ensures at c.in-Some.ensures.found) in
    rw (error.1, error.2) (part_failed _ _ _ OperandArgument operand_room argument_room is c.in_err-operand.ensures (λ x more. more))

pub returns : goal.returns
returns c =
    let unmarked : bytes_mark_at c.unspaced-bytes.result.now ≡ None = search rules in
    let is = operand_is c.args.bytes.now (c.in-Some.name.now, c.in-Some.rest.now) (rw c.unspaced-bytes.ensures at unmarked) (rw c.unspaced-bytes.ensures at c.in-Some.ensures.found) in
    is ∙ rw c.in_ok-operand.ensures refl

pub returns-in_err-literal : goal.returns-in_err-literal
returns-in_err-literal c =
    let error = err_from_is_err_and c.from_residual-in_err-literal.result c.from_residual-in_err-literal.ensures.1 in
    let other : (not (is_some (bytes_mark_at c.unspaced-bytes.result.now)) && is_some (name_at c.unspaced-bytes.result.now)) ≡ false = elim c.else-is_none.branch [ else-is_none-via-else-is_none w ↦ search rules | else-is_none-via-then-is_none+in-None-1 w ↦ search rules ] in
    rw (error.1, error.2) (part_failed _ _ _ LiteralArgument literal_room argument_room (literal_is c.args.bytes.now (rw c.unspaced-bytes.ensures at other)) (rw c.unspaced-bytes.ensures at c.in_err-literal.ensures) (λ x more. more))

pub returns-2 : goal.returns-2
returns-2 c =
    let other : (not (is_some (bytes_mark_at c.unspaced-bytes.result.now)) && is_some (name_at c.unspaced-bytes.result.now)) ≡ false = elim c.else-is_none.branch [ else-is_none-via-else-is_none w ↦ search rules | else-is_none-via-then-is_none+in-None-1 w ↦ search rules ] in
    literal_is c.args.bytes.now (rw c.unspaced-bytes.ensures at other) ∙ rw (rw c.unspaced-bytes.ensures at c.in_ok-literal.ensures) refl

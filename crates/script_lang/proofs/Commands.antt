-- Which commands take memory of their own.
use Rattle.std.proofs.Common.{◌≡◌, ℕ, ℤ, false, List, Option, Some, None, refl, IsTrue, IfSome}
use Rattle.script_lang.proofs.Words.{IndexItem, Operand, Operation, UnOp, MakeVerb, ViewVerb, ComputeVerb, Cast, Combine, Transform, Compute, Field, Reshaped, Broadcast, Command, operation_of, one_part, two_parts, only, behind, is_at_end, meaning_at, names_unless_verb, name_at, quoted_at, symbol_at, word_at, descriptor_at, shape_at, signed_shape_at, bracket_at, optional_index_at, operand_at, argument_at, new_items_at, make_at, viewing_of, plain_view_at, transpose_at, viewing_at, view_at, computation_at, value_at, bind_at, set_at, update_at, form_at, command_at, optional_index_room, index_room, operand_room, argument_room, viewing_room, computation_room, value_room, parts_take_memory}
use Rattle.script_lang.proofs.Rooms.{after_step, after_known, chosen, tested, mapped, or_left, or_right, Has}

pub make_room : (making : MakeVerb) (bytes : List ℕ) → IfSome (make_at making bytes) (Has value_room)
unfolding make_at
make_room making bytes = after_step (Has value_room) (descriptor_at bytes) _ (λ descr. after_step (Has value_room) (new_items_at making descr.1) _ (λ items. refl))

seen_room : (index : Option (List (IndexItem (List ℕ)))) → IsTrue (optional_index_room index) → IsTrue (viewing_room (viewing_of index))
seen_room None room = room
seen_room (Some index) room = room

pub plain_view_room : (word bytes : List ℕ) → IfSome (optional_index_at bytes) (Has optional_index_room) → IfSome (plain_view_at word bytes) (Has value_room)
unfolding plain_view_at
plain_view_room word bytes known =
    chosen (Has value_room) (names_unless_verb word) _ _ (after_known (Has optional_index_room) (Has value_room) (optional_index_at bytes) _ known (λ index more. seen_room index.0 more)) tt

pub field_room : (bytes : List ℕ) → IfSome (one_part Field quoted_at bytes) (Has viewing_room)
field_room bytes = after_step (Has viewing_room) (quoted_at bytes) _ (λ field. refl)

pub transpose_room : (bytes : List ℕ) → is_at_end bytes ≡ false → IfSome (transpose_at bytes) (Has viewing_room)
unfolding transpose_at
transpose_room bytes more = rw more (after_step (Has viewing_room) (signed_shape_at bytes) _ (λ axes. refl))

pub reshape_room : (bytes : List ℕ) → IfSome (one_part Reshaped signed_shape_at bytes) (Has viewing_room)
reshape_room bytes = after_step (Has viewing_room) (signed_shape_at bytes) _ (λ shape. refl)

pub broadcast_room : (bytes : List ℕ) → IfSome (one_part Broadcast shape_at bytes) (Has viewing_room)
broadcast_room bytes = after_step (Has viewing_room) (shape_at bytes) _ (λ shape. refl)

pub view_room : (viewing : ViewVerb) (bytes : List ℕ) (source : List ℕ × List ℕ) → name_at bytes ≡ Some source → IfSome (viewing_at viewing source.1) (Has viewing_room) → IfSome (view_at viewing bytes) (Has value_room)
unfolding view_at
view_room viewing bytes source named known = rw named (after_known (Has viewing_room) (Has value_room) (viewing_at viewing source.1) _ known (λ how more. more))

pub cast_room : (bytes : List ℕ) → IfSome (one_part Compute (two_parts Cast name_at descriptor_at) bytes) (Has value_room)
cast_room bytes =
    after_known (Has computation_room) (Has value_room) (two_parts Cast name_at descriptor_at bytes) _
    (after_step (Has computation_room) (name_at bytes) _ (λ source. after_step (Has computation_room) (descriptor_at source.1) _ (λ descr. refl)))
    (λ computation more. more)

pub left_room : (operation : Operation) (bytes : List ℕ) → IfSome (operand_at bytes) (Has operand_room) → IfSome (one_part Compute (two_parts (Combine operation) operand_at argument_at) bytes) (Has value_room)
left_room operation bytes known =
    after_known (Has computation_room) (Has value_room) (two_parts (Combine operation) operand_at argument_at bytes) _
    (after_known (Has operand_room) (Has computation_room) (operand_at bytes) _ known
    (λ left more. after_step (Has computation_room) (argument_at left.1) _ (λ right. or_left (operand_room left.0) (argument_room right.0) more)))
    (λ computation more. more)

pub right_room : (operation : Operation) (bytes : List ℕ) (left : Operand × List ℕ) → operand_at bytes ≡ Some left → IfSome (argument_at left.1) (Has argument_room) → IfSome (one_part Compute (two_parts (Combine operation) operand_at argument_at) bytes) (Has value_room)
right_room operation bytes left found known =
    rw found (after_known (Has computation_room) (Has value_room) (one_part (Combine operation left.0) argument_at left.1) _
    (after_known (Has argument_room) (Has computation_room) (argument_at left.1) _ known (λ right more. or_right (operand_room left.0) (argument_room right.0) more))
    (λ computation more. more))

pub transform_room : (operation : UnOp) (bytes : List ℕ) → IfSome (operand_at bytes) (Has operand_room) → IfSome (one_part Compute (one_part (Transform operation) operand_at) bytes) (Has value_room)
transform_room operation bytes known =
    after_known (Has computation_room) (Has value_room) (one_part (Transform operation) operand_at bytes) _
    (after_known (Has operand_room) (Has computation_room) (operand_at bytes) _ known (λ operand more. more))
    (λ computation more. more)

pub bind_room : (word bytes rest : List ℕ) → symbol_at 61 bytes ≡ Some rest → IfSome (value_at rest) (Has value_room) → IfSome (bind_at word bytes) (Has parts_take_memory)
unfolding bind_at
bind_room word bytes rest equals known =
    chosen (Has parts_take_memory) (names_unless_verb word) _ _ (rw equals (after_known (Has value_room) (Has parts_take_memory) (value_at rest) _ known (λ value more. more))) tt

pub set_index_room : (bytes : List ℕ) (name : List ℕ × List ℕ) → name_at bytes ≡ Some name → IfSome (bracket_at name.1) (Has index_room) → IfSome (set_at bytes) (Has parts_take_memory)
unfolding set_at
set_index_room bytes name named known = rw named (after_known (Has index_room) (Has parts_take_memory) (bracket_at name.1) _ known (λ index more. after_step (Has parts_take_memory) (behind 61 argument_at index.1) _ (λ value. or_left (index_room index.0) (argument_room value.0) more)))

pub set_value_room : (bytes : List ℕ) (name : List ℕ × List ℕ) (index : List (IndexItem (List ℕ)) × List ℕ) (rest : List ℕ) → name_at bytes ≡ Some name → bracket_at name.1 ≡ Some index → symbol_at 61 index.1 ≡ Some rest → IfSome (argument_at rest) (Has argument_room) → IfSome (set_at bytes) (Has parts_take_memory)
unfolding set_at
set_value_room bytes name index rest named indexed equals known = rw (named, indexed, equals) (after_known (Has argument_room) (Has parts_take_memory) (argument_at rest) _ known (λ value more. or_right (index_room index.0) (argument_room value.0) more))

pub update_index_room : (bytes : List ℕ) (name : List ℕ × List ℕ) → name_at bytes ≡ Some name → IfSome (bracket_at name.1) (Has index_room) → IfSome (update_at bytes) (Has parts_take_memory)
unfolding update_at
update_index_room bytes name named known = rw named (after_known (Has index_room) (Has parts_take_memory) (bracket_at name.1) _ known (λ index more. after_step (Has parts_take_memory) (meaning_at operation_of index.1) _ (λ operation. after_step (Has parts_take_memory) (argument_at operation.1) _ (λ value. or_left (index_room index.0) (argument_room value.0) more))))

pub update_value_room : (bytes : List ℕ) (name : List ℕ × List ℕ) (index : List (IndexItem (List ℕ)) × List ℕ) (word : List ℕ × List ℕ) (operation : Operation) → name_at bytes ≡ Some name → bracket_at name.1 ≡ Some index → word_at index.1 ≡ Some word → operation_of word.0 ≡ Some operation → IfSome (argument_at word.1) (Has argument_room) → IfSome (update_at bytes) (Has parts_take_memory)
unfolding update_at
update_value_room bytes name index word operation named indexed worded named_operation known = rw (named, indexed, worded, named_operation) (after_known (Has argument_room) (Has parts_take_memory) (argument_at word.1) _ known (λ value more. or_right (index_room index.0) (argument_room value.0) more))

pub whole_line_room : (line : List ℕ) → IfSome (form_at line) (Has parts_take_memory) → IfSome (command_at line) (λ c. IsTrue (parts_take_memory c))
unfolding command_at
whole_line_room line known =
    mapped (λ (c : Command). IsTrue (parts_take_memory c)) (λ (command : Command × List ℕ). command.0) (only (λ command. is_at_end command.1) form_at line) (tested (Has parts_take_memory) (λ command. is_at_end command.1) form_at line known)

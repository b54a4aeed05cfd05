-- What takes memory of its own.
use Rattle.std.proofs.Common.{◌≡◌, ℕ, Bool, true, false, List, length, ◌==◌, not, Option, Some, None, refl, IsTrue, IfSome, nat_le, count_by, ◌||◌, if◌then◌else◌}
use Rattle.script_lang.proofs.Words.{option_and_then, option_map, false≢true, is_ellipsis, Literal, Scalar, Bytes, ReaderOf, one_part, only, byte_at, by_rule, none_or_more, one_or_more, byte_text_at, scalar_at, record_at, index_item_at, index_at, optional_index_at, operand_named, scalar_room, literal_room, index_room, optional_index_room, operand_room}

-- If what follows a step has P for every result of the step, the whole has P.
pub after_step : {A B : Type 0} (P : B → Type 0) (step : Option A) (next : A → Option B) → ((x : A) → IfSome (next x) P) → IfSome (option_and_then next step) P
after_step P None next each = tt
after_step P (Some x) next each = each x

-- If the result of a step has Q, and what follows has P for every result with Q, the whole has P.
pub after_known : {A B : Type 0} (Q : A → Type 0) (P : B → Type 0) (step : Option A) (next : A → Option B) → IfSome step Q → ((x : A) → Q x → IfSome (next x) P) → IfSome (option_and_then next step) P
after_known Q P None next known each = tt
after_known Q P (Some x) next known each = each x known

pub mapped : {A B : Type 0} (P : B → Type 0) (f : A → B) (o : Option A) → IfSome o (λ x. P (f x)) → IfSome (option_map f o) P
mapped P f None known = tt
mapped P f (Some x) known = known

pub chosen : {A : Type 0} (P : A → Type 0) (t : Bool) (one other : Option A) → IfSome one P → IfSome other P → IfSome (if t then one else other) P
chosen P true one other first second = first
chosen P false one other first second = second

-- If what is read has P, it still has it where it also passes a test.
pub tested : {A : Type 0} (P : A × List ℕ → Type 0) (test : A × List ℕ → Bool) (read : ReaderOf A) (bytes : List ℕ) → IfSome (read bytes) P → IfSome (only test read bytes) P
tested P test read bytes known = after_known P P (read bytes) _ known (λ found has. chosen P (test found) _ _ has tt)

pub or_left : (a b : Bool) → IsTrue a → IsTrue (a || b)
or_left true b is = refl
or_left false b is = absurd (false≢true is)

pub or_right : (a b : Bool) → IsTrue b → IsTrue (a || b)
or_right true b is = refl
or_right false b is = is

-- what is read takes memory of its own
abbrev pub Has : {A : Type 0} → (A → Bool) → A × List ℕ → Type 0
Has room = λ r. IsTrue (room r.0)

-- A value of one part takes memory if its part does.
pub part_room : {A Z : Type 0} (room : A → Bool) (whole : Z → Bool) (make : A → Z) (read : ReaderOf A) (bytes : List ℕ) → IfSome (read bytes) (Has room) → ((x : A) → IsTrue (room x) → IsTrue (whole (make x))) → IfSome (one_part make read bytes) (Has whole)
part_room room whole make read bytes known each = after_known (Has room) (Has whole) (read bytes) _ known (λ found more. each found.0 more)

pub bytes_room : (bytes : List ℕ) → IfSome (one_part Bytes byte_text_at bytes) (Has scalar_room)
bytes_room bytes = after_step (Has scalar_room) (byte_text_at bytes) _ (λ text. refl)

pub record_room : (value_at : ReaderOf Literal) (bytes : List ℕ) → IfSome (record_at value_at bytes) (Has literal_room)
unfolding record_at
record_room value_at bytes =
    after_step {A = List Literal × List ℕ} (Has literal_room) (only (λ values. not (length values.0 == 0)) (by_rule (none_or_more value_at 41)) bytes) _ (λ values. refl)

pub scalar_literal_room : (bytes : List ℕ) → IfSome (scalar_at bytes) (Has scalar_room) → IfSome (one_part Scalar scalar_at bytes) (Has literal_room)
scalar_literal_room bytes known = part_room scalar_room literal_room Scalar scalar_at bytes known (λ scalar more. more)

pub index_list_room : (bytes : List ℕ) → IfSome (by_rule (one_or_more index_item_at 93) bytes) (Has index_room) → IfSome (index_at bytes) (Has index_room)
unfolding index_at
index_list_room bytes known = tested (Has index_room) (λ items. nat_le (count_by is_ellipsis items.0) 1) (by_rule (one_or_more index_item_at 93)) bytes known

pub optional_index_list_room : (bytes inside : List ℕ) → byte_at 91 bytes ≡ Some inside → IfSome (index_at inside) (Has index_room) → IfSome (optional_index_at bytes) (Has optional_index_room)
unfolding optional_index_at
optional_index_list_room bytes inside found known = rw found (part_room index_room optional_index_room Some index_at inside known (λ index more. more))

pub indexed_room : (name bytes : List ℕ) → IfSome (optional_index_at bytes) (Has optional_index_room) → IfSome (one_part (operand_named name) optional_index_at bytes) (Has operand_room)
indexed_room name bytes known = part_room optional_index_room operand_room (operand_named name) optional_index_at bytes known (λ index more. more)

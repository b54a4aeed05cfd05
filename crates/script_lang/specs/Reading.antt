-- How the result of the parser relates to what a line says.
use Rattle.std.specs.Prelude.{◌≡◌, ◌⊎◌, Bool, true, false, IsTrue, IfSome, ℕ, List, [], Option, Some, None, is_some, unwrap_or, Result, Ok, Err, length, nat_lt, ◌||◌}
use Rattle.script_lang.specs.Words.{Refusal, ByteNotAllowed, Syntax, OutOfMemory, IndexItem, Bor}
use Rattle.script_lang.specs.declared.literal.ScalarLiteral.TheVariants.{Bytes}
use Rattle.script_lang.specs.declared.literal.Literal.{Literal}
use Rattle.script_lang.specs.declared.literal.Literal.TheVariants.{Scalar, Record}
use Rattle.script_lang.specs.declared.command.Operand.{Operand}
use Rattle.script_lang.specs.declared.command.Argument.{Argument}
use Rattle.script_lang.specs.declared.command.Argument.TheVariants as argument
use Rattle.script_lang.specs.declared.command.Command.{Command}
use Rattle.script_lang.specs.declared.command.Viewing.{Viewing}
use Rattle.script_lang.specs.declared.command.Viewing.TheVariants.{Whole, Indexed, Transposed}
use Rattle.script_lang.specs.declared.command.Computation.{Computation}
use Rattle.script_lang.specs.declared.command.Computation.TheVariants.{Cast, Combine, Transform}
use Rattle.script_lang.specs.declared.command.Value.{Value}
use Rattle.script_lang.specs.declared.command.Value.TheVariants.{Make, View, Compute, Load}
use Rattle.script_lang.specs.declared.command.Command.TheVariants.{Bind, Set, Update}
use Rattle.script_lang.specs.Lines.{Line, silent, bad_byte, misspelt, asks}

-- whether a part of a command takes memory of its own: bytes and record literals do, and an index of more than one item
abbrev pub literal_room : Literal → Bool
literal_room (Scalar (Bytes text)) = true
literal_room (Record inner) = true
literal_room _ = false

abbrev pub index_room : List (IndexItem (List ℕ)) → Bool
index_room index = nat_lt 1 (length index)

abbrev pub operand_room : Operand → Bool
operand_room operand = index_room (unwrap_or operand.index [])

abbrev pub argument_room : Argument → Bool
argument_room (argument.Operand operand) = operand_room operand
argument_room (argument.Literal literal) = literal_room literal

-- a view with axes, a shape, the name of a field, or an index of more than one item
abbrev pub viewing_room : Viewing → Bool
viewing_room Whole = false
viewing_room (Indexed index) = index_room index
viewing_room (Transposed axes) = is_some axes
viewing_room _ = true

abbrev pub computation_room : Computation → Bool
computation_room (Cast source descr) = true
computation_room (Combine operation left right) = operand_room left || argument_room right
computation_room (Transform operation operand) = operand_room operand
computation_room _ = false

abbrev pub value_room : Value → Bool
value_room (Make descr items) = true
value_room (View source how) = viewing_room how
value_room (Compute computation) = computation_room computation
value_room (Load file) = false

-- whether a command takes memory of its own: it has a part that does, or a descriptor, a shape, axes, or the name of a
-- field
abbrev pub parts_take_memory : Command → Bool
parts_take_memory (Bind name value) = value_room value
parts_take_memory (Set name index value) = index_room index || argument_room value
parts_take_memory (Update name index operation value) = index_room index || argument_room value
parts_take_memory _ = false

-- Memory can run out only if the command of the line takes memory, or if the line is misspelt.
abbrev pub MayLackRoom : Line → Type 0
MayLackRoom silent = ⊥
MayLackRoom bad_byte = ⊥
MayLackRoom misspelt = Unit {0}
MayLackRoom (asks command) = IsTrue (parts_take_memory command)

-- The result of the parser is right: a command is what the line asks for, no command means that the line is silent, and
-- a refusal says what is wrong with the line, or that memory ran out.
abbrev pub Says : Result (Option Command) Refusal → Line → Type 0
Says (Ok None) line = line ≡ silent
Says (Ok (Some command)) line = line ≡ asks command
Says (Err refusal) line =
    ((refusal ≡ Syntax) × (line ≡ misspelt)) ⊎ (((refusal ≡ ByteNotAllowed) × (line ≡ bad_byte)) ⊎ ((refusal ≡ OutOfMemory) × MayLackRoom line))

-- A scanner returns the expected result `there`: nothing, or a value that `view` turns into the expected one.
abbrev pub Scans : {X Y : Type 0} → (X → Y) → Option X → Option Y → Type 0
Scans view None there = there ≡ None
Scans view (Some x) there = there ≡ Some (view x)

-- A reader that takes memory returns the expected result `there`: a value that `view` turns into the expected one, or
-- the refusal `Syntax` if nothing is there. Instead, it may run out of memory if nothing is there, or if what is there
-- takes memory of its own.
abbrev pub Reads : {X Y : Type 0} → (X → Y) → (Y → Bool) → Result X Refusal → Option Y → Type 0
Reads view takes_memory (Ok x) there = there ≡ Some (view x)
Reads view takes_memory (Err refusal) there =
    ((refusal ≡ Syntax) × (there ≡ None)) ⊎ ((refusal ≡ OutOfMemory) × IfSome there (λ y. IsTrue (takes_memory y)))

-- such a reader of bytes, which also returns the bytes after what it read
abbrev pub Takes : {X : Type 0} → (X → Bool) → Result (X × Bor (List ℕ)) Refusal → Option (X × List ℕ) → Type 0
Takes takes_memory result there = Reads (λ r. (r.0, r.1.now)) (λ r. takes_memory r.0) result there

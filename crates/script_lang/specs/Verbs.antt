-- The words of the language, and what each of them means.
use Rattle.std.specs.Prelude.{ℕ, Bool, List, [], ◌∷◌, codes, Option, Some, None, ◌||◌, if◌then◌else◌}
use Rattle.script_lang.specs.Words.{option_and_then, bytes_eq, MemoryOrder, C, Fortran, Add, Subtract, Multiply, FloorDivide, Modulo, And, Or, Xor, ShiftLeft, ShiftRight, Divide, Equal, NotEqual, Less, LessOrEqual, Greater, GreaterOrEqual, UnOp, Negate, Invert, Red, Sum, Product, Minimum, Maximum, Any, ArgMin, ArgMax}
use Rattle.script_lang.specs.declared.command.Operation.{Operation}
use Rattle.script_lang.specs.declared.command.Operation.TheVariants.{Binary, Compare}
use Rattle.elem_descr.specs.declared.operators.Red.TheVariants.{All}
use Rattle.script_lang.specs.declared.verb.Verb.{Verb}
use Rattle.script_lang.specs.declared.verb.Verb.TheVariants as verb
use Rattle.script_lang.specs.declared.verb.MakeVerb.TheVariants as make
use Rattle.script_lang.specs.declared.verb.ViewVerb.TheVariants as view
use Rattle.script_lang.specs.declared.verb.ComputeVerb.TheVariants as compute
use Rattle.script_lang.specs.declared.verb.AskVerb.TheVariants as ask

abbrev pub combining_verb : Operation → Verb
combining_verb operation = verb.Compute (compute.Combine operation)

abbrev pub transforming_verb : UnOp → Verb
transforming_verb operation = verb.Compute (compute.Transform operation)

abbrev pub reducing_verb : Red → Verb
reducing_verb reduction = verb.Compute (compute.Reduce reduction)

-- each word that begins a command, or a value after `X =`
abbrev pub verbs : List (List ℕ × Verb)
verbs =
    (codes "zeros", verb.Make make.Zeros)
    ∷ (codes "full", verb.Make make.Full)
    ∷ (codes "arange", verb.Make make.Arange)
    ∷ (codes "array", verb.Make make.Array)
    ∷ (codes "field", verb.View view.Field)
    ∷ (codes "transpose", verb.View view.Transpose)
    ∷ (codes "reshape", verb.View view.Reshape)
    ∷ (codes "broadcast", verb.View view.Broadcast)
    ∷ (codes "copy", verb.Compute compute.Duplicate)
    ∷ (codes "cast", verb.Compute compute.Cast)
    ∷ (codes "load", verb.Load)
    ∷ (codes "set", verb.Set)
    ∷ (codes "upd", verb.Update)
    ∷ (codes "del", verb.Delete)
    ∷ (codes "undo", verb.Undo)
    ∷ (codes "save", verb.Save)
    ∷ (codes "print", verb.Ask ask.Print)
    ∷ (codes "info", verb.Ask ask.Info)
    ∷ (codes "format", verb.Ask ask.Format)
    ∷ (codes "names", verb.Ask ask.Names)
    ∷ (codes "shares", verb.Ask ask.Shares)
    ∷ (codes "add", combining_verb (Binary Add))
    ∷ (codes "sub", combining_verb (Binary Subtract))
    ∷ (codes "mul", combining_verb (Binary Multiply))
    ∷ (codes "fdiv", combining_verb (Binary FloorDivide))
    ∷ (codes "mod", combining_verb (Binary Modulo))
    ∷ (codes "and", combining_verb (Binary And))
    ∷ (codes "or", combining_verb (Binary Or))
    ∷ (codes "xor", combining_verb (Binary Xor))
    ∷ (codes "shl", combining_verb (Binary ShiftLeft))
    ∷ (codes "shr", combining_verb (Binary ShiftRight))
    ∷ (codes "div", combining_verb (Binary Divide))
    ∷ (codes "eq", combining_verb (Compare Equal))
    ∷ (codes "ne", combining_verb (Compare NotEqual))
    ∷ (codes "lt", combining_verb (Compare Less))
    ∷ (codes "le", combining_verb (Compare LessOrEqual))
    ∷ (codes "gt", combining_verb (Compare Greater))
    ∷ (codes "ge", combining_verb (Compare GreaterOrEqual))
    ∷ (codes "neg", transforming_verb Negate)
    ∷ (codes "not", transforming_verb Invert)
    ∷ (codes "sum", reducing_verb Sum)
    ∷ (codes "prod", reducing_verb Product)
    ∷ (codes "min", reducing_verb Minimum)
    ∷ (codes "max", reducing_verb Maximum)
    ∷ (codes "any", reducing_verb Any)
    ∷ (codes "all", reducing_verb All)
    ∷ (codes "argmin", reducing_verb ArgMin)
    ∷ (codes "argmax", reducing_verb ArgMax)
    ∷ []

-- the verb of a word in a table, if it is there
unfoldable pub beside : List (List ℕ × Verb) → List ℕ → Option Verb
beside [] word = None
beside (row ∷ rows) word = if bytes_eq row.0 word then Some row.1 else beside rows word

unfoldable pub verb_of : List ℕ → Option Verb
verb_of word = beside verbs word

-- the words that literals and index lists use
unfoldable pub is_constant : List ℕ → Bool
is_constant word = bytes_eq word (codes "True") || bytes_eq word (codes "False") || bytes_eq word (codes "None")

abbrev pub as_operation : Verb → Option Operation
as_operation (verb.Compute (compute.Combine operation)) = Some operation
as_operation _ = None

-- OP: an operation with two operands
unfoldable pub operation_of : List ℕ → Option Operation
operation_of word = option_and_then as_operation (verb_of word)

-- the memory order of a copy
unfoldable pub order_of : List ℕ → Option MemoryOrder
order_of word =
    if bytes_eq word (codes "C") then Some C
    else if bytes_eq word (codes "F") then Some Fortran
    else None

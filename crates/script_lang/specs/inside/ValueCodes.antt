-- The code of the values of a record literal, which proofs use to tell them apart.
use Rattle.std.specs.Prelude.{◌≡◌, ◌⊎◌, Bool, true, false, List, [], ◌∷◌}
use Rattle.std.proofs.Common.{refl, inl, inr, ap}
use Rattle.script_lang.specs.Words.{Coded, code_by, coded_list, coded⊎, coded_bool}
use Rattle.script_lang.specs.declared.literal.ScalarLiteral.{ScalarLiteral}
use Rattle.script_lang.specs.contracts.literal.ScalarLiteral as scalar
use Rattle.script_lang.specs.RecordValues.{Values, no_values, scalar_value, record_value}

-- one part of the code: a scalar, or the beginning (true) or the end (false) of a record
abbrev pub Mark : Type 0
Mark = ScalarLiteral ⊎ Bool

-- the marks of the values, followed by the marks `later`
abbrev pub marks_before : Values → List Mark → List Mark
marks_before no_values later = later
marks_before (scalar_value scalar rest) later = inl scalar ∷ marks_before rest later
marks_before (record_value inner rest) later = inr true ∷ marks_before inner (inr false ∷ marks_before rest later)

abbrev pub first : List Values → Values
first [] = no_values
first (top ∷ stack) = top

abbrev pub others : List Values → List Values
others [] = []
others (top ∷ stack) = stack

abbrev pub add_mark : Mark → List Values → List Values
add_mark (inl scalar) stack = scalar_value scalar (first stack) ∷ others stack
add_mark (inr true) stack = record_value (first stack) (first (others stack)) ∷ others (others stack)
add_mark (inr false) stack = no_values ∷ stack

-- the values that the marks mean, read from the last mark
abbrev pub stack_of : List Mark → List Values
stack_of [] = no_values ∷ []
stack_of (mark ∷ marks) = add_mark mark (stack_of marks)

stack_of-marks_before : (values : Values) (later : List Mark) (stack : List Values) → stack_of later ≡ no_values ∷ stack → stack_of (marks_before values later) ≡ values ∷ stack
stack_of-marks_before no_values later stack is = is
stack_of-marks_before (scalar_value scalar rest) later stack is = ap (add_mark (inl scalar)) (stack_of-marks_before rest later stack is)
stack_of-marks_before (record_value inner rest) later stack is =
    let behind = stack_of-marks_before rest later stack is in
    let within = stack_of-marks_before inner (inr false ∷ marks_before rest later) (rest ∷ stack) (ap (add_mark (inr false)) behind) in
    ap (add_mark (inr true)) within

abbrev pub marks_of : Values → List Mark
marks_of values = marks_before values []

abbrev pub values_of : List Mark → Values
values_of marks = first (stack_of marks)

pub values_of-marks_of : (values : Values) → values_of (marks_of values) ≡ values
values_of-marks_of values = ap first (stack_of-marks_before values [] [] refl)

abbrev pub values_code : Coded Values
values_code = code_by (List Mark) (coded_list (coded⊎ scalar.the_row.coded coded_bool)) marks_of values_of values_of-marks_of

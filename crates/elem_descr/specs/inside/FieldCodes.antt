-- Codes of fields, which proofs use to tell fields apart.
use Rattle.std.specs.Prelude.{◌≡◌, ◌⊎◌, ℕ, List, [], ◌∷◌}
use Rattle.std.proofs.Common.{refl, inl, inr, ap}
use Rattle.elem_descr.specs.Words.{Coded, code_by, coded⊎, coded×, coded_ℕ, coded_list, coded_unit}
use Rattle.elem_descr.specs.declared.scalar.Scalar.{Scalar}
use Rattle.elem_descr.specs.Fields.{Fields, no_more, scalar_field, record_field, Structure}

-- one part of the code of fields: a scalar, the beginning of a record, or the end of a record
abbrev pub FieldStep : Type 0
FieldStep = (List ℕ × (ℕ × Scalar)) ⊎ ((List ℕ × (ℕ × ℕ)) ⊎ Unit {0})

abbrev pub parts_of : Fields → List FieldStep → List FieldStep
parts_of no_more later = later
parts_of (scalar_field name at scalar rest) later = inl (name, (at, scalar)) ∷ parts_of rest later
parts_of (record_field name at size inner rest) later = inr (inl (name, (at, size))) ∷ parts_of inner (inr (inr tt) ∷ parts_of rest later)

abbrev pub first : List Fields → Fields
first [] = no_more
first (fields ∷ stack) = fields

abbrev pub others : List Fields → List Fields
others [] = []
others (fields ∷ stack) = stack

abbrev pub add_part : FieldStep → List Fields → List Fields
add_part (inl scalar) stack = scalar_field scalar.0 scalar.1.0 scalar.1.1 (first stack) ∷ others stack
add_part (inr (inl opened)) stack = record_field opened.0 opened.1.0 opened.1.1 (first stack) (first (others stack)) ∷ others (others stack)
add_part (inr (inr tt)) stack = no_more ∷ stack

-- the fields that the parts mean, read from the last part
abbrev pub stack_of : List FieldStep → List Fields
stack_of [] = no_more ∷ []
stack_of (part ∷ parts) = add_part part (stack_of parts)

stack_of-parts : (fields : Fields) (later : List FieldStep) (stack : List Fields) → stack_of later ≡ no_more ∷ stack → stack_of (parts_of fields later) ≡ fields ∷ stack
stack_of-parts no_more later stack is = is
stack_of-parts (scalar_field name at scalar rest) later stack is = ap (add_part (inl (name, (at, scalar)))) (stack_of-parts rest later stack is)
stack_of-parts (record_field name at size inner rest) later stack is =
    let behind = stack_of-parts rest later stack is in
    let within = stack_of-parts inner (inr (inr tt) ∷ parts_of rest later) (rest ∷ stack) (ap (add_part (inr (inr tt))) behind) in
    ap (add_part (inr (inl (name, (at, size))))) within

abbrev pub split_structure : Structure → ℕ × List FieldStep
split_structure s = (s.size, parts_of s.fields [])

abbrev pub join_structure : ℕ × List FieldStep → Structure
join_structure pair = record { size = pair.0; fields = first (stack_of pair.1) }

pub join-split_structure : (s : Structure) → join_structure (split_structure s) ≡ s
join-split_structure s = ap (λ (stack : List Fields). record { size = s.size; fields = first stack }) (stack_of-parts s.fields [] [] refl)

abbrev pub structure_code : Coded Scalar → Coded Structure
structure_code scalar =
    code_by (ℕ × List FieldStep) (coded× coded_ℕ (coded_list (coded⊎ (coded× (coded_list coded_ℕ) (coded× coded_ℕ scalar)) (coded⊎ (coded× (coded_list coded_ℕ) (coded× coded_ℕ coded_ℕ)) coded_unit)))) split_structure join_structure join-split_structure

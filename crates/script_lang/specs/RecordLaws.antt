-- Laws of the values of a record literal.
use Rattle.std.specs.Prelude.{ℕ, zero, suc, ◌≡◌, ◌<◌, List, [], ◌∷◌, length}
use Rattle.std.proofs.Common.{slice_index_or, arith, refl, ap, sym, ◌∙◌}
use Rattle.script_lang.specs.Words.{All}
use Rattle.script_lang.specs.declared.literal.Literal.{Literal}
use Rattle.script_lang.specs.declared.literal.Literal.TheVariants.{Scalar, Record}
use Rattle.script_lang.specs.RecordValues.{Values, no_values, scalar_value, record_value, value_count}
use Rattle.script_lang.specs.Listed.{all_values, literals_of}
use Rattle.script_lang.specs.Nodes.{literal_nodes}

pub literals_of_listed : (literals : List Literal) → literals_of (all_values literals) ≡ literals
literals_of_listed [] = refl
literals_of_listed (Scalar scalar ∷ literals) = ap (λ ls. Scalar scalar ∷ ls) (literals_of_listed literals)
literals_of_listed (Record inner ∷ literals) = ap (λ ls. Record inner ∷ ls) (literals_of_listed literals)

pub listed_literals_of : (values : Values) → all_values (literals_of values) ≡ values
listed_literals_of no_values = refl
listed_literals_of (scalar_value scalar rest) = ap (scalar_value scalar) (listed_literals_of rest)
listed_literals_of (record_value inner rest) = ap (record_value inner) (listed_literals_of rest)

pub length_literals_of : (values : Values) → length (literals_of values) ≡ value_count values
length_literals_of no_values = refl
length_literals_of (scalar_value scalar rest) = omega (arith, length_literals_of rest)
length_literals_of (record_value inner rest) = omega (arith, length_literals_of rest)

pub value_count_listed : (literals : List Literal) → value_count (all_values literals) ≡ length literals
value_count_listed literals = sym (length_literals_of (all_values literals)) ∙ ap length (literals_of_listed literals)

at-literal_nodes : (values : Values) (k : ℕ) (d : Literal) → k < length (literals_of values) → literal_nodes (slice_index_or (literals_of values) k d) < literal_nodes (Record values)
at-literal_nodes no_values k d low = absurd (omega (arith, low))
at-literal_nodes (scalar_value scalar rest) zero d low = omega arith
at-literal_nodes (scalar_value scalar rest) (suc k) d low = omega (arith, at-literal_nodes rest k d (omega (arith, low)))
at-literal_nodes (record_value inner rest) zero d low = omega arith
at-literal_nodes (record_value inner rest) (suc k) d low = omega (arith, at-literal_nodes rest k d (omega (arith, low)))

-- Each value of a record has fewer nodes than the record, so that a recursion over a literal ends.
pub inner-literal_nodes : (values : Values) → All (λ literal. literal_nodes literal < literal_nodes (Record values)) (literals_of values)
inner-literal_nodes values = at-literal_nodes values

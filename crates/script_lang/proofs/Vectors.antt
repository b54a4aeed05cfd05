-- Record literals, worked out by hand.
use Rattle.std.proofs.Common.{◌≡◌, ℕ, pos, true, List, [], ◌∷◌, map, Option, Some, None, codes, refl}
use Rattle.script_lang.proofs.Words.{ScalarLiteral, Integer, Boolean, Bytes, Literal, Scalar, Record, Values, no_values, scalar_value, record_value, value_count, all_values, literals_of, word_at, keyword_at, number_at, length_at, integer_at, is_parted, bytes_mark_at, by_rule, in_turns, entry_first, comma_next, one_or_more, none_or_more, row, text_byte_at, byte_text_at, scalar_at, record_at, literal_within, literal_at}

abbrev number : ℕ → ScalarLiteral
number n = Integer (pos n)

-- the values of `(n)` and of `(m, (..))`
abbrev just : ℕ → Values
just n = scalar_value (number n) no_values

abbrev before : ℕ → Values → Values
before n inner = scalar_value (number n) (record_value inner no_values)

-- a text, and the literal that begins it with what follows
abbrev literals : List (List ℕ × Option (Literal × List ℕ))
literals =
    (codes "(1)", Some (Record (just 1), [])) ∷
    (codes "(1,(2))", Some (Record (before 1 (just 2)), [])) ∷
    (codes "(1,(2,(3,(4))))", Some (Record (before 1 (before 2 (before 3 (just 4)))), [])) ∷
    (codes "(1,(2,(3,(4,(5)))))", None) ∷
    (codes "(((((1)))))", None) ∷
    (codes "(1,(2,),) 3", Some (Record (before 1 (just 2)), codes " 3")) ∷
    (codes "((1, 2), b'x')", Some (Record (record_value (scalar_value (number 1) (just 2)) (scalar_value (Bytes (codes "x")) no_values)), [])) ∷
    (codes "()", None) ∷
    (codes "(1,())", None) ∷
    (codes "(1,(2)", None) ∷
    (codes "((1)(2))", None) ∷
    []

literals_hold : map (λ entry. literal_at entry.0) literals ≡ map (λ entry. entry.1) literals
unfolding literal_at literal_within record_at by_rule in_turns entry_first comma_next one_or_more none_or_more scalar_at integer_at length_at number_at is_parted bytes_mark_at keyword_at word_at byte_text_at row text_byte_at
literals_hold = refl

-- (1, (2, (3)), True)
abbrev nested : Values
nested = scalar_value (number 1) (record_value (before 2 (just 3)) (scalar_value (Boolean true) no_values))

counted_at_the_top : value_count nested ≡ 3
counted_at_the_top = refl

as_literals : literals_of nested ≡ Scalar (number 1) ∷ Record (before 2 (just 3)) ∷ Scalar (Boolean true) ∷ []
as_literals = refl

as_values : all_values (Scalar (number 1) ∷ Record (before 2 (just 3)) ∷ Scalar (Boolean true) ∷ []) ≡ nested
as_values = refl

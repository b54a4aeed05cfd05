-- Literals and ranges as items, worked out by hand and by NumPy.
use Rattle.std.proofs.Common.{◌≡◌, ◌≢◌, ◌<◌, ℕ, ℤ, true, false, pos, negsuc, ◌-ℤ◌, List, [], ◌∷◌, length, map, Result, Ok, Err, codes, refl, sym, ap, arith}
use Rattle.elem_descr.specs.BuildingLaws.{record_type}
use Rattle.literal_items.proofs.Words.{int_max, list_all, ints, stepped, IsGap, LiteralOutOfRange, NoSuchCast, TooLarge, ZeroStep, Little, Big, Four, Eight, Byte, Int, Descr, no_more, scalar_field, record_field, encode_item, number, text, is_value, Integer, Boolean, Bytes, no_values, scalar_value, record_value, BoolScalar, BytesScalar, ScalarDescr, ScalarOf, RecordOf, values_of, item_value, item_values, range_length, range_items, Literal, LeafValue, Refusal, Scalar, ScalarLiteral, Values}
use Rattle.literal_items.proofs.Stepping.{numbers-divided, count-divided, range_length-large, range_length-ok, range_items-refused, range_items-ok}

abbrev int : Scalar
int = Int true Four Little

-- T{<b:x:3x<i:y:}
abbrev pair : Descr
pair = record_type 8 (scalar_field (codes "x") 0 (Byte true) (scalar_field (codes "y") 4 int no_more))

-- T{<B:x:2s:t:}
abbrev mixed : Descr
mixed = record_type 3 (scalar_field (codes "x") 0 (Byte false) (scalar_field (codes "t") 1 (BytesScalar 2) no_more))

-- T{<b:x:3xT{<i:y:}:s:}
abbrev nested : Descr
nested = record_type 8 (scalar_field (codes "x") 0 (Byte true) (record_field (codes "s") 4 4 (scalar_field (codes "y") 0 int no_more) no_more))

-- T{<b:x:T{<B:y:}:s:}
abbrev byte_within : Descr
byte_within = record_type 2 (scalar_field (codes "x") 0 (Byte true) (record_field (codes "s") 1 1 (scalar_field (codes "y") 0 (Byte false) no_more) no_more))

-- T{T{<B:y:}:s:2s:t:}
abbrev text_behind : Descr
text_behind = record_type 3 (record_field (codes "s") 0 1 (scalar_field (codes "y") 0 (Byte false) no_more) (scalar_field (codes "t") 1 (BytesScalar 2) no_more))

-- scalars, scalar literals, and the items
abbrev scalars : List (Scalar × ScalarLiteral × Result (List LeafValue) Refusal)
scalars =
    (BytesScalar 3, Bytes (codes "abcd"), Ok (text (codes "abc") ∷ [])) ∷
    (BytesScalar 4, Bytes (97 ∷ 0 ∷ 98 ∷ 0 ∷ 99 ∷ []), Ok (text (97 ∷ 0 ∷ 98 ∷ []) ∷ [])) ∷  -- b'a\x00b\x00c'
    (Byte false, Integer (pos 300), Err LiteralOutOfRange) ∷
    (Int false Eight Little, Integer (pos 18446744073709551616), Err LiteralOutOfRange) ∷
    (Int true Eight Big, Integer (negsuc 9223372036854775808), Err LiteralOutOfRange) ∷
    (BoolScalar, Integer (pos 7), Ok (number (pos 1) ∷ [])) ∷
    (int, Boolean true, Ok (number (pos 1) ∷ [])) ∷
    (BoolScalar, Boolean false, Ok (number (pos 0) ∷ [])) ∷
    (int, Bytes (codes "a"), Err NoSuchCast) ∷
    (BoolScalar, Bytes (codes "a"), Err NoSuchCast) ∷
    (BytesScalar 2, Integer (pos 1), Err NoSuchCast) ∷
    (BytesScalar 2, Boolean true, Err NoSuchCast) ∷
    []

scalar_items : map (λ row. item_value (ScalarDescr row.0) (ScalarOf row.1)) scalars ≡ map (λ row. row.2) scalars
unfolding item_value
scalar_items = refl

-- a number, and the values behind it
abbrev whole : ℕ → Values → Values
whole n behind = scalar_value (Integer (pos n)) behind

-- descriptors, literals, and the items
abbrev records : List (Descr × Literal × Result (List LeafValue) Refusal)
records =
    (ScalarDescr (Byte true), RecordOf (whole 5 no_values), Err NoSuchCast) ∷
    (pair, ScalarOf (Integer (pos 7)), Ok (number (pos 7) ∷ number (pos 7) ∷ [])) ∷
    (pair, RecordOf (whole 5 (scalar_value (Integer (negsuc 0)) no_values)), Ok (number (pos 5) ∷ number (negsuc 0) ∷ [])) ∷
    (pair, RecordOf (whole 5 no_values), Err NoSuchCast) ∷
    (pair, RecordOf (whole 5 (whole 5 (whole 5 no_values))), Err NoSuchCast) ∷
    -- a value that cannot be cast is refused before one that is out of range
    (mixed, RecordOf (whole 300 (whole 1 no_values)), Err NoSuchCast) ∷
    (nested, ScalarOf (Integer (pos 5)), Ok (number (pos 5) ∷ number (pos 5) ∷ [])) ∷
    (nested, RecordOf (whole 1 (record_value (whole 2 no_values) no_values)), Ok (number (pos 1) ∷ number (pos 2) ∷ [])) ∷  -- (1,(2))
    (nested, RecordOf (whole 1 (whole 2 no_values)), Err NoSuchCast) ∷  -- (1,2)
    (nested, RecordOf (record_value (whole 1 no_values) (record_value (whole 2 no_values) no_values)), Err NoSuchCast) ∷  -- ((1),(2))
    (nested, RecordOf (whole 1 (record_value (whole 2 (whole 3 no_values)) no_values)), Err NoSuchCast) ∷  -- (1,(2,3))
    (byte_within, RecordOf (whole 1 (record_value (whole 300 no_values) no_values)), Err LiteralOutOfRange) ∷  -- (1,(300))
    (text_behind, RecordOf (record_value (whole 300 no_values) (whole 1 no_values)), Err NoSuchCast) ∷  -- ((300),1)
    []

record_items : map (λ row. item_value row.0 row.1) records ≡ map (λ row. row.2) records
unfolding item_value
record_items = refl

level_by_level_bytes : encode_item nested (values_of nested (RecordOf (whole 1 (record_value (whole 2 no_values) no_values)))) ≡ 1 ∷ 0 ∷ 0 ∷ 0 ∷ 2 ∷ 0 ∷ 0 ∷ 0 ∷ []
level_by_level_bytes = refl

-- scalar literals as items of |u1
abbrev lists : List (List ScalarLiteral × Result (List (List LeafValue)) Refusal)
lists =
    (Integer (pos 300) ∷ Bytes (codes "a") ∷ [], Err NoSuchCast) ∷
    (Integer (pos 3) ∷ Integer (negsuc 0) ∷ [], Err LiteralOutOfRange) ∷
    (Integer (pos 3) ∷ Boolean true ∷ [], Ok ((number (pos 3) ∷ []) ∷ (number (pos 1) ∷ []) ∷ [])) ∷
    []

list_items : map (λ row. item_values (ScalarDescr (Byte false)) (map ScalarOf row.0)) lists ≡ map (λ row. row.1) lists
unfolding item_values
list_items = refl

-- the items of these numbers
abbrev items_of : List ℕ → Result (List (List LeafValue)) Refusal
items_of numbers = Ok (map (λ n. number (pos n) ∷ []) numbers)

-- numpy.arange: a scalar, start, stop and step, and the items
abbrev ranges : List (Scalar × ℤ × ℤ × ℤ × Result (List (List LeafValue)) Refusal)
ranges =
    (Byte true, pos 0, pos 201, pos 100, Err LiteralOutOfRange) ∷
    (Byte true, pos 0, pos 200, pos 100, items_of (0 ∷ 100 ∷ [])) ∷
    (int, pos 0, pos 5, pos 1, items_of (0 ∷ 1 ∷ 2 ∷ 3 ∷ 4 ∷ [])) ∷
    (int, pos 5, pos 0, negsuc 1, items_of (5 ∷ 3 ∷ 1 ∷ [])) ∷
    (int, pos 3, pos 3, pos 1, items_of []) ∷
    (int, pos 0, pos 5, negsuc 0, items_of []) ∷
    (int, pos 0, pos 5, pos 0, Err ZeroStep) ∷
    []

range_rows : map (λ row. range_items row.0 row.1 row.2 row.3) ranges ≡ map (λ row. row.4) ranges
unfolding range_items range_length stepped
range_rows = refl

-- ranges with too many numbers to list, by the quotient

forth : (gap start stop step : ℕ) → pos gap ≡ int_max (pos stop -ℤ pos start) (pos 0) → IsGap gap (pos start) (pos stop) (pos step)
forth gap start stop step is = record { back = λ below. absurd (omega (arith, ints)); forth = λ _. is }

moves : (step : ℕ) → 0 < step → pos step ≢ pos 0
moves step some none = absurd (omega (arith, ints))

three : range_items (Int false Eight Little) (pos 0) (pos 18446744073709551615) (pos 9223372036854775807) ≡ Ok ((number (pos 0) ∷ []) ∷ (number (pos 9223372036854775807) ∷ []) ∷ (number (pos 18446744073709551614) ∷ []) ∷ [])
three =
    let step = moves 9223372036854775807 (omega arith) in
    let gap = forth 18446744073709551615 0 18446744073709551615 9223372036854775807 refl in
    let numbers = numbers-divided 18446744073709551615 (pos 0) (pos 18446744073709551615) (pos 9223372036854775807) step gap in
    range_items-ok (Int false Eight Little) (pos 0) (pos 18446744073709551615) (pos 9223372036854775807) 3 _ (range_length-ok (pos 0) (pos 18446744073709551615) (pos 9223372036854775807) 3 step (sym (ap length numbers)) (omega arith))
    (ap (list_all (is_value (Int false Eight Little))) numbers) (ap (map (λ value. number value ∷ [])) numbers)

one_too_many : range_length (pos 0) (pos 16777217) (pos 1) ≡ Err TooLarge
one_too_many = range_length-large (pos 0) (pos 16777217) (pos 1) 16777217 (moves 1 (omega arith)) (sym (count-divided 16777217 (pos 0) (pos 16777217) (pos 1) (moves 1 (omega arith)) (forth 16777217 0 16777217 1 refl))) (omega arith)

as_many_as_may_be : range_length (pos 0) (pos 16777216) (pos 1) ≡ Ok 16777216
as_many_as_may_be = range_length-ok (pos 0) (pos 16777216) (pos 1) 16777216 (moves 1 (omega arith)) (sym (count-divided 16777216 (pos 0) (pos 16777216) (pos 1) (moves 1 (omega arith)) (forth 16777216 0 16777216 1 refl))) (omega arith)

too_many : range_items (Int true Eight Little) (pos 0) (pos 999999999999999999999999999999) (pos 1) ≡ Err TooLarge
too_many =
    let step = moves 1 (omega arith) in
    let gap = forth 999999999999999999999999999999 0 999999999999999999999999999999 1 refl in
    range_items-refused (Int true Eight Little) (pos 0) (pos 999999999999999999999999999999) (pos 1) TooLarge
    (range_length-large (pos 0) (pos 999999999999999999999999999999) (pos 1) 999999999999999999999999999999 step (sym (count-divided 999999999999999999999999999999 (pos 0) (pos 999999999999999999999999999999) (pos 1) step gap)) (omega arith))

-- The definitions at arrays that NumPy prints.
use Rattle.std.proofs.Common.{◌≡◌, [], ◌∷◌, map, List, ℕ, true, false, codes, refl}
use Rattle.elem_descr.specs.BuildingLaws.{record_type}
use Rattle.array_print.proofs.Words.{digits, Little, Big, Two, Four, Eight, Byte, Int, Bytes, Descr, no_more, scalar_field, record_field, BoolScalar, ScalarDescr, array_text, items_from}

abbrev bool : Descr
bool = ScalarDescr BoolScalar

-- `T{<i:x:>h:y:}`
abbrev both_orders : Descr
both_orders = record_type 6 (scalar_field (codes "x") 0 (Int true Four Little) (scalar_field (codes "y") 4 (Int true Two Big) no_more))

-- `T{<b:x:3x<i:y:}`
abbrev padded_record : Descr
padded_record = record_type 8 (scalar_field (codes "x") 0 (Byte true) (scalar_field (codes "y") 4 (Int true Four Little) no_more))

abbrev one_field : Descr
one_field = record_type 1 (scalar_field (codes "x") 0 (Byte true) no_more)

abbrev bool_and_byte : Descr
bool_and_byte = record_type 2 (scalar_field (codes "x") 0 BoolScalar (scalar_field (codes "y") 1 (Byte true) no_more))

-- `T{<b:x:3xT{<i:y:}:s:T{<b:a:T{<b:b:<b:c:}:d:}:t:}`
abbrev nested : Descr
nested = record_type 11 (scalar_field (codes "x") 0 (Byte true) (record_field (codes "s") 4 4 (scalar_field (codes "y") 0 (Int true Four Little) no_more) (record_field (codes "t") 8 3 (scalar_field (codes "a") 0 (Byte true) (record_field (codes "d") 1 2 (scalar_field (codes "b") 0 (Byte true) (scalar_field (codes "c") 1 (Byte true) no_more)) no_more)) no_more)))

-- a descriptor, a shape, the places of the items in a block, the block, and the text
abbrev printed : List (Descr × List ℕ × List ℕ × List ℕ × List ℕ)
printed =
    (bool, 3 ∷ [], 0 ∷ 1 ∷ 2 ∷ [], 1 ∷ 0 ∷ 7 ∷ [], codes "[ True False  True]") ∷
    (bool, [], 0 ∷ [], 1 ∷ [], codes "True") ∷
    (bool, 2 ∷ 0 ∷ 3 ∷ [], [], [], codes "[]") ∷
    (ScalarDescr (Byte false), 3 ∷ [], 0 ∷ 1 ∷ 2 ∷ [], 255 ∷ 0 ∷ 44 ∷ [], codes "[255   0  44]") ∷
    (ScalarDescr (Int false Eight Big), [], 0 ∷ [], 255 ∷ 255 ∷ 255 ∷ 255 ∷ 255 ∷ 255 ∷ 255 ∷ 255 ∷ [], codes "18446744073709551615") ∷
    (ScalarDescr (Int true Eight Little), 1 ∷ [], 0 ∷ [], 0 ∷ 0 ∷ 0 ∷ 0 ∷ 0 ∷ 0 ∷ 0 ∷ 128 ∷ [], codes "[-9223372036854775808]") ∷
    (ScalarDescr (Byte true), 2 ∷ 2 ∷ 2 ∷ [], 0 ∷ 1 ∷ 2 ∷ 3 ∷ 4 ∷ 5 ∷ 6 ∷ 7 ∷ [], 0 ∷ 1 ∷ 2 ∷ 3 ∷ 4 ∷ 5 ∷ 6 ∷ 249 ∷ [], codes "[[[ 0  1]\n  [ 2  3]]\n\n [[ 4  5]\n  [ 6 -7]]]") ∷
    (ScalarDescr (Bytes 3), 2 ∷ [], 0 ∷ 3 ∷ [], 97 ∷ 98 ∷ 0 ∷ 97 ∷ 0 ∷ 99 ∷ [], codes "[b'ab' b'a\\x00c']") ∷
    (ScalarDescr (Bytes 3), [], 0 ∷ [], 39 ∷ 92 ∷ 200 ∷ [], codes "b'\\x27\\x5c\\xc8'") ∷
    (both_orders, 1 ∷ [], 0 ∷ [], 0 ∷ 0 ∷ 0 ∷ 0 ∷ 1 ∷ 2 ∷ [], codes "[(0, 258)]") ∷
    (padded_record, 2 ∷ [], 0 ∷ 8 ∷ [], 0 ∷ 9 ∷ 9 ∷ 9 ∷ 0 ∷ 0 ∷ 0 ∷ 0 ∷ 5 ∷ 9 ∷ 9 ∷ 9 ∷ 255 ∷ 255 ∷ 255 ∷ 255 ∷ [], codes "[(0,  0) (5, -1)]") ∷
    (one_field, 1 ∷ [], 0 ∷ [], 1 ∷ [], codes "[(1,)]") ∷
    (one_field, [], 0 ∷ [], 5 ∷ [], codes "(5,)") ∷
    (bool_and_byte, 2 ∷ [], 0 ∷ 2 ∷ [], 1 ∷ 1 ∷ 0 ∷ 2 ∷ [], codes "[( True, 1) (False, 2)]") ∷
    (bool_and_byte, [], 0 ∷ [], 1 ∷ 1 ∷ [], codes "(True, 1)") ∷
    (nested, 1 ∷ [], 0 ∷ [], 1 ∷ 9 ∷ 9 ∷ 9 ∷ 2 ∷ 0 ∷ 0 ∷ 0 ∷ 3 ∷ 4 ∷ 255 ∷ [], codes "[(1, (2,), (3, (4, -1)))]") ∷
    []

printed_rows : map (λ row. array_text row.0 row.1 (items_from row.0 row.3 row.2)) printed ≡ map (λ row. row.4) printed
unfolding digits
printed_rows = refl

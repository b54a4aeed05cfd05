-- Test vectors: casts of single items, as in NumPy.
use Rattle.std.proofs.Common.{◌≡◌, pos, negsuc, Bool, true, false, List, [], ◌∷◌, map, codes, refl}
use Rattle.elem_descr.specs.BuildingLaws.{record_type}
use Rattle.elementwise.proofs.Words.{Little, Big, Two, Four, Eight, Byte, Int, Bytes, Descr, no_more, scalar_field, record_field, LeafValue, number, text, BoolScalar, ScalarDescr, can_cast, cast_item}

abbrev byte : Descr
byte = ScalarDescr (Byte true)

abbrev short : Descr
short = ScalarDescr (Int true Two Big)

abbrev word : Descr
word = ScalarDescr (Int true Four Little)

abbrev bool : Descr
bool = ScalarDescr BoolScalar

abbrev bytes2 : Descr
bytes2 = ScalarDescr (Bytes 2)

abbrev bytes3 : Descr
bytes3 = ScalarDescr (Bytes 3)

-- T{<b:x:3x<i:y:}
abbrev pair : Descr
pair = record_type 8 (scalar_field (codes "x") 0 (Byte true) (scalar_field (codes "y") 4 (Int true Four Little) no_more))

-- T{<?:p:T{<B:q:2s:r:}:s:}
abbrev nested : Descr
nested = record_type 4 (scalar_field (codes "p") 0 BoolScalar (record_field (codes "s") 1 3 (scalar_field (codes "q") 0 (Byte false) (scalar_field (codes "r") 1 (Bytes 2) no_more)) no_more))

-- T{>h:a:T{<i:b:3s:c:}:d:}
abbrev other : Descr
other = record_type 9 (scalar_field (codes "a") 0 (Int true Two Big) (record_field (codes "d") 2 7 (scalar_field (codes "b") 0 (Int true Four Little) (scalar_field (codes "c") 4 (Bytes 3) no_more)) no_more))

-- two types, a value of the first, and the value as the second
abbrev casts : List (Descr × Descr × List LeafValue × List LeafValue)
casts =
    (word, byte, number (pos 300) ∷ [], number (pos 44) ∷ []) ∷  -- np.int32(300).astype('i1') is 44
    (word, byte, number (negsuc 128) ∷ [], number (pos 127) ∷ []) ∷  -- np.int32(-129).astype('i1') is 127
    (byte, ScalarDescr (Byte false), number (negsuc 0) ∷ [], number (pos 255) ∷ []) ∷  -- np.int8(-1).astype('u1') is 255
    (byte, short, number (negsuc 0) ∷ [], number (negsuc 0) ∷ []) ∷  -- np.int8(-1).astype('>i2') is -1
    -- np.int8(-1).astype('u8') is 2 ** 64 - 1
    (byte, ScalarDescr (Int false Eight Little), number (negsuc 0) ∷ [], number (pos 18446744073709551615) ∷ []) ∷
    (word, bool, number (pos 256) ∷ [], number (pos 1) ∷ []) ∷  -- np.int32(256).astype('?') is True
    (byte, bool, number (negsuc 6) ∷ [], number (pos 1) ∷ []) ∷
    (word, bool, number (pos 0) ∷ [], number (pos 0) ∷ []) ∷
    (bool, word, number (pos 1) ∷ [], number (pos 1) ∷ []) ∷
    (bytes3, bytes2, text (codes "abc") ∷ [], text (codes "ab") ∷ []) ∷  -- np.array([b'abc']).astype('S2') is b'ab'
    (bytes3, bytes2, text (97 ∷ 0 ∷ 99 ∷ []) ∷ [], text (codes "a") ∷ []) ∷  -- b'a\0c' as 'S2' is b'a'
    (bytes2, bytes3, text (codes "ab") ∷ [], text (codes "ab") ∷ []) ∷
    -- fields by position at each level
    (other, nested, number (negsuc 2) ∷ number (pos 513) ∷ text (97 ∷ 0 ∷ 99 ∷ []) ∷ [], number (pos 1) ∷ number (pos 1) ∷ text (codes "a") ∷ []) ∷
    (word, pair, number (pos 200) ∷ [], number (negsuc 55) ∷ number (pos 200) ∷ []) ∷  -- a scalar to every leaf
    []

cast_rows : map (λ row. cast_item row.0 row.1 row.2) casts ≡ map (λ row. row.3) casts
cast_rows = refl

-- two types, and whether values of the first can be cast to the second
abbrev possible : List (Descr × Descr × Bool)
possible =
    (other, nested, true) ∷  -- by position
    (word, pair, true) ∷  -- to every leaf
    (bytes3, bytes2, true) ∷
    (word, bytes2, false) ∷
    (bytes2, word, false) ∷
    (word, nested, false) ∷  -- a number to a byte string within
    (pair, word, false) ∷
    (nested, pair, false) ∷  -- a record within a record to a scalar
    (pair, nested, false) ∷  -- a scalar to a record within a record
    (pair, record_type 1 (scalar_field (codes "x") 0 (Byte true) no_more), false) ∷  -- fewer fields
    []

possible_rows : map (λ row. can_cast row.0 row.1) possible ≡ map (λ row. row.2) possible
possible_rows = refl

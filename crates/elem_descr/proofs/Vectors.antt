-- An item of NumPy, decoded and encoded, and format texts that are read.
use Rattle.std.proofs.Common.{◌≡◌, ℕ, true, List, [], ◌∷◌, map, Result, Ok, Err, codes, refl, lit<, decimal, pos, negsuc}
use Rattle.elem_descr.proofs.Words.{decimal_digit, Refusal, BadDescriptor, DescriptorLeftOut, Little, Big, Two, Four, Scalar, BoolScalar, Byte, Int, Bytes, Descr, LeafValue, number, text, no_more, scalar_field, record_field, decode_item, encode_item, checked_name, added, widened, closed_record, nothing, between_colons, letter, opening, pieces, format, written_format, one, record_type}

-- numpy.dtype({'names': ['x', 'y', 't', 'b'], 'formats': ['<i4', '>i2', 'S5', '?'], 'offsets': [0, 6, 8, 13],
-- 'itemsize': 15})
abbrev descr : Descr
descr = record_type 15 (scalar_field (codes "x") 0 (Int true Four Little) (scalar_field (codes "y") 6 (Int true Two Big) (scalar_field (codes "t") 8 (Bytes 5) (scalar_field (codes "b") 13 BoolScalar no_more))))

-- (-2, 300, b'ab\x00c', True)
abbrev values : List LeafValue
values = number (negsuc 1) ∷ (number (pos 300) ∷ (text (97 ∷ (98 ∷ (0 ∷ (99 ∷ [])))) ∷ (number (pos 1) ∷ [])))

pub encoded : encode_item descr values ≡ 254 ∷ (255 ∷ (255 ∷ (255 ∷ (0 ∷ (0 ∷ (1 ∷ (44 ∷ (97 ∷ (98 ∷ (0 ∷ (99 ∷ (0 ∷ (1 ∷ (0 ∷ []))))))))))))))
encoded = refl

-- padding is ignored, and a bool is true if its byte is not 0
pub decoded : decode_item descr (254 ∷ (255 ∷ (255 ∷ (255 ∷ (9 ∷ (9 ∷ (1 ∷ (44 ∷ (97 ∷ (98 ∷ (0 ∷ (99 ∷ (0 ∷ (7 ∷ (9 ∷ []))))))))))))))) ≡ values
decoded = refl

three : decimal 3 ≡ 51 ∷ []
three = decimal_digit 3 (lit< tt)

abbrev byte : Scalar
byte = Byte true

abbrev int : Scalar
int = Int true Four Little

pub cut_text : pieces (codes "T{<5s:a:4x}") ≡ opening [] ∷ (letter [] 60 nothing ∷ (letter (codes "5") 115 (between_colons (codes "a")) ∷ (letter (codes "4") 120 nothing ∷ (letter [] 125 nothing ∷ []))))
cut_text = refl

-- `T{b:x:T{i:y:}:s:}`: a record within is aligned like its member with the greatest alignment
abbrev within : Descr
within = record_type 8 (scalar_field (codes "x") 0 byte (record_field (codes "s") 4 4 (scalar_field (codes "y") 0 int no_more) no_more))

-- a format text, and the descriptor
abbrev texts : List (List ℕ × Result Descr Refusal)
texts =
    (codes "T{b:x:T{i:y:}:s:}", Ok within) ∷
    -- a record within is not aligned if `@` comes only after its `T`: 5 bytes
    (codes "T{<T{@i:y:}:s:b:x:}", Ok (record_type 5 (record_field (codes "s") 0 4 (scalar_field (codes "y") 0 int no_more) (scalar_field (codes "x") 4 byte no_more)))) ∷
    -- four levels of records are read, and a fifth is refused
    (codes "T{T{T{T{b:x:}:t:}:s:}:r:}", Ok (record_type 1 (record_field (codes "r") 0 1 (record_field (codes "s") 0 1 (record_field (codes "t") 0 1 (scalar_field (codes "x") 0 byte no_more) no_more) no_more) no_more))) ∷
    (codes "T{T{T{T{T{5", Err DescriptorLeftOut) ∷
    (codes "T{2T{i:x:}:y:}", Err DescriptorLeftOut) ∷
    (codes "T{T{i:x:}:x:T{i:x:}:x:}", Err BadDescriptor) ∷  -- a name that is taken
    (codes "T{T{}:x:}", Err DescriptorLeftOut) ∷
    []

texts_hold : map (λ row. format row.0) texts ≡ map (λ row. row.1) texts
unfolding checked_name added widened closed_record
texts_hold = refl

pub written_within : written_format within ≡ codes "T{<b:x:3xT{<i:y:}:s:}"
written_within = rw three refl

-- a record within that has no name
pub unnamed_within : format (codes "T{b:x:T{b:y:}}") ≡ Ok (record_type 2 (scalar_field (codes "x") 0 byte (record_field (codes "f1") 1 1 (scalar_field (codes "y") 0 byte no_more) no_more)))
unfolding checked_name added widened closed_record
unnamed_within = rw one refl

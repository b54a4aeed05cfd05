-- Headers: what NumPy writes and reads, and the order of refusals.
use Rattle.std.proofs.Common.{◌≡◌, ℕ, Bool, true, false, List, [], ◌∷◌, ◌++◌, map, Result, Ok, Err, codes, refl}
use Rattle.npy_format.proofs.Words.{Refusal, BadDescriptor, DescriptorLeftOut, TooLarge, BadHeader, Little, Big, Two, Four, Scalar, Byte, Int, Descr, no_more, scalar_field, record_field, checked_name, added, widened, closed_record, record_type, shape_of, ScalarDescr, Header, tokens, entries_in, tuple_in, list_in, pair_in, dictionary_in, literal_in, field_in, record_in, header_of, header}

abbrev int : Scalar
int = Int true Four Little

abbrev header_saying : Descr → Bool → List ℕ → Result Header Refusal
header_saying descr fortran shape = Ok (record { descr = descr; fortran = fortran; shape = shape })

abbrev integers : List ℕ → Result Header Refusal
integers shape = header_saying (ScalarDescr int) false shape

-- a header, and what it says
abbrev headers : List (List ℕ × Result Header Refusal)
headers =
    -- as NumPy writes it
    (codes "{'descr': '<i4', 'fortran_order': False, 'shape': (3,), }", integers (3 ∷ [])) ∷
    -- keys in another order, other quotes, an integer of Python 2
    (codes "{\"shape\": (3L,), \"fortran_order\": False, \"descr\": \"<i4\"}", integers (3 ∷ [])) ∷
    (codes "{'descr': '<i4', 'fortran_order': True, 'shape': (2, 3), }", header_saying (ScalarDescr int) true (2 ∷ 3 ∷ [])) ∷
    (codes " { 'descr':'<i4' ,'shape' : ( ) , 'fortran_order':False}\n", integers []) ∷
    -- records: packed, with padding, and with a record within
    (codes "{'descr': [('x', '<i4'), ('y', '>i2')], 'fortran_order': False, 'shape': (1,), }", header_saying (record_type 6 (scalar_field (codes "x") 0 int (scalar_field (codes "y") 4 (Int true Two Big) no_more))) false (1 ∷ [])) ∷
    (codes "{'descr': [('x', '|i1'), ('', '|V1')], 'fortran_order': False, 'shape': (1,), }", header_saying (record_type 2 (scalar_field (codes "x") 0 (Byte true) no_more)) false (1 ∷ [])) ∷
    (codes "{'descr': [('x', '|i1'), ('', '|V3'), ('s', [('y', '<i4')])], 'fortran_order': False, 'shape': (1,), }", header_saying (record_type 8 (scalar_field (codes "x") 0 (Byte true) (record_field (codes "s") 4 4 (scalar_field (codes "y") 0 int no_more) no_more))) false (1 ∷ [])) ∷
    []

headers_hold : map (λ row. header row.0) headers ≡ map (λ row. row.1) headers
unfolding tokens entries_in tuple_in list_in pair_in dictionary_in literal_in field_in record_in checked_name added widened closed_record header_of shape_of
headers_hold = refl

-- the text of a shape, and the refusal
abbrev shapes : List (List ℕ × Refusal)
shapes = (codes "(-1,)", BadHeader) ∷ (codes "(03,)", BadHeader) ∷ (codes "(3)", BadHeader) ∷ (codes "(0, 16777217)", TooLarge) ∷ []

shapes_refused : map (λ row. header (codes "{'descr': '<i4', 'fortran_order': False, 'shape': " ++ (row.0 ++ codes ", }"))) shapes ≡ map (λ row. Err row.1) shapes
unfolding tokens entries_in tuple_in list_in pair_in dictionary_in literal_in header_of shape_of
shapes_refused = refl

-- the text of a descriptor, and the refusal
abbrev descriptors : List (List ℕ × Refusal)
descriptors =
    (codes "3", BadDescriptor) ∷
    (codes "{1: None}", BadDescriptor) ∷
    (codes "[]", DescriptorLeftOut) ∷
    (codes "[('x', '<i4', (2,))]", DescriptorLeftOut) ∷
    (codes "[('x', '<i4'), ('x', '<i4')]", BadDescriptor) ∷
    -- an unsupported type is refused before a name that is taken
    (codes "[('x', '<i4'), ('x', '<f4')]", DescriptorLeftOut) ∷
    -- a bad header is refused before its element type is checked
    (codes "'<f8', 'x': 1", BadHeader) ∷
    (codes "[[[[[[[[[[[[[[[]]]]]]]]]]]]]]]", DescriptorLeftOut) ∷  -- the greatest depth
    (codes "[[[[[[[[[[[[[[[[]]]]]]]]]]]]]]]]", BadHeader) ∷
    []

descriptors_refused : map (λ row. header (codes "{'fortran_order': False, 'shape': (3,), 'descr': " ++ (row.0 ++ codes "}"))) descriptors ≡ map (λ row. Err row.1) descriptors
unfolding tokens entries_in tuple_in list_in pair_in dictionary_in literal_in field_in record_in checked_name added widened closed_record header_of shape_of
descriptors_refused = refl

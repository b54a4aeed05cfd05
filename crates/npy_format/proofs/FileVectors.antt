-- Files that are written: whole files, byte for byte, as the format says.
use Rattle.std.proofs.Common.{◌≡◌, ℕ, true, false, List, [], ◌∷◌, ◌++◌, Ok, Err, codes, replicate, refl, pos}
use Rattle.npy_format.proofs.Words.{digits, TooLarge, Little, Big, Two, Four, Scalar, Byte, Int, Bytes, no_more, scalar_field, record_field, LeafValue, number, ScalarDescr, RecordDescr, is_fortran, saved}

abbrev int : Scalar
int = Int true Four Little

abbrev one_number : ℕ → List LeafValue
one_number n = number (pos n) ∷ []

-- the header's length field, its text with spaces and a newline, and the items
abbrev first_version : ℕ → List ℕ → ℕ → List ℕ → List ℕ
first_version len text spaces items = 147 ∷ (codes "NUMPY" ++ (1 ∷ (0 ∷ (len ∷ (0 ∷ (text ++ (replicate spaces 32 ++ (10 ∷ items))))))))

-- three integers: 140 bytes
pub three_integers : saved (ScalarDescr int) (3 ∷ []) (0 ∷ 4 ∷ 8 ∷ []) (one_number 1 ∷ one_number 2 ∷ one_number 3 ∷ [])
    ≡ Ok (first_version 118 (codes "{'descr': '<i4', 'fortran_order': False, 'shape': (3,), }") 60 (1 ∷ 0 ∷ 0 ∷ 0 ∷ 2 ∷ 0 ∷ 0 ∷ 0 ∷ 3 ∷ 0 ∷ 0 ∷ 0 ∷ []))
unfolding digits saved
three_integers = refl

-- items that are adjacent in Fortran order
pub in_fortran_order : saved (ScalarDescr int) (2 ∷ 3 ∷ []) (0 ∷ 8 ∷ 16 ∷ 4 ∷ 12 ∷ 20 ∷ []) (one_number 1 ∷ one_number 2 ∷ one_number 3 ∷ one_number 4 ∷ one_number 5 ∷ one_number 6 ∷ [])
    ≡ Ok (first_version 118 (codes "{'descr': '<i4', 'fortran_order': True, 'shape': (2, 3), }") 59
    (1 ∷ 0 ∷ 0 ∷ 0 ∷ 4 ∷ 0 ∷ 0 ∷ 0 ∷ 2 ∷ 0 ∷ 0 ∷ 0 ∷ 5 ∷ 0 ∷ 0 ∷ 0 ∷ 3 ∷ 0 ∷ 0 ∷ 0 ∷ 6 ∷ 0 ∷ 0 ∷ 0 ∷ []))
unfolding digits saved
in_fortran_order = refl

-- a record without padding
pub one_record : saved (RecordDescr (record { size = 6; fields = scalar_field (codes "x") 0 int (scalar_field (codes "y") 4 (Int true Two Big) no_more) })) (1 ∷ []) (0 ∷ []) ((number (pos 0) ∷ number (pos 258) ∷ []) ∷ [])
    ≡ Ok (first_version 118 (codes "{'descr': [('x', '<i4'), ('y', '>i2')], 'fortran_order': False, 'shape': (1,), }") 37 (0 ∷ 0 ∷ 0 ∷ 0 ∷ 1 ∷ 2 ∷ []))
unfolding digits saved
one_record = refl

-- padding, and a record within
pub nested_record : saved (RecordDescr (record { size = 8; fields = scalar_field (codes "x") 0 (Byte true) (record_field (codes "s") 4 4 (scalar_field (codes "y") 0 int no_more) no_more) })) (1 ∷ []) (0 ∷ []) ((number (pos 1) ∷ number (pos 2) ∷ []) ∷ [])
    ≡ Ok (first_version 118 (codes "{'descr': [('x', '|i1'), ('', '|V3'), ('s', [('y', '<i4')])], 'fortran_order': False, 'shape': (1,), }") 15 (1 ∷ 0 ∷ 0 ∷ 0 ∷ 2 ∷ 0 ∷ 0 ∷ 0 ∷ []))
unfolding digits saved
nested_record = refl

-- padding after the last field
pub padding_last : saved (RecordDescr (record { size = 2; fields = scalar_field (codes "x") 0 (Byte true) no_more })) (1 ∷ []) (0 ∷ []) (one_number 1 ∷ [])
    ≡ Ok (first_version 118 (codes "{'descr': [('x', '|i1'), ('', '|V1')], 'fortran_order': False, 'shape': (1,), }") 38 (1 ∷ 0 ∷ []))
unfolding digits saved
padding_last = refl

-- an array in both orders is written in C order, and so is one in neither
pub of_one_item : is_fortran 4 (1 ∷ 1 ∷ []) (8 ∷ []) ≡ false
of_one_item = refl

pub of_none : is_fortran 4 (2 ∷ 0 ∷ []) [] ≡ false
of_none = refl

pub in_no_order : is_fortran 4 (2 ∷ []) (4 ∷ 0 ∷ []) ≡ false
in_no_order = refl

-- one item of 65,536 bytes stretched 4,097 times
pub too_large : saved (ScalarDescr (Bytes 65536)) (4097 ∷ []) [] [] ≡ Err TooLarge
unfolding digits saved
too_large = refl

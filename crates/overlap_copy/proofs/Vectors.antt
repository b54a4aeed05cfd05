-- The definitions applied to the offsets of NumPy's views.
use Rattle.std.proofs.Common.{◌≡◌, ℕ, Bool, true, false, List, [], ◌∷◌, map, refl}
use Rattle.overlap_copy.proofs.Words.{have_common_byte, do_ranges_meet, begins_below, holds_byte, is_marked, is_end_marked}

-- the offsets of two arrays with items of 4 bytes, and whether they share a byte
abbrev shared : List (List ℕ × List ℕ × Bool)
shared =
    -- `a = numpy.arange(6, dtype="<i4")`; `numpy.shares_memory(a[::2], a[1::2])`, and with `a[1:]` instead of `a[1::2]`
    (0 ∷ 8 ∷ 16 ∷ [], 4 ∷ 12 ∷ 20 ∷ [], false) ∷
    (0 ∷ 8 ∷ 16 ∷ [], 4 ∷ 8 ∷ 12 ∷ 16 ∷ 20 ∷ [], true) ∷
    ([], 0 ∷ 4 ∷ [], false) ∷
    []

shared_rows : map (λ row. have_common_byte row.0 4 row.1 4) shared ≡ map (λ row. row.2) shared
unfolding have_common_byte
shared_rows = refl

-- items that overlap partly: bytes 4 and 5, and bytes 5 and 6
one_byte_in_common : have_common_byte (4 ∷ []) 2 (5 ∷ []) 2 ≡ true
unfolding have_common_byte
one_byte_in_common = refl

-- `numpy.may_share_memory(a[::2], a[1::2])`, `numpy.may_share_memory(a[:3], a[3:])`, and an empty view
abbrev ranges : List (List ℕ × List ℕ × Bool)
ranges = (0 ∷ 8 ∷ 16 ∷ [], 4 ∷ 12 ∷ 20 ∷ [], true) ∷ (0 ∷ 4 ∷ 8 ∷ [], 12 ∷ 16 ∷ 20 ∷ [], false) ∷ (0 ∷ 4 ∷ [], [], false) ∷ []

range_rows : map (λ row. do_ranges_meet row.0 4 row.1 4) ranges ≡ map (λ row. row.2) ranges
unfolding begins_below
range_rows = refl

-- the items contain byte 7, but not byte 8
last_byte : map (holds_byte (0 ∷ 4 ∷ []) 4) (7 ∷ 8 ∷ []) ≡ true ∷ false ∷ []
unfolding holds_byte
last_byte = refl

-- a map of bytes 10, 11 and 12, of which 11 is marked, and the item of two bytes at 10
marked_byte : is_marked (false ∷ true ∷ false ∷ []) 10 11 ≡ true
marked_byte = refl

byte_before_map : is_marked (true ∷ []) 10 9 ≡ false
byte_before_map = refl

marked_end : is_end_marked (false ∷ true ∷ false ∷ []) 10 2 10 ≡ true
marked_end = refl

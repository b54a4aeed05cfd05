-- The definitions applied to examples, with the results of `numpy.shares_memory` and of rebinding names in Python.
use Rattle.std.proofs.Common.{◌≡◌, ℕ, pos, true, false, List, [], ◌∷◌, map, Ok, refl}
use Rattle.elem_descr.specs.BuildingLaws.{record_type}
use Rattle.name_store.proofs.Words.{from_entries, Descr, Byte, Int, Two, Four, Little, Big, no_more, scalar_field, record_field, number, offsets_of, ScalarDescr, Array, State, start, no_buffer, is_in_use, share_cells, bound_view, unbound, written, has_kept, undone, write, Counts, CountsUndo, descr_at, start_at, span_at, part_at, with_part, have_common, share_leaves}

abbrev at_places : ℕ → List ℕ → List ℕ → Array
at_places buffer path places = record { buffer = buffer; path = path; shape = []; places = places; writable = true }

-- `a = numpy.zeros(4)`: `shares_memory(a[:2], a[1:])`, `shares_memory(a[:2], a[2:])`, `shares_memory(a, a[4:])`
slices : have_common (0 ∷ 1 ∷ []) (1 ∷ 2 ∷ 3 ∷ []) ∷ have_common (0 ∷ 1 ∷ []) (2 ∷ 3 ∷ []) ∷ have_common (0 ∷ 1 ∷ 2 ∷ 3 ∷ []) [] ∷ []
    ≡ true ∷ false ∷ false ∷ []
slices = refl

-- `shares_memory(a, numpy.zeros(4))`
buffers_apart : share_cells (start 0) (at_places 0 [] (0 ∷ [])) (at_places 1 [] (0 ∷ [])) ≡ false
buffers_apart = refl

-- `a` in buffer 0 and `b` in buffer 1, and then `a = b[1:]`: buffer 0 is freed, and buffer 1 is not
abbrev before : State
before = record {
  names = (97 ∷ [], at_places 0 [] (0 ∷ [])) ∷ (98 ∷ [], at_places 1 [] (0 ∷ 1 ∷ [])) ∷ [];
  buffers = from_entries ((0, no_buffer) ∷ (1, no_buffer) ∷ []);
  depth = 1;
  kept = [];
}

abbrev after : State
after = bound_view before (97 ∷ []) (at_places 1 [] (1 ∷ []))

names_after : after.names ≡ (97 ∷ [], at_places 1 [] (1 ∷ [])) ∷ (98 ∷ [], at_places 1 [] (0 ∷ 1 ∷ [])) ∷ []
names_after = refl

in_use : map (is_in_use after.names) (0 ∷ 1 ∷ []) ≡ false ∷ true ∷ []
in_use = refl

-- `b = b[1:]`: the buffer is still in use
own_view : is_in_use (bound_view before (98 ∷ []) (at_places 1 [] (1 ∷ []))).names 1 ≡ true
own_view = refl

-- At depth 1 the state before is kept, and undo restores it whole: with buffer 0, and with `a` as the first name.
one_kept : after.kept ≡ (before.names, before.buffers) ∷ []
one_kept = refl

restored : map undone (after ∷ unbound before (97 ∷ []) ∷ written before (at_places 1 [] (0 ∷ 1 ∷ [])) (0 ∷ 1 ∷ []) [] ∷ [])
    ≡ before ∷ before ∷ before ∷ []
restored = refl

-- 8 bytes of old items are kept for it, and the oldest 4 are forgotten
eight_bytes : Counts {A = ℕ} 8 (record { state = before; patches = 4 ∷ [] }) (Ok 2) (record { state = before; patches = 8 ∷ [] })
eight_bytes = refl

none_counted : CountsUndo (record { state = before; patches = 8 ∷ [] }) (Ok tt) (record { state = before; patches = [] })
none_counted = refl

-- the oldest state is forgotten, and the newest is the last
newest_kept : (unbound after (98 ∷ [])).kept ≡ (after.names, after.buffers) ∷ []
newest_kept = refl

once_only : has_kept (undone after) ≡ false
once_only = refl

-- at depth 0 no state is kept, and there is nothing to undo
none_kept : (unbound (start 0) (97 ∷ [])).kept ≡ []
none_kept = refl

none_back : undone (start 0) ≡ start 0
none_back = refl

abbrev int : Descr
int = ScalarDescr (Int true Four Little)

-- `r = numpy.zeros(3, {"names": ["x", "y"], "formats": [">i2", "<i4"], "offsets": [0, 4], "itemsize": 8})`
abbrev sample : Descr
sample = record_type 8 (scalar_field (120 ∷ []) 0 (Int true Two Big) (scalar_field (121 ∷ []) 4 (Int true Four Little) no_more))

-- The dtype of the format `T{<b:x:3xT{<i:y:}:s:}`: `n["s"]` is a record with one field, `n["s"]["y"]` is an integer.
abbrev nested : Descr
nested = record_type 8 (scalar_field (120 ∷ []) 0 (Byte true) (record_field (115 ∷ []) 4 4 (scalar_field (121 ∷ []) 0 (Int true Four Little) no_more) no_more))

-- the types and offsets of `r["y"]` and `n["s"]["y"]`, and the offsets of the items of `r["y"]` in the buffer
field_types : descr_at sample (1 ∷ []) ∷ descr_at nested (1 ∷ 0 ∷ []) ∷ [] ≡ int ∷ int ∷ []
field_types = refl

field_starts : start_at sample (1 ∷ []) ∷ start_at nested (1 ∷ 0 ∷ []) ∷ [] ≡ 4 ∷ 4 ∷ []
field_starts = refl

field_addresses : offsets_of 8 4 (0 ∷ 1 ∷ 2 ∷ []) ≡ 4 ∷ 12 ∷ 20 ∷ []
field_addresses = refl

-- `n`, `n["s"]` and `n["s"]["y"]`
spans : map (span_at nested) ([] ∷ (1 ∷ []) ∷ (1 ∷ 0 ∷ []) ∷ []) ≡ (0, 2) ∷ (1, 1) ∷ (1, 1) ∷ []
spans = refl

-- `numpy.array((5, 7), dtype)["y"]`, and `numpy.array((5, (7,)), dtype)["s"]`
field_values : map (λ span. part_at span (number (pos 5) ∷ number (pos 7) ∷ [])) (span_at sample (1 ∷ []) ∷ span_at nested (1 ∷ []) ∷ [])
    ≡ (number (pos 7) ∷ []) ∷ (number (pos 7) ∷ []) ∷ []
field_values = refl

-- `r = numpy.array([(5, 7), (6, 8)], dtype); r["x"] = [1, 2]`: r is `[(1, 7), (2, 8)]`
field_written : write (span_at sample (0 ∷ [])) (0 ∷ 1 ∷ []) ((number (pos 1) ∷ []) ∷ (number (pos 2) ∷ []) ∷ []) ((number (pos 5) ∷ number (pos 7) ∷ []) ∷ (number (pos 6) ∷ number (pos 8) ∷ []) ∷ [])
    ≡ (number (pos 1) ∷ number (pos 7) ∷ []) ∷ (number (pos 2) ∷ number (pos 8) ∷ []) ∷ []
field_written = refl

-- `r[1] = (3, 4)` writes a whole item
whole_written : with_part (span_at sample []) (number (pos 3) ∷ number (pos 4) ∷ []) (number (pos 6) ∷ number (pos 8) ∷ []) ≡ number (pos 3) ∷ number (pos 4) ∷ []
whole_written = refl

-- `n["s"]["y"] = 9`
inner_written : with_part (span_at nested (1 ∷ 0 ∷ [])) (number (pos 9) ∷ []) (number (pos 5) ∷ number (pos 7) ∷ []) ≡ number (pos 5) ∷ number (pos 9) ∷ []
inner_written = refl

-- `n["s"]` shares memory with `n["s"]["y"]` and with `n`, but `n["x"]` does not share memory with `n["s"]["y"]`
shared : share_leaves nested (1 ∷ []) (1 ∷ 0 ∷ []) ∷ share_leaves nested [] (1 ∷ []) ∷ share_leaves nested (0 ∷ []) (1 ∷ 0 ∷ []) ∷ []
    ≡ true ∷ true ∷ false ∷ []
shared = refl

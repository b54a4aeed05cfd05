-- Writing the file of an array.
use Rattle.std.specs.Prelude.{ℕ, ◌*◌, Bool, ◌&&◌, not, List, [], ◌++◌, map, get_or, reverse, nat_le, Result, Ok}
use Rattle.npy_format.specs.Words.{flat_map, Refusal, TooLarge, Descr, ◌>>=◌, check, LeafValue, item_size, encode_item, MemoryOrder, C, Fortran, max_bytes, count, indexes, rank, is_c_contiguous, is_f_contiguous}
use Rattle.npy_format.specs.Files.{file_order}
use Rattle.npy_format.specs.WrittenHeaders.{written_text, written_header}

-- An array is written in Fortran order if and only if its items, at these addresses, are adjacent in Fortran order and
-- are not adjacent in C order.
abbrev pub is_fortran : ℕ → List ℕ → List ℕ → Bool
is_fortran item shape addresses = is_f_contiguous item shape addresses && not (is_c_contiguous item addresses)

-- items, given in C order of their indexes, in the order of a file; in Fortran order the first axis changes fastest
abbrev pub ordered : MemoryOrder → List ℕ → List (List LeafValue) → List (List LeafValue)
ordered C shape items = items
ordered Fortran shape items = map (λ index. get_or items (rank shape (reverse index)) []) (indexes (reverse shape))

-- the header, followed by the bytes of the items, in which padding is zero
abbrev pub file_of : Descr → Bool → List ℕ → List (List LeafValue) → List ℕ
file_of descr fortran shape items = written_header (written_text descr fortran shape) ++ flat_map (encode_item descr) (ordered (file_order fortran) shape items)

-- the file of an array whose items have these addresses and values, refused if the items have more than 2^28 bytes
unfoldable pub saved : Descr → List ℕ → List ℕ → List (List LeafValue) → Result (List ℕ) Refusal
saved descr shape addresses items = do
  _ ← check (nat_le (count shape * item_size descr) max_bytes) TooLarge
  Ok (file_of descr (is_fortran (item_size descr) shape addresses) shape items)

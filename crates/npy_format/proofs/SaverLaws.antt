-- A file whose items are stored in their block as in the file.
use Rattle.std.proofs.Common.{◌≡◌, ℕ, ◌+◌, ◌*◌, ◌≤◌, Bool, true, List, ◌++◌, map, length, drop, All, IfOk, refl, sym, ap, subst, ◌∙◌, arith, ◌||◌, inl, inr}
use Rattle.npy_format.proofs.Words.{flat_map, take-append_seam, drop-append_seam, item_at, length-item_at, Descr, item_size, leaves_of, AreInOrder, encode_item, decode_item, blocks, item_from, count, first_address, is_c_contiguous, is_f_contiguous, LeafValue, AreBytes, bytes-drop, bytes-take, max_bytes, file_order, is_fortran, ordered, file_of, saved, LoadsAs, gathered, limits_from, addresses_in_file, cases_lt}
use Rattle.npy_format.proofs.WrittenItemLaws.{plain_again, all_again}
use Rattle.npy_format.proofs.GatherLaws.{together}
use Rattle.npy_format.proofs.WriterLaws.{file_written, saved-large, saved-small}

module _ (descr : Descr) (shape offsets bytes : List ℕ) (start len : ℕ) (long : length offsets ≡ count shape) (inside : All (λ offset. offset + item_size descr ≤ length bytes) offsets)
    (is : (is_c_contiguous (item_size descr) offsets || is_f_contiguous (item_size descr) shape offsets) ≡ true) (first : start ≡ first_address offsets) (sized : len ≡ count shape * item_size descr) where
  pub stretch_ends : start + len ≤ length bytes
  stretch_ends = let ends = (together (item_size descr) shape offsets bytes long inside is).ends in omega (arith, ends, first, sized)

  pub stretch_written : (head : List ℕ) → All (λ limit. limit ≡ 255) (limits_from 0 (leaves_of descr) (item_size descr)) → AreInOrder 0 (leaves_of descr) (item_size descr) → AreBytes bytes
      → head ++ item_at start len bytes ≡ head ++ flat_map (encode_item descr) (ordered (file_order (is_fortran (item_size descr) shape offsets)) shape (map (item_from descr bytes) offsets))
  stretch_written head plain order are =
      let width = item_size descr in
      let n = count shape in
      let f = λ (item : List ℕ). encode_item descr (decode_item descr item) in
      let items = gathered width bytes (addresses_in_file width shape offsets) in
      let lies : items ≡ item_at start len bytes = (together width shape offsets bytes long inside is).joined ∙ (λ i. item_at (sym first i) (sym sized i) bytes) in
      let all : AreBytes items = subst AreBytes (sym lies) (bytes-take len (drop start bytes) (bytes-drop start bytes are)) in
      let size : length items ≡ n * width = ap length lies ∙ length-item_at start len bytes stretch_ends ∙ sized in
      let again = all_again f width n items (λ item wide each. plain_again (leaves_of descr) width item plain order wide each) size all in
      let file = head ++ items in
      ap (λ back. head ++ back) (sym lies)
      ∙ file_written shape offsets bytes head file width long inside refl descr file (length head) n refl refl refl
      (ap (λ back. head ++ back) again ∙ sym (λ i. take-append_seam head items i ++ flat_map f (blocks width n (drop-append_seam head items i))))

-- Items with too many bytes have no file, and the file of all others loads again.
pub saved-loads : (descr : Descr) (shape addresses : List ℕ) (items : List (List LeafValue))
    → (count shape * item_size descr ≤ max_bytes → (fortran : Bool) → LoadsAs (file_of descr fortran shape items) descr shape items) → IfOk (saved descr shape addresses items) (λ file. LoadsAs file descr shape items)
saved-loads descr shape addresses items loads = elim (cases_lt max_bytes (count shape * item_size descr)) [
  | inl large ↦ rw (saved-large descr shape addresses items large) tt
  | inr small ↦ rw (saved-small descr shape addresses items small) (loads small (is_fortran (item_size descr) shape addresses))
]

-- Laws of affine lists: the steps to unit indexes are the only possible strides, so a test of them decides.
use Rattle.std.specs.Prelude.{◌≡◌, Bool, ℕ, ◌<◌, ◌≤◌, ℤ, pos, ◌+ℤ◌, ◌-ℤ◌, ◌*ℤ◌, List, ◌∷◌, length}
use Rattle.std.proofs.Common.{zero, suc, nat_le, true, [], get_or, drop, refl, sym, ◌∙◌, ap, arith}
use Rattle.reshape_rule.specs.Words.{cond-true, nat_tests, Decides-int_eq, int_eq, AllPass-from_list_all, list_all-from_AllPass, ints, *ℤ-zero, +ℤ_idr, count, indexes, rank, IsIndex, dot, address_at, first_address, printed_strides, length-indexes, get_or-indexes, rank-lt, index_at, zero_filled, unit, dot-zeros, rank-zeros, IsIndex-first, IsIndex-unit, rank-unit, dot-unit, first_address-entry, printed-at, length-printed}
use Rattle.reshape_rule.specs.Reshapes.{IsAffine}
use Rattle.reshape_rule.specs.inside.Tests.{is_affine}

-- ---- the only possible strides

-- Strides that differ only on axes of length 1 lead to the same entries.
dot-same : (shape : List ℕ) (s t : List ℤ) (index : List ℕ) → length s ≡ length shape → length t ≡ length shape → ((axis : ℕ) → axis < length shape → 2 ≤ get_or shape axis 0 → get_or s axis (pos 0) ≡ get_or t axis (pos 0)) → IsIndex shape index → dot s index ≡ dot t index
dot-same [] [] [] index same same' are in' = refl
dot-same (n ∷ shape) (x ∷ s) (y ∷ t) (zero ∷ index) same same' are in' =
    ap (λ z. z +ℤ dot s index) (*ℤ-zero x ∙ sym (*ℤ-zero y)) ∙ ap (λ z. y *ℤ pos 0 +ℤ z) (dot-same shape s t index (omega arith) (omega arith) (λ axis below long. are (suc axis) (omega arith) long) in'.1)
dot-same (n ∷ shape) (x ∷ s) (y ∷ t) (suc k ∷ index) same same' are in' =
    ap (λ z. z *ℤ pos (suc k) +ℤ dot s index) (are 0 (omega arith) (omega (arith, in'.0))) ∙ ap (λ z. y *ℤ pos (suc k) +ℤ z) (dot-same shape s t index (omega arith) (omega arith) (λ axis below long. are (suc axis) (omega arith) long) in'.1)
dot-same _ _ _ _ same same' are in' = absurd (omega arith)

affine-first : (list shape : List ℕ) → 0 < count shape → (affine : IsAffine list shape) → pos (get_or list 0 0) ≡ affine.first
affine-first list shape some affine =
    ap (λ r. pos (get_or list r 0)) (sym (rank-zeros shape)) ∙ affine.leads (zero_filled shape []) (IsIndex-first shape some) ∙ ap (λ z. affine.first +ℤ z) (dot-zeros affine.strides shape) ∙ +ℤ_idr affine.first

difference : (a b f s : ℤ) → a ≡ f +ℤ s → b ≡ f → a -ℤ b ≡ s
difference a b f s is is' = omega (arith, ints)

affine-stride : (list shape : List ℕ) → 0 < count shape → (affine : IsAffine list shape) (axis : ℕ) → axis < length shape → 2 ≤ get_or shape axis 0 → get_or (printed_strides shape list) axis (pos 0) ≡ get_or affine.strides axis (pos 0)
affine-stride list shape some affine axis below long =
    let test : nat_le 2 (get_or shape axis 0) ≡ true = grind (arith, nat_tests) in
    let at : pos (get_or list (count (drop (suc axis) shape)) 0) ≡ affine.first +ℤ get_or affine.strides axis (pos 0) =
    ap (λ r. pos (get_or list r 0)) (sym (rank-unit shape axis below)) ∙ affine.leads (unit shape axis) (IsIndex-unit shape axis some below long) ∙ ap (λ z. affine.first +ℤ z) (dot-unit affine.strides shape axis affine.one_stride_an_axis below) in
    printed-at shape list axis below ∙ cond-true (nat_le 2 (get_or shape axis 0)) _ _ test ∙ difference _ _ affine.first (get_or affine.strides axis (pos 0)) at (affine-first list shape some affine)

-- The strides of an affine list are the steps to its unit indexes.
pub affine-address : (list shape : List ℕ) (first : ℕ) → 0 < count shape → get_or list 0 0 ≡ first → IsAffine list shape → (index : List ℕ) → IsIndex shape index → address_at (printed_strides shape list) first index ≡ pos (get_or list (rank shape index) 0)
affine-address list shape first some is affine index in' =
    let start : pos first ≡ affine.first = ap pos (sym is) ∙ affine-first list shape some affine in
    ap (λ z. z +ℤ dot (printed_strides shape list) index) start ∙ ap (λ z. affine.first +ℤ z) (dot-same shape (printed_strides shape list) affine.strides index (length-printed shape list) affine.one_stride_an_axis (affine-stride list shape some affine) in') ∙ sym (affine.leads index in')

-- ---- the test

at_unit : List ℕ → List ℕ → List ℕ → Bool
at_unit list shape index = int_eq (address_at (printed_strides shape list) (first_address list) index) (pos (get_or list (rank shape index) 0))

pub affine-from_test : (list shape : List ℕ) → is_affine list shape ≡ true → IsAffine list shape
unfolding at_unit
affine-from_test list shape test =
    let all = AllPass-from_list_all (at_unit list shape) (indexes shape) test in
    record {
      first = pos (first_address list);
      strides = printed_strides shape list;
      one_stride_an_axis = length-printed shape list;
      leads = λ index in'.
          let passes : at_unit list shape index ≡ true = ap (at_unit list shape) (sym (get_or-indexes shape index [] in')) ∙ all (rank shape index) [] (omega (arith, length-indexes shape, rank-lt shape index in')) in
          sym ((Decides-int_eq (address_at (printed_strides shape list) (first_address list) index) (pos (get_or list (rank shape index) 0))).0 passes);
    }

pub test_from_affine : (list shape : List ℕ) → IsAffine list shape → is_affine list shape ≡ true
unfolding at_unit
test_from_affine list shape affine =
    list_all-from_AllPass (at_unit list shape) (indexes shape) (λ k d below.
    let some : 0 < count shape = omega (arith, length-indexes shape) in
    let found = index_at shape k (omega (arith, length-indexes shape)) in
    let here : get_or (indexes shape) k d ≡ found.0 = ap (λ r. get_or (indexes shape) r d) (sym found.2) ∙ get_or-indexes shape found.0 d found.1 in
    let passes : at_unit list shape found.0 ≡ true = (Decides-int_eq (address_at (printed_strides shape list) (first_address list) found.0) (pos (get_or list (rank shape found.0) 0))).1 (affine-address list shape (first_address list) some (sym (first_address-entry list)) affine found.0 found.1) in
    ap (at_unit list shape) here ∙ passes)

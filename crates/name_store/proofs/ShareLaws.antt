-- Arrays in one buffer share cells if and only if their items share a byte.
use Rattle.std.proofs.Common.{◌≡◌, ◌+◌, ◌*◌, ◌<◌, ◌≤◌, ◌&&◌, ◌||◌, ◌⊎◌, inl, inr, ℕ, zero, suc, Bool, true, false, List, [], ◌∷◌, length, take, refl, sym, ap, subst, ◌∙◌, Option, Some, None, cond, map, unwrap_or, nat_eq, nat_lt, arith, pos, ◌+ℤ◌, ◌≤ℤ◌}
use Rattle.name_store.proofs.Words.{list_any, range_with_len, get, ints, eqb-true, eqb-false, ltb-true, lt-ltb, le-ltb, ne_eqb, cases_lt, and_parts, and-false, and-true, same_from_decides, Descr, item_size, leaves_of, leaves_in, fields, field_at, Layout, max_bytes, address, offsets, Fits, offsets_of, have_common_byte, mul-step, State, Array, Buffer, buffer_of, no_buffer, share_cells, IsLaidOut, IsPathOf, Shows, descr_at, start_at, first_at, have_common, share_leaves, IsElementType, is_in_use, named_array, slot_at, present, buffer_in, option_map, ArrayRef, Entry, Slot}
use Rattle.name_store.proofs.FieldSplits.{field-legal, field-before, field_leaves-before}
use Rattle.name_store.proofs.NameLaws.{nat_itself}
use Rattle.name_store.proofs.SlotLaws.{get-buffers}
use Rattle.name_store.proofs.PastLaws.{Slots}
use Rattle.name_store.proofs.PartLaws.{part-leaves, part-some, part-within, span-within}

lt-same : (a b c d : ℕ) → (a < b → c < d) → (c < d → a < b) → nat_lt a b ≡ nat_lt c d
lt-same a b c d there back =
    let here : (nat_lt a b ≡ true → a < b) × (a < b → nat_lt a b ≡ true) = (ltb-true a b, lt-ltb a b) in
    same_from_decides (nat_lt a b) (nat_lt c d) here (λ is. back (ltb-true c d is), λ less. lt-ltb c d (there less))

-- parts of two items share a byte if and only if they are in the same item and share a byte there
same-part : (item start width other other_width p q : ℕ) → start + width ≤ item → other + other_width ≤ item →
    (nat_lt (item * p + start) (item * q + other + other_width) && nat_lt (item * q + other) (item * p + start + width)) ≡ (nat_eq p q && (nat_lt start (other + other_width) && nat_lt other (start + width)))
same-part item start width other other_width p q few other-few =
    elim (nat_eq p q) as (λ t. nat_eq p q ≡ t → (nat_lt (item * p + start) (item * q + other + other_width) && nat_lt (item * q + other) (item * p + start + width)) ≡ (t && (nat_lt start (other + other_width) && nat_lt other (start + width)))) [
      | true ↦ λ e. same (ap (λ k. item * k) (eqb-true p q e))
      | false ↦ λ e. differ (cases_lt p q) (cases_lt q p) (eqb-false p q e)
    ] refl
  where
    same : item * p ≡ item * q → (nat_lt (item * p + start) (item * q + other + other_width) && nat_lt (item * q + other) (item * p + start + width)) ≡ (nat_lt start (other + other_width) && nat_lt other (start + width))
    same is = λ i.
        lt-same (item * p + start) (item * q + other + other_width) start (other + other_width) (λ h. omega (arith, is, h)) (λ h. omega (arith, is, h)) i
        && lt-same (item * q + other) (item * p + start + width) other (start + width) (λ h. omega (arith, is, h)) (λ h. omega (arith, is, h)) i

    differ : (p < q) ⊎ (q ≤ p) → (q < p) ⊎ (p ≤ q) → (p ≡ q → ⊥) → (nat_lt (item * p + start) (item * q + other + other_width) && nat_lt (item * q + other) (item * p + start + width)) ≡ false
    differ (inl less) _ ne =
        ap (λ t. nat_lt (item * p + start) (item * q + other + other_width) && t) (le-ltb (item * q + other) (item * p + start + width) (omega (arith, few, mul-step item p q less)))
        ∙ and-false (nat_lt (item * p + start) (item * q + other + other_width))
    differ (inr _) (inl more) ne = ap (λ t. t && nat_lt (item * q + other) (item * p + start + width)) (le-ltb (item * p + start) (item * q + other + other_width) (omega (arith, other-few, mul-step item q p more)))
    differ (inr high) (inr low) ne = absurd (ne (omega (arith, high, low)))

-- one item compared with a list of items, and two lists
module _ (item start width other other_width : ℕ) (meet : Bool) (few : start + width ≤ item) (other-few : other + other_width ≤ item) (is : (nat_lt start (other + other_width) && nat_lt other (start + width)) ≡ meet) where
  one-among : (p : ℕ) (others : List ℕ) →
      list_any (λ q. nat_lt (item * p + start) (q + other_width) && nat_lt q (item * p + start + width)) (offsets_of item other others) ≡ list_any (λ q. nat_eq p q && meet) others
  one-among p [] = refl
  one-among p (q ∷ others) = λ i. (same-part item start width other other_width p q few other-few ∙ ap (λ t. nat_eq p q && t) is) i || one-among p others i

  common-parts : (places others : List ℕ) → have_common_byte (offsets_of item start places) width (offsets_of item other others) other_width ≡ list_any (λ p. list_any (λ q. nat_eq p q && meet) others) places
  unfolding have_common_byte
  common-parts [] others = refl
  common-parts (p ∷ places) others = λ i. one-among p others i || common-parts places others i

any-same : {X : Type 0} (f g : X → Bool) (xs : List X) → ((x : X) → f x ≡ g x) → list_any f xs ≡ list_any g xs
any-same f g [] each = refl
any-same f g (x ∷ xs) each = λ i. each x i || any-same f g xs each i

any-none : {X : Type 0} (f : X → Bool) (xs : List X) → ((x : X) → f x ≡ false) → list_any f xs ≡ false
any-none f [] none = refl
any-none f (x ∷ xs) none = λ i. none x i || any-none f xs none i

-- a condition that does not depend on the pair can be moved out of a test of all pairs
beside : (meet : Bool) (places others : List ℕ) → list_any (λ p. list_any (λ q. nat_eq p q && meet) others) places ≡ (meet && list_any (λ p. list_any (nat_eq p) others) places)
beside true places others = any-same (λ p. list_any (λ q. nat_eq p q && true) others) (λ p. list_any (nat_eq p) others) places (λ p. any-same (λ q. nat_eq p q && true) (nat_eq p) others (λ q. and-true (nat_eq p q)))
beside false places others = any-none (λ p. list_any (λ q. nat_eq p q && false) others) places (λ p. any-none (λ q. nat_eq p q && false) others (λ q. and-false (nat_eq p q)))

-- ---- spans of numbers

-- a number is in a span if and only if it is between its ends
number-in : (p from count : ℕ) → list_any (nat_eq p) (range_with_len from count) ≡ true → (from ≤ p) × (p < from + count)
number-in p from zero none = let no : false ≡ true = none in absurd cc
number-in p from (suc count) is = first (nat_eq p from) refl is (λ later. number-in p (from + 1) count later)
  where
    first : (t : Bool) → nat_eq p from ≡ t → (t || list_any (nat_eq p) (range_with_len (from + 1) count)) ≡ true →
        (list_any (nat_eq p) (range_with_len (from + 1) count) ≡ true → (from + 1 ≤ p) × (p < from + 1 + count)) → (from ≤ p) × (p < from + suc count)
    first true e _ _ = let same : p ≡ from = eqb-true p from e in (omega (arith, same), omega (arith, same))
    first false e later rest = (omega (arith, (rest later).0), omega (arith, (rest later).1))

in-number : (p from count : ℕ) → from ≤ p → p < from + count → list_any (nat_eq p) (range_with_len from count) ≡ true
in-number p from zero low high = absurd (omega (arith, low, high))
in-number p from (suc count) low high =
    elim (nat_eq p from) as (λ t. nat_eq p from ≡ t → (t || list_any (nat_eq p) (range_with_len (from + 1) count)) ≡ true) [
      | true ↦ λ _. refl
      | false ↦ λ e. in-number p (from + 1) count (past (eqb-false p from e)) (omega (arith, high))
    ] refl
  where
    past : (p ≡ from → ⊥) → from + 1 ≤ p
    past ne = elim (cases_lt from p) [
      | inl less ↦ omega (arith, less)
      | inr more ↦ absurd (ne (omega (arith, low, more)))
    ]

-- each of two spans with a number in common begins before the other ends
common-span : (from count other others : ℕ) → have_common (range_with_len from count) (range_with_len other others) ≡ true → (from < other + others) × (other < from + count)
common-span from zero other others none = let no : false ≡ true = none in absurd cc
common-span from (suc count) other others is = first (list_any (nat_eq from) (range_with_len other others)) refl is (λ later. common-span (from + 1) count other others later)
  where
    first : (t : Bool) → list_any (nat_eq from) (range_with_len other others) ≡ t → (t || have_common (range_with_len (from + 1) count) (range_with_len other others)) ≡ true →
        (have_common (range_with_len (from + 1) count) (range_with_len other others) ≡ true → (from + 1 < other + others) × (other < from + 1 + count)) → (from < other + others) × (other < from + suc count)
    first true e _ _ = let there = number-in from other others e in (there.1, omega (arith, there.0))
    first false e later rest = (omega (arith, (rest later).0), omega (arith, (rest later).1))

span-common : (from count other others : ℕ) → 1 ≤ count → 1 ≤ others → from < other + others → other < from + count → have_common (range_with_len from count) (range_with_len other others) ≡ true
span-common from zero other others any some low high = absurd (omega (arith, any))
span-common from (suc count) other others any some low high =
    elim (list_any (nat_eq from) (range_with_len other others)) as (λ t. list_any (nat_eq from) (range_with_len other others) ≡ t → (t || have_common (range_with_len (from + 1) count) (range_with_len other others)) ≡ true) [
      | true ↦ λ _. refl
      | false ↦ λ e. elim (cases_lt from other) [
        | inl less ↦ span-common (from + 1) count other others (omega (arith, less, high)) some (omega (arith, less, some)) (omega (arith, high))
        | inr more ↦ let no : false ≡ true = sym e ∙ in-number from other others more low in absurd cc
      ]
    ] refl

-- two spans have a number in common if and only if each begins before the other ends
common-ends : (from count other others : ℕ) → 1 ≤ count → 1 ≤ others → (nat_lt from (other + others) && nat_lt other (from + count)) ≡ have_common (range_with_len from count) (range_with_len other others)
common-ends from count other others some other-some =
    let shared = have_common (range_with_len from count) (range_with_len other others) in
    let there : (nat_lt from (other + others) && nat_lt other (from + count)) ≡ true → shared ≡ true = λ is.
    let ends = and_parts (nat_lt from (other + others)) (nat_lt other (from + count)) is in
    span-common from count other others some other-some (ltb-true from (other + others) ends.0) (ltb-true other (from + count) ends.1) in
    let back : shared ≡ true → (nat_lt from (other + others) && nat_lt other (from + count)) ≡ true = λ is.
    let ends = common-span from count other others is in
    λ i. lt-ltb from (other + others) ends.0 i && lt-ltb other (from + count) ends.1 i in
    same_from_decides (nat_lt from (other + others) && nat_lt other (from + count)) shared (there, back) (λ is. is, λ is. is)

-- ---- two parts of an item

-- the bytes of one part begin before those of the other end if and only if its leaves do
abbrev BeginsSame : Descr → List ℕ → List ℕ → Type 0
BeginsSame descr path other =
    nat_lt (start_at descr path) (start_at descr other + item_size (descr_at descr other)) ≡ nat_lt (first_at descr path) (first_at descr other + length (leaves_of (descr_at descr other)))

further-same : (by a b width : ℕ) → nat_lt (by + a) (by + b + width) ≡ nat_lt a (b + width)
further-same by a b width = lt-same (by + a) (by + b + width) a (b + width) (λ h. omega (arith, h)) (λ h. omega (arith, h))

-- parts of different fields
module _ (descr : Descr) (j k : ℕ) (path other : List ℕ) (legal : IsElementType descr) (is : IsPathOf descr (j ∷ path)) (other-is : IsPathOf descr (k ∷ other)) where
  abbrev left : Descr
  left = (field_at descr j).descr

  abbrev right : Descr
  right = (field_at descr k).descr

  left-legal : IsElementType left
  left-legal = field-legal descr j is.0 legal

  right-legal : IsElementType right
  right-legal = field-legal descr k other-is.0 legal

  earlier-field : j < k → BeginsSame descr (j ∷ path) (k ∷ other)
  earlier-field less =
      lt-ltb (start_at descr (j ∷ path)) (start_at descr (k ∷ other) + item_size (descr_at right other))
      (omega (arith, field-before descr j k less other-is.0 legal, part-within left left-legal path is.1, part-some left left-legal path is.1))
      ∙ sym (lt-ltb (first_at descr (j ∷ path)) (first_at descr (k ∷ other) + length (leaves_of (descr_at right other)))
      (omega (arith, field_leaves-before descr j k less other-is.0, span-within left left-legal path is.1, part-leaves left left-legal path is.1)))

  later-field : k < j → BeginsSame descr (j ∷ path) (k ∷ other)
  later-field more =
      le-ltb (start_at descr (j ∷ path)) (start_at descr (k ∷ other) + item_size (descr_at right other))
      (omega (arith, field-before descr k j more is.0 legal, part-within right right-legal other other-is.1))
      ∙ sym (le-ltb (first_at descr (j ∷ path)) (first_at descr (k ∷ other) + length (leaves_of (descr_at right other)))
      (omega (arith, field_leaves-before descr k j more is.0, span-within right right-legal other other-is.1)))

  -- and of the same field
  one-field : j ≡ k → BeginsSame right path other → BeginsSame descr (j ∷ path) (k ∷ other)
  one-field same within =
      (λ i. nat_lt (start_at descr (same i ∷ path)) (start_at descr (k ∷ other) + item_size (descr_at right other)))
      ∙ further-same (field_at descr k).at (start_at right path) (start_at right other) (item_size (descr_at right other))
      ∙ within
      ∙ sym (further-same (leaves_in (take k (fields descr))) (first_at right path) (first_at right other) (length (leaves_of (descr_at right other))))
      ∙ (λ i. nat_lt (first_at descr (sym same i ∷ path)) (first_at descr (k ∷ other) + length (leaves_of (descr_at right other))))

-- this holds for all parts
begins-same : (descr : Descr) (path other : List ℕ) → IsElementType descr → IsPathOf descr path → IsPathOf descr other → BeginsSame descr path other
begins-same descr [] other legal is other-is =
    lt-ltb 0 (start_at descr other + item_size (descr_at descr other)) (omega (arith, part-some descr legal other other-is))
    ∙ sym (lt-ltb 0 (first_at descr other + length (leaves_of (descr_at descr other))) (omega (arith, part-leaves descr legal other other-is)))
begins-same descr (k ∷ path) [] legal is other-is =
    lt-ltb (start_at descr (k ∷ path)) (0 + item_size descr) (omega (arith, part-within descr legal (k ∷ path) is, part-some descr legal (k ∷ path) is))
    ∙ sym (lt-ltb (first_at descr (k ∷ path)) (0 + length (leaves_of descr)) (omega (arith, span-within descr legal (k ∷ path) is, part-leaves descr legal (k ∷ path) is)))
begins-same descr (j ∷ path) (k ∷ other) legal is other-is =
    order (cases_lt j k) (cases_lt k j)
    (λ same. one-field descr j k path other legal is other-is same
    (begins-same (field_at descr k).descr path other (field-legal descr k other-is.0 legal) (subst (λ n. IsPathOf (field_at descr n).descr path) same is.1) other-is.1))
  where
    order : (j < k) ⊎ (k ≤ j) → (k < j) ⊎ (j ≤ k) → (j ≡ k → BeginsSame descr (j ∷ path) (k ∷ other)) → BeginsSame descr (j ∷ path) (k ∷ other)
    order (inl less) _ one = earlier-field descr j k path other legal is other-is less
    order (inr _) (inl more) one = later-field descr j k path other legal is other-is more
    order (inr high) (inr low) one = one (omega (arith, high, low))

-- two parts of an item share a byte if and only if they have a leaf in common
parts-meet : (descr : Descr) (path other : List ℕ) → IsElementType descr → IsPathOf descr path → IsPathOf descr other →
    (nat_lt (start_at descr path) (start_at descr other + item_size (descr_at descr other)) && nat_lt (start_at descr other) (start_at descr path + item_size (descr_at descr path)))
    ≡ share_leaves descr path other
parts-meet descr path other legal is other-is =
    (λ i. begins-same descr path other legal is other-is i && begins-same descr other path legal other-is is i)
    ∙ common-ends (first_at descr path) (length (leaves_of (descr_at descr path))) (first_at descr other) (length (leaves_of (descr_at descr other))) (part-leaves descr legal path is) (part-leaves descr legal other other-is)

-- ---- arrays that are shown

-- the element type of a buffer is valid
pub buffer-legal : (es : List (List ℕ × Entry)) (slots : Slots) (number : ℕ) → IsElementType (unwrap_or (get (present es slots).buffers number) no_buffer).descr
buffer-legal es slots number = subst (λ o. IsElementType (unwrap_or o no_buffer).descr) (sym (get-buffers es slots number)) (by-use (is_in_use (map named_array es) number) (slot_at slots number))
  where
    by-use : (used : Bool) (o : Option Slot) → IsElementType (unwrap_or (cond used (option_map buffer_in o) None) no_buffer).descr
    by-use true (Some s) = s.is_whole.legal
    by-use _ _ = omega arith

-- two arrays in different buffers
pub shares-apart : (s : State) (a b : Array) → (a.buffer ≡ b.buffer → ⊥) → false ≡ share_cells s a b
shares-apart s a b ne = sym (ap (λ t. t && share_leaves (buffer_of s a).descr a.path b.path && have_common a.places b.places) (ne_eqb a.buffer b.buffer ne))

Fits-longer : (l : Layout) (short long item : ℕ) → short ≤ long → Fits l short item → Fits l long item
Fits-longer l short long item more fits = record {
  from_zero = fits.from_zero;
  within = λ index is.
      let end : (address l index +ℤ pos item) ≤ℤ pos short = fits.within index is in
      omega (arith, ints);
}

pub shown-fits : (s : State) (a : Array) (r : ArrayRef) → Shows s a r → Fits r.layout.now max_bytes (item_size r.descr.now)
shown-fits s a r shows =
    let small : length (buffer_of s a).items * item_size (buffer_of s a).descr ≤ max_bytes = subst (λ n. n ≤ max_bytes) shows.whole shows.small in
    subst (λ (d : Descr). Fits r.layout.now max_bytes (item_size d)) shows.descr (Fits-longer r.layout.now _ max_bytes _ small shows.view.laid.fits)

-- two arrays in the same buffer
pub shares-one : (s : State) (a b : Array) (r q : ArrayRef) → IsElementType (buffer_of s a).descr → Shows s a r → Shows s b q → a.buffer ≡ b.buffer →
    have_common_byte (offsets r.layout.now) (item_size r.descr.now) (offsets q.layout.now) (item_size q.descr.now) ≡ share_cells s a b
shares-one s a b r q legal shows shows' same =
    (λ i. have_common_byte (laid.places i) (item_size (sym shows.descr i)) (laid'.places i) (item_size (sym typed i)))
    ∙ common-parts (item_size descr) (start_at descr a.path) (item_size (descr_at descr a.path)) (start_at descr b.path) (item_size (descr_at descr b.path)) meet
    (part-within descr legal a.path laid.part) (part-within descr legal b.path laid'.part)
    (parts-meet descr a.path b.path legal laid.part laid'.part)
    a.places b.places
    ∙ beside meet a.places b.places
    ∙ sym (ap (λ t. t && meet && have_common a.places b.places) (ap (nat_eq a.buffer) (sym same) ∙ nat_itself a.buffer))
  where
    descr : Descr
    descr = (buffer_of s a).descr

    meet : Bool
    meet = share_leaves descr a.path b.path

    laid : IsLaidOut descr (length (buffer_of s a).items) a r.layout.now r.writable
    laid = shows.view.laid

    one : buffer_of s b ≡ buffer_of s a
    one = ap (λ n. unwrap_or (get s.buffers n) no_buffer) (sym same)

    laid' : IsLaidOut descr (length (buffer_of s a).items) b q.layout.now q.writable
    laid' = subst (λ (x : Buffer). IsLaidOut x.descr (length x.items) b q.layout.now q.writable) one shows'.view.laid

    typed : descr_at descr b.path ≡ q.descr.now
    typed = subst (λ (x : Buffer). descr_at x.descr b.path ≡ q.descr.now) one shows'.descr

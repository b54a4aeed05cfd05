-- The parts of an index list, item by item.
use Rattle.std.proofs.Common.{◌≡◌, inl, inr, Ok, ℕ, ◌+◌, ℤ, ◌<◌, ◌≤◌, Bool, true, false, ◌&&◌, List, [], ◌∷◌, ◌++◌, map, length, get_or, take, refl, sym, ap, subst, ◌∙◌, arith, append_assoc, append-nil}
use Rattle.fancy_index.proofs.Words.{is_ok, list_all, flat_map, and-true, and_assoc, and_parts, false≢true, map-append, list_all-append, list_all_at, list_all_more, Refusal, IndexOutOfRange, check, IndexItem, Integer, AxisPick, is_place, whole, has_step, pick_shown, ArePicks, AtAxis, AlongAxis, NewAxis, PointList, IndexPart, AxisPart, PointsPart, BetweenPart, IndexArray, is_index, array_axes_taken, covers, cover, is_within, are_within, Part, Axis, wholes, parts_of, parts, IsNext, IsOutside, place_of, ranks_of, are_named, IsPart, IsChecked, shown_part, is_named, all_named, AreParts, AddsParts}
use Rattle.fancy_index.proofs.PointLaws.{integer-part}

-- ---- parts of axes

pub AreParts-append : (shape shape' : List ℕ) (parts parts' : List IndexPart) → AreParts shape parts → AreParts shape' parts' → AreParts (shape ++ shape') (parts ++ parts')
AreParts-append shape shape' (BetweenPart ∷ parts) parts' are later = AreParts-append shape shape' parts parts' are later
AreParts-append shape shape' (PointsPart p ∷ parts) parts' are later =
    (are.0, are.1 ++ shape', ap (λ s. s ++ shape') are.2 ∙ append_assoc p.axes.items are.1 shape', AreParts-append are.1 shape' parts parts' are.3 later)
AreParts-append shape shape' (AxisPart NewAxis ∷ parts) parts' are later = AreParts-append shape shape' parts parts' are later
AreParts-append [] shape' [] parts' are later = later
AreParts-append [] shape' (AxisPart (AtAxis number) ∷ parts) parts' are later = absurd are
AreParts-append [] shape' (AxisPart (AlongAxis run) ∷ parts) parts' are later = absurd are
AreParts-append (n ∷ shape) shape' [] parts' are later = absurd are
AreParts-append (n ∷ shape) shape' (AxisPart (AtAxis number) ∷ parts) parts' are later = (are.0, AreParts-append shape shape' parts parts' are.1 later)
AreParts-append (n ∷ shape) shape' (AxisPart (AlongAxis run) ∷ parts) parts' are later = (are.0, AreParts-append shape shape' parts parts' are.1 later)

AreParts-axis : (axes : List ℕ) (pick : AxisPick) → ArePicks axes (pick ∷ []) → AreParts axes (AxisPart pick ∷ [])
AreParts-axis [] NewAxis are = tt
AreParts-axis (n ∷ axes) NewAxis are = absurd are
AreParts-axis [] (AtAxis number) are = absurd are
AreParts-axis [] (AlongAxis run) are = absurd are
AreParts-axis (n ∷ []) (AtAxis number) are = (are.0, tt)
AreParts-axis (n ∷ m ∷ axes) (AtAxis number) are = absurd are.1
AreParts-axis (n ∷ []) (AlongAxis run) are = (are.0, tt)
AreParts-axis (n ∷ m ∷ axes) (AlongAxis run) are = absurd are.1

-- ---- tests

-- if `other` fails whenever `test` does, a refusal for `test` is also one for `other`
outside-by : (test other : Bool) (e : Refusal) → (test ≡ false → other ≡ false) → IsOutside test e → IsOutside other e
outside-by test other e fails (inl memory) = inl memory
outside-by true other e fails (inr out) = absurd (false≢true (sym (ap is_ok out)))
outside-by false other e fails (inr out) = inr (ap (λ t. check t IndexOutOfRange) (fails refl) ∙ out)

pub named_more : (parts : List IndexPart) (k : ℕ) (part : IndexPart) → k < length parts → get_or parts k part ≡ part → all_named (take k parts) ≡ true → is_named part ≡ true → all_named (take (k + 1) parts) ≡ true
named_more parts k part low is before here = list_all_more is_named parts k part low ∙ (λ i. before i && is_named (is i)) ∙ here

pub outside-at : (parts : List IndexPart) (k : ℕ) (part : IndexPart) (e : Refusal) → k < length parts → get_or parts k part ≡ part → IsOutside (is_named part) e → IsOutside (all_named parts) e
outside-at parts k part e low is outside = outside-by (is_named part) (all_named parts) e (λ fails. list_all_at is_named parts k part low (ap is_named is ∙ fails)) outside

-- ---- parts that are appended

pub adds_points : (old new : List IndexPart) (axes : List ℕ) (p : PointList) (parts : List Part) → (test : Bool) → IsPart axes test p parts → new ≡ old ++ PointsPart p ∷ [] → AddsParts old new axes test parts
adds_points old new axes p parts test is after = record {
  added = PointsPart p ∷ [];
  after = after;
  are = (is.list, [], sym is.axes ∙ sym (append-nil p.axes.items), tt);
  named = and-true (are_named p.ranks) ∙ is.named;
  show = λ all. sym (is.shows all);
}

-- one more whole axis
pub whole_more : (old new : List IndexPart) (axes : List ℕ) (n : ℕ) (pick : AxisPick) → ArePicks (n ∷ []) (pick ∷ []) → pick_shown pick ≡ whole n → AddsParts old new axes true (wholes axes) → AddsParts old (new ++ AxisPart pick ∷ []) (axes ++ n ∷ []) true (wholes (axes ++ n ∷ []))
whole_more old new axes n pick within is adds = record {
  added = adds.added ++ AxisPart pick ∷ [];
  after = ap (λ l. l ++ AxisPart pick ∷ []) adds.after ∙ append_assoc old adds.added (AxisPart pick ∷ []);
  are = AreParts-append axes (n ∷ []) adds.added (AxisPart pick ∷ []) adds.are (AreParts-axis (n ∷ []) pick within);
  named = list_all-append is_named adds.added (AxisPart pick ∷ []) ∙ ap (λ b. b && true) adds.named;
  show = λ all. map-append shown_part adds.added (AxisPart pick ∷ []) ∙ ap (λ l. l ++ Axis (pick_shown pick) ∷ []) (adds.show all) ∙ ap (λ p. wholes axes ++ Axis p ∷ []) is ∙ sym (map-append (λ n. Axis (whole n)) axes (n ∷ []));
}

-- ---- items with their axes

-- the parts so far, and what is left
pub record HaveParts (shape : List ℕ) (items : List (IndexItem IndexArray)) (done : List IndexPart) (axes : List ℕ) (left : List (IndexItem IndexArray)) : Type 0 where
  pub checked : IsChecked axes left
  pub in_range : (all_named done && are_within axes left) ≡ are_within shape items
  pub are : (more : List IndexPart) → AreParts axes more → AreParts shape (done ++ more)
  pub show : are_within shape items ≡ true → map shown_part done ++ parts axes left ≡ parts shape items

module _ (shape axes axes' taken : List ℕ) (items left left' : List (IndexItem IndexArray)) (item : IndexItem IndexArray) (done : List IndexPart) (next : IsNext axes left item taken axes' left') (have : HaveParts shape items done axes left) where
  -- what holds for all that is left holds for the next item and for all later ones
  parted : (p : IndexItem IndexArray → Bool) → list_all p left ≡ true → (p item ≡ true) × (list_all p left' ≡ true)
  parted p all = and_parts (p item) (list_all p left') (sym (ap (list_all p) next.list) ∙ all)

  covered : (covers taken item ≡ true) × (cover axes' left' ≡ true)
  covered = and_parts (covers taken item) (cover axes' left') (sym (ap (list_all (λ p. covers p.axes p.item)) next.placed) ∙ have.checked.covers)

  within_more : are_within axes left ≡ (is_within taken item && are_within axes' left')
  within_more = ap (list_all (λ p. is_within p.axes p.item)) next.placed

  -- the tests of the parts so far, of the next item and of the later ones
  pub tested : (all_named done && (is_within taken item && are_within axes' left')) ≡ are_within shape items
  tested = sym (ap (λ b. all_named done && b) within_more) ∙ have.in_range

  pub parts_on : (new : List IndexPart) → array_axes_taken left' ≤ length axes' → AddsParts done new taken (is_within taken item) (parts_of taken item) → HaveParts shape items new axes' left'
  parts_on new enough adds =
      record {
        checked = record {
          index = (parted is_index have.checked.index).1;
          enough = enough;
          covers = covered.1;
          steps = (parted has_step have.checked.steps).1;
        };
        in_range =
            ap (λ l. all_named l && are_within axes' left') adds.after
            ∙ ap (λ b. b && are_within axes' left') (list_all-append is_named done adds.added ∙ ap (λ b. all_named done && b) adds.named)
            ∙ and_assoc (all_named done) (is_within taken item) (are_within axes' left')
            ∙ tested;
        are = λ more are-more.
            rw (adds.after, append_assoc done adds.added more) (have.are (adds.added ++ more) (subst (λ (s : List ℕ). AreParts s (adds.added ++ more)) (sym next.cut) (AreParts-append taken axes' adds.added more adds.are are-more)));
        show = λ all.
            let here = (and_parts (is_within taken item) (are_within axes' left') (and_parts (all_named done) _ (tested ∙ all)).1).0 in
            ap (λ l. map shown_part l ++ parts axes' left') adds.after
            ∙ ap (λ l. l ++ parts axes' left') (map-append shown_part done adds.added)
            ∙ ap (λ l. (map shown_part done ++ l) ++ parts axes' left') (adds.show here)
            ∙ append_assoc (map shown_part done) (parts_of taken item) (parts axes' left')
            ∙ sym (λ i. map shown_part done ++ flat_map (λ p. parts_of p.axes p.item) (next.placed i))
            ∙ have.show all;
      }

-- ---- the outcome of a test

pub passed : (test : Bool) (refusal : Refusal) → check test refusal ≡ Ok tt → test ≡ true
passed true refusal is = refl
passed false refusal is = absurd (false≢true (ap is_ok is))

-- ---- one item

pub adds_integer : (old new : List IndexPart) (axes : List ℕ) (at : ℤ) (p : PointList) (n : ℕ) → length axes ≡ 1 → n ≡ get_or axes 0 0 → is_place n at ≡ true → p.lengths.items ≡ [] → p.axes.items ≡ n ∷ [] → are_named p.ranks ≡ true → ranks_of p.ranks ≡ place_of n at ∷ [] → new ≡ old ++ PointsPart p ∷ [] →
    AddsParts old new axes (is_within axes (Integer at)) (parts_of axes (Integer at))
adds_integer old new [] at p n one first place lengths axes_are named ranks after = absurd (omega arith)
adds_integer old new (m ∷ m' ∷ axes) at p n one first place lengths axes_are named ranks after = absurd (omega arith)
adds_integer old new (m ∷ []) at p n one first place lengths axes_are named ranks after =
    adds_points old new (m ∷ []) p (parts_of (m ∷ []) (Integer at)) (is_place m at) (rw (← first) (integer-part n at p place lengths axes_are named ranks)) after

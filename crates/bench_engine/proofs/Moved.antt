-- A view with its places in another order: writing to it has the same effect.
use Rattle.std.proofs.Common.{◌≡◌, ◌+◌, ◌*◌, ◌≤◌, ◌⊎◌, ℕ, true, List, length, map, get_or, All, IfOk, IfSome, Option, None, Some, Result, Ok, Err, refl, sym, ap, subst, ◌∙◌, arith, inl, inr}
use Rattle.bench_engine.proofs.Words.{zip, Contains, IsPermutation, insert, is_ok, cases_eq, false≢true, splat_is_map, length-map, get_or-map, IsPermutation-map, All-permutation, length_permutation, Refusal, OutOfMemory, Descr, item_size, LeafValue, Layout, LayoutPair, count, item_pairs, length-offsets, offsets_within, offsets, IsNested, max_bytes, fits-offsets, IsShape, broadcast_index, can_stretch, stretched, can-itself, stretched-ok, stretched-self, GivesView, IsViewOf, view_through, item_from, same_answer, All-seconds, firsts-reordered, pair_even, nested-reordered, Items, Owned, Literal, Operation, State, buffer_of, descr_of, keeping, placed_item, read, span_of, written, part_at, start_at, LeadsTo, MayWrite, Supplies, target_offsets, Shows, ArrayRef, Source, Block, Target, ViewOf, Array, OperandValues, changed_with, literal_values, operand_values, updated_items, Writing, IsTarget, Stands, HoldsItems, Leaves, GoTogether, Meets}
use Rattle.name_store.specs.declared.target.Target.TheVariants.{View}
use Rattle.bench_engine.proofs.Assigns.{all-viewed}
use Rattle.bench_engine.proofs.LiteralLaws.{IsOneItem, literal-one}
use Rattle.bench_engine.proofs.OperandLaws.{all-stand}
use Rattle.bench_engine.proofs.Sets.{read-part}
use Rattle.bench_engine.proofs.StretchLaws.{none-fits, stretched-same}
use Rattle.bench_engine.proofs.Reordered.{Reorders, places-moved, updates-reorder, zip-itself}
use Rattle.bench_engine.proofs.Views.{given-view}
use Rattle.bench_engine.proofs.Updates.{own_values, stands-own, view-can}
use Rattle.bench_engine.proofs.WriteOrder.{write-reordered}
use Rattle.bench_engine.proofs.Written.{lies, old-view}

-- ---- nothing moved

-- the items of a source for a target of the part itself
pub leaves-itself : (s : State) (name : List ℕ) (a part : Array) (t : Target) (source : Source) (new : List (List LeafValue)) → IsTarget s name a t part → Supplies s (descr_of s a) (count part.shape) source new → Leaves s name a part (record { target = t; source = source }) new
leaves-itself s name a part t source new is has =
    let many : length (target_offsets t) ≡ count part.shape = is.counted ∙ ap count (ap (λ (x : Array). x.shape) (sym is.part_is)) in
    record {
      places = is.places;
      items = new;
      leads = is.leads;
      may_write = is.may_write;
      supplies = subst (λ n. Supplies s (descr_of s a) n source new) (sym many) has;
      counted = many;
      same = ap (λ (x : Array). written s a x.places new) (sym is.part_is);
    }

-- ---- the items of a part, read at its own shape

own-read : (s : State) (name : List ℕ) (a part : Array) (r : ArrayRef) (l : Layout) → Shows s a r → IsTarget s name a (View l) part → (operand_values s part).stretched_to part.shape ≡ read s part
own-read s name a part r l shows is =
    let shaped : part.shape ≡ l.shape = ap (λ (x : Array). x.shape) is.part_is in
    let reads : read s part ≡ map (item_from r.descr.now r.block.now) (offsets l) = read-part s a part r l shows (lies s name a part r shows l is) in
    sym (stretched-same (item_from r.descr.now r.block.now) (λ place. part_at (span_of s part) (placed_item (buffer_of s part).items place)) (offsets l) part.places part.shape part.shape (sym reads)
    (length-offsets l ∙ ap count (sym shaped)) (can-itself part.shape))
    ∙ (λ i. map (item_from r.descr.now r.block.now) (view_through (offsets l) (shaped i) (shaped i) (broadcast_index (shaped i))))
    ∙ ap (map (item_from r.descr.now r.block.now)) (stretched-self l)
    ∙ sym reads

-- ---- places in another order

-- items that do not overlap have different places
places-apart : (f : ℕ → ℕ) (places os : List ℕ) (width : ℕ) → 1 ≤ width → os ≡ map f places → IsNested os width → IsNested places 1
places-apart f places os width some are nested = record {
  apart = λ j k before below.
      let long : length os ≡ length places = ap length are ∙ length-map places f in
      let far = nested.apart j k before (omega (arith, below, long)) in
      let at_j : get_or os j 0 ≡ f (get_or places j 0) = ap (λ l. get_or l j 0) are ∙ get_or-map f places j 0 0 (omega (arith, before, below)) in
      let at_k : get_or os k 0 ≡ f (get_or places k 0) = ap (λ l. get_or l k 0) are ∙ get_or-map f places k 0 0 below in
      elim (cases_eq (get_or places j 0) (get_or places k 0)) [
        | inl same ↦ absurd (omega (arith, far, some, at_j, at_k, ap f same))
        | inr other ↦ omega (arith, other)
      ];
}

-- numbers, each paired with itself
pub beside-itself : (os os' : List ℕ) → IsPermutation os os' → IsPermutation (zip os os) (zip os' os')
beside-itself os os' same =
    let twice : ℕ → ℕ × ℕ = λ o. (o, o) in
    subst (λ l. IsPermutation l (zip os' os')) (sym (zip-itself os)) (subst (IsPermutation (map twice os)) (sym (zip-itself os')) (IsPermutation-map twice os os' same))

module _ (s : State) (name : List ℕ) (a part : Array) (r : ArrayRef) (shows : Shows s a r) (l l' : Layout) (is : IsTarget s name a (View l) part) (os os' : List ℕ) (long : length os ≡ length (offsets l)) (long' : length os' ≡ length (offsets l')) (same : IsPermutation (zip (offsets l) os) (zip (offsets l') os')) where
  abbrev address_of : ℕ → ℕ
  address_of place = item_size (buffer_of s a).descr * place + start_at (buffer_of s a).descr a.path

  abbrev found : (places' : List ℕ) × (offsets l' ≡ map address_of places') × IsPermutation (zip is.places os) (zip places' os')
  found = places-moved address_of is.places os (offsets l) (offsets l') os' is.leads.offsets_are long' same

  -- the places in their new order, and the part that has them
  abbrev pub places : List ℕ
  places = found.0

  abbrev pub moved_part : Array
  moved_part = record a { shape = l'.shape; places = places }

  many : length is.places ≡ length os
  many = sym (ap length is.leads.offsets_are ∙ length-map is.places address_of) ∙ sym long

  many' : length places ≡ length os'
  many' = sym (ap length found.1 ∙ length-map places address_of) ∙ sym long'

  moved : IsPermutation is.places places
  moved = firsts-reordered is.places os places os' (sym many) (sym many') found.2

  moved-offsets : IsPermutation (offsets l) (offsets l')
  moved-offsets = firsts-reordered (offsets l) os (offsets l') os' long long' same

  moved-leads : LeadsTo s name (View l') a places
  moved-leads = record { found = is.leads.found; writable = is.leads.writable; offsets_are = found.1; among = All-permutation (Contains a.places) is.places places moved is.leads.among }

  moved-may : MayWrite s a (View l')
  moved-may = (
    fits-offsets l' _ _ (All-permutation (λ o. o + item_size (descr_of s a) ≤ length (buffer_of s a).items * item_size (buffer_of s a).descr) (offsets l) (offsets l') moved-offsets (offsets_within l _ _ is.may_write.0)),
    nested-reordered (item_size (descr_of s a)) (offsets l) (offsets l') moved-offsets is.may_write.1,
  )

  pub moved-target : IsTarget s name a (View l') moved_part
  moved-target = record {
    places = places;
    part_is = refl;
    counted = length-offsets l';
    leads = moved-leads;
    may_write = moved-may;
    few = subst (λ n. n * item_size (descr_of s a) ≤ max_bytes) (sym (length_permutation (offsets l) (offsets l') moved-offsets)) is.few;
  }

  -- the changed items are the same, in the new order
  pub moved-items : (op : Operation) (w w' : OperandValues) (g : ℕ → List LeafValue) → w'.descr ≡ w.descr → IsShape part.shape → IsShape l'.shape → can_stretch w.shape part.shape ≡ true → can_stretch w'.shape l'.shape ≡ true →
      w.stretched_to part.shape ≡ map g os → w'.stretched_to l'.shape ≡ map g os' → Reorders is.places places (updated_items op r.descr.now (operand_values s part) w) (updated_items op r.descr.now (operand_values s moved_part) w')
  moved-items op w w' g types legal legal' can can' ws ws' =
      updates-reorder op r.descr.now (operand_values s part) w (operand_values s moved_part) w' (λ place. part_at (span_of s a) (placed_item (buffer_of s a).items place)) g is.places os places os'
      (ap (descr_of s) is.part_is ∙ shows.descr) shows.descr types legal legal' can can'
      (own-read s name a part r l shows is ∙ ap (read s) is.part_is) ws (own-read s name a moved_part r l' shows moved-target) ws' (sym many) (sym many') found.2

  -- also with a literal, which is the same for each item
  pub moved-literal : (op : Operation) (value : Literal) → IsShape part.shape → IsShape l'.shape →
      Reorders is.places places (changed_with op r.descr.now (operand_values s part) (literal_values op r.descr.now value)) (changed_with op r.descr.now (operand_values s moved_part) (literal_values op r.descr.now value))
  moved-literal op value legal legal' = by-literal (literal_values op r.descr.now value) refl
    where
      by-literal : (given : Result OperandValues Refusal) → literal_values op r.descr.now value ≡ given → Reorders is.places places (changed_with op r.descr.now (operand_values s part) given) (changed_with op r.descr.now (operand_values s moved_part) given)
      by-literal (Err e) there = refl
      by-literal (Ok w) there =
          let one = subst (λ (given : Result OperandValues Refusal). IfOk given IsOneItem) there (literal-one op r.descr.now value) in
          let stretches : (shape : List ℕ) → can_stretch w.shape shape ≡ true = λ shape. ap (λ (w : OperandValues). can_stretch w.shape shape) one.2 ∙ none-fits shape in
          let each : (shape os : List ℕ) → length os ≡ count shape → w.stretched_to shape ≡ map (λ _. one.1) os = λ shape os counted. ap (λ (w : OperandValues). w.stretched_to shape) one.2 ∙ splat_is_map os (count shape) one.1 counted in
          moved-items op w w (λ _. one.1) refl legal legal' (stretches part.shape) (stretches l'.shape)
          (each part.shape os (long ∙ is.counted ∙ ap count (ap (λ (x : Array). x.shape) (sym is.part_is)))) (each l'.shape os' (long' ∙ length-offsets l'))

  -- writing them has the same effect
  pub moved-leaves : 1 ≤ item_size r.descr.now → (there there' : Result (List (List LeafValue)) Refusal) (o : Owned) → Reorders is.places places there there' → Meets (HoldsItems r.descr.now (count l'.shape)) (Ok o) there' →
      Meets (Leaves s name a part) (Ok (record { target = View l'; source = Block o })) there
  moved-leaves some (Ok new) (Ok new') o kept gives = record {
    places = places;
    items = new';
    leads = moved-leads;
    may_write = moved-may;
    supplies = subst (λ (d : Descr). Supplies s d (length (offsets l')) (Block o) new') (sym shows.descr) (subst (λ n. Supplies s r.descr.now n (Block o) new') (sym (length-offsets l')) gives);
    counted = length_permutation (offsets l) (offsets l') moved-offsets ∙ is.counted ∙ ap count (ap (λ (x : Array). x.shape) (sym is.part_is));
    same =
        ap (λ items. record (keeping s) { buffers = insert s.buffers a.buffer (record (buffer_of s a) { items = items }) })
        (write-reordered (span_of s a) is.places places new new' (buffer_of s a).items kept.0 kept.1 (places-apart address_of is.places (offsets l) (item_size (descr_of s a)) (subst (λ (d : Descr). 1 ≤ item_size d) (sym shows.descr) some) is.leads.offsets_are is.may_write.1) moved kept.2)
        ∙ ap (λ (x : Array). written s a x.places new) (sym is.part_is);
  }
  moved-leaves some (Ok new) (Err e) o kept gives = absurd gives
  moved-leaves some (Err e) (Ok new') o kept gives = absurd kept
  moved-leaves some (Err e) (Err e') o kept gives = absurd gives

  pub moved-refused : (there there' : Result (List (List LeafValue)) Refusal) (e : Refusal) → Reorders is.places places there there' → (e ≡ OutOfMemory) ⊎ (there' ≡ Err e) → (e ≡ OutOfMemory) ⊎ (there ≡ Err e)
  moved-refused there there' e kept (inl lacks) = inl lacks
  moved-refused (Ok new) (Ok new') e kept (inr bad) = absurd (false≢true (sym (ap is_ok bad)))
  moved-refused (Ok new) (Err e') e kept (inr bad) = absurd kept
  moved-refused (Err e'') (Ok new') e kept (inr bad) = absurd kept
  moved-refused (Err e'') (Err e') e kept (inr bad) = inr (ap Err (sym kept) ∙ bad)

-- ---- a view, and items that are stretched to its shape

pub near-together : (view items wide : Layout) (result : Option LayoutPair) → GivesView items (Ok wide) (stretched items.shape view.shape) → IfSome result (λ pair. IsPermutation (item_pairs view wide) (item_pairs pair.target pair.source)) →
    IfSome result (GoTogether view items)
near-together view items wide None gives same = tt
near-together view items wide (Some pair) gives same =
    let seen = given-view items wide (stretched items.shape view.shape) gives in
    record { wide = wide; seen = seen.0; there = seen.1; is_wide = seen.2; same = same }

wide-even : (view items wide : Layout) (seen : ViewOf) → stretched items.shape view.shape ≡ Ok seen → IsViewOf items wide seen → length (offsets wide) ≡ length (offsets view)
wide-even view items wide seen there is =
    let same = same_answer seen (record { shape = view.shape; leads = broadcast_index items.shape }) (sym there ∙ stretched-ok items.shape view.shape (view-can items.shape view.shape seen there)) in
    length-offsets wide ∙ ap count (is.shape ∙ ap (λ (v : ViewOf). v.shape) same) ∙ sym (length-offsets view)

pub together-moved : (view items : Layout) (pair : LayoutPair) → GoTogether view items pair → IsPermutation (offsets view) (offsets pair.target)
together-moved view items pair together = firsts-reordered (offsets view) (offsets together.wide) (offsets pair.target) (offsets pair.source) (wide-even view items together.wide together.seen together.there together.is_wide) (pair_even pair) together.same

pub together-inside : (view items : Layout) (pair : LayoutPair) (P : ℕ → Type 0) → GoTogether view items pair → All P (offsets items) → All P (offsets pair.source)
together-inside view items pair P together all =
    All-seconds P (offsets view) (offsets together.wide) (offsets pair.target) (offsets pair.source) (wide-even view items together.wide together.seen together.there together.is_wide) (pair_even pair) together.same
    (all-viewed P items together.wide together.seen together.is_wide all)

-- ---- writing the changed items

-- a writing of an owned array's items to a target
abbrev pub as_writing : Target → Result Owned Refusal → Result Writing Refusal
as_writing t (Ok o) = Ok (record { target = t; source = Block o })
as_writing t (Err e) = Err e

pub unmoved-gives : (s : State) (name : List ℕ) (a part : Array) (r : ArrayRef) (t : Target) (result : Result Owned Refusal) (there : Result (List (List LeafValue)) Refusal) → Shows s a r → IsTarget s name a t part → Meets (HoldsItems r.descr.now (count part.shape)) result there →
    Meets (Leaves s name a part) (as_writing t result) there
unmoved-gives s name a part r t (Ok o) (Ok new) shows is gives = leaves-itself s name a part t (Block o) new is (subst (λ (d : Descr). Supplies s d (count part.shape) (Block o) new) (sym shows.descr) gives)
unmoved-gives s name a part r t (Ok o) (Err e) shows is gives = absurd gives
unmoved-gives s name a part r t (Err e) there shows is gives = gives

module _ (s : State) (name : List ℕ) (a part : Array) (r : ArrayRef) (shows : Shows s a r) (l l' : Layout) (is : IsTarget s name a (View l) part) (some : 1 ≤ item_size r.descr.now) (legal : IsShape l.shape) (legal' : IsShape l'.shape) (x : Items) (block : x.block.now ≡ r.block.now) (laid : x.layout.now ≡ l') (typed : x.descr.now ≡ r.descr.now) where
  shaped : IsShape part.shape
  shaped = subst IsShape (sym (ap (λ (x : Array). x.shape) is.part_is)) legal

  stands : (part' : Array) → IsTarget s name a (View l') part' → Stands (operand_values s part') x
  stands part' target = all-stand s part' x (old-view s name a part' r shows l' x target block laid typed)

  pub literal-gives : (op : Operation) (value : Literal) (result : Result Owned Refusal) → IsPermutation (offsets l) (offsets l') → ((v : OperandValues) → Stands v x → Meets (HoldsItems x.descr.now (count v.shape)) result (changed_with op x.descr.now v (literal_values op x.descr.now value))) →
      Meets (Leaves s name a part) (as_writing (View l') result) (changed_with op r.descr.now (operand_values s part) (literal_values op r.descr.now value))
  literal-gives op value result moved gives = by-result result (subst (λ (d : Descr). Meets (HoldsItems d (count l'.shape)) result (changed_with op d there (literal_values op d value))) typed (gives there (stands _ (moved-target s name a part r shows l l' is (offsets l) (offsets l') refl refl same))))
    where
      same : IsPermutation (zip (offsets l) (offsets l)) (zip (offsets l') (offsets l'))
      same = beside-itself (offsets l) (offsets l') moved

      there : OperandValues
      there = operand_values s (moved_part s name a part r shows l l' is (offsets l) (offsets l') refl refl same)

      kept : Reorders is.places (places s name a part r shows l l' is (offsets l) (offsets l') refl refl same) (changed_with op r.descr.now (operand_values s part) (literal_values op r.descr.now value)) (changed_with op r.descr.now there (literal_values op r.descr.now value))
      kept = moved-literal s name a part r shows l l' is (offsets l) (offsets l') refl refl same op value shaped legal'

      by-result : (result : Result Owned Refusal) → Meets (HoldsItems r.descr.now (count l'.shape)) result (changed_with op r.descr.now there (literal_values op r.descr.now value)) → Meets (Leaves s name a part) (as_writing (View l') result) (changed_with op r.descr.now (operand_values s part) (literal_values op r.descr.now value))
      by-result (Ok o) gives = moved-leaves s name a part r shows l l' is (offsets l) (offsets l') refl refl same some _ _ o kept gives
      by-result (Err e) gives = moved-refused s name a part r shows l l' is (offsets l) (offsets l') refl refl same _ _ e kept gives

  pub items-gives : (op : Operation) (y y' : Items) (wide source : Layout) (seen : ViewOf) (w : OperandValues) (result : Result Owned Refusal) → source.shape ≡ l'.shape → stretched y.layout.now.shape l.shape ≡ Ok seen → IsViewOf y.layout.now wide seen →
      IsPermutation (zip (offsets l) (offsets wide)) (zip (offsets l') (offsets source)) → y'.block.now ≡ y.block.now → y'.layout.now ≡ source → y'.descr.now ≡ y.descr.now → Stands w y →
      ((v w : OperandValues) → Stands v x → Stands w y' → Meets (HoldsItems x.descr.now (count v.shape)) result (updated_items op x.descr.now v w)) →
      Meets (Leaves s name a part) (as_writing (View l') result) (updated_items op r.descr.now (operand_values s part) w)
  items-gives op y y' wide source seen w result even there is-wide same block-is laid-is typed-is sw gives =
      by-result result (subst (λ (d : Descr). Meets (HoldsItems d (count l'.shape)) result (updated_items op d there' w')) typed (gives there' w' (stands _ (moved-target s name a part r shows l l' is (offsets wide) (offsets source) long long' same)) (stands-own y')))
    where
      can : can_stretch y.layout.now.shape l.shape ≡ true
      can = view-can y.layout.now.shape l.shape seen there

      seen-is : seen ≡ record { shape = l.shape; leads = broadcast_index y.layout.now.shape }
      seen-is = same_answer seen (record { shape = l.shape; leads = broadcast_index y.layout.now.shape }) (sym there ∙ stretched-ok y.layout.now.shape l.shape can)

      long : length (offsets wide) ≡ length (offsets l)
      long = wide-even l y.layout.now wide seen there is-wide

      long' : length (offsets source) ≡ length (offsets l')
      long' = length-offsets source ∙ ap count even ∙ sym (length-offsets l')

      w' : OperandValues
      w' = own_values y'

      there' : OperandValues
      there' = operand_values s (moved_part s name a part r shows l l' is (offsets wide) (offsets source) long long' same)

      shape-is : part.shape ≡ l.shape
      shape-is = ap (λ (x : Array). x.shape) is.part_is

      can-part : can_stretch w.shape part.shape ≡ true
      can-part = (λ i. can_stretch (sw.shape i) (shape-is i)) ∙ can

      ws : w.stretched_to part.shape ≡ map (item_from y.descr.now y.block.now) (offsets wide)
      ws =
          sw.items part.shape can-part
          ∙ (λ i. map (item_from y.descr.now y.block.now) (view_through (offsets y.layout.now) y.layout.now.shape (shape-is i) (broadcast_index y.layout.now.shape)))
          ∙ ap (map (item_from y.descr.now y.block.now)) (sym (is-wide.places ∙ λ i. view_through (offsets y.layout.now) y.layout.now.shape (seen-is i).shape (seen-is i).leads))

      ws' : w'.stretched_to l'.shape ≡ map (item_from y.descr.now y.block.now) (offsets source)
      ws' =
          (λ i. map (item_from (typed-is i) (block-is i)) (view_through (offsets (laid-is i)) (laid-is i).shape l'.shape (broadcast_index (laid-is i).shape)))
          ∙ (λ i. map (item_from y.descr.now y.block.now) (view_through (offsets source) source.shape (sym even i) (broadcast_index source.shape)))
          ∙ ap (map (item_from y.descr.now y.block.now)) (stretched-self source)

      can' : can_stretch w'.shape l'.shape ≡ true
      can' = (λ i. can_stretch (laid-is i).shape (sym even i)) ∙ can-itself source.shape

      kept : Reorders is.places (places s name a part r shows l l' is (offsets wide) (offsets source) long long' same) (updated_items op r.descr.now (operand_values s part) w) (updated_items op r.descr.now there' w')
      kept = moved-items s name a part r shows l l' is (offsets wide) (offsets source) long long' same op w w' (item_from y.descr.now y.block.now) (typed-is ∙ sym sw.descr) shaped legal' can-part can' ws ws'

      by-result : (result : Result Owned Refusal) → Meets (HoldsItems r.descr.now (count l'.shape)) result (updated_items op r.descr.now there' w') → Meets (Leaves s name a part) (as_writing (View l') result) (updated_items op r.descr.now (operand_values s part) w)
      by-result (Ok o) gives = moved-leaves s name a part r shows l l' is (offsets wide) (offsets source) long long' same some _ _ o kept gives
      by-result (Err e) gives = moved-refused s name a part r shows l l' is (offsets wide) (offsets source) long long' same _ _ e kept gives

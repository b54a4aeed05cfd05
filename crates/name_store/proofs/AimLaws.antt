-- What a valid write to a name's array means for the buffer with its number.
use Rattle.std.proofs.Common.{◌≡◌, ◌+◌, ◌≤◌, ℕ, List, length, map, refl, sym, ap, subst, ◌∙◌, Option, Some, None, Ok, All, false, arith}
use Rattle.name_store.proofs.Words.{AllByRecursion, length-set, All-from_recursion, Descr, item_size, decode_item, LeafValue, Layout, offsets, Fits, IsNested, offsets_of, items_at, State, Array, find_array, descr_of, written, AnswersWrite, Holds, start_at, IsAim, Supplies, MayWrite, LeadsTo, target_offsets, named_array, present, Entry, Home, Slot, Source, One, Block, Target, View, Plan, IsHome, AreItems, CanPut, CanWrite, MayPut, Puts, parts_of, with_source, without_slot}
use Rattle.name_store.specs.declared.target.Source.TheVariants.{Buffer}
use Rattle.name_store.proofs.PartLaws.{part-within}
use Rattle.name_store.proofs.RewriteLaws.{lender-is, parts-whole}
use Rattle.name_store.proofs.ShowLaws.{inside-places}
use Rattle.name_store.proofs.SlotLaws.{slot_at-within}
use Rattle.name_store.proofs.SourceLaws.{map-replicated, alike-items}
use Rattle.name_store.proofs.ViewLaws.{view-slot, view-fits, view-reads}
use Rattle.name_store.proofs.WriteLaws.{home-some, size-is, home-fits, within, spread, written-state}
use Rattle.name_store.proofs.PastLaws.{Slots}

module _ (es : List (List ℕ × Entry)) (slots : Slots) (name : List ℕ) (number width : ℕ) (home : IsHome es slots name number width) where
  abbrev state : State
  state = present es slots

  abbrev s : Slot
  s = home.slot

  abbrev at : Home
  at = record { number = number; width = width }

  abbrev others : List (Option Slot)
  others = without_slot slots number

  module _ (array : Array) (places : List ℕ) where
    fits : (layout : Layout) → find_array (map named_array es) name ≡ Some array → MayWrite state array (View layout) → Fits layout (length s.block) width
    fits layout found may = home-fits es slots name number width home array found layout may.0

    -- the items of a plan lie within the buffer
    planned : (target : Target) → LeadsTo state name target array places → All (λ offset. offset + width ≤ length s.block) (target_offsets target)
    planned target leads =
        let e = home.entry in
        let small : start_at s.descr e.path + width ≤ item_size s.descr = subst (λ n. start_at s.descr e.path + n ≤ item_size s.descr) (sym home.width_is) (part-within s.descr s.is_whole.legal e.path home.lies.laid.part) in
        subst (All (λ offset. offset + width ≤ length s.block)) (sym (spread es slots name number width home array leads.found (target_offsets target) places leads.offsets_are))
        (All-from_recursion (λ offset. offset + width ≤ length s.block) (offsets_of (item_size s.descr) (start_at s.descr e.path) places)
        (inside-places (item_size s.descr) (start_at s.descr e.path) width s.items (length s.block) places (within es slots name number width home array leads.found places leads.among) (sym s.is_whole.whole) small))

    may-put : (target : Target) → LeadsTo state name target array places → MayWrite state array target → MayPut target (length s.block) width
    may-put (View layout) leads may = (fits layout leads.found may, subst (IsNested (offsets layout)) (size-is es slots name number width home array leads.found) may.1)
    may-put (Plan plan) leads may = planned (Plan plan) leads

  module _ (array : Array) (found : find_array (map named_array es) name ≡ Some array) (n : ℕ) where
    abbrev descr : Descr
    descr = descr_of state array

    size : item_size descr ≡ width
    size = size-is es slots name number width home array found

    are-items : (source : Source) (items : List (List LeafValue)) → Supplies state descr n source items → AreItems others width s.block n source
    are-items (One bytes) items has = has.0 ∙ size
    are-items (Block owned) items has = (has.0.alike.size ∙ size, has.0.count)
    are-items (Buffer q layout) items has =
        let from = has.0 in
        let slot = view-slot es slots q from.path layout false from has.1.view in (
          omega (arith, length-set slots number None, slot_at-within slots q slot.0 slot.1),
          subst (λ bytes. Fits layout (length bytes) width) (sym (lender-is slots number s q slot.0 home.there slot.1))
              (subst (Fits layout (length slot.0.block)) (has.1.alike.size ∙ size) (view-fits es slots q from.path layout false from has.1.view slot.0 slot.1)),
          has.1.count,
        )

    parts-are : (source : Source) (items : List (List LeafValue)) → Supplies state descr n source items → map (decode_item descr) (parts_of others width s.block n source) ≡ items
    parts-are (One bytes) items has = map-replicated (decode_item descr) n bytes.items ∙ has.1
    parts-are (Block owned) items has = alike-items owned.descr descr width owned.block (offsets owned.layout) has.0.alike size ∙ has.1
    parts-are (Buffer q layout) items has =
        let from = has.0 in
        let slot = view-slot es slots q from.path layout false from has.1.view in
        ap (λ bytes. map (decode_item descr) (items_at (offsets layout) width bytes)) (lender-is slots number s q slot.0 home.there slot.1)
        ∙ alike-items (descr_of state from) descr width slot.0.block (offsets layout) has.1.alike size
        ∙ sym (view-reads es slots q from.path layout false from has.1.view slot.0 slot.1)
        ∙ has.2

  module _ (target : Target) (source : Source) (aim : IsAim state name target source) where
    abbrev n : ℕ
    n = length (target_offsets target)

    pub can-here : CanPut others width target source s.block
    can-here = record {
      small = s.is_whole.small;
      some = home-some es slots name number width home;
      inside = planned aim.array aim.places target aim.leads;
      may = may-put aim.array aim.places target aim.leads aim.may_write;
      are = are-items aim.array aim.leads.found n source aim.items aim.supplies;
    }

    pub can-put : CanWrite slots at target source
    can-put = record { slot = s; there = home.there; can = can-here }

    pub whole-parts : AllByRecursion (λ part. length part ≡ width) (parts_of others width s.block n source)
    whole-parts = parts-whole others width s.block n source can-here.are

    pub put-answers : (h : Holds es slots) (after : Slots) → Puts slots at target source after → AnswersWrite state name target source (Ok n) (present es after)
    put-answers h after puts = (
      refl,
      λ array places items leads has.
          written-state es slots name number width home h (with_source others width target source s.block) after (puts s home.there) target array places leads (parts_of others width s.block n source) whole-parts refl
          ∙ ap (written state array places) (parts-are array leads.found n source items has),
    )

-- Items that are written to a slot that was borrowed.
use Rattle.std.proofs.Common.{replicate, ◌≡◌, ◌+◌, ◌*◌, ◌≤◌, ◌<◌, ℕ, zero, suc, true, false, List, [], ◌∷◌, length, refl, sym, ap, subst, ◌∙◌, cond, Option, Some, nat_eq, get_or, slice_set, All, Result, Ok, Err, IfOk, IfErr, None}
use Rattle.name_store.proofs.Words.{All-replicate, AllByRecursion, ArePaired, option_map, eqb-true, recursion_from_All, same_Some, item_size, items_at, Layout, multiples, offsets, Fits, offsets_within, Owned, users_of, users_at, target_offsets, slot_at, Slot, Home, Source, One, Block, Target, IsPacked, HasNew, stand, AreSame, AreItems, CanPut, CanWrite, Puts, block_from, parts_of, with_source, without_slot}
use Rattle.name_store.specs.declared.target.Source.TheVariants.{Buffer}
use Rattle.name_store.proofs.LaidLaws.{offsets-within}
use Rattle.name_store.proofs.RestoreLaws.{length-with}
use Rattle.name_store.proofs.SlotLaws.{slot_at-get_or, slot_at-set, slot_at-within}
use Rattle.name_store.proofs.SourceLaws.{items-whole}

pub lent-new : (slots : List (Option Slot)) (number : ℕ) (was now old : Slot) (bytes : Slot → List ℕ) → number < length slots → slot_at slots number ≡ Some was → now.descr ≡ was.descr → now.items ≡ was.items → now.users ≡ was.users → now.block ≡ bytes was → slot_at slots number ≡ Some old →
    HasNew slots number old (bytes old) (slice_set slots number (Some now))
lent-new slots number was now old bytes inside there descr items users block is =
    let same : was ≡ old = same_Some was old (sym there ∙ is) in record {
      new = now;
      rewritten = record { descr = descr ∙ ap (λ (s : Slot). s.descr) same; items = items ∙ ap (λ (s : Slot). s.items) same; block = block ∙ ap bytes same; users = users ∙ ap (λ (s : Slot). s.users) same };
      set = λ other. slot_at-set slots number (Some now) other inside;
    }

-- of two values set in the same slot, the last one remains
pub set-twice : (slots : List (Option Slot)) (number : ℕ) (first last : Option Slot) → slice_set (slice_set slots number first) number last ≡ slice_set slots number last
set-twice [] number first last = refl
set-twice (slot ∷ slots) zero first last = refl
set-twice (slot ∷ slots) (suc number) first last = ap (λ rest. slot ∷ rest) (set-twice slots number first last)

-- the users of each buffer are unchanged
pub new-users : (slots : List (Option Slot)) (number : ℕ) (s : Slot) (bytes : List ℕ) (after : List (Option Slot)) → slot_at slots number ≡ Some s → HasNew slots number s bytes after → (q : ℕ) → users_at after q ≡ users_at slots q
new-users slots number s bytes after there new q =
    elim (nat_eq q number) as (λ t. nat_eq q number ≡ t → slot_at after q ≡ cond t (Some new.new) (slot_at slots q) → users_at after q ≡ users_at slots q) [
      | true ↦ λ is there-is. ap users_of there-is ∙ new.rewritten.users ∙ ap users_of (sym (ap (slot_at slots) (eqb-true q number is) ∙ there))
      | false ↦ λ _ there-is. ap users_of there-is
    ] refl (new.set q)

-- with the same bytes, the contents of each slot are unchanged
pub kept-same : (slots : List (Option Slot)) (number : ℕ) (s : Slot) (after : List (Option Slot)) → slot_at slots number ≡ Some s → HasNew slots number s s.block after → AreSame slots after
kept-same slots number s after there new q = (
  elim (nat_eq q number) as (λ t. nat_eq q number ≡ t → slot_at after q ≡ cond t (Some new.new) (slot_at slots q) → option_map stand (slot_at after q) ≡ option_map stand (slot_at slots q)) [
    | true ↦ λ is there-is.
        ap (option_map stand) there-is
        ∙ (λ i. Some (new.rewritten.descr i, new.rewritten.items i, new.rewritten.block i))
        ∙ ap (option_map stand) (sym (ap (slot_at slots) (eqb-true q number is) ∙ there))
    | false ↦ λ _ there-is. ap (option_map stand) there-is
  ] refl (new.set q),
  new-users slots number s s.block after there new q,
)

-- a buffer is among the others, or it is the one being written
pub lender-is : (slots : List (Option Slot)) (number : ℕ) (s : Slot) (q : ℕ) (x : Slot) → slot_at slots number ≡ Some s → slot_at slots q ≡ Some x → block_from (slot_at (without_slot slots number) q) s.block ≡ x.block
lender-is slots number s q x here there =
    ap (λ o. block_from o s.block) (slot_at-set slots number None q (slot_at-within slots number s here))
    ∙ elim (nat_eq q number) as (λ t. nat_eq q number ≡ t → block_from (cond t None (slot_at slots q)) s.block ≡ x.block) [
      | true ↦ λ is. ap (λ (y : Slot). y.block) (same_Some s x (sym here ∙ ap (slot_at slots) (sym (eqb-true q number is)) ∙ there))
      | false ↦ λ _. ap (λ o. block_from o s.block) there
    ] refl

-- a buffer that is not among the others is the one being written
pub none-other : (slots : List (Option Slot)) (number : ℕ) (s : Slot) (q : ℕ) (x : Slot) → slot_at slots number ≡ Some s → slot_at slots q ≡ Some x → slot_at (without_slot slots number) q ≡ None → q ≡ number
none-other slots number s q x here there none =
    elim (nat_eq q number) as (λ t. nat_eq q number ≡ t → q ≡ number) [
      | true ↦ λ is. eqb-true q number is
      | false ↦ λ is.
          let full = slot_at-set slots number None q (slot_at-within slots number s here) ∙ ap (λ t. cond t None (slot_at slots q)) is ∙ there in
          let no : ⊥ = cc in absurd no
    ] refl

pub owned-within : (owned : Owned) (width : ℕ) → item_size owned.descr ≡ width → All (λ offset. offset + width ≤ length owned.block) (offsets owned.layout)
owned-within owned width size = offsets_within owned.layout (length owned.block) width (subst (Fits owned.layout (length owned.block)) size owned.fills_block.fits)

-- the items of a buffer lie in its block, and they are the items to write
module _ (others : List (Option Slot)) (width : ℕ) (block : List ℕ) (n number : ℕ) (from : Layout) (are : AreItems others width block n (Buffer number from)) (o d : Option Slot) (is : get_or others number d ≡ o) where
  there : slot_at others number ≡ o
  there = sym (slot_at-get_or others number d are.0) ∙ is

  pub lent-fits : Fits from (length (block_from o block)) width
  lent-fits = subst (λ o. Fits from (length (block_from o block)) width) there are.1

  pub lent-within : All (λ offset. offset + width ≤ length (block_from o block)) (offsets from)
  lent-within = offsets_within from (length (block_from o block)) width lent-fits

  pub lent-paired : (os : List ℕ) → All (λ offset. offset + width ≤ length block) os → length os ≡ n → ArePaired os (offsets from) width (block_from o block) block
  lent-paired os inside many = record { to_in = inside; from_in = lent-within; count = are.2 ∙ sym many }

  pub lent-parts : items_at (offsets from) width (block_from o block) ≡ parts_of others width block n (Buffer number from)
  lent-parts = ap (λ o. items_at (offsets from) width (block_from o block)) (sym there)

  pub lent-packed : {E : Type 0} (r : Result (List ℕ) E) → IfOk r (λ items. length items ≡ length (offsets from) * width) → IfOk r (λ items. items_at (multiples width (length (offsets from))) width items ≡ items_at (offsets from) width (block_from o block)) →
      IfOk r (IsPacked n width (parts_of others width block n (Buffer number from)))
  lent-packed (Ok items) long same = record { long = long ∙ ap (λ n. n * width) are.2; items = ap (λ n. items_at (multiples width n) width items) (sym are.2) ∙ same ∙ lent-parts }
  lent-packed (Err e) _ _ = tt

-- each item has `width` bytes
pub parts-whole : (others : List (Option Slot)) (width : ℕ) (block : List ℕ) (n : ℕ) (source : Source) → AreItems others width block n source → AllByRecursion (λ part. length part ≡ width) (parts_of others width block n source)
parts-whole others width block n (One item) are = recursion_from_All (λ part. length part ≡ width) (replicate n item.items) (All-replicate (λ part. length part ≡ width) n item.items are)
parts-whole others width block n (Block owned) are = items-whole (offsets owned.layout) width owned.block (offsets-within owned.layout (length owned.block) width (subst (Fits owned.layout (length owned.block)) are.0 owned.fills_block.fits))
parts-whole others width block n (Buffer number layout) are =
    let from = block_from (slot_at others number) block in items-whole (offsets layout) width from (offsets-within layout (length from) width are.1)

-- a slot that was taken out is put back, with new bytes in its block
module _ (slots : List (Option Slot)) (home : Home) (target : Target) (source : Source) (can : CanWrite slots home target source) (s : Slot) (there : slot_at slots home.number ≡ Some s) where
  pub can-slot : CanPut (without_slot slots home.number) home.width target source s.block
  can-slot = subst (λ (x : Slot). CanPut (without_slot slots home.number) home.width target source x.block) (same_Some can.slot s (sym can.there ∙ there)) can.can

  module _ (mid : Option Slot) (x : Slot) (descr : x.descr ≡ s.descr) (items : x.items ≡ s.items) (users : x.users ≡ s.users) where
    abbrev after : List (Option Slot)
    after = slice_set (slice_set slots home.number mid) home.number (Some x)

    back : (bytes : Slot → List ℕ) → x.block ≡ bytes s → (old : Slot) → slot_at slots home.number ≡ Some old → HasNew slots home.number old (bytes old) after
    back bytes block old is =
        subst (HasNew slots home.number old (bytes old)) (sym (set-twice slots home.number mid (Some x)))
        (lent-new slots home.number s x old bytes (slot_at-within slots home.number s there) there descr items users block is)

    pub puts-back : x.block ≡ with_source (without_slot slots home.number) home.width target source s.block → Puts slots home target source after
    puts-back block old is = back (λ y. with_source (without_slot slots home.number) home.width target source y.block) block old is

    pub keeps-back : x.block ≡ s.block → AreSame slots after
    keeps-back block = kept-same slots home.number s after there (back (λ y. y.block) block s there)

module _ (others : List (Option Slot)) (width : ℕ) (target : Target) (source : Source) (block : List ℕ) (can : CanPut others width target source block) where
  -- the length of the block is unchanged
  pub length-put : length (with_source others width target source block) ≡ length block
  length-put =
      let os = target_offsets target in
      length-with width os (parts_of others width block (length os) source) block (parts-whole others width block (length os) source can.are)
      (recursion_from_All (λ o. o + width ≤ length block) os can.inside)

  pub length-tried : {A E : Type 0} (r : Result A E) (new : List ℕ) → IfOk r (λ _. new ≡ with_source others width target source block) → IfErr r (λ _. new ≡ block) → length new ≡ length block
  length-tried (Ok a) new written _ = ap length written ∙ length-put
  length-tried (Err e) new _ kept = ap length kept

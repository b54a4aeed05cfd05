-- New arrays, which fill a block of their own.
use Rattle.std.proofs.Common.{◌≡◌, ◌+◌, ◌*◌, map, ℕ, true, List, [], ◌∷◌, refl, sym, ap, subst, ◌∙◌, arith}
use Rattle.name_store.proofs.Words.{item_size, count, offsets, Fits, offsets_of, Owned, items_in, places_of, own_array, own_buffer, LiesIn, array_at, buffer_in, IsLaidOut, Entry, Slot}
use Rattle.name_store.proofs.LaidLaws.{laid-same}

from_start : (item : ℕ) (places : List ℕ) → map (λ place. item * place) places ≡ offsets_of item 0 places
from_start item [] = refl
from_start item (place ∷ places) = let same : item * place ≡ item * place + 0 = omega arith in λ i. same i ∷ from_start item places i

module _ (o : Owned) (slot : Slot) (e : Entry) (descr-is : slot.descr ≡ o.descr) (items-are : slot.items ≡ count o.layout.shape) (block-is : slot.block ≡ o.block)
    (layout-is : e.layout ≡ o.layout) (item-is : e.item ≡ item_size o.descr) (path-is : e.path ≡ []) (writable-is : e.writable ≡ true) where
  own-laid : IsLaidOut o.descr (count o.layout.shape) (own_array e.number o) o.layout true
  own-laid = record {
    part = tt;
    shape = refl;
    places = o.fills_block.whole ∙ from_start (item_size o.descr) (places_of (item_size o.descr) (offsets o.layout));
    writable_is = refl;
    fits = subst (λ len. Fits o.layout len (item_size o.descr)) o.fills_block.fills o.fills_block.fits;
    nested = λ _. o.fills_block.nested;
  }

  pub fresh-array_at : array_at e ≡ own_array e.number o
  fresh-array_at = λ i. record { buffer = e.number; path = path-is i; shape = (layout-is i).shape; places = places_of (item-is i) (offsets (layout-is i)); writable = writable-is i }

  pub fresh-lies : LiesIn slot e
  fresh-lies = record {
    item = item-is ∙ ap item_size (sym descr-is);
    laid = laid-same o.descr slot.descr (count o.layout.shape) slot.items (own_array e.number o) (array_at e) o.layout e.layout true e.writable
        (sym descr-is) (sym items-are) (sym fresh-array_at) (sym layout-is) (sym writable-is) own-laid;
  }

  pub fresh-buffer : buffer_in slot ≡ own_buffer o
  fresh-buffer = λ i. record { descr = descr-is i; items = items_in (descr-is i) (items-are i) (block-is i) }

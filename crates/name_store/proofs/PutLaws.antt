-- Reading and putting parts of items in a block.
use Rattle.std.proofs.Common.{◌≡◌, ◌+◌, ◌*◌, ◌<◌, ◌≤◌, ℕ, List, [], ◌∷◌, ◌++◌, length, take, drop, map, refl, sym, ap, ◌∙◌, unwrap_or, slice_set, append_assoc, arith, length-take, length-drop}
use Rattle.name_store.proofs.Words.{AllByRecursion, drop-drop, Descr, items_in, item_from, item_size, decode_item, put, with_items, length-put, offsets_of, placed_item, write, IsPathOf, descr_at, start_at, span_at, part_at, with_part, IsElementType}
use Rattle.name_store.proofs.BlockLaws.{put-add, put-item, item-at, item-inside}
use Rattle.name_store.proofs.PartLaws.{put-front, part-within, part-read, part-put}

-- putting bytes within an item is the same as putting the item with these bytes in it
put-part : (width at start : ℕ) (part block : List ℕ) → start + length part ≤ width → at + width ≤ length block →
    put (at + start) part block ≡ put at (put start part (take width (drop at block))) block
put-part width at start part block fits within =
    put-add at start part block
    ∙ ap (λ back. take at block ++ back) (put-front start width part (drop at block) fits (omega (arith, length-drop at block)))
    ∙ ap (λ back. take at block ++ (put start part (take width (drop at block)) ++ back)) (drop-drop width at block ∙ ap (λ n. drop (at + n) block) (sym (whole-item width at start part block fits within)))
    ∙ sym (append_assoc (take at block) (put start part (take width (drop at block))) (drop (at + length (put start part (take width (drop at block)))) block))
  where
    whole-item : (width at start : ℕ) (part block : List ℕ) → start + length part ≤ width → at + width ≤ length block → length (put start part (take width (drop at block))) ≡ width
    whole-item width at start part block fits within =
        let long : length (take width (drop at block)) ≡ width = omega (arith, length-take width (drop at block), length-drop at block) in
        length-put start part (take width (drop at block)) (omega (arith, long)) ∙ long

module _ (descr : Descr) (legal : IsElementType descr) (path : List ℕ) (there : IsPathOf descr path) where
  abbrev span : ℕ × ℕ
  span = span_at descr path

  abbrev start : ℕ
  start = start_at descr path

  abbrev part_descr : Descr
  part_descr = descr_at descr path

  -- the parts of the items at places are read where they begin
  pub items-read : (n : ℕ) (block places : List ℕ) → AllByRecursion (λ place. place < n) places →
      map (λ place. part_at span (placed_item (items_in descr n block) place)) places ≡ map (item_from part_descr block) (offsets_of (item_size descr) start places)
  items-read n block [] within = refl
  items-read n block (place ∷ places) within =
      λ i. (ap (λ o. part_at span (unwrap_or o [])) (item-at descr n place block within.0) ∙ part-read descr legal path there block (item_size descr * place)) i ∷ items-read n block places within.1 i

  one-part : (n place : ℕ) (part block : List ℕ) → place < n → length part ≡ item_size part_descr → n * item_size descr ≤ length block →
      items_in descr n (put (item_size descr * place + start) part block)
      ≡ slice_set (items_in descr n block) place (with_part span (decode_item part_descr part) (placed_item (items_in descr n block) place))
  one-part n place part block within whole fits =
      ap (items_in descr n) (put-part (item_size descr) at start part block few inside)
      ∙ put-item descr n place (put start part old) block within (length-put start part old (omega (arith, few, long)) ∙ long) fits
      ∙ ap (slice_set (items_in descr n block) place)
      (part-put descr legal path there part old whole long
      ∙ ap (with_part span (decode_item part_descr part)) (sym (ap (λ o. unwrap_or o []) (item-at descr n place block within))))
    where
      at : ℕ
      at = item_size descr * place

      old : List ℕ
      old = take (item_size descr) (drop at block)

      few : start + length part ≤ item_size descr
      few = omega (arith, whole, part-within descr legal path there)

      inside : at + item_size descr ≤ length block
      inside = omega (arith, fits, item-inside (item_size descr) n place within)

      long : length old ≡ item_size descr
      long = omega (arith, length-take (item_size descr) (drop at block), length-drop at block, inside)

  -- parts are put in the items at places, one after the other
  pub with_items-items : (n : ℕ) (places : List ℕ) (parts : List (List ℕ)) (bytes : List ℕ) → AllByRecursion (λ place. place < n) places → AllByRecursion (λ part. length part ≡ item_size part_descr) parts → n * item_size descr ≤ length bytes →
      items_in descr n (with_items (offsets_of (item_size descr) start places) parts bytes) ≡ write span places (map (decode_item part_descr) parts) (items_in descr n bytes)
  with_items-items n [] parts bytes within whole fits = refl
  with_items-items n (place ∷ places) [] bytes within whole fits = refl
  with_items-items n (place ∷ places) (part ∷ parts) bytes within whole fits =
      let long : length (put (item_size descr * place + start) part bytes) ≡ length bytes = length-put (item_size descr * place + start) part bytes (omega (arith, whole.0, item-inside (item_size descr) n place within.0, part-within descr legal path there)) in
      with_items-items n places parts (put (item_size descr * place + start) part bytes) within.1 whole.1 (omega arith)
      ∙ ap (write span places (map (decode_item part_descr) parts)) (one-part n place part bytes within.0 whole.0 fits)

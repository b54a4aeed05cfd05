-- Laws of adjacent items.
use Rattle.std.proofs.Common.{◌≡◌, ◌+◌, ◌*◌, ◌≤◌, ℕ, suc, pos, List, ◌∷◌, ◌++◌, length, sym, ap, ◌∙◌, arith, suc-mul, add-mul, mul-le-mul_right, append_assoc}
use Rattle.arrays.proofs.Words.{ints, flat_map-append, item_at, EachWithin, Run, run_offsets, length-run_offsets, length-first, all_offsets, assigned-append, assigned, packed_run, row_offsets, joined_at, length-row, row-split}

pub row-within : (len at width n : ℕ) → at + n * width ≤ len → EachWithin len at (pos width) width n
row-within len at width n ends = record {
  each = λ k low.
      let most : suc k * width ≤ n * width = mul-le-mul_right width low in
      (omega (arith, ints), omega (arith, ints, most, suc-mul k width));
}

-- the number of bytes of a run and of those after it
pub parts : (left left' : List Run) (run : Run) (width : ℕ) → left ≡ run ∷ left' → length (all_offsets left) * width ≡ run.count * width + length (all_offsets left') * width
parts left left' run width walked =
    ap (λ l. length (all_offsets l) * width) walked ∙ ap (λ n. n * width) (length-first run left') ∙ add-mul run.count (length (all_offsets left')) width

-- one more run is appended
pub joined-next : (left left' : List Run) (run : Run) (width : ℕ) (block pushed before : List ℕ) → left ≡ run ∷ left' → pushed ≡ before ++ joined_at (run_offsets run) width block
    → pushed ++ joined_at (all_offsets left') width block ≡ before ++ joined_at (all_offsets left) width block
joined-next left left' run width block pushed before walked is =
    let item = λ (o : ℕ). item_at o width block in
    ap (λ l. l ++ joined_at (all_offsets left') width block) is ∙ append_assoc before (joined_at (run_offsets run) width block) (joined_at (all_offsets left') width block)
    ∙ ap (λ l. before ++ l) (sym (flat_map-append item (run_offsets run) (all_offsets left'))) ∙ ap (λ l. before ++ joined_at (all_offsets l) width block) (sym walked)

-- one more run is scattered
pub scattered-next : (left left' : List Run) (run from : Run) (at width : ℕ) (other block block' whole : List ℕ) → left ≡ run ∷ left' → from ≡ packed_run at width run.count → block' ≡ assigned (run_offsets run) (run_offsets from) width other block →
    assigned (all_offsets left) (row_offsets at width (length (all_offsets left))) width other block ≡ whole → assigned (all_offsets left') (row_offsets (at + run.count * width) width (length (all_offsets left'))) width other block' ≡ whole
scattered-next left left' run from at width other block block' whole walked is moved so_far =
    let next = row_offsets (at + run.count * width) width (length (all_offsets left')) in
    ap (assigned (all_offsets left') next width other) (moved ∙ ap (λ r. assigned (run_offsets run) (run_offsets r) width other block) is)
    ∙ sym (assigned-append (run_offsets run) (row_offsets at width run.count) (all_offsets left') next width other block (length-run_offsets run ∙ sym (length-row at width run.count)))
    ∙ ap (λ l. assigned (all_offsets (run ∷ left')) l width other block) (sym (ap (row_offsets at width) (length-first run left') ∙ row-split at width run.count (length (all_offsets left'))))
    ∙ (λ i. assigned (all_offsets (sym walked i)) (row_offsets at width (length (all_offsets (sym walked i)))) width other block)
    ∙ so_far

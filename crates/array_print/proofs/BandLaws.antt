-- An axis of an array that is sent, block by block.
use Rattle.std.proofs.Common.{Option, ◌≡◌, ℕ, ◌+◌, ◌-◌, ◌<◌, ◌≤◌, pos, ◌+ℤ◌, ◌*ℤ◌, List, ◌++◌, map, length, drop, get_or, sym, subst, ◌∙◌, ap, arith}
use Rattle.array_print.proofs.Words.{Layout, block_text, separator, SendsPart, opened, IsPart, part_offsets, lead, part-longer}
use Rattle.array_print.proofs.PrintLaws.{block_at, opened-next, opened-rest}
use Rattle.array_print.proofs.PartLaws.{part-block}
use Rattle.array_print.specs.declared.bands.Room.{Room}
use Rattle.array_print.specs.inside.Pushed.{Held}
use Rattle.array_print.proofs.PushLaws.{held-more, held-same, part-after}

module _ (f : ℕ → List ℕ) (l : Layout) (axis start : ℕ) (below : axis < length l.shape) where
  -- the blocks so far, and the text of all
  abbrev pub so_far : ℕ → List ℕ
  so_far k = opened f l.shape axis k (part_offsets l axis start)

  abbrev pub all : List ℕ
  all = block_text axis (drop axis l.shape) (map f (part_offsets l axis start))

  abbrev pub between : ℕ → List ℕ
  between k = lead k (separator axis (length l.shape - axis - 1))

  abbrev pub block : ℕ → List ℕ
  block k = block_at f l.shape axis k (part_offsets l axis start)

  -- no more blocks will be sent
  pub cut : (w w' : Option (List ℕ)) (old : List ℕ) (k : ℕ) → k ≤ get_or l.shape axis 0 → SendsPart w w' (old ++ so_far k) → SendsPart w w' (old ++ all)
  cut w w' old k most part =
      let r = opened-rest f l.shape axis (get_or l.shape axis 0 - k) k (part_offsets l axis start) below (omega arith) in
      subst (λ t. SendsPart w w' (old ++ t)) (sym r.1) (part-longer w w' old (so_far k) r.0 part)

  module _ {w w1 : Option (List ℕ)} {old held : Room} (k : ℕ) (lengths : List ℕ) (low : k < get_or l.shape axis 0) (same : lengths ≡ l.shape) (sent : Held (so_far k) w w1 old held) where
    abbrev pub led : List ℕ
    led = lead k (separator axis (length lengths - axis - 1))

    led-is : led ≡ between k
    led-is = ap (λ ls. lead k (separator axis (length ls - axis - 1))) same

    -- a fault in the next block, or before it
    cut-next : (w' : Option (List ℕ)) → SendsPart w1 w' (held.text.items ++ (between k ++ block k)) → SendsPart w w' (old.text.items ++ all)
    cut-next w' fault =
        cut w w' old.text.items (k + 1) (omega (arith, low)) (subst (λ t. SendsPart w w' (old.text.items ++ t)) (sym (opened-next f l.shape axis k (part_offsets l axis start))) (part-after sent w' (between k ++ block k) fault))

    pub cut-before : (w' : Option (List ℕ)) → SendsPart w1 w' (held.text.items ++ led) → SendsPart w w' (old.text.items ++ all)
    cut-before w' fault = cut-next w' (part-longer w1 w' held.text.items (between k) (block k) (subst (λ t. SendsPart w1 w' (held.text.items ++ t)) led-is fault))

    module _ (next len item : ℕ) (part : IsPart l axis start len item) (is : pos next ≡ pos start +ℤ get_or l.strides axis (pos 0) *ℤ pos k) where
      -- the text of the next block
      abbrev pub text : List ℕ
      text = block_text (axis + 1) (drop (axis + 1) l.shape) (map f (part_offsets l (axis + 1) next))

      both : led ++ text ≡ between k ++ block k
      both = ap (λ t. t ++ text) led-is ∙ ap (λ os. between k ++ block_text (axis + 1) (drop (axis + 1) l.shape) (map f os)) (sym (part-block l axis start len item below part k next low is))

      -- the next block is sent
      pub sent-more : {w2 : Option (List ℕ)} {new : Room} → Held (led ++ text) w1 w2 held new → Held (so_far (k + 1)) w w2 old new
      sent-more more = held-same (ap (λ t. so_far k ++ t) both ∙ sym (opened-next f l.shape axis k (part_offsets l axis start))) (held-more sent more)

      pub cut-within : (w' : Option (List ℕ)) → SendsPart w1 w' (held.text.items ++ (led ++ text)) → SendsPart w w' (old.text.items ++ all)
      cut-within w' fault = cut-next w' (subst (λ t. SendsPart w1 w' (held.text.items ++ t)) both fault)

-- Axes of length 1: their brackets stand around the text of what is inside them.
use Rattle.std.proofs.Common.{◌≡◌, ℕ, zero, suc, ◌+◌, ◌*◌, ◌<◌, ◌≤◌, pos, List, [], ◌∷◌, ◌++◌, codes, map, length, drop, take, replicate, get_or, sym, ◌∙◌, ap, subst, arith, take_all, append_assoc, add-one, zero-mul}
use Rattle.std.proofs.lemmas.List.{replicate_more}
use Rattle.array_print.proofs.Words.{append-nil, Layout, count, block_text, opened, IsPart, part_offsets}
use Rattle.array_print.proofs.PrintLaws.{opened-next, opened-end}
use Rattle.array_print.proofs.PartLaws.{at-first, part-some, part-inner, part-block, length-part}
use Rattle.array_print.proofs.RepeatLaws.{count-outer}

module _ (l : Layout) (start len item : ℕ) where
  -- the first block of an axis
  first-block : (axis : ℕ) → axis < length l.shape → IsPart l axis start len item →
      take (count (drop (axis + 1) l.shape)) (drop (0 * count (drop (axis + 1) l.shape)) (part_offsets l axis start)) ≡ part_offsets l (axis + 1) start
  first-block axis below part =
      part-block l axis start len item below part 0 start (part-some l axis start len item below part).0 (at-first (get_or l.strides axis (pos 0)) start)

  -- it is the whole axis
  one-block : (axis : ℕ) → axis < length l.shape → IsPart l axis start len item → get_or l.shape axis 0 ≡ 1 → part_offsets l axis start ≡ part_offsets l (axis + 1) start
  one-block axis below part one =
      let c = count (drop (axis + 1) l.shape) in
      let offsets = part_offsets l axis start in
      let single : 1 * c ≡ c = omega arith in
      let all : length offsets ≤ c = omega (arith, length-part l axis start, count-outer l axis below, ap (λ n. n * c) one, single) in
      sym (take_all c offsets all) ∙ ap (λ m. take c (drop m offsets)) (sym (zero-mul c)) ∙ first-block axis below part

  one-inner : (axis : ℕ) → axis < length l.shape → IsPart l axis start len item → IsPart l (axis + 1) start len item
  one-inner axis below part =
      part-inner l axis start len item below part 0 start (part-some l axis start len item below part).0 (at-first (get_or l.strides axis (pos 0)) start)

  pub ones-part : (d axis next : ℕ) → axis + d ≡ next → next ≤ length l.shape → ((k : ℕ) → axis ≤ k → k < next → get_or l.shape k 0 ≡ 1) → IsPart l axis start len item → IsPart l next start len item
  ones-part zero axis next is within ones part = let same : axis ≡ next = omega (arith, is) in subst (λ m. IsPart l m start len item) same part
  ones-part (suc d) axis next is within ones part =
      let below : axis < length l.shape = omega (arith, is, within) in
      ones-part d (axis + 1) next (omega (arith, is)) within (λ k from to. ones k (omega (arith, from)) to) (one-inner axis below part)

  pub ones-offsets : (d axis next : ℕ) → axis + d ≡ next → next ≤ length l.shape → ((k : ℕ) → axis ≤ k → k < next → get_or l.shape k 0 ≡ 1) → IsPart l axis start len item → part_offsets l axis start ≡ part_offsets l next start
  ones-offsets zero axis next is within ones part = let same : axis ≡ next = omega (arith, is) in ap (λ m. part_offsets l m start) same
  ones-offsets (suc d) axis next is within ones part =
      let below : axis < length l.shape = omega (arith, is, within) in
      one-block axis below part (ones axis (omega arith) (omega (arith, is)))
      ∙ ones-offsets d (axis + 1) next (omega (arith, is)) within (λ k from to. ones k (omega (arith, from)) to) (one-inner axis below part)

  -- the text of the items that the axes from `axis` on lead to
  abbrev text : (ℕ → List ℕ) → ℕ → List ℕ
  text f axis = block_text axis (drop axis l.shape) (map f (part_offsets l axis start))

  one-text : (f : ℕ → List ℕ) (axis : ℕ) → axis < length l.shape → get_or l.shape axis 0 ≡ 1 → IsPart l axis start len item → text f axis ≡ (91 ∷ text f (axis + 1)) ++ 93 ∷ []
  one-text f axis below one part =
      let offsets = part_offsets l axis start in
      let inside = block_text (axis + 1) (drop (axis + 1) l.shape) in
      let first : opened f l.shape axis 1 offsets ≡ 91 ∷ text f (axis + 1) = opened-next f l.shape axis 0 offsets ∙ ap (λ os. 91 ∷ inside (map f os)) (first-block axis below part) in
      sym (opened-end f l.shape axis 1 offsets below (sym one)) ∙ ap (λ o. o ++ codes "]") first

  pub ones-text : (f : ℕ → List ℕ) (d axis next : ℕ) → axis + d ≡ next → next ≤ length l.shape → ((k : ℕ) → axis ≤ k → k < next → get_or l.shape k 0 ≡ 1) → IsPart l axis start len item → text f axis ≡ (replicate d 91 ++ text f next) ++ replicate d 93
  ones-text f zero axis next is within ones part = let same : axis ≡ next = omega (arith, is) in ap (text f) same ∙ sym (append-nil (text f next))
  ones-text f (suc d) axis next is within ones part =
      let below : axis < length l.shape = omega (arith, is, within) in
      let inner = ones-text f d (axis + 1) next (omega (arith, is)) within (λ k from to. ones k (omega (arith, from)) to) (one-inner axis below part) in
      one-text f axis below (ones axis (omega arith) (omega (arith, is))) part
      ∙ ap (λ t. (91 ∷ t) ++ 93 ∷ []) inner
      ∙ append_assoc (91 ∷ (replicate d 91 ++ text f next)) (replicate d 93) (93 ∷ [])
      ∙ ap (λ r. (91 ∷ (replicate d 91 ++ text f next)) ++ r) (replicate_more d 93 ∙ ap (λ n. replicate n 93) (add-one d))

use Rattle.std.proofs.Common.{◌≡◌, ◌*◌, ◌++◌, [], ◌∷◌, length, take, drop, ap, subst, sym, ◌∙◌}
use Rattle.reductions.proofs.Words.{take-append_seam, length-encode, item_at, joined, length-joined, item_of_joined, Little, IsStored}
use Rattle.reductions.proofs.by_reduction.repeated.Goals as goal

pub returns-clause-items : goal.returns-clause-items
returns-clause-items g c k low =
    let item = c.write.new.bytes in
    let width = g.T.Number.WIDTH in
    let wide : length item ≡ width = ap length c.write.ensures.bytes ∙ length-encode (g.T.Number.scalar Little) _ ∙ g.met.T.Number.has_width Little in
    let rest = drop c.WIDTH.result (0 ∷ 0 ∷ 0 ∷ 0 ∷ 0 ∷ 0 ∷ 0 ∷ 0 ∷ []) in
    let slice : take c.WIDTH-3.result (item ++ rest) ≡ item = ap (λ n. take n (item ++ rest)) (c.WIDTH-3.ensures ∙ sym wide) ∙ take-append_seam item rest in
    let whole = c.finish.ensures ∙ c.push_repeated.ensures.bytes ∙ (λ i. (c.in_ok-block.ensures i).0 ++ joined (λ _. slice i) c.args.count) in
    subst (IsStored (g.T.Number.scalar Little) (g.T.Number.value c.args.total)) (sym (ap (item_at (k * width) width) whole ∙ item_of_joined (λ _. item) width c.args.count k (λ j _. wide) low))
    (record { value = c.write.ensures.value; exact = c.write.ensures.bytes })

pub returns-clause-len : goal.returns-clause-len
returns-clause-len g c =
    let item = c.write.new.bytes in
    let width = g.T.Number.WIDTH in
    let wide : length item ≡ width = ap length c.write.ensures.bytes ∙ length-encode (g.T.Number.scalar Little) _ ∙ g.met.T.Number.has_width Little in
    let rest = drop c.WIDTH.result (0 ∷ 0 ∷ 0 ∷ 0 ∷ 0 ∷ 0 ∷ 0 ∷ 0 ∷ []) in
    let slice : take c.WIDTH-3.result (item ++ rest) ≡ item = ap (λ n. take n (item ++ rest)) (c.WIDTH-3.ensures ∙ sym wide) ∙ take-append_seam item rest in
    let whole = c.finish.ensures ∙ c.push_repeated.ensures.bytes ∙ (λ i. (c.in_ok-block.ensures i).0 ++ joined (λ _. slice i) c.args.count) in
    ap length whole ∙ length-joined (λ _. item) width c.args.count (λ j _. wide)

use Rattle.std.proofs.Common.{pos, ◌+ℤ◌, ◌*ℤ◌, ◌≡◌, ◌*◌, ◌++◌, true, [], ◌∷◌, length, map, sym, ap, ◌∙◌, inr}
use Rattle.literal_items.proofs.Words.{length-joined, length-encode, list_all, err_from_is_err_and, ScalarDescr, number, is_value, size, items_in, numbers_from, joined, numbered}
use Rattle.literal_items.proofs.Counted.{numbers_read}
use Rattle.literal_items.proofs.Stepping.{range_items-refused, range_items-beyond, range_items-ok}
use Rattle.literal_items.proofs.range.range_block.Goals as goal

pub returns-in_err-count-clause-items : goal.returns-in_err-count-clause-items
returns-in_err-count-clause-items c =
    let p = err_from_is_err_and c.from_residual.result c.from_residual.ensures.1 in
    rw (p.1, p.2) (inr (range_items-refused _ _ _ _ _ (sym c.in_err-count.ensures.value)))

pub returns-then-not-are_values-clause-items : goal.returns-then-not-are_values-clause-items
returns-then-not-are_values-clause-items c =
    inr (range_items-beyond c.args.scalar.now c.args.start.now c.args.stop.now c.args.step.now c.in_ok-count.count (sym c.in_ok-count.ensures.value)
    (ap (list_all (is_value c.args.scalar.now)) c.in_ok-count.ensures.numbers ∙ sym c.are_values.ensures ∙ c.if-not-are_values.true))

pub returns-clause-whole : goal.returns-clause-whole
returns-clause-whole c =
    let made = numbered c.args.scalar.now c.args.start.now c.args.step.now in
    let bytes : c.finish.result ≡ joined made c.in_ok-count.count = c.finish.ensures ∙ c.on_number.ensures.0 ∙ ap (λ b. b.0 ++ joined made c.in_ok-count.count) c.in_ok-block.ensures in
    ap length bytes
    ∙ length-joined made (size c.args.scalar.now) c.in_ok-count.count (λ k low. length-encode c.args.scalar.now (number (c.args.start.now +ℤ c.args.step.now *ℤ pos k)))
    ∙ ap (λ n. n * size c.args.scalar.now) c.in_ok-count.ensures.count

pub returns-clause-items : goal.returns-clause-items
returns-clause-items c =
    let scalar = c.args.scalar.now in let start = c.args.start.now in let step = c.args.step.now in let n = c.in_ok-count.count in
    let made = numbered scalar start step in
    let held : list_all (is_value scalar) (numbers_from start step n) ≡ true = sym c.are_values.ensures ∙ c.if-not-are_values.false in
    let bytes : c.finish.result ≡ joined made n = c.finish.ensures ∙ c.on_number.ensures.0 ∙ ap (λ b. b.0 ++ joined made n) c.in_ok-block.ensures in
    range_items-ok scalar start c.args.stop.now step n _ (sym c.in_ok-count.ensures.value) (ap (list_all (is_value scalar)) c.in_ok-count.ensures.numbers ∙ held)
    (ap (map (λ value. number value ∷ [])) c.in_ok-count.ensures.numbers ∙ sym (numbers_read scalar start step n c.requires.number held)
    ∙ (λ i. items_in (ScalarDescr scalar) (c.in_ok-count.ensures.count i) (sym bytes i)))

use Rattle.std.proofs.Common.{◌≡◌, ◌+◌, ◌∷◌, [], ◌++◌, length, sym, ap, ◌∙◌}
use Rattle.reductions.proofs.Words.{integer, low_bits, run_offsets, first_place, absent-next, numbers_at}
use Rattle.reductions.proofs.LineLaws.{front, numbers-more, length-numbers, found_in, side_number}
use Rattle.reductions.proofs.parts.place_of.Goals as goal

pub returns-then-bits-clause-place : goal.returns-then-bits-clause-place
returns-then-bits-clause-place g c =
    let scalar = g.S.Number.scalar g.O.Ordered.order in
    let s = c.args.side in
    let same : g.S.Number.value c.number.result ≡ g.S.Number.value c.args.number = c.bits.ensures.exact ∙ ap (integer g.S.Number.SIGNED 8) c.if-bits.true ∙ sym c.bits-bits.ensures.exact in
    let is = c.number.ensures ∙ side_number scalar s c.loop-k.k (c.requires ∙ sym (g.met.S.Number.has_width g.O.Ordered.order)) in
    found_in scalar s.bytes.now (length s.bytes.now) s.width s.run c.loop-k.k (g.S.Number.value c.args.number) c.loop-k-test.true s.within c.loop-k.invariant (sym is ∙ same)

pub loop-k-preserved : goal.loop-k-preserved
loop-k-preserved g c =
    let scalar = g.S.Number.scalar g.O.Ordered.order in
    let s = c.args.side in
    let k = c.loop-k.k in
    let v = g.S.Number.value c.args.number in
    let numbers = numbers_at scalar s.bytes.now (run_offsets (front k s.run)) in
    let long = length-numbers scalar s.bytes.now (front k s.run) in
    let is = c.number.ensures ∙ side_number scalar s k (c.requires ∙ sym (g.met.S.Number.has_width g.O.Ordered.order)) in
    ap (first_place v) (numbers-more scalar s.bytes.now (length s.bytes.now) s.width s.run k c.loop-k-test.true s.within)
    ∙ (λ i. first_place v (numbers ++ sym is i ∷ []))
    ∙ absent-next v (g.S.Number.value c.number.result) numbers (c.loop-k.invariant ∙ sym long) (λ same. c.if-bits.false (sym c.bits.ensures.lowest.low ∙ ap (low_bits 8) same ∙ c.bits-bits.ensures.lowest.low))
    ∙ ap (λ n. n + 1) long

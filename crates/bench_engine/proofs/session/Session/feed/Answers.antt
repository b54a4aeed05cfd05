use Rattle.std.proofs.Common.{◌≡◌, ◌++◌, ◌+◌, ◌∷◌, [], List, ℕ, length, take, drop, sym, ap, ◌∙◌, refl, append_assoc, arith, length-drop}
use Rattle.bench_engine.proofs.Words.{append-nil, err_from_is_err_and, rest_of}
use Rattle.bench_engine.proofs.Feeding.{cut-newline, fed-newline, fed-nothing, fed-piece, fed_along, fed_in_part_along}
use Rattle.bench_engine.proofs.Lines.{first_newline, no_newline, newline_in_rest}
use Rattle.bench_engine.proofs.session.Session.feed.Goals as goal

pub loop-end-init : goal.loop-end-init
loop-end-init g c = record {
  few = omega arith;
  fed = (
    [],
    refl,
    λ held one holds. fed_along _ _ _ _ _ _ _ _ _ (sym (append-nil held)) (fed-nothing _ _ held c.args.self.now one holds),
  );
}

pub returns-in_err-finish_line-clause-told : goal.returns-in_err-finish_line-clause-told
returns-in_err-finish_line-clause-told g c =
    let p = err_from_is_err_and c.from_residual.result c.from_residual.ensures.1 in
    let so_far = c.loop-end.invariant.fed in
    let rest = c.loop-end.rest.now in
    let end = c.in-Some.end in
    let at = first_newline rest end (sym c.newline.ensures ∙ c.in-Some.is) in
    let parts = newline_in_rest c.args.bytes.now so_far.0 rest end so_far.1 at.0 at.2 in
    rw p.1 (λ held one holds.
    fed_in_part_along _ _ _ _ _ _ (joined held so_far.0 (take end rest) (10 ∷ drop (end + 1) rest) c.args.bytes.now parts)
    (cut-newline _ _ _ _ _ _ _ _ _ ((held ++ so_far.0) ++ take end rest) (drop (end + 1) rest) _ c.in_err-finish_line.ensures.told
    (fed-piece _ _ _ _ _ _ (held ++ so_far.0) (take end rest) c.loop-end.self _ at.1 refl refl c.hold.ensures (so_far.2 held one holds))))
  where
    joined : (read taken line more bytes : List ℕ) → bytes ≡ (taken ++ line) ++ more → ((read ++ taken) ++ line) ++ more ≡ read ++ bytes
    joined read taken line more bytes is = rw is (simp append_assoc)

pub loop-end-preserved : goal.loop-end-preserved
loop-end-preserved g c =
    let so_far = c.loop-end.invariant.fed in
    let rest = c.loop-end.rest.now in
    let end = c.in-Some.end in
    let at = first_newline rest end (sym c.newline.ensures ∙ c.in-Some.is) in
    let parts = newline_in_rest c.args.bytes.now so_far.0 rest end so_far.1 at.0 at.2 in
    let left = rest_of rest (end + 1) in
    record {
      few = omega (arith, c.finish_line.ensures.few, c.loop-end.invariant.few, at.0, ap length left, length-drop (end + 1) rest);
      fed = (
        (so_far.0 ++ take end rest) ++ 10 ∷ [],
        parts ∙ sym (append_assoc (so_far.0 ++ take end rest) (10 ∷ []) (drop (end + 1) rest)) ∙ ap (λ r. ((so_far.0 ++ take end rest) ++ 10 ∷ []) ++ r) (sym left),
        λ held one holds. fed_along _ _ _ _ _ _ _ _ _ (regrouped held so_far.0 (take end rest))
            (fed-newline _ _ _ _ _ _ _ _ ((held ++ so_far.0) ++ take end rest) _ _ c.finish_line.ensures.next c.in_ok-finish_line.ensures.told
            (fed-piece _ _ _ _ _ _ (held ++ so_far.0) (take end rest) c.loop-end.self _ at.1 refl refl c.hold.ensures (so_far.2 held one holds))),
      );
    }
  where
    regrouped : (read taken line : List ℕ) → ((read ++ taken) ++ line) ++ 10 ∷ [] ≡ read ++ ((taken ++ line) ++ 10 ∷ [])
    regrouped read taken line = simp append_assoc

pub returns-clause-told : goal.returns-clause-told
returns-clause-told g c held one holds =
    let so_far = c.loop-end.invariant.fed in
    let rest = c.loop-end.rest.now in
    let none = no_newline rest (sym c.newline.ensures ∙ c.in_default.is) in
    fed_along _ _ _ _ _ _ _ _ _ (append_assoc held so_far.0 rest ∙ ap (λ bytes. held ++ bytes) (sym so_far.1))
    (fed-piece _ _ _ _ _ _ (held ++ so_far.0) rest c.loop-end.self _ none refl refl c.hold-2.ensures (so_far.2 held one holds))

use Rattle.std.proofs.Common.{◌≡◌, get_or, length, map, sym, ap, subst, ◌∙◌, arith}
use Rattle.fancy_index.proofs.Words.{offsets, run_offsets, length-run_offsets, moved_offset, shifted_all, AreStarts}
use Rattle.fancy_index.proofs.RunLaws.{first-low, steps-low, steps-high, lies-there}
use Rattle.fancy_index.proofs.SingleLaws.{shifted-single}
use Rattle.fancy_index.proofs.fast.short_rows.ShortRows.row.Goals as goal
use Rattle.fancy_index.proofs.fast.short_rows.ShortRows.row.Goals.{After-offset_after}

pub offset_after-requires-clause-start : goal.offset_after-requires-clause-start
offset_after-requires-clause-start c = first-low c.args.self.places c.args.self.begins c.args.k c.requires

pub offset_after-requires-clause-low : goal.offset_after-requires-clause-low
offset_after-requires-clause-low c = steps-low c.args.self.places c.args.self.begins c.args.k c.requires

pub offset_after-requires-clause-high : goal.offset_after-requires-clause-high
offset_after-requires-clause-high c = steps-high c.args.self.places c.args.self.begins c.args.k c.requires

there : (c : After-offset_after) → c.offset_after.result ≡ get_or (run_offsets c.args.self.places) c.args.k 0
there c = lies-there c.args.self.places c.args.self.begins c.args.k c.requires c.offset_after.result c.offset_after.ensures

pub invariant_of-result-clause-starts : goal.invariant_of-result-clause-starts
invariant_of-result-clause-starts c =
    let rows = c.args.self in
    let axes = rows.axes.now in
    let inner = offsets axes.inner in
    let here = there (goal.at.invariant_of-result-clause-starts c).After-offset_after ∙ ap (λ l. get_or l c.args.k 0) rows.same in
    subst (λ shifts. AreStarts axes.inner.offset inner shifts c.offset_after.result) (sym rows.shifted)
    (subst (AreStarts axes.inner.offset inner axes.shifts.items) (sym here) (axes.starts c.args.k 0 (omega (arith, c.requires, length-run_offsets rows.places, ap length rows.same))))

pub returns : goal.returns
returns c =
    let rows = c.args.self in
    let axes = rows.axes.now in
    let place = c.offset_after.result in
    ap (map (moved_offset axes.inner.offset place)) rows.shifted
    ∙ sym (shifted-single axes.inner axes.shifts.items place rows.single)
    ∙ ap (shifted_all axes.inner.offset axes.shifts.items (offsets axes.inner)) (there (goal.at.returns c).After-offset_after)

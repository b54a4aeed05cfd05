use Rattle.std.proofs.Common.{◌≡◌, ◌<◌, Bool, false, true, replicate, sym, ap, subst, ◌∙◌}
use Rattle.overlap_copy.proofs.Words.{IsSome, LieWithin, max_bytes, count, length-offsets}
use Rattle.overlap_copy.proofs.OverwriteLaws.{start-offsets, start-within}
use Rattle.overlap_copy.proofs.fast.overwrites.all_at_start.Goals as goal

pub unreachable-requires : goal.unreachable-requires
unreachable-requires c =
    let within = subst (λ strides. LieWithin c.in_ok-shape.shape strides 0 max_bytes 1) (sym c.zeroed.ensures) (start-within c.in_ok-shape.shape c.in_ok-strides.strides) in
    let some = c.new.ensures.found.1 within in
    let no : ◌≡◌ {A = Bool} false true = subst IsSome c.in-None.is some in
    cc

pub returns-clause-offsets : goal.returns-clause-offsets
returns-clause-offsets c =
    let found = c.in-Some.ensures in
    let same = found.shape ∙ c.in_ok-shape.ensures in
    start-offsets c.in-Some.layout c.in_ok-strides.strides (λ some. found.strides (subst (λ s. 0 < count s) found.shape some) ∙ c.zeroed.ensures) (λ some. found.offset (subst (λ s. 0 < count s) found.shape some))
    ∙ ap (λ n. replicate n 0) (ap count same ∙ sym (length-offsets c.args.layout.now))

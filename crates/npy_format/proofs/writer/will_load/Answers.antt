use Rattle.std.proofs.Common.{◌<◌, ℕ, get_or, refl, rules}
use Rattle.npy_format.proofs.Words.{offsets, length-offsets}
use Rattle.npy_format.proofs.RoundTrip.{file_loads}
use Rattle.npy_format.proofs.SaverLaws.{saved-loads}
use Rattle.npy_format.proofs.writer.will_load.Goals as goal

pub returns-clause-bytes : goal.returns-clause-bytes
returns-clause-bytes c = λ i. search rules

pub returns-clause-loads : goal.returns-clause-loads
returns-clause-loads c =
    let l = c.args.layout.now in
    let bytes : (i : ℕ) → get_or c.args.bytes.now i 0 < 256 = λ i. search rules in
    saved-loads c.args.descr.now l.shape (offsets l) _ (λ small fortran. file_loads c.args.descr.now c.look_at.ensures c.args.bytes.now bytes fortran l.shape (offsets l) _ (record { axes = c.as_slice-lengths.ensures.rank; lengths = c.as_slice-lengths.ensures.lengths; items = c.as_slice-lengths.ensures.items }) (length-offsets l) c.requires small refl)

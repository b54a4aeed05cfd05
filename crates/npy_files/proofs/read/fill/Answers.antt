use Rattle.std.proofs.Common.{◌≡◌, ◌≤◌, ◌-◌, length, refl, arith}
use Rattle.npy_files.proofs.Words.{common_steps, stays, stays_again}
use Rattle.npy_files.proofs.Pieces.{put_length, rest_length, read_on}
use Rattle.npy_files.proofs.read.fill.Goals as goal

pub loop-at-init : goal.loop-at-init
loop-at-init g c = record { read = λ honest. refl; told = c.requires.told; same = λ honest. stays _; current = c.requires.current; within = c.requires.start; kept = omega arith }

pub returns-in_err-count-clause-same : goal.returns-in_err-count-clause-same
returns-in_err-count-clause-same g c = λ honest. stays_again (c.loop-at.invariant.same honest) (c.read.ensures.same honest)

pub loop-at-preserved : goal.loop-at-preserved
loop-at-preserved g c =
    let bytes = c.loop-at.bytes in
    let piece = c.read.new.piece in
    let at = c.loop-at.at in
    let count = c.in_ok-count.count in
    let within = c.loop-at.invariant.within in
    let long : length piece ≡ length bytes - at = grind (arith, common_steps) in
    let few : count ≤ length piece = grind (arith, common_steps) in
    record {
      read = λ honest. read_on bytes piece (g.D.Disk.rest_of c.loop-at.file) (g.D.Disk.rest_of c.read.new.file) at count within long few (c.in_ok-count.ensures.read honest) _ (c.loop-at.invariant.read honest);
      told = λ honest.
          let size = put_length bytes piece (g.D.Disk.rest_of c.loop-at.file) (g.D.Disk.rest_of c.read.new.file) at count within long few (c.in_ok-count.ensures.read honest) in
          let left = rest_length bytes piece (g.D.Disk.rest_of c.loop-at.file) (g.D.Disk.rest_of c.read.new.file) at count within long few (c.in_ok-count.ensures.read honest) in
          let before = c.loop-at.invariant.told honest in
          omega (arith, size, left, before);
      same = λ honest. stays_again (c.loop-at.invariant.same honest) (c.read.ensures.same honest);
      current = λ honest. (c.read.ensures.opened honest).current;
      within = grind (arith, common_steps);
      kept = omega (arith, c.loop-at.invariant.kept, c.read.ensures.cause.kept);
    }

use Rattle.std.proofs.Common.{◌≡◌, ◌++◌, ◌+◌, ◌-◌, ◌≤◌, length, take, IsTrue}
use Rattle.npy_files.proofs.Words.{IsUnchanged}
use Rattle.npy_files.proofs.read.fill.Given as goal

abbrev pub invariant-loop-at : goal.invariant-loop-at
invariant-loop-at g l = record {
  read : IsTrue g.D.Disk.honest → take l.start l.fn.bytes ++ g.D.Disk.rest_of l.fn.file ≡ take l.at l.bytes ++ g.D.Disk.rest_of l.file;
  told : IsTrue g.D.Disk.honest → length l.bytes ≤ l.at + length (g.D.Disk.rest_of l.file);
  same : IsTrue g.D.Disk.honest → IsUnchanged (g.D.Disk.state l.fn.disk) (g.D.Disk.state l.disk);
  current : IsTrue g.D.Disk.honest → (g.D.Disk.state l.disk).IsCurrent l.file;
  within : l.at ≤ length l.bytes;
  kept : g.D.Disk.failures l.fn.disk ≤ g.D.Disk.failures l.disk;
}

abbrev pub decreases-loop-at : goal.decreases-loop-at
decreases-loop-at g l = length l.bytes - l.at

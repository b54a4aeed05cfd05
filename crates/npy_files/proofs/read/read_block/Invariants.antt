use Rattle.std.proofs.Common.{◌≡◌, ◌++◌, ◌+◌, ◌-◌, ◌≤◌, length, IsTrue}
use Rattle.npy_files.proofs.Words.{IsUnchanged}
use Rattle.npy_files.proofs.read.read_block.Given as goal

abbrev pub invariant-loop-block : goal.invariant-loop-block
invariant-loop-block g l = record {
  read : IsTrue g.D.Disk.honest → l.fn.begin ++ g.D.Disk.rest_of l.fn.file ≡ l.block.0 ++ g.D.Disk.rest_of l.file;
  told : IsTrue g.D.Disk.honest → length l.block.0 + length (g.D.Disk.rest_of l.file) ≡ l.len;
  same : IsTrue g.D.Disk.honest → IsUnchanged (g.D.Disk.state l.fn.disk) (g.D.Disk.state l.disk);
  current : IsTrue g.D.Disk.honest → (g.D.Disk.state l.disk).IsCurrent l.file;
  room : length l.block.0 + l.block.1 ≡ l.len;
  kept : IsTrue g.D.Disk.honest → g.D.Disk.failures l.fn.disk ≤ g.D.Disk.failures l.disk;
}

abbrev pub decreases-loop-block : goal.decreases-loop-block
decreases-loop-block g l = l.len - length l.block.0

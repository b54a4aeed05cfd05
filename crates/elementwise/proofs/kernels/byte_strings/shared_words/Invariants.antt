use Rattle.std.proofs.Common.{◌≡◌, ◌*◌, take}
use Rattle.elementwise.proofs.kernels.byte_strings.shared_words.Given as goal

abbrev pub invariant-loop-word : goal.invariant-loop-word
invariant-loop-word l = take (8 * l.word) l.left ≡ take (8 * l.word) l.right

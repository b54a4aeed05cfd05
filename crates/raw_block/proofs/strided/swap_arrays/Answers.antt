use Rattle.std.proofs.Common.{◌⊎◌, ◌+◌, ◌-◌, ◌≤◌, max, min, inl, inr, length, arith}
use Rattle.raw_block.proofs.Words.{place}
use Rattle.raw_block.proofs.Exchanges.{beside-apart}
use Rattle.raw_block.proofs.strided.swap_arrays.Goals as goal

pub swap_each_apart-requires-clause-apart : goal.swap_each_apart-requires-clause-apart
swap_each_apart-requires-clause-apart g c =
    let N = g.row.N in let n = c.args.n in let a = c.args.a in let b = c.args.b in let last_a = place a.at a.step (n - 1) in let last_b = place b.at b.step (n - 1) in
    let beside : (max a.at last_a + N ≤ min b.at last_b) ⊎ (max b.at last_b + N ≤ min a.at last_a) = elim (c.are_beside.ensures c.if-are_beside.true) [
      | inl h ↦ inl (omega (arith, h, c.place-last_a.ensures, c.place-last_b.ensures))
      | inr h ↦ inr (omega (arith, h, c.place-last_a.ensures, c.place-last_b.ensures))
    ] in
    beside-apart (length c.args.bytes.now) a.at a.step b.at b.step N n c.requires.a c.requires.b (omega arith) beside

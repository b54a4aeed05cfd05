use Rattle.std.proofs.Common.{◌≡◌, ◌≤◌, ℕ, ◌+◌, ◌*◌, ◌++◌, List, All, length, ap, sym, subst, ◌∙◌, arith}
use Rattle.fancy_index.proofs.Words.{multiples, items_at, joined_at, length-joined_at, joined-items, Planned}
use Rattle.fancy_index.proofs.plans.Plan.gather.Goals as goal
use Rattle.fancy_index.proofs.plans.Plan.gather.Goals.{After-axes, After-finish}

-- the memory has the size of all items
size : (c : After-axes) → length c.args.self.now.offsets * c.args.width ≡ c.in_ok-items.items.1
size c =
    let many : length c.args.self.now.offsets ≡ c.items.result = sym (ap (λ (v : Planned). length v.offsets) c.self.view_is) ∙ c.self.invariant ∙ sym c.items.ensures.value in
    omega (arith, ap (λ n. n * c.args.width) many, ap (λ p. p.1) c.in_ok-items.ensures, c.saturating_mul-bytes.ensures, c.filled-filled.ensures.small)

pub push_all-items-requires : goal.push_all-items-requires
push_all-items-requires c = record {
  inside = subst (All (λ offset. offset + c.args.width ≤ length c.args.block.now)) (sym c.axes.ensures) c.requires;
  room = omega (arith, size (goal.at.push_all-items-requires c).After-axes, ap (λ (l : List ℕ). length l * c.args.width) c.axes.ensures);
}

pub finish-requires : goal.finish-requires
finish-requires c =
    omega (arith, size (goal.at.finish-requires c).After-axes, ap (λ (l : List ℕ). length l * c.args.width) c.axes.ensures, c.push_all-items.ensures.left)

-- the bytes are those of the items, concatenated
bytes_are : (c : After-finish) → c.finish.result ≡ joined_at c.args.self.now.offsets c.args.width c.args.block.now
bytes_are c = c.finish.ensures ∙ c.push_all-items.ensures.bytes ∙ (λ i. (c.in_ok-items.ensures i).0 ++ joined_at (c.axes.ensures i) c.args.width c.args.block.now)

pub returns-clause-len : goal.returns-clause-len
returns-clause-len c =
    ap length (bytes_are (goal.at.returns-clause-len c).After-finish) ∙ length-joined_at c.args.width c.args.self.now.offsets c.args.block.now c.requires

pub returns-clause-items : goal.returns-clause-items
returns-clause-items c =
    let os = c.args.self.now.offsets in
    ap (items_at (multiples c.args.width (length os)) c.args.width) (bytes_are (goal.at.returns-clause-items c).After-finish) ∙ joined-items c.args.width os c.args.block.now c.requires

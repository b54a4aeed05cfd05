use Rattle.std.proofs.Common.{length, inl, inr}
use Rattle.name_store.proofs.Words.{both_ways, offsets_within}
use Rattle.name_store.proofs.rewrite.move_to.Goals as goal

pub assign-requires-clause-can : goal.assign-requires-clause-can
assign-requires-clause-can c =
    let may = rw c.in-View.is at c.requires.to in
    record { dst_fits = may.0; src_fits = c.requires.from; nested = may.1; count = rw c.in-View.is at c.requires.count }

pub gather-requires : goal.gather-requires
gather-requires c = offsets_within c.args.from.now (length c.args.block.now) c.args.width c.requires.from

pub returns-else-are_shifted-clause-in_place : goal.returns-else-are_shifted-clause-in_place
returns-else-are_shifted-clause-in_place c = rw c.in-View.is (λ move. elim move [
  | inl apart ↦ c.assign.ensures.apart apart
  | inr later ↦ elim later [
    | inl runs ↦ c.assign.ensures.runs runs
    | inr last ↦ elim last [
      | inl turned ↦ c.assign.ensures.turned turned
      | inr shifted ↦ absurd (both_ways c.are_shifted.result c.if-are_shifted.false (c.are_shifted.ensures.found shifted))
    ]
  ]
])

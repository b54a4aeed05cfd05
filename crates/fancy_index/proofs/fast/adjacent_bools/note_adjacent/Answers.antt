use Rattle.std.proofs.Common.{◌≡◌, ◌+◌, ◌-◌, ◌<◌, ℕ, length, get_or, refl, sym, ap, ◌∙◌, arith, pos}
use Rattle.fancy_index.proofs.Words.{truth, bools_in, ranks_from, AreAll}
use Rattle.fancy_index.proofs.BoolLaws.{none_true, length-bools, byte-within, bool-after}
use Rattle.fancy_index.proofs.fast.adjacent_bools.note_adjacent.Goals as goal
use Rattle.fancy_index.proofs.fast.adjacent_bools.note_adjacent.Goals.{Start, Else-not-are_same}

last : (c : Start) → c.args.bools.run.offset + (c.args.end - 1) < length c.args.bools.bytes.now
last c = byte-within c.args.bools c.requires.block.lie c.requires.adjacent (c.args.end - 1) (omega (arith, c.requires.block.end, c.requires.some))

pub overflow_add-first : goal.overflow_add-first
overflow_add-first c = record { fits = omega (arith, last (goal.at.overflow_add-first c).Start, c.ranges.bools, c.requires.some) }

pub overflow_add-offset : goal.overflow_add-offset
overflow_add-offset c = record { fits = omega (arith, last (goal.at.overflow_add-offset c).Start, c.ranges.bools, c.requires.some) }

pub are_same-requires : goal.are_same-requires
are_same-requires c = omega (arith, last (goal.at.are_same-requires c).Start, c.requires.some)

pub bounds-bools-first : goal.bounds-bools-first
bounds-bools-first c = omega (arith, last (goal.at.bounds-bools-first c).Start, c.requires.some)

truth-one : (byte : ℕ) → (byte ≡ 0 → ⊥) → truth byte ≡ 1
truth-one byte some = grind arith

-- all bools are the same as the first one
alike : (c : Else-not-are_same) (number : ℕ) → truth (get_or c.args.bools.bytes.now (c.args.bools.run.offset + c.args.from) 0) ≡ number → AreAll c.args.bools c.args.from c.args.end number
alike c number first k low high =
    bool-after c.args.bools c.requires.block.lie c.requires.adjacent k (omega (arith, high, c.requires.block.end))
    ∙ ap (λ byte. pos (truth byte)) (c.if-not-are_same.ensures refl (c.args.bools.run.offset + k) (omega (arith, low)) (omega (arith, high)))
    ∙ ap pos first

pub note_all-requires-clause-all : goal.note_all-requires-clause-all
note_all-requires-clause-all c = alike (goal.at.note_all-requires-clause-all c).Else-not-are_same 1 (truth-one _ c.if-bools-first-eq0.false)

pub returns-then-bools-first-eq0 : goal.returns-then-bools-first-eq0
returns-then-bools-first-eq0 c =
    let bools = c.args.bools in
    let n = c.args.end - c.args.from in
    let end : c.args.from + n ≡ c.args.end = omega (arith, c.requires.some) in
    let none = alike (goal.at.returns-then-bools-first-eq0 c).Else-not-are_same 0 (ap truth c.if-bools-first-eq0.true) in
    record {
      few = omega arith;
      ranks = sym (none_true (bools_in bools) bools.rank c.args.from n (omega (arith, c.requires.block.end, end, length-bools bools)) (λ j low high. none j low (omega (arith, high, end))) ∙ ap (ranks_from bools) end);
    }

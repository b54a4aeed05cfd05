-- The meaning of a line, by its length.
use Rattle.std.proofs.Common.{◌≡◌, ◌<◌, ◌≤◌, ◌+◌, ℕ, Bool, true, false, List, [], ◌∷◌, length, refl, sym, cond, arith, nat_eq, take, ◌-◌, length-take}
use Rattle.bench_engine.proofs.Words.{ends_with, lt-ltb, le-ltb, trimmed, too_long, says, meaning_of, limit, line_of, HoldsBytes}

length-trimmed : (piece : List ℕ) → length piece ≤ length (trimmed piece) + 1
length-trimmed piece = elim (ends_with nat_eq piece (13 ∷ [])) as (λ t. length piece ≤ length (cond t (take (length piece - 1) piece) piece) + 1) [ true ↦ omega (arith, length-take (length piece - 1) piece) | false ↦ omega arith ]

pub meaning_of-long : (line : List ℕ) → limit < length line → meaning_of line ≡ too_long
unfolding meaning_of
meaning_of-long line long = rw (lt-ltb limit (length line) long) refl

pub meaning_of-short : (line : List ℕ) → length line ≤ limit → meaning_of line ≡ says (line_of line)
unfolding meaning_of
meaning_of-short line short = rw (le-ltb limit (length line) short) refl

-- a piece that is too long for a line
pub too_long-held : (bytes : List ℕ) (is_long : Bool) (piece : List ℕ) → is_long ≡ true → HoldsBytes bytes is_long piece → too_long ≡ meaning_of (trimmed piece)
too_long-held bytes true piece long holds = sym (meaning_of-long (trimmed piece) (omega (arith, length-trimmed piece)))
too_long-held bytes false piece long holds = cc

-- Counts that rise.
use Rattle.std.proofs.Common.{◌≡◌, ◌+◌, ℕ, Option, Some, None, arith}
use Rattle.bench_engine.proofs.Words.{RisesBy}

pub rises_by-zero : (a : Option ℕ) → RisesBy a a 0
rises_by-zero None = tt
rises_by-zero (Some n) = omega arith

pub rises_by-then : (a b c : Option ℕ) (n m k : ℕ) → k ≡ n + m → RisesBy a b n → RisesBy b c m → RisesBy a c k
rises_by-then None None None n m k sum first second = tt
rises_by-then None None (Some z) n m k sum first second = absurd second
rises_by-then None (Some y) c n m k sum first second = absurd first
rises_by-then (Some x) None c n m k sum first second = absurd first
rises_by-then (Some x) (Some y) None n m k sum first second = absurd second
rises_by-then (Some x) (Some y) (Some z) n m k sum first second = omega (arith, sum, first, second)

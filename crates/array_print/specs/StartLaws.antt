-- Laws of bytes that start with other bytes.
use Rattle.std.specs.Prelude.{ℕ, ◌≤◌, List, length}
use Rattle.std.proofs.Common.{take, sym, ◌∙◌, ap, arith}
use Rattle.array_print.specs.Words.{StartsWith, take-take, length-take}

pub StartsWith-trans : (xs ys zs : List ℕ) → StartsWith xs ys → StartsWith ys zs → StartsWith xs zs
StartsWith-trans xs ys zs first second =
    let short : length zs ≤ length ys = omega (arith, ap length second, length-take (length zs) ys) in
    sym (take-take (length zs) (length ys) xs short) ∙ ap (λ l. take (length zs) l) first ∙ second

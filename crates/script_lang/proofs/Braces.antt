-- One more byte on the way to the closing brace.
use Rattle.std.proofs.Common.{◌≡◌, ◌+◌, ℕ, Bool, true, false, List, [], ◌∷◌, Option, Some, None, refl, ap, ◌∙◌, arith, nat_eq}
use Rattle.script_lang.proofs.Words.{option_map, record_len, depth_behind, named_behind}

shifted : (i : ℕ) (o : Option ℕ) → option_map (λ n. n + i) (option_map (λ n. n + 1) o) ≡ option_map (λ n. n + (i + 1)) o
shifted i None = refl
shifted i (Some n) = let same : n + 1 + i ≡ n + (i + 1) = omega arith in ap Some same

-- after `i` bytes, if `b` comes next
module _ (whole : Option ℕ) (i : ℕ) (named : Bool) (depth : ℕ) (here : List ℕ) (is : whole ≡ option_map (λ n. n + i) (record_len named depth here)) where
  pub brace_closes : (b : ℕ) (rest : List ℕ) → here ≡ b ∷ rest → nat_eq (depth_behind named b depth) 0 ≡ true → whole ≡ Some (i + 1)
  unfolding record_len
  brace_closes b rest next closes =
      let last : 1 + i ≡ i + 1 = omega arith in
      is ∙ rw (next, closes) (ap Some last)

  pub brace_goes_on : (b : ℕ) (rest : List ℕ) → here ≡ b ∷ rest → nat_eq (depth_behind named b depth) 0 ≡ false → whole ≡ option_map (λ n. n + (i + 1)) (record_len (named_behind named b) (depth_behind named b depth) rest)
  unfolding record_len
  brace_goes_on b rest next goes = is ∙ rw (next, goes) (shifted i (record_len (named_behind named b) (depth_behind named b depth) rest))

  pub no_brace : here ≡ [] → whole ≡ None
  unfolding record_len
  no_brace done = is ∙ rw done refl

-- The values read from a record literal.
use Rattle.std.proofs.Common.{◌≡◌, ◌==◌, ℕ, true, false, List, Option, Some, None, refl}
use Rattle.script_lang.proofs.Words.{Literal, Record, Values, value_count, literals_of, listed_literals_of, length_literals_of, by_rule, none_or_more, record_at}

module _ (value_at : List ℕ → Option (Literal × List ℕ)) (bytes rest : List ℕ) (values : Values) (read : by_rule (none_or_more value_at 41) bytes ≡ Some (literals_of values, rest)) where
  pub record_empty : (value_count values == 0) ≡ true → record_at value_at bytes ≡ None
  unfolding record_at
  record_empty none = rw (read, length_literals_of values, none) refl

  pub record_read : (value_count values == 0) ≡ false → record_at value_at bytes ≡ Some (Record values, rest)
  unfolding record_at
  record_read some = rw (read, length_literals_of values, some, listed_literals_of values) refl

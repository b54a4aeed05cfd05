-- Whether the items at two lists of offsets have bytes in common.
use Rattle.std.specs.Prelude.{ℕ, ◌+◌, Bool, ◌&&◌, List, nat_lt}
use Rattle.overlap_copy.specs.Words.{list_any}

-- some item of one list shares a byte with some item of the other
unfoldable pub have_common_byte : List ℕ → ℕ → List ℕ → ℕ → Bool
have_common_byte offsets item others other = list_any (λ p. list_any (λ q. nat_lt p (q + other) && nat_lt q (p + item)) others) offsets

-- some item at `offsets` begins before the end of some item at `others`
unfoldable pub begins_below : List ℕ → List ℕ → ℕ → Bool
begins_below offsets others other = list_any (λ p. list_any (λ q. nat_lt p (q + other)) others) offsets

-- the byte ranges of the two lists overlap: each of them begins before the other ends
abbrev pub do_ranges_meet : List ℕ → ℕ → List ℕ → ℕ → Bool
do_ranges_meet offsets item others other = begins_below offsets others other && begins_below others offsets item

-- What holds for every element type.
use Rattle.std.specs.Prelude.{◌≤◌}
use Rattle.npy_format.specs.Words.{Descr, size, IsLegal, ScalarDescr, RecordDescr}

-- a scalar of 1 to 65,536 bytes, or a legal record
abbrev pub IsSound : Descr → Type 0
IsSound (ScalarDescr scalar) = (1 ≤ size scalar) × (size scalar ≤ 65536)
IsSound (RecordDescr structure) = IsLegal structure

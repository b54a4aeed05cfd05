-- The contents of an owned array.
use Rattle.std.specs.Prelude.{◌≡◌}
use Rattle.bench_engine.specs.Words.{Owned, item_size, offsets, C, offsets_in, places_of, own_buffer}
use Rattle.bench_engine.specs.Contents.{Contents}

-- the contents of an owned array, whose block becomes the buffer
abbrev pub held : Owned → Contents
held o = record { shape = o.layout.shape; places = places_of (item_size o.descr) (offsets o.layout); buffer = own_buffer o }

-- the items lie in the block in C order, one after another from its start
abbrev pub IsInCOrder : Owned → Type 0
IsInCOrder o = offsets o.layout ≡ offsets_in C (item_size o.descr) o.layout.shape

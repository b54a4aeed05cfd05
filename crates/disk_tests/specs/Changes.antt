-- Files in memory after a change.
use Rattle.std.specs.Prelude.{ℕ, List, Option, Some, None, Vec}
use Rattle.disk_tests.specs.Words.{insert, remove, Global}
use Rattle.disk.specs.Files.{Files}

-- the bytes of a change, if there are any
abbrev pub bytes_of_change : Option (Vec ℕ Global) → Option (List ℕ)
bytes_of_change (Some bytes) = Some bytes.items
bytes_of_change None = None

-- the files with this name bound to these bytes, or without this name
abbrev pub bound : List ℕ → Option (List ℕ) → Files → Files
bound name (Some bytes) files = insert files name bytes
bound name None files = remove files name

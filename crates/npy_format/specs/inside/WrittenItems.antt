-- Items as a file stores them, computed from their bytes in memory.
use Rattle.std.specs.Prelude.{ℕ, ◌+◌, ◌-◌, min, List, [], ◌∷◌, ◌++◌, map, replicate, if◌then◌else◌}
use Rattle.npy_format.specs.Words.{flat_map, item_at, Descr, Leaf, Scalar, Byte, Int, Bytes, LeafValue, size, decode, item_size, decode_item, encode_item, encode_from, blocks, fortran_order, BoolScalar}
use Rattle.npy_format.specs.WrittenFiles.{is_fortran}

-- the value of a leaf of an item
abbrev pub read_leaf : List ℕ → Leaf → LeafValue
read_leaf item leaf = decode leaf.scalar (item_at leaf.at (size leaf.scalar) item)

-- an item of `bytes` bytes in which the value of each leaf is written again, with zeros elsewhere
abbrev pub written_item : List Leaf → ℕ → List ℕ → List ℕ
written_item leaves bytes item = encode_from 0 leaves (map (read_leaf item) leaves) bytes

-- the largest byte that a file stores for a scalar: a bool is 0 or 1
abbrev pub limit : Scalar → ℕ
limit BoolScalar = 1
limit (Byte signed) = 255
limit (Int signed width order) = 255
limit (Bytes n) = 255

-- the largest values of the bytes of an item, from byte `from` on: padding is 0
abbrev pub limits_from : ℕ → List Leaf → ℕ → List ℕ
limits_from from [] bytes = replicate (bytes - from) 0
limits_from from (leaf ∷ leaves) bytes =
    replicate (leaf.at - from) 0 ++ replicate (size leaf.scalar) (limit leaf.scalar) ++ limits_from (leaf.at + size leaf.scalar) leaves bytes

-- each byte, or its limit if that is less
abbrev pub capped : List ℕ → List ℕ → List ℕ
capped [] limits = []
capped (byte ∷ bytes) [] = byte ∷ bytes
capped (byte ∷ bytes) (limit ∷ limits) = min byte limit ∷ capped bytes limits

-- the addresses of items in the order in which a file stores them
abbrev pub addresses_in_file : ℕ → List ℕ → List ℕ → List ℕ
addresses_in_file item shape addresses = if is_fortran item shape addresses then fortran_order shape addresses else addresses

-- the bytes of the items of `width` bytes at these addresses
abbrev pub gathered : ℕ → List ℕ → List ℕ → List ℕ
gathered width bytes addresses = flat_map (λ address. item_at address width bytes) addresses

-- `count` adjacent items, as a file stores them
abbrev pub as_in_file : Descr → ℕ → List ℕ → List ℕ
as_in_file descr count bytes = flat_map (λ item. encode_item descr (decode_item descr item)) (blocks (item_size descr) count bytes)

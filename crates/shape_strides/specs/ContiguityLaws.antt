-- Laws of the first address and of the printed strides.
use Rattle.std.proofs.Common.{◌≡◌, ℕ, ◌<◌, List, length, arith, zero, suc, [], ◌∷◌, get_or, refl, ap, pos, drop}
use Rattle.shape_strides.specs.Contiguity.{first_address, printed_stride, printed_strides}
use Rattle.shape_strides.specs.Indexes.{count}

pub first_address-entry : (addresses : List ℕ) → first_address addresses ≡ get_or addresses 0 0
first_address-entry [] = refl
first_address-entry (a ∷ addresses) = refl

pub length-printed : (shape addresses : List ℕ) → length (printed_strides shape addresses) ≡ length shape
length-printed [] addresses = refl
length-printed (n ∷ shape) addresses = ap suc (length-printed shape addresses)

pub printed-at : (shape addresses : List ℕ) (axis : ℕ) → axis < length shape → get_or (printed_strides shape addresses) axis (pos 0) ≡ printed_stride (get_or shape axis 0) (count (drop (suc axis) shape)) addresses
printed-at [] addresses axis below = absurd (omega arith)
printed-at (n ∷ shape) addresses zero below = refl
printed-at (n ∷ shape) addresses (suc axis) below = printed-at shape addresses axis (omega arith)

-- A `&` to a deed lends nothing. Assumes `Logic`.
use Rattle.raw_block.proofs.Words.{RattleType, RawPtr, Laws, copy_shared, nothing_shr_laws, field_copy, of_Lends, Lends-nothing, Ghosts}
use Rattle.core.specs.contracts.marker.PhantomData as marker
use Rattle.raw_block.specs.contracts.base.Deed as C
use Rattle.raw_block.proofs.base.Deed.TheLaw.Statement.{statement}

pub shares : (A : RattleType) (g : Ghosts A.Denot) (L : Laws A) → statement A g L
shares A g L =
    of_Lends (C.struct A g) (C.the_codes A.Denot A.coded (marker.the_row RawPtr).coded) (C.the_heap A g) (C.the_lent A g) (λ d p. nothing_shr_laws)
    (copy_shared (marker.the_field RawPtr) (field_copy (marker.the_type RawPtr) tt), tt) (λ M 𝓤 𝓛 d p. Lends-nothing 𝓛 (C.the_heap A g d) (C.the_row A g).lives)

-- A `&` to the owner of the bytes is a `&` to each of them. Assumes `Logic`.
use Rattle.raw_block.specs.contracts.base.Bytes as C
use Rattle.raw_block.proofs.base.Bytes.TheLaw.Statement.{statement}
use denote.Struct.Lending.{of_Lends}
use Rattle.raw_block.proofs.Sharing.{bytes_lent_laws, Lends-owned}

pub shares : statement
shares = of_Lends C.struct C.the_codes C.the_heap C.the_lent (λ d p. bytes_lent_laws d.at d.items d.room) tt (λ M 𝓤 𝓛 d p. Lends-owned 𝓛 d.at d.items d.room)

use Rattle.std.proofs.Common.{◌≡◌, ◌/◌, ◌%◌, ◌^◌, ℕ, not, cond, true, eqb, map, length, false, get_or, refl, ap, ◌∙◌, arith, w8}
use Rattle.fancy_index.proofs.Words.{get_or-map, bitmask_splat, bit_mask_l, truth}
use Rattle.fancy_index.proofs.fast.adjacent_bools.bits_of.Goals as goal

flag : (byte : ℕ) → cond (not (eqb byte 0)) 1 0 ≡ truth byte
flag byte = elim (eqb byte 0) as (λ zero'. ◌≡◌ {A = ℕ} (cond (not zero') 1 0) (cond zero' 0 1)) [ true ↦ refl | false ↦ refl ]

pub returns : goal.returns
returns c k low =
    let bools = c.args.bools in
    let long : length bools ≡ 16 = c.fits-bools.0 in
    let differ = λ (a : ℕ) (b : ℕ). not (eqb a b) in
    ap (λ n. n / 2 ^ k % 2) (bitmask_splat w8 differ bools 16 0 long (omega arith))
    ∙ bit_mask_l (map (λ byte. not (eqb byte 0)) bools) k
    ∙ ap (λ b. cond b 1 0) (get_or-map (λ byte. not (eqb byte 0)) bools k 0 false (omega (arith, low, long)))
    ∙ flag (get_or bools k 0)

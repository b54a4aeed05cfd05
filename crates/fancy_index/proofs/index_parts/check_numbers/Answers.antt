use Rattle.std.proofs.Common.{◌≡◌, ◌⊎◌, inl, inr, Ok, Err, if◌then◌else◌, Bool, true, false, map, sym, ap, subst, ◌∙◌}
use Rattle.fancy_index.proofs.Words.{is_ok, list_all, false≢true, err_from_is_err_and, is_place, Refusal, IndexOutOfRange, OutOfMemory, IsOutside, are_named, is_named, numbers_in, place_of}
use Rattle.fancy_index.proofs.PartLaws.{outside-at}
use Rattle.fancy_index.proofs.index_parts.check_numbers.Goals as goal

outside-of : {X : Type 0} (x : X) (test : Bool) (e : Refusal) → (e ≡ OutOfMemory) ⊎ ((if test then Ok x else Err IndexOutOfRange) ≡ Err e) → IsOutside test e
outside-of x test e (inl memory) = inl memory
outside-of x true e (inr out) = absurd (false≢true (sym (ap is_ok out)))
outside-of x false e (inr out) = let same : IndexOutOfRange ≡ e = cc in inr (ap Err same)

pub returns-in_err-places : goal.returns-in_err-places
returns-in_err-places c =
    let it = c.loop-part in
    let e = c.in_err-places.field-0.0 in
    let array = c.in-Named.named.array in
    let n = c.in-Named.named.n in
    let test : is_named c.part-item.result ≡ list_all (is_place n) (numbers_in array) = ap is_named c.in-Points.is ∙ ap are_named c.in-Named.is in
    let p = err_from_is_err_and c.from_residual.result c.from_residual.ensures.1 in
    rw (p.1, p.2) (outside-at c.args.parts.now it.part-index _ e c.loop-part-test.true (sym c.part-item.is)
    (subst (λ t. IsOutside t e) (sym test) (outside-of (map (place_of n) (numbers_in array)) (list_all (is_place n) (numbers_in array)) e c.in_err-places.ensures)))

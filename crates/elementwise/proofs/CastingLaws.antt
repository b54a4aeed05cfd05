-- Values that are cast to a scalar. Numbers are cast as unsigned ones.
use Rattle.std.proofs.Common.{◌≡◌, ◌*◌, ℕ, Bool, false, List, [], ◌∷◌, map, sym, ◌∙◌}
use Rattle.elementwise.proofs.Words.{map-map, Descr, Order, Width, Scalar, Byte, Int, LeafValue, wrap, item_from, ScalarDescr, cast_value, cast_item, pairwise, value_in, number_pair, Operands, AreAllMade, made_of_all, pairs_of, size, width_size}
use Rattle.elementwise.proofs.AddedLaws.{added-as}
use Rattle.elementwise.proofs.AppliedLaws.{pairwise-same}
use Rattle.elementwise.proofs.LeafLaws.{byte_alike, int_alike}

-- the sign makes no difference to the bytes
pub as_byte : (from to : Scalar) (o : Operands) (old new : List ℕ × ℕ) (signed : Bool) → to ≡ Byte signed →
    AreAllMade (number_pair from from (Byte false) (λ a _. wrap (Byte false) a)) 1 o old new → AreAllMade (number_pair from from to (λ a _. wrap to a)) (size to) o old new
as_byte from to o old new signed is made =
    added-as _ _ _ _ old new made (λ i. pairs_of o * size (sym is i))
    (λ i. made_of_all (((λ i x y. byte_alike from signed x i) ∙ λ i. number_pair from from (sym is i) (λ a _. wrap (sym is i) a)) i) o)

pub as_int : (from to : Scalar) (o : Operands) (old new : List ℕ × ℕ) (signed : Bool) (width width' : Width) (order order' : Order) → to ≡ Int signed width order → width ≡ width' → order ≡ order' →
    AreAllMade (number_pair from from (Int false width' order') (λ a _. wrap (Int false width' order') a)) (width_size width') o old new → AreAllMade (number_pair from from to (λ a _. wrap to a)) (size to) o old new
as_int from to o old new signed width width' order order' is wide ordered made =
    let to-is : Int signed width' order' ≡ to = (λ i. Int signed (sym wide i) (sym ordered i)) ∙ sym is in
    added-as _ _ _ _ old new made (λ i. pairs_of o * size (to-is i))
    (λ i. made_of_all (((λ i x y. int_alike from signed width' order' x i) ∙ λ i. number_pair from from (to-is i) (λ a _. wrap (to-is i) a)) i) o)

-- values that are cast, item by item
pub values_cast : (s to : Scalar) (d : Descr) (block os : List ℕ) (gives : LeafValue → LeafValue → LeafValue) → d ≡ ScalarDescr s → ((x y : LeafValue) → gives x y ≡ cast_value to x) →
    pairwise (λ x y. gives (value_in x) (value_in y) ∷ []) (map (item_from d block) os) (map (item_from d block) os) ≡ map (λ offset. cast_item d (ScalarDescr to) (item_from d block offset)) os
values_cast s to d block os gives is casts =
    let seen = map (item_from d block) os in
    pairwise-same (λ (x y : List LeafValue). gives (value_in x) (value_in y) ∷ []) seen
    ∙ (λ i. map (λ x. casts (value_in x) (value_in x) i ∷ []) seen)
    ∙ (λ i. map (cast_item (sym is i) (ScalarDescr to)) seen)
    ∙ map-map (cast_item d (ScalarDescr to)) (item_from d block) os

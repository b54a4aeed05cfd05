-- What `broadcast` gives, compared with NumPy's `broadcast_to`.
use Rattle.std.proofs.Common.{◌≡◌, ℕ, Bool, true, false, List, [], ◌∷◌, Ok, Err, refl}
use Rattle.bench_engine.proofs.Words.{TooLarge, ShapesDoNotBroadcast, shape_of, stretched, Broadcast, State, Array, a_view, seen}

-- an array over buffer 0 with these places
over_places : List ℕ → List ℕ → Bool → Array
over_places shape places writable = record { buffer = 0; path = []; shape = shape; places = places; writable = writable }

-- `numpy.broadcast_to(numpy.array([[0], [1]]), (2, 3))`, which is read-only
repeated : (s : State) → seen (Broadcast (2 ∷ 3 ∷ [])) s (over_places (2 ∷ 1 ∷ []) (0 ∷ 1 ∷ []) true) ≡ Ok (a_view (over_places (2 ∷ 3 ∷ []) (0 ∷ 0 ∷ 0 ∷ 1 ∷ 1 ∷ 1 ∷ []) false))
unfolding shape_of stretched over_places
repeated s = refl

-- `numpy.broadcast_to(numpy.arange(3), (3,))`, which is read-only too
as_it_is : (s : State) → seen (Broadcast (3 ∷ [])) s (over_places (3 ∷ []) (0 ∷ 1 ∷ 2 ∷ []) true) ≡ Ok (a_view (over_places (3 ∷ []) (0 ∷ 1 ∷ 2 ∷ []) false))
unfolding shape_of stretched over_places
as_it_is s = refl

-- an array without items does not broadcast to a shape with items. Whether the shape is too large is checked first.
no_items : (s : State) → seen (Broadcast (2 ∷ 1 ∷ [])) s (over_places (0 ∷ []) [] true) ≡ Err ShapesDoNotBroadcast
unfolding shape_of stretched over_places
no_items s = refl

too_large : (s : State) → seen (Broadcast (16777217 ∷ [])) s (over_places (0 ∷ []) [] true) ≡ Err TooLarge
unfolding shape_of stretched over_places
too_large s = refl

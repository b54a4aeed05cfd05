-- Items that are to be written: stretched into a shape, and cast.
use Rattle.std.proofs.Common.{◌≡◌, ◌<◌, ◌≤◌, ◌+◌, ◌*◌, ℕ, zero, suc, Bool, true, false, nat_le, if◌then◌else◌, List, [], ◌∷◌, length, map, get_or, slice_index, Option, Some, None, is_some, refl, sym, ap, ◌∙◌, subst, All, Result, Ok, Err, inl, inr, arith}
use Rattle.bench_engine.proofs.Words.{get, false≢true, le-leb, get_or-map, length-map, map-map, Refusal, OutOfMemory, TooLarge, NoSuchCast, Descr, item_from, item_size, leaves_of, AreAlike, LeafValue, can_cast, cast_item, Layout, count, indexes, rank, length-offsets, offsets, max_bytes, IsViewOf, GivesView, stretched_into, Items, Owned, Operand, State, addresses, buffer_of, descr_of, read, span_of, placed_item, part_at, Shows, ArrayRef, Source, Supplies, View, Array, viewed, operand_part, argument_items, LiesIn, Stretches, Fitted, cast_from, StandsFor, LiesInBuffer, Meets}
use Rattle.script_lang.specs.declared.command.Argument.TheVariants as argument
use Rattle.name_store.specs.declared.target.Source.TheVariants as source
use Rattle.bench_engine.proofs.Assigns.{all-viewed, lies-viewed, stretched-shape}
use Rattle.bench_engine.proofs.Casts.{cast-none, cast-some}
use Rattle.bench_engine.proofs.Views.{given-view}

pub stretches : (view wide : Layout) (shape : List ℕ) → GivesView view (Ok wide) (stretched_into view.shape shape) → Stretches view shape wide
stretches view wide shape gives =
    let is = given-view view wide (stretched_into view.shape shape) gives in
    record { seen = is.0; there = is.1; is = is.2 }

pub wide-shape : (view wide : Layout) (shape : List ℕ) → GivesView view (Ok wide) (stretched_into view.shape shape) → wide.shape ≡ shape
wide-shape view wide shape gives = stretched-shape view (Ok wide) shape gives

pub wide-inside : (block : List ℕ) (item : ℕ) (view wide : Layout) (shape : List ℕ) → GivesView view (Ok wide) (stretched_into view.shape shape) → All (λ offset. offset + item ≤ length block) (offsets view) → All (λ offset. offset + item ≤ length block) (offsets wide)
wide-inside block item view wide shape gives inside =
    let is = given-view view wide (stretched_into view.shape shape) gives in
    all-viewed (λ offset. offset + item ≤ length block) view wide is.0 is.2 inside

-- a cast that exists, to at most 2^28 bytes, is refused only as out of memory
pub cast-lacks : (can : Bool) (shape wide : List ℕ) (item : ℕ) (e : Refusal) → can ≡ true → wide ≡ shape → count shape * item ≤ max_bytes →
    e ≡ (if can then (if nat_le (count wide * item) max_bytes then OutOfMemory else TooLarge) else NoSuchCast) → e ≡ OutOfMemory
cast-lacks can shape wide item e is shaped few refused =
    let small : count wide * item ≤ max_bytes = subst (λ (l : List ℕ). count l * item ≤ max_bytes) (sym shaped) few in
    refused ∙ (λ i. if is i then (if le-leb (count wide * item) max_bytes small i then OutOfMemory else TooLarge) else NoSuchCast)

-- ---- the items of a view of a part

pub stands-wide : (s : State) (part : Array) (x : Items) → StandsFor s part x → (wide : Layout) (seen : View) → IsViewOf x.layout.now wide seen → map (item_from x.descr.now x.block.now) (offsets wide) ≡ read s (viewed part seen)
stands-wide s part x stands wide seen is =
    ap (map item) is.places
    ∙ map-map item (λ index. slice_index (offsets x.layout.now) (rank x.layout.now.shape (seen.leads index))) (indexes seen.shape)
    ∙ through (indexes seen.shape) is.inside
    ∙ sym (map-map placed (λ index. slice_index part.places (rank part.shape (seen.leads index))) (indexes seen.shape))
  where
    item : ℕ → List LeafValue
    item offset = item_from x.descr.now x.block.now offset

    placed : ℕ → List LeafValue
    placed place = part_at (span_of s part) (placed_item (buffer_of s part).items place)

    each : (k : ℕ) → k < length (offsets x.layout.now) → item (slice_index (offsets x.layout.now) k) ≡ placed (slice_index part.places k)
    each k below =
        sym (get_or-map item (offsets x.layout.now) k 0 [] below)
        ∙ ap (λ (items : List (List LeafValue)). get_or items k []) (sym stands.items)
        ∙ get_or-map placed part.places k 0 [] (omega (arith, below, counted))
      where
        counted : length (offsets x.layout.now) ≡ length part.places
        counted = sym (length-map (offsets x.layout.now) item) ∙ ap length (sym stands.items) ∙ length-map part.places placed

    through : (list : List (List ℕ)) → All (λ index. rank x.layout.now.shape (seen.leads index) < length (offsets x.layout.now)) list →
        map (λ index. item (slice_index (offsets x.layout.now) (rank x.layout.now.shape (seen.leads index)))) list ≡ map (λ index. placed (slice_index part.places (rank part.shape (seen.leads index)))) list
    through [] inside = refl
    through (index ∷ list) inside = λ i.
        (each (rank x.layout.now.shape (seen.leads index)) (inside zero index (omega arith))
        ∙ ap (λ (l : List ℕ). placed (slice_index part.places (rank l (seen.leads index)))) (sym stands.shape)) i
        ∷ through list (λ k d below. inside (suc k) d (omega (arith, below))) i

-- ---- the items of an operand

-- a part of an array, of this shape, at these places
abbrev part_in : Array → List ℕ → List ℕ → Array
part_in array shape places = record array { shape = shape; places = places }

module _ (s : State) (operand : Operand) (descr : Descr) (shape : List ℕ) where
  -- the items of the part, in a block
  module _ (part : Array) (good : operand_part s operand ≡ Ok part) (x : Items) (stands : StandsFor s part x) where
    items-narrow : (e : Refusal) → stretched_into part.shape shape ≡ Err e → argument_items s (argument.Operand operand) descr shape ≡ Err e
    items-narrow e narrow = rw (good, narrow) refl

    items-uncast : (wide : View) → stretched_into part.shape shape ≡ Ok wide → can_cast (descr_of s part) descr ≡ false → argument_items s (argument.Operand operand) descr shape ≡ Err NoSuchCast
    items-uncast wide fits none = rw (good, fits) (cast-none s (viewed part wide) descr none)

    items-done : (wide : View) → stretched_into part.shape shape ≡ Ok wide → can_cast (descr_of s part) descr ≡ true →
        argument_items s (argument.Operand operand) descr shape ≡ Ok (map (cast_item (descr_of s part) descr) (read s (viewed part wide)))
    items-done wide fits can = rw (good, fits) (cast-some s (viewed part wide) descr can)

    fits : (wide : Layout) (is : Stretches x.layout.now shape wide) → stretched_into part.shape shape ≡ Ok is.seen
    fits wide is = ap (λ (l : List ℕ). stretched_into l shape) stands.shape ∙ is.there

    done : (wide : Layout) (is : Stretches x.layout.now shape wide) → can_cast x.descr.now descr ≡ true →
        argument_items s (argument.Operand operand) descr shape ≡ Ok (map (cast_item (descr_of s part) descr) (read s (viewed part is.seen)))
    done wide is can = items-done is.seen (fits wide is) (ap (λ d. can_cast d descr) stands.descr ∙ can)

    cast-read : (wide : Layout) (is : Stretches x.layout.now shape wide) → cast_from x.block.now x.descr.now wide descr ≡ map (cast_item (descr_of s part) descr) (read s (viewed part is.seen))
    cast-read wide is =
        sym (map-map (cast_item x.descr.now descr) (item_from x.descr.now x.block.now) (offsets wide))
        ∙ (λ i. map (cast_item (sym stands.descr i) descr) (stands-wide s part x stands wide is.seen is.is i))

    block-given : (number : Option ℕ) (o : Owned) → Fitted x number shape descr (Ok (source.Block o)) → Meets (Supplies s descr (count shape)) (Ok (source.Block o)) (argument_items s (argument.Operand operand) descr shape)
    block-given number o (wide, is, can, type-is, shape-is, items) =
        subst (Meets (Supplies s descr (count shape)) (Ok (source.Block o))) (sym (done wide is can))
        (record { alike = record { leaves = ap leaves_of type-is; size = ap item_size type-is }; count = length-offsets o.layout ∙ ap count shape-is }, items ∙ cast-read wide is)

    none-given : (number : Option ℕ) (e : Refusal) → Fitted x number shape descr (Err e) → Meets (Supplies s descr (count shape)) (Err e) (argument_items s (argument.Operand operand) descr shape)
    none-given number e (inl lacks) = inl lacks
    none-given number e (inr (inl narrow)) = inr (items-narrow e (ap (λ (l : List ℕ). stretched_into l shape) stands.shape ∙ narrow))
    none-given number e (inr (inr (none, wide, is, cannot))) = inr (items-uncast is.seen (fits wide is) (ap (λ d. can_cast d descr) stands.descr ∙ cannot) ∙ ap Err (sym none))

    -- a copy
    copy-given : (result : Result Source Refusal) → Fitted x None shape descr result → Meets (Supplies s descr (count shape)) result (argument_items s (argument.Operand operand) descr shape)
    copy-given (Ok (source.One bytes)) is = absurd is
    copy-given (Ok (source.Buffer number wide)) (same, stretches, can, alike, items) = let no : ⊥ = cc in absurd no
    copy-given (Ok (source.Block o)) is = block-given None o is
    copy-given (Err e) is = none-given None e is

  -- items in the buffer of a shown array
  module _ (b : Array) (r : ArrayRef) (shows : Shows s b r) (lengths places : List ℕ) (good : operand_part s operand ≡ Ok (part_in b lengths places)) (x : Items) (stands : StandsFor s (part_in b lengths places) x)
      (lies : LiesIn s b (part_in b lengths places) x.layout.now) where
    buffer-given : (number : ℕ) (wide : Layout) → Fitted x (Some r.number) shape descr (Ok (source.Buffer number wide)) → Meets (Supplies s descr (count shape)) (Ok (source.Buffer number wide)) (argument_items s (argument.Operand operand) descr shape)
    buffer-given number wide (same, is, can, alike, items) =
        let same-number : r.number ≡ number = cc in
        let seen = lies-viewed s b (part_in b lengths places) x.layout.now wide is.seen lies is.is in
        subst (Meets (Supplies s descr (count shape)) (Ok (source.Buffer number wide))) (sym (done (part_in b lengths places) good x stands wide is can)) (
          record (viewed (part_in b lengths places) is.seen) { writable = false },
          record {
            view = record {
              number_is = sym same-number ∙ shows.view.number_is;
              path_is = refl;
              there = subst (λ n. is_some (get s.buffers n) ≡ true) same-number shows.view.there;
              laid = record {
                part = shows.view.laid.part;
                shape = is.is.shape;
                places = seen.offsets_are ∙ ap (λ (a : Array). addresses s (record b { places = a.places })) (sym seen.part_is);
                writable_is = refl;
                fits = seen.fits;
                nested = λ no. absurd (false≢true no);
              };
            };
            alike = subst (λ (d : Descr). AreAlike d descr) (sym stands.descr) alike;
            count = length-offsets wide ∙ ap count (stretched-shape x.layout.now (Ok wide) shape (subst (GivesView x.layout.now (Ok wide)) (sym is.there) is.is));
          },
          sym (stands-wide s (part_in b lengths places) x stands wide is.seen is.is) ∙ items ∙ cast-read (part_in b lengths places) good x stands wide is,
        )

    view-given : (result : Result Source Refusal) → Fitted x (Some r.number) shape descr result → Meets (Supplies s descr (count shape)) result (argument_items s (argument.Operand operand) descr shape)
    view-given (Ok (source.One bytes)) is = absurd is
    view-given (Ok (source.Buffer number wide)) is = buffer-given number wide is
    view-given (Ok (source.Block o)) is = block-given (part_in b lengths places) good x stands (Some r.number) o is
    view-given (Err e) is = none-given (part_in b lengths places) good x stands (Some r.number) e is

  -- any part
  pub part-given : (part : Array) (number : Option ℕ) (x : Items) (result : Result Source Refusal) → operand_part s operand ≡ Ok part → StandsFor s part x → LiesInBuffer s part number x.layout.now →
      Fitted x number shape descr result → Meets (Supplies s descr (count shape)) result (argument_items s (argument.Operand operand) descr shape)
  part-given part None x result good stands lies is = copy-given part good x stands result is
  part-given part (Some number) x result good stands (b, r, shows, same, lies) is =
      subst (λ (p : Array). operand_part s operand ≡ Ok p → StandsFor s p x → LiesIn s b p x.layout.now → Meets (Supplies s descr (count shape)) result (argument_items s (argument.Operand operand) descr shape)) (sym lies.part_is)
      (λ good stands lies. view-given b r shows _ _ good x stands lies result (subst (λ n. Fitted x (Some n) shape descr result) same is)) good stands lies

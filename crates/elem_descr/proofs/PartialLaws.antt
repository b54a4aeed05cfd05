-- What stays true for a record being built when fields and padding are added to it.
use Rattle.std.proofs.Common.{◌≡◌, ◌≤◌, ◌<◌, ◌+◌, ℕ, Bool, true, false, List, [], ◌∷◌, ◌++◌, length, refl, IsTrue, arith, length-append, ◌||◌}
use Rattle.elem_descr.proofs.Words.{IsDistinct, AllByRecursion, bytes_eq, list_all-append, map-append, Field, is_legal_name, IsLegal, listed, item_size, leaves_of, Partial, IsShallow, empty, is_taken, IsPartial, names}
use Rattle.elem_descr.proofs.FieldLaws.{fields_of-listed}
use Rattle.elem_descr.proofs.FieldLists.{in_order_push, InOrder-later, within_push, depth_push, leaf_count-push}

pub empty_partial : (levels leaves : ℕ) → levels < 4 → leaves ≤ 2048 → IsPartial (empty levels leaves)
unfolding IsDistinct
empty_partial levels leaves few small =
    record {
      few = omega arith;
      small = omega arith;
      aligned = (omega arith, omega arith);
      in_order = omega arith;
      named = refl;
      distinct = tt;
      within = tt;
      deep = omega arith;
      shallow = omega arith;
      counted = omega arith;
      few_leaves = small;
    }

apart_push : (name : List ℕ) (fields : List Field) (field : Field) → AllByRecursion (λ other. bytes_eq name other ≡ false) (names fields) → bytes_eq name field.name ≡ false → AllByRecursion (λ other. bytes_eq name other ≡ false) (names (fields ++ field ∷ []))
apart_push name [] field all one = (one, tt)
apart_push name (first ∷ fields) field all one = (all.0, apart_push name fields field all.1 one)

distinct_push : (fields : List Field) (field : Field) → IsDistinct bytes_eq (names fields) → is_taken fields field.name ≡ false → IsDistinct bytes_eq (names (fields ++ field ∷ []))
unfolding IsDistinct
distinct_push [] field h free = (tt, tt)
distinct_push (first ∷ fields) field h free =
    let both = or_false (bytes_eq first.name field.name) (is_taken fields field.name) free in
    (apart_push first.name fields field h.0 both.0, distinct_push fields field h.1 both.1)
  where
    or_false : (a b : Bool) → (a || b) ≡ false → (a ≡ false) × (b ≡ false)
    or_false true b e = let no : ⊥ = cc in absurd no
    or_false false b e = (refl, e)

-- `n` more bytes of padding
pub widened_partial : (p : Partial) (n : ℕ) → IsPartial p → p.size + n ≤ 65536 → IsPartial (record p { size = p.size + n })
widened_partial p n h small =
    record {
      few = h.few;
      small = small;
      aligned = h.aligned;
      in_order = InOrder-later 0 (listed p.fields) p.size (p.size + n) h.in_order (omega arith);
      named = h.named;
      distinct = h.distinct;
      within = h.within;
      deep = h.deep;
      shallow = h.shallow;
      counted = h.counted;
      few_leaves = h.few_leaves;
    }

-- a field that may be added
pub record MayFollow (p : Partial) (field : Field) : Type 0 where
  pub legal : IsTrue (is_legal_name field.name)
  pub free : is_taken p.fields field.name ≡ false
  pub room : length p.fields < 64
  pub shallow : IsShallow p.levels field.descr
  pub later : p.size ≤ field.at
  pub some : 1 ≤ item_size field.descr
  pub within : field.at + item_size field.descr ≤ 65536
  pub few_leaves : p.leaves + length (leaves_of field.descr) ≤ 2048

pub partial_push : (p : Partial) (field : Field) (aligned : ℕ) → IsPartial p → MayFollow p field → (1 ≤ aligned) × (aligned ≤ 8) → IsPartial (record { size = field.at + item_size field.descr; alignment = aligned; leaves = p.leaves + length (leaves_of field.descr); levels = p.levels; fields = p.fields ++ field ∷ [] })
partial_push p field aligned h may a =
    record {
      few = omega (arith, may.room, length-append p.fields (field ∷ []));
      small = may.within;
      aligned = a;
      in_order = in_order_push p.levels p.fields p.size field h.in_order may.shallow may.later may.some;
      named = rw (map-append (λ (each : Field). each.name) p.fields (field ∷ []), list_all-append is_legal_name (names p.fields) (field.name ∷ []), h.named, may.legal) refl;
      distinct = distinct_push p.fields field h.distinct may.free;
      within = within_push p.levels p.fields field h.within may.shallow;
      deep = h.deep;
      shallow = depth_push p.levels p.fields field h.shallow may.shallow;
      counted = omega (arith, h.counted, leaf_count-push p.fields field);
      few_leaves = may.few_leaves;
    }

-- The complete record is legal.
pub closed_legal : (p : Partial) (bytes : ℕ) → IsPartial p → 1 ≤ length p.fields → p.size ≤ bytes → bytes ≤ 65536 → IsLegal (record { size = bytes; fields = listed p.fields })
closed_legal p bytes h some within small =
    let same = fields_of-listed p.fields in
    record {
      small = small;
      shallow = omega (arith, h.shallow, h.deep);
      few = omega (arith, h.counted, h.few_leaves);
      in_order = InOrder-later 0 (listed p.fields) p.size bytes h.in_order within;
      named = record { some = rw same some; few = rw same h.few; named = rw same h.named; distinct = rw same h.distinct };
      within = h.within;
    }

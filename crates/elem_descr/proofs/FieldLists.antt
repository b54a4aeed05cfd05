-- Lists of fields: appending a field keeps their properties.
use Rattle.std.proofs.Common.{◌≡◌, ◌≤◌, ◌+◌, ℕ, List, [], ◌∷◌, ◌++◌, length, max, refl, arith}
use Rattle.elem_descr.proofs.Words.{Field, Descr, ScalarDescr, RecordDescr, size, Fields, no_more, scalar_field, record_field, InOrder, AreNamedWithin, listed, before, depth, leaf_count, item_size, leaves_of, IsShallow, leaf_count-before, some_depth}

-- Fields that are in order up to `bytes` are also in order up to a later end.
pub InOrder-later : (from : ℕ) (fields : Fields) (bytes more : ℕ) → InOrder from fields bytes → bytes ≤ more → InOrder from fields more
InOrder-later from no_more bytes more h l = omega arith
InOrder-later from (scalar_field name at scalar rest) bytes more h l = (h.0, h.1, InOrder-later (at + size scalar) rest bytes more h.2 l)
InOrder-later from (record_field name at size inner rest) bytes more h l = (h.0, h.1, h.2, InOrder-later (at + size) rest bytes more h.3 l)

-- what must hold for a field at `at`, if fields are in order from `from` on and it is the first of them
abbrev Begins : ℕ → ℕ → Descr → Type 0
Begins from at (ScalarDescr scalar) = (from ≤ at) × (1 ≤ size scalar)
Begins from at (RecordDescr structure) = (from ≤ at) × (1 ≤ structure.size) × InOrder 0 structure.fields structure.size

in_order_before : (from : ℕ) (name : List ℕ) (at : ℕ) (descr : Descr) (rest : Fields) (bytes : ℕ) → Begins from at descr → InOrder (at + item_size descr) rest bytes → InOrder from (before name at descr rest) bytes
in_order_before from name at (ScalarDescr scalar) rest bytes b h = (b.0, b.1, h)
in_order_before from name at (RecordDescr structure) rest bytes b h = (b.0, b.1, b.2, h)

InOrder-begins : (from : ℕ) (name : List ℕ) (at : ℕ) (descr : Descr) (rest : Fields) (bytes : ℕ) → InOrder from (before name at descr rest) bytes → Begins from at descr × InOrder (at + item_size descr) rest bytes
InOrder-begins from name at (ScalarDescr scalar) rest bytes h = ((h.0, h.1), h.2)
InOrder-begins from name at (RecordDescr structure) rest bytes h = ((h.0, h.1, h.2), h.3)

-- If fields are in order, they still are after a field that begins at their end or later is appended.
InOrder-push : (from : ℕ) (fields : List Field) (bytes : ℕ) (field : Field) → InOrder from (listed fields) bytes → Begins bytes field.at field.descr → InOrder from (listed (fields ++ field ∷ [])) (field.at + item_size field.descr)
InOrder-push from [] bytes field h b = in_order_before from field.name field.at field.descr no_more (field.at + item_size field.descr) (earlier from bytes field.at field.descr h b) (omega arith)
  where
    earlier : (from bytes at : ℕ) (descr : Descr) → from ≤ bytes → Begins bytes at descr → Begins from at descr
    earlier from bytes at (ScalarDescr scalar) l b = (omega (arith, b.0), b.1)
    earlier from bytes at (RecordDescr structure) l b = (omega (arith, b.0), b.1, b.2)
InOrder-push from (first ∷ fields) bytes field h b =
    let parts = InOrder-begins from first.name first.at first.descr (listed fields) bytes h in
    in_order_before from first.name first.at first.descr (listed (fields ++ field ∷ [])) (field.at + item_size field.descr) parts.0 (InOrder-push (first.at + item_size first.descr) fields bytes field parts.1 b)

-- A field of a record that allows `levels` levels meets these conditions.
begins_legal : (levels bytes at : ℕ) (descr : Descr) → IsShallow levels descr → bytes ≤ at → 1 ≤ item_size descr → Begins bytes at descr
begins_legal levels bytes at (ScalarDescr scalar) h l some = (l, some)
begins_legal levels bytes at (RecordDescr structure) h l some = (l, some, h.0.in_order)

pub in_order_push : (levels : ℕ) (fields : List Field) (bytes : ℕ) (field : Field) → InOrder 0 (listed fields) bytes → IsShallow levels field.descr → bytes ≤ field.at → 1 ≤ item_size field.descr → InOrder 0 (listed (fields ++ field ∷ [])) (field.at + item_size field.descr)
in_order_push levels fields bytes field h legal l some = InOrder-push 0 fields bytes field h (begins_legal levels bytes field.at field.descr legal l some)

within_before : (levels : ℕ) (name : List ℕ) (at : ℕ) (descr : Descr) (rest : Fields) → IsShallow levels descr → AreNamedWithin rest → AreNamedWithin (before name at descr rest)
within_before levels name at (ScalarDescr scalar) rest h more = more
within_before levels name at (RecordDescr structure) rest h more = (h.0.named, h.0.within, more)

within_split : (name : List ℕ) (at : ℕ) (descr : Descr) (rest other : Fields) → AreNamedWithin (before name at descr rest) → AreNamedWithin other → AreNamedWithin (before name at descr other)
within_split name at (ScalarDescr scalar) rest other h more = more
within_split name at (RecordDescr structure) rest other h more = (h.0, h.1, more)

pub within_behind : (name : List ℕ) (at : ℕ) (descr : Descr) (rest : Fields) → AreNamedWithin (before name at descr rest) → AreNamedWithin rest
within_behind name at (ScalarDescr scalar) rest h = h
within_behind name at (RecordDescr structure) rest h = h.2

pub within_push : (levels : ℕ) (fields : List Field) (field : Field) → AreNamedWithin (listed fields) → IsShallow levels field.descr → AreNamedWithin (listed (fields ++ field ∷ []))
within_push levels [] field h legal = within_before levels field.name field.at field.descr no_more legal tt
within_push levels (first ∷ fields) field h legal =
    within_split first.name first.at first.descr (listed fields) (listed (fields ++ field ∷ [])) h (within_push levels fields field (within_behind first.name first.at first.descr (listed fields) h) legal)

-- the depth of a record that has only this field
abbrev depth_at : Descr → ℕ
depth_at (ScalarDescr scalar) = 1
depth_at (RecordDescr structure) = 1 + depth structure.fields

pub depth-before : (name : List ℕ) (at : ℕ) (descr : Descr) (rest : Fields) → depth (before name at descr rest) ≡ max (depth_at descr) (depth rest)
depth-before name at (ScalarDescr scalar) rest = omega (arith, some_depth rest)
depth-before name at (RecordDescr structure) rest = refl

shallow_at : (levels : ℕ) (descr : Descr) → IsShallow levels descr → depth_at descr ≤ 1 + levels
shallow_at levels (ScalarDescr scalar) h = omega arith
shallow_at levels (RecordDescr structure) h = omega (arith, h.1)

pub depth_push : (levels : ℕ) (fields : List Field) (field : Field) → depth (listed fields) ≤ 1 + levels → IsShallow levels field.descr → depth (listed (fields ++ field ∷ [])) ≤ 1 + levels
depth_push levels [] field h legal = omega (arith, depth-before field.name field.at field.descr no_more, shallow_at levels field.descr legal)
depth_push levels (first ∷ fields) field h legal =
    let whole = depth-before first.name first.at first.descr (listed fields) in
    let more = depth-before first.name first.at first.descr (listed (fields ++ field ∷ [])) in
    omega (arith, whole, more, depth_push levels fields field (omega (arith, whole)) legal)

pub leaf_count-push : (fields : List Field) (field : Field) → leaf_count (listed (fields ++ field ∷ [])) ≡ leaf_count (listed fields) + length (leaves_of field.descr)
leaf_count-push [] field = omega (arith, leaf_count-before field.name field.at field.descr no_more)
leaf_count-push (first ∷ fields) field =
    omega (arith, leaf_count-push fields field, leaf_count-before first.name first.at first.descr (listed fields), leaf_count-before first.name first.at first.descr (listed (fields ++ field ∷ [])))

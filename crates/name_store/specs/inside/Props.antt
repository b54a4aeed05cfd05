-- The invariant of a buffer is a proposition: it has at most one proof.
use Rattle.std.specs.Prelude.{◌+◌, ℕ, List}
use Rattle.name_store.specs.Words.{Unit-prop, le_prop, props, Descr, IsLegal, InOrder, AreNamed, AreNamedWithin, size, Fields, no_more, scalar_field, record_field, Structure, ScalarDescr, RecordDescr}
use Rattle.name_store.specs.Places.{IsElementType, HasJustItems}

InOrder-prop : (from : ℕ) (fields : Fields) (bytes : ℕ) → IsProp (InOrder from fields bytes)
InOrder-prop from no_more bytes = le_prop
InOrder-prop from (scalar_field name at scalar rest) bytes = let later = InOrder-prop (at + size scalar) rest bytes in hlevel (later, le_prop)
InOrder-prop from (record_field name at width inner rest) bytes =
    let within = InOrder-prop 0 inner width in
    let later = InOrder-prop (at + width) rest bytes in
    hlevel (within, later, le_prop)

AreNamed-prop : (fields : Fields) → IsProp (AreNamed fields)
AreNamed-prop fields = hlevel props

AreNamedWithin-prop : (fields : Fields) → IsProp (AreNamedWithin fields)
AreNamedWithin-prop no_more = Unit-prop
AreNamedWithin-prop (scalar_field name at scalar rest) = AreNamedWithin-prop rest
AreNamedWithin-prop (record_field name at width inner rest) =
    let own = AreNamed-prop inner in
    let within = AreNamedWithin-prop inner in
    let later = AreNamedWithin-prop rest in
    hlevel (own, within, later)

IsLegal-prop : (s : Structure) → IsProp (IsLegal s)
IsLegal-prop s = hlevel (InOrder-prop, AreNamed-prop, AreNamedWithin-prop, props)

IsElementType-prop : (descr : Descr) → IsProp (IsElementType descr)
IsElementType-prop (ScalarDescr scalar) = le_prop
IsElementType-prop (RecordDescr structure) = IsLegal-prop structure

pub IsWhole-prop : (descr : Descr) (items : ℕ) (block : List ℕ) → IsProp (HasJustItems descr items block)
IsWhole-prop descr items block = hlevel (IsElementType-prop, props)

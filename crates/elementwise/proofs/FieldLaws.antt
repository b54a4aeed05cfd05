-- Fields and the fields that they are cast to, one by one.
use Rattle.std.proofs.Common.{◌≡◌, ◌+◌, ◌<◌, ◌≤◌, ℕ, Bool, true, false, List, [], ◌∷◌, length, get_or, drop, refl, sym, ap, ◌∙◌, arith, ◌&&◌}
use Rattle.elementwise.proofs.Words.{drop_all, and_parts, Descr, Field, Fields, no_more, Structure, before, listed, fields_of, rest_at, seen_fields, ScalarDescr, RecordDescr, can_cast_fields, can_cast_field}

fields-before : (name name' : List ℕ) (at at' : ℕ) (from to : Descr) (rest others : Fields) → can_cast_fields (before name at from rest) (before name' at' to others) ≡ (can_cast_field from to && can_cast_fields rest others)
fields-before name name' at at' (ScalarDescr from) (ScalarDescr to) rest others = refl
fields-before name name' at at' (ScalarDescr from) (RecordDescr to) rest others = refl
fields-before name name' at at' (RecordDescr from) (ScalarDescr to) rest others = refl
fields-before name name' at at' (RecordDescr from) (RecordDescr to) rest others = refl

-- a loop is at a field, and at the field at the same position
pub record IsTurn (from to : List Field) (k : ℕ) (field other : Field) : Type 0 where
  pub low : k < length from
  pub near : k < length to
  pub is : field ≡ get_or from k field
  pub there : other ≡ get_or to k other

-- whether the remaining fields can be cast
abbrev pub left : List Field → List Field → ℕ → Bool
left from to k = can_cast_fields (listed (drop k from)) (listed (drop k to))

-- those two fields, and the later ones
at-turn : (from to : List Field) (k : ℕ) (field other : Field) → IsTurn from to k field other → left from to k ≡ (can_cast_field field.descr other.descr && left from to (k + 1))
at-turn from to k field other turn =
    (λ i. can_cast_fields (listed (rest_at from field k turn.low turn.is i)) (listed (rest_at to other k turn.near turn.there i)))
    ∙ fields-before field.name other.name field.at other.at field.descr other.descr (listed (drop (k + 1) from)) (listed (drop (k + 1) to))

pub turn_fails : (from to : List Field) (k : ℕ) (field other : Field) → IsTurn from to k field other → can_cast_field field.descr other.descr ≡ false → left from to k ≡ false
turn_fails from to k field other turn fails = at-turn from to k field other turn ∙ ap (λ first. first && left from to (k + 1)) fails

pub turn_passes : (from to : List Field) (k : ℕ) (field other : Field) → IsTurn from to k field other → can_cast_field field.descr other.descr ≡ true → left from to (k + 1) ≡ left from to k
turn_passes from to k field other turn passes = sym (at-turn from to k field other turn ∙ ap (λ first. first && left from to (k + 1)) passes)

pub none_left : (from to : List Field) (k : ℕ) → length from ≤ k → length to ≤ k → left from to k ≡ true
none_left from to k past over = λ i. can_cast_fields (listed (drop_all k from past i)) (listed (drop_all k to over i))

pub records : (from to : Descr) (structure other : Structure) (fields others : List Field) → from ≡ RecordDescr structure → to ≡ RecordDescr other → fields ≡ fields_of structure.fields → others ≡ fields_of other.fields → can_cast_fields (listed fields) (listed others) ≡ can_cast_field from to
records from to structure other fields others is there are have =
    (λ i. can_cast_fields (seen_fields fields structure.fields are i) (seen_fields others other.fields have i))
    ∙ sym (λ i. can_cast_field (is i) (there i))

none-before : (name : List ℕ) (at : ℕ) (to : Descr) (others : Fields) → can_cast_fields no_more (before name at to others) ≡ false
none-before name at (ScalarDescr to) others = refl
none-before name at (RecordDescr to) others = refl

before-none : (name : List ℕ) (at : ℕ) (from : Descr) (rest : Fields) → can_cast_fields (before name at from rest) no_more ≡ false
before-none name at (ScalarDescr from) rest = refl
before-none name at (RecordDescr from) rest = refl

-- there are equally many fields
pub even : (from to : List Field) → can_cast_fields (listed from) (listed to) ≡ true → length from ≡ length to
even [] [] can = refl
even [] (other ∷ to) can = let none = none-before other.name other.at other.descr (listed to) in cc
even (field ∷ from) [] can = let none = before-none field.name field.at field.descr (listed from) in cc
even (field ∷ from) (other ∷ to) can =
    let both = sym (fields-before field.name other.name field.at other.at field.descr other.descr (listed from) (listed to)) ∙ can in
    let more = even from to (and_parts (can_cast_field field.descr other.descr) (can_cast_fields (listed from) (listed to)) both).1 in
    omega (arith, more)

pub uneven : (from to : List Field) → (length from ≡ length to → ⊥) → can_cast_fields (listed from) (listed to) ≡ false
uneven from to never = decided (can_cast_fields (listed from) (listed to)) (λ can. never (even from to can))
  where
    decided : (b : Bool) → (b ≡ true → ⊥) → b ≡ false
    decided true no_way = absurd (no_way refl)
    decided false no_way = refl

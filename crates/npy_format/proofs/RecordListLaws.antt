-- The entries of a list, one after another.
use Rattle.std.proofs.Common.{◌≡◌, ◌⊎◌, ◌<◌, ◌+◌, ◌-◌, ℕ, suc, Bool, true, false, List, ◌∷◌, Option, Some, None, Result, Ok, Err, refl, ap, ⊎_elim, inl, inr, ◌∙◌, arith, if◌then◌else◌}
use Rattle.npy_format.proofs.Words.{Refusal, DescriptorLeftOut, OutOfMemory, ◌>>=◌, Gives, Answers, Descr, Structure, is_legal_name, is_empty, Partial, max_depth, empty, checked_name, added, closed_record, RecordDescr, Token, Literal, Plain, Row, all_listed_values, value_literals, Text, Round, Square, symbol_token_at, Reader, pad_in, type_in, field_in, named_in, entry_in, fields_in, record_in, descr_in, behind_entry, HasValues, Stands, value_in, name_and_type, entry_parts}
use Rattle.npy_format.proofs.ValueLaws.{literals_of_listed}
use Rattle.npy_format.proofs.PlaceLaws.{stand_closed, stand_open}
use Rattle.npy_format.proofs.StandLaws.{next_stands, is_read}

-- a record so far, and the remaining entries
pub record FieldsLeft (levels leaves : ℕ) (whole : List Literal) (p : Partial) (toks : List Token) : Type 0 where
  pub left : List Literal
  pub stand : HasValues 93 toks left
  pub read : record_in levels leaves whole ≡ (fields_in (record_in (levels - 1)) p left >>= closed_record false)

pub fields_begin : (levels leaves : ℕ) (whole : List Literal) (toks : List Token) → 0 < levels → HasValues 93 toks whole → FieldsLeft levels leaves whole (empty (levels - 1) leaves) toks
unfolding record_in
fields_begin levels leaves whole toks some s =
    let one : levels ≡ suc (levels - 1) = omega arith in
    record { left = whole; stand = s; read = ap (λ (n : ℕ). record_in n leaves whole) one }

no_93 : let n : ℕ = 93 in n ≡ 44 → ⊥
no_93 wrong = omega (arith, wrong)

module _ (levels leaves : ℕ) (whole : List Literal) (p : Partial) (toks : List Token) (h : FieldsLeft levels leaves whole p toks) where
  pub fields_closed : (end : List Token) → Some end ≡ symbol_token_at 93 toks → record_in levels leaves whole ≡ closed_record false p
  fields_closed end ends = h.read ∙ ap (λ (l : List Literal). fields_in (record_in (levels - 1)) p l >>= closed_record false) (stand_closed value_in 93 toks h.left h.stand end ends)

  module _ (more : None ≡ symbol_token_at 93 toks) where
    pub fields_read : (e : Refusal) → behind_entry value_in toks ≡ Err e → ⊥
    fields_read e fails = is_read value_in 93 no_93 toks h.left h.stand more e fails

    module _ (same : p.levels + 1 ≡ levels) where
      step : (first : Literal) (others : List Literal) → h.left ≡ first ∷ others → record_in levels leaves whole ≡ ((entry_in (record_in p.levels) p first >>= λ next. fields_in (record_in (levels - 1)) next others) >>= closed_record false)
      step first others is =
          let less : levels - 1 ≡ p.levels = omega (arith, same) in
          h.read ∙ ap (λ (l : List Literal). fields_in (record_in (levels - 1)) p l >>= closed_record false) is
          ∙ ap (λ (n : ℕ). (entry_in (record_in n) p first >>= λ next. fields_in (record_in (levels - 1)) next others) >>= closed_record false) less

      pub fields_next : (next : Partial) → ((v : Literal) → Stands toks v → entry_in (record_in p.levels) p v ≡ Ok next) → (rest : List Token) → behind_entry value_in toks ≡ Ok rest → FieldsLeft levels leaves whole next rest
      fields_next next reads rest behind =
          let n = next_stands value_in 93 no_93 toks h.left h.stand more rest behind in
          record {
            left = n.1;
            stand = n.5;
            read = step n.0 n.1 n.4 ∙ ap (λ r. (r >>= λ next. fields_in (record_in (levels - 1)) next n.1) >>= closed_record false) (reads n.0 (record { rest = n.2; is = n.3 }));
          }

      pub fields_refused : (e : Refusal) → ((v : Literal) → Stands toks v → (e ≡ OutOfMemory) ⊎ (entry_in (record_in p.levels) p v ≡ Err e)) → (e ≡ OutOfMemory) ⊎ (record_in levels leaves whole ≡ Err e)
      fields_refused e reads =
          let n = stand_open value_in 93 toks h.left no_93 h.stand more in
          ⊎_elim inl (λ is. inr (step n.first n.others n.is ∙ ap (λ r. (r >>= λ next. fields_in (record_in (levels - 1)) next n.others) >>= closed_record false) is)) (reads n.first (record { rest = n.after; is = n.reads }))

-- ---- a type, an entry

pub gives_same : {X Y : Type 0} (view : X → Y) (r : Result X Refusal) (there there' : Result Y Refusal) → there' ≡ there → Gives view r there → Gives view r there'
gives_same view (Ok x) there there' same is = same ∙ is
gives_same view (Err e) there there' same is = ⊎_elim inl (λ is. inr (same ∙ is)) is

pub gives_answer : {X Y : Type 0} (view : X → Y) (r : Result X Refusal) (there there' : Result Y Refusal) → there' ≡ there → Answers view r there → Gives view r there'
gives_answer view (Ok x) there there' same is = same ∙ is
gives_answer view (Err e) there there' same is = inr (same ∙ is)

pub gives_value : {X : Type 0} (r there : Result X Refusal) → there ≡ r → Gives (λ x. x) r there
gives_value (Ok x) there is = is
gives_value (Err e) there is = inr is

pub list_type : (within : List Literal → Result Structure Refusal) (v : Literal) (values : List Literal) → v ≡ Row Square (all_listed_values values) → type_in within v ≡ (within values >>= λ whole. Ok (RecordDescr whole))
list_type within v values is = ap (type_in within) is ∙ ap (λ (l : List Literal). within l >>= λ whole. Ok (RecordDescr whole)) (literals_of_listed values)

pub list_descr : (v : Literal) (values : List Literal) → v ≡ Row Square (all_listed_values values) → descr_in v ≡ (record_in max_depth 0 values >>= λ whole. Ok (RecordDescr whole))
list_descr v values is = ap descr_in is ∙ ap (λ (l : List Literal). record_in max_depth 0 l >>= λ whole. Ok (RecordDescr whole)) (literals_of_listed values)

-- what the name and the type of an entry mean
abbrev pub parts_in : Reader → Partial → Option (List ℕ × Literal) → Result Partial Refusal
parts_in within p None = Err DescriptorLeftOut
parts_in within p (Some parts) = if is_empty parts.0 then pad_in p parts.1 else field_in within p parts.0 parts.1

module _ (within : Reader) (p : Partial) where
  named_means : (values : List Literal) → named_in within p values ≡ parts_in within p (name_and_type values)
  named_means (Plain (Text name) ∷ type ∷ other ∷ more) = refl
  named_means _ = refl

  pub entry_means : (v : Literal) → entry_in within p v ≡ parts_in within p (entry_parts v)
  entry_means (Row Round row) = named_means (value_literals row)
  entry_means (Plain (Text name)) = refl
  entry_means _ = refl

  module _ (v : Literal) (name : List ℕ) (type : Literal) (parts : entry_parts v ≡ Some (name, type)) where
    pub entry_pad : is_empty name ≡ true → entry_in within p v ≡ pad_in p type
    entry_pad none = entry_means v ∙ ap (parts_in within p) parts ∙ ap (λ (b : Bool). if b then pad_in p type else field_in within p name type) none

    pub entry_field : is_empty name ≡ false → entry_in within p v ≡ field_in within p name type
    entry_field some = entry_means v ∙ ap (parts_in within p) parts ∙ ap (λ (b : Bool). if b then pad_in p type else field_in within p name type) some

  pub field_added : (name : List ℕ) (type : Literal) (descr : Descr) → is_legal_name name ≡ true → type_in (within p.leaves) type ≡ Ok descr → checked_name p name ≡ Ok tt → field_in within p name type ≡ added p name 1 descr
  unfolding field_in
  field_added name type descr legal means is = rw (legal, means, is) refl

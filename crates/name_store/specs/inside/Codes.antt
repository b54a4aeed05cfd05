-- Codes of the model's values, which a proof uses to tell values apart.
use Rattle.std.specs.Prelude.{ℕ, Bool, List}
use Rattle.std.proofs.Common.{refl}
use Rattle.name_store.specs.Words.{nat_cmp, Coded, code_by, coded×, coded_ℕ, coded_bool, coded_list, FinMap, code, Descr, LeafValue, leaf_code}
use Rattle.elem_descr.specs.contracts.descr.Descr as descr
use Rattle.name_store.specs.States.{Array, BenchValue, Buffer, State}

abbrev pub buffer_code : Coded Buffer
buffer_code =
    code_by (Descr × List (List LeafValue)) (coded× descr.the_row.coded (coded_list (coded_list leaf_code))) (λ b. (b.descr, b.items)) (λ p. record { descr = p.0; items = p.1 }) (λ _. refl)

abbrev pub array_code : Coded Array
array_code =
    code_by (ℕ × (List ℕ × (List ℕ × (List ℕ × Bool))))
    (coded× coded_ℕ (coded× (coded_list coded_ℕ) (coded× (coded_list coded_ℕ) (coded× (coded_list coded_ℕ) coded_bool))))
    (λ a. (a.buffer, (a.path, (a.shape, (a.places, a.writable)))))
    (λ p. record { buffer = p.0; path = p.1.0; shape = p.1.1.0; places = p.1.1.1.0; writable = p.1.1.1.1 }) (λ _. refl)

abbrev pub names_code : Coded (List (List ℕ × Array))
names_code = coded_list (coded× (coded_list coded_ℕ) array_code)

abbrev pub buffers_code : Coded (FinMap nat_cmp Buffer)
buffers_code = code coded_ℕ buffer_code

abbrev pub state_code : Coded State
state_code =
    code_by (List (List ℕ × Array) × (FinMap nat_cmp Buffer × (ℕ × List (List (List ℕ × Array) × FinMap nat_cmp Buffer))))
    (coded× names_code (coded× buffers_code (coded× coded_ℕ (coded_list (coded× names_code buffers_code)))))
    (λ s. (s.names, (s.buffers, (s.depth, s.kept)))) (λ p. record { names = p.0; buffers = p.1.0; depth = p.1.1.0; kept = p.1.1.1 }) (λ _. refl)

abbrev pub value_code : Coded BenchValue
value_code = code_by (State × List ℕ) (coded× state_code (coded_list coded_ℕ)) (λ v. (v.state, v.patches)) (λ p. record { state = p.0; patches = p.1 }) (λ _. refl)

use Rattle.std.proofs.Common.{◌≡◌, ap, sym, ◌∙◌, ◌||◌, Bool, true, false, length, refl, arith}
use Rattle.name_store.proofs.Words.{le-ltb, length-map, is_bound, BenchValue, named_array}
use Rattle.name_store.proofs.UnbindLaws.{bound-has}
use Rattle.name_store.proofs.bench.Bench.has_room_for.Goals as goal

or-false : (t : Bool) → t ≡ (t || false)
or-false true = refl
or-false false = refl

pub returns-else-len-lt-MAX_NAMES : goal.returns-else-len-lt-MAX_NAMES
returns-else-len-lt-MAX_NAMES c =
    let names = ap (λ (v : BenchValue). length v.state.names) c.self.view_is in
    c.contains_key.ensures
    ∙ sym (bound-has _ c.args.name.now (λ _. refl) c.self.inside.table.names.entries)
    ∙ ap (λ (v : BenchValue). is_bound v.state c.args.name.now) c.self.view_is
    ∙ or-false _
    ∙ ap (λ t. is_bound c.args.self.now.state c.args.name.now || t) (sym (le-ltb _ 1024 (omega (arith, names, length-map c.self.inside.table.names.entries named_array, c.len.ensures.len, c.if-len-lt-MAX_NAMES.false))))

-- Each table in the code has those rows of the definition whose words have the table's length.
use Rattle.std.proofs.Common.{◌==◌, nat_lt, length, sym, ◌∙◌, ap, arith}
use Rattle.script_lang.proofs.Words.{lt-ltb, verbs, verb_of}
use Rattle.script_lang.proofs.VerbLaws.{beside-filtered}
use Rattle.script_lang.proofs.grammar.names.long_verb.Goals as goal

pub returns-in-2 : goal.returns-in-2
unfolding verb_of
returns-in-2 c = c.lookup.ensures ∙ sym (beside-filtered (λ w. length w == 2) verbs c.args.word.now (ap (λ n. n == 2) c.in-2.is))

pub returns-in-3 : goal.returns-in-3
unfolding verb_of
returns-in-3 c = c.lookup-in-3.ensures ∙ sym (beside-filtered (λ w. length w == 3) verbs c.args.word.now (ap (λ n. n == 3) c.in-3.is))

pub returns-in-4 : goal.returns-in-4
unfolding verb_of
returns-in-4 c = c.lookup-in-4.ensures ∙ sym (beside-filtered (λ w. length w == 4) verbs c.args.word.now (ap (λ n. n == 4) c.in-4.is))

pub returns-in_default : goal.returns-in_default
unfolding verb_of
returns-in_default c = c.lookup-in_default.ensures ∙ sym (beside-filtered (λ w. nat_lt 4 (length w)) verbs c.args.word.now (lt-ltb 4 (length c.args.word.now) (omega (arith, c.in_default))))

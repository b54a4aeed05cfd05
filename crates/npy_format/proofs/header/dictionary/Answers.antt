use Rattle.std.proofs.Common.{sym}
use Rattle.npy_format.proofs.Words.{tokens}
use Rattle.npy_format.proofs.HeaderLaws.{no_token, dictionary_found}
use Rattle.npy_format.proofs.header.dictionary.Goals as goal

pub returns : goal.returns
returns c = dictionary_found (tokens c.args.text.now) (tokens c.in-Some.pairs.now) (tokens c.in_ok-rest.rest.now) c.in-Some.ensures c.in_ok-rest.ensures (no_token c.next_token.result _ _ (sym c.if-is_some.ensures) c.next_token.ensures)

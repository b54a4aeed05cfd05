use Rattle.npy_format.proofs.TokenLaws.{tokens_none, tokens_next}
use Rattle.npy_format.proofs.token.next_token.Goals as goal

pub returns-in_default : goal.returns-in_default
returns-in_default c = tokens_none _ _ c.unspaced-text.ensures c.in_default.len_below

pub returns : goal.returns
returns c = tokens_next _ _ 0 _ _ c.unspaced-text.ensures c.in-len1-up.len_at_least c.token_from.ensures

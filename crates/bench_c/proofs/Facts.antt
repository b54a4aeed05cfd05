-- Lemmas of std, which the proofs of the calls for arrays use.
pub use Rattle.std.proofs.lemmas.Bool.{eq-eqb, le-leb, lt-leb, ne_eqb}
pub use Rattle.std.proofs.lemmas.Result.{err_from_is_err_and}

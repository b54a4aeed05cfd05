-- Names from std and from the crates below, which this crate's definitions, contracts and proofs use.
pub use Rattle.std.proofs.lemmas.Bool.{cases_lt}
pub use Rattle.std.specs.Cmp.Lexicographic.{slice_cmp}
pub use Rattle.std.specs.FinMap.{FinMap, empty, get}
pub use Rattle.std.specs.IoError.{error_kind}
pub use Rattle.std.specs.Ordering.{nat_cmp}
pub use Rattle.std.specs.declared.io.Error.{Error}
pub use Rattle.std.specs.declared.io.ErrorKind.{ErrorKind}
pub use Rattle.std.specs.declared.io.ErrorKind.TheVariants.{InvalidInput, NotFound, Unsupported}

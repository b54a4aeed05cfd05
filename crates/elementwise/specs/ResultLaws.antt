-- Laws about the results of operations and casts.
use Rattle.std.specs.Prelude.{◌≡◌, Ok}
use Rattle.std.proofs.Common.{ap}
use Rattle.elementwise.specs.Words.{is_ok, false≢true, Scalar, Descr, same_answer, ScalarDescr, RecordDescr}
use Rattle.elementwise.specs.Results.{scalar_of}

-- an element type with a scalar is that scalar
pub is_scalar : (d : Descr) (s : Scalar) → scalar_of d ≡ Ok s → d ≡ ScalarDescr s
is_scalar (ScalarDescr a) s found = ap ScalarDescr (same_answer a s found)
is_scalar (RecordDescr r) s found = absurd (false≢true (ap is_ok found))

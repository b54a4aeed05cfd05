use Rattle.std.proofs.Common.{◌++◌, refl, sym, ap, ◌∙◌, inr, Ok, Err, Some}
use Rattle.bench_engine.proofs.LoadedFiles.{finds}
use Rattle.bench_engine.proofs.files.find.Goals as goal

pub returns-in-Ok-Some : goal.returns-in-Ok-Some
returns-in-Ok-Some g c =
    finds (λ parts. parts.front.items ++ parts.block) _ _ _ _ c.read_parts.result (Ok (Some c.in-Ok-Some.parts)) _ c.as_slice.ensures.value (c.in-Ok-Some.is ∙ ap Ok c.in-Ok-Some.field-0-is) c.read_parts.ensures.same c.read_parts.ensures.files c.read_parts.ensures.cause c.read_parts.ensures.found c.npy_load.ensures

pub returns-in-Ok-None : goal.returns-in-Ok-None
returns-in-Ok-None g c =
    finds (λ parts. parts.front.items ++ parts.block) _ _ _ _ c.read_parts.result _ _ c.as_slice.ensures.value (c.in-Ok-None.is ∙ ap Ok c.in-Ok-None.field-0-is) c.read_parts.ensures.same c.read_parts.ensures.files c.read_parts.ensures.cause c.read_parts.ensures.found (inr refl)

pub returns-in-Err : goal.returns-in-Err
returns-in-Err g c =
    finds (λ parts. parts.front.items ++ parts.block) _ _ _ _ c.read_parts.result _ _ c.as_slice.ensures.value c.in-Err.is c.read_parts.ensures.same c.read_parts.ensures.files c.read_parts.ensures.cause c.read_parts.ensures.found (inr (ap Err (sym c.refusal_of.ensures)))

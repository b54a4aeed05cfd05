use Rattle.bench_engine.proofs.reply_text.ReplyText.send_printed.Goals as goal

pub returns-clause-write : goal.returns-clause-write
returns-clause-write g c = rw c.clear.ensures.items at c.print_by_bands.ensures.write

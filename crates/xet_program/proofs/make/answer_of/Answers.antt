use Rattle.std.proofs.Common.{◌≡◌, IfOk, Result, inr, subst, sym}
use Rattle.std.specs.Result.{IsOkAnd}
use Rattle.xet_program.specs.declared.ending.Stop.{Stop}
use Rattle.xet_program.specs.declared.make.ChunkCounts.{ChunkCounts}
use Rattle.xet_program.specs.internal.Made.{counts_text}
use Rattle.xet_program.proofs.MadeFiles.{stop_of_memory}
use Rattle.xet_program.proofs.make.answer_of.Goals as goal

pub returns-in-Ok-clause-text : goal.returns-in-Ok-clause-text
returns-in-Ok-clause-text c =
    subst (λ (o : Result ChunkCounts Stop). IfOk c.counts_text.result (λ text. IsOkAnd o (λ second. text.items ≡ counts_text c.args.first second c.args.xorbs))) (sym c.in-Ok.is) c.counts_text.ensures.text

pub returns-in-Ok-clause-stop : goal.returns-in-Ok-clause-stop
returns-in-Ok-clause-stop c = stop_of_memory c.args.second c.counts_text.result c.counts_text.ensures.memory

pub returns-in-Err-clause-stop : goal.returns-in-Err-clause-stop
returns-in-Err-clause-stop c = inr c.in-Err.is

use Rattle.std.proofs.Common.{arith}
use Rattle.xet_completion.specs.theorems.Files.{bytes_at_most, completes_appended, completes_record, completes_where}
use Rattle.xet_completion.proofs.laws.recorded_files_complete.Goals as goal

pub returns-clause-recorded : goal.returns-clause-recorded
returns-clause-recorded c = λ xorbs f few all. completes_record xorbs f (let most = bytes_at_most f.segments all in omega arith)

pub returns-clause-listed : goal.returns-clause-listed
returns-clause-listed c = completes_where

pub returns-clause-appended : goal.returns-clause-appended
returns-clause-appended c = completes_appended

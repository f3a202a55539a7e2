use Rattle.xet_dedup.specs.theorems.Forms.{deduped_is_file, filled_is_file, merged_are_files, shifted_is_file}
use Rattle.xet_dedup.proofs.laws.records_are_files.Goals as goal

pub returns-clause-deduped : goal.returns-clause-deduped
returns-clause-deduped g c = λ interface before calls cut p sha256 deduped.
    deduped_is_file (g.I.DeduplicationDataInterface.lists interface) (g.I.DeduplicationDataInterface.stands interface) before calls cut p deduped sha256

pub returns-clause-shifted : goal.returns-clause-shifted
returns-clause-shifted g c = shifted_is_file

pub returns-clause-filled : goal.returns-clause-filled
returns-clause-filled g c = filled_is_file

pub returns-clause-merged : goal.returns-clause-merged
returns-clause-merged g c = merged_are_files

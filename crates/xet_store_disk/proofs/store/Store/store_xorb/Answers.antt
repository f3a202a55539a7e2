use Rattle.std.proofs.Common.{◌∙◌, sym, ap, subst}
use Rattle.xet_io.specs.Disk.{Files, entry_at as get}
use Rattle.xet_store_disk.specs.Cleaning.{Keeps}
use Rattle.xet_store_disk.specs.Store.{State}
use Rattle.xet_store_disk.specs.theorems.Keeping.{keeps_then}
use Rattle.xet_store_disk.proofs.store.Store.store_xorb.Goals as goal

pub returns-in-Ok-clause-keeps : goal.returns-in-Ok-clause-keeps
returns-in-Ok-clause-keeps g c = keeps_then _ _ _ (subst (λ (s : State). Keeps c.args.self.now s) (sym c.retain_buffer.ensures) c.put_due-put.ensures.keeps) c.list_xorb.ensures.keeps

pub returns-in-Ok-clause-others : goal.returns-in-Ok-clause-others
returns-in-Ok-clause-others g c = λ told other name temp.
    ap (λ (f : Files). get f other) c.list_xorb.ensures.files ∙ ap (λ (s : State). get s.files other) c.retain_buffer.ensures ∙ c.put_due-put.ensures.others told other name temp

pub returns-in-Err-clause-others : goal.returns-in-Err-clause-others
returns-in-Err-clause-others g c = λ told other name temp.
    ap (λ (s : State). get s.files other) c.retain_buffer.ensures ∙ c.put_due-put.ensures.others told other name temp

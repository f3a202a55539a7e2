use Rattle.std.proofs.Common.{◌∙◌, ap, length}
use Rattle.xet_store_disk.specs.Store.{State}
use Rattle.xet_store_disk.proofs.store.Store.xorb_count.Goals as goal

pub returns : goal.returns
returns g c = c.len.ensures.len ∙ ap (λ (s : State). length s.xorbs) c.self.view_is

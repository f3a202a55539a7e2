use Rattle.std.proofs.Common.{◌≡◌, length, refl}
use Rattle.std.proofs.lemmas.Result.{IfOk-at_ok}
use Rattle.xet_clean.specs.declared.info.Cleaned.{Cleaned}
use Rattle.xet_clean.proofs.Only.{only_item}
use Rattle.xet_clean.proofs.single.only.Goals as goal

pub returns-in-Ok-clause-ok : goal.returns-in-Ok-clause-ok
returns-in-Ok-clause-ok c =
    let one = IfOk-at_ok (λ (x : Cleaned). length x.infos.items ≡ 1) c.in-Ok.is c.requires.one in
    (c.in-Ok.cleaned, c.in-Ok.is, only_item c.in-Ok.cleaned.infos.items c.index.result.now one c.index.ensures, refl)

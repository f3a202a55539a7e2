use Rattle.std.proofs.Common.{◌∙◌, ap, subst, sym}
use Rattle.xet_folder.specs.Contents.{HasContents}
use Rattle.xet_io.specs.Disk.{Files}
use Rattle.xet_store_disk.specs.Opening.{contents_of}
use Rattle.xet_store_disk.specs.Store.{State}
use Rattle.xet_store.proofs.Opening.{recorded_opened}
use Rattle.xet_store.proofs.store.Store.of_parts.Goals as goal

pub invariant_of-result : goal.invariant_of-result
invariant_of-result g c =
    let s = c.args.store in
    let same = ap (λ (x : State). x.files) c.of-opened.ensures in
    recorded_opened _ _ _ _ _ (c.in-Ok.ensures.count ∙ c.shard_count.ensures) c.in-Ok.ensures.none c.new.ensures.items
    (λ told. subst (λ (f : Files). HasContents f s.folder s.opened (contents_of s)) (sym same) (c.requires.contents told)) (sym same) c.requires.few c.in-Ok.ensures.registry

use Rattle.std.proofs.Common.{◌∙◌, ℕ, List, subst, sym}
use Rattle.xet_folder.specs.Contents.{HasContents}
use Rattle.xet_folder.specs.Pruning.{OnlyPrunes}
use Rattle.xet_io.specs.Disk.{Files}
use Rattle.xet_store_disk.specs.Opening.{contents_of}
use Rattle.xet_store.proofs.Opening.{if_err, opened_only}
use Rattle.xet_store.proofs.store.Store.open.Goals as goal

pub of_parts-requires-clause-contents : goal.of_parts-requires-clause-contents
of_parts-requires-clause-contents g c = λ told.
    let o = c.in-Ok.ensures.opened in
    let s = c.in-Ok.store in
    subst (λ (n : ℕ). HasContents s.files s.folder n (contents_of s)) (sym o.time)
    (subst (λ (f : List ℕ). HasContents s.files f c.args.now (contents_of s)) (sym o.same_folder) (c.in-Ok.ensures.contents (sym o.same_tells ∙ told)))

pub returns-in-Ok-clause-only : goal.returns-in-Ok-clause-only
returns-in-Ok-clause-only g c = λ told.
    let old = g.D.Disk.files c.args.disk in
    let only = opened_only c.args.prune old c.args.folder.now c.args.limits c.args.now c.in-Ok.store c.in-Ok.ensures.opened told in
    if_err c.of_parts.result (λ refused same. subst (λ (f : Files). OnlyPrunes old c.args.folder.now c.args.limits.expiry_buffer c.args.now f) (sym same.1) only) c.of_parts.ensures.disk

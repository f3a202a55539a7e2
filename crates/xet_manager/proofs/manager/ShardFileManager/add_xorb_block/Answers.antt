use Rattle.std.proofs.lemmas.Result.{IfErr-weaker}
use Rattle.xet_manager.proofs.Cutting.{safe_over, uncut_over}
use Rattle.xet_manager.specs.Adding.{IsUncut}
use Rattle.xet_manager.proofs.manager.ShardFileManager.add_xorb_block.Goals as goal

pub returns-in_ok-next-clause-uncut : goal.returns-in_ok-next-clause-uncut
returns-in_ok-next-clause-uncut g c = λ due.
    let old = c.args.self.now in
    let mid = c.next-next.new.self in
    let new = c.cut_to.new.self in
    IfErr-weaker c.cut_to.result (IsUncut mid new) (IsUncut old new) (uncut_over old mid new 0 c.next-next.ensures.rest) c.cut_to.ensures.uncut

pub returns-in_ok-next-clause-safe : goal.returns-in_ok-next-clause-safe
returns-in_ok-next-clause-safe g c =
    let old = c.args.self.now in
    let mid = c.next-next.new.self in
    safe_over old mid c.cut_to.new.self 0 c.next-next.ensures.rest c.cut_to.ensures.safe

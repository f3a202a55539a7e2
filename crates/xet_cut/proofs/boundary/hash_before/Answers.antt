use Rattle.std.proofs.Common.{◌≡◌, ◌∙◌, drop, ap, arith}
use Rattle.std.proofs.lemmas.List.{take_rest}
use Rattle.std.specs.List.{slice_range}
use Rattle.xet_cut.specs.internal.Boundary.{rolled}
use Rattle.xet_cut.proofs.Boundaries.{hash_before_is}
use Rattle.xet_cut.proofs.boundary.hash_before.Goals as goal

pub returns : goal.returns
returns c =
    let gear = c.args.gear.now in
    let from = c.saturating_sub-from.result in
    let first : c.roll-hash.result ≡ rolled gear 0 (drop from c.args.before.now) = c.roll-hash.ensures ∙ ap (rolled gear 0) (take_rest c.args.before.now from) in
    c.roll.ensures
    ∙ ap (λ h. rolled gear h (slice_range c.args.bytes.now c.saturating_sub-2.result c.args.at)) first
    ∙ hash_before_is gear c.args.before.now c.args.bytes.now c.args.at from c.saturating_sub-2.result c.requires (omega arith) (omega arith)

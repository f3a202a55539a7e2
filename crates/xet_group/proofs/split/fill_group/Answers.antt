use Rattle.std.proofs.Common.{refl, arith}
use Rattle.xet_group.proofs.Blocks.{byte_stored, whole_stored}
use Rattle.xet_group.proofs.Fourths.{length-fourth}
use Rattle.xet_group.specs.Groups.{every_fourth}
use Rattle.xet_group.proofs.split.fill_group.Goals as goal

pub places-preserved : goal.places-preserved
places-preserved c =
    byte_stored c.args.number c.places.i c.places.group c.args.bytes.now _ (omega (arith, c.places.auto.group, c.places-test.true))
    (omega (arith, length-fourth c.args.number c.args.bytes.now, c.requires.len, c.places-test.true)) refl c.places.invariant

pub returns : goal.returns
returns c =
    whole_stored c.places.i c.places.group (every_fourth c.args.number c.args.bytes.now) (omega (arith, c.places.auto.group, c.places-test.false))
    (omega (arith, length-fourth c.args.number c.args.bytes.now, c.requires.len, c.places-test.false)) c.places.invariant

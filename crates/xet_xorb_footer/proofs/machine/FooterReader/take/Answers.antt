use Rattle.xet_xorb_footer.specs.Reader.{footer_parts_of}
use Rattle.xet_xorb_footer.proofs.Taking.{kinds, left, refused, settled, taken, unended}
use Rattle.xet_xorb_footer.proofs.machine.FooterReader.take.Goals as goal

pub returns-clause-taken : goal.returns-clause-taken
returns-clause-taken c = taken c.args.self.now.next c.step.new.self.next (footer_parts_of c.args.self.now) (footer_parts_of c.step.new.self) c.args.field.now c.step.result c.requires c.step.ensures

pub returns-clause-refused : goal.returns-clause-refused
returns-clause-refused c = refused c.args.self.now.next c.step.new.self.next (footer_parts_of c.args.self.now) (footer_parts_of c.step.new.self) c.args.field.now c.step.result c.requires c.step.ensures

pub returns-clause-kinds : goal.returns-clause-kinds
returns-clause-kinds c = kinds c.args.self.now.next c.step.new.self.next (footer_parts_of c.args.self.now) (footer_parts_of c.step.new.self) c.args.field.now c.step.result c.step.ensures

pub returns-clause-settled : goal.returns-clause-settled
returns-clause-settled c = settled c.args.self.now.next c.step.new.self.next (footer_parts_of c.args.self.now) (footer_parts_of c.step.new.self) c.args.field.now c.step.result c.step.ensures

pub returns-clause-left : goal.returns-clause-left
returns-clause-left c = left c.args.self.now.next c.step.new.self.next (footer_parts_of c.args.self.now) (footer_parts_of c.step.new.self) c.args.field.now c.step.result c.requires c.step.ensures

pub returns-clause-whole : goal.returns-clause-whole
returns-clause-whole c = unended c.args.self.now.next c.step.new.self.next (footer_parts_of c.args.self.now) (footer_parts_of c.step.new.self) c.args.field.now c.step.result c.step.ensures

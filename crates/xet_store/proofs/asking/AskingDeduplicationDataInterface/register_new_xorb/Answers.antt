use Rattle.std.proofs.Common.{◌∙◌, sym}
use Rattle.xet_xorb.specs.Raw.{raw_leaves}
use Rattle.xet_store.specs.declared.asking.Asking.{Asking}
use Rattle.xet_store.proofs.Listing.{extends_by, lists_new, new_xorb_hash, parts_stand}
use Rattle.xet_store.proofs.Refused.{register_failed, register_kept, register_refused}
use Rattle.xet_store.proofs.Replies.{asking_register, registered_calls}
use Rattle.xet_store.proofs.asking.AskingDeduplicationDataInterface.register_new_xorb.Goals as goal

pub returns-in-Ok-clause-listed : goal.returns-in-Ok-clause-listed
returns-in-Ok-clause-listed g c = lists_new (g.S.Stepping.holder c.register.new.self) _ c.args.xorb c.requires.new c.in-Ok.ensures.saw.listed

pub returns-in-Ok-clause-stands : goal.returns-in-Ok-clause-stands
returns-in-Ok-clause-stands g c = parts_stand (g.S.Stepping.holder c.register.new.self) _ c.args.xorb c.requires.new c.in-Ok.ensures.saw.listed

pub returns-in-Ok-clause-named : goal.returns-in-Ok-clause-named
returns-in-Ok-clause-named g c = λ bad. c.in-Ok.ensures.saw.named (sym (new_xorb_hash _ c.args.xorb c.requires.new) ∙ bad)

pub returns-in-Ok-clause-registered : goal.returns-in-Ok-clause-registered
returns-in-Ok-clause-registered g c = registered_calls _ _ _ _ _ c.in-Ok.ensures.saw

pub returns-in-Ok-clause-extends : goal.returns-in-Ok-clause-extends
returns-in-Ok-clause-extends g c = extends_by (λ (a : Asking g.row.S.Denot). g.S.Stepping.holder a.steps) _ _ (asking_register _ _ _ _ _ c.in-Ok.ensures.saw)

pub returns-in-Err-clause-kept : goal.returns-in-Err-clause-kept
returns-in-Err-clause-kept g c = register_kept _ _ _ (raw_leaves c.args.xorb) c.in-Err.ensures.refused

pub returns-in-Err-clause-refused : goal.returns-in-Err-clause-refused
returns-in-Err-clause-refused g c = register_refused _ _ _ (raw_leaves c.args.xorb) c.in-Err.ensures.refused

pub returns-in-Err-clause-extends : goal.returns-in-Err-clause-extends
returns-in-Err-clause-extends g c = extends_by (λ (a : Asking g.row.S.Denot). g.S.Stepping.holder a.steps) _ _ (register_failed _ _ _ (raw_leaves c.args.xorb) c.in-Err.ensures.refused)

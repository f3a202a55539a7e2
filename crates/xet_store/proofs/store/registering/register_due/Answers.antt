use Rattle.std.proofs.Common.{◌≡◌, ◌∙◌, ℕ, List, Some, true, false, is_ok, map, option_map, refl, rules, ap, subst}
use Rattle.xet_folder.specs.Changes.{GoesBy}
use Rattle.xet_folder.specs.Names.{xorb_path}
use Rattle.xet_io.specs.Disk.{bytes_at}
use Rattle.xet_store.specs.Changes.{cut_changes}
use Rattle.xet_store.proofs.Going.{goes_both, goes_short}
use Rattle.xet_base.specs.theorems.Exits.{exit_with}
use Rattle.xet_history.specs.declared.entry.StepKind.TheVariants.{Register}
use Rattle.xet_store.specs.Recorded.{core_of, recorded_state}
use Rattle.xet_store.proofs.Cutting.{cut_refuses_first, cut_refuses_then, register_refuses, register_tries_cut, register_tries_put, registered_due}
use Rattle.xet_shard_format.specs.RecordSizes.{xorb_record_size}
use Rattle.xet_xorb.specs.Raw.{xorb_record}
use Rattle.xet_store.proofs.store.registering.register_due.Goals as goal

pub returns-in_err-cut_store-clause-refused : goal.returns-in_err-cut_store-clause-refused
returns-in_err-cut_store-clause-refused g c = exit_with _ _ _ c.from_residual.ensures.1 (λ files.
    let before = recorded_state c.args.store.now files (map (option_map (λ g'. g'.value)) c.args.flushed.now.items) c.args.history.now.items in
    register_refuses _ c.args.due.hash c.args.due.leaves c.args.next before _ _ c.requires.new c.requires.chunks.1
    (cut_refuses_first _ Register c.num_bytes.result _ before _ _ c.num_bytes.ensures (c.in_err-cut_store.ensures.due (core_of before) refl) (c.in_err-cut_store.ensures.fault files))
    (register_tries_cut c.args.pass c.num_bytes.result c.args.due.hash c.args.due.leaves c.args.next Register before _ _ c.requires.new c.requires.chunks.1 c.num_bytes.ensures (c.in_err-cut_store.ensures.due (core_of before) refl) (c.in_err-cut_store.ensures.fault files)))

pub returns-in-Ok-clause-steps : goal.returns-in-Ok-clause-steps
returns-in-Ok-clause-steps g c = λ files.
    registered_due (λ g'. g'.value) files c.args.store.now c.cut_store.new.store c.store_xorb.new.self c.args.flushed.now.items c.cut_store.new.flushed.items c.args.history.now.items c.cut_store.new.history.items c.push_reserved.new.self.items c.args.pass c.num_bytes.result
    (c.in_ok-cut_store.ensures.steps files) c.in-Ok.ensures.keeps c.in-Ok.ensures.shards c.args.due.hash c.args.due.leaves c.args.chunks c.args.next c.requires.new c.requires.chunks.1 c.requires.chunks.0 c.num_bytes.ensures c.in_ok-cut_store.ensures.lists.0
    c.in-Ok.ensures.others c.in-Ok.ensures.temp c.in-Ok.ensures.stores c.push_reserved.ensures.items

pub returns-in-Err-clause-refused : goal.returns-in-Err-clause-refused
returns-in-Err-clause-refused g c = λ files.
    register_refuses _ c.args.due.hash c.args.due.leaves c.args.next _ _ _ c.requires.new c.requires.chunks.1
    (cut_refuses_then (λ g'. g'.value) files c.args.store.now c.cut_store.new.store c.store_xorb.new.self c.args.flushed.now.items c.cut_store.new.flushed.items c.args.history.now.items c.cut_store.new.history.items c.note_fault.new.history.items c.args.pass c.num_bytes.result
    (c.in_ok-cut_store.ensures.steps files) c.in-Err.ensures.keeps c.in-Err.ensures.shards Register _ _ (λ bad. cc bad) c.num_bytes.ensures c.in-Err.ensures.kept c.in-Err.ensures.reason c.note_fault.ensures.noted)
    (register_tries_put (λ g'. g'.value) files c.args.store.now c.cut_store.new.store c.store_xorb.new.self c.args.flushed.now.items c.cut_store.new.flushed.items c.args.history.now.items c.cut_store.new.history.items c.note_fault.new.history.items c.args.pass c.num_bytes.result
    (c.in_ok-cut_store.ensures.steps files) c.in-Err.ensures.keeps c.in-Err.ensures.shards c.args.due.hash c.args.due.leaves c.args.next c.requires.new c.requires.chunks.1 c.num_bytes.ensures c.in-Err.ensures.others)

pub returns-in-Ok-clause-written : goal.returns-in-Ok-clause-written
returns-in-Ok-clause-written g c = λ told.
    let keeps = (c.in_ok-cut_store.ensures.steps c.args.store.now.files).steps.keeps in
    subst (λ (f : List ℕ). bytes_at c.store_xorb.new.self.files (xorb_path f c.args.due.hash) ≡ Some c.args.due.encoding) keeps.folder (c.in-Ok.ensures.written (keeps.tells ∙ told))

pub returns-in_err-cut_store-clause-goes : goal.returns-in_err-cut_store-clause-goes
returns-in_err-cut_store-clause-goes g c = λ told settled.
    let not : is_ok c.from_residual.result ≡ false = search rules in
    goes_short c.args.store.now c.cut_store.new.store c.args.due.hash c.args.due.encoding (cut_changes c.args.store.now (xorb_record_size (xorb_record c.args.due.hash c.args.due.leaves))) c.cut_store.result (subst (λ (n : ℕ). GoesBy c.args.store.now.files c.cut_store.new.store.files c.args.store.now.folder (cut_changes c.args.store.now n) c.cut_store.result) c.num_bytes.ensures (c.cut_store.ensures.goes told settled)) c.from_residual.result (λ ok. absurd (cc (ok, not)))

pub returns-in-Ok-clause-goes : goal.returns-in-Ok-clause-goes
returns-in-Ok-clause-goes g c = λ told settled.
    let done : is_ok c.cut_store.result ≡ true = ap is_ok c.in_ok-cut_store.was in
    let put : is_ok c.store_xorb.result ≡ true = search rules in
    let keeps = (c.in_ok-cut_store.ensures.steps c.args.store.now.files).steps.keeps in
    goes_both c.args.store.now c.cut_store.new.store c.args.due.hash c.args.due.encoding (cut_changes c.args.store.now (xorb_record_size (xorb_record c.args.due.hash c.args.due.leaves))) c.cut_store.result (subst (λ (n : ℕ). GoesBy c.args.store.now.files c.cut_store.new.store.files c.args.store.now.folder (cut_changes c.args.store.now n) c.cut_store.result) c.num_bytes.ensures (c.cut_store.ensures.goes told settled)) c.store_xorb.new.self.files c.store_xorb.result _ done (λ ok. put) keeps.folder keeps.tells told c.store_xorb.ensures.goes

pub returns-in-Err-clause-goes : goal.returns-in-Err-clause-goes
returns-in-Err-clause-goes g c = λ told settled.
    let done : is_ok c.cut_store.result ≡ true = ap is_ok c.in_ok-cut_store.was in
    let keeps = (c.in_ok-cut_store.ensures.steps c.args.store.now.files).steps.keeps in
    goes_both c.args.store.now c.cut_store.new.store c.args.due.hash c.args.due.encoding (cut_changes c.args.store.now (xorb_record_size (xorb_record c.args.due.hash c.args.due.leaves))) c.cut_store.result (subst (λ (n : ℕ). GoesBy c.args.store.now.files c.cut_store.new.store.files c.args.store.now.folder (cut_changes c.args.store.now n) c.cut_store.result) c.num_bytes.ensures (c.cut_store.ensures.goes told settled)) c.store_xorb.new.self.files c.store_xorb.result _ done (λ ok. absurd (cc ok)) keeps.folder keeps.tells told c.store_xorb.ensures.goes

use Rattle.std.proofs.Common.{◌∙◌, ap, map, option_map, refl}
use Rattle.xet_base.specs.theorems.Exits.{exit_with}
use Rattle.xet_history.specs.declared.entry.StepKind.TheVariants.{Complete}
use Rattle.xet_store_disk.specs.Tables.{tables_of, with_record}
use Rattle.xet_store.specs.Recorded.{core_of, recorded_state}
use Rattle.xet_store.proofs.Cutting.{complete_refuses, complete_tries_cut, complete_tries_memory, cut_refuses_first, cut_refuses_memory, recorded_due}
use Rattle.xet_store.proofs.Refusing.{exit_of_memory}
use Rattle.xet_store.proofs.store.completing.record_file.Goals as goal

pub returns-in_err-cut_store-clause-refused : goal.returns-in_err-cut_store-clause-refused
returns-in_err-cut_store-clause-refused g c = exit_with _ _ _ c.from_residual.ensures.1 (λ files.
    let before = recorded_state c.args.store.now files (map (option_map (λ g'. g'.value)) c.args.flushed.now.items) c.args.history.now.items in
    complete_refuses _ c.args.file before _ _ c.requires.new
    (cut_refuses_first _ Complete c.num_bytes.result _ before _ _ c.num_bytes.ensures (c.in_err-cut_store.ensures.due (core_of before) refl) (c.in_err-cut_store.ensures.fault files))
    (complete_tries_cut c.args.pass c.num_bytes.result c.args.file Complete before _ _ c.requires.new c.num_bytes.ensures (c.in_err-cut_store.ensures.due (core_of before) refl) (c.in_err-cut_store.ensures.fault files)))

pub returns-in_err-add_file-clause-refused : goal.returns-in_err-add_file-clause-refused
returns-in_err-add_file-clause-refused g c =
    exit_of_memory _ _ _ c.from_residual-in_err-add_file.ensures.1 c.in_err-add_file.ensures.memory (λ files.
    complete_refuses _ c.args.file _ _ _ c.requires.new
    (cut_refuses_memory (λ g'. g'.value) files c.args.store.now c.cut_store.new.store c.add_file.new.self c.args.flushed.now.items c.cut_store.new.flushed.items c.args.history.now.items c.cut_store.new.history.items c.cut_store.new.history.items c.args.pass c.num_bytes.result
    (c.in_ok-cut_store.ensures.steps files) Complete _ (λ bad. cc bad) c.num_bytes.ensures c.in_err-add_file.ensures.err)
    (complete_tries_memory (λ g'. g'.value) files c.args.store.now c.cut_store.new.store c.add_file.new.self c.args.flushed.now.items c.cut_store.new.flushed.items c.args.history.now.items c.cut_store.new.history.items c.cut_store.new.history.items c.args.pass c.num_bytes.result
    (c.in_ok-cut_store.ensures.steps files) c.args.file c.requires.new c.num_bytes.ensures c.in_err-add_file.ensures.err))

pub returns-clause-steps : goal.returns-clause-steps
returns-clause-steps g c = λ files.
    recorded_due (λ g'. g'.value) files c.args.store.now c.cut_store.new.store c.add_file.new.self c.args.flushed.now.items c.cut_store.new.flushed.items c.args.history.now.items c.cut_store.new.history.items c.push_reserved.new.self.items c.args.pass c.num_bytes.result
    (c.in_ok-cut_store.ensures.steps files) c.in_ok-add_file.ensures.keeps c.in_ok-add_file.ensures.shards c.args.file c.requires.new c.num_bytes.ensures c.in_ok-cut_store.ensures.lists.1 c.in_ok-add_file.ensures.files
    (c.in_ok-add_file.ensures.stores ∙ ap (with_record (tables_of c.cut_store.new.store)) c.requires.copy) c.push_reserved.ensures.items

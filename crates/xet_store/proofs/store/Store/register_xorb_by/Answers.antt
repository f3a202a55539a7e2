use Rattle.std.proofs.Common.{◌≡◌, ◌∙◌, [], ℕ, Bool, true, false, List, IfOk, refl, sym, ap, subst}
use Rattle.xet_base.specs.theorems.Exits.{exit_with}
use Rattle.xet_codec.specs.theorems.Buffering.{on_err, on_ok}
use Rattle.xet_hash.specs.declared.error.StoreError.TheVariants.{OutOfMemory}
use Rattle.xet_history.specs.declared.entry.StepKind.TheVariants.{Register}
use Rattle.xet_folder.specs.Xorbs.{found}
use Rattle.xet_hash.specs.Merkle.{xorb_hash}
use Rattle.xet_history.specs.Core.{is_new}
use Rattle.xet_history.specs.theorems.Staying.{none_if_new}
use Rattle.xet_store_disk.specs.Store.{State}
use Rattle.xet_xorb.specs.Raw.{raw_leaves}
use Rattle.xet_history.specs.History.{register_cut, register_entries}
use Rattle.xet_store.specs.Changes.{ChangesFiles, Tries}
use Rattle.xet_store.specs.Recorded.{RecordedState, core_of}
use Rattle.xet_store.specs.Steps.{Refuses}
use Rattle.xet_store.specs.theorems.Changing.{changes_nothing}
use Rattle.xet_store.proofs.Known.{listed_new, listed_stored, named_new, new_if_unlisted, pushed_register, recorded_registered, refuses_as, registers_as, registers_known, written_new}
use Rattle.xet_store.proofs.Refusing.{err_seen, exit_of_memory, ok_seen, recorded_after, recorded_same, refuses_memory, refuses_seen, same_view, same_view_kept, steps_seen}
use Rattle.xet_store.proofs.store.Store.register_xorb_by.Goals as goal

pub returns-in_err-reserve-clause-refused : goal.returns-in_err-reserve-clause-refused
returns-in_err-reserve-clause-refused g c =
    exit_with _ _ OutOfMemory c.from_residual.ensures.1 (refuses_memory _ Register _ _ _ (same_view _ c.self.inside.opened.value.files _ _ c.self.view_is refl c.reserve.ensures.items))

pub returns-in_err-reserve-2-clause-refused : goal.returns-in_err-reserve-2-clause-refused
returns-in_err-reserve-2-clause-refused g c =
    exit_with _ _ OutOfMemory c.from_residual-in_err-reserve-2.ensures.1 (refuses_memory _ Register _ _ _ (same_view _ c.self.inside.opened.value.files _ _ c.self.view_is c.reserve-2.ensures.items c.reserve.ensures.items))

pub returns-in_err-next-clause-refused : goal.returns-in_err-next-clause-refused
returns-in_err-next-clause-refused g c =
    exit_of_memory _ _ _ c.from_residual-in_err-next.ensures.1 c.in_err-next.ensures.memory
    (refuses_memory _ Register _ _ _ (same_view _ c.self.inside.opened.value.files _ _ c.self.view_is c.reserve-2.ensures.items c.reserve.ensures.items))

pub returns-in_err-leaves_of_raw-clause-refused : goal.returns-in_err-leaves_of_raw-clause-refused
returns-in_err-leaves_of_raw-clause-refused g c =
    exit_of_memory _ _ _ c.from_residual-in_err-leaves_of_raw.ensures.1 c.in_err-leaves_of_raw.ensures.memory
    (refuses_memory _ Register _ _ _ (same_view _ c.self.inside.opened.value.files _ _ c.self.view_is c.reserve-2.ensures.items c.reserve.ensures.items))

pub returns-in_err-is_known-clause-refused : goal.returns-in_err-is_known-clause-refused
returns-in_err-is_known-clause-refused g c =
    exit_of_memory _ _ _ c.from_residual-in_err-is_known.ensures.1 c.in_err-is_known.ensures.memory
    (refuses_memory _ Register _ _ _ (same_view _ c.self.inside.opened.value.files _ _ c.self.view_is c.reserve-2.ensures.items c.reserve.ensures.items))

pub invariant_of-self-then-is_known : goal.invariant_of-self-then-is_known
invariant_of-self-then-is_known g c =
    recorded_registered _ c.self.inside.opened.value.files c.self.inside.store _ _ _ _ c.args.pass (raw_leaves c.args.xorb) c.args.next.now c.self.invariant c.reserve-2.ensures.items
    (pushed_register _ c.push_reserved.ensures.items c.reserve.ensures.items (c.from_vec-chunks.ensures ∙ c.in_ok-leaves_of_raw.ensures.leaves) c.in_ok-next.ensures.list)
    (new_if_unlisted _ c.args.xorb c.requires.new c.self.inside.store.xorbs _ c.hash.ensures c.in_ok-is_known.is_known true c.in_ok-is_known.ensures.listed c.if-is_known.true)

pub returns-then-is_known-clause-added : goal.returns-then-is_known-clause-added
returns-then-is_known-clause-added g c =
    let old : is_new c.self.inside.store.xorbs (xorb_hash (raw_leaves c.args.xorb)) ≡ false = new_if_unlisted _ c.args.xorb c.requires.new c.self.inside.store.xorbs _ c.hash.ensures c.in_ok-is_known.is_known true c.in_ok-is_known.ensures.listed c.if-is_known.true in
    sym (ap (λ (x : RecordedState). is_new x.store.xorbs (xorb_hash (raw_leaves c.args.xorb))) (sym c.self.view_is) ∙ old)

pub returns-then-is_known-clause-steps : goal.returns-then-is_known-clause-steps
returns-then-is_known-clause-steps g c =
    let old : is_new c.self.inside.store.xorbs (xorb_hash (raw_leaves c.args.xorb)) ≡ false = new_if_unlisted _ c.args.xorb c.requires.new c.self.inside.store.xorbs _ c.hash.ensures c.in_ok-is_known.is_known true c.in_ok-is_known.ensures.listed c.if-is_known.true in
    (registers_known (λ g'. g'.value) c.self.inside.opened.value.files c.self.inside.store c.self.inside.flushed.items c.reserve-2.new.self.items c.self.inside.history.items c.push_reserved.new.self.items c.args.pass c.args.self.now (raw_leaves c.args.xorb) c.args.next.now
    c.self.view_is c.reserve-2.ensures.items (pushed_register _ c.push_reserved.ensures.items c.reserve.ensures.items (c.from_vec-chunks.ensures ∙ c.in_ok-leaves_of_raw.ensures.leaves) c.in_ok-next.ensures.list)
    (ap (λ (x : RecordedState). is_new x.store.xorbs (xorb_hash (raw_leaves c.args.xorb))) (sym c.self.view_is) ∙ old)).steps

pub returns-then-is_known-clause-changes : goal.returns-then-is_known-clause-changes
returns-then-is_known-clause-changes g c =
    let old : is_new c.self.inside.store.xorbs (xorb_hash (raw_leaves c.args.xorb)) ≡ false = new_if_unlisted _ c.args.xorb c.requires.new c.self.inside.store.xorbs _ c.hash.ensures c.in_ok-is_known.is_known true c.in_ok-is_known.ensures.listed c.if-is_known.true in
    (registers_known (λ g'. g'.value) c.self.inside.opened.value.files c.self.inside.store c.self.inside.flushed.items c.reserve-2.new.self.items c.self.inside.history.items c.push_reserved.new.self.items c.args.pass c.args.self.now (raw_leaves c.args.xorb) c.args.next.now
    c.self.view_is c.reserve-2.ensures.items (pushed_register _ c.push_reserved.ensures.items c.reserve.ensures.items (c.from_vec-chunks.ensures ∙ c.in_ok-leaves_of_raw.ensures.leaves) c.in_ok-next.ensures.list)
    (ap (λ (x : RecordedState). is_new x.store.xorbs (xorb_hash (raw_leaves c.args.xorb))) (sym c.self.view_is) ∙ old)).changes

pub returns-then-is_known-clause-written : goal.returns-then-is_known-clause-written
returns-then-is_known-clause-written g c = λ bad told. absurd (cc bad)

pub returns-then-is_known-clause-listed : goal.returns-then-is_known-clause-listed
returns-then-is_known-clause-listed g c =
    let xorb = c.args.xorb in
    let chunks = c.as_slice.ensures ∙ c.from_vec-chunks.ensures ∙ c.in_ok-leaves_of_raw.ensures.leaves in
    listed_new _ xorb c.requires.new c.self.inside.store.xorbs _ c.hash.ensures _ chunks (c.in_ok-is_known.ensures.same c.if-is_known.true)

pub returns-then-is_known-clause-named : goal.returns-then-is_known-clause-named
returns-then-is_known-clause-named g c = named_new _ c.args.xorb c.requires.new _ c.hash.ensures c.in_ok-is_known.ensures.named

pub returns-in_err-due-clause-refused : goal.returns-in_err-due-clause-refused
returns-in_err-due-clause-refused g c =
    exit_of_memory _ _ _ c.from_residual-in_err-due.ensures.1 c.in_err-due.ensures.memory
    (refuses_memory _ Register _ _ _ (same_view_kept _ c.self.inside.opened.value.files _ _ _ c.self.view_is c.in_err-due.ensures.kept c.reserve-2.ensures.items c.reserve.ensures.items))

pub returns-in_err-reserve_xorb-clause-refused : goal.returns-in_err-reserve_xorb-clause-refused
returns-in_err-reserve_xorb-clause-refused g c =
    exit_of_memory _ _ _ c.from_residual-in_err-reserve_xorb.ensures.1 c.in_err-reserve_xorb.ensures.memory
    (refuses_memory _ Register _ _ _ (same_view_kept _ c.self.inside.opened.value.files _ _ _ c.self.view_is (c.in_err-reserve_xorb.ensures.kept ∙ c.in_ok-due.ensures.kept) c.reserve-2.ensures.items c.reserve.ensures.items))

pub register_due-requires-clause-new : goal.register_due-requires-clause-new
register_due-requires-clause-new g c =
    let new : is_new c.self.inside.store.xorbs (xorb_hash (raw_leaves c.args.xorb)) ≡ true = new_if_unlisted _ c.args.xorb c.requires.new c.self.inside.store.xorbs _ c.hash.ensures c.in_ok-is_known.is_known false c.in_ok-is_known.ensures.listed c.if-is_known.false in
    ap (λ (s : State). found s.xorbs c.in_ok-due.due.hash) (c.reserve_xorb.ensures.kept ∙ c.in_ok-due.ensures.kept)
    ∙ ap (λ (h : List ℕ). found c.self.inside.store.xorbs h) c.in_ok-due.ensures.hash
    ∙ none_if_new c.self.inside.store.xorbs (xorb_hash (raw_leaves c.args.xorb)) new

pub invariant_of-self-2 : goal.invariant_of-self-2
invariant_of-self-2 g c =
    recorded_after _ c.self.inside.opened.value.files c.register_due.result _ _ _ _ _ (recorded_same _ c.self.inside.opened.value.files _ _ _ _ (c.reserve_xorb.ensures.kept ∙ c.in_ok-due.ensures.kept) c.self.invariant) c.reserve-2.ensures.items c.reserve.ensures.items c.register_due.ensures.count
    c.register_due.ensures.steps c.register_due.ensures.refused (λ p. (_, (p c.self.inside.opened.value.files).steps)) (λ e q. (_, (q c.self.inside.opened.value.files).refuses.steps))

pub returns-clause-added : goal.returns-clause-added
returns-clause-added g c =
    let new : is_new c.self.inside.store.xorbs (xorb_hash (raw_leaves c.args.xorb)) ≡ true = new_if_unlisted _ c.args.xorb c.requires.new c.self.inside.store.xorbs _ c.hash.ensures c.in_ok-is_known.is_known false c.in_ok-is_known.ensures.listed c.if-is_known.false in
    subst (λ (b : Bool). IfOk c.register_due.result (λ added. added ≡ b))
    (sym (ap (λ (x : RecordedState). is_new x.store.xorbs (xorb_hash (raw_leaves c.args.xorb))) (sym c.self.view_is) ∙ new)) c.register_due.ensures.added

pub returns-clause-listed : goal.returns-clause-listed
returns-clause-listed g c = listed_stored c.register_due.result _ _ _ (raw_leaves c.args.xorb) c.in_ok-due.ensures.hash c.in_ok-due.ensures.leaves c.register_due.ensures.listed

pub returns-clause-named : goal.returns-clause-named
returns-clause-named g c = on_ok c.register_due.result (named_new _ c.args.xorb c.requires.new _ c.hash.ensures c.in_ok-is_known.ensures.named)

pub returns-in_err-reserve-clause-tries : goal.returns-in_err-reserve-clause-tries
returns-in_err-reserve-clause-tries g c = on_err c.from_residual.result (changes_nothing _ _ _ [] (same_view _ c.self.inside.opened.value.files _ _ c.self.view_is refl c.reserve.ensures.items))

pub returns-in_err-reserve-2-clause-tries : goal.returns-in_err-reserve-2-clause-tries
returns-in_err-reserve-2-clause-tries g c = on_err c.from_residual-in_err-reserve-2.result (changes_nothing _ _ _ [] (same_view _ c.self.inside.opened.value.files _ _ c.self.view_is c.reserve-2.ensures.items c.reserve.ensures.items))

pub returns-in_err-next-clause-tries : goal.returns-in_err-next-clause-tries
returns-in_err-next-clause-tries g c = on_err c.from_residual-in_err-next.result (changes_nothing _ _ _ [] (same_view _ c.self.inside.opened.value.files _ _ c.self.view_is c.reserve-2.ensures.items c.reserve.ensures.items))

pub returns-in_err-leaves_of_raw-clause-tries : goal.returns-in_err-leaves_of_raw-clause-tries
returns-in_err-leaves_of_raw-clause-tries g c = on_err c.from_residual-in_err-leaves_of_raw.result (changes_nothing _ _ _ [] (same_view _ c.self.inside.opened.value.files _ _ c.self.view_is c.reserve-2.ensures.items c.reserve.ensures.items))

pub returns-in_err-is_known-clause-tries : goal.returns-in_err-is_known-clause-tries
returns-in_err-is_known-clause-tries g c = on_err c.from_residual-in_err-is_known.result (changes_nothing _ _ _ [] (same_view _ c.self.inside.opened.value.files _ _ c.self.view_is c.reserve-2.ensures.items c.reserve.ensures.items))

pub returns-in_err-due-clause-tries : goal.returns-in_err-due-clause-tries
returns-in_err-due-clause-tries g c = on_err c.from_residual-in_err-due.result (changes_nothing _ _ _ [] (same_view_kept _ c.self.inside.opened.value.files _ _ _ c.self.view_is c.in_err-due.ensures.kept c.reserve-2.ensures.items c.reserve.ensures.items))

pub returns-in_err-reserve_xorb-clause-tries : goal.returns-in_err-reserve_xorb-clause-tries
returns-in_err-reserve_xorb-clause-tries g c = on_err c.from_residual-in_err-reserve_xorb.result (changes_nothing _ _ _ [] (same_view_kept _ c.self.inside.opened.value.files _ _ _ c.self.view_is (c.in_err-reserve_xorb.ensures.kept ∙ c.in_ok-due.ensures.kept) c.reserve-2.ensures.items c.reserve.ensures.items))

pub returns-clause-written : goal.returns-clause-written
returns-clause-written g c =
    let kept = c.reserve_xorb.ensures.kept ∙ c.in_ok-due.ensures.kept in
    written_new c.register_due.result c.register_due.new.store.files (ap (λ (s : State). s.tells) kept ∙ ap (λ (x : RecordedState). x.store.tells) c.self.view_is)
    (ap (λ (s : State). s.folder) kept ∙ ap (λ (x : RecordedState). x.store.folder) c.self.view_is) c.in_ok-due.ensures.hash c.in_ok-due.ensures.encoding c.register_due.ensures.written

pub returns-clause-steps : goal.returns-clause-steps
returns-clause-steps g c =
    let files = c.self.inside.opened.value.files in
    let seen = same_view_kept _ files _ _ _ c.self.view_is (c.reserve_xorb.ensures.kept ∙ c.in_ok-due.ensures.kept) refl refl in
    steps_seen _ files c.register_due.result _ _ _ _ _ (λ a. register_entries c.args.pass (core_of a) a.store.limits.shard_target (raw_leaves c.args.xorb) c.args.next.now) seen c.reserve-2.ensures.items c.reserve.ensures.items
    c.register_due.ensures.steps (λ p. (registers_as c.args.pass _ _ c.in_ok-due.ensures.leaves c.in_ok-next.ensures.list (p files)).steps)

pub returns-clause-changes : goal.returns-clause-changes
returns-clause-changes g c =
    let files = c.self.inside.opened.value.files in
    let seen = same_view_kept _ files _ _ _ c.self.view_is (c.reserve_xorb.ensures.kept ∙ c.in_ok-due.ensures.kept) refl refl in
    ok_seen _ files c.register_due.result _ _ _ _ _ (λ a b. ChangesFiles [] a b (register_entries c.args.pass (core_of a) a.store.limits.shard_target (raw_leaves c.args.xorb) c.args.next.now)) seen c.reserve-2.ensures.items
    c.reserve.ensures.items c.register_due.ensures.steps (λ p. (registers_as c.args.pass _ _ c.in_ok-due.ensures.leaves c.in_ok-next.ensures.list (p files)).changes)

pub returns-clause-refused : goal.returns-clause-refused
returns-clause-refused g c =
    let files = c.self.inside.opened.value.files in
    let seen = same_view_kept _ files _ _ _ c.self.view_is (c.reserve_xorb.ensures.kept ∙ c.in_ok-due.ensures.kept) refl refl in
    refuses_seen _ files c.register_due.result _ _ _ _ _ (λ a b e. Refuses c.args.pass Register (register_cut c.args.pass (core_of a) a.store.limits.shard_target (raw_leaves c.args.xorb)) a b e) seen c.reserve-2.ensures.items
    c.reserve.ensures.items c.register_due.ensures.refused (λ e q. (refuses_as c.args.pass _ _ e c.in_ok-due.ensures.leaves c.in_ok-next.ensures.list (q files)).refuses)

pub returns-clause-tries : goal.returns-clause-tries
returns-clause-tries g c =
    let files = c.self.inside.opened.value.files in
    let seen = same_view_kept _ files _ _ _ c.self.view_is (c.reserve_xorb.ensures.kept ∙ c.in_ok-due.ensures.kept) refl refl in
    err_seen _ files c.register_due.result _ _ _ _ _ (λ a b. Tries a b (register_entries c.args.pass (core_of a) a.store.limits.shard_target (raw_leaves c.args.xorb) c.args.next.now)) seen c.reserve-2.ensures.items
    c.reserve.ensures.items c.register_due.ensures.refused (λ e q. (refuses_as c.args.pass _ _ e c.in_ok-due.ensures.leaves c.in_ok-next.ensures.list (q files)).tries)

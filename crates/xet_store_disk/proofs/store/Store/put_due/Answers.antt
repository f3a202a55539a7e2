use Rattle.std.proofs.Common.{◌≡◌, ◌∙◌, ℕ, Bool, false, List, None, Some, OnOk, is_ok, refl, rules, sym, ap, subst}
use Rattle.xet_io.specs.Disk.{bytes_at, entry_at as get}
use Rattle.xet_shard_file.specs.Names.{temp_name}
use Rattle.xet_store_disk.specs.Flushing.{KeepsOtherNames}
use Rattle.xet_folder.specs.Xorbs.{found}
use Rattle.xet_store_disk.specs.Cleaning.{Keeps}
use Rattle.xet_store_disk.specs.Store.{State}
use Rattle.xet_store_disk.specs.theorems.Keeping.{keeps_nothing}
use Rattle.xet_store_disk.proofs.Adding.{put_backed, put_left, puts_due, unput_keeps, unput_sound}
use Rattle.xet_store_disk.proofs.Encoding.{due_at}
use Rattle.xet_store_disk.proofs.Going.{at_xorb, goes_idle, goes_xorb}
use Rattle.xet_store_disk.proofs.store.Store.put_due.Goals as goal

pub returns-then-eq-clause-keeps : goal.returns-then-eq-clause-keeps
returns-then-eq-clause-keeps g c = keeps_nothing c.args.self.now

pub returns-in_err-reserve_xorb-clause-keeps : goal.returns-in_err-reserve_xorb-clause-keeps
returns-in_err-reserve_xorb-clause-keeps g c = subst (λ (s : State). Keeps c.args.self.now s) (sym c.reserve_xorb.ensures.kept) (keeps_nothing c.args.self.now)

pub invariant_of-self : goal.invariant_of-self
invariant_of-self g c =
    let none : found c.self-2.inside.xorbs.entries c.hash-hash.result ≡ None =
    ap (λ (s : State). found s.xorbs c.hash-hash.result) (c.self-2.view_is ∙ c.reserve_xorb.ensures.kept) ∙ ap (λ (h : List ℕ). found c.args.self.now.xorbs h) c.hash-hash.ensures ∙ c.requires.new in
    let due = due_at c.args.due.now c.hash-hash.result c.encoding.result.now c.hash-hash.ensures c.encoding.ensures c.recall_invariant.ensures in
    let p = c.put_xorb.ensures in
    let put = puts_due c.self-2.invariant c.as_str.ensures none due p.frame.tells p.frame.later p.xorbs p.shards p.foreign p.passes in
    unput_sound put (λ told. put_left (g.D.Disk.files c.self-2.inside.disk) (g.D.Disk.files c.put_xorb.new.disk) _ _ c.put_xorb.result (p.refused told) (p.there told) (p.durable told) (p.temp told)) refl refl refl refl

pub returns-clause-keeps : goal.returns-clause-keeps
returns-clause-keeps g c =
    let none : found c.self-2.inside.xorbs.entries c.hash-hash.result ≡ None =
    ap (λ (s : State). found s.xorbs c.hash-hash.result) (c.self-2.view_is ∙ c.reserve_xorb.ensures.kept) ∙ ap (λ (h : List ℕ). found c.args.self.now.xorbs h) c.hash-hash.ensures ∙ c.requires.new in
    let due = due_at c.args.due.now c.hash-hash.result c.encoding.result.now c.hash-hash.ensures c.encoding.ensures c.recall_invariant.ensures in
    let p = c.put_xorb.ensures in
    let put = puts_due c.self-2.invariant c.as_str.ensures none due p.frame.tells p.frame.later p.xorbs p.shards p.foreign p.passes in
    unput_keeps put (λ told. put_left (g.D.Disk.files c.self-2.inside.disk) (g.D.Disk.files c.put_xorb.new.disk) _ _ c.put_xorb.result (p.refused told) (p.there told) (p.durable told) (p.temp told)) refl refl refl refl _ (c.self-2.view_is ∙ c.reserve_xorb.ensures.kept)

pub returns-clause-backed : goal.returns-clause-backed
returns-clause-backed g c = λ told.
    let none : found c.self-2.inside.xorbs.entries c.hash-hash.result ≡ None =
    ap (λ (s : State). found s.xorbs c.hash-hash.result) (c.self-2.view_is ∙ c.reserve_xorb.ensures.kept) ∙ ap (λ (h : List ℕ). found c.args.self.now.xorbs h) c.hash-hash.ensures ∙ c.requires.new in
    let due = due_at c.args.due.now c.hash-hash.result c.encoding.result.now c.hash-hash.ensures c.encoding.ensures c.recall_invariant.ensures in
    let p = c.put_xorb.ensures in
    let put = puts_due c.self-2.invariant c.as_str.ensures none due p.frame.tells p.frame.later p.xorbs p.shards p.foreign p.passes in
    let here = ap (λ (s : State). s.tells) (c.self-2.view_is ∙ c.reserve_xorb.ensures.kept) ∙ told in
    put_backed put c.args.due.now.hash c.hash-hash.ensures c.put_xorb.result (p.there here)

pub returns-clause-goes : goal.returns-clause-goes
returns-clause-goes g c = λ told settled.
    goes_xorb _ (g.D.Disk.files c.put_xorb.new.disk) c.as_str.result.now c.hash-hash.result c.encoding.result.now c.put_xorb.result c.as_str.ensures c.put_xorb.ensures.goes
    c.args.due.now.hash c.args.due.now.encoding c.hash-hash.ensures c.encoding.ensures c.args.self.now (c.self-2.view_is ∙ c.reserve_xorb.ensures.kept) told settled

pub returns-in_err-reserve_xorb-clause-goes : goal.returns-in_err-reserve_xorb-clause-goes
returns-in_err-reserve_xorb-clause-goes g c = λ told settled.
    let not : is_ok c.from_residual.result ≡ false = search rules in
    goes_idle c.args.self.now.files c.reserve_xorb.new.self.files c.args.self.now.folder _ c.from_residual.result (λ ok. absurd (cc (ok, not))) (ap (λ (s : State). s.files) c.reserve_xorb.ensures.kept) settled

pub returns-clause-written : goal.returns-clause-written
returns-clause-written g c = λ told.
    at_xorb (λ old name bytes. OnOk c.put_xorb.result (bytes_at (g.D.Disk.files c.put_xorb.new.disk) name ≡ Some bytes)) _ c.as_str.result.now c.hash-hash.result c.encoding.result.now c.as_str.ensures c.put_xorb.ensures.there
    c.args.due.now.hash c.args.due.now.encoding c.hash-hash.ensures c.encoding.ensures c.args.self.now (c.self-2.view_is ∙ c.reserve_xorb.ensures.kept) told

pub returns-clause-temp : goal.returns-clause-temp
returns-clause-temp g c = λ told.
    at_xorb (λ old name bytes. OnOk c.put_xorb.result (get (g.D.Disk.files c.put_xorb.new.disk) (temp_name name) ≡ None)) _ c.as_str.result.now c.hash-hash.result c.encoding.result.now c.as_str.ensures c.put_xorb.ensures.temp
    c.args.due.now.hash c.args.due.now.encoding c.hash-hash.ensures c.encoding.ensures c.args.self.now (c.self-2.view_is ∙ c.reserve_xorb.ensures.kept) told

pub returns-clause-others : goal.returns-clause-others
returns-clause-others g c = λ told.
    at_xorb (λ old name bytes. KeepsOtherNames old (g.D.Disk.files c.put_xorb.new.disk) name) _ c.as_str.result.now c.hash-hash.result c.encoding.result.now c.as_str.ensures c.put_xorb.ensures.others
    c.args.due.now.hash c.args.due.now.encoding c.hash-hash.ensures c.encoding.ensures c.args.self.now (c.self-2.view_is ∙ c.reserve_xorb.ensures.kept) told

pub returns-then-eq-clause-others : goal.returns-then-eq-clause-others
returns-then-eq-clause-others g c = λ told other name temp. refl

pub returns-in_err-reserve_xorb-clause-others : goal.returns-in_err-reserve_xorb-clause-others
returns-in_err-reserve_xorb-clause-others g c = λ told other name temp. ap (λ (s : State). get s.files other) c.reserve_xorb.ensures.kept

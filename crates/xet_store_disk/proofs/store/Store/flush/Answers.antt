use Rattle.std.proofs.Common.{◌≡◌, ◌∙◌, ◌∷◌, [], ◌++◌, ℕ, List, Bool, false, is_ok, refl, sym, ap, arith, rules}
use Rattle.xet_store_disk.proofs.Answering.{on_err}
use Rattle.xet_store_disk.proofs.Flushing.{nothing_done, put_flushed, put_keeps, put_sound, puts_shard, unput_at, unput_keeps, unput_refused, unput_sound}
use Rattle.xet_store_disk.specs.Store.{State}
use Rattle.xet_store_disk.specs.theorems.Keeping.{keeps_nothing}
use Rattle.xet_store_disk.specs.theorems.Staying.{keeps_unchanged}
use Rattle.xet_store_disk.proofs.Going.{goes_idle, goes_put}
use Rattle.xet_store_disk.proofs.store.Store.flush.Goals as goal

pub returns-then-is_empty-clause-keeps : goal.returns-then-is_empty-clause-keeps
returns-then-is_empty-clause-keeps g c = keeps_nothing c.args.self.now

pub returns-then-len-ge-MAX_SHARDS-clause-keeps : goal.returns-then-len-ge-MAX_SHARDS-clause-keeps
returns-then-len-ge-MAX_SHARDS-clause-keeps g c = keeps_nothing c.args.self.now

pub returns-then-len-ge-MAX_SHARDS-clause-refused : goal.returns-then-len-ge-MAX_SHARDS-clause-refused
returns-then-len-ge-MAX_SHARDS-clause-refused g c = nothing_done c.args.self.now

pub returns-in_err-encoding-clause-keeps : goal.returns-in_err-encoding-clause-keeps
returns-in_err-encoding-clause-keeps g c = keeps_nothing c.args.self.now

pub returns-in_err-encoding-clause-refused : goal.returns-in_err-encoding-clause-refused
returns-in_err-encoding-clause-refused g c = on_err _ (nothing_done c.args.self.now)

pub returns-then-contains-clause-keeps : goal.returns-then-contains-clause-keeps
returns-then-contains-clause-keeps g c = keeps_nothing c.args.self.now

pub returns-then-contains-clause-refused : goal.returns-then-contains-clause-refused
returns-then-contains-clause-refused g c = nothing_done c.args.self.now

pub returns-in_err-reserve-clause-keeps : goal.returns-in_err-reserve-clause-keeps
returns-in_err-reserve-clause-keeps g c = keeps_unchanged _ _ c.self.invariant c.self.view_is refl refl c.reserve.ensures.items refl

pub returns-in_err-reserve-clause-refused : goal.returns-in_err-reserve-clause-refused
returns-in_err-reserve-clause-refused g c = on_err _ (unput_at _ _ c.self.view_is refl refl c.reserve.ensures.items refl)

pub invariant_of-self-in_err-put_shard : goal.invariant_of-self-in_err-put_shard
invariant_of-self-in_err-put_shard g c =
    let e = c.in_ok-encoding.ensures in let p = c.put_shard.ensures in let put = puts_shard c.self.invariant c.as_str-folder.ensures c.deref-2.ensures.value c.contains.ensures.value c.if-contains.false e.shard e.fits
    (c.recall_bytes.ensures.length, c.recall_bytes.ensures.bytes) c.compute_data_hash-hash.ensures c.deref.ensures.value c.deref-3.ensures.value e.encoding p.frame.tells p.frame.later p.xorbs p.shards p.others p.foreign p.passes in
    unput_sound put c.in_err-put_shard.ensures.refused refl refl c.reserve.ensures.items refl

pub returns-in_err-put_shard-clause-keeps : goal.returns-in_err-put_shard-clause-keeps
returns-in_err-put_shard-clause-keeps g c =
    let e = c.in_ok-encoding.ensures in let p = c.put_shard.ensures in let put = puts_shard c.self.invariant c.as_str-folder.ensures c.deref-2.ensures.value c.contains.ensures.value c.if-contains.false e.shard e.fits
    (c.recall_bytes.ensures.length, c.recall_bytes.ensures.bytes) c.compute_data_hash-hash.ensures c.deref.ensures.value c.deref-3.ensures.value e.encoding p.frame.tells p.frame.later p.xorbs p.shards p.others p.foreign p.passes in
    unput_keeps put c.in_err-put_shard.ensures.refused refl refl c.reserve.ensures.items refl _ c.self.view_is

pub returns-in_err-put_shard-clause-refused : goal.returns-in_err-put_shard-clause-refused
returns-in_err-put_shard-clause-refused g c =
    let e = c.in_ok-encoding.ensures in let p = c.put_shard.ensures in let put = puts_shard c.self.invariant c.as_str-folder.ensures c.deref-2.ensures.value c.contains.ensures.value c.if-contains.false e.shard e.fits
    (c.recall_bytes.ensures.length, c.recall_bytes.ensures.bytes) c.compute_data_hash-hash.ensures c.deref.ensures.value c.deref-3.ensures.value e.encoding p.frame.tells p.frame.later p.xorbs p.shards p.others p.foreign p.passes in
    on_err _ (unput_refused put c.in_err-put_shard.ensures.refused refl refl c.reserve.ensures.items refl _ c.self.view_is)

pub invariant_of-self-2 : goal.invariant_of-self-2
invariant_of-self-2 g c =
    let e = c.in_ok-encoding.ensures in let p = c.put_shard.ensures in let put = puts_shard c.self.invariant c.as_str-folder.ensures c.deref-2.ensures.value c.contains.ensures.value c.if-contains.false e.shard e.fits
    (c.recall_bytes.ensures.length, c.recall_bytes.ensures.bytes) c.compute_data_hash-hash.ensures c.deref.ensures.value c.deref-3.ensures.value e.encoding p.frame.tells p.frame.later p.xorbs p.shards p.others p.foreign p.passes in
    put_sound put (λ told. record { there = c.in_ok-put_shard.ensures.there told; durable = c.in_ok-put_shard.ensures.durable told; temp = c.in_ok-put_shard.ensures.temp told })
    (c.push_reserved.ensures.items ∙ ap (λ (l : List (List ℕ)). l ++ c.compute_data_hash-hash.result ∷ []) c.reserve.ensures.items) c.empty.ensures

pub returns-clause-flushed : goal.returns-clause-flushed
returns-clause-flushed g c =
    let e = c.in_ok-encoding.ensures in let p = c.put_shard.ensures in let put = puts_shard c.self.invariant c.as_str-folder.ensures c.deref-2.ensures.value c.contains.ensures.value c.if-contains.false e.shard e.fits
    (c.recall_bytes.ensures.length, c.recall_bytes.ensures.bytes) c.compute_data_hash-hash.ensures c.deref.ensures.value c.deref-3.ensures.value e.encoding p.frame.tells p.frame.later p.xorbs p.shards p.others p.foreign p.passes in
    put_flushed put (λ told. record { there = c.in_ok-put_shard.ensures.there told; durable = c.in_ok-put_shard.ensures.durable told; temp = c.in_ok-put_shard.ensures.temp told })
    (c.push_reserved.ensures.items ∙ ap (λ (l : List (List ℕ)). l ++ c.compute_data_hash-hash.result ∷ []) c.reserve.ensures.items) c.empty.ensures _ c.self.view_is (omega arith)

pub returns-clause-keeps : goal.returns-clause-keeps
returns-clause-keeps g c =
    let e = c.in_ok-encoding.ensures in let p = c.put_shard.ensures in let put = puts_shard c.self.invariant c.as_str-folder.ensures c.deref-2.ensures.value c.contains.ensures.value c.if-contains.false e.shard e.fits
    (c.recall_bytes.ensures.length, c.recall_bytes.ensures.bytes) c.compute_data_hash-hash.ensures c.deref.ensures.value c.deref-3.ensures.value e.encoding p.frame.tells p.frame.later p.xorbs p.shards p.others p.foreign p.passes in
    put_keeps put (λ told. record { there = c.in_ok-put_shard.ensures.there told; durable = c.in_ok-put_shard.ensures.durable told; temp = c.in_ok-put_shard.ensures.temp told })
    (c.push_reserved.ensures.items ∙ ap (λ (l : List (List ℕ)). l ++ c.compute_data_hash-hash.result ∷ []) c.reserve.ensures.items) c.empty.ensures _ c.self.view_is

pub returns-clause-goes : goal.returns-clause-goes
returns-clause-goes g c = λ some told settled.
    let e = c.in_ok-encoding.ensures in let p = c.put_shard.ensures in let put = puts_shard c.self.invariant c.as_str-folder.ensures c.deref-2.ensures.value c.contains.ensures.value c.if-contains.false e.shard e.fits
    (c.recall_bytes.ensures.length, c.recall_bytes.ensures.bytes) c.compute_data_hash-hash.ensures c.deref.ensures.value c.deref-3.ensures.value e.encoding p.frame.tells p.frame.later p.xorbs p.shards p.others p.foreign p.passes in
    goes_put put c.put_shard.result _ (λ ok. ap is_ok c.in_ok-put_shard.was) c.args.self.now c.self.view_is told settled p.goes

pub returns-in_err-reserve-clause-goes : goal.returns-in_err-reserve-clause-goes
returns-in_err-reserve-clause-goes g c = λ some told settled.
    let not : is_ok c.from_residual-in_err-reserve.result ≡ false = search rules in
    goes_idle c.args.self.now.files (g.D.Disk.files c.self.inside.disk) c.args.self.now.folder _ c.from_residual-in_err-reserve.result (λ ok. absurd (cc (ok, not))) (ap (λ (s : State). s.files) c.self.view_is) settled

use Rattle.std.specs.Prelude.{Vec}
use Rattle.std.specs.Global.{Global}
use Rattle.std.proofs.Common.{◌∙◌, ◌+◌, Err, arith, ap, length, map, min, subst, sym, List, None, ℕ}
use Rattle.std.proofs.lemmas.List.{length-map}
use Rattle.std.proofs.lemmas.Result.{err_from_is_err_and}
use Rattle.xet_shard_format.specs.declared.record.MDBFileInfo.{MDBFileInfo}
use Rattle.xet_shard_format.specs.declared.record.MDBXorbInfo.{MDBXorbInfo}
use Rattle.xet_shard.specs.Export.{keyed_block}
use Rattle.xet_shard.specs.Held.{never}
use Rattle.xet_codec.specs.Parsing.{GivesUnlessFault}
use Rattle.xet_shard_format.specs.Records.{AreRecords, IsXorb, xorb_record_hash}
use Rattle.xet_shard.specs.Sections.{blocks_in}
use Rattle.xet_shard_format.specs.Encoding.{Shard, shard}
use Rattle.xet_shard.proofs.Exporting.{export_ends, export_fails, export_is}
use Rattle.xet_shard.proofs.Keying.{few_keyed, records_keyed, written_back}
use Rattle.xet_shard.proofs.export.keyed_records.Goals as goal

abbrev Both : Type 0
Both = Vec MDBXorbInfo Global × Vec MDBFileInfo Global

abbrev shard_of : List ℕ → ℕ → ℕ → Both → Shard
shard_of key valid now x = shard x.0.items x.1.items key now (min (now + valid) never)

pub returns-in_err-found-clause-exact : goal.returns-in_err-found-clause-exact
returns-in_err-found-clause-exact g c = λ told valid now.
    let p = err_from_is_err_and c.from_residual.result c.from_residual.ensures.1 in
    rw (p.1, p.2)
    (export_fails c.args.with_files c.args.key valid now c.args.f.now (g.R.ReadAt.bytes c.args.reader.now) (λ (v : Vec MDBFileInfo Global). v.items) (shard_of c.args.key valid now) c.in_err-found.field-0.0 (c.in_err-found.ensures.exact told))

pub returns-in_err-keyed-clause-exact : goal.returns-in_err-keyed-clause-exact
returns-in_err-keyed-clause-exact g c = λ told valid now.
    let p = err_from_is_err_and c.from_residual-in_err-keyed.result c.from_residual-in_err-keyed.ensures.1 in
    rw (p.1, p.2)
    (export_ends c.args.with_files c.args.key valid now c.args.f.now (g.R.ReadAt.bytes c.args.reader.now) (λ (v : Vec MDBXorbInfo Global). v.items) (shard_of c.args.key valid now) c.in_err-keyed.field-0.0 c.in_ok-found.found.items (c.in_ok-found.ensures.exact told)
    (subst (λ (bytes : List ℕ). GivesUnlessFault (λ (v : Vec MDBXorbInfo Global). v.items) (Err c.in_err-keyed.field-0.0) (blocks_in c.args.f.now bytes)) c.in_ok-found.ensures.frame.same (c.in_err-keyed.ensures.exact (c.in_ok-found.ensures.frame.tells ∙ told))))

pub returns-clause-exact : goal.returns-clause-exact
returns-clause-exact g c = λ told valid now.
    export_is c.args.with_files c.args.key valid now c.args.f.now (g.R.ReadAt.bytes c.args.reader.now) c.in_ok-found.found.items c.in_ok-keyed.keyed.items _ (c.in_ok-found.ensures.exact told)
    (ap (blocks_in c.args.f.now) (sym c.in_ok-found.ensures.frame.same) ∙ c.in_ok-keyed.ensures.exact (c.in_ok-found.ensures.frame.tells ∙ told))
    (written_back c.in_ok-keyed.keyed.len c.key_blocks.new.blocks c.in_ok-keyed.keyed.items (omega (arith, c.deref_mut.ensures.len, ap length c.key_blocks.ensures, length-map c.deref_mut.result.now (keyed_block c.args.key))) ∙ c.key_blocks.ensures ∙ ap (map (keyed_block c.args.key)) c.deref_mut.ensures.value)

pub returns-clause-blocks : goal.returns-clause-blocks
returns-clause-blocks g c =
    let made = written_back c.in_ok-keyed.keyed.len c.key_blocks.new.blocks c.in_ok-keyed.keyed.items (omega (arith, c.deref_mut.ensures.len, ap length c.key_blocks.ensures, length-map c.deref_mut.result.now (keyed_block c.args.key)))
    ∙ c.key_blocks.ensures ∙ ap (map (keyed_block c.args.key)) c.deref_mut.ensures.value in
    subst (AreRecords xorb_record_hash IsXorb None) (sym made) (records_keyed c.args.key None c.in_ok-keyed.keyed.items c.in_ok-keyed.ensures.form)

pub returns-clause-few_blocks : goal.returns-clause-few_blocks
returns-clause-few_blocks g c =
    few_keyed c.args.key c.in_ok-keyed.keyed.items _
    (written_back c.in_ok-keyed.keyed.len c.key_blocks.new.blocks c.in_ok-keyed.keyed.items (omega (arith, c.deref_mut.ensures.len, ap length c.key_blocks.ensures, length-map c.deref_mut.result.now (keyed_block c.args.key)))
    ∙ c.key_blocks.ensures ∙ ap (map (keyed_block c.args.key)) c.deref_mut.ensures.value)
    c.in_ok-keyed.ensures.few

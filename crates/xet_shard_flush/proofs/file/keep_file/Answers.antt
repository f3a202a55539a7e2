use Rattle.std.proofs.Common.{◌≡◌, ◌⊎◌, ◌∙◌, List, ℕ, Ok, Some, ap, inr, subst, sym}
use Rattle.xet_io.specs.Disk.{bytes_at, synced}
use Rattle.xet_shard.specs.declared.info.MDBShardInfo.{MDBShardInfo}
use Rattle.xet_shard_file.specs.Names.{temp_name}
use Rattle.xet_shard_flush.proofs.file.keep_file.Goals as goal

pub keep_named_file-requires-clause-temp : goal.keep_named_file-requires-clause-temp
keep_named_file-requires-clause-temp g c = c.as_str.ensures ∙ c.requires.file.temp ∙ ap temp_name (sym c.requires.file.name)

pub keep_named_file-requires-clause-there : goal.keep_named_file-requires-clause-there
keep_named_file-requires-clause-there g c = λ told.
    subst (λ (p : List ℕ). bytes_at (g.D.Disk.files c.args.disk.now) p ≡ Some c.args.bytes.now) (sym c.requires.file.name) (c.requires.there told)

pub returns-in-Ok-clause-written : goal.returns-in-Ok-clause-written
returns-in-Ok-clause-written g c = λ folder named.
    let value = c.in-Ok.ensures.value in
    record {
      hash = value.0 ∙ c.requires.file.hash;
      path = value.1 ∙ c.requires.file.name ∙ named;
      info = c.requires.file.info ∙ ap (λ (i : MDBShardInfo). Ok i) (sym value.2);
      written = λ told. inr (c.in-Ok.ensures.stood told folder (c.requires.file.name ∙ named));
    }

pub returns-in-Ok-clause-done : goal.returns-in-Ok-clause-done
returns-in-Ok-clause-done g c = λ told folder named.
    let files = g.D.Disk.files in
    inr (subst (λ (p : List ℕ). files c.keep_named_file.new.disk ≡ synced (files c.args.disk.now) p) (c.in-Ok.ensures.value.1 ∙ c.requires.file.name) (c.in-Ok.ensures.stood told folder (c.requires.file.name ∙ named)).same)

pub returns-in-Err-clause-done : goal.returns-in-Err-clause-done
returns-in-Err-clause-done g c = λ told folder named.
    let files = g.D.Disk.files in
    subst (λ (p : List ℕ). (files c.keep_named_file.new.disk ≡ files c.args.disk.now) ⊎ (files c.keep_named_file.new.disk ≡ synced (files c.args.disk.now) p)) c.requires.file.name (c.in-Err.ensures.refused told)

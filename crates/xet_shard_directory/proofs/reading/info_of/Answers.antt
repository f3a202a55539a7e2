use Rattle.std.proofs.Common.{◌≡◌, ◌∙◌, ap, sym, subst, List, ℕ, Result}
use Rattle.xet_codec.specs.FileReader.{bytes_if, bytes_of}
use Rattle.xet_codec.specs.Parsing.{GivesUnlessFault}
use Rattle.xet_hash.specs.declared.error.StoreError.{StoreError}
use Rattle.xet_shard.specs.Sections.{info_at}
use Rattle.xet_shard.specs.declared.info.MDBShardInfo.{MDBShardInfo}
use Rattle.xet_shard_directory.specs.Answers.{GivesUnlessDisk}
use Rattle.xet_shard_directory.proofs.ThroughDisk.{gives_of_disk, gives_of_equal}
use Rattle.xet_shard_directory.proofs.reading.info_of.Goals as goal

pub returns-clause-exact : goal.returns-clause-exact
returns-clause-exact g c = λ tells f there long.
    let files = g.D.Disk.files in
    let answer = c.load_from_reader-answer.result in
    let short = c.was_out_of_memory.result in
    let disk = c.new-reader.ensures.now in
    let bytes : bytes_of (files c.new-reader.result.disk.now) c.new-reader.result.name.now ≡ f.bytes =
    ap (λ d. bytes_of (files d) c.new-reader.result.name.now) disk ∙ ap (bytes_of (files c.args.disk.now)) c.new-reader.ensures.name ∙ ap bytes_if there in
    let read = gives_of_equal answer _ (c.load_from_reader-answer.ensures.exact (c.new-reader.ensures.observable tells f there long)) in
    let given : GivesUnlessFault (λ (i : MDBShardInfo). i) answer (info_at f.bytes) =
    subst (λ (b : List ℕ). GivesUnlessFault (λ (i : MDBShardInfo). i) answer (info_at b)) bytes read in
    subst (λ (r : Result MDBShardInfo StoreError). GivesUnlessDisk (λ (i : MDBShardInfo). i) r (info_at f.bytes)) (sym c.of_disk.ensures)
    (gives_of_disk (λ (i : MDBShardInfo). i) short answer (info_at f.bytes) given)

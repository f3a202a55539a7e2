use Rattle.std.proofs.Common.{◌≡◌, ◌∙◌, ap, sym, subst, List, ℕ, Option, Some, Result, nat_lt}
use Rattle.xet_codec.specs.FileReader.{bytes_if, bytes_of}
use Rattle.xet_hash.specs.declared.error.StoreError.{StoreError}
use Rattle.xet_io.specs.Disk.{Files, file_at}
use Rattle.xet_shard.specs.Bisection.{AnswersAt}
use Rattle.xet_shard.specs.Queries.{file_table, found_file}
use Rattle.xet_shard_directory.specs.Answers.{AnswersUnlessDisk}
use Rattle.xet_shard_directory.proofs.Presence.{sized}
use Rattle.xet_shard_directory.proofs.ThroughDisk.{answers_of_disk}
use Rattle.xet_shard_format.specs.Records.{first_word}
use Rattle.xet_shard_format.specs.declared.record.MDBFileInfo.{MDBFileInfo}
use Rattle.xet_shard_directory.proofs.shard_file.MDBShardFile.get_file_reconstruction_info.Goals as goal

pub returns-clause-present : goal.returns-clause-present
returns-clause-present g c = λ tells f there.
    let files = g.D.Disk.files in
    let footer = c.args.self.now.shard.metadata in
    let hash = c.args.hash.now in
    let answer = c.get_file_reconstruction_info-answer.result in
    let short = c.was_out_of_memory.result in
    let disk = c.new-reader.ensures.now in
    let frame = c.in_ok-size.ensures.frame in
    let name = c.new-reader.ensures.name ∙ c.as_str-path.ensures in
    let bytes : bytes_of (files c.new-reader.result.disk.now) c.new-reader.result.name.now ≡ f.bytes =
    ap (bytes_of (files c.new-reader.result.disk.now)) name
    ∙ ap (λ (fs : Files). bytes_of fs c.args.self.now.path) (ap files disk ∙ frame.same) ∙ ap bytes_if there in
    let path = c.as_str-path.result.now in
    let at : file_at (files c.args.disk.now) path ≡ Some f = ap (λ (n : List ℕ). file_at (files c.args.disk.now) n) c.as_str-path.ensures ∙ there in
    let long = sized (file_at (files c.args.disk.now) path) f c.in-Some.size at (sym c.in-Some.is ∙ c.in_ok-size.ensures.exact tells) in
    let seen = c.new-reader.ensures.observable (frame.tells ∙ tells) f (ap (λ (fs : Files). file_at fs path) frame.same ∙ at) long in
    let read = c.get_file_reconstruction_info-answer.ensures.exact seen in
    let passes = λ (i : ℕ × ℕ). nat_lt i.0 (first_word hash) in
    let given = subst (λ (b : List ℕ). AnswersAt passes (file_table footer b) (λ (x : Option MDBFileInfo). x) answer (λ index. found_file footer hash index b)) bytes read in
    subst (λ (r : Result (Option MDBFileInfo) StoreError). AnswersUnlessDisk passes (file_table footer f.bytes) r (λ index. found_file footer hash index f.bytes)) (sym c.of_disk.ensures)
    (answers_of_disk passes (file_table footer f.bytes) short answer (λ index. found_file footer hash index f.bytes) given)

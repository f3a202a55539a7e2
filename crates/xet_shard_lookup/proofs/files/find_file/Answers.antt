use Rattle.std.proofs.Common.{◌≡◌, ◌∙◌, None, false, nat_eq, sym}
use Rattle.std.specs.Cmp.Lexicographic.{pointwise}
use Rattle.xet_hash.specs.Hash.{zero_hash}
use Rattle.xet_shard.specs.Held.{record_of}
use Rattle.xet_shard_format.specs.Records.{file_record_hash}
use Rattle.xet_shard_lookup.proofs.Recording.{found_pending, found_registered}
use Rattle.xet_shard_lookup.proofs.files.find_file.Goals as goal

pub returns-in-Some-clause-found : goal.returns-in-Some-clause-found
returns-in-Some-clause-found g c told shards held holds =
    let some : pointwise nat_eq c.args.hash.now zero_hash ≡ false = rw c.default.ensures at (sym c.if-eq.ensures) in
    found_pending (g.D.Disk.files c.args.disk.now) c.args.pending.now shards c.args.hash.now c.in-Some.file some (sym c.in_ok-file.ensures.file ∙ c.in-Some.is)

pub returns-in-Some-clause-there : goal.returns-in-Some-clause-there
returns-in-Some-clause-there g c told =
    let some : pointwise nat_eq c.args.hash.now zero_hash ≡ false = rw c.default.ensures at (sym c.if-eq.ensures) in
    rw some (sym c.in_ok-file.ensures.file ∙ c.in-Some.is)

pub returns-in-None-clause-found : goal.returns-in-None-clause-found
returns-in-None-clause-found g c told shards held holds =
    let some : pointwise nat_eq c.args.hash.now zero_hash ≡ false = rw c.default.ensures at (sym c.if-eq.ensures) in
    let none : record_of file_record_hash c.args.hash.now c.args.pending.now.files ≡ None = sym c.in_ok-file.ensures.file ∙ c.in-None.is in
    rw (found_registered (g.D.Disk.files c.args.disk.now) c.args.pending.now shards c.args.hash.now some none) (c.find_registered.ensures.found told shards held holds)

pub returns-in-None-clause-there : goal.returns-in-None-clause-there
returns-in-None-clause-there g c told = c.find_registered.ensures.there told c.args.pending.now

use Rattle.std.proofs.Common.{◌≡◌, length, refl, slice_get, sym, None, Some, ◌∙◌}
use Rattle.std.proofs.lemmas.Option.{same_Some, slice_get_past, slice_get_read}
use Rattle.xet_shard_lookup.proofs.Asking.{holds_at, map_at, map_past}
use Rattle.xet_shard_registry.specs.Registered.{Registered}
use Rattle.xet_shard_lookup.proofs.files.find_at.Goals as goal

pub returns-then-number-files-clause-found : goal.returns-then-number-files-clause-found
returns-then-number-files-clause-found g c told shards s are holds is =
    let files = c.args.files.now in
    let n = c.args.number in
    let there : slice_get files n ≡ Some c.index-files-number.result = slice_get_read files (length files) n c.index-files-number.result refl c.if-number-files.true c.index-files-number.is in
    let (t, et, file) = map_at (λ (r : Registered). r.file) shards n c.index-files-number.result (rw are at there) in
    let own : t ≡ s = same_Some t s (sym et ∙ is) in
    c.find_in.ensures.found told s (rw own at file) (holds_at (g.D.Disk.files c.args.disk.now) shards n s is holds)

pub returns-then-number-files-clause-there : goal.returns-then-number-files-clause-there
returns-then-number-files-clause-there g c told pending =
    let files = c.args.files.now in
    let n = c.args.number in
    c.find_in.ensures.there told pending files n (slice_get_read files (length files) n c.index-files-number.result refl c.if-number-files.true c.index-files-number.is)

pub returns-else-number-files-clause-found : goal.returns-else-number-files-clause-found
returns-else-number-files-clause-found g c told shards s are holds is =
    let n = c.args.number in
    let none : slice_get shards n ≡ None = map_past (λ (r : Registered). r.file) shards n (rw are at (slice_get_past c.args.files.now n c.if-number-files.false)) in
    absurd (cc (none, is))

use Rattle.std.proofs.Common.{◌≡◌, length, refl, slice_get, None, Some}
use Rattle.std.proofs.lemmas.Option.{slice_get_past, slice_get_read}
use Rattle.xet_shard_lookup.proofs.Asking.{holds_at, map_at, map_past}
use Rattle.xet_shard_lookup.proofs.Places.{item_of_place}
use Rattle.xet_shard_registry.specs.Registered.{Registered}
use Rattle.xet_shard_lookup.proofs.queries.run_at.Goals as goal

pub returns-then-number-files-clause-found : goal.returns-then-number-files-clause-found
returns-then-number-files-clause-found g c told shards key word held holds placed =
    let files = c.files-files.result.now in
    let n = c.args.place.shard in
    let there : slice_get files n ≡ Some c.index-files-number.result = slice_get_read files (length files) n c.index-files-number.result refl c.if-number-files.true c.index-files-number.is in
    let (s, is, same) = map_at (λ (r : Registered). r.file) shards n c.index-files-number.result (rw (c.files-files.ensures, held.files) at there) in
    let (w, item, listed) = item_of_place key word shards c.args.place s placed is in
    rw is (c.run_in.ensures.found told s w item same (holds_at (g.D.Disk.files c.args.disk.now) shards n s is holds) listed)

pub returns-else-number-files-clause-found : goal.returns-else-number-files-clause-found
returns-else-number-files-clause-found g c told shards key word held holds placed =
    let n = c.args.place.shard in
    let none : slice_get shards n ≡ None =
    map_past (λ (r : Registered). r.file) shards n (rw (c.files-files.ensures, held.files) at (slice_get_past c.files-files.result.now n c.if-number-files.false)) in
    rw none refl

pub returns-then-number-files-clause-there : goal.returns-then-number-files-clause-there
returns-then-number-files-clause-there g c told pending =
    let files = c.files-files.result.now in
    let n = c.args.place.shard in
    let there : slice_get files n ≡ Some c.index-files-number.result = slice_get_read files (length files) n c.index-files-number.result refl c.if-number-files.true c.index-files-number.is in
    c.run_in.ensures.there told pending c.args.registry.now.files n (rw c.files-files.ensures at there)

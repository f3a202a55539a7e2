use Rattle.std.proofs.Common.{◌≡◌, ◌++◌, ◌∙◌, ap, subst, sym, rules, arith}
use Rattle.std.proofs.lemmas.List.Elements.{All-more}
use Rattle.std.specs.List.{Any}
use Rattle.std.specs.Option.{option_to_list}
use Rattle.xet_base.specs.theorems.Exits.{on_exit}
use Rattle.xet_hash.specs.declared.error.StoreError.{StoreError}
use Rattle.xet_hash.specs.declared.error.StoreError.TheVariants.{OutOfMemory}
use Rattle.xet_io.specs.Disk.{Files}
use Rattle.xet_shard_directory.specs.internal.Folders.{IsListedRead, IsUnread, listed, shard_in}
use Rattle.xet_shard_directory.proofs.FolderShards.{listed_more}
use Rattle.xet_shard_directory.proofs.folder.load_entries.Goals as goal
use Rattle.xet_shard_directory.proofs.folder.load_entries.Goals.{in-Some+in_ok-push, in_default}
use Rattle.xet_shard_file.specs.declared.listing.ShardEntry.{ShardEntry}

pub returns-in_err-shard-clause-refused : goal.returns-in_err-shard-clause-refused
returns-in_err-shard-clause-refused g c = λ told.
    let i = c.loop-entry.invariant in
    let files = g.D.Disk.files c.args.disk.now in
    let folder = c.args.folder.now in
    let skip = c.args.skip_on_error in
    let entry = c.entry-item.result in
    let e = c.in_err-shard.field-0.0 in
    let unread = subst (λ (fs : Files). IsUnread skip (listed fs folder entry) e) i.frame.same (c.in_err-shard.ensures.refused (i.frame.tells ∙ told)) in
    on_exit c.from_residual.result e (λ (d : StoreError). Any (λ (x : ShardEntry). IsUnread skip (listed files folder x) d) c.args.entries.now) c.from_residual.ensures.1
    (c.loop-entry.entry-index, entry, c.loop-entry-test.true, sym c.entry-item.is, unread)

pub returns-in_err-push-clause-refused : goal.returns-in_err-push-clause-refused
returns-in_err-push-clause-refused g c = λ told.
    let files = g.D.Disk.files c.args.disk.now in
    let folder = c.args.folder.now in
    let skip = c.args.skip_on_error in
    on_exit c.from_residual-in_err-push.result OutOfMemory (λ (d : StoreError). Any (λ (x : ShardEntry). IsUnread skip (listed files folder x) d) c.args.entries.now) c.from_residual-in_err-push.ensures.1
    (c.loop-entry.entry-index, c.entry-item.result, c.loop-entry-test.true, sym c.entry-item.is, tt)

pub loop-entry-preserved : goal.loop-entry-preserved
loop-entry-preserved g c =
    let i = c.loop-entry.invariant in
    let done = c.in_ok-shard.ensures in
    let files = g.D.Disk.files c.args.disk.now in
    let folder = c.args.folder.now in
    let entries = c.args.entries.now in
    let entry = c.entry-item.result in
    let index = c.loop-entry.entry-index in
    let found = c.in_ok-shard.field-0 in
    let more : c.match-branch-2.shards.items ≡ c.loop-entry.shards.items ++ option_to_list found =
    elim c.match-branch-2.branch [ in-Some+in_ok-push w ↦ search rules | in_default w ↦ search rules ] in
    record {
      told = λ told.
          listed_more files folder entries index entry c.args.shards.now.items c.loop-entry.shards.items c.match-branch-2.shards.items (option_to_list found) c.loop-entry-test.true c.entry-item.is
          (i.told told) more (done.told (i.frame.tells ∙ told) ∙ ap (λ (fs : Files). shard_in (listed fs folder entry)) i.frame.same);
      all = λ told skip.
          All-more (IsListedRead files folder) entries index entry c.loop-entry-test.true (i.all told skip)
          (subst (IsListedRead files folder) c.entry-item.is (subst (λ (fs : Files). IsListedRead fs folder entry) i.frame.same (done.all (i.frame.tells ∙ told) skip)));
      frame = record { same = done.frame.same ∙ i.frame.same; tells = done.frame.tells ∙ i.frame.tells; later = omega (arith, i.frame.later, done.frame.later) };
    }

use Rattle.std.proofs.Common.{◌≡◌, ◌∙◌, ap, map, min, ◌+◌, subst}
use Rattle.std.proofs.lemmas.List.{map-id}
use Rattle.xet_shard.specs.Held.{never}
use Rattle.xet_shard_format.specs.Lookups.{Lookups}
use Rattle.xet_shard_format.specs.Encoding.{Fits, Shard, shard, shard_bytes}
use Rattle.xet_shard.proofs.export.keyed_bytes.Goals as goal

pub returns-clause-encoding : goal.returns-clause-encoding
returns-clause-encoding g c = λ told.
    let w : Lookups = record { files = c.args.lookups.files; xorbs = c.args.lookups.xorbs; chunks = c.args.lookups.chunks } in
    let blocks = map-id c.deref.result.now ∙ c.deref.ensures.value in
    let files = map-id c.deref-2.result.now ∙ c.deref-2.ensures.value in
    let s : Shard = shard c.in_ok-blocks.blocks.items c.in_ok-blocks.files.items c.args.key c.args.now (min (c.args.now + c.args.valid_for) never) in
    let same : shard (map (λ x. x) c.deref.result.now) (map (λ x. x) c.deref-2.result.now) c.args.key c.args.now c.saturating_add-expiry.result ≡ s = λ i. shard (blocks i) (files i) c.args.key c.args.now (c.saturating_add-expiry.ensures i) in
    record {
      shard = s;
      found = c.in_ok-blocks.ensures.exact told c.args.valid_for c.args.now;
      form = record { files = c.in_ok-blocks.ensures.files; blocks = c.in_ok-blocks.ensures.blocks; few_files = c.in_ok-blocks.ensures.few_files; few_blocks = c.in_ok-blocks.ensures.few_blocks };
      fits = subst Fits same c.in_ok-encoding.ensures.fits;
      encoding = c.in_ok-encoding.ensures.encoding ∙ ap (shard_bytes w) same;
    }

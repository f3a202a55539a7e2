use Rattle.std.proofs.Common.{◌≡◌, ◌∙◌, ◌<◌, ◌^◌, ◌∷◌, ◌++◌, [], List, None, ap, arith, length, nat_eq, subst, sym}
use Rattle.std.proofs.lemmas.List.{length-map}
use Rattle.std.specs.Cmp.Lexicographic.{pointwise}
use Rattle.indexmap.specs.IndexMap.{get, values}
use Rattle.indexmap.proofs.CallerLemmas.{insert_entry-new}
use Rattle.xet_shard_format.specs.Records.{xorb_record_hash, xorb_head, xorb_rest, xorb_section}
use Rattle.xet_shard_format.specs.declared.record.MDBXorbInfo.{MDBXorbInfo}
use Rattle.xet_shard_format.specs.theorems.Counts.{before_last}
use Rattle.xet_shard.proofs.Holding.{keyed_put, last_new, removed_none, values_put}
use Rattle.xet_shard.proofs.Placing.{placed_last}
use Rattle.xet_shard.proofs.in_memory.places.put_new.Goals as goal

pub overflow_cast-len : goal.overflow_cast-len
overflow_cast-len c =
    let few : length (xorb_section (values c.args.blocks.now ++ c.args.block ∷ [])) < 2 ^ 32 =
    subst (λ (bs : List MDBXorbInfo). length (xorb_section bs) < 2 ^ 32) (last_new xorb_record_hash c.args.blocks.now.entries c.args.block c.requires.keyed c.requires.absent) c.requires.few in
    let count = before_last xorb_head xorb_rest (values c.args.blocks.now) c.args.block (2 ^ 32) few in
    omega (arith, count, c.len.ensures.len, ap length c.reserve.ensures.entries, length-map c.args.blocks.now.entries (λ e. e.1))

pub returns-in-Ok-clause-keyed : goal.returns-in-Ok-clause-keyed
returns-in-Ok-clause-keyed c =
    let none : get (pointwise nat_eq) c.args.blocks.now c.hash.result ≡ None = rw c.hash.ensures c.requires.absent in
    let none_yet : get (pointwise nat_eq) c.reserve.new.self c.hash.result ≡ None = rw c.reserve.ensures.entries none in
    keyed_put xorb_record_hash c.args.blocks.now.entries c.reserve.new.self.entries _ _ c.args.block c.requires.keyed c.hash.ensures (c.reserve.ensures.entries ∙ sym (removed_none _ c.args.blocks.now.entries none))
    (c.in-Ok.ensures.entries ∙ insert_entry-new _ c.reserve.new.self _ c.args.block none_yet)

pub returns-in-Ok-clause-put : goal.returns-in-Ok-clause-put
returns-in-Ok-clause-put c =
    let none : get (pointwise nat_eq) c.args.blocks.now c.hash.result ≡ None = rw c.hash.ensures c.requires.absent in
    let none_yet : get (pointwise nat_eq) c.reserve.new.self c.hash.result ≡ None = rw c.reserve.ensures.entries none in
    values_put xorb_record_hash c.args.blocks.now.entries c.reserve.new.self.entries _ _ c.args.block c.requires.keyed c.hash.ensures (c.reserve.ensures.entries ∙ sym (removed_none _ c.args.blocks.now.entries none))
    (c.in-Ok.ensures.entries ∙ insert_entry-new _ c.reserve.new.self _ c.args.block none_yet) c.requires.differ

pub returns-in-Ok-clause-places : goal.returns-in-Ok-clause-places
returns-in-Ok-clause-places c =
    let none : get (pointwise nat_eq) c.args.blocks.now (xorb_record_hash c.args.block) ≡ None = c.requires.absent in
    let all : values c.insert.new.self ≡ values c.args.blocks.now ++ c.args.block ∷ [] = returns-in-Ok-clause-put c ∙ last_new xorb_record_hash c.args.blocks.now.entries c.args.block c.requires.keyed none in
    let count : c.len.result ≡ length (values c.args.blocks.now) = c.len.ensures.len ∙ ap length c.reserve.ensures.entries ∙ sym (length-map c.args.blocks.now.entries (λ e. e.1)) in
    λ h. placed_last h (values c.args.blocks.now) (values c.insert.new.self) c.args.block (get (pointwise nat_eq) c.reserve-2.new.self h) _ all
    (rw c.reserve-2.ensures.entries (c.requires.places h)) (rw (sym count, sym c.as_slice-chunks.ensures) (c.in_ok-note_chunks.ensures.noted h))

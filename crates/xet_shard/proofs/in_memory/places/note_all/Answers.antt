use Rattle.std.proofs.Common.{◌≡◌, ◌∙◌, ◌<◌, ◌^◌, ◌∷◌, ◌++◌, [], List, true, ap, arith, rules, filter, length, map, sym}
use Rattle.std.proofs.lemmas.List.{length-append}
use Rattle.std.proofs.lemmas.Map.Iter.{iter_end, rest_more}
use Rattle.std.specs.Map.Iter.{deref}
use Rattle.indexmap.specs.IndexMap.{values}
use Rattle.xet_shard_format.specs.declared.record.MDBXorbInfo.{MDBXorbInfo}
use Rattle.xet_shard_format.specs.Records.{xorb_record_hash, xorb_rows, xorb_section}
use Rattle.xet_shard_format.specs.theorems.Counts.{fewer_rows}
use Rattle.xet_shard.specs.theorems.Holding.{is_other}
use Rattle.xet_shard.proofs.Placing.{none_placed, placed_last, rows_left, stays_next}
use Rattle.xet_shard.proofs.in_memory.places.note_all.Goals as goal

pub loop-other-init : goal.loop-other-init
loop-other-init c =
    let all : c.into_iter-other-iterator.result ≡ values c.args.blocks.now = search rules in
    let stay : List MDBXorbInfo = filter (is_other xorb_record_hash c.hash-hash.result) (values c.args.blocks.now) in
    let few : length (xorb_section (stay ++ c.args.block.now ∷ [])) < 2 ^ 32 = rw c.hash-hash.ensures c.requires.few in
    record {
      places = λ h. none_placed h c.args.found.now.entries c.requires.empty;
      count = omega arith;
      few = rw all (omega (arith, few, fewer_rows xorb_rows stay (c.args.block.now ∷ [])));
    }

pub loop-other-preserved-then-ne : goal.loop-other-preserved-then-ne
loop-other-preserved-then-ne c =
    let stays : is_other xorb_record_hash c.hash-hash.result c.in-Some.other.now ≡ true = search rules in
    let next = stays_next (deref {X = MDBXorbInfo}) (is_other xorb_record_hash c.hash-hash.result) c.loop-other.yielded c.in-Some.other stays in
    let rest : c.loop-other.other-iterator ≡ c.in-Some.other.now ∷ c.next.new.self = rest_more (deref {X = MDBXorbInfo}) _ _ c.next.result c.in-Some.other c.in-Some.is c.next.ensures.steps in
    record {
      places = λ h. placed_last h _ _ c.in-Some.other.now _ _ next (c.loop-other.invariant.places h) (rw (sym c.loop-other.invariant.count, sym c.as_slice.ensures) (c.in_ok-note_chunks.ensures.noted h));
      count = omega (arith, c.loop-other.invariant.count, ap length next, length-append (filter (is_other xorb_record_hash c.hash-hash.result) (map deref c.loop-other.yielded)) (c.in-Some.other.now ∷ []));
      few = rows_left (is_other xorb_record_hash c.hash-hash.result) _ _ c.in-Some.other.now c.loop-other.index (2 ^ 32) rest stays c.loop-other.invariant.few;
    }

pub returns : goal.returns
returns c =
    let hash = c.hash-hash.result in
    let begun : c.into_iter-other-iterator.result ≡ values c.args.blocks.now = search rules in
    let all : map deref c.loop-other.yielded ≡ values c.args.blocks.now = (iter_end (deref {X = MDBXorbInfo}) _ c.loop-other.yielded _ _ _ _ begun c.loop-other.yielded_by c.in-None.is c.next.ensures.steps).0 in
    let whole : filter (is_other xorb_record_hash (xorb_record_hash c.args.block.now)) (values c.args.blocks.now) ++ c.args.block.now ∷ [] ≡ filter (is_other xorb_record_hash hash) (map deref c.loop-other.yielded) ++ c.args.block.now ∷ [] =
    ap (λ (h : List _). filter (is_other xorb_record_hash h) (values c.args.blocks.now) ++ c.args.block.now ∷ []) (sym c.hash-hash.ensures)
    ∙ ap (λ (bs : List MDBXorbInfo). filter (is_other xorb_record_hash hash) bs ++ c.args.block.now ∷ []) (sym all) in
    λ h. placed_last h _ _ c.args.block.now _ _ whole (c.loop-other.invariant.places h) (rw (sym c.loop-other.invariant.count, sym c.as_slice-2.ensures) (c.in_ok-note_chunks-2.ensures.noted h))

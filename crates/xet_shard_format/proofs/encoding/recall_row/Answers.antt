use Rattle.xet_shard_format.proofs.encoding.recall_row.Goals as goal

pub returns : goal.returns
returns c = record {
  hash = (c.recall_hash.ensures.length, c.recall_hash.ensures.bytes);
  a = c.recall_numbers.ensures.first;
  b = c.recall_numbers.ensures.second;
  c = c.recall_numbers.ensures.third;
  d = c.recall_numbers.ensures.fourth;
}

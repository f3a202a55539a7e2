use Rattle.std.proofs.Common.{sym, ◌∙◌, ◌++◌, ◌+◌, ◌∷◌, [], ap, arith, drop, ℕ}
use Rattle.xet_shard_format.specs.Lookups.{heads_from}
use Rattle.xet_shard_format.specs.Records.{first_word}
use Rattle.xet_shard.proofs.ItemLists.{no_more, one_more}
use Rattle.xet_shard_format.specs.theorems.Steps.{heads_none, heads_step, rows_step}
use Rattle.xet_shard.proofs.reader.lookup_items.record_items.Goals as goal

pub num_rows-row-requires : goal.num_rows-row-requires
num_rows-row-requires g c =
    omega (arith, c.requires, c.loop-record.invariant.row, rows_step g.X.Record.rows_of c.args.records.now c.loop-record.record-index c.record-item.result c.loop-record-test.true c.record-item.is)

pub overflow_add-row : goal.overflow_add-row
overflow_add-row g c =
    omega (arith, c.requires, c.loop-record.invariant.row, c.num_rows-row.ensures, rows_step g.X.Record.rows_of c.args.records.now c.loop-record.record-index c.record-item.result c.loop-record-test.true c.record-item.is)

pub loop-record-preserved : goal.loop-record-preserved
loop-record-preserved g c =
    let xs = c.args.records.now in
    let i = c.loop-record.record-index in
    let x = c.record-item.result in
    let row = c.loop-record.row in
    let found = c.loop-record.found.items in
    record {
      row = omega (arith, c.loop-record.invariant.row, c.num_rows-row.ensures, rows_step g.X.Record.rows_of xs i x c.loop-record-test.true c.record-item.is);
      so_far =
          one_more found c.push.new.self.items (first_word (g.X.Record.hash_of x), row) _ _ _ (c.in_ok-push.ensures.items ∙ ap (λ (w : ℕ). found ++ (w, row) ∷ []) (c.word.ensures ∙ ap first_word c.hash.ensures))
          (heads_step g.X.Record.hash_of g.X.Record.rows_of row xs i x c.loop-record-test.true c.record-item.is ∙ ap (λ (n : ℕ). (first_word (g.X.Record.hash_of x), row) ∷ heads_from g.X.Record.hash_of g.X.Record.rows_of (row + n) (drop (i + 1) xs)) (sym c.num_rows-row.ensures)) c.loop-record.invariant.so_far;
    }

pub returns : goal.returns
returns g c = no_more c.loop-record.found.items _ _ (heads_none g.X.Record.hash_of g.X.Record.rows_of c.loop-record.row c.args.records.now c.loop-record.record-index c.loop-record-test.false) c.loop-record.invariant.so_far

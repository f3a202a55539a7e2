use Rattle.std.proofs.Common.{◌≡◌, ◌∙◌, ◌+◌, ◌++◌, true, false, Bor, List, ℕ, ap, drop, map, sym}
use Rattle.std.specs.Ordering.{is_lt}
use Rattle.std.proofs.lemmas.List.{append-nil, drop-drop, drop_all}
use Rattle.xet_hash.specs.Order.{hash_cmp}
use Rattle.xet_shard.specs.internal.Merging.{below, not_below}
use Rattle.xet_shard.proofs.Merging.{below_high, below_low, ends, rest_high, rest_low}
use Rattle.xet_shard_format.specs.theorems.Steps.{left}
use Rattle.xet_shard.proofs.Uniting.{pushed_on}
use Rattle.xet_shard.proofs.union.push_below.Goals as goal

pub returns-then-not-is_lt-clause-pushed : goal.returns-then-not-is_lt-clause-pushed
returns-then-not-is_lt-clause-pushed g c =
    let hash = g.R.Record.hash_of in
    let h = c.args.hash in
    let now : Bor g.row.R.Denot → g.row.R.Denot = λ r. r.now in
    let high : is_lt (hash_cmp (hash c.next-item.result) h) ≡ false = ap (λ (k : List ℕ). is_lt (hash_cmp k h)) (sym c.hash.ensures) ∙ ap is_lt (sym c.cmp.ensures) ∙ sym c.is_lt.ensures ∙ c.if-not-is_lt.true in
    let none = ap (below hash h) (left c.args.records.now c.loop-next.next-index c.next-item.result c.loop-next-test.true c.next-item.is) ∙ below_high hash h c.next-item.result _ high in
    sym (append-nil (map now c.loop-next.found.items)) ∙ ap (λ (l : List g.row.R.Denot). map now c.loop-next.found.items ++ l) (sym none) ∙ c.loop-next.invariant.pushed

pub returns-then-not-is_lt-clause-rest : goal.returns-then-not-is_lt-clause-rest
returns-then-not-is_lt-clause-rest g c =
    let hash = g.R.Record.hash_of in
    let h = c.args.hash in
    let high : is_lt (hash_cmp (hash c.next-item.result) h) ≡ false = ap (λ (k : List ℕ). is_lt (hash_cmp k h)) (sym c.hash.ensures) ∙ ap is_lt (sym c.cmp.ensures) ∙ sym c.is_lt.ensures ∙ c.if-not-is_lt.true in
    let e = left c.args.records.now c.loop-next.next-index c.next-item.result c.loop-next-test.true c.next-item.is in
    c.loop-next.invariant.here ∙ e ∙ sym (rest_high hash h c.next-item.result _ high) ∙ ap (not_below hash h) (sym e) ∙ c.loop-next.invariant.others

pub loop-next-preserved : goal.loop-next-preserved
loop-next-preserved g c =
    let hash = g.R.Record.hash_of in
    let h = c.args.hash in
    let now : Bor g.row.R.Denot → g.row.R.Denot = λ r. r.now in
    let records = c.args.records.now in
    let i = c.loop-next.next-index in
    let less : is_lt (hash_cmp (hash c.next-item.result) h) ≡ true = ap (λ (k : List ℕ). is_lt (hash_cmp k h)) (sym c.hash.ensures) ∙ ap is_lt (sym c.cmp.ensures) ∙ sym c.is_lt.ensures ∙ c.if-not-is_lt.false in
    let e = left records i c.next-item.result c.loop-next-test.true c.next-item.is in
    record {
      here = c.split_at.ensures.back ∙ ap (drop 1) c.loop-next.invariant.here ∙ drop-drop 1 i records;
      pushed = ap (λ (l : List (Bor g.row.R.Denot)). map now l ++ below hash h (drop (i + 1) records)) c.in_ok-push.ensures.items
          ∙ pushed_on now c.loop-next.found.items _ (below hash h (drop (i + 1) records)) _ (below hash h (drop i records)) (ap (below hash h) e ∙ below_low hash h c.next-item.result (drop (i + 1) records) less) c.loop-next.invariant.pushed;
      others = sym (ap (not_below hash h) e ∙ rest_low hash h c.next-item.result (drop (i + 1) records) less) ∙ c.loop-next.invariant.others;
    }

pub returns-clause-pushed : goal.returns-clause-pushed
returns-clause-pushed g c =
    let hash = g.R.Record.hash_of in
    let h = c.args.hash in
    let now : Bor g.row.R.Denot → g.row.R.Denot = λ r. r.now in
    let none = ap (below hash h) (drop_all c.loop-next.next-index c.args.records.now c.loop-next-test.false) ∙ (ends hash h).0 in
    sym (append-nil (map now c.loop-next.found.items)) ∙ ap (λ (l : List g.row.R.Denot). map now c.loop-next.found.items ++ l) (sym none) ∙ c.loop-next.invariant.pushed

pub returns-clause-rest : goal.returns-clause-rest
returns-clause-rest g c =
    let hash = g.R.Record.hash_of in
    let h = c.args.hash in
    let e = drop_all c.loop-next.next-index c.args.records.now c.loop-next-test.false in
    c.loop-next.invariant.here ∙ e ∙ sym (ends hash h).1 ∙ ap (not_below hash h) (sym e) ∙ c.loop-next.invariant.others

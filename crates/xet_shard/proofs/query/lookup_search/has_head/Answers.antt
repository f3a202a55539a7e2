use Rattle.std.specs.Prelude.{Vec, ◌==◌}
use Rattle.std.specs.Global.{Global}
use Rattle.std.specs.List.{list_any}
use Rattle.std.proofs.Common.{◌∙◌, ap, drop, nat_lt, Bool, ℕ}
use Rattle.std.proofs.lemmas.Result.{err_from_is_err_and}
use Rattle.xet_shard.specs.Sections.{xorb_lookup_in}
use Rattle.xet_shard.proofs.PartLaws.{fails_on_whole, goes_on}
use Rattle.xet_shard.proofs.Tables.{heads_of_all, no_heads}
use Rattle.xet_shard.proofs.query.lookup_search.has_head.Goals as goal

pub returns-in_err-items-clause-exact : goal.returns-in_err-items-clause-exact
returns-in_err-items-clause-exact g c = λ told.
    let p = err_from_is_err_and c.from_residual.result c.from_residual.ensures.1 in
    let f = c.args.f.now in
    let whole = g.R.ReadAt.bytes c.args.reader.now in (
      0,
      no_heads (λ (i : ℕ × ℕ). nat_lt i.1 c.args.row) f.xorb_lookup_num_entry (drop f.xorb_lookup_offset whole) c.if-f-eq0.true,
      rw (p.1, p.2) (fails_on_whole (λ (v : Vec (ℕ × ℕ) Global). v.items) (λ (there : Bool). there) c.in_err-items.field-0.0 (xorb_lookup_in f whole) (list_any (λ i. i.1 == c.args.row)) _ (heads_of_all f whole c.args.row 0 c.if-f-eq0.true) (c.in_err-items.ensures.exact told)),
    )

pub returns-in_ok-items-clause-exact : goal.returns-in_ok-items-clause-exact
returns-in_ok-items-clause-exact g c = λ told.
    let f = c.args.f.now in
    let whole = g.R.ReadAt.bytes c.args.reader.now in (
      0,
      no_heads (λ (i : ℕ × ℕ). nat_lt i.1 c.args.row) f.xorb_lookup_num_entry (drop f.xorb_lookup_offset whole) c.if-f-eq0.true,
      goes_on (λ (v : Vec (ℕ × ℕ) Global). v.items) (λ (there : Bool). there) c.in_ok-items.items c.has_row.result (xorb_lookup_in f whole) (list_any (λ i. i.1 == c.args.row)) _ (heads_of_all f whole c.args.row 0 c.if-f-eq0.true) (c.in_ok-items.ensures.exact told)
          (c.has_row.ensures ∙ ap (list_any (λ i. i.1 == c.args.row)) c.deref.ensures.value),
    )

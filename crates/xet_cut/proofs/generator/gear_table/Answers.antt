use Rattle.std.proofs.Common.{◌≡◌, ◌∙◌, arith, rules, length-set}
use Rattle.std.proofs.lemmas.List.FromFn.{fill_by_all}
use Rattle.std.proofs.lemmas.List.Edits.{fill_by_more}
use Rattle.xet_cut.specs.Generator.{output}
use Rattle.xet_cut.proofs.Outputs.{output_next, state_first, state_next}
use Rattle.xet_cut.proofs.generator.gear_table.Goals as goal

pub loop-i-init : goal.loop-i-init
loop-i-init c = record { len = search rules; at = state_first c.args.seed; filled = λ k below. absurd (omega arith) }

pub loop-i-preserved : goal.loop-i-preserved
loop-i-preserved c =
    let seed = c.args.seed in
    let i = c.loop-i.i in
    let value : c.mixed.result ≡ output seed i = c.mixed.ensures ∙ output_next seed i c.loop-i.state c.loop-i.invariant.at in
    record {
      len = simp length-set c.loop-i.invariant.len;
      at = state_next seed i c.loop-i.state c.loop-i.invariant.at;
      filled = rw value (fill_by_more (output seed) c.loop-i.table i 0 (omega arith) c.loop-i.invariant.filled);
    }

pub returns : goal.returns
returns c = fill_by_all (output c.args.seed) c.loop-i.table 256 0 c.loop-i.invariant.len (search rules)

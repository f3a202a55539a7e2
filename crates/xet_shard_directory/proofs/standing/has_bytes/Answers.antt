use Rattle.std.proofs.Common.{◌≤◌, ◌∙◌, ◌+◌, ◌≡◌, ℕ, List, Some, length, ap, arith, rules, subst, sym}
use Rattle.xet_io.specs.Disk.{Files, bytes_at}
use Rattle.xet_shard_directory.proofs.Comparing.{found, goes_on, long_of, part_long, whole}
use Rattle.xet_shard_directory.proofs.standing.has_bytes.Goals as goal

pub parts-preserved : goal.parts-preserved
parts-preserved g c =
    let i = c.parts.invariant in
    let n = c.min.result in
    let within : c.parts.at + n ≤ length c.args.bytes.now = search rules in
    record {
      within = within;
      same = λ told b there.
          let now = subst (λ (fs : Files). bytes_at fs c.args.path.now ≡ Some b) (sym i.files) there in
          let long = long_of (bytes_at (g.D.Disk.files c.args.disk.now) c.args.path.now) b (length c.args.bytes.now) (c.requires.length told) there in
          goes_on c.parts.at n b c.args.bytes.now within (i.same told b there)
          ((c.in-Ok-true.ensures.same (i.tells ∙ told) b now (omega (arith, part_long c.parts.at n c.args.bytes.now within, long, within))).0 c.in-Ok-true.field-0-test);
      files = search rules;
      tells = search rules;
      later = search rules;
    }

pub returns-clause-same : goal.returns-clause-same
returns-clause-same g c told =
    let there = bytes_at (g.D.Disk.files c.args.disk.now) c.args.path.now in
    let f = found there (length c.args.bytes.now) (c.requires.length told) in
    f.1 ∙ ap (λ (b : List ℕ). Some b) (whole c.parts.at f.0 c.args.bytes.now (search rules) f.2 (c.parts.invariant.same told f.0 f.1))

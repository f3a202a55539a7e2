use Rattle.std.proofs.Common.{◌≡◌, Some, sym}
use Rattle.xet_folder.specs.Xorbs.{found}
use Rattle.xet_store_disk.proofs.Runs.{listed_run, listed_small, never_listed, run_lies_in, run_not_listed}
use Rattle.xet_store_disk.proofs.store.asking.is_listed.Goals as goal

pub returns-in-Some-clause-listed : goal.returns-in-Some-clause-listed
returns-in-Some-clause-listed c =
    let xorbs = c.args.xorbs.now.entries in
    let segment = c.args.segment.now in
    let there : found xorbs segment.xorb_hash ≡ Some c.in-Some.leaves.now = sym c.in-Some.ensures.value in (
      λ is. let run = c.is_run_of.ensures.lies.0 is in listed_run xorbs c.args.count segment c.in-Some.leaves.now there run.0 run.1,
      λ run. c.is_run_of.ensures.lies.1 (run.count, run_lies_in xorbs c.args.count segment c.in-Some.leaves.now there run),
    )

pub returns-in-Some-clause-small : goal.returns-in-Some-clause-small
returns-in-Some-clause-small c = λ leaves listed. listed_small c.args.xorbs.now.entries c.args.segment.now.xorb_hash c.in-Some.leaves.now leaves (sym c.in-Some.ensures.value) c.is_run_of.ensures.small listed

pub returns-in-None-clause-listed : goal.returns-in-None-clause-listed
returns-in-None-clause-listed c = (λ is. absurd (cc is), λ run. absurd (run_not_listed c.args.xorbs.now.entries (c.args.count, c.args.segment.now) (sym c.in-None.ensures.value) run))

pub returns-in-None-clause-small : goal.returns-in-None-clause-small
returns-in-None-clause-small c = λ leaves listed. absurd (never_listed c.args.xorbs.now.entries c.args.segment.now.xorb_hash leaves (sym c.in-None.ensures.value) listed)

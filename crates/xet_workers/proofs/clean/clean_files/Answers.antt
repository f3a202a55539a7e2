use Rattle.std.proofs.Common.{◌≤◌, refl, arith}
use Rattle.xet_hash.specs.declared.error.StoreError.TheVariants.{OutOfMemory}
use Rattle.xet_workers.proofs.Outcomes.{promises_more, unbegun_promises}
use Rattle.xet_workers.proofs.clean.clean_files.Goals as goal

pub returns-in-Ok : goal.returns-in-Ok
returns-in-Ok g c =
    let few : c.min-team.result ≤ c.args.workers = omega (arith, c.min-team.ensures) in
    let p = promises_more c.min-team.result c.args.workers few g.S.Source.tells g.S.Source.left g.S.Source.faults c.args.sources.now c.clean_named.new.sources c.args.session c.clean_named.result.0 c.clean_named.result.1 c.clean_named.ensures in
    record {
      infos = p.infos;
      read = p.read;
      short = p.short;
      files = p.files;
      recorded = p.recorded;
      cleaned = p.cleaned;
      keeps = p.keeps;
      steps = p.steps;
      adds = p.adds;
      sources_tell = p.tell;
      sources_taken = p.taken;
      sources_later = p.later;
      reason = p.reason;
      bound = p.bound;
    }

pub returns-in-Err : goal.returns-in-Err
returns-in-Err g c =
    let p = unbegun_promises c.args.workers c.requires.workers.0 g.S.Source.tells g.S.Source.left g.S.Source.faults c.args.sources.now c.args.session c.args.session refl OutOfMemory refl c.recall_sound.ensures in
    record {
      infos = p.infos;
      read = p.read;
      short = p.short;
      files = p.files;
      recorded = p.recorded;
      cleaned = p.cleaned;
      keeps = p.keeps;
      steps = p.steps;
      adds = p.adds;
      sources_tell = p.tell;
      sources_taken = p.taken;
      sources_later = p.later;
      reason = p.reason;
      bound = p.bound;
    }

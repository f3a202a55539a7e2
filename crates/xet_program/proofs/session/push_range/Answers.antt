use Rattle.std.proofs.Common.{◌≡◌, ◌∙◌, ◌-◌, ℕ, List, ◌++◌, ap, arith, refl, subst, sym}
use Rattle.std.proofs.lemmas.Result.{on_ok_weaker}
use Rattle.xet_store_disk.specs.Ranges.{IsRange}
use Rattle.xet_program.specs.Report.{bytes_line}
use Rattle.xet_program.specs.internal.Steps.{IsLineRead, hash_at}
use Rattle.xet_program.proofs.Cleaned.{hash_read}
use Rattle.xet_program.proofs.session.push_range.Goals as goal

pub returns-clause-line : goal.returns-clause-line
returns-clause-line g c =
    let r = c.args.range.now in
    let info = c.index-infos-range.result in
    let bytes = c.in_ok-bytes.bytes.items in
    let hash : hash_at c.args.infos.now r.file ≡ info.hash = hash_read c.args.infos.now r.file (r.file - 1) info (omega arith) (omega arith) c.index-infos-range.is in
    let one : IsLineRead c.args.session.now.store c.args.infos.now r (bytes_line bytes) = record {
      bytes = bytes;
      read = λ told. subst (λ (h : List ℕ). IsRange c.args.session.now.store h r.from r.to bytes) (sym hash) (c.in_ok-bytes.ensures.range told);
      is = refl;
    } in
    on_ok_weaker c.push_bytes_line.result (λ e. (bytes_line bytes, one, e ∙ ap (λ (b : List ℕ). c.args.text.now.items ++ bytes_line b) c.deref.ensures.value)) c.push_bytes_line.ensures.line

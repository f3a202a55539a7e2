use Rattle.std.proofs.Common.{◌≡◌, ◌∙◌, List, length, true, sym, ap, subst}
use Rattle.std.specs.List.{AllByRecursion}
use Rattle.xet_shard_format.specs.declared.record.FileDataSequenceEntry.{FileDataSequenceEntry}
use Rattle.xet_shard_format.specs.declared.record.FileDataSequenceHeader.{FileDataSequenceHeader}
use Rattle.xet_completion_tests.proofs.tests.samples.record.Goals as goal

pub returns : goal.returns
returns c =
    let three = sym (ap length c.from_vec.ensures ∙ c.in_ok-segments.ensures.count) in
    record {
      counted = ap (λ (h : FileDataSequenceHeader). h.num_entries) c.new-2.ensures ∙ three;
      plain = subst (λ (l : List FileDataSequenceEntry). AllByRecursion (λ s. s.xorb_flags ≡ 0) l) (sym c.from_vec.ensures) c.in_ok-segments.ensures.plain;
      verified = true;
      verifications = ap length (c.from_vec-2.ensures ∙ c.in_ok-ranges.ensures.items) ∙ three;
      flags = ap (λ (h : FileDataSequenceHeader). h.file_flags) c.new-2.ensures;
    }

use Rattle.std.proofs.Common.{◌∙◌}
use Rattle.xet_codec.specs.theorems.Buffering.{flushed, flushed_prefix}
use Rattle.xet_xorb_footer.proofs.info.XorbObjectInfoV1.serialize.Goals as goal

pub returns-in_err-flush-clause-prefix : goal.returns-in_err-flush-clause-prefix
returns-in_err-flush-clause-prefix g c = λ told. flushed_prefix _ _ c.new-buffer.ensures (c.in_ok-put.ensures.puts told).moved (c.in_err-flush.ensures.prefix (c.in_ok-put.ensures.frame.tells ∙ told))

pub returns-clause-prefix : goal.returns-clause-prefix
returns-clause-prefix g c = λ told. flushed _ _ c.new-buffer.ensures (c.in_ok-put.ensures.puts told).moved (c.in_ok-flush.ensures.moved (c.in_ok-put.ensures.frame.tells ∙ told))

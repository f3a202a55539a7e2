use Rattle.std.proofs.Common.{◌∙◌, arith, inl, rules, sym}
use Rattle.xet_hash.specs.declared.error.Place.TheVariants.{Input}
use Rattle.xet_codec.specs.Stops.{StopsReading}
use Rattle.xet_xorb_chunk.specs.Taking.{TakesFailedHeader}
use Rattle.xet_base.specs.theorems.Exits.{exit_with}
use Rattle.xet_xorb_chunk.proofs.Checks.{header_in_checks, no_failure, refused_as}
use Rattle.xet_xorb_chunk.proofs.Prefixes.{failed_prefix, header_left, no_reading, taken_prefix}
use Rattle.xet_xorb_chunk.specs.theorems.Prefixes.{header_told}
use Rattle.xet_xorb_chunk.proofs.chunk_stream.deserialize_chunk_header.Goals as goal

pub returns-clause-frame : goal.returns-clause-frame
returns-clause-frame g c =
    record { tells = search rules; later = search rules; rose = λ e. absurd (no_failure c.parse_chunk_header.result Input c.parse_chunk_header.ensures.check e) }

pub returns-clause-errors : goal.returns-clause-errors
returns-clause-errors g c = λ told.
    let fills = c.in_ok-count.ensures.told told in
    refused_as StopsReading _ _
    (c.parse_chunk_header.ensures.header
    ∙ sym (header_told c.args.max_chunk c.in_ok-count.count c.read_prefix.new.buf _ _ (search rules) (omega arith) c.in_ok-count.ensures.bound fills))

pub returns-in_err-count-clause-rest : goal.returns-in_err-count-clause-rest
returns-in_err-count-clause-rest g c = λ told.
    let left = g.R.Source.left c.args.r.now in
    exit_with (TakesFailedHeader c.args.max_chunk left (g.R.Source.left c.read_prefix.new.source)) _ _ c.from_residual.ensures.1
    (record {
      consumed = failed_prefix left _ _ (c.in_err-count.ensures.told told);
      header = λ fails. absurd (no_reading _ (inl c.in_err-count.ensures.errors) (header_in_checks c.args.max_chunk left _ fails));
    })

pub returns-then-count-lt8-clause-rest : goal.returns-then-count-lt8-clause-rest
returns-then-count-lt8-clause-rest g c = λ told.
    let fills = c.in_ok-count.ensures.told told in
    record {
      consumed = taken_prefix _ _ _ fills.taken;
      header = λ _. header_left c.in_ok-count.count c.read_prefix.new.buf _ _ (search rules) c.in_ok-count.ensures.bound fills;
    }

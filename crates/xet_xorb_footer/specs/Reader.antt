-- The state of a footer reader, as definitions see it.
use Rattle.std.specs.Prelude.{ℕ, List}
use Rattle.xet_xorb_footer.specs.declared.machine.FooterReader.{FooterReader}
use Rattle.xet_xorb_footer.specs.Machine.{FooterParts, rest, room_of, wanted_of}
use Rattle.xet_codec.specs.Parsing.{Parsed}

abbrev pub footer_parts_of : FooterReader → FooterParts
footer_parts_of r = record { either = r.either; is_v1 = r.is_v1; hash = r.hash; count = r.count; hashes = r.hashes.items; ends = r.ends.items; plain = r.plain.items; spare = r.spare }

-- What reading gives from the next field on.
abbrev pub rest_of : FooterReader → List ℕ → Parsed FooterParts
rest_of r bytes = rest r.next (footer_parts_of r) bytes

abbrev pub bytes_wanted : FooterReader → ℕ
bytes_wanted r = wanted_of r.next (footer_parts_of r)

-- Maximum number of bytes left to read.
abbrev pub bytes_left : FooterReader → ℕ
bytes_left r = room_of r.next (footer_parts_of r)

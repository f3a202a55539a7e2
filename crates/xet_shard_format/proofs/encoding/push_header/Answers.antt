use Rattle.std.proofs.Common.{◌≡◌, ◌++◌, rules}
use Rattle.std.specs.Int.{w64, to_le_bytes}
use Rattle.xet_shard_format.specs.theorems.Bytes.{piece_before}
use Rattle.xet_shard_format.proofs.encoding.push_header.Goals as goal

pub returns : goal.returns
returns c =
    let e1 : c.extend_from_slice.new.self.items ≡ c.args.encoding.now.items ++ c.args.header.now.tag = search rules in
    let e2 : c.extend_from_slice-2.new.self.items ≡ c.extend_from_slice.new.self.items ++ to_le_bytes w64 c.args.header.now.version = search rules in
    let e3 : c.extend_from_slice-3.new.self.items ≡ c.extend_from_slice-2.new.self.items ++ to_le_bytes w64 c.args.header.now.footer_size = search rules in
    piece_before c.args.encoding.now.items c.extend_from_slice.new.self.items _ c.args.header.now.tag _ e1
    (piece_before c.extend_from_slice.new.self.items c.extend_from_slice-2.new.self.items _ (to_le_bytes w64 c.args.header.now.version) _ e2 e3)

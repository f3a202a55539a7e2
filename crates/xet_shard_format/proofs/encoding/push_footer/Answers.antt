use Rattle.std.proofs.Common.{◌≡◌, ◌∙◌, ◌++◌, ◌∷◌, [], ap, List, ℕ, rules}
use Rattle.std.specs.Prelude.{replicate}
use Rattle.std.specs.Int.{w64, to_le_bytes}
use Rattle.std.specs.List.{flat_map}
use Rattle.xet_shard_format.specs.theorems.Bytes.{piece_before}
use Rattle.xet_shard_format.proofs.Words.{before_rest, four_words}
use Rattle.xet_shard_format.proofs.encoding.push_footer.Goals as goal

pub returns : goal.returns
returns c =
    let t0 = c.args.encoding.now.items in let t1 = c.push_words.new.encoding.items in let t2 = c.extend_from_slice.new.self.items in
    let t3 = c.push_words-2.new.encoding.items in let t4 = c.extend_from_slice-2.new.self.items in let t5 = c.push_words-3.new.encoding.items in
    let f = c.args.f.now in
    let first : List ℕ = f.version ∷ f.file_info_offset ∷ f.xorb_info_offset ∷ f.file_lookup_offset ∷ f.file_lookup_num_entry ∷ f.xorb_lookup_offset ∷ f.xorb_lookup_num_entry ∷ f.chunk_lookup_offset ∷ f.chunk_lookup_num_entry ∷ [] in
    let times : List ℕ = f.shard_creation_timestamp ∷ f.shard_key_expiry ∷ [] in
    let e1 : t1 ≡ t0 ++ flat_map (to_le_bytes w64) first = search rules in
    let e2 : t2 ≡ t1 ++ f.chunk_hash_hmac_key = search rules in
    let e3 : t3 ≡ t2 ++ flat_map (to_le_bytes w64) times = search rules in
    let e4 : t4 ≡ t3 ++ replicate 48 0 = search rules in
    let e5 : t5 ≡ t4 ++ flat_map (to_le_bytes w64) (f.stored_bytes_on_disk ∷ f.materialized_bytes ∷ f.stored_bytes ∷ f.footer_offset ∷ []) = search rules in
    let last = e5 ∙ ap (λ (t : List ℕ). t4 ++ t) (four_words f.stored_bytes_on_disk f.materialized_bytes f.stored_bytes f.footer_offset) in
    let after_times = piece_before t2 t3 t5 _ _ e3 (piece_before t3 t4 t5 _ _ e4 last) ∙ ap (λ (t : List ℕ). t2 ++ t) (before_rest times _) in
    piece_before t0 t1 t5 _ _ e1 (piece_before t1 t2 t5 _ _ e2 after_times) ∙ ap (λ (t : List ℕ). t0 ++ t) (before_rest first _)

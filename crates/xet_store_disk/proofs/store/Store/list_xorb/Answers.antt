use Rattle.std.proofs.Common.{◌≡◌, ◌∙◌, ◌+◌, ◌*◌, ◌<◌, ◌^◌, [], ◌∷◌, ◌++◌, length, None, true, refl, sym, ap, subst}
use Rattle.xet_shard_format.specs.declared.record.MDBXorbInfo.{MDBXorbInfo}
use Rattle.xet_shard.specs.Held.{held, held_size, with_last}
use Rattle.xet_shard_format.specs.Records.{xorb_record_hash}
use Rattle.xet_folder.specs.Names.{xorb_path}
use Rattle.xet_folder.specs.Stored.{IsBacked}
use Rattle.xet_folder.specs.Xorbs.{Xorbs, found}
use Rattle.xet_store_disk.specs.Cleaning.{IsDurable}
use Rattle.xet_store_disk.specs.Store.{State}
use Rattle.xet_store_disk.proofs.Adding.{keeps_added_at, listed_at, sound_added_at}
use Rattle.xet_store_disk.proofs.Pending.{few_blocks_of, xorb_form_of}
use Rattle.xet_store_disk.specs.theorems.Staying.{keeps_unchanged, stays_same}
use Rattle.xet_store_disk.proofs.store.Store.list_xorb.Goals as goal

pub returns-in_err-reserve-clause-keeps : goal.returns-in_err-reserve-clause-keeps
returns-in_err-reserve-clause-keeps g c = keeps_unchanged _ _ c.self.invariant c.self.view_is c.reserve.ensures.entries refl refl refl

pub add_xorb_block-requires-clause-form : goal.add_xorb_block-requires-clause-form
add_xorb_block-requires-clause-form g c = xorb_form_of c.args.block c.args.hash c.args.leaves c.requires.block

pub add_xorb_block-requires-clause-few : goal.add_xorb_block-requires-clause-few
add_xorb_block-requires-clause-few g c =
    few_blocks_of c.args.block c.args.hash c.args.leaves c.requires.block c.self.inside.pending (length c.args.leaves) refl
    (subst (λ (s : State). held_size s.pending + 48 * (1 + length c.args.leaves) < 2 ^ 37) (sym c.self.view_is) c.requires.room)

pub returns-in_err-add_xorb_block-clause-keeps : goal.returns-in_err-add_xorb_block-clause-keeps
returns-in_err-add_xorb_block-clause-keeps g c = keeps_unchanged _ _ c.self.invariant c.self.view_is c.reserve.ensures.entries refl refl c.in_err-add_xorb_block.ensures.kept

pub invariant_of-self-2 : goal.invariant_of-self-2
invariant_of-self-2 g c =
    let h = c.args.hash in let leaves = c.args.leaves in
    let none : found c.self.inside.xorbs.entries h ≡ None = ap (λ (s : State). found s.xorbs h) c.self.view_is ∙ c.requires.new in
    let more = c.insert_xorb.ensures ∙ ap (λ (l : Xorbs). l ++ (h, leaves) ∷ []) c.reserve.ensures.entries in
    let pending = c.in_ok-add_xorb_block.ensures.added ∙ ap (λ (b : MDBXorbInfo). held (with_last xorb_record_hash c.self.inside.pending.blocks b) c.self.inside.pending.files) c.requires.block in
    sound_added_at _ h leaves _ _ _ (stays_same _) c.self.invariant more pending none c.requires.named.0 c.recall_invariant.ensures
    (subst (λ (s : State). s.tells ≡ true → IsBacked s.files s.folder h leaves) (sym c.self.view_is) c.requires.backed) (λ told k is. refl)

pub returns-clause-keeps : goal.returns-clause-keeps
returns-clause-keeps g c =
    let h = c.args.hash in let leaves = c.args.leaves in
    let more = c.insert_xorb.ensures ∙ ap (λ (l : Xorbs). l ++ (h, leaves) ∷ []) c.reserve.ensures.entries in
    let pending = c.in_ok-add_xorb_block.ensures.added ∙ ap (λ (b : MDBXorbInfo). held (with_last xorb_record_hash c.self.inside.pending.blocks b) c.self.inside.pending.files) c.requires.block in
    keeps_added_at _ h leaves _ _ _ (stays_same _) c.self.invariant more pending
    (subst (λ (s : State). s.tells ≡ true → IsDurable s.files (xorb_path s.folder h)) (sym c.self.view_is) c.requires.durable) _ c.self.view_is

pub returns-clause-listed : goal.returns-clause-listed
returns-clause-listed g c =
    let h = c.args.hash in let leaves = c.args.leaves in
    let none : found c.self.inside.xorbs.entries h ≡ None = ap (λ (s : State). found s.xorbs h) c.self.view_is ∙ c.requires.new in
    listed_at c.self.inside.xorbs.entries _ h leaves (c.insert_xorb.ensures ∙ ap (λ (l : Xorbs). l ++ (h, leaves) ∷ []) c.reserve.ensures.entries) none

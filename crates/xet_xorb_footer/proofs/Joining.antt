-- What is read of a footer and of its length, one field after the other.
use Rattle.std.proofs.Common.{◌≡◌, ◌∙◌, ℕ, zero, suc, ◌+◌, ◌-◌, ◌<◌, ◌⊎◌, ◌==◌, Bool, true, false, List, [], ◌++◌, Result, Ok, Err, ap, append_assoc, arith, drop, inl, inr, length, length-append, refl, subst, sym, take}
use Rattle.std.proofs.lemmas.Bool.{eq-eqb, ne_eqb}
use Rattle.std.proofs.lemmas.List.{take-append-drop}
use Rattle.std.specs.Int.{w32, from_le_bytes}
use Rattle.xet_hash.specs.declared.error.Reason.TheVariants.{InfoLength, TrailingBytes}
use Rattle.xet_hash.specs.declared.error.StoreError.{StoreError}
use Rattle.xet_hash.specs.declared.error.StoreError.TheVariants.{MalformedData, OutOfMemory, UnexpectedEof}
use Rattle.xet_xorb_footer.specs.declared.decoder.Joined.{Joined}
use Rattle.xet_xorb_footer.specs.declared.info.XorbObjectInfoV1.{XorbObjectInfoV1}
use Rattle.xet_xorb_footer.specs.declared.machine.Field.{Field}
use Rattle.xet_xorb_footer.specs.declared.machine.Field.TheVariants as fields
use Rattle.xet_xorb_footer.specs.Ends.{whole_footer}
use Rattle.xet_xorb_footer.specs.Joining.{IsReady, ends_with, is_done, rest_whole, wanted_next}
use Rattle.xet_xorb_footer.specs.internal.Joining.{IsTotal, ReadsUpTo, Stops}
use Rattle.xet_xorb_footer.specs.internal.Machine.{IsIncomplete, as_value}
use Rattle.xet_xorb_footer.specs.Machine.{FooterParts, info_of_parts, wanted_of}
use Rattle.xet_xorb_footer.specs.Reader.{bytes_wanted, footer_parts_of, rest_of}
use Rattle.xet_codec.specs.Parsing.{◌>>=◌, Parsed, wants}
use Rattle.xet_xorb_footer.specs.Reading.{footer_at}
use Rattle.xet_xorb_footer.specs.theorems.Prefixes.{bind_bind, number_short, number_whole, pick_false, pick_true}
use Rattle.xet_xorb_footer.proofs.Known.{nothing_wanted}
use Rattle.xet_xorb_footer.proofs.Shorts.{rest_short, whole}

-- ---- no field is left

done_is : (f : Field) → is_done f ≡ true → f ≡ fields.Done
done_is fields.Ident e = absurd cc
done_is fields.Version e = absurd cc
done_is fields.Hash e = absurd cc
done_is fields.HashesIdent e = absurd cc
done_is fields.HashesVersion e = absurd cc
done_is fields.Count e = absurd cc
done_is fields.Hashes e = absurd cc
done_is fields.BoundariesIdent e = absurd cc
done_is fields.BoundariesVersion e = absurd cc
done_is fields.CountAgain e = absurd cc
done_is fields.Ends e = absurd cc
done_is fields.PlainEnds e = absurd cc
done_is fields.CountLast e = absurd cc
done_is fields.HashesOffset e = absurd cc
done_is fields.BoundaryOffset e = absurd cc
done_is fields.Spare e = absurd cc
done_is fields.Done e = refl

pub settled_is : (f : Field) (p : FooterParts) → IsIncomplete f p → wanted_of f p ≡ 0 → is_done f ≡ true
settled_is f p settled none = ap is_done (nothing_wanted f p settled none)

pub all_read : (j : Joined) → IsReady j → bytes_wanted j.footer ≡ 0 → (bytes : List ℕ) → rest_of j.footer bytes ≡ Ok (footer_parts_of j.footer, bytes)
all_read j ready none bytes = whole j.footer.next (footer_parts_of j.footer) bytes (done_is j.footer.next (ready.settled none))

-- ---- what reading does

in_fields : (j : Joined) (total : ℕ) (bytes : List ℕ) → j.ended ≡ false → rest_whole j total bytes ≡ (rest_of j.footer bytes >>= λ x. ends_with (info_of_parts x.0) total x.1)
unfolding rest_whole
in_fields j total bytes e = pick_false j.ended _ _ e

pub at_end : (j : Joined) (total : ℕ) (bytes : List ℕ) → j.ended ≡ true → rest_whole j total bytes ≡ (wants (length bytes == 0) TrailingBytes >>= λ _. Ok (info_of_parts (footer_parts_of j.footer), j.count))
unfolding rest_whole
at_end j total bytes e = pick_true j.ended _ _ e

-- ---- a field of the footer

pub field_read : (old new : Joined) (field : List ℕ) → old.ended ≡ false → new.ended ≡ false → new.count ≡ old.count + length field → ((more : List ℕ) → rest_of old.footer (field ++ more) ≡ rest_of new.footer more) → ReadsUpTo old new field []
field_read old new field was is count reads =
    record {
      moved = λ more total all. in_fields old total (field ++ more) was ∙ ap (λ (r : Parsed FooterParts). r >>= λ x. ends_with (info_of_parts x.0) total x.1) (reads more) ∙ sym (in_fields new total more is);
      count = λ e. (was, omega arith);
    }

pub field_stops : (old : Joined) (field : List ℕ) (e : StoreError) → old.ended ≡ false → (e ≡ OutOfMemory) ⊎ ((more : List ℕ) → rest_of old.footer (field ++ more) ≡ Err e) → Stops old field e
field_stops old field e was (inl memory) = inl memory
field_stops old field e was (inr fails) = inr (λ more total all. in_fields old total (field ++ more) was ∙ ap (λ (r : Parsed FooterParts). r >>= λ x. ends_with (info_of_parts x.0) total x.1) (fails more))

-- ---- the length

-- a length and what is behind it
length_then : XorbObjectInfoV1 → ℕ → ℕ → Result (ℕ × List ℕ) StoreError → Result (XorbObjectInfoV1 × ℕ) StoreError
length_then info total here read = read >>= λ n. wants (n.0 == total - here) InfoLength >>= λ _. wants (length n.1 == 0) TrailingBytes >>= λ _. Ok (info, n.0)

-- the same of a length that was read
length_is : XorbObjectInfoV1 → ℕ → List ℕ → Bool → Result (XorbObjectInfoV1 × ℕ) StoreError
length_is info n more fits = wants fits InfoLength >>= λ _. wants (length more == 0) TrailingBytes >>= λ _. Ok (info, n)

at_length : (j : Joined) (total : ℕ) (field more : List ℕ) → j.ended ≡ false → ((bytes : List ℕ) → rest_of j.footer bytes ≡ Ok (footer_parts_of j.footer, bytes)) → length field ≡ 4 → total ≡ j.count + length (field ++ more)
    → rest_whole j total (field ++ more) ≡ length_is (info_of_parts (footer_parts_of j.footer)) (from_le_bytes w32 field) more (from_le_bytes w32 field == j.count)
unfolding length_then length_is
at_length j total field more was done len all =
    let info : XorbObjectInfoV1 = info_of_parts (footer_parts_of j.footer) in
    let n : ℕ = from_le_bytes w32 field in
    let here : total - length (field ++ more) ≡ j.count = omega arith in
    in_fields j total (field ++ more) was ∙ ap (λ (r : Parsed FooterParts). r >>= λ x. ends_with (info_of_parts x.0) total x.1) (done (field ++ more))
    ∙ ap (length_then info total (length (field ++ more))) (number_whole field more len) ∙ ap (λ (k : ℕ). length_is info n more (n == k)) here

pub length_read : (old new : Joined) (field : List ℕ) → old.ended ≡ false → new.ended ≡ true → new.count ≡ old.count → footer_parts_of new.footer ≡ footer_parts_of old.footer → ((bytes : List ℕ) → rest_of old.footer bytes ≡ Ok (footer_parts_of old.footer, bytes))
    → length field ≡ 4 → from_le_bytes w32 field ≡ old.count → ReadsUpTo old new field []
unfolding length_is
length_read old new field was is count parts done len same =
    record {
      moved = λ more total all.
          at_length old total field more was done len (all was)
          ∙ ap (length_is (info_of_parts (footer_parts_of old.footer)) (from_le_bytes w32 field) more) (eq-eqb (from_le_bytes w32 field) old.count same)
          ∙ ap (λ (k : ℕ). wants (length more == 0) TrailingBytes >>= λ _. Ok (info_of_parts (footer_parts_of old.footer), k)) (same ∙ sym count)
          ∙ ap (λ (p : FooterParts). wants (length more == 0) TrailingBytes >>= λ _. Ok (info_of_parts p, new.count)) (sym parts)
          ∙ sym (at_end new total more is);
      count = λ e. absurd cc;
    }

pub length_stops : (old : Joined) (field : List ℕ) → old.ended ≡ false → ((bytes : List ℕ) → rest_of old.footer bytes ≡ Ok (footer_parts_of old.footer, bytes)) → length field ≡ 4 → (from_le_bytes w32 field == old.count) ≡ false
    → Stops old field (MalformedData InfoLength)
unfolding length_is
length_stops old field was done len off = inr (λ more total all. at_length old total field more was done len (all was) ∙ ap (length_is (info_of_parts (footer_parts_of old.footer)) (from_le_bytes w32 field) more) off)

-- ---- a byte behind it

pub behind_stops : (old : Joined) (field : List ℕ) → old.ended ≡ true → length field ≡ 1 → Stops old field (MalformedData TrailingBytes)
behind_stops old field was len =
    inr (λ more total all.
    at_end old total (field ++ more) was
    ∙ ap (λ (b : Bool). wants b TrailingBytes >>= λ _. Ok (info_of_parts (footer_parts_of old.footer), old.count)) (ne_eqb (length (field ++ more)) 0 (λ none. omega (arith, length-append field more))))

-- ---- one after the other

pub reads_none : (j : Joined) (bytes : List ℕ) → ReadsUpTo j j bytes bytes
reads_none j bytes = record { moved = λ more total all. refl; count = λ e. (e, refl) }

total_on : {a b : Joined} {x y : List ℕ} → ReadsUpTo a b x y → (more : List ℕ) (total : ℕ) → IsTotal a (x ++ more) total → IsTotal b (y ++ more) total
total_on {a} {b} {x} {y} r more total all = λ e. let both = r.count e in omega (arith, all both.0, both.1, length-append x more, length-append y more)

pub reads_then : {a b c : Joined} {x y z : List ℕ} → ReadsUpTo a b x y → ReadsUpTo b c y z → ReadsUpTo a c x z
reads_then r s =
    record {
      moved = λ more total all. r.moved more total all ∙ s.moved more total (total_on r more total all);
      count = λ e. let u = s.count e in let v = r.count u.0 in (v.0, omega (arith, u.1, v.1));
    }

pub stops_then : {a b : Joined} {x y : List ℕ} (e : StoreError) → ReadsUpTo a b x y → Stops b y e → Stops a x e
stops_then e r (inl memory) = inl memory
stops_then e r (inr fails) = inr (λ more total all. r.moved more total all ∙ fails more total (total_on r more total all))

total_apart : (j : Joined) (x z more : List ℕ) (total : ℕ) → IsTotal j ((x ++ z) ++ more) total → IsTotal j (x ++ (z ++ more)) total
total_apart j x z more total all = λ e. all e ∙ ap (λ (b : List ℕ). j.count + length b) (append_assoc x z more)

pub reads_behind : {a b : Joined} {x y : List ℕ} (z : List ℕ) → ReadsUpTo a b x y → ReadsUpTo a b (x ++ z) (y ++ z)
reads_behind {a} {b} {x} {y} z r =
    record {
      moved = λ more total all.
          ap (rest_whole a total) (append_assoc x z more) ∙ r.moved (z ++ more) total (total_apart a x z more total all) ∙ ap (rest_whole b total) (sym (append_assoc y z more));
      count = λ e. let u = r.count e in (u.0, omega (arith, u.1, length-append x z, length-append y z));
    }

pub stops_behind : (a : Joined) (x : List ℕ) (e : StoreError) (z : List ℕ) → Stops a x e → Stops a (x ++ z) e
stops_behind a x e z (inl memory) = inl memory
stops_behind a x e z (inr fails) = inr (λ more total all. ap (rest_whole a total) (append_assoc x z more) ∙ fails (z ++ more) total (total_apart a x z more total all))

-- ---- too few bytes

pub short_rest : (n : ℕ) (j : Joined) (total : ℕ) (bytes : List ℕ) → bytes_wanted j.footer ≡ n → j.ended ≡ false → IsReady j → length bytes < wanted_next false n → rest_whole j total bytes ≡ Err UnexpectedEof
unfolding length_then
short_rest zero j total bytes none was ready few =
    in_fields j total bytes was ∙ ap (λ (r : Parsed FooterParts). r >>= λ x. ends_with (info_of_parts x.0) total x.1) (all_read j ready none bytes)
    ∙ ap (length_then (info_of_parts (footer_parts_of j.footer)) total (length bytes)) (number_short bytes few)
short_rest (suc n) j total bytes some was ready few =
    in_fields j total bytes was
    ∙ ap (λ (r : Parsed FooterParts). r >>= λ x. ends_with (info_of_parts x.0) total x.1) (rest_short j.footer.next (footer_parts_of j.footer) bytes (omega (arith, some)))

-- ---- the start

pub starts : (j : Joined) → j.ended ≡ false → ((bytes : List ℕ) → as_value info_of_parts (rest_of j.footer bytes) ≡ footer_at bytes) → (bytes : List ℕ) → whole_footer bytes ≡ rest_whole j (length bytes) bytes
unfolding whole_footer
starts j was reads bytes =
    ap (λ (r : Parsed XorbObjectInfoV1). r >>= λ x. ends_with x.0 (length bytes) x.1) (sym (reads bytes))
    ∙ bind_bind (rest_of j.footer bytes) (λ x. Ok (info_of_parts x.0, x.1)) (λ x. ends_with x.0 (length bytes) x.1) ∙ sym (in_fields j (length bytes) bytes was)

-- ---- bytes that are spelled otherwise

pub reads_as : {a b : Joined} {x y : List ℕ} (z w : List ℕ) → x ≡ z → y ≡ w → ReadsUpTo a b x y → ReadsUpTo a b z w
reads_as {a} {b} {x} {y} z w prefix back r = subst (λ (v : List ℕ). ReadsUpTo a b v w) prefix (subst (λ (v : List ℕ). ReadsUpTo a b x v) back r)

pub filled : (held piece now : List ℕ) (n : ℕ) → now ≡ held ++ take n piece → now ++ drop n piece ≡ held ++ piece
filled held piece now n is = ap (λ (b : List ℕ). b ++ drop n piece) is ∙ append_assoc held (take n piece) (drop n piece) ∙ ap (λ (b : List ℕ). held ++ b) (take-append-drop n piece)

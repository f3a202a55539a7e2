-- Pieces of a footer and its length that are joined.
use Rattle.std.proofs.Common.{◌≡◌, ◌∙◌, ℕ, ◌<◌, Bool, true, false, List, [], ◌++◌, Ok, Err, ap, append_assoc, arith, inl, inr, length, length-append, refl, subst, sym}
use Rattle.std.proofs.lemmas.List.{append-nil, nil_from_length}
use Rattle.xet_hash.specs.declared.error.StoreError.{StoreError}
use Rattle.xet_hash.specs.declared.error.StoreError.TheVariants.{UnexpectedEof}
use Rattle.xet_xorb_footer.specs.declared.decoder.InfoDecoder.{InfoDecoder}
use Rattle.xet_xorb_footer.specs.Decoder.{WasFedFooter, FailsPart}
use Rattle.xet_xorb_footer.specs.Ends.{whole_footer}
use Rattle.xet_xorb_footer.specs.Joining.{IsReady, joined_wanted, rest_whole, wanted_next}
use Rattle.xet_xorb_footer.specs.internal.Joining.{IsTotal, ReadsUpTo, Stops}
use Rattle.xet_xorb_footer.specs.Machine.{info_of_parts}
use Rattle.xet_xorb_footer.specs.Reader.{bytes_wanted, footer_parts_of}
use Rattle.xet_xorb_footer.proofs.Joining.{at_end, short_rest}

pub holds_none : (d : InfoDecoder) → d.held.items ≡ [] → d.joined.count ≡ 0 → ((bytes : List ℕ) → whole_footer bytes ≡ rest_whole d.joined (length bytes) bytes) → WasFedFooter d []
holds_none d none count starts =
    record {
      rest = λ more. starts more ∙ ap (λ (b : List ℕ). rest_whole d.joined (length more) (b ++ more)) (sym none);
      count = λ e. sym (omega (arith, ap length none));
    }

-- a piece more
goes_on : (d : InfoDecoder) (piece bytes more : List ℕ) → WasFedFooter d bytes → whole_footer ((bytes ++ piece) ++ more) ≡ rest_whole d.joined (length ((bytes ++ piece) ++ more)) ((d.held.items ++ piece) ++ more)
goes_on d piece bytes more h =
    ap whole_footer (append_assoc bytes piece more) ∙ h.rest (piece ++ more)
    ∙ ap (λ (b : List ℕ). rest_whole d.joined (length b) (d.held.items ++ (piece ++ more))) (sym (append_assoc bytes piece more))
    ∙ ap (rest_whole d.joined (length ((bytes ++ piece) ++ more))) (sym (append_assoc d.held.items piece more))

counted : (d : InfoDecoder) (piece bytes more : List ℕ) → WasFedFooter d bytes → IsTotal d.joined ((d.held.items ++ piece) ++ more) (length ((bytes ++ piece) ++ more))
counted d piece bytes more h = λ e.
    omega (arith, h.count e, length-append (bytes ++ piece) more, length-append bytes piece, length-append (d.held.items ++ piece) more, length-append d.held.items piece)

pub fed_more : (old new : InfoDecoder) (piece bytes : List ℕ) → ReadsUpTo old.joined new.joined (old.held.items ++ piece) new.held.items → WasFedFooter old bytes → WasFedFooter new (bytes ++ piece)
fed_more old new piece bytes r h =
    record {
      rest = λ more. goes_on old piece bytes more h ∙ r.moved more (length ((bytes ++ piece) ++ more)) (counted old piece bytes more h);
      count = λ e. let u = r.count e in omega (arith, u.1, h.count u.0, length-append bytes piece, length-append old.held.items piece);
    }

pub refused_more : (old : InfoDecoder) (piece : List ℕ) (e : StoreError) → Stops old.joined (old.held.items ++ piece) e → FailsPart old piece e
refused_more old piece e (inl memory) = inl memory
refused_more old piece e (inr fails) = inr (λ bytes more h. goes_on old piece bytes more h ∙ fails more (length ((bytes ++ piece) ++ more)) (counted old piece bytes more h))

-- ---- the end

nothing_more : (d : InfoDecoder) (bytes : List ℕ) → WasFedFooter d bytes → whole_footer bytes ≡ rest_whole d.joined (length (bytes ++ [])) d.held.items
nothing_more d bytes h = ap whole_footer (sym (append-nil bytes)) ∙ h.rest [] ∙ ap (rest_whole d.joined (length (bytes ++ []))) (append-nil d.held.items)

pub ends_whole : (d : InfoDecoder) (bytes : List ℕ) → d.joined.ended ≡ true → length d.held.items < joined_wanted d.joined → WasFedFooter d bytes → whole_footer bytes ≡ Ok (info_of_parts (footer_parts_of d.joined.footer), d.joined.count)
ends_whole d bytes ended short h =
    let few : length d.held.items < 1 = subst (λ (b : Bool). length d.held.items < wanted_next b (bytes_wanted d.joined.footer)) ended short in
    let none : d.held.items ≡ [] = nil_from_length d.held.items (omega arith) in
    nothing_more d bytes h ∙ ap (rest_whole d.joined (length (bytes ++ []))) none ∙ at_end d.joined (length (bytes ++ [])) [] ended

pub ends_short : (d : InfoDecoder) (bytes : List ℕ) → d.joined.ended ≡ false → IsReady d.joined → length d.held.items < joined_wanted d.joined → WasFedFooter d bytes → whole_footer bytes ≡ Err UnexpectedEof
ends_short d bytes ended ready short h =
    let few : length d.held.items < wanted_next false (bytes_wanted d.joined.footer) = subst (λ (b : Bool). length d.held.items < wanted_next b (bytes_wanted d.joined.footer)) ended short in
    nothing_more d bytes h ∙ short_rest (bytes_wanted d.joined.footer) d.joined (length (bytes ++ [])) d.held.items refl ended ready few

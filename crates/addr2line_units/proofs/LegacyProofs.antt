-- That the relation of a legacy name and its text, and the function, agree.
use Rattle.addr2line_units.proofs.Common.{◌≡◌, ◌∙◌, ◌<◌, ℕ, true, Some, List, [], ◌∷◌, ◌++◌, length, ap, sym, subst, arith, Contains, byte, without_llvm, without_prefix, element_at, elements_at, without_hash, element_text, elements_text, suffix_at, spelled_text, legacy_text, demangled, same_Some}
use Rattle.std.specs.Prelude.{◌==◌, option_and_then, option_map, map}
use Rattle.std.proofs.lemmas.Bool.{eqb-true}
use Rattle.addr2line_units.proofs.LegacySteps.{elements_some}
use Rattle.addr2line_units.proofs.LegacyMarks.{kept_is, kept_only, prefix_found, prefix_read, shown_are, shown_only, suffix_found, suffix_read}
use Rattle.addr2line_units.proofs.LegacyElements.{elements_are, elements_read, element_read}
use Rattle.addr2line_units.proofs.LegacyPlain.{texts_are, texts_only}
use Rattle.addr2line_units.specs.LegacyName.{IsLegacyName, prefixes, is_suffix, joined}
use Rattle.addr2line_units.specs.LegacyElements.{AreElements}
use Rattle.addr2line_units.specs.LegacyLaws.{FindsLegacyNames, FindsOnlyLegacyNames, HasOneText}
use Rattle.addr2line_units.proofs.Facts.{map_some, some_if, then_some}

-- what the function finds is a legacy name and its text
text_is : (name text : List ℕ) → legacy_text name ≡ Some text → IsLegacyName name text
unfolding legacy_text spelled_text elements_text
text_is name text h =
    let tail : (spelled : List ℕ) × (without_prefix (without_llvm name) ≡ Some spelled) × (spelled_text spelled ≡ Some text) = then_some _ _ _ h in
    let start : (p : List ℕ) × Contains prefixes p × (without_llvm name ≡ p ++ tail.0) = prefix_found (without_llvm name) tail.0 tail.1 in
    let first : (e : List ℕ × List ℕ) × (element_at tail.0 ≡ Some e) × (option_map (λ suffix. elements_text tail.0 ++ suffix) (suffix_at (elements_at tail.0).1) ≡ Some text) = then_some _ _ _ tail.2 in
    let end : (suffix : List ℕ) × (suffix_at (elements_at tail.0).1 ≡ Some suffix) × (elements_text tail.0 ++ suffix ≡ text) = map_some _ _ _ first.2 in
    let closed : ((elements_at tail.0).1 ≡ byte "E" ∷ end.0) × (is_suffix end.0 ≡ true) = suffix_found (elements_at tail.0).1 end.0 end.1 in
    let one : (elements_at tail.0).0 ≡ first.0.0 ∷ (elements_at first.0.1).0 = ap (λ p. p.0) (elements_some tail.0 first.0.0 first.0.1 first.1) in
    record {
      kept = without_llvm name;
      prefix = start.0;
      spelled = tail.0;
      elements = (elements_at tail.0).0;
      shown = without_hash (elements_at tail.0).0;
      texts = map element_text (without_hash (elements_at tail.0).0);
      suffix = end.0;
      is_kept = kept_is name;
      is_prefix = start.1;
      whole = start.2;
      are_elements = subst (AreElements (elements_at tail.0).0 tail.0) closed.0 (elements_are tail.0);
      some = subst (λ es. 0 < length es) (sym one) (omega arith);
      are_shown = shown_are (elements_at tail.0).0;
      are_texts = texts_are (without_hash (elements_at tail.0).0);
      may_follow = closed.1;
      is_text = sym end.2;
    }

first_of_elements : (elements : List (List ℕ)) (text rest : List ℕ) → 0 < length elements → AreElements elements text rest
    → (e : List ℕ × List ℕ) × (element_at text ≡ Some e)
first_of_elements [] text rest pos h = absurd (omega arith)
first_of_elements (e ∷ es) text rest pos h = ((e, h.1), ap element_at h.3 ∙ element_read h.0 e h.1 h.2)

-- the function finds the text of a legacy name
text_found : (name text : List ℕ) → IsLegacyName name text → legacy_text name ≡ Some text
unfolding legacy_text spelled_text elements_text
text_found name text n =
    let kept : without_llvm name ≡ n.prefix ++ n.spelled = sym (kept_only name n.kept n.is_kept) ∙ n.whole in
    let read : elements_at n.spelled ≡ (n.elements, byte "E" ∷ n.suffix) = elements_read n.elements n.spelled n.suffix n.are_elements in
    let first : (e : List ℕ × List ℕ) × (element_at n.spelled ≡ Some e) = first_of_elements n.elements n.spelled (byte "E" ∷ n.suffix) n.some n.are_elements in
    let shown : map element_text (without_hash n.elements) ≡ n.texts = ap (λ es. map element_text es) (sym (shown_only n.elements n.shown n.are_shown)) ∙ sym (texts_only n.shown n.texts n.are_texts) in
    ap (λ s. option_and_then spelled_text (without_prefix s)) kept
    ∙ ap (λ o. option_and_then spelled_text o) (prefix_read n.prefix n.spelled n.is_prefix)
    ∙ ap (λ o. option_and_then (λ _. option_map (λ suffix. elements_text n.spelled ++ suffix) (suffix_at (elements_at n.spelled).1)) o) first.1
    ∙ ap (λ p. option_map (λ suffix. joined (map element_text (without_hash p.0)) ++ suffix) (suffix_at p.1)) read
    ∙ ap (λ o. option_map (λ suffix. joined (map element_text (without_hash n.elements)) ++ suffix) o) (suffix_read n.suffix n.may_follow)
    ∙ ap (λ ts. Some (joined ts ++ n.suffix)) shown
    ∙ ap (λ s. Some s) (sym n.is_text)

pub finds_names : FindsLegacyNames
unfolding demangled
finds_names name text n = text_found name text n

pub finds_only_names : FindsOnlyLegacyNames
unfolding demangled
finds_only_names language name text h =
    let chosen : ((language == 0x1c) ≡ true) × (legacy_text name ≡ Some text) = some_if _ _ _ h in
    (eqb-true language 0x1c chosen.0, text_is name text chosen.1)

pub has_one_text : HasOneText
has_one_text name text other a b = same_Some text other (sym (text_found name text a) ∙ text_found name other b)

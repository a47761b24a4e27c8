-- Names that take no memory (on specs/PlainNames.antt).
use Rattle.addr2line_c.proofs.Common.{◌≡◌, ◌++◌, ◌∷◌, ℕ, List, [], Some, None, Result, Ok, Err, option_map, sym, subst, Error, ExactlyUnlessOom, frames_left}
use Rattle.std.specs.Prelude.{IfOk, IsOk}
use Rattle.std.specs.List.{AllByRecursion}
use Rattle.rust_v0.specs.Name.{without_llvm, without_prefix}
use Rattle.addr2line_units.specs.declared.frames.FrameIter.{FrameIter}
use Rattle.addr2line_units.specs.EntriesFrames.{FramesResult}
use Rattle.addr2line_units.specs.Frames.{FrameRecord, NameRecord}
use Rattle.addr2line_units.specs.FramesLent.{raw_text}
use Rattle.addr2line_units.specs.LegacyText.{demangled_auto}
use Rattle.addr2line_c.specs.PlainNames.{AreNamedPlain, HasPlainName, IsPlainName}

-- the text of a plain name is none of a legacy name
pub plain_legacy : (n : NameRecord) (text : List ℕ) → IsPlainName n → text ≡ raw_text n
    → demangled_auto (option_map (λ l. l.0) n.language) text ≡ None
plain_legacy n text plain is =
    subst (λ t. demangled_auto (option_map (λ l. l.0) n.language) t ≡ None) (sym is) plain.legacy

-- nor does it begin as a v0 name
pub plain_v0 : (n : NameRecord) (text : List ℕ) → IsPlainName n → text ≡ raw_text n
    → without_prefix (without_llvm text) ≡ None
plain_v0 n text plain is = subst (λ t. without_prefix (without_llvm t) ≡ None) (sym is) plain.v0

-- what had memory isn't refused
pub ok_no_refusal : {X E : Type 0} (r : Result X E) (e : E) → r ≡ Err e → IsOk r → ⊥
ok_no_refusal (Ok x) e is ok = absurd cc
ok_no_refusal (Err f) e is ok = absurd cc

-- where all frames have plain names, so has one among them
pub one_plain : (all done left : List FrameRecord) (f : FrameRecord) → done ++ f ∷ left ≡ all
    → AllByRecursion HasPlainName all → HasPlainName f
one_plain all done left f is plain = among done (subst (AllByRecursion HasPlainName) (sym is) plain)
  where
    among : (before : List FrameRecord) → AllByRecursion HasPlainName (before ++ f ∷ left) → HasPlainName f
    among [] h = h.0
    among (x ∷ before) h = among before h.1

-- the frames that were found have plain names, where those that are given have
pub found_plain : {R : Type 0} (found : Result (FrameIter R) Error) (given : FramesResult)
    → ExactlyUnlessOom (λ (i : FrameIter R). Some (frames_left i)) found given → AreNamedPlain given
    → IfOk found (λ i. AllByRecursion HasPlainName (frames_left i))
found_plain (Ok frames) given is plain = subst AreNamedPlain is plain
found_plain (Err e) given is plain = tt

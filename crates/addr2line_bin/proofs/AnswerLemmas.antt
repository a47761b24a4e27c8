-- What files answer after lookups.
use Rattle.addr2line_bin.proofs.Common.{◌∙◌, ℕ, Bool, true, false, List, Option, Some, None, ap, option_map, refl, FileAnswers, StaysAnswered, ProbeAnswer, GivesFrames, GivesLocation, IsAnswerAt, IsText, MayBeGiven, asked_symbol, looked_up}
use Rattle.addr2line_bin.specs.declared.options.RunContext.{RunContext}
use Rattle.addr2line_bin.specs.declared.options.Style.{Style}
use Rattle.addr2line_bin.specs.FrameTexts.{symbol_name}
use Rattle.addr2line_bin.specs.JsonTexts.{json_line}
use Rattle.addr2line_bin.specs.Print.{ProbeText}
use Rattle.addr2line_bin.specs.ProbeTexts.{IsLines, IsObjectAt, IsTextBy}
use Rattle.addr2line_bin.proofs.PrintingLemmas.{Weaker}

pub stays_itself : (a : FileAnswers) → StaysAnswered a a
stays_itself a = record {
  locations = λ address found h. h;
  frames = λ address given h. h;
  symbol_at = refl;
  section_at = refl;
  spans_in = refl;
}

pub stays_on : (a b c : FileAnswers) → StaysAnswered a b → StaysAnswered b c → StaysAnswered a c
stays_on a b c p q = record {
  locations = λ address found h. p.locations address found (q.locations address found h);
  frames = λ address given h. p.frames address given (q.frames address given h);
  symbol_at = q.symbol_at ∙ p.symbol_at;
  section_at = q.section_at ∙ p.section_at;
  spans_in = q.spans_in ∙ p.spans_in;
}

may_before : (a b : FileAnswers) → StaysAnswered a b → (style : Style) (address : ℕ) (given : ProbeAnswer) → MayBeGiven b style address given → MayBeGiven a style address given
may_before a b st style address (GivesLocation found) h = (h.0, st.locations address found h.1)
may_before a b st style address (GivesFrames frames symbol) h = (h.0, st.frames address frames h.1, h.2 ∙ ap (λ f. asked_symbol style (f address)) st.symbol_at)

answer_before : (a b : FileAnswers) → StaysAnswered a b → (s : RunContext) (address : Option ℕ) (found fault : List ℕ) → IsAnswerAt b s address found fault → IsAnswerAt a s address found fault
answer_before a b st s None found fault h = h
answer_before a b st s (Some address) found fault h = (h.0, may_before a b st s.style address h.0 h.1, h.2, h.3)

object_before : (a b : FileAnswers) → StaysAnswered a b → (s : RunContext) (probe address : Option ℕ) (t : ProbeText) → IsObjectAt b s probe address t → IsObjectAt a s probe address t
object_before a b st s probe None t h = h
object_before a b st s probe (Some address) t h =
    (h.0, st.frames address h.0 h.1, h.2 ∙ ap (λ f. json_line s.style probe (option_map (symbol_name s.style) (f address)) h.0) st.symbol_at, h.3)

lines_before : (a b : FileAnswers) → StaysAnswered a b → (s : RunContext) (probe : Option ℕ) (t : ProbeText) → IsLines b s probe t → IsLines a s probe t
lines_before a b st s probe t h = record {
  found = h.found;
  fault = h.fault;
  given = answer_before a b st s (looked_up s.section probe) h.found h.fault h.given;
  out = h.out;
  err = h.err;
}

text_by_before : (json : Bool) (a b : FileAnswers) → StaysAnswered a b → (s : RunContext) (probe : Option ℕ) (t : ProbeText) → IsTextBy json b s probe t → IsTextBy json a s probe t
text_by_before true a b st s probe t h = object_before a b st s probe (looked_up s.section probe) t h
text_by_before false a b st s probe t h = lines_before a b st s probe t h

-- a text after lookups could be one before
pub text_before : (a b : FileAnswers) → StaysAnswered a b → (s : RunContext) → Weaker (IsText b s) (IsText a s)
text_before a b st s p t h = text_by_before s.style.json a b st s p t h

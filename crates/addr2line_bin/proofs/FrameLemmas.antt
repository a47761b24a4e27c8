-- Frames that are added one after another.
use Rattle.addr2line_bin.proofs.Common.{◌≡◌, ◌∙◌, ℕ, List, ◌∷◌, ◌++◌, Option, ap, append_assoc}
use Rattle.addr2line_units.specs.Frames.{FrameRecord}
use Rattle.addr2line_bin.specs.declared.options.Style.{Style}
use Rattle.addr2line_bin.specs.FrameTexts.{caller_mark, callers_text, frame_text, symbol_before}

-- a frame is added, and the others are left
pub caller_more : (style : Style) (symbol shown : Option (List ℕ)) (f : FrameRecord) (rest : List FrameRecord) (text new total : List ℕ) → text ++ callers_text style symbol (f ∷ rest) ≡ total
    → shown ≡ symbol_before symbol rest → new ≡ text ++ (caller_mark style ++ frame_text style shown f) → new ++ callers_text style symbol rest ≡ total
caller_more style symbol shown f rest text new total inv last e =
    rw (e, last)
    (append_assoc text (caller_mark style ++ frame_text style (symbol_before symbol rest) f) (callers_text style symbol rest)
    ∙ ap (λ t. text ++ t) (append_assoc (caller_mark style) (frame_text style (symbol_before symbol rest) f) (callers_text style symbol rest)) ∙ inv)

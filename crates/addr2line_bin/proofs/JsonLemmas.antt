-- Objects of JSON have no float.
use Rattle.addr2line_bin.proofs.Common.{◌≡◌, ◌∙◌, ℕ, List, [], ◌∷◌, ◌++◌, false, Option, Some, None, Ok, Err, ap, append_assoc, map, map-append, refl}
use Rattle.std.specs.Prelude.{◌||◌}
use Rattle.serde_json.specs.Data.{Data}
use Rattle.serde_json.specs.View.{items_of, view}
use Rattle.serde_json.specs.declared.value.Value.{Value}
use Rattle.serde_json.specs.Written.{has_float, items_have_float}
use Rattle.addr2line_units.specs.Frames.{FrameRecord}
use Rattle.addr2line_bin.specs.Common.{Loading}
use Rattle.addr2line_bin.specs.declared.options.Style.{Style}
use Rattle.addr2line_bin.specs.FrameTexts.{symbol_before}
use Rattle.addr2line_bin.specs.JsonTexts.{answer_data, frame_data, frames_data, shown_data}

frames_have_none : (style : Style) (symbol : Option (List ℕ)) (frames : List FrameRecord)
    → items_have_float (items_of (frames_data style symbol frames)) ≡ false
frames_have_none style symbol [] = refl
frames_have_none style symbol (f ∷ rest) = frames_have_none style symbol rest

shown_have_none : (style : Style) (symbol : Option (List ℕ)) (frames : List FrameRecord)
    → items_have_float (items_of (shown_data style symbol frames)) ≡ false
shown_have_none style None [] = refl
shown_have_none style (Some name) [] = refl
shown_have_none style symbol (f ∷ rest) = frames_have_none style symbol (f ∷ rest)

pub has_no_float : (style : Style) (probe : Option ℕ) (symbol : Option (List ℕ)) (frames : Loading (List FrameRecord)) → has_float (answer_data style probe symbol frames) ≡ false
has_no_float style None symbol (Ok frames) = ap (λ b. b || false) (shown_have_none style symbol frames)
has_no_float style (Some n) symbol (Ok frames) = ap (λ b. b || false) (shown_have_none style symbol frames)
has_no_float style None symbol (Err e) = refl
has_no_float style (Some n) symbol (Err e) = refl

-- one more frame is an object, and the others are left
pub frames_more : (style : Style) (symbol shown : Option (List ℕ)) (f : FrameRecord) (rest : List FrameRecord) (values new : List Value) (value : Value) (total : List Data)
    → map view values ++ frames_data style symbol (f ∷ rest) ≡ total
    → shown ≡ symbol_before symbol rest → view value ≡ frame_data style shown f → new ≡ values ++ value ∷ []
    → map view new ++ frames_data style symbol rest ≡ total
frames_more style symbol shown f rest values new value total inv last e pushed =
    ap (λ vs. map view vs ++ frames_data style symbol rest) pushed
    ∙ ap (λ vs. vs ++ frames_data style symbol rest) (map-append view values (value ∷ []))
    ∙ append_assoc (map view values) (view value ∷ []) (frames_data style symbol rest)
    ∙ ap (λ d. map view values ++ (d ∷ frames_data style symbol rest)) (e ∙ ap (λ s. frame_data style s f) last)
    ∙ inv

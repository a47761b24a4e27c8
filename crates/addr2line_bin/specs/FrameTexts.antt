-- The texts of frames: functions with their locations.
-- Own: the last frame has the name of the symbol at the address, if there is one, in place of its
-- own; a function without a name is `??`.
-- Own: a symbol's name is of no language that is known.
use Rattle.std.specs.Prelude.{ℕ, List, [], ◌∷◌, ◌++◌, Option, Some, None, codes, option_map, unwrap_or, if◌then◌else◌}
use Rattle.std.specs.Option.{option_or}
use Rattle.addr2line_bin.specs.Common.{FrameRecord, NameRecord}
use Rattle.addr2line.specs.Names.{shown_name}
use Rattle.addr2line_units.specs.FramesLent.{raw_text}
use Rattle.addr2line_bin.specs.declared.options.Style.{Style}
use Rattle.addr2line_bin.specs.AddressTexts.{location_text}

-- a function's name
abbrev pub function_name : Style → NameRecord → List ℕ
function_name style n = shown_name style.names (option_map (λ l. l.0) n.language) (raw_text n)

-- a symbol's name
abbrev pub symbol_name : Style → List ℕ → List ℕ
symbol_name style name = shown_name style.names None name

-- the symbol's name where no frame follows
abbrev pub symbol_before : Option (List ℕ) → List FrameRecord → Option (List ℕ)
symbol_before symbol [] = symbol
symbol_before symbol (f ∷ rest) = None

-- what follows a function
abbrev pub function_ending : Style → List ℕ
function_ending style = if style.pretty then codes " at " else codes "\n"

-- a function, where functions are printed
abbrev pub function_text : Style → Option (List ℕ) → List ℕ
function_text style name =
    if style.functions then unwrap_or name (codes "??") ++ function_ending style else []

-- a frame, by the symbol's name if there is one
abbrev pub frame_text : Style → Option (List ℕ) → FrameRecord → List ℕ
frame_text style symbol f =
    function_text style (option_or symbol (option_map (function_name style) f.function))
    ++ location_text style f.location

-- what stands before each frame but the first
abbrev pub caller_mark : Style → List ℕ
caller_mark style = if style.pretty then codes " (inlined by) " else []

-- the frames after the first
abbrev pub callers_text : Style → Option (List ℕ) → List FrameRecord → List ℕ
callers_text style symbol [] = []
callers_text style symbol (f ∷ rest) =
    caller_mark style
    ++ (frame_text style (symbol_before symbol rest) f ++ callers_text style symbol rest)

-- where there is no frame
abbrev pub missing_text : Style → Option (List ℕ) → List ℕ
missing_text style symbol = function_text style symbol ++ location_text style None

-- all frames, where inlined functions are printed, else the first
abbrev pub frames_text : Style → Option (List ℕ) → List FrameRecord → List ℕ
frames_text style symbol [] = missing_text style symbol
frames_text style symbol (f ∷ rest) =
    frame_text style (symbol_before symbol rest) f
    ++ (if style.inlines then callers_text style symbol rest else [])

-- the next frame, if there is one, and those after it
abbrev pub next_and : Option FrameRecord → List FrameRecord → List FrameRecord
next_and None rest = []
next_and (Some f) rest = f ∷ rest

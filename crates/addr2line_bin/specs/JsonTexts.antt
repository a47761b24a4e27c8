-- The texts of an address as an object of JSON (RFC 8259), on a line of its own.
-- Own: the names of the members are those of llvm-symbolizer: `Address`, `Symbol` with an object for
-- each frame, the innermost first, and in each `Column`, `FileName`, `FunctionName` and `Line`. An
-- unknown text is empty, an unknown number 0. `SymName` is the name of the symbol at the address; it
-- is the last frame's `FunctionName` too, as in the other texts, and that of a frame without a
-- location where there is no other.
-- Own: all frames and the symbol are there, whatever other options say. Where a lookup has a fault,
-- `Error` has its `Message`, and there are no frames. A word that is no address has the address
-- null.
use Rattle.std.specs.Prelude.{◌≡◌, ℕ, List, [], ◌∷◌, ◌++◌, Option, Some, None, Ok, Err, codes, option_map, option_and_then, unwrap_or}
use Rattle.std.specs.Option.{option_map_or, option_or}
use Rattle.serde_json.specs.Data.{Data, null, number, unsigned, string, array, object, no_items, member, no_members}
use Rattle.serde_json.specs.View.{items_of}
use Rattle.serde_json.specs.Written.{compact_text}
use Rattle.elf.specs.Text.{loader_text_of}
use Rattle.addr2line_bin.specs.Common.{Loading, Location, FrameRecord}
use Rattle.addr2line_bin.specs.declared.options.Style.{Style}
use Rattle.addr2line_bin.specs.AddressTexts.{hex_digits, shown_path}
use Rattle.addr2line_bin.specs.FrameTexts.{function_name, symbol_before}

-- a text that may be unknown
abbrev pub text_data : Option (List ℕ) → Data
text_data text = string (unwrap_or text [])

-- a number that may be unknown
abbrev pub number_data : Option ℕ → Data
number_data n = number (unsigned (unwrap_or n 0))

-- an address that is asked for
abbrev pub address_data : Option ℕ → Data
address_data None = null
address_data (Some n) = string (codes "0x" ++ hex_digits n)

-- the file of a location, as it is shown
abbrev pub file_of : Style → Option Location → Option (List ℕ)
file_of style place = option_map (shown_path style) (option_and_then (λ p. p.file) place)

-- a function of a name, at a location
abbrev pub place_data : Style → Option (List ℕ) → Option Location → Data
place_data style function place = object
    (member (codes "Column") (number_data (option_and_then (λ p. p.column) place))
    (member (codes "FileName") (text_data (file_of style place))
    (member (codes "FunctionName") (text_data function)
    (member (codes "Line") (number_data (option_and_then (λ p. p.line) place)) no_members))))

-- a frame, by the symbol's name if there is one
abbrev pub frame_data : Style → Option (List ℕ) → FrameRecord → Data
frame_data style symbol f =
    place_data style (option_or symbol (option_map (function_name style) f.function)) f.location

-- frames, the last by the symbol's name if there is one
abbrev pub frames_data : Style → Option (List ℕ) → List FrameRecord → List Data
frames_data style symbol [] = []
frames_data style symbol (f ∷ rest) =
    frame_data style (symbol_before symbol rest) f ∷ frames_data style symbol rest

-- a frame of the symbol's name, if there is one
abbrev pub symbol_data : Style → Option (List ℕ) → List Data
symbol_data style symbol =
    option_map_or (λ name. place_data style (Some name) None ∷ []) symbol []

-- the frames, or where there is none that of the symbol
abbrev pub shown_data : Style → Option (List ℕ) → List FrameRecord → List Data
shown_data style symbol [] = symbol_data style symbol
shown_data style symbol (f ∷ rest) = frames_data style symbol (f ∷ rest)

-- an address with what its lookups gave
abbrev pub answer_data : Style → Option ℕ → Option (List ℕ) → Loading (List FrameRecord) → Data
answer_data style probe symbol (Ok frames) = object
    (member (codes "Address") (address_data probe)
    (member (codes "SymName") (text_data symbol)
    (member (codes "Symbol") (array (items_of (shown_data style symbol frames))) no_members)))
answer_data style probe symbol (Err e) = object
    (member (codes "Address") (address_data probe)
    (member (codes "Error")
    (object (member (codes "Message") (string (loader_text_of e)) no_members))
    (member (codes "SymName") (text_data symbol)
    (member (codes "Symbol") (array no_items) no_members))))

-- the same as a text on a line of its own
abbrev pub json_line : Style → Option ℕ → Option (List ℕ) → Loading (List FrameRecord) → List ℕ
json_line style probe symbol frames =
    compact_text (answer_data style probe symbol frames) ++ codes "\n"

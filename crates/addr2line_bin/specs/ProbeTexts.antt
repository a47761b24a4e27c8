-- What goes to the two streams for an address that is asked for.
-- Own: with a section an address below its size is an offset in it, and another is no address.
-- Own: a fault is written to standard error, and its address is printed as one without a location,
-- or as an object of the fault; a refused growth within a lookup is such a fault.
use Rattle.std.specs.Prelude.{◌≡◌, ◌-◌, ◌+◌, ℕ, Bool, true, false, ◌||◌, List, [], ◌++◌, Option, Some, None, Ok, Err, codes, nat_lt, option_and_then, option_map, string_bytes, if◌then◌else◌}
use Rattle.gimli_read.specs.declared.range.Range.{Range}
use Rattle.addr2line_bin.specs.Common.{Loading, Location, FrameRecord}
use Rattle.addr2line_bin.specs.declared.options.RunContext.{RunContext}
use Rattle.addr2line_bin.specs.declared.options.Style.{Style}
use Rattle.addr2line_bin.specs.declared.probe_text.Texts.{Texts}
use Rattle.addr2line_bin.specs.AddressTexts.{address_text, fault_line, location_text, probe_end}
use Rattle.addr2line_bin.specs.FileAnswers.{FileAnswers}
use Rattle.addr2line_bin.specs.FrameTexts.{frames_text, missing_text, symbol_name}
use Rattle.addr2line_bin.specs.JsonTexts.{json_line}
use Rattle.addr2line_bin.specs.Print.{ProbeText}

-- the address in a section at an offset, none past its size
abbrev pub offset_in : Range → ℕ → Option ℕ
offset_in section n =
    if nat_lt n (section.end - section.begin) then Some (section.begin + n) else None

-- the same, or the address itself without a section
abbrev pub address_by : Option Range → ℕ → Option ℕ
address_by None n = Some n
address_by (Some section) n = offset_in section n

-- the address that is looked up for what is asked for, if it is one
abbrev pub looked_up : Option Range → Option ℕ → Option ℕ
looked_up section probe = option_and_then (address_by section) probe

-- whether frames are looked up
abbrev pub asks_frames : Style → Bool
asks_frames style = style.functions || style.inlines

-- the symbol's name, where functions are printed
abbrev pub asked_symbol : Style → Option (List ℕ) → Option (List ℕ)
asked_symbol style symbol = if style.functions then option_map (symbol_name style) symbol else None

-- what the lookups of an address gave: its location; or its frames, and the name of its symbol
pub data ProbeAnswer : Type 0 where
  GivesLocation : Loading (Option Location) → ProbeAnswer
  GivesFrames : Loading (List FrameRecord) → Option (List ℕ) → ProbeAnswer

-- the lookups of an address may give this
abbrev pub MayBeGiven : FileAnswers → Style → ℕ → ProbeAnswer → Type 0
MayBeGiven answers style address (GivesLocation found) =
    (asks_frames style ≡ false) × answers.MayFind address found
MayBeGiven answers style address (GivesFrames frames symbol) =
    (asks_frames style ≡ true)
    × answers.MayGive address frames × (symbol ≡ asked_symbol style (answers.symbol_at address))

-- what a lookup gives, and the other value where it has a fault
abbrev pub given_or : {A : Type 0} → A → Loading A → A
given_or other (Ok x) = x
given_or other (Err e) = other

-- the text of what was given
abbrev pub given_text : Style → ProbeAnswer → List ℕ
given_text style (GivesLocation found) = location_text style (given_or None found)
given_text style (GivesFrames frames symbol) = frames_text style symbol (given_or [] frames)

-- the line of a fault, if there is one
abbrev pub fault_text : {A : Type 0} → List ℕ → List ℕ → ℕ → Loading A → List ℕ
fault_text name what address (Ok x) = []
fault_text name what address (Err e) = fault_line name what address e

-- the line of the fault that was given, if one was
abbrev pub given_fault : List ℕ → ℕ → ProbeAnswer → List ℕ
given_fault name address (GivesLocation found) = fault_text name (codes "location") address found
given_fault name address (GivesFrames frames symbol) =
    fault_text name (codes "frames") address frames

-- the text and the line of a fault of what was given are added to both texts
abbrev pub AddsAnswer : RunContext → ℕ → Texts → Texts → ProbeAnswer → Type 0
AddsAnswer c address old new given =
    (string_bytes new.out ≡ string_bytes old.out ++ given_text c.style given)
    × (string_bytes new.err ≡ string_bytes old.err ++ given_fault c.name.now address given)

-- the text and the line of a fault, by the address that is looked up, if there is one
abbrev pub IsAnswerAt : FileAnswers → RunContext → Option ℕ → List ℕ → List ℕ → Type 0
IsAnswerAt answers c None found fault = (found ≡ missing_text c.style None) × (fault ≡ [])
IsAnswerAt answers c (Some address) found fault = (given : ProbeAnswer)
    × MayBeGiven answers c.style address given
    × (found ≡ given_text c.style given) × (fault ≡ given_fault c.name.now address given)

-- the object of JSON of what is asked for, by the address that is looked up, if there is one, and
-- the line of a fault
abbrev pub IsObjectAt : FileAnswers → RunContext → Option ℕ → Option ℕ → ProbeText → Type 0
IsObjectAt answers c probe None text =
    (text.out ≡ json_line c.style probe None (Ok [])) × (text.err ≡ [])
IsObjectAt answers c probe (Some address) text = (frames : Loading (List FrameRecord))
    × answers.MayGive address frames
    × (text.out ≡ json_line c.style probe
    (option_map (symbol_name c.style) (answers.symbol_at address)) frames)
    × (text.err ≡ fault_text c.name.now (codes "frames") address frames)

-- such an object, and the line of a fault, are added to both texts
abbrev pub AddsObject : FileAnswers → RunContext → Option ℕ → Option ℕ → Texts → Texts → Type 0
AddsObject answers c probe address old new = (text : ProbeText)
    × IsObjectAt answers c probe address text
    × (string_bytes new.out ≡ string_bytes old.out ++ text.out)
    × (string_bytes new.err ≡ string_bytes old.err ++ text.err)

-- the lines of what is asked for, if that is an address
pub record IsLines (answers : FileAnswers) (c : RunContext) (probe : Option ℕ) (text : ProbeText)
    : Type 0 where
  pub found : List ℕ
  pub fault : List ℕ
  pub given : IsAnswerAt answers c (looked_up c.section probe) found fault
  pub out : text.out ≡ address_text c.style probe ++ (found ++ probe_end c.style)
  pub err : text.err ≡ fault

-- an object of JSON or lines
abbrev pub IsTextBy : Bool → FileAnswers → RunContext → Option ℕ → ProbeText → Type 0
IsTextBy true answers c probe text = IsObjectAt answers c probe (looked_up c.section probe) text
IsTextBy false answers c probe text = IsLines answers c probe text

-- what goes to both streams for what is asked for, if that is an address
abbrev pub IsText : FileAnswers → RunContext → Option ℕ → ProbeText → Type 0
IsText answers c probe text = IsTextBy c.style.json answers c probe text

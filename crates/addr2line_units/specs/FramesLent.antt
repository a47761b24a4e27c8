-- Frames as contracts see them, and the texts of their names.
-- Own: a name that is no UTF-8 has U+FFFD for each piece that isn't.
use Rattle.std.specs.Prelude.{◌≡◌, ℕ, List, [], ◌∷◌, Option, Some, None, option_map, unwrap_or, Result, Ok, Err}
use Rattle.addr2line_units.specs.Common.{Error, Section, as_location}
use Rattle.gimli_read.specs.Text.{lossy_text}
use Rattle.addr2line_units.specs.declared.frames.Frame.{Frame}
use Rattle.addr2line_units.specs.declared.frames.FunctionName.{FunctionName}
use Rattle.addr2line_units.specs.Frames.{FrameRecord, NameRecord}
use Rattle.addr2line_units.specs.LegacyText.{demangled_auto}

-- a name
abbrev pub as_name : {R : Type 0} → (R → Section) → FunctionName R → NameRecord
as_name see n = record { name = see n.name.now; language = n.language }

-- a frame
abbrev pub as_frame : {R : Type 0} → (R → Section) → Frame R → FrameRecord
as_frame see f = record {
  offset = option_map (λ o. o.0) f.dw_die_offset;
  function = option_map (as_name see) f.function;
  location = option_map as_location f.location;
}

-- the text of a name as the file has it
abbrev pub raw_text : NameRecord → List ℕ
raw_text n = lossy_text n.name.bytes

-- its text in its language, if there is one
abbrev pub language_text : NameRecord → Option (List ℕ)
language_text n = demangled_auto (option_map (λ l. l.0) n.language) (raw_text n)

-- its text in its language, and that of the file where there is none
abbrev pub name_text : NameRecord → List ℕ
name_text n = unwrap_or (language_text n) (raw_text n)

-- the call gave the first frame that was left, and the others are left; or none, at the end; it
-- isn't refused
abbrev pub YieldsFrame : List FrameRecord → Result (Option FrameRecord) Error → List FrameRecord
    → Type 0
YieldsFrame old (Ok (Some f)) left = old ≡ f ∷ left
YieldsFrame old (Ok None) left = (old ≡ []) × (left ≡ [])
YieldsFrame old (Err e) left = ⊥

-- The texts of names, by the style in which they are asked for and the language of their unit.
-- Own: a v0 name is read in Rust, or where no language is known, as a legacy one is; a language that
-- isn't Rust leaves each name as it is.
use Rattle.std.specs.Prelude.{ℕ, ◌==◌, List, Option, Some, None, if◌then◌else◌, unwrap_or}
use Rattle.std.specs.Option.{option_or}
use Rattle.gimli_read.specs.declared.constants.TheConstants.DwLang.{DW_LANG_Rust}
use Rattle.rust_v0.specs.Name.{v0_text}
use Rattle.addr2line_units.specs.LegacyText.{demangled_auto}
use Rattle.addr2line.specs.declared.names.Style.{Style}
use Rattle.addr2line.specs.declared.names.Style.TheVariants as style

-- the text of a v0 name, in a language that may be unknown
abbrev pub v0_text_in : Option ℕ → List ℕ → Option (List ℕ)
v0_text_in None name = v0_text name
v0_text_in (Some language) name = if language == DW_LANG_Rust.0 then v0_text name else None

-- the text of a name in a style
abbrev pub demangled_with : Style → Option ℕ → List ℕ → Option (List ℕ)
demangled_with style.Legacy language name = demangled_auto language name
demangled_with style.Rust language name =
    option_or (v0_text_in language name) (demangled_auto language name)

-- the name as it is shown: its text in a style, where it has one
abbrev pub shown_name : Option Style → Option ℕ → List ℕ → List ℕ
shown_name None language name = name
shown_name (Some s) language name = unwrap_or (demangled_with s language name) name

-- What C gets for a load (DWARF 5, section 7.3.2).
-- Own: its texts are its directory and its path, in this order.
use Rattle.std.specs.Prelude.{◌≡◌, ◌++◌, ◌≤◌, ℕ, List, [], length, Option, option_map}
use Rattle.gimli_read.specs.Section.{Section}
use Rattle.addr2line_c.specs.Common.{SplitLoad}
use Rattle.addr2line_c.specs.declared.loads.WrittenLoad.{WrittenLoad}
use Rattle.addr2line_c.specs.Filled.{IsFilled}
use Rattle.addr2line_c.specs.Texts.{NamesText, optional_text, zero_ended, text_after}

-- the bytes of a text that may be there
abbrev pub bytes_if : Option Section → Option (List ℕ)
bytes_if text = option_map (λ (s : Section). s.bytes) text

-- the texts of a load
abbrev pub texts_of_load : SplitLoad → List (List ℕ)
texts_of_load load = optional_text (bytes_if load.comp_dir) ++ optional_text (bytes_if load.path)

-- a load with its token
abbrev pub written_load : ℕ → SplitLoad → WrittenLoad
written_load token load = record {
  token = token;
  dwo_id = load.dwo_id.0;
  directory = text_after [] (bytes_if load.comp_dir);
  path = text_after (optional_text (bytes_if load.comp_dir)) (bytes_if load.path);
}

-- the parts of a load name its texts in a buffer
abbrev pub NamesLoad : List ℕ → WrittenLoad → SplitLoad → Type 0
NamesLoad buffer out load =
    NamesText buffer out.directory (bytes_if load.comp_dir)
    × NamesText buffer out.path (bytes_if load.path)

-- this load is written after its token, with its texts
pub record IsWrittenLoad (out : WrittenLoad) (buffer : List ℕ) (needed : ℕ) (load : ℕ × SplitLoad)
    : Type 0 where
  pub parts : out ≡ written_load load.0 load.1
  pub texts : IsFilled needed buffer (zero_ended (texts_of_load load.1))
  pub named : length (zero_ended (texts_of_load load.1)) ≤ length buffer
      → NamesLoad buffer out load.1

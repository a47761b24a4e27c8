-- What a loader answers to the lookups of a run.
-- Own: where its files aren't known, any frames may be given at an address of a unit that waits for
-- a split file.
use Rattle.std.specs.Prelude.{◌≡◌, ◌⊎◌, ℕ, List, [], IfSome, Ok, Option, option_map}
use Rattle.addr2line_bin.specs.Common.{Exactly, Loading, LoadsUnlessOom, Location, FrameRecord}
use Rattle.elf.specs.Sections.{section_range_at}
use Rattle.elf.specs.Symbols.{NamedAddress, symbol_at}
use Rattle.addr2line_lines.specs.LastAddress.{last_address}
use Rattle.addr2line_units.specs.Locations.{location_of, spans_of}
use Rattle.addr2line.specs.Context.{ContextState, IsReady, IsUncovered}
use Rattle.addr2line.specs.FramesByFiles.{ended_frames_of, frames_by_files}
use Rattle.addr2line.specs.Loader.{LoaderState}
use Rattle.addr2line.specs.LoadsByFiles.{WaitsForNone}
use Rattle.addr2line.specs.SplitFiles.{of_file}
use Rattle.addr2line_bin.specs.FileAnswers.{FileAnswers}

-- a lookup of the location at an address takes no memory: no unit holds the last address, or the
-- lines that it asks for are parsed
abbrev pub IsReadyAtAddress : ContextState → ℕ → Type 0
IsReadyAtAddress c address = (address ≡ last_address) ⊎ IsReady c address

-- it finds what its sections say, or OutOfMemory where it takes memory
abbrev pub MayFindBy : ContextState → ℕ → Loading (Option Location) → Type 0
MayFindBy c address found =
    LoadsUnlessOom (λ x. x) found (of_file (location_of c.sections address))
    × (IsReadyAtAddress c address
    → Exactly (λ x. x) found (of_file (location_of c.sections address)))

-- a lookup of frames gives what the files say, where they are known; where it waits for no split
-- file, what the sections say, whatever the files are; and none, without memory, where no unit
-- covers the address
abbrev pub MayGiveBy : LoaderState → ℕ → Loading (List FrameRecord) → Type 0
MayGiveBy l address given =
    IfSome l.files (λ held. LoadsUnlessOom (λ frames. frames) given
    (frames_by_files held l.context.sections l.context.answers address))
    × (WaitsForNone l.context address
    → LoadsUnlessOom (λ frames. frames) given (ended_frames_of l.context address))
    × ((address ≡ last_address) ⊎ IsUncovered l.context address
    → Exactly (λ frames. frames) given (Ok []))

-- what it answers by its sections, its main file, and its files
abbrev pub loader_answers : LoaderState → FileAnswers
loader_answers l = record {
  MayFind = MayFindBy l.context;
  MayGive = MayGiveBy l;
  symbol_at = λ address. option_map (λ (s : NamedAddress). s.name) (symbol_at address l.object);
  section_at = λ name. section_range_at name l.object;
  spans_in = λ low high. spans_of l.context.sections low high;
}

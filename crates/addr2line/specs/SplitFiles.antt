-- The split files of units, and what answers their loads (DWARF 5, sections 3.1.2 and 7.3.2).
-- Own: the file's path is the name of the split file where that begins with `/`, else the unit's
-- directory, a `/` unless the directory is empty or ends in one, and the name. A unit without a
-- name has no split file, and a path that isn't UTF-8 is a fault.
-- Own: the first unit of the file has to have the identifier that the load has. A file that can't
-- be read, another one, and a faulty one are answered none.
use Rattle.std.specs.Prelude.{◌≡◌, ◌≢◌, ◌⊎◌, ◌==◌, ◌++◌, ℕ, Bool, false, is_ok, IfErr, IfOk, IfSome, List, [], ◌∷◌, Option, Some, None, Result, Ok, Err, if◌then◌else◌, option_and_then, option_map}
use Rattle.std.specs.Option.{option_map_or}
use Rattle.addr2line.specs.Common.{Error, ◌>>=◌, Section, Sections, UnitRecord, PathNotUtf8, Loading, LoadsUnlessOom, ObjectFile, object_file_of, SplitLoad, first_unit}
use Rattle.gimli.specs.declared.dwarf.DwarfFileType.TheVariants.{Dwo}
use Rattle.gimli.specs.declared.load.SectionId.{SectionId}
use Rattle.gimli.specs.declared.unit.DwoId.{DwoId}
use Rattle.gimli.specs.Split.{split_sections}
use Rattle.elf.specs.declared.error.LoaderError.{LoaderError}
use Rattle.elf.specs.declared.error.LoaderError.TheVariants.{OutOfMemory}
use Rattle.elf.specs.Symbols.{utf8_from}
use Rattle.elf.specs.Text.{loader_error_of}
use Rattle.addr2line_lines.specs.Paths.{lacks, slash}
use Rattle.addr2line.specs.declared.compressed.CompressedSections.{CompressedSections}
use Rattle.addr2line.specs.declared.kept_files.SplitFound.{SplitFound}
use Rattle.addr2line.specs.declared.kept_files.SplitFound.TheVariants.{Other, Wanted}
use Rattle.addr2line.specs.FileSections.{as_file, sections_by, split_section}
use Rattle.addr2line.specs.Files.{ReadFiles}

-- what DWARF bytes give, as an answer about their file
abbrev pub of_file : {A : Type 0} → Result A Error → Loading A
of_file (Ok x) = Ok x
of_file (Err e) = Err (loader_error_of e)

-- whether the name of a file begins with `/`
abbrev pub is_absolute : List ℕ → Bool
is_absolute [] = false
is_absolute (b ∷ name) = b == slash

-- a directory with what separates it from a name
abbrev pub separated : List ℕ → List ℕ
separated directory = if lacks slash directory then directory ++ slash ∷ [] else directory

-- the path of a name in a directory
abbrev pub path_in : List ℕ → List ℕ → List ℕ
path_in directory name = if is_absolute name then name else separated directory ++ name

-- the bytes of a text that may be there
abbrev pub bytes_or_none : Option Section → List ℕ
bytes_or_none text = option_map_or (λ (s : Section). s.bytes) text []

-- the path of a split file, if it has a name
abbrev pub split_path : SplitLoad → Option (List ℕ)
split_path load =
    option_map (λ (name : Section). path_in (bytes_or_none load.comp_dir) name.bytes) load.path

-- whether an identifier is the one that is wanted
abbrev pub is_same_id : DwoId → Option DwoId → Bool
is_same_id wanted None = false
is_same_id wanted (Some id) = id.0 == wanted.0

-- the identifier of a unit, if there is one that has it
abbrev pub id_of_unit : Option UnitRecord → Option DwoId
id_of_unit None = None
id_of_unit (Some u) = u.dwo_id

-- the split sections of a load, by what each section is given as; none where they belong to another
-- unit
unfoldable pub split_by : (SectionId → Loading Section) → SplitLoad → Loading (Option Sections)
split_by given load = do
  ten ← sections_by given
  unit ← of_file (first_unit (as_file Dwo None ten))
  Ok (if is_same_id load.dwo_id (id_of_unit unit)
      then Some (split_sections (as_file Dwo None ten) load.parent)
      else None)

-- the identifier of the first unit of a split file, if it has one
unfoldable pub first_id_by : (SectionId → Loading Section) → Loading (Option DwoId)
first_id_by given = do
  ten ← sections_by given
  unit ← of_file (first_unit (as_file Dwo None ten))
  Ok (id_of_unit unit)

-- both of the bytes of a file
unfoldable pub split_of : CompressedSections → SplitLoad → List ℕ → Loading (Option Sections)
split_of compressed load bytes =
    object_file_of bytes >>= λ file. split_by (split_section compressed file) load

unfoldable pub first_id_of : CompressedSections → List ℕ → Loading (Option DwoId)
first_id_of compressed bytes =
    object_file_of bytes >>= λ file. first_id_by (split_section compressed file)

-- what is wanted of a file, as it is seen; nothing where it has another identifier
abbrev pub wanted_by : {T A : Type 0} → (T → A) → SplitFound T → Option A
wanted_by see (Wanted x) = Some (see x)
wanted_by see (Other id) = None

-- what was found, with what is wanted of it as it is seen
abbrev pub found_as : {T A : Type 0} → (T → A) → SplitFound T → SplitFound A
found_as see (Wanted x) = Wanted (see x)
found_as see (Other id) = Other id

-- of what is wanted of a file this holds
abbrev pub IfWanted : {T : Type 0} → SplitFound T → (T → Type 0) → Type 0
IfWanted (Wanted x) So = So x
IfWanted (Other id) So = Unit {0}

-- an identifier that was found isn't that of the load, and is this
abbrev pub IsOtherId : {T : Type 0} → SplitLoad → Loading (Option DwoId) → SplitFound T → Type 0
IsOtherId load given (Wanted x) = Unit {0}
IsOtherId load given (Other id) = (is_same_id load.dwo_id id ≡ false) × (given ≡ Ok id)

-- the same, whichever it is
abbrev pub HasOtherId : {T : Type 0} → SplitLoad → SplitFound T → Type 0
HasOtherId load (Wanted x) = Unit {0}
HasOtherId load (Other id) = is_same_id load.dwo_id id ≡ false

-- a file answers a load with these sections
abbrev pub Answers : CompressedSections → SplitLoad → ObjectFile → Sections → Type 0
Answers compressed load file sections =
    split_by (split_section compressed file) load ≡ Ok (Some sections)

-- some file answers a load with these sections
abbrev pub AreOfSomeFile : CompressedSections → SplitLoad → Sections → Type 0
AreOfSomeFile compressed load sections =
    (file : ObjectFile) × Answers compressed load file sections

-- what is loaded, or none in place of a fault
abbrev pub or_none : Loading (Option Sections) → Option Sections
or_none (Ok found) = found
or_none (Err e) = None

-- a path, if it is UTF-8
abbrev pub utf8_path : List ℕ → Loading (List ℕ)
utf8_path path = elim (utf8_from path) [ None ↦ Err PathNotUtf8 | Some text ↦ Ok text ]

-- the split sections at a path, if they are there
abbrev pub split_at_path : ReadFiles → SplitLoad → List ℕ → Option Sections
split_at_path read load path =
    option_and_then (λ bytes. or_none (split_of read.compressed load bytes)) (read.files path)

-- the answer to the load of a unit
unfoldable pub given_by_files : ReadFiles → SplitLoad → Loading (Option Sections)
given_by_files read load = elim (split_path load) [
  | None ↦ Ok None
  | Some path ↦ utf8_path path >>= λ text. Ok (split_at_path read load text)
]

-- a load has a path that isn't UTF-8
abbrev pub HasPathNotUtf8 : SplitLoad → Type 0
HasPathNotUtf8 load = (path : List ℕ) × (split_path load ≡ Some path)
    × (utf8_path path ≡ Err PathNotUtf8)

-- a refusal of the answer to a load: of memory, where it has a path, or of a path that isn't UTF-8
abbrev pub RefusesAnswer : SplitLoad → LoaderError → Type 0
RefusesAnswer load e = ((e ≡ OutOfMemory) × (split_path load ≢ None))
    ⊎ ((e ≡ PathNotUtf8) × HasPathNotUtf8 load)

-- a load is answered by files: where they are known with what they give, unless memory is refused;
-- whatever they are, sections are those of some file, and a refusal is one of which this holds
pub record AnswersLoadBy {X : Type 0} (see : X → Sections) (compressed : CompressedSections)
    (load : SplitLoad) (files : Option ReadFiles) (given : ReadFiles → Loading (Option Sections))
    (Refuses : LoaderError → Type 0) (result : Loading (Option X)) : Type 0 where
  pub gives : IfSome files (λ held. LoadsUnlessOom (option_map see) result (given held))
  pub made : IfOk result (λ found. IfSome found (λ x. AreOfSomeFile compressed load (see x)))
  pub refused : IfErr result Refuses

-- the same by the file at the load's own path: a refusal is of memory, and only where there is a
-- path, or of a path that isn't UTF-8, which is always refused; without a path the answer is none
pub record AnswersLoadByPath {X : Type 0} (see : X → Sections) (compressed : CompressedSections)
    (load : SplitLoad) (files : Option ReadFiles) (result : Loading (Option X)) : Type 0 where
  pub gives : AnswersLoadBy see compressed load files (λ held. given_by_files held load)
      (RefusesAnswer load) result
  pub fault : HasPathNotUtf8 load → is_ok result ≡ false
  pub none : split_path load ≡ None → result ≡ Ok None

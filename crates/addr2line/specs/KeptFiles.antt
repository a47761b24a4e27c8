-- What is kept of split files by their paths, and answers to loads by it.
-- Own: at most one file for each path, with a stamp. It is kept itself where it has answered a load,
-- else the identifier of its first unit is, if it has one.
use Rattle.std.specs.Prelude.{◌≡◌, ◌≢◌, ◌⊎◌, ℕ, false, IfErr, IfOk, IfSome, List, Option, None, Some, Ok, if◌then◌else◌, option_map}
use Rattle.std.specs.BTreeMap.{get_by_text}
use Rattle.std.specs.Str.{bytes_eq}
use Rattle.elf.specs.declared.error.LoaderError.TheVariants.{OutOfMemory}
use Rattle.addr2line.specs.Common.{Sections, Loading, LoadsUnlessOom, ObjectFile, SplitLoad}
use Rattle.addr2line.specs.declared.compressed.CompressedSections.{CompressedSections}
use Rattle.addr2line.specs.declared.files.FileStamp.{FileStamp}
use Rattle.addr2line.specs.declared.kept_files.KeptFile.{KeptFile}
use Rattle.addr2line.specs.declared.kept_files.KeptFiles.{KeptFiles}
use Rattle.addr2line.specs.declared.kept_files.SplitFound.{SplitFound}
use Rattle.addr2line.specs.declared.kept_files.SplitFound.TheVariants.{Other, Wanted}
use Rattle.addr2line.specs.FileSections.{split_section}
use Rattle.addr2line.specs.Files.{Files}
use Rattle.addr2line.specs.SplitFiles.{Answers, AreOfSomeFile, is_same_id, or_none, split_by, split_path}
use Rattle.gimli.specs.declared.unit.DwoId.{DwoId}

-- what is kept for a path, with its stamp
abbrev pub kept_at : KeptFiles → List ℕ → Option KeptFile
kept_at kept path = get_by_text kept.files path

-- this is kept for a path with this stamp
abbrev pub IsKeptAt : KeptFiles → List ℕ → FileStamp → SplitFound ObjectFile → Type 0
IsKeptAt kept path stamp found =
    kept_at kept path ≡ Some (record { stamp = stamp; found = found })

-- this is kept for a path now, and for each other path what was kept before
abbrev pub ChangesAt : List ℕ → Option KeptFile → KeptFiles → KeptFiles → Type 0
ChangesAt path file old new = (other : List ℕ)
    → kept_at new other ≡ (if bytes_eq path other then file else kept_at old other)

-- what is kept of a file gave the answer to a load: the file itself, which has sections for it; or
-- the identifier, which isn't the load's, and the answer is none
abbrev pub HasAnswered : CompressedSections → SplitLoad → Loading (Option Sections)
    → SplitFound ObjectFile → Type 0
HasAnswered choice load answer (Wanted object) = (sections : Sections)
    × (answer ≡ Ok (Some sections)) × Answers choice load object sections
HasAnswered choice load answer (Other id) =
    (answer ≡ Ok None) × (is_same_id load.dwo_id id ≡ false)

-- after a load by the file at a path: for other paths the same is kept as before, and what is kept
-- for this one was kept before, or gave the answer
pub record KeepsAnswering (compressed : CompressedSections) (load : SplitLoad) (path : List ℕ)
    (answer : Loading (Option Sections)) (old new : KeptFiles) : Type 0 where
  pub others : (other : List ℕ) → other ≢ path → kept_at new other ≡ kept_at old other
  pub own : (file : KeptFile) → kept_at new path ≡ Some file
      → (kept_at old path ≡ Some file) ⊎ HasAnswered compressed load answer file.found

-- the same of a load, by its own path; without one nothing changes
abbrev pub KeepsAnswer : CompressedSections → SplitLoad → Loading (Option Sections) → KeptFiles
    → KeptFiles → Type 0
KeepsAnswer compressed load answer old new = elim (split_path load)
    [ None ↦ new ≡ old | Some path ↦ KeepsAnswering compressed load path answer old new ]

-- after a load by the file at a path with a stamp: as after any by the file at a path, and what is
-- kept for the path has the stamp
pub record KeepsStamped (compressed : CompressedSections) (load : SplitLoad) (path : List ℕ)
    (stamp : FileStamp) (answer : Loading (Option Sections)) (old new : KeptFiles)
    : Type 0 where
  pub after : KeepsAnswering compressed load path answer old new
  pub stamped : (file : KeptFile) → kept_at new path ≡ Some file → file.stamp ≡ stamp

-- after a load by files a relation holds of what was kept and what is; where the files are known
-- nothing has changed
pub record KeepsByFiles (files : Option Files) (Keeps : KeptFiles → KeptFiles → Type 0)
    (old new : KeptFiles) : Type 0 where
  pub after : Keeps old new
  pub kept : IfSome files (λ _. new ≡ old)

-- a load is answered by the file at a path with a stamp: where it is kept with the stamp, with what
-- it has for the load, none in place of a fault, unless memory is refused; where another identifier
-- than the load's is kept with the stamp, with none; in any case sections are those of some file,
-- and nothing but memory is refused
pub record AnswersLoadStamped {X : Type 0} (see : X → Sections) (compressed : CompressedSections)
    (load : SplitLoad) (path : List ℕ) (stamp : FileStamp) (kept : KeptFiles)
    (result : Loading (Option X)) : Type 0 where
  pub found : (object : ObjectFile) → IsKeptAt kept path stamp (Wanted object)
      → LoadsUnlessOom (option_map see) result
      (Ok (or_none (split_by (split_section compressed object) load)))
  pub other : (id : Option DwoId) → IsKeptAt kept path stamp (Other id)
      → is_same_id load.dwo_id id ≡ false → result ≡ Ok None
  pub made : IfOk result (λ found. IfSome found (λ x. AreOfSomeFile compressed load (see x)))
  pub refused : IfErr result (λ e. e ≡ OutOfMemory)

-- A loader as callers see it: the files that it reads, its main file, and the context of its
-- sections.
-- Own: a lookup gives the frames by the first answers to the loads of units, and by the files at
-- that call for units without an answer.
use Rattle.std.specs.Prelude.{◌≡◌, ℕ, true, List, [], IfSome, Option, Result, Ok}
use Rattle.addr2line.specs.Common.{Error, Exactly, result_map, Loading, LoadsUnlessOom, ObjectFile, FrameRecord, Stop, last_address}
use Rattle.addr2line.specs.declared.compressed.CompressedSections.{CompressedSections}
use Rattle.addr2line.specs.declared.loader.LoaderOver.{LoaderOver}
use Rattle.addr2line.specs.Context.{AfterLookupOver, AfterRangeLookup, ContextState, IsUncovered}
use Rattle.addr2line.specs.Files.{Files, ReadFiles, as_read_if_known}
use Rattle.addr2line.specs.FramesByFiles.{ended_frames_of, frames_by_files}
use Rattle.addr2line.specs.AfterLookups.{IsKnownFew}
use Rattle.addr2line.specs.LoadsByFiles.{AfterAnswers, AfterFramesByFiles, WaitsForNone}
use Rattle.addr2line.specs.SplitFiles.{of_file}

-- what becomes of compressed sections, the files, where they are known, as they are read, the main
-- file, and the context
pub record LoaderState : Type 0 where
  pub compressed : CompressedSections
  pub files : Option ReadFiles
  pub object : ObjectFile
  pub context : ContextState

-- a loader, by what its files are
abbrev pub as_loader : {F : Type 0} → (F → Option Files) → LoaderOver F → LoaderState
as_loader files l = record {
  compressed = l.compressed;
  files = as_read_if_known l.compressed (files l.files);
  object = l.object;
  context = l.context;
}

-- a lookup of frames at the probe gives those by the loader's files, or their fault, where the
-- files are known. Where it waits for no answer it gives those of its context, or their fault,
-- whatever the files are. OutOfMemory may stand in their place, but not where it waits for no
-- answer, all is known that it asks for and at most 16 inlined functions stand there. Where no unit
-- covers the probe, as at 2^64 - 1, it gives none, without memory
pub record FindsFramesByFiles {X : Type 0} (see : X → List FrameRecord) (l : LoaderState)
    (probe : ℕ) (result : Loading X) : Type 0 where
  pub by_files : IfSome l.files (λ files. LoadsUnlessOom see result
      (frames_by_files files l.context.sections l.context.answers probe))
  pub ended : WaitsForNone l.context probe
      → LoadsUnlessOom see result (ended_frames_of l.context probe)
  pub exact : WaitsForNone l.context probe → IsKnownFew Stop l.context probe
      → Exactly see result (ended_frames_of l.context probe)
  pub none : IsUncovered l.context probe → Exactly see result (Ok [])
  pub last : probe ≡ last_address → IsUncovered l.context probe

-- a lookup of frames at the probe has answered the loads that it came to by files: the files, as
-- they are read, and the main file are the same
pub record AfterLoads {X : Type 0} (see : X → List FrameRecord) (probe : ℕ) (result : Loading X)
    (old new : LoaderState) : Type 0 where
  pub compressed : new.compressed ≡ old.compressed
  pub files : new.files ≡ old.files
  pub object : new.object ≡ old.object
  pub context : AfterAnswers old.compressed old.files old.context new.context
  pub lookup : AfterFramesByFiles probe (result_map see result) old.context new.context

-- a lookup of locations in the context has this answer, and has left the context as it leaves one;
-- the files, as they are read, and the main file are the same
pub record AfterContext {X : Type 0} (IsAfter : Result X Error → ContextState → ContextState
    → Type 0) (result : Loading X) (old new : LoaderState) : Type 0 where
  pub compressed : new.compressed ≡ old.compressed
  pub files : new.files ≡ old.files
  pub object : new.object ≡ old.object
  pub given : Result X Error
  pub answer : result ≡ of_file given
  pub context : IsAfter given old.context new.context

-- after a lookup of the location at the probe
abbrev pub AfterLocation : {X : Type 0} → ℕ → Loading (Option X) → LoaderState → LoaderState
    → Type 0
AfterLocation probe result old new = AfterContext (AfterLookupOver true probe) result old new

-- after a lookup of the rows that a range of addresses meets
abbrev pub AfterLocationRange : {X : Type 0} → ℕ → ℕ → Loading X → LoaderState → LoaderState
    → Type 0
AfterLocationRange low high result old new =
    AfterContext (AfterRangeLookup low high) result old new

-- The answer to a load, by the file at its path (on specs/SplitFiles.antt).
use Rattle.addr2line.proofs.Common.{◌≡◌, ◌⊎◌, inl, inr, refl, subst, IfErr, IfOk, IfSome, ObjectFile, object_file_of, LoadsUnlessOom, OutOfMemory, option_map, ℕ, Bool, List, Option, Some, None, Result, Ok, Err, sym, ap, ◌∙◌, Error, ◌>>=◌, Section, Sections, SupSections, UnitRecord, LoaderError, Loading, SplitLoad, first_unit, ReadFiles, id_of_unit, is_same_id, of_file, or_none, split_at_path, first_id_by, split_by, split_of}
use Rattle.std.specs.Prelude.{IsErr, if◌then◌else◌, option_and_then}
use Rattle.gimli.specs.declared.dwarf.DwarfFileType.TheVariants.{Dwo}
use Rattle.gimli.specs.declared.load.SectionId.{SectionId}
use Rattle.gimli.specs.Split.{split_sections}
use Rattle.gimli.specs.declared.unit.DwoId.{DwoId}
use Rattle.addr2line.specs.declared.compressed.CompressedSections.{CompressedSections}
use Rattle.addr2line.specs.declared.kept_files.SplitFound.{SplitFound}
use Rattle.addr2line.specs.declared.kept_files.SplitFound.TheVariants.{Other, Wanted}
use Rattle.addr2line.specs.FileSections.{as_file, sections_by, split_section}
use Rattle.addr2line.specs.SplitFiles.{AreOfSomeFile, HasOtherId, IfWanted, IsOtherId}

-- the sections at a path are those of the bytes there
pub split_found : (held : ReadFiles) (load : SplitLoad) (path bytes : List ℕ) → Some bytes ≡ held.files path → split_at_path held load path ≡ or_none (split_of held.compressed load bytes)
split_found held load path bytes h =
    ap (λ o. option_and_then (λ bs. or_none (split_of held.compressed load bs)) o) (sym h)

-- the split file of bytes that are an ELF file
pub split_of_parsed : (choice : CompressedSections) (load : SplitLoad) (bytes : List ℕ) (object : ObjectFile) → object_file_of bytes ≡ Ok object → split_of choice load bytes ≡ split_by (split_section choice object) load
unfolding split_of
split_of_parsed choice load bytes object h = ap (λ r. r >>= λ file. split_by (split_section choice file) load) h

module _ (given : SectionId → Loading Section) (load : SplitLoad) where
  -- a fault of the sections is one of the split file
  pub split_unread : (e : LoaderError) → sections_by given ≡ Err e → split_by given load ≡ Err e
  unfolding split_by
  split_unread e h = ap (λ s. s >>= λ t. of_file (first_unit (as_file Dwo None t)) >>= λ unit. Ok (if is_same_id load.dwo_id (id_of_unit unit) then Some (split_sections (as_file Dwo None t) load.parent) else None)) h

  module _ (ten : SupSections) (file : Sections) (read : sections_by given ≡ Ok ten) (is : file ≡ as_file Dwo None ten) where
    -- the split file, by what its first unit is
    pub split_is : (first : Result (Option UnitRecord) Error) → first_unit file ≡ first → split_by given load ≡ (of_file first >>= λ unit. Ok (if is_same_id load.dwo_id (id_of_unit unit) then Some (split_sections file load.parent) else None))
    unfolding split_by
    split_is first h =
        ap (λ s. s >>= λ t. of_file (first_unit (as_file Dwo None t)) >>= λ unit. Ok (if is_same_id load.dwo_id (id_of_unit unit) then Some (split_sections (as_file Dwo None t) load.parent) else None)) read
        ∙ ap (λ d. of_file (first_unit d) >>= λ unit. Ok (if is_same_id load.dwo_id (id_of_unit unit) then Some (split_sections d load.parent) else None)) (sym is)
        ∙ ap (λ r. of_file r >>= λ unit. Ok (if is_same_id load.dwo_id (id_of_unit unit) then Some (split_sections file load.parent) else None)) h

    -- the split file, by whether it is the one that is wanted
    pub split_tested : (unit : Option UnitRecord) (wanted : Bool) → first_unit file ≡ Ok unit → is_same_id load.dwo_id (id_of_unit unit) ≡ wanted → split_by given load ≡ Ok (if wanted then Some (split_sections file load.parent) else None)
    split_tested unit wanted h w = split_is (Ok unit) h ∙ ap (λ b. Ok (if b then Some (split_sections file load.parent) else None)) w

    -- its identifier
    pub id_read : (unit : Option UnitRecord) → first_unit file ≡ Ok unit → first_id_by given ≡ Ok (id_of_unit unit)
    unfolding first_id_by
    id_read unit h =
        ap (λ s. s >>= λ t. of_file (first_unit (as_file Dwo None t)) >>= λ unit. Ok (id_of_unit unit)) read
        ∙ ap (λ d. of_file (first_unit d) >>= λ unit. Ok (id_of_unit unit)) (sym is)
        ∙ ap (λ r. of_file r >>= λ unit. Ok (id_of_unit unit)) h

-- what a file answers with has sections
answered_some : (given : Loading (Option Sections)) (x : Sections) → ◌≡◌ {A = Loading (Option Sections)} (Ok (or_none given)) (Ok (Some x)) → given ≡ Ok (Some x)
answered_some (Ok found) x h = h
answered_some (Err e) x h = absurd cc

-- sections that a kept file answers with are those of some file
pub kept_made : {X : Type 0} (see : X → Sections) (compressed : CompressedSections) (load : SplitLoad) (object : ObjectFile) (result : Loading (Option X))
    → LoadsUnlessOom (option_map see) result (Ok (or_none (split_by (split_section compressed object) load)))
    → IfOk result (λ found. IfSome found (λ x. AreOfSomeFile compressed load (see x)))
kept_made see choice load object (Ok None) h = tt
kept_made see choice load object (Ok (Some x)) h = (object, answered_some _ (see x) h)
kept_made see choice load object (Err e) h = tt

-- only refused memory refuses what was read of a file
pub refused_memory : {X Y : Type 0} (result : Loading X) (found : Loading Y) → IfErr result (λ e. found ≡ Err e) → IfErr found (λ e. e ≡ OutOfMemory) → IfErr result (λ e. e ≡ OutOfMemory)
refused_memory (Ok x) found h k = tt
refused_memory (Err e) (Ok y) h k = absurd cc
refused_memory (Err e) (Err f) h k = let same : ◌≡◌ {A = LoaderError} f e = cc in sym same ∙ k

-- what a file that was read has for a load, or none in place of its fault
module _ {T : Type 0} (load : SplitLoad) (found : Loading (SplitFound T)) (read : SplitFound T) (is : (found ≡ Ok read) ⊎ (IsErr found × (read ≡ Other None))) where
  pub still_wanted : (So : T → Type 0) → IfOk found (λ f. IfWanted f So) → IfWanted read So
  still_wanted So h = elim is [
    | inl same ↦ IfOk_at found same h
    | inr none ↦ subst (λ r. IfWanted r So) (sym none.1) tt
  ]
    where
      IfOk_at : (f : Loading (SplitFound T)) → f ≡ Ok read → IfOk f (λ f. IfWanted f So) → IfWanted read So
      IfOk_at f same k = subst (λ f. IfOk f (λ f. IfWanted f So)) same k

  pub still_other : (given : Loading (Option DwoId)) → IfOk found (IsOtherId load given) → HasOtherId load read
  still_other given h = elim is [
    | inl same ↦ other_of read (subst (λ f. IfOk f (IsOtherId load given)) same h)
    | inr none ↦ subst (λ r. HasOtherId load r) (sym none.1) refl
  ]
    where
      other_of : (f : SplitFound T) → IsOtherId load given f → HasOtherId load f
      other_of (Wanted x) k = tt
      other_of (Other id) k = k.0

-- what was made stands for what was given
pub as_made : (x y : Sections) → ◌≡◌ {A = Result Sections Error} (Ok x) (Ok y) → ◌≡◌ {A = Loading (Option Sections)} (Ok (Some x)) (Ok (Some y))
as_made x y h = ap (λ r. of_file r >>= λ d. Ok (Some d)) h

-- What a loader answers after lookups, which leave its files, its main file and its sections
-- (on specs/LoaderAnswers.antt).
use Rattle.addr2line_bin.proofs.Common.{◌≡◌, ◌∙◌, inl, inr, ◌⊎◌, ℕ, Bool, true, List, [], ◌∷◌, Option, Some, None, Ok, Err, option_map, ap, refl, subst, sym, AfterLoads, AfterLocation, AfterLocationRange, LoaderState, StaysAnswered}
use Rattle.std.specs.Prelude.{IfSome}
use Rattle.gimli_read.specs.Reading.{Exactly, result_map}
use Rattle.gimli.specs.Sections.{Sections}
use Rattle.elf.specs.Loading.{Loading, LoadsUnlessOom}
use Rattle.elf.specs.ObjectFile.{ObjectFile}
use Rattle.elf.specs.Sections.{section_range_at}
use Rattle.elf.specs.Symbols.{NamedAddress, symbol_at}
use Rattle.addr2line_lines.specs.LastAddress.{last_address}
use Rattle.addr2line_lines.specs.Location.{Location}
use Rattle.addr2line_units.specs.declared.index.UnitRange.{UnitRange}
use Rattle.addr2line_units.specs.IndexCover.{cover}
use Rattle.addr2line_units.specs.declared.frames.OnFault.TheVariants.{Stop}
use Rattle.addr2line_units.specs.Frames.{FrameRecord}
use Rattle.addr2line_units.specs.FramesLookup.{ends_lookup, is_waiting, located_frames}
use Rattle.addr2line_units.specs.Locations.{location_of, spans_of}
use Rattle.addr2line_units.specs.LocationsParsed.{StaysParsed, has_parsed, ready_along}
use Rattle.addr2line_units.specs.UnitsIndex.{index_units}
use Rattle.addr2line_units.specs.UnitsRanged.{IndexedUnit}
use Rattle.addr2line.proofs.Facts.{both_more}
use Rattle.elf.specs.declared.error.LoaderError.TheVariants.{OutOfMemory}
use Rattle.addr2line.specs.Context.{ContextState, IsUncovered, Locates, Stays}
use Rattle.addr2line.specs.Loader.{FindsFramesByFiles}
use Rattle.addr2line.specs.Files.{ReadFiles}
use Rattle.addr2line.specs.FramesByFiles.{ended_frames_of, frames_by_files, stop_frames}
use Rattle.addr2line.specs.LoadsByFiles.{GivesSameFrames, StayEnded, WaitsForNone}
use Rattle.addr2line.specs.Lookups.{lookup_stop}
use Rattle.addr2line.specs.SplitFiles.{of_file}
use Rattle.addr2line_bin.specs.LoaderAnswers.{IsReadyAtAddress, MayFindBy, MayGiveBy, loader_answers}

-- a lookup that parses nothing does so where more is parsed
ready_more : (d : Sections) (us : List IndexedUnit) (p q : List Bool) → StaysParsed p q → (probe : ℕ) (ranges : List UnitRange) → ready_along d us p probe ranges ≡ true → ready_along d us q probe ranges ≡ true
ready_more d us p q stays probe [] ready = refl
ready_more d us p q stays probe (r ∷ ranges) ready =
    both_more (has_parsed p r.unit) (ends_lookup (located_frames d us probe r.unit)) (ready_along d us p probe ranges) (has_parsed q r.unit) (ready_along d us q probe ranges) (stays r.unit) (ready_more d us p q stays probe ranges) ready

ready_later : (old new : ContextState) → new.sections ≡ old.sections → StaysParsed old.parsed new.parsed → (address : ℕ) → IsReadyAtAddress old address → IsReadyAtAddress new address
ready_later old new e p address (inl last) = inl last
ready_later old new e p address (inr ready) =
    inr (λ m made. subst (λ d. ready_along d m.units new.parsed address (cover address m.ranges) ≡ true) (sym e)
    (ready_more old.sections m.units old.parsed new.parsed p address (cover address m.ranges) (ready m (ap index_units (sym e) ∙ made))))

-- what is found later could be found before
found_before : (old new : ContextState) → new.sections ≡ old.sections → StaysParsed old.parsed new.parsed → (address : ℕ) (found : Loading (Option Location)) → MayFindBy new address found → MayFindBy old address found
found_before old new e p address found h = (
  subst (λ d. LoadsUnlessOom (λ x. x) found (of_file (location_of d address))) e h.0,
  λ ready. subst (λ d. Exactly (λ x. x) found (of_file (location_of d address))) e (h.1 (ready_later old new e p address ready)),
)

-- where a lookup waits for no split file, what it gives later it could give before
ended_before : (old new : ContextState) → StayEnded old new → (address : ℕ) (given : Loading (List FrameRecord)) → (WaitsForNone new address → LoadsUnlessOom (λ frames. frames) given (ended_frames_of new address))
    → WaitsForNone old address → LoadsUnlessOom (λ frames. frames) given (ended_frames_of old address)
ended_before old new stays address given h w = subst (λ stop. LoadsUnlessOom (λ frames. frames) given (stop_frames stop)) (stays address w) (h (ap is_waiting (stays address w) ∙ w))

-- where no unit covers an address, none does later
bare_later : (old new : ContextState) → new.sections ≡ old.sections → (address : ℕ) → (address ≡ last_address) ⊎ IsUncovered old address → (address ≡ last_address) ⊎ IsUncovered new address
bare_later old new e address (inl last) = inl last
bare_later old new e address (inr u) = inr (u.0, ap index_units e ∙ u.1, u.2)

same_answers : (old new : LoaderState) → new.files ≡ old.files → new.object ≡ old.object → Stays old.context new.context → StaysAnswered (loader_answers old) (loader_answers new)
same_answers old new files object s = record {
  locations = found_before old.context new.context s.sections s.parsed;
  frames = λ address given h. (
    subst (λ d. IfSome old.files (λ held. LoadsUnlessOom (λ frames. frames) given (frames_by_files held d old.context.answers address))) s.sections
        (subst (λ x. IfSome old.files (λ held. LoadsUnlessOom (λ frames. frames) given (frames_by_files held new.context.sections x address))) s.answers
        (subst (λ (f : Option ReadFiles). IfSome f (λ held. LoadsUnlessOom (λ frames. frames) given (frames_by_files held new.context.sections new.context.answers address))) files h.0)),
    ended_before old.context new.context (λ q w. ap (λ d. lookup_stop Stop d new.context.answers q) s.sections ∙ ap (λ x. lookup_stop Stop old.context.sections x q) s.answers) address given h.1,
    λ bare. h.2 (bare_later old.context new.context s.sections address bare),
  );
  symbol_at = ap (λ (o : ObjectFile). λ (address : ℕ). option_map (λ (x : NamedAddress). x.name) (symbol_at address o)) object;
  section_at = ap (λ (o : ObjectFile). λ (name : List ℕ). section_range_at name o) object;
  spans_in = ap (λ (d : Sections). λ (low high : ℕ). spans_of d low high) s.sections;
}

-- the same after a lookup of a location, and of the rows that a range meets
pub same_after_location : {X : Type 0} (probe : ℕ) (result : Loading (Option X)) (old new : LoaderState) → AfterLocation probe result old new → StaysAnswered (loader_answers old) (loader_answers new)
same_after_location probe result old new a = same_answers old new a.files a.object a.context.after.stays

pub same_after_range : {X : Type 0} (low high : ℕ) (result : Loading X) (old new : LoaderState) → AfterLocationRange low high result old new → StaysAnswered (loader_answers old) (loader_answers new)
same_after_range low high result old new a = same_answers old new a.files a.object a.context.stays

same_frames : (files : Option ReadFiles) (old new : ContextState) → IfSome files (λ held. GivesSameFrames held old new) → (address : ℕ) (given : Loading (List FrameRecord))
    → IfSome files (λ held. LoadsUnlessOom (λ frames. frames) given (frames_by_files held new.sections new.answers address)) → IfSome files (λ held. LoadsUnlessOom (λ frames. frames) given (frames_by_files held old.sections old.answers address))
same_frames None old new same address given h = tt
same_frames (Some held) old new same address given h = subst (λ frames. LoadsUnlessOom (λ x. x) given frames) (same address) h

-- the same after a lookup of frames, which adds first answers
pub same_after_loads : {X : Type 0} (see : X → List FrameRecord) (probe : ℕ) (result : Loading X) (old new : LoaderState) → AfterLoads see probe result old new → StaysAnswered (loader_answers old) (loader_answers new)
same_after_loads see probe result old new a = record {
  locations = found_before old.context new.context a.context.sections a.context.parsed;
  frames = λ address given h. (
    same_frames old.files old.context new.context a.context.frames address given
        (subst (λ (f : Option ReadFiles). IfSome f (λ held. LoadsUnlessOom (λ frames. frames) given (frames_by_files held new.context.sections new.context.answers address))) a.files h.0),
    ended_before old.context new.context a.context.ended address given h.1,
    λ bare. h.2 (bare_later old.context new.context a.context.sections address bare),
  );
  symbol_at = ap (λ (o : ObjectFile). λ (address : ℕ). option_map (λ (x : NamedAddress). x.name) (symbol_at address o)) a.object;
  section_at = ap (λ (o : ObjectFile). λ (name : List ℕ). section_range_at name o) a.object;
  spans_in = ap (λ (d : Sections). λ (low high : ℕ). spans_of d low high) a.context.sections;
}

-- a location, as it is seen
as_unless : {X Y : Type 0} (view : X → Y) (r : Loading X) (given : Loading Y) → LoadsUnlessOom view r given → LoadsUnlessOom (λ x. x) (result_map view r) given
as_unless view (Ok x) given h = h
as_unless view (Err e) given h = h

as_exactly : {X Y : Type 0} (view : X → Y) (r : Loading X) (given : Loading Y) → Exactly view r given → Exactly (λ x. x) (result_map view r) given
as_exactly view (Ok x) given h = h
as_exactly view (Err e) given h = h

by_files : {X : Type 0} (view : X → List FrameRecord) (files : Option ReadFiles) (c : ContextState) (address : ℕ) (r : Loading X) → IfSome files (λ held. LoadsUnlessOom view r (frames_by_files held c.sections c.answers address))
    → IfSome files (λ held. LoadsUnlessOom (λ frames. frames) (result_map view r) (frames_by_files held c.sections c.answers address))
by_files view None c address r h = tt
by_files view (Some held) c address r h = as_unless view r (frames_by_files held c.sections c.answers address) h

-- frames, as they are seen
pub gives_frames : {X : Type 0} (view : X → List FrameRecord) (l : LoaderState) (address : ℕ) (r : Loading X) → FindsFramesByFiles view l address r → MayGiveBy l address (result_map view r)
gives_frames view l address r given = (
  by_files view l.files l.context address r given.by_files,
  λ w. as_unless view r (ended_frames_of l.context address) (given.ended w),
  λ bare. elim bare [
    | inl e ↦ as_exactly view r (Ok []) (given.none (given.last e))
    | inr u ↦ as_exactly view r (Ok []) (given.none u)
  ],
)

-- where none is found, none is what is given
exactly_none : {X : Type 0} (view : X → Location) (r : Loading (Option X)) (given : Loading (Option Location)) → r ≡ Ok None → LoadsUnlessOom (option_map view) r given → Exactly (option_map view) r given
exactly_none view (Ok x) given e h = h
exactly_none view (Err x) given e h = absurd (cc)

-- a lookup finds what it may find
pub finds : {X : Type 0} (view : X → Location) (c : ContextState) (address : ℕ) (r : Loading (Option X)) → Locates OutOfMemory view c address r (of_file (location_of c.sections address)) → MayFindBy c address (result_map (option_map view) r)
finds view c address r given = (
  as_unless (option_map view) r (of_file (location_of c.sections address)) given.found,
  λ ready. elim ready [
    | inl e ↦ as_exactly (option_map view) r (of_file (location_of c.sections address)) (exactly_none view r (of_file (location_of c.sections address)) (given.none (given.last e)) given.found)
    | inr is ↦ as_exactly (option_map view) r (of_file (location_of c.sections address)) (given.exact is)
  ],
)

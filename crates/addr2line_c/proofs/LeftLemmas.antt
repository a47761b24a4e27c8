-- The context that a lookup leaves, by its status (on specs/Left.antt).
use Rattle.addr2line_c.proofs.Common.{◌≡◌, ◌≢◌, ◌⊎◌, ◌∙◌, inl, inr, ℕ, Bool, true, false, List, Option, Some, None, option_map, Result, Ok, Err, refl, sym, subst, Error, ExactlyUnlessOom, frames_left, result_map, WasNotRefused, Status, Nothing, Refused, Waits, after_reply, status_of_error}
use Rattle.std.specs.Prelude.{IfErr, IfOk}
use Rattle.std.specs.List.{AllByRecursion}
use Rattle.elf.specs.declared.error.LoaderError.TheVariants.{OutOfMemory}
use Rattle.elf.specs.Text.{loader_error_of}
use Rattle.addr2line_units.specs.declared.frames.FrameIter.{FrameIter}
use Rattle.addr2line_units.specs.declared.frames.OnFault.TheVariants.{Stop}
use Rattle.addr2line_units.specs.Locations.{is_found}
use Rattle.addr2line.specs.AfterLookups.{AfterFrames, AfterFramesOver, IsKnownFew}
use Rattle.addr2line.specs.Context.{AfterLookup, AfterRangeLookup, ContextState, IsReady, IsReadyForRange}
use Rattle.addr2line.specs.LoadsByFiles.{WaitsForNone}
use Rattle.addr2line.specs.WaitingLookups.{frames_of_context}
use Rattle.addr2line.specs.declared.names.Style.{Style}
use Rattle.addr2line.proofs.LoadingLemmas.{not_told}
use Rattle.addr2line.proofs.NoLoadLemmas.{few_stays}
use Rattle.addr2line_c.specs.declared.loads.AskedLoad.{AskedLoad}
use Rattle.addr2line_c.specs.Answered.{done_if}
use Rattle.addr2line_c.specs.Left.{LeavesFrames, LeavesLocation, LeavesRange, MayBeRefused, WaitsForNew, found_some, status_by, was_made}
use Rattle.addr2line_c.specs.PlainNames.{HasPlainName}
use Rattle.addr2line_c.proofs.PlainNameLemmas.{found_plain}

-- what was found is no refusal
done_is_no_refusal : (fits : Bool) → done_if fits ≢ Refused OutOfMemory
done_is_no_refusal true q = absurd cc
done_is_no_refusal false q = absurd cc

-- a lookup that had memory is not refused it
pub was_not_refused : {X : Type 0} (missing : Status) (fits : Bool) (r : Result (Option X) Error) (s : Status)
    → missing ≢ Refused OutOfMemory → s ≡ status_by missing fits r → WasNotRefused r → s ≢ Refused OutOfMemory
was_not_refused missing fits (Ok (Some x)) s ne is had q = done_is_no_refusal fits (sym is ∙ q)
was_not_refused missing fits (Ok None) s ne is had q = ne (sym is ∙ q)
was_not_refused missing fits (Err e) s ne is had q = refused (sym is ∙ q)
  where
    refused : Refused (loader_error_of e) ≡ Refused OutOfMemory → ⊥
    refused w = not_told e had cc

reply_not_refused : {X : Type 0} (fits : Bool) (r : Result X Error) (s : Status)
    → s ≡ after_reply (was_made r) (done_if fits) → WasNotRefused r → s ≢ Refused OutOfMemory
reply_not_refused fits (Ok x) s is had q = done_is_no_refusal fits (sym is ∙ q)
reply_not_refused fits (Err e) s is had q = refused (sym is ∙ q)
  where
    refused : Refused (loader_error_of e) ≡ Refused OutOfMemory → ⊥
    refused w = not_told e had cc

-- nothing of what was found but whether there is something
abbrev came_to : {X : Type 0} → Result (Option X) Error → Result (Option (Unit {0})) Error
came_to r = result_map (option_map (λ _. tt {0})) r

came_status : {X : Type 0} (missing : Status) (fits : Bool) (r : Result (Option X) Error)
    → status_by missing fits r ≡ status_by missing fits (came_to r)
came_status missing fits (Ok (Some x)) = refl
came_status missing fits (Ok None) = refl
came_status missing fits (Err e) = refl

-- a lookup has left the same context whatever it found
checked_alike : {X Y : Type 0} (probe : ℕ) (r : Result (Option X) Error) (q : Result (Option Y) Error)
    (old new : ContextState) → (WasNotRefused q → WasNotRefused r) → (WasNotRefused r → WasNotRefused q)
    → is_found q ≡ is_found r → AfterLookup probe r old new → AfterLookup probe q old new
checked_alike probe r q old new to from found a = record {
  stays = a.stays;
  ready = λ had. a.ready (to had);
  memory = λ ready. from (a.memory ready);
  only = a.only;
  same = a.same;
  raised = a.raised;
  counted = λ is. a.counted (sym found ∙ is);
  cost = a.cost;
}

checked_came : {X : Type 0} (probe : ℕ) (r : Result (Option X) Error) (old new : ContextState)
    → AfterLookup probe r old new → AfterLookup probe (came_to r) old new
checked_came probe (Ok (Some x)) old new a = checked_alike probe (Ok (Some x)) (Ok (Some tt)) old new (λ h. h) (λ h. h) refl a
checked_came {X} probe (Ok None) old new a = checked_alike {X = X} probe (Ok None) (Ok None) old new (λ h. h) (λ h. h) refl a
checked_came {X} probe (Err e) old new a = checked_alike {X = X} probe (Err e) (Err e) old new (λ h. h) (λ h. h) refl a

pub leaves_location : {X : Type 0} (probe : ℕ) (fits : Bool) (s : Status) (r : Result (Option X) Error)
    (old new : ContextState) → s ≡ status_by Nothing fits r → AfterLookup probe r old new
    → LeavesLocation probe fits s old new
leaves_location probe fits s r old new is a = record {
  came = came_to r;
  status = is ∙ came_status Nothing fits r;
  after = checked_came probe r old new a;
}

-- where it was ready, it had memory
pub location_not_refused : {X : Type 0} (probe : ℕ) (fits : Bool) (s : Status) (r : Result (Option X) Error)
    (old new : ContextState) → s ≡ status_by Nothing fits r → AfterLookup probe r old new
    → IsReady old probe → s ≢ Refused OutOfMemory
location_not_refused probe fits s r old new is a ready = was_not_refused Nothing fits r s (λ q. absurd cc) is
    (a.memory (subst (λ d. IsReady (record new { sections = d }) probe) (sym a.stays.sections)
    (subst (λ p. IsReady (record old { parsed = p }) probe) (sym (a.same ready)) ready)))

-- the same of the rows of a range
range_came : {X : Type 0} (low high : ℕ) (r : Result X Error) (old new : ContextState)
    → AfterRangeLookup low high r old new
    → AfterRangeLookup low high (was_made r) old new
range_came low high (Ok x) old new a = record {
  stays = a.stays;
  ready = a.ready;
  memory = a.memory;
  only = a.only;
  same = a.same;
  steps = a.steps;
}
range_came low high (Err e) old new a = record {
  stays = a.stays;
  ready = a.ready;
  memory = a.memory;
  only = a.only;
  same = a.same;
  steps = a.steps;
}

pub leaves_range : {X : Type 0} (low high : ℕ) (fits : Bool) (s : Status) (r : Result X Error)
    (old new : ContextState) → s ≡ after_reply (was_made r) (done_if fits)
    → AfterRangeLookup low high r old new → LeavesRange low high fits s old new
leaves_range low high fits s r old new is a =
    record { came = was_made r; status = is; after = range_came low high r old new a }

pub range_not_refused : {X : Type 0} (low high : ℕ) (fits : Bool) (s : Status) (r : Result X Error)
    (old new : ContextState) → s ≡ after_reply (was_made r) (done_if fits)
    → AfterRangeLookup low high r old new → IsReadyForRange old low high → s ≢ Refused OutOfMemory
range_not_refused low high fits s r old new is a ready = reply_not_refused fits r s is
    (a.memory (subst (λ d. IsReadyForRange (record new { sections = d }) low high) (sym a.stays.sections)
    (subst (λ p. IsReadyForRange (record old { parsed = p }) low high) (sym (a.same ready)) ready)))

-- the same of frames
frames_came : {X : Type 0} (probe : ℕ) (r : Result X Error) (old new : ContextState)
    → AfterFrames Stop probe r old new
    → AfterFrames Stop probe (found_some r) old new
frames_came probe (Ok x) old new a = record {
  sections = a.sections;
  answers = a.answers;
  parsed = a.parsed;
  known = a.known;
  only = a.only;
  learns = a.learns;
  details = a.details;
  raised = a.raised;
  ready = a.ready;
  memory = a.memory;
}
frames_came probe (Err e) old new a = record {
  sections = a.sections;
  answers = a.answers;
  parsed = a.parsed;
  known = a.known;
  only = a.only;
  learns = a.learns;
  details = a.details;
  raised = a.raised;
  ready = a.ready;
  memory = a.memory;
}

-- where frames were found, memory was refused for names alone
frames_status : {R S : Type 0} (probe : ℕ) (names : Option Style) (fits : Bool) (s : Status)
    (found : Result (FrameIter R) Error) (asked : List (AskedLoad S)) (old : ContextState)
    → (s ≡ Refused OutOfMemory) ⊎ (s ≡ status_by Waits fits (found_some found))
    → IfErr found (λ e. s ≡ status_of_error e)
    → (names ≡ None → s ≡ status_by Waits fits (found_some found))
    → (IfOk found (λ i. AllByRecursion HasPlainName (frames_left i)) → s ≡ status_by Waits fits (found_some found))
    → ExactlyUnlessOom (λ (i : FrameIter R). Some (frames_left i)) found (frames_of_context old probe)
    → (s ≡ status_by Waits fits (found_some found))
    ⊎ ((s ≡ Refused OutOfMemory) × MayBeRefused names probe old asked (found_some found))
frames_status probe names fits s found asked old (inr is) fault raw plain told = inl is
frames_status probe names fits s (Err e) asked old (inl oom) fault raw plain told = inl fault
frames_status probe names fits s (Ok frames) asked old (inl oom) fault raw plain told = inr (
  oom,
  (
    λ none. done_is_no_refusal fits (sym (raw none) ∙ oom),
    λ all. done_is_no_refusal fits (sym (plain (found_plain (Ok frames) (frames_of_context old probe) told all)) ∙ oom),
  ),
)

pub leaves_frames : {R S : Type 0} (shares : Bool) (probe : ℕ) (names : Option Style) (fits : Bool) (s : Status)
    (found : Result (FrameIter R) Error) (asked : List (AskedLoad S)) (old new : ContextState)
    → (s ≡ Refused OutOfMemory) ⊎ (s ≡ status_by Waits fits (found_some found))
    → IfErr found (λ e. s ≡ status_of_error e)
    → (names ≡ None → s ≡ status_by Waits fits (found_some found))
    → (IfOk found (λ i. AllByRecursion HasPlainName (frames_left i)) → s ≡ status_by Waits fits (found_some found))
    → ExactlyUnlessOom (λ (i : FrameIter R). Some (frames_left i)) found (frames_of_context old probe)
    → AfterFramesOver shares Stop probe found old new
    → LeavesFrames probe names fits s asked old new
leaves_frames shares probe names fits s found asked old new is fault raw plain told a = record {
  came = found_some found;
  status = frames_status probe names fits s found asked old is fault raw plain told;
  after = frames_came probe found old new a.after;
}

-- a lookup that waits has left the context so
pub leaves_waiting : {S : Type 0} (probe : ℕ) (names : Option Style) (fits : Bool) (s : Status)
    (asked : List (AskedLoad S)) (old new held : ContextState)
    → (s ≡ Waits) ⊎ ((s ≡ Refused OutOfMemory) × WaitsForNew probe old asked) → new ≡ held
    → AfterFrames {X = Unit {0}} Stop probe (Ok tt) old held
    → LeavesFrames probe names fits s asked old new
leaves_waiting probe names fits s asked old new held is same a =
    subst (λ n. LeavesFrames probe names fits s asked old n) (sym same) (record {
      came = Ok None;
      status = is;
      after = record {
        sections = a.sections;
        answers = a.answers;
        parsed = a.parsed;
        known = a.known;
        only = a.only;
        learns = a.learns;
        details = a.details;
        raised = a.raised;
        ready = a.ready;
        memory = a.memory;
      };
    })

pub frames_not_refused : {X : Type 0} (shares : Bool) (probe : ℕ) (fits : Bool) (s : Status) (r : Result X Error)
    (old new : ContextState) → s ≡ status_by Waits fits (found_some r)
    → AfterFramesOver shares Stop probe r old new → WaitsForNone old probe → IsKnownFew Stop old probe
    → s ≢ Refused OutOfMemory
frames_not_refused {X} shares probe fits s r old new is a ended few =
    was_not_refused Waits fits (found_some r) s (λ q. absurd cc) is (by r a.after)
  where
    by : (r : Result X Error) → AfterFrames Stop probe r old new → WasNotRefused (found_some r)
    by (Ok x) b = tt
    by (Err e) b = b.memory (few_stays probe old new b.sections b.answers b.known b.parsed few) ended

-- What answers to loads come to (on specs/LoadCalls.antt).
use Rattle.addr2line_c.proofs.Common.{◌≡◌, ◌≢◌, ◌&&◌, ◌++◌, ◌∙◌, inl, inr, ℕ, Bool, true, false, not, List, [], ◌∷◌, Option, Some, None, Result, Ok, Err, ap, refl, sym, subst, Error, IsUnlessOom, SplitLoad, or_none, Status, Done, OtherUnit, Refused, after_reply, status_of_error}
use Rattle.std.specs.Prelude.{◌||◌, OnOk, is_some, if◌then◌else◌}
use Rattle.gimli_read.specs.Reading.{Exactly}
use Rattle.gimli_read.specs.declared.error.Error.TheVariants as reading
use Rattle.gimli.specs.Sections.{Sections}
use Rattle.elf.specs.declared.error.LoaderError.{LoaderError}
use Rattle.elf.specs.declared.error.LoaderError.TheVariants as loading
use Rattle.elf.specs.Loading.{Loading, LoadsUnlessOom}
use Rattle.addr2line_units.specs.declared.parses.ReadingDepth.{ReadingDepth}
use Rattle.addr2line_units.specs.declared.parses.ReadingDepth.TheVariants.{Details}
use Rattle.addr2line_units.specs.EntriesMemory.{lines_of_take_memory}
use Rattle.addr2line_units.specs.FramesLookup.{main_scope}
use Rattle.addr2line_units.specs.LocationsParsed.{AreAllParsed}
use Rattle.addr2line_units.specs.Parses.{AreReadyFor}
use Rattle.addr2line_units.specs.UnitsIndex.{index_units}
use Rattle.addr2line_units.specs.UnitsRanged.{unit_records}
use Rattle.addr2line.specs.Context.{AfterParsingLines, ContextState, IsReadyForAll, ParsesNoMemory, lines_of_all}
use Rattle.addr2line.specs.Loads.{AfterLoading, AfterLoadingOver, AfterParse, IsAllKnown, IsReadyToRead, ReachesAllOf, load_reply, parse_reply}
use Rattle.addr2line_units.proofs.EntriesStayLemmas.{same_stays_known}
use Rattle.addr2line_c.specs.declared.loads.AskedLoad.{AskedLoad}
use Rattle.addr2line.specs.WarmUp.{IsWarm}
use Rattle.addr2line_c.specs.LoadCalls.{AnswersLoadAs, AsksForAll, AsksForSome, AsksUpToNew, is_out_of_memory, status_of_all, status_of_answer, status_of_none}

-- what is said of a file that could be read
pub found_status : (has_file is_found : Bool) (found : Option Sections) → is_some found ≡ is_found
    → (if has_file && not is_found then OtherUnit else Done) ≡ status_of_answer has_file (Ok found)
found_status true true None is = absurd cc
found_status true false None is = refl
found_status true true (Some d) is = refl
found_status true false (Some d) is = absurd cc
found_status false b None is = refl
found_status false b (Some d) is = refl

-- where memory is refused before a load is answered, nothing is changed
pub no_answer : (n : ℕ) (given : Option Sections) (c : ContextState)
    → AfterLoading n given (Err reading.OutOfMemory) c c
no_answer n given c = record {
  stays = record { sections = refl; parsed = refl; steps = refl };
  answers = λ had. absurd (had refl);
  begun = inl refl;
  refused = λ ne. (refl, λ k. same_stays_known k c.known c.known refl);
  known = λ m e shut k. same_stays_known k c.known c.known refl;
  same = λ first is. refl;
  others = λ k ne. refl;
  functions = λ k. inl refl;
}

-- the load was answered by what was read
pub answers_as : (has_file : Bool) (given read : Loading (Option Sections)) (n : ℕ) (s : Status)
    (old new : ContextState) (reply : Result (Unit {0}) Error) → given ≡ read
    → IsUnlessOom reply (load_reply old.sections old.answers n (or_none read))
    → s ≡ after_reply reply (status_of_answer has_file read) → AfterLoading n (or_none read) reply old new
    → AnswersLoadAs has_file given n s old new
answers_as has_file given read n s old new reply is told status after =
    subst (λ g. AnswersLoadAs has_file g n s old new) (sym is)
    (record { reply = reply; gives = told; status = status; after = after })

-- none is answered without memory
pub answers_none : (shares has_file : Bool) (sections : Option Sections) (n : ℕ) (status s : Status)
    (old new : ContextState) (reply : Result (Unit {0}) Error) → has_file ≡ false → sections ≡ None
    → status ≡ status_of_answer has_file (Ok sections)
    → AfterLoadingOver shares n sections reply old new → s ≡ after_reply reply status
    → s ≡ status_of_none old n
answers_none shares true sections n status s old new reply empty gone told after is = absurd cc
answers_none shares false (Some d) n status s old new reply empty gone told after is = absurd cc
answers_none shares false None n status s old new reply empty gone told after is =
    is ∙ ap (after_reply reply) told ∙ ap (λ r. after_reply r Done) (after.exact refl)

-- what was read of a file that is refused
pub loads_refused : {X Y : Type 0} (see : X → Y) (r : Loading X) (given : Loading Y) (e : LoaderError)
    → r ≡ Err e → LoadsUnlessOom see r given → e ≢ loading.OutOfMemory → given ≡ Err e
loads_refused see r given e is told = subst (λ x. LoadsUnlessOom see x given) is told

-- memory was refused while the file was read
pub answers_refused : (has_file : Bool) (given : Loading (Option Sections)) (n : ℕ) (c : ContextState)
    → AnswersLoadAs has_file given n (status_of_error reading.OutOfMemory) c c
answers_refused has_file given n c = record {
  reply = Err reading.OutOfMemory;
  gives = λ ne. absurd (ne refl);
  status = refl;
  after = no_answer n (or_none given) c;
}

-- whether it is memory that a refusal says was refused
is_oom : (e : LoaderError) → is_out_of_memory (Refused e) ≡ true → e ≡ loading.OutOfMemory
is_oom loading.OutOfMemory h = refl
is_oom _ h = absurd cc

not_oom : (e : LoaderError) → is_out_of_memory (Refused e) ≡ false → e ≢ loading.OutOfMemory
not_oom e is q = let t : true ≡ false = sym (ap (λ x. is_out_of_memory (Refused x)) q) ∙ is in absurd cc

-- the file of a load was refused
pub none_refused : (has_file : Bool) (given : Loading (Option Sections)) (n : ℕ) (e : LoaderError)
    (s : Status) (c : ContextState) → s ≡ Refused e → is_out_of_memory s ≡ true
    → AnswersLoadAs has_file given n s c c
none_refused has_file given n e s c is out =
    let oom : e ≡ loading.OutOfMemory = is_oom e (ap is_out_of_memory (sym is) ∙ out) in
    subst (λ x. AnswersLoadAs has_file given n x c c) (sym (is ∙ ap (λ x. Refused x) oom))
    (answers_refused has_file given n c)

pub none_given : (has_file : Bool) (given : Loading (Option Sections)) (n : ℕ) (e : LoaderError)
    (s refused : Status) (old new : ContextState) (reply : Result (Unit {0}) Error)
    → refused ≡ Refused e → is_out_of_memory refused ≡ false
    → (e ≢ loading.OutOfMemory → given ≡ Err e)
    → IsUnlessOom reply (load_reply old.sections old.answers n None)
    → s ≡ after_reply reply refused → AfterLoading n None reply old new
    → AnswersLoadAs has_file given n s old new
none_given has_file given n e s refused old new reply is out told gives status after =
    answers_as has_file given (Err e) n s old new reply
    (told (not_oom e (ap is_out_of_memory (sym is) ∙ out))) gives
    (status ∙ ap (after_reply reply) is) after

module _ {R : Type 0} where
  -- memory was refused for a load
  pub asks_some : (loads : List SplitLoad) (asked left : List (AskedLoad R)) (e : Error) (s : Status)
      → s ≡ status_of_error e → e ≡ reading.OutOfMemory → AsksForSome loads asked left
      → AsksForAll loads asked left s
  asks_some loads asked left e s is oom some =
      subst (AsksForAll loads asked left) (sym (is ∙ ap status_of_error oom)) (refl, some)

  -- before any was asked for
  pub asks_none : (loads : List SplitLoad) (asked : List (AskedLoad R)) → AsksForSome loads asked asked
  asks_none loads asked = inl refl

  -- before a new one
  pub asks_up_to : (loads : List SplitLoad) (asked left : List (AskedLoad R)) → AsksUpToNew loads asked left
      → AsksForSome loads asked left
  asks_up_to loads asked left new = inr new

  -- where none are wanted, none is new
  pub none_wanted : (loads : List SplitLoad) (asked left : List (AskedLoad R)) → loads ≡ []
      → AsksUpToNew loads asked left → ⊥
  none_wanted loads asked left none new = holds_one new.0 new.1 new.2 (new.3 ∙ none)
    where
      holds_one : (first rest : List SplitLoad) (load : SplitLoad) → first ++ load ∷ rest ≡ [] → ⊥
      holds_one [] rest load is = absurd cc
      holds_one (x ∷ first) rest load is = absurd cc

-- what is parsed takes no memory
pub parsed_takes_none : (shares : Bool) (c : ContextState) → IsReadyForAll c → ParsesNoMemory shares c
parsed_takes_none shares c ready = λ m made n asked.
    ap (λ b. b || not (lines_of_take_memory shares m.units n)) (ready m made n asked)

-- an answer without memory is what is given
told_exactly : (r given : Result (Unit {0}) Error) → Exactly (λ x. x) r given → r ≡ given
told_exactly (Ok x) given is = sym is
told_exactly (Err e) given is = sym is

-- what a parse of functions reads is known by the units and their answers alone
ready_still : (depth : ReadingDepth) (old new : ContextState) → new.sections ≡ old.sections
    → new.answers ≡ old.answers → new.known ≡ old.known → IsReadyToRead depth old
    → IsReadyToRead depth new
ready_still depth old new sections answers known ready = λ m made.
    subst (λ d. AreReadyFor depth (main_scope d m) (unit_records m.units) new.answers new.known) (sym sections)
    (subst (λ a. AreReadyFor depth (main_scope old.sections m) (unit_records m.units) a new.known) (sym answers)
    (subst (λ k. AreReadyFor depth (main_scope old.sections m) (unit_records m.units) old.answers k) (sym known)
    (ready m (ap index_units (sym sections) ∙ made))))

-- where all is read, both parses give what the units do
pub reads_nothing : (shares : Bool) (lines functions : Result (Unit {0}) Error) (old mid new : ContextState)
    (s : Status) → AfterParsingLines shares lines old mid → AfterParse Details functions mid new
    → s ≡ after_reply lines (after_reply functions Done) → IsReadyForAll old
    → IsReadyToRead Details old → s ≡ status_of_all old
reads_nothing shares lines functions old mid new s a b is parsed known =
    let first : lines ≡ lines_of_all old.sections =
    told_exactly lines (lines_of_all old.sections) (a.exact (parsed_takes_none shares old parsed)) in
    let second : functions ≡ parse_reply Details old.sections old.answers =
    b.exact (ready_still Details old mid a.stays.sections a.stays.answers a.stays.known known)
    ∙ ap (λ d. parse_reply Details d mid.answers) a.stays.sections
    ∙ ap (parse_reply Details old.sections) a.stays.answers in
    is ∙ ap (λ r. after_reply r (after_reply functions Done)) first
    ∙ ap (λ r. after_reply (lines_of_all old.sections) (after_reply r Done)) second

-- all is read where neither parse was refused
pub warm_when_done : (lines functions : Result (Unit {0}) Error) (old mid new : ContextState)
    → IsUnlessOom lines (lines_of_all old.sections) → OnOk lines (AreAllParsed mid.parsed)
    → mid.sections ≡ old.sections → new.sections ≡ mid.sections → new.parsed ≡ mid.parsed
    → OnOk functions (IsAllKnown new) → OnOk functions (ReachesAllOf new)
    → after_reply lines (after_reply functions Done) ≡ Done → IsWarm new
warm_when_done (Err e) functions old mid new told parsed same stay stays known reaches done = absurd cc
warm_when_done (Ok x) (Err e) old mid new told parsed same stay stays known reaches done = absurd cc
warm_when_done (Ok x) (Ok y) old mid new told parsed same stay stays known reaches done = record {
  lines = ap lines_of_all (stay ∙ same) ∙ told;
  parsed = subst AreAllParsed (sym stays) parsed;
  known = known;
  reaches = reaches;
}

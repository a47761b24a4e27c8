-- Histories of a context (DWARF 5, section 7.3.2, for the loads that lookups wait for): the replies
-- to calls made one after another, and the first answers that they leave. Of a context nothing but
-- its sections and the first answers of its units decides a reply.
-- Own: a lookup takes the answers that it is given in turn, one for each load that it waits for; it
-- is left at its load where it is given up, or where no answer is left.
use Rattle.std.specs.Prelude.{◌≡◌, ◌⊎◌, ℕ, List, [], ◌∷◌, map, take, Option, IfErr, OnOk, Result, Ok, Err}
use Rattle.addr2line.specs.Common.{Error, OutOfMemory, Sections, OnFault, Stop, Skip, LookupStop, Waits, Finds, FindsNothing, main_scope, forgotten, location_of, spans_of, StaysParsed, UnitIndex, index_units, unit_records, FirstAnswers}
use Rattle.addr2line_units.specs.declared.parses.ReadingDepth.{ReadingDepth}
use Rattle.addr2line_units.specs.Parses.{AreFirstDecided}
use Rattle.addr2line.specs.Answers.{answered}
use Rattle.addr2line.specs.Context.{ContextState, lines_of_all}
use Rattle.addr2line.specs.Loads.{forget_reply, load_reply, parse_reply, parsed_answers}
use Rattle.addr2line.specs.Lookups.{loads_at, lookup_stop, unit_of}
use Rattle.addr2line.specs.Replies.{CopiedReply, Located, Ended, Listed, copied_load, reply_of_frames, reply_of_range, reply_of_unit}

-- what a lookup is given that waits: the sections of the split file, or none; or it is given up
pub data Given : Type 0 where
  Answered : Option Sections → Given
  Abandoned : Given

-- a call
pub data HistoryCall : Type 0 where
  AsksLocation : ℕ → HistoryCall
  AsksRange : ℕ → ℕ → HistoryCall
  AsksFrames : ℕ → List Given → HistoryCall
  AsksUnit : ℕ → List Given → HistoryCall
  AsksLoads : ℕ → HistoryCall
  AnswersLoad : ℕ → Option Sections → HistoryCall
  Forgets : ℕ → HistoryCall
  ParsesLines : HistoryCall
  ParsesFunctions : ReadingDepth → HistoryCall

-- what goes on where a lookup waits for the unit of a number, else what there is already
abbrev pub where_waiting : {X : Type 0} → (ℕ → X) → X → Result LookupStop Error → X
where_waiting goes_on x (Ok (Waits n)) = goes_on n
where_waiting goes_on x (Ok (Finds n frames)) = x
where_waiting goes_on x (Ok FindsNothing) = x
where_waiting goes_on x (Err e) = x

-- the first answers once a lookup was given these answers, each for the unit that it waits for then
abbrev pub answers_given : OnFault → Sections → ℕ → FirstAnswers → List Given → FirstAnswers
answers_given faults d probe answers [] = answers
answers_given faults d probe answers (Abandoned ∷ given) = answers
answers_given faults d probe answers (Answered x ∷ given) = where_waiting
    (λ n. answers_given faults d probe (answered d answers n x) given) answers
    (lookup_stop faults d answers probe)

-- the first answers after a call
abbrev pub answers_left : Sections → FirstAnswers → HistoryCall → FirstAnswers
answers_left d answers (AsksLocation probe) = answers
answers_left d answers (AsksRange low high) = answers
answers_left d answers (AsksFrames probe given) = answers_given Stop d probe answers given
answers_left d answers (AsksUnit probe given) = answers_given Skip d probe answers given
answers_left d answers (AsksLoads probe) = answers
answers_left d answers (AnswersLoad n x) = answered d answers n x
answers_left d answers (Forgets n) = forgotten answers n
answers_left d answers ParsesLines = answers
answers_left d answers (ParsesFunctions depth) = parsed_answers depth d answers

-- what a lookup of frames replies by these first answers
abbrev pub frames_replied : Sections → ℕ → FirstAnswers → CopiedReply
frames_replied d probe answers = reply_of_frames (lookup_stop Stop d answers probe)

-- what a lookup of a unit replies by these first answers
abbrev pub unit_replied : Sections → ℕ → FirstAnswers → CopiedReply
unit_replied d probe answers =
    reply_of_unit (lookup_stop Skip d answers probe) (unit_of d answers probe)

-- the reply to a call; a lookup's is by the first answers that it leaves
abbrev pub reply_to : Sections → FirstAnswers → HistoryCall → CopiedReply
reply_to d answers (AsksLocation probe) = Located (location_of d probe)
reply_to d answers (AsksRange low high) = reply_of_range (spans_of d low high)
reply_to d answers (AsksFrames probe given) =
    frames_replied d probe (answers_given Stop d probe answers given)
reply_to d answers (AsksUnit probe given) =
    unit_replied d probe (answers_given Skip d probe answers given)
reply_to d answers (AsksLoads probe) = Listed (map copied_load (loads_at d answers probe))
reply_to d answers (AnswersLoad n x) = Ended (load_reply d answers n x)
reply_to d answers (Forgets n) = Ended (forget_reply d n)
reply_to d answers ParsesLines = Ended (lines_of_all d)
reply_to d answers (ParsesFunctions depth) = Ended (parse_reply depth d answers)

-- the replies to calls, one for each
abbrev pub replies_to : Sections → FirstAnswers → List HistoryCall → List CopiedReply
replies_to d answers [] = []
replies_to d answers (call ∷ calls) =
    reply_to d answers call ∷ replies_to d (answers_left d answers call) calls

-- the first answers after calls
abbrev pub answers_after : Sections → FirstAnswers → List HistoryCall → FirstAnswers
answers_after d answers [] = answers
answers_after d answers (call ∷ calls) = answers_after d (answers_left d answers call) calls

-- the first answers where a call has begun: none of its decisions were made, or the first of them
abbrev pub HasBegun : Sections → FirstAnswers → HistoryCall → FirstAnswers → Type 0
HasBegun d old (AsksFrames probe given) new =
    (n : ℕ) × (new ≡ answers_given Stop d probe old (take n given))
HasBegun d old (AsksUnit probe given) new =
    (n : ℕ) × (new ≡ answers_given Skip d probe old (take n given))
HasBegun d old (ParsesFunctions depth) new = (m : UnitIndex) → index_units d ≡ Ok m
    → AreFirstDecided depth (main_scope d m) (unit_records m.units) old new
HasBegun d old (AsksLocation probe) new = new ≡ old
HasBegun d old (AsksRange low high) new = new ≡ old
HasBegun d old (AsksLoads probe) new = new ≡ old
HasBegun d old (AnswersLoad n x) new = (new ≡ old) ⊎ (new ≡ answered d old n x)
HasBegun d old (Forgets n) new = new ≡ old
HasBegun d old ParsesLines new = new ≡ old

-- calls were made up to one that has begun
abbrev pub IsCutShort : Sections → FirstAnswers → List HistoryCall → FirstAnswers → Type 0
IsCutShort d old [] new = new ≡ old
IsCutShort d old (call ∷ calls) new =
    HasBegun d old call new ⊎ IsCutShort d (answers_left d old call) calls new

-- after calls: the first answers are these, or, where a growth was refused, those of calls that
-- have begun; the sections are the same, and what was parsed of lines stays parsed
pub record Leaves {X : Type 0} (left : FirstAnswers) (begun : FirstAnswers → Type 0)
    (result : Result X Error) (old new : ContextState) : Type 0 where
  pub sections : new.sections ≡ old.sections
  pub answers : OnOk result (new.answers ≡ left)
  pub refused : IfErr result (λ e. (e ≡ OutOfMemory) × begun new.answers)
  pub parsed : StaysParsed old.parsed new.parsed

-- after one call
abbrev pub AfterCall : {X : Type 0} → HistoryCall → Result X Error → ContextState → ContextState
    → Type 0
AfterCall call result old new = Leaves (answers_left old.sections old.answers call)
    (HasBegun old.sections old.answers call) result old new

-- after calls
abbrev pub AfterCalls : {X : Type 0} → List HistoryCall → Result X Error → ContextState
    → ContextState → Type 0
AfterCalls calls result old new = Leaves (answers_after old.sections old.answers calls)
    (IsCutShort old.sections old.answers calls) result old new

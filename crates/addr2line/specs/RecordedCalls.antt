-- Recorded calls and answers, as contracts see them.
use Rattle.std.specs.Prelude.{◌≡◌, ℕ, List, map, Option, Some, None, option_map, IfOk, Result}
use Rattle.addr2line.specs.Common.{Error, Sections, token_number}
use Rattle.addr2line_units.specs.declared.parses.ReadingDepth.TheVariants.{Details, Functions}
use Rattle.addr2line.specs.declared.reply.Reply.{Reply}
use Rattle.addr2line.specs.declared.session.Answer.{Answer}
use Rattle.addr2line.specs.declared.session.Answer.TheVariants.{Give, Abandon}
use Rattle.addr2line.specs.declared.session.Call.{Call}
use Rattle.addr2line.specs.declared.session.Call.TheVariants as calls
use Rattle.addr2line.specs.declared.session.Lookup.{Lookup}
use Rattle.addr2line.specs.declared.session.Lookup.TheVariants as lookups
use Rattle.addr2line.specs.Context.{ContextState}
use Rattle.addr2line.specs.History.{AfterCall, Given, Answered, Abandoned, HistoryCall, AsksLocation, AsksRange, AsksFrames, AsksUnit, AsksLoads, AnswersLoad, Forgets, ParsesLines, ParsesFunctions, reply_to}
use Rattle.addr2line.specs.OwnedReplies.{as_reply}

-- what is given: sections or none, or nothing where a lookup is given up
abbrev pub given_by : Option (Option Sections) → Given
given_by None = Abandoned
given_by (Some sections) = Answered sections

-- an answer
abbrev pub as_given : {R : Type 0} → Answer R → Given
as_given (Give sections) = Answered (option_map (λ d. d.value) sections)
as_given Abandon = Abandoned

-- a call
abbrev pub as_call : {R : Type 0} → Call R → HistoryCall
as_call (calls.Location probe) = AsksLocation probe
as_call (calls.LocationRange low high) = AsksRange low high
as_call (calls.Frames probe answers) = AsksFrames probe (map as_given answers.items)
as_call (calls.Unit probe answers) = AsksUnit probe (map as_given answers.items)
as_call (calls.Preload probe) = AsksLoads probe
as_call (calls.LoadUnit unit sections) =
    AnswersLoad (token_number unit) (option_map (λ d. d.value) sections)
as_call (calls.Forget unit) = Forgets (token_number unit)
as_call calls.ParseLines = ParsesLines
as_call calls.ParseFunctions = ParsesFunctions Functions
as_call calls.ParseInlinedFunctions = ParsesFunctions Details

-- a lookup that may wait, with what is given to its loads, as a call
abbrev pub asks_by : Lookup → ℕ → List Given → HistoryCall
asks_by lookups.Frames = AsksFrames
asks_by lookups.Unit = AsksUnit

-- a call was made: what it replies, unless memory was refused, and what it leaves
abbrev pub Makes : HistoryCall → Result Reply Error → ContextState → ContextState → Type 0
Makes call result old new =
    IfOk result (λ r. as_reply r ≡ reply_to old.sections old.answers call)
    × AfterCall call result old new

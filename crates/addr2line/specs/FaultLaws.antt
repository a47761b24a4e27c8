-- Nothing that the sections say of a context, of a lookup or of a reply is OutOfMemory (DWARF 5,
-- section 7.5): whatever the sections, the first answers and the address are, it is a value or
-- another fault.
-- Own: a refused growth alone answers OutOfMemory, so only where a contract allows it beside what
-- is given.
use Rattle.std.specs.Prelude.{ℕ, List, Option, IfOk}
use Rattle.std.specs.List.{AllByRecursion}
use Rattle.addr2line.specs.Common.{WasNotRefused, Sections, OnFault, location_of, spans_of, FirstAnswers}
use Rattle.gimli_read.specs.FaultLaws.{NoneWasRefused}
use Rattle.addr2line_units.specs.declared.parses.ReadingDepth.{ReadingDepth}
use Rattle.addr2line.specs.Context.{lines_of_all, new_context}
use Rattle.addr2line.specs.History.{HistoryCall, replies_to}
use Rattle.addr2line.specs.Loads.{forget_reply, load_reply, parse_reply}
use Rattle.addr2line.specs.Lookups.{frames_of, lookup_stop, unit_of}
use Rattle.addr2line.specs.Replies.{CopiedReply, Located, Ranged, Framed, Ended}

-- no context that is made is refused so, nor are the lines of all units, or a parse of their
-- functions
pub record ContextsAreNotRefused : Type 0 where
  pub made : (d : Sections) → WasNotRefused (new_context d)
  pub lines : (d : Sections) → WasNotRefused (lines_of_all d)
  pub functions : (depth : ReadingDepth) (d : Sections) (answers : FirstAnswers)
      → WasNotRefused (parse_reply depth d answers)

-- no location is, nor the rows of a range, or one of them
pub record LocationsAreNotRefused : Type 0 where
  pub location : (d : Sections) (probe : ℕ) → WasNotRefused (location_of d probe)
  pub range : (d : Sections) (low high : ℕ) → WasNotRefused (spans_of d low high)
  pub rows : (d : Sections) (low high : ℕ)
      → IfOk (spans_of d low high) (λ rows. NoneWasRefused rows)

-- no lookup of frames or of a unit is, whatever it comes to
pub record LookupsAreNotRefused : Type 0 where
  pub stop : (faults : OnFault) (d : Sections) (answers : FirstAnswers) (probe : ℕ)
      → WasNotRefused (lookup_stop faults d answers probe)
  pub frames : (d : Sections) (answers : FirstAnswers) (probe : ℕ)
      → WasNotRefused (frames_of d answers probe)
  pub unit : (d : Sections) (answers : FirstAnswers) (probe : ℕ)
      → WasNotRefused (unit_of d answers probe)

-- no answer to a load is, nor is it to forget one
pub record LoadsAreNotRefused : Type 0 where
  pub answer : (d : Sections) (answers : FirstAnswers) (n : ℕ) (given : Option Sections)
      → WasNotRefused (load_reply d answers n given)
  pub forget : (d : Sections) (n : ℕ) → WasNotRefused (forget_reply d n)

-- what a reply has is no refusal
abbrev pub ReplyIsNotRefused : CopiedReply → Type 0
ReplyIsNotRefused (Located result) = WasNotRefused result
ReplyIsNotRefused (Ranged rows) = NoneWasRefused rows
ReplyIsNotRefused (Framed result) = WasNotRefused result
ReplyIsNotRefused (Ended result) = WasNotRefused result
ReplyIsNotRefused _ = Unit {0}

-- none of the replies to calls is
abbrev pub RepliesAreNotRefused : Type 0
RepliesAreNotRefused = (d : Sections) (answers : FirstAnswers) (calls : List HistoryCall)
    → AllByRecursion ReplyIsNotRefused (replies_to d answers calls)

-- nothing of all that is
pub record ContextCallsAreNotRefused : Type 0 where
  pub contexts : ContextsAreNotRefused
  pub locations : LocationsAreNotRefused
  pub lookups : LookupsAreNotRefused
  pub loads : LoadsAreNotRefused
  pub replies : RepliesAreNotRefused

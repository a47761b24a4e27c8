-- Nothing that sections say of a context, of a lookup or of a reply is OutOfMemory (on specs/FaultLaws.antt).
use Rattle.addr2line.proofs.Common.{ℕ, List, [], ◌∷◌, Option, Result, Ok, Err, IfOk, Error, Sections, OnFault, Stop, Skip, cover, LookupStop, Waits, Finds, FindsNothing, main_scope, spans_of, unit_records, UnitIndex, FirstAnswers, View, lines_of_all, new_context, HistoryCall, AsksLocation, AsksRange, AsksFrames, AsksUnit, AsksLoads, AnswersLoad, Forgets, ParsesLines, ParsesFunctions, answers_given, answers_left, replies_to, reply_to, forget_reply, parse_reply, UnitResult, asked_of, found_at, lookup_stop, stop_in, unit_of, reply_of_frames, reply_of_range, reply_of_unit}
use Rattle.std.specs.List.{AllByRecursion}
use Rattle.gimli_read.specs.FaultLaws.{NoneWasRefused}
use Rattle.gimli_read.proofs.FaultLemmas.{IsByBytes, step, value, fault_of_is, not_refused}
use Rattle.addr2line_units.specs.declared.parses.ReadingDepth.{ReadingDepth}
use Rattle.addr2line_units.proofs.FaultLemmas.{all_lines_are, asked_frames_are, forget_result_is, index_units_is, load_result_is, location_of_is, ranged_units_are, read_of_units_is, spans_unrefused, stop_along_is, sup_units_are}
use Rattle.addr2line.specs.FaultLaws.{ReplyIsNotRefused}
use Rattle.addr2line.specs.Loads.{load_reply}

-- ---- contexts
pub new_context_is : (d : Sections) → IsByBytes (new_context d)
new_context_is d = step (ranged_units_are d) (λ units. step (sup_units_are d.sup) (λ sup. value))

pub lines_of_all_are : (d : Sections) → IsByBytes (lines_of_all d)
lines_of_all_are d = step (index_units_is d) (λ m. fault_of_is (all_lines_are d m.units))

pub parse_reply_is : (depth : ReadingDepth) (d : Sections) (answers : FirstAnswers) → IsByBytes (parse_reply depth d answers)
parse_reply_is depth d answers = step (index_units_is d) (λ m. read_of_units_is depth (main_scope d m) (unit_records m.units) answers)

-- ---- lookups
stop_in_is : (faults : OnFault) (d : Sections) (answers : FirstAnswers) (probe : ℕ) (m : UnitIndex) → IsByBytes (stop_in faults d answers probe m)
stop_in_is faults d answers probe m =
    stop_along_is (asked_of faults d answers probe m) (asked_frames_are faults (main_scope d m) m.units answers probe) (cover probe m.ranges)

pub lookup_stop_is : (faults : OnFault) (d : Sections) (answers : FirstAnswers) (probe : ℕ) → IsByBytes (lookup_stop faults d answers probe)
lookup_stop_is faults d answers probe = step (index_units_is d) (stop_in_is faults d answers probe)

pub found_are : {V : Type 0} (faults : OnFault) (value_of : LookupStop → Option View → V) (d : Sections) (answers : FirstAnswers) (probe : ℕ) → IsByBytes (found_at faults value_of d answers probe)
found_are faults value_of d answers probe = step (lookup_stop_is faults d answers probe) (λ s. value)

-- ---- loads
pub load_reply_is : (d : Sections) (answers : FirstAnswers) (n : ℕ) (given : Option Sections) → IsByBytes (load_reply d answers n given)
load_reply_is d answers n given = step (index_units_is d) (λ m. load_result_is d (unit_records m.units) answers n given)

pub forget_reply_is : (d : Sections) (n : ℕ) → IsByBytes (forget_reply d n)
forget_reply_is d n = step (index_units_is d) (λ m. forget_result_is (unit_records m.units) n)

-- ---- replies
range_replied : (d : Sections) (low high : ℕ) → ReplyIsNotRefused (reply_of_range (spans_of d low high))
range_replied d low high = by_result (spans_of d low high) (spans_unrefused d low high)
  where
    by_result : (r : Result _ Error) → IfOk r (λ rows. NoneWasRefused rows) → ReplyIsNotRefused (reply_of_range r)
    by_result (Ok rows) h = h
    by_result (Err e) h = tt

frames_replied_are : (stop : Result LookupStop Error) → IsByBytes stop → ReplyIsNotRefused (reply_of_frames stop)
frames_replied_are (Ok (Waits n)) h = tt
frames_replied_are (Ok (Finds n frames)) h = tt
frames_replied_are (Ok FindsNothing) h = tt
frames_replied_are (Err e) h = not_refused h

unit_replied_is : (stop : Result LookupStop Error) (found : UnitResult) → ReplyIsNotRefused (reply_of_unit stop found)
unit_replied_is (Ok (Waits n)) found = tt
unit_replied_is (Ok (Finds n frames)) found = tt
unit_replied_is (Ok FindsNothing) found = tt
unit_replied_is (Err e) found = tt

reply_is : (d : Sections) (answers : FirstAnswers) (call : HistoryCall) → ReplyIsNotRefused (reply_to d answers call)
reply_is d answers (AsksLocation probe) = not_refused (location_of_is d probe)
reply_is d answers (AsksRange low high) = range_replied d low high
reply_is d answers (AsksFrames probe given) = frames_replied_are _ (lookup_stop_is Stop d (answers_given Stop d probe answers given) probe)
reply_is d answers (AsksUnit probe given) =
    unit_replied_is (lookup_stop Skip d (answers_given Skip d probe answers given) probe) (unit_of d (answers_given Skip d probe answers given) probe)
reply_is d answers (AsksLoads probe) = tt
reply_is d answers (AnswersLoad n x) = not_refused (load_reply_is d answers n x)
reply_is d answers (Forgets n) = not_refused (forget_reply_is d n)
reply_is d answers ParsesLines = not_refused (lines_of_all_are d)
reply_is d answers (ParsesFunctions depth) = not_refused (parse_reply_is depth d answers)

pub replies_are : (d : Sections) (answers : FirstAnswers) (calls : List HistoryCall) → AllByRecursion ReplyIsNotRefused (replies_to d answers calls)
replies_are d answers [] = tt
replies_are d answers (call ∷ calls) = (reply_is d answers call, replies_are d (answers_left d answers call) calls)

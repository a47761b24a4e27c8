-- The frames at an address where files answer the loads of units (DWARF 5, sections 2.17, 3.3 and
-- 7.3.2).
-- Own: of the units that cover an address, each with its first answer or, where it is open, with
-- the one that is given to its load, the first counts that has a fault or frames.
use Rattle.std.specs.Prelude.{ℕ, List, [], ◌∷◌, slice_get, Option, Some, None, unwrap_or, Result, Ok}
use Rattle.addr2line.specs.Common.{Error, ◌>>=◌, Sections, Loading, Stop, cover, FrameRecord, LookupStop, answer_of, frames_found, main_scope, FramesResult, frames_in, UnitIndex, index_units, IndexedUnit, FirstAnswers, SplitLoad, awaited_load}
use Rattle.addr2line_lines.specs.References.{Scope}
use Rattle.addr2line_units.specs.declared.index.UnitRange.{UnitRange}
use Rattle.addr2line.specs.Context.{ContextState}
use Rattle.addr2line.specs.Files.{ReadFiles}
use Rattle.addr2line.specs.Lookups.{lookup_stop}
use Rattle.addr2line.specs.SplitFiles.{given_by_files, of_file}

-- the frames of a lookup that has ended, or its fault
abbrev pub stop_frames : Result LookupStop Error → Loading (List FrameRecord)
stop_frames stop = of_file stop >>= λ s. Ok (frames_found s)

-- the frames of a lookup that waits for no answer, whatever the files are, or its fault
abbrev pub ended_frames_of : ContextState → ℕ → Loading (List FrameRecord)
ended_frames_of c probe = stop_frames (lookup_stop Stop c.sections c.answers probe)

-- what answers the load of a unit
abbrev pub GivesAnswers : Type 0
GivesAnswers = SplitLoad → Loading (Option Sections)

-- the first answer of a unit, or the one that is given to the load that it waits for
abbrev pub answer_by : GivesAnswers → Option SplitLoad → Option (Option Sections)
    → Loading (Option (Option Sections))
answer_by give None answer = Ok answer
answer_by give (Some load) answer = give load >>= λ given. Ok (Some given)

-- the frames in a unit that is decided, or its fault
abbrev pub frames_or_fault : FramesResult → Loading (List FrameRecord)
frames_or_fault frames = of_file frames >>= λ found. Ok (unwrap_or found [])

-- the frames at the probe in a unit of this number with this first answer
abbrev pub frames_with : GivesAnswers → Scope → ℕ → ℕ → Option (Option Sections) → IndexedUnit
    → Loading (List FrameRecord)
frames_with give scope probe n answer u =
    answer_by give (awaited_load scope.file.sections n u.unit answer) answer
    >>= λ decided. frames_or_fault (frames_in scope u decided probe)

-- the same of the unit of a number; where there is no such unit there are no frames
abbrev pub frames_of_unit : GivesAnswers → Scope → List IndexedUnit → FirstAnswers → ℕ → ℕ
    → Loading (List FrameRecord)
frames_of_unit give scope units answers probe n = elim (slice_get units n)
    [ None ↦ Ok [] | Some u ↦ frames_with give scope probe n (answer_of answers n) u ]

-- the frames that are here, or else those of the rest
abbrev pub or_rest : Loading (List FrameRecord) → List FrameRecord → Loading (List FrameRecord)
or_rest rest [] = rest
or_rest rest (f ∷ frames) = Ok (f ∷ frames)

-- the first frames along ranges, or the first fault
abbrev pub first_frames : (ℕ → Loading (List FrameRecord)) → List UnitRange
    → Loading (List FrameRecord)
first_frames frames [] = Ok []
first_frames frames (r ∷ ranges) = frames r.unit >>= or_rest (first_frames frames ranges)

-- the frames at the probe among the units of a file
abbrev pub frames_in_units : GivesAnswers → Sections → FirstAnswers → ℕ → UnitIndex
    → Loading (List FrameRecord)
frames_in_units give d answers probe m =
    first_frames (frames_of_unit give (main_scope d m) m.units answers probe) (cover probe m.ranges)

-- the frames at the probe, by the answers that are given
abbrev pub frames_by_answers : GivesAnswers → Sections → FirstAnswers → ℕ
    → Loading (List FrameRecord)
frames_by_answers give d answers probe =
    of_file (index_units d) >>= frames_in_units give d answers probe

-- the same, by files
abbrev pub frames_by_files : ReadFiles → Sections → FirstAnswers → ℕ → Loading (List FrameRecord)
frames_by_files read d answers probe = frames_by_answers (given_by_files read) d answers probe

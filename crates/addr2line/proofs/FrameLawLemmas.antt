-- How many frames a lookup finds (on specs/FrameLaws.antt).
use Rattle.addr2line.proofs.Common.{◌≡◌, ℕ, suc, Bool, true, false, List, [], ◌∷◌, length, reverse, slice_get, Option, Some, None, Result, Ok, Err, refl, sym, ap, subst, ◌∙◌, length-reverse, Error, ◌>>=◌, Section, Scope, OnFault, Stop, Skip, UnitRange, Sections, cover, FoundFunction, FrameRecord, found_frames, frames_from, LookupStop, Waits, Finds, FindsNothing, after_fault, answer_of, frames_of_number, main_scope, or_stop, stop_along, IndexedUnit, FramesResult, frames_by, frames_in, function_in, UnitIndex, FirstAnswers, is_open, stop_in, frames_by_lines}
use Rattle.std.specs.Prelude.{if◌then◌else◌}
use Rattle.gimli_read.specs.declared.constants.DwLang.{DwLang}
use Rattle.addr2line_lines.specs.InlinedEntries.{InlinedEntry}
use Rattle.addr2line_lines.specs.Location.{Location, location_at}
use Rattle.addr2line_lines.specs.UnitLines.{unit_lines}
use Rattle.addr2line.specs.FrameLaws.{HasFrameOfEach, frame_count, function_of_number}

-- one frame more than there are inlined functions
one_more : (files : List (List ℕ)) (language : Option DwLang) (offset : ℕ) (name : Option Section) (entries : List InlinedEntry) (location : Option Location) → length (frames_from files language offset name entries location) ≡ suc (length entries)
one_more files language offset name [] location = refl
one_more files language offset name (e ∷ entries) location = ap suc (one_more files language offset name entries _)

counted : (files : List (List ℕ)) (language : Option DwLang) (found : Option FoundFunction) (location : Option Location) (f : FrameRecord) (fs : List FrameRecord) → found_frames files language found location ≡ f ∷ fs
    → length (f ∷ fs) ≡ frame_count found
counted files language None None f fs is = absurd cc
counted files language None (Some l) f fs is = sym (ap length is)
counted files language (Some x) location f fs is =
    sym (ap length is) ∙ one_more files language x.offset x.name (reverse x.inlined) location ∙ ap suc (length-reverse x.inlined)

abbrev HasFound : Result (Option FoundFunction) Error → List FrameRecord → Type 0
HasFound function frames = (found : Option FoundFunction) × (function ≡ Ok found) × (length frames ≡ frame_count found)

-- in one unit
in_unit : (scope : Scope) (u : IndexedUnit) (answer : Option (Option Sections)) (probe : ℕ) (f : FrameRecord) (fs : List FrameRecord) → frames_in scope u answer probe ≡ Ok (Some (f ∷ fs)) → HasFound (function_in scope u.unit answer probe) (f ∷ fs)
unfolding frames_by_lines
in_unit scope u answer probe f fs is = by (is_open scope.file.sections u.unit answer) is
  where
    told : FramesResult
    told = frames_by u.language (unit_lines scope.file.sections u.unit) probe (function_in scope u.unit answer probe) >>= λ frames. Ok (Some frames)

    of_function : (r : Result (Option FoundFunction) Error) → (frames_by u.language (unit_lines scope.file.sections u.unit) probe r >>= λ frames. Ok (Some frames)) ≡ Ok (Some (f ∷ fs)) → HasFound r (f ∷ fs)
    of_function (Err x) e = absurd cc
    of_function (Ok found) e = of_lines (unit_lines scope.file.sections u.unit) e
      where
        of_lines : (r : Result _ Error) → ((r >>= λ lines. Ok (found_frames lines.files u.language found (location_at probe lines))) >>= λ frames. Ok (Some frames)) ≡ Ok (Some (f ∷ fs)) → HasFound (Ok found) (f ∷ fs)
        of_lines (Err x) k = absurd cc
        of_lines (Ok lines) k = (found, refl, counted lines.files u.language found (location_at probe lines) f fs cc)

    by : (b : Bool) → (if b then Ok None else told) ≡ Ok (Some (f ∷ fs)) → HasFound (function_in scope u.unit answer probe) (f ∷ fs)
    by true e = absurd cc
    by false e = of_function (function_in scope u.unit answer probe) e

-- in the unit of a number
in_number : (d : Sections) (m : UnitIndex) (answers : FirstAnswers) (probe n : ℕ) (f : FrameRecord) (fs : List FrameRecord) → frames_of_number (main_scope d m) m.units answers probe n ≡ Ok (Some (f ∷ fs))
    → HasFound (function_of_number d m answers probe n) (f ∷ fs)
in_number d m answers probe n f fs is = by (slice_get m.units n) is
  where
    by : (o : Option IndexedUnit) → ◌≡◌ {A = FramesResult} (elim o [ None ↦ Ok (Some []) | Some u ↦ frames_in (main_scope d m) u (answer_of answers n) probe ]) (Ok (Some (f ∷ fs)))
        → HasFound (elim o [ None ↦ Ok None | Some u ↦ function_in (main_scope d m) u.unit (answer_of answers n) probe ]) (f ∷ fs)
    by None e = absurd cc
    by (Some u) e = in_unit (main_scope d m) u (answer_of answers n) probe f fs e

-- that unit told the lookup so
module _ (faults : OnFault) (asked : ℕ → FramesResult) (n : ℕ) (frames : List FrameRecord) where
  abbrev Told : Type 0
  Told = (f : FrameRecord) × (fs : List FrameRecord) × (frames ≡ f ∷ fs) × (after_fault faults (asked n) ≡ Ok (Some (f ∷ fs)))

  found_number : LookupStop → ℕ
  found_number (Waits k) = k
  found_number (Finds k fs) = k
  found_number FindsNothing = 0

  found_list : LookupStop → List FrameRecord
  found_list (Waits k) = []
  found_list (Finds k fs) = fs
  found_list FindsNothing = []

  told_by : (k : ℕ) (rest : Result LookupStop Error) (r : FramesResult) → after_fault faults (asked k) ≡ r → (rest ≡ Ok (Finds n frames) → Told) → (r >>= or_stop k rest) ≡ Ok (Finds n frames) → Told
  unfolding found_list found_number
  told_by k rest (Err x) e further is = absurd cc
  told_by k rest (Ok None) e further is = absurd cc
  told_by k rest (Ok (Some [])) e further is = further is
  told_by k rest (Ok (Some (f ∷ fs))) e further is =
      let stop : ◌≡◌ {A = LookupStop} (Finds k (f ∷ fs)) (Finds n frames) = cc in
      (f, fs, sym (ap found_list stop), subst (λ j. after_fault faults (asked j) ≡ Ok (Some (f ∷ fs))) (ap found_number stop) e)

  told_along : (ranges : List UnitRange) → stop_along (λ k. after_fault faults (asked k)) ranges ≡ Ok (Finds n frames) → Told
  told_along [] is = absurd cc
  told_along (r ∷ ranges) is = told_by r.unit (stop_along (λ k. after_fault faults (asked k)) ranges) (after_fault faults (asked r.unit)) refl (told_along ranges) is

-- a fault that is passed over leaves no frames
no_fault : (faults : OnFault) (r : FramesResult) (f : FrameRecord) (fs : List FrameRecord) → after_fault faults r ≡ Ok (Some (f ∷ fs)) → r ≡ Ok (Some (f ∷ fs))
no_fault faults (Ok x) f fs is = is
no_fault Stop (Err x) f fs is = is
no_fault Skip (Err x) f fs is = absurd cc

pub frame_of_each : HasFrameOfEach
frame_of_each faults d m answers probe n frames e is =
    let asked = frames_of_number (main_scope d m) m.units answers probe in
    let t = told_along faults asked n frames (cover probe m.ranges) (sym (ap (λ r. r >>= stop_in faults d answers probe) e) ∙ is) in
    subst (HasFound (function_of_number d m answers probe n)) (sym t.2) (in_number d m answers probe n t.0 t.1 (no_fault faults (asked n) t.0 t.1 t.3))

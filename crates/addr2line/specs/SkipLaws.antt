-- Laws of lookups where each load is answered None (on Skips and Lookups).
use Rattle.std.specs.Prelude.{◌≡◌, ℕ, false, length, Ok}
use Rattle.addr2line.specs.Common.{Sections, OnFault, Stop, Skip, is_waiting, UnitIndex, index_units, FirstAnswers}
use Rattle.addr2line.specs.Lookups.{frames_of, lookup_stop, unit_of, with_none}
use Rattle.addr2line.specs.Skips.{skipped_answers}

-- once none is the answer to each load that a lookup may wait for, the same lookup waits for none
abbrev pub SkippedWaitsForNone : Type 0
SkippedWaitsForNone = (faults : OnFault) (d : Sections) (m : UnitIndex) (probe : ℕ)
    (answers : FirstAnswers) → index_units d ≡ Ok m → length m.units ≡ length answers
    → is_waiting (lookup_stop faults d (skipped_answers faults d probe answers) probe) ≡ false

-- what a lookup gives then is what it gives where each unit that has no answer is answered none
abbrev pub SkippedGivesSame : Type 0
SkippedGivesSame = (d : Sections) (m : UnitIndex) (probe : ℕ) (answers : FirstAnswers)
    → index_units d ≡ Ok m → length m.units ≡ length answers
    → (frames_of d (skipped_answers Stop d probe answers) probe
    ≡ frames_of d (with_none answers) probe)
    × (unit_of d (skipped_answers Skip d probe answers) probe
    ≡ unit_of d (with_none answers) probe)

-- that a lookup ends, and what it gives
pub record SkipLaws : Type 0 where
  pub ends : SkippedWaitsForNone
  pub same : SkippedGivesSame

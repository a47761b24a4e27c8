-- Answers of two readers to one reading (DWARF 5, section 7.5: what a section says is in its bytes
-- and their order).
-- Own: memory may be refused at one reader and not at the other.
use Rattle.std.specs.Prelude.{◌≡◌, Result}
use Rattle.gimli_read.specs.declared.error.Error.{Error}
use Rattle.gimli_read.specs.Section.{Section}
use Rattle.gimli_read.specs.Reading.{result_map, Exactly, ExactlyUnlessOom, WasNotRefused}

-- two answers that are exactly one reading of equal sections are the same: value, rest and fault
abbrev pub AnswerAlike : Type 0 → Type 0 → Type 0 → Type 0
AnswerAlike X Y Z =
    (read : Section → Result Z Error) (s t : Section) (view : X → Z) (see : Y → Z)
    (x : Result X Error) (y : Result Y Error)
    → s ≡ t → Exactly view x (read s) → Exactly see y (read t)
    → result_map view x ≡ result_map see y

-- the same where memory may be refused, but was not
abbrev pub AnswerAlikeUnlessOom : Type 0 → Type 0 → Type 0 → Type 0
AnswerAlikeUnlessOom X Y Z =
    (read : Section → Result Z Error) (s t : Section) (view : X → Z) (see : Y → Z)
    (x : Result X Error) (y : Result Y Error)
    → s ≡ t → ExactlyUnlessOom view x (read s) → ExactlyUnlessOom see y (read t)
    → WasNotRefused x → WasNotRefused y → result_map view x ≡ result_map see y

-- both kinds of answers
pub record AnswersAlike (X Y Z : Type 0) : Type 0 where
  pub exact : AnswerAlike X Y Z
  pub unless_oom : AnswerAlikeUnlessOom X Y Z

-- What is given, and whether memory may be taken on the way to it, as one value, and clauses that
-- read both off.
-- Own: of the steps of a `do` each takes its memory only where those before it have no fault.
use Rattle.std.specs.Prelude.{◌&&◌, ◌||◌, Bool, false, is_ok, Result, Ok, Err}
use Rattle.gimli_read.specs.declared.error.Error.{Error}
use Rattle.gimli_read.specs.Section.{Section}
use Rattle.gimli_read.specs.Reading.{ExactlyUnlessOomIf}
use Rattle.gimli_read.specs.Reading as reading

-- a value or a fault, and whether memory may be taken for it, where readers share their bytes or
-- don't
pub record CostedOr (E A : Type 0) : Type 0 where
  pub given : Result A E
  pub takes_memory : Bool → Bool

-- the same with faults of readings
abbrev pub Costed : Type 0 → Type 0
Costed A = CostedOr Error A

-- the same of a reading
abbrev pub CostedReading : Type 0 → Type 0
CostedReading A = Costed (A × Section)

-- what is given without memory
abbrev pub free : {E A : Type 0} → Result A E → CostedOr E A
free given = record { given = given; takes_memory = λ shares. false }

-- what takes parts of the bytes, where it can be read
abbrev pub parts : {E A : Type 0} → Result A E → CostedOr E A
parts given = record { given = given; takes_memory = λ shares. shares && is_ok given }

-- what takes parts of the bytes on the way to its value, or to its fault
abbrev pub parts_on_the_way : {E A : Type 0} → Result A E → CostedOr E A
parts_on_the_way given = record { given = given; takes_memory = λ shares. shares }

-- room, where it is needed
abbrev pub room_if : Bool → Costed (Unit {0})
room_if needed = record { given = Ok tt; takes_memory = λ shares. needed }

-- what is given, with the memory of what is stored on the way to it
abbrev pub by_stored : {A B : Type 0} → Costed A → Result B Error → Costed B
by_stored stored given = record { given = given; takes_memory = stored.takes_memory }

-- whether memory is taken after a reading, where it has no fault
abbrev pub takes_memory_after : {E A : Type 0} → Result A E → (A → Bool) → Bool
takes_memory_after (Ok x) takes = takes x
takes_memory_after (Err e) takes = false

infixl 10 ◌>>=◌
-- one step, and the next one where there was no fault
abbrev pub ◌>>=◌ : {E A B : Type 0} → CostedOr E A → (A → CostedOr E B) → CostedOr E B
c >>= f = record {
  given = reading.◌>>=◌ c.given (λ x. (f x).given);
  takes_memory = λ shares.
      c.takes_memory shares || takes_memory_after c.given (λ x. (f x).takes_memory shares);
}

-- the answer, seen by view, is what is given, or OutOfMemory where memory may be taken for it
abbrev pub ExactlyAtCost : {X Y : Type 0} → Bool → (X → Y) → Result X Error → Costed Y → Type 0
ExactlyAtCost shares view result costed =
    ExactlyUnlessOomIf (costed.takes_memory shares) view result costed.given

-- a call that moves a reader gave what is read from it, and left what the reading leaves, or
-- OutOfMemory where memory may be taken for it
abbrev pub ReadsAtCost : {R X : Type 0} → Bool → (R → Section) → R → R → Result X Error
    → (Section → CostedReading X) → Type 0
ReadsAtCost shares see old new result reading =
    ExactlyAtCost shares (λ x. (x, see new)) result (reading (see old))

-- Calls of a writer or a reader, with what they gave.
-- Own: a writer or a reader is known by what its calls give, and by nothing else.
use Rattle.std.specs.Prelude.{◌≡◌, ℕ, List, [], ◌∷◌, Result}
use Rattle.std.specs.declared.io.ErrorKind.{ErrorKind}

-- a write of these bytes, with how many were taken, or a flush; or the kind of its fault
pub data SinkCall : Type 0 where
  Wrote : (bytes : List ℕ) → (answer : Result ℕ ErrorKind) → SinkCall
  Flushed : (answer : Result (Unit {0}) ErrorKind) → SinkCall

-- a read up to a byte that took these, with how many they are; or the kind of its fault
pub data ReadCall : Type 0 where
  ReadTo : (byte : ℕ) → (taken : List ℕ) → (answer : Result ℕ ErrorKind) → ReadCall

-- calls that gave these, in order, led from one state to another
abbrev pub Steps : {S C : Type 0} → (S → C → S → Type 0) → S → List C → S → Type 0
Steps gives old [] new = new ≡ old
Steps {S} gives old (c ∷ cs) new = (mid : S) × gives old c mid × Steps gives mid cs new

-- calls led from one state to another, and of what they gave this holds
pub record Made {S C : Type 0} (gives : S → C → S → Type 0) (old new : S) (So : List C → Type 0)
    : Type 0 where
  pub calls : List C
  pub steps : Steps gives old calls new
  pub so : So calls

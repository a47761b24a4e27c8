-- What takes attributes in, and how they are read for it.
use Rattle.std.specs.Prelude.{◌≡◌, Bool, true, false, Option, Some, None, Result, Ok, Err}
use Rattle.gimli.specs.Common.{DwAt, Error, AttributeValue, NamedValue, Reading, ExactlyUnlessOomIf, Section}
use Rattle.gimli_read.specs.declared.number_value.NumberValue.{NumberValue}
use Rattle.gimli_read.specs.NumberValue.{number_if}

-- an attribute that isn't asked for says nothing
abbrev pub SaysNothingElse : {Y : Type 0} → (DwAt → Bool) → (Y → NamedValue → Result Y Error)
    → Type 0
SaysNothingElse {Y = Y} wanted more =
    (said : Y) (a : NamedValue) → wanted a.name ≡ false → more said a ≡ Ok said

-- an attribute is seen as it is
abbrev pub IsSeenSame : (NamedValue → NamedValue) → Type 0
IsSeenSame seen = (a : NamedValue) → seen a ≡ a

-- a relation of an old and a new state of a cache that holds on from the new one, and over two
-- changes
pub record IsGrowth {C : Type 0} (Grows : C → C → Type 0) : Type 0 where
  pub again : (old new : C) → Grows old new → Grows new new
  pub on : (old between new : C) → Grows old between → Grows between new → Grows old new

-- the answer is what is given for each attribute of the name whose value is the number
abbrev pub IsNumberTaken : {X Y : Type 0} → Bool → (X → Y) → (NamedValue → Result Y Error) → DwAt
    → NumberValue → Result X Error → Type 0
IsNumberTaken may view more name number result =
    (value : AttributeValue Section) → number_if value ≡ Some number
    → ExactlyUnlessOomIf may view result (more (record { name = name; value = value }))

-- what was found, unless there was a fault before
abbrev pub or_fault : {X : Type 0} → X → Option Error → Result X Error
or_fault found None = Ok found
or_fault found (Some e) = Err e

-- an answer is a fault that was there, or what is given with one more attribute
abbrev pub IsTakenIn : {X Y : Type 0} → Bool → (X → Y) → (Y → Result Y Error) → Result X Error
    → Result X Error → Type 0
IsTakenIn may view more (Ok x) result = ExactlyUnlessOomIf may view result (more (view x))
IsTakenIn may view more (Err e) result = result ≡ Err e

-- a number was read, which was wanted; or none, which was wanted of no value that is one, and
-- nothing was read; or what is given is the fault
abbrev pub IsNumberRead : Bool → Section → Section → Result (Option NumberValue) Error
    → Reading (Option NumberValue) → Type 0
IsNumberRead wanted old left (Ok (Some n)) given =
    (given ≡ Ok (Some n, left)) × (wanted ≡ true)
IsNumberRead wanted old left (Ok None) given =
    (left ≡ old) × (wanted ≡ true → given ≡ Ok (None, left))
IsNumberRead wanted old left (Err e) given = given ≡ Err e

-- an attribute was read, and taken in
pub record IsNextTaken {X Y : Type 0} (may : Bool) (view : X → Y)
    (more : Y → NamedValue → Result Y Error) (left : Section) (given : Reading NamedValue)
    (old new : Result X Error) : Type 0 where
  pub attribute : NamedValue
  pub is : given ≡ Ok (attribute, left)
  pub taken : IsTakenIn may view (λ y. more y attribute) old new

-- the same, after which there may be a fault of the attribute; or what is given is the fault, or
-- memory was refused, where it may be taken
abbrev pub IsNextRead : {X Y : Type 0} → Bool → (X → Y) → (Y → NamedValue → Result Y Error)
    → Section → Reading NamedValue → Result X Error → X → Result (Option Error) Error → Type 0
IsNextRead may view more left given old found (Ok fault) =
    IsNextTaken may view more left given old (or_fault found fault)
IsNextRead may view more left given old found (Err e) =
    ExactlyUnlessOomIf may (λ (x : NamedValue × Section). x) (Err e) given

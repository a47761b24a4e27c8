-- What a call comes to, by what is there.
-- Own: memory that was refused may stand in place of any answer. A buffer without room for all
-- that is there changes the status alone.
use Rattle.std.specs.Prelude.{◌≡◌, ◌≢◌, Bool, true, false, Option, Some, None, Ok, Err, if◌then◌else◌}
use Rattle.addr2line_c.specs.Common.{OutOfMemory, Loading}
use Rattle.addr2line_c.specs.declared.status.Status.{Status}
use Rattle.addr2line_c.specs.declared.status.Status.TheVariants.{Done, TooSmall, Waits, Nothing, Closed, OtherUnit, BadFlags, Refused}

-- something is there, and it is written
abbrev pub IsThere : {A : Type 0} → Loading (Option A) → (A → Type 0) → Type 0
IsThere {A} given written = (x : A) × (given ≡ Ok (Some x)) × written x

-- the status says what is there: whether it was written whole, that there is nothing, or the
-- refusal
abbrev pub SaysWhatIsThere : {A : Type 0} → Loading (Option A) → (A → Type 0) → Bool → Status
    → Type 0
SaysWhatIsThere given written fits Done = (fits ≡ true) × IsThere given written
SaysWhatIsThere given written fits TooSmall = (fits ≡ false) × IsThere given written
SaysWhatIsThere given written fits Nothing = given ≡ Ok None
SaysWhatIsThere given written fits (Refused e) = e ≢ OutOfMemory → given ≡ Err e
SaysWhatIsThere given written fits Waits = ⊥
SaysWhatIsThere given written fits Closed = ⊥
SaysWhatIsThere given written fits OtherUnit = ⊥
SaysWhatIsThere given written fits BadFlags = ⊥

-- the same of a lookup that waits where nothing is there yet
abbrev pub SaysOrWaits : {A : Type 0} → Loading (Option A) → (A → Type 0) → Bool → Status → Type 0
SaysOrWaits given written fits Done = (fits ≡ true) × IsThere given written
SaysOrWaits given written fits TooSmall = (fits ≡ false) × IsThere given written
SaysOrWaits given written fits Waits = given ≡ Ok None
SaysOrWaits given written fits (Refused e) = e ≢ OutOfMemory → given ≡ Err e
SaysOrWaits given written fits Nothing = ⊥
SaysOrWaits given written fits Closed = ⊥
SaysOrWaits given written fits OtherUnit = ⊥
SaysOrWaits given written fits BadFlags = ⊥

-- memory wasn't refused
abbrev pub HasMemory : Status → Type 0
HasMemory s = s ≢ Refused OutOfMemory

-- what holds where nothing was found to be written
abbrev pub IfNothing : Status → Type 0 → Type 0
IfNothing Done holds = Unit {0}
IfNothing TooSmall holds = Unit {0}
IfNothing s holds = holds

-- the status of what was written, by whether it had room
abbrev pub done_if : Bool → Status
done_if fits = if fits then Done else TooSmall

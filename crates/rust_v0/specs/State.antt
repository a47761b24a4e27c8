-- What is left to read of a name, what may still be read and shown, and the text so far.
-- Own: all of it.
use Rattle.std.specs.Prelude.{◌≡◌, ℕ, ◌-◌, ◌+◌, ◌<◌, ◌≤◌, Bool, true, false, List, ◌++◌, length, nat_lt, if◌then◌else◌, Option, Some, None, option_map, option_and_then, Result, Ok, Err, string_bytes, string_capacity, string_len}
use Rattle.rust_v0.specs.Numbers.{after}
use Rattle.rust_v0.specs.declared.printer.Mode.{Mode}
use Rattle.rust_v0.specs.declared.printer.Mode.TheVariants.{Written, Hidden}
use Rattle.rust_v0.specs.declared.printer.Printer.{Printer}
use Rattle.rust_v0.specs.declared.identifiers.Identifier.{Identifier}
use Rattle.rust_v0.specs.declared.stop.Fault.{Fault}
use Rattle.rust_v0.specs.declared.stop.Stop.{Stop}
use Rattle.rust_v0.specs.declared.stop.Stop.TheVariants as stops

-- the state of a reading
pub record State : Type 0 where
  pub name : List ℕ  -- all bytes after the prefix
  pub bytes : List ℕ  -- those that are left to read
  pub left : ℕ  -- productions that may still be read
  pub room : ℕ  -- bytes of text that may still be shown
  pub bound : ℕ  -- lifetimes that the binders around bind
  pub is_open : Bool  -- whether the last path of a trait was left without its last `>`
  pub mode : Mode  -- what becomes of a text
  pub text : List ℕ  -- the text so far

-- a reading without a value
abbrev pub Reading : Type 0
Reading = State → Option State

-- the state that a printer is in
abbrev pub state_of : Printer → State
state_of p = record {
  name = p.name.now;
  bytes = p.rest.now;
  left = p.left;
  room = p.room;
  bound = p.bound;
  is_open = p.is_open;
  mode = p.mode;
  text = string_bytes p.text;
}

-- whether an identifier is Punycode, and its word
abbrev pub identifier_of : Identifier → Bool × List ℕ
identifier_of i = (i.is_punycode, i.word.now)

-- one reading after another
infixl 10 ◌>>=◌
abbrev pub ◌>>=◌ : {A B : Type 0} → Option A → (A → Option B) → Option B
found >>= f = option_and_then f found

-- the call left what the reading gives, and failed where it gives nothing
abbrev pub Passes : {A : Type 0} → Result A Fault → State → Option State → Type 0
Passes (Ok x) new reading = reading ≡ Some new
Passes (Err e) new reading = reading ≡ None

-- the same, with a value
abbrev pub Gives : {A B : Type 0} → (A → B) → Result A Fault → State → Option (B × State) → Type 0
Gives view (Ok x) new reading = reading ≡ Some (view x, new)
Gives view (Err e) new reading = reading ≡ None

-- the call left what the reading gives, and told a fault where it gives nothing; it may tell that a
-- growth was refused in place of either
abbrev pub Moves : {A : Type 0} → Result A Stop → State → Option State → Type 0
Moves (Ok x) new reading = reading ≡ Some new
Moves (Err e) new reading = e ≡ stops.Fault → reading ≡ None

-- the same, with a value
abbrev pub MovesTo : {A B : Type 0} → (A → B) → Result A Stop → State → Option (B × State) → Type 0
MovesTo view (Ok x) new reading = reading ≡ Some (view x, new)
MovesTo view (Err e) new reading = e ≡ stops.Fault → reading ≡ None

-- a reading of bytes as one of states
abbrev pub taken : {A : Type 0} → State → Option (A × List ℕ) → Option (A × State)
taken s found = option_map (λ p. (p.0, record s { bytes = p.1 })) found

-- whether that byte stood first, which is then passed over
abbrev pub Skips : Bool → ℕ → State → State → Type 0
Skips true b old new = option_map (λ rest. record old { bytes = rest }) (after b old.bytes) ≡ Some new
Skips false b old new = (after b old.bytes ≡ None) × (new ≡ old)

-- whether texts are left out
abbrev pub is_hidden : Mode → Bool
is_hidden Written = false
is_hidden Hidden = true

-- a text shown, if there is room for it
unfoldable pub say : List ℕ → Reading
say text s =
    if is_hidden s.mode then Some s
    else (if nat_lt s.room (length text) then None
    else Some (record s { room = s.room - length text; text = s.text ++ text }))

-- memory was refused for a text: it is shown, it is within the room, and the memory that is there
-- is too small for it
pub record RefusesText (text : List ℕ) (p : Printer) : Type 0 where
  pub shown : is_hidden p.mode ≡ false
  pub within : length text ≤ p.room
  pub full : string_capacity p.text < string_len p.text + length text

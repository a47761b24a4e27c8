-- Laws of readings: they go on through the bytes, keep to what may be read and shown, add no text for
-- a path that is only read, and look neither at the text so far nor, but to refuse, at the limits.
-- Own: all of it.
use Rattle.std.specs.Prelude.{◌≡◌, ◌≤◌, ◌<◌, ◌+◌, ◌-◌, ◌==◌, ◌++◌, ℕ, Bool, true, false, List, take, drop, length, Some, None, option_map}
use Rattle.std.specs.List.{list_any}
use Rattle.std.specs.Str.{byte}
use Rattle.rust_v0.specs.declared.grammar.Production.{Production}
use Rattle.rust_v0.specs.declared.grammar.Production.TheVariants.{ValuePath, TypePath, TraitPath, AnyType, BracedConstant, BareConstant, Pattern}
use Rattle.rust_v0.specs.declared.printer.Mode.TheVariants.{Written, Hidden}
use Rattle.rust_v0.specs.State.{State}
use Rattle.rust_v0.specs.Reads.{reads}
use Rattle.rust_v0.specs.Name.{instantiating, most_productions, most_text, paths, start}

-- whether the tag of a reference stands anywhere in bytes
abbrev pub has_reference : List ℕ → Bool
has_reference bytes = list_any (λ c. c == byte "B") bytes

-- bytes that are left of others: their end, and not all of them
pub record IsProperEnd (rest bytes : List ℕ) : Type 0 where
  pub fewer : length rest < length bytes
  pub end : rest ≡ drop (length bytes - length rest) bytes

-- a production leaves an end of the bytes that it was given, and not all of them: no reading goes
-- back, and after a reference it goes on behind that
abbrev pub ReadsOn : Type 0
ReadsOn =
    (levels : ℕ) (production : Production) (s r : State)
    → reads levels production s ≡ Some r → IsProperEnd r.bytes s.bytes

-- whether a production is a path, which has two bytes at least
abbrev pub is_path_production : Production → Bool
is_path_production ValuePath = true
is_path_production TypePath = true
is_path_production TraitPath = true
is_path_production AnyType = false
is_path_production BracedConstant = false
is_path_production BareConstant = false
is_path_production Pattern = false

-- where no `B` stands in the bytes, at most as many productions are read as bytes are passed over,
-- and fewer in a path
abbrev pub ReadsOnce : Type 0
ReadsOnce =
    (levels : ℕ) (production : Production) (s r : State)
    → reads levels production s ≡ Some r → has_reference s.bytes ≡ false
    → (s.left - r.left ≤ length s.bytes - length r.bytes)
    × (is_path_production production ≡ true → s.left - r.left < length s.bytes - length r.bytes)

-- the same of a name after its prefix, with the crate that made the instance
abbrev pub NameReadOnce : Type 0
NameReadOnce =
    (spelled : List ℕ) (r : State)
    → paths (start Written spelled) ≡ Some r → has_reference spelled ≡ false
    → most_productions - r.left < length spelled - length r.bytes

-- readings go on from left to right, and of what holds no reference they read no more productions than
-- bytes
pub record ReadOnward : Type 0 where
  pub onward : ReadsOn
  pub once : ReadsOnce
  pub name : NameReadOnce

-- a production keeps the name, so that a reference is a place in the name itself, and whether texts
-- are shown; where they aren't, it adds none
abbrev pub KeepsState : Type 0
KeepsState =
    (levels : ℕ) (production : Production) (s r : State)
    → reads levels production s ≡ Some r
    → (r.name ≡ s.name) × (r.mode ≡ s.mode) × (s.mode ≡ Hidden → r.text ≡ s.text)

-- the crate that made the instance adds no text
abbrev pub InstanceNotShown : Type 0
InstanceNotShown =
    (s r : State) → instantiating s ≡ Some r → r.text ≡ s.text

-- what isn't shown adds no text
pub record HiddenAddsNothing : Type 0 where
  pub production : KeepsState
  pub instance : InstanceNotShown

-- no production is read past the levels, or past those that are left
abbrev pub StopsAtLimits : Type 0
StopsAtLimits =
    (production : Production) (s : State)
    → (reads 0 production s ≡ None)
    × ((levels : ℕ) → s.left ≡ 0 → reads levels production s ≡ None)

-- a production takes one at least of those that are left, and a text the room that it has: what was
-- shown and what may still be shown are the same together, before and after
abbrev pub KeepsCount : Type 0
KeepsCount =
    (levels : ℕ) (production : Production) (s r : State)
    → reads levels production s ≡ Some r
    → (r.left < s.left) × (length r.text + r.room ≡ length s.text + s.room)

-- a text only grows: none of it is taken back, so a reading may stop at the first byte too many
abbrev pub TextGrows : Type 0
TextGrows =
    (levels : ℕ) (production : Production) (s r : State)
    → reads levels production s ≡ Some r → take (length s.text) r.text ≡ s.text

-- so the path of a name takes one production at least of the 65,536 that there are, and what it shows
-- and the room that is left are 1,000,000 bytes
abbrev pub NameWithinLimits : Type 0
NameWithinLimits =
    (spelled : List ℕ) (r : State)
    → paths (start Written spelled) ≡ Some r
    → (r.left < most_productions) × (length r.text + r.room ≡ most_text)

-- readings keep to the limits
pub record WithinLimits : Type 0 where
  pub stop : StopsAtLimits
  pub count : KeepsCount
  pub text : TextGrows
  pub name : NameWithinLimits

-- a state with a text before its own
abbrev pub before : List ℕ → State → State
before text s = record s { text = text ++ s.text }

-- the text so far isn't looked at, also where there is a fault: what is shown stands behind it
abbrev pub TextNotRead : Type 0
TextNotRead =
    (text : List ℕ) (levels : ℕ) (production : Production) (s : State)
    → reads levels production (before text s) ≡ option_map (before text) (reads levels production s)

-- what more a reading may be given: a text that stands before its own, room, productions and levels
pub record More : Type 0 where
  pub text : List ℕ
  pub room : ℕ
  pub left : ℕ
  pub levels : ℕ

-- a state with so much more
abbrev pub with_more : More → State → State
with_more m s = record s {
  text = m.text ++ s.text;
  room = s.room + m.room;
  left = s.left + m.left;
}

-- limits only refuse: what is read and shown within them is the same where more is left
abbrev pub LimitsOnlyRefuse : Type 0
LimitsOnlyRefuse =
    (m : More) (levels : ℕ) (production : Production) (s r : State)
    → reads levels production s ≡ Some r
    → reads (levels + m.levels) production (with_more m s) ≡ Some (with_more m r)

-- what a production reads and shows depends neither on the text so far nor on a limit
pub record ReadsAlone : Type 0 where
  pub text : TextNotRead
  pub limits : LimitsOnlyRefuse

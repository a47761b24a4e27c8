-- What lemmas say of all caches at once, beside what contracts say of one (on
-- specs/UnitsCached.antt, UnitLinesCached, EntriesCached, UnitViewCached and FramesCached).
use Rattle.std.specs.Prelude.{◌≡◌, ◌⊎◌, ◌&&◌, ◌||◌, ℕ, Bool, true, false, not, List, IfSome, Option, Some, None, option_map, slice_get, unwrap_or}
use Rattle.std.specs.List.{AllZip}
use Rattle.addr2line_units.specs.Common.{Sections, UnitRecord, Scope}
use Rattle.addr2line_units.specs.EntriesOwn.{AreEntriesOf, CachedUnit}
use Rattle.addr2line_units.specs.declared.entries.UnitFrames.{UnitFrames}
use Rattle.addr2line_units.specs.declared.entries.UnitFrames.TheVariants as found
use Rattle.addr2line_units.specs.declared.frames.FramesStop.{FramesStop}
use Rattle.addr2line_units.specs.declared.frames.FramesStop.TheVariants as stops
use Rattle.addr2line_units.specs.EntriesCached.{ReadsEntriesOf, StayEntries, has_entries}
use Rattle.addr2line_units.specs.Frames.{FrameRecord}
use Rattle.addr2line_units.specs.FramesCached.{IsFramePlaceIn, frames_at_place}
use Rattle.addr2line_units.specs.LocationsParsed.{has_parsed}
use Rattle.addr2line_units.specs.UnitLinesCached.{StayLines, parsed_units}
use Rattle.addr2line_units.specs.UnitViewCached.{IsViewOf, is_decided}

-- beside each unit stands what is cached of its entries, which is its own
abbrev pub HaveEntriesOf : {R : Type 0} → Scope → List UnitRecord → List (CachedUnit R) → Type 0
HaveEntriesOf scope us caches = AllZip (λ u c. AreEntriesOf scope u c.entries) us caches

-- beside each unit stands what is cached of its view
abbrev pub HaveViewsOf : {R : Type 0} → Sections → List UnitRecord → List (CachedUnit R) → Type 0
HaveViewsOf d us caches = AllZip (λ u c. IsViewOf d u c.entries.view) us caches

-- what is cached of the entries of each unit stays
abbrev pub StayAllEntries : {R : Type 0} → List (CachedUnit R) → List (CachedUnit R) → Type 0
StayAllEntries old new = AllZip (λ a b. StayEntries a.entries b.entries) old new

-- what is cached of the entries of each unit is the same
abbrev pub HaveSameEntries : {R : Type 0} → List (CachedUnit R) → List (CachedUnit R) → Type 0
HaveSameEntries old new = AllZip (λ a b. b.entries ≡ a.entries) old new

-- what is cached of the lines of each unit stays
abbrev pub StayAllLines : {R : Type 0} → List (CachedUnit R) → List (CachedUnit R) → Type 0
StayAllLines old new = AllZip (λ a b. StayLines a.lines b.lines) old new

-- what is cached of the lines of each unit is the same
abbrev pub HaveSameLines : {R : Type 0} → List (CachedUnit R) → List (CachedUnit R) → Type 0
HaveSameLines old new = AllZip (λ a b. b.lines ≡ a.lines) old new

-- of each unit that isn't asked nothing is read, of the others no detail but that of the function
-- at the probe
abbrev pub ReadsOnly : {R : Type 0} → (ℕ → Type 0) → ℕ → List (CachedUnit R)
    → List (CachedUnit R) → Type 0
ReadsOnly IsAsked probe old new = (n : ℕ) → (slice_get new n ≡ slice_get old n)
    ⊎ (IsAsked n × IfSome (slice_get old n) (λ a. IfSome (slice_get new n)
    (λ b. ReadsEntriesOf probe a.entries b.entries)))

-- whether the view of the unit of a number is known, or its fault
abbrev pub decided_at : {R : Type 0} → List (CachedUnit R) → ℕ → Bool
decided_at caches n =
    unwrap_or (option_map (λ c. is_decided c.entries.view.state) (slice_get caches n)) false

-- whether what the unit of a number has at the probe is known by what is cached of its entries; true
-- where there is no such unit
abbrev pub has_entries_at : {R : Type 0} → ℕ → List (CachedUnit R) → ℕ → Bool
has_entries_at probe caches n =
    unwrap_or (option_map (λ c. has_entries probe c.entries) (slice_get caches n)) true

-- whether what the unit of a number has at the probe is known by what is cached of its entries, and
-- its lines too if they are asked for
abbrev pub has_frames_at : {R : Type 0} → (ℕ → Bool) → ℕ → List (CachedUnit R) → ℕ → Bool
has_frames_at asks_lines probe caches n =
    has_entries_at probe caches n && (not (asks_lines n) || has_parsed (parsed_units caches) n)

-- what the unit of a number has at an address, by what is cached
abbrev pub frames_found_at : {R : Type 0} → List (CachedUnit R) → ℕ → UnitFrames
    → Option (List FrameRecord)
frames_found_at caches n found.Open = None
frames_found_at caches n (found.Here function row) = Some (frames_at_place caches
    (record { unit = n; function = function; row = row }))

-- the places that were found are among what is cached of the unit, as far as something was found
abbrev pub AreFoundAt : {R : Type 0} → List (CachedUnit R) → ℕ → UnitFrames → Type 0
AreFoundAt caches n (found.Here (Some function) row) = IsFramePlaceIn caches
    (record { unit = n; function = Some function; row = row })
AreFoundAt caches n (found.Here None (Some row)) = IsFramePlaceIn caches
    (record { unit = n; function = None; row = Some row })
AreFoundAt caches n _ = Unit {0}

-- the places of what a lookup has found are among what is cached
abbrev pub IsStopIn : {R : Type 0} → List (CachedUnit R) → FramesStop → Type 0
IsStopIn caches (stops.Finds p) = IsFramePlaceIn caches p
IsStopIn caches _ = Unit {0}

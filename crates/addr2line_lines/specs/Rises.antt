-- What the addresses of a sequence do (DWARF 5, section 6.2.5: within a sequence they only rise).
use Rattle.std.specs.Prelude.{ℕ, ◌≡◌, ◌≤◌, ◌<◌, List, [], ◌∷◌}
use Rattle.std.specs.List.{AllByRecursion}
use Rattle.addr2line_lines.specs.Common.{LineRow}
use Rattle.gimli_line.specs.Rises.{NeverFalls}
use Rattle.addr2line_lines.specs.declared.row.Row.{Row}
use Rattle.addr2line_lines.specs.Sequences.{Sequence, sequences_of}

-- addresses rise from each row to all later ones, none is above the end
abbrev pub Climbs : ℕ → List Row → Type 0
Climbs end [] = Unit {0}
Climbs end (r ∷ rows) =
    (r.address ≤ end) × (AllByRecursion (λ (s : Row). r.address < s.address) rows × Climbs end rows)

-- there are rows, and the first one has the address
abbrev pub StartsAt : ℕ → List Row → Type 0
StartsAt start [] = ⊥
StartsAt start (r ∷ rows) = start ≡ r.address

-- a sequence starts at its first row, its rows rise, and it has addresses
pub record IsRising (s : Sequence) : Type 0 where
  pub starts : StartsAt s.start s.rows
  pub rises : Climbs s.end s.rows
  pub below : s.start < s.end

-- where addresses do not fall, the sequences rise
abbrev pub SequencesRise : Type 0
SequencesRise =
    (rows : List LineRow) → NeverFalls rows → AllByRecursion IsRising (sequences_of rows)

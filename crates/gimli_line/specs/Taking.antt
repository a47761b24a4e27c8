-- Rows that go to a sink one after another (DWARF 5, section 6.2.5: opcodes append rows in turn).
use Rattle.std.specs.Prelude.{◌≡◌, ℕ, ◌≤◌, ◌<◌, List, [], ◌∷◌, Result, Ok, Err, Option, Some, None, false, drop, fold, if◌then◌else◌}
use Rattle.gimli_line.specs.Common.{Error, Section}
use Rattle.gimli_read.specs.declared.endian.RunTimeEndian.{RunTimeEndian}
use Rattle.gimli_line.specs.declared.encoding.LineEncoding.{LineEncoding}
use Rattle.gimli_line.specs.declared.frequent.Frequent.{Frequent}
use Rattle.gimli_line.specs.declared.frequent.Frequent.TheVariants.{Other, Quiet, Shows}
use Rattle.gimli_line.specs.declared.opcode.Opcode.{Opcode}
use Rattle.gimli_line.specs.declared.opcode.LineInstruction.TheVariants.{Changes}
use Rattle.gimli_line.specs.declared.registers.Registers.{Registers}
use Rattle.gimli_line.specs.declared.row.LineRow.{LineRow}
use Rattle.gimli_line.specs.Header.{Header}
use Rattle.gimli_line.specs.Opcode.{instruction_at}
use Rattle.gimli_line.specs.Left.{rows_left, ahead_left, DefinesOn}
use Rattle.gimli_line.specs.Rises.{rows_before}
use Rattle.gimli_line.specs.Steps.{executed, shown_row}

-- the fault after the rows, if there is one
abbrev pub fault_after : {X : Type 0} → List (Result X Error) → Result (Unit {0}) Error
fault_after [] = Ok tt
fault_after (Ok x ∷ rest) = fault_after rest
fault_after (Err e ∷ rest) = Err e

-- what the rows before a fault make of a sink
abbrev pub all_taken : {S X : Type 0} → (S → X → S) → S → List (Result X Error) → S
all_taken taken sink left = fold taken sink (rows_before left)

-- In what follows, a place of a program is a header, registers and the bytes that are left.

-- two places, and what a sink is at each: what is left at the first makes of the one what is left
-- at the second makes of the other, with the same files and the same fault; a fault that stands at
-- once at the first does so at the second
pub record Passes {S : Type 0} (taken : S → LineRow → S)
    (h : Header) (r : Registers) (s : Section) (old : S)
    (g : Header) (q : Registers) (t : Section) (new : S) : Type 0 where
  pub fault : fault_after (rows_left h r s) ≡ fault_after (rows_left g q t)
  pub rows : all_taken taken old (rows_left h r s) ≡ all_taken taken new (rows_left g q t)
  pub files : DefinesOn h s g t
  pub at_once : (e : Error) → rows_left h r s ≡ Err e ∷ []
      → (rows_left g q t ≡ Err e ∷ []) × (ahead_left h r s ≡ [] → ahead_left g q t ≡ [])

-- the bytes begin with an opcode of so many bytes, which has this row, if any, and leaves these
-- registers
pub record Executes (h : Header) (r : Registers) (bytes : List ℕ) (len : ℕ)
    (row : Option LineRow) (q : Registers) : Type 0 where
  pub opcode : Opcode
  pub read : (endian : RunTimeEndian)
      → instruction_at h (record { bytes = bytes; endian = endian })
      ≡ Ok (Some (Changes opcode), record { bytes = drop len bytes; endian = endian })
  pub does : executed h.line_encoding r opcode ≡ Ok (row, q)

-- an opcode of so many bytes was taken in, or nothing changed
abbrev pub TakesOpcode : LineEncoding → Registers → Opcode → ℕ → Frequent → Registers → Type 0
TakesOpcode e r op len Other q = q ≡ r
TakesOpcode e r op len (Quiet n) q = (n ≡ len) × (executed e r op ≡ Ok (None, q))
TakesOpcode e r op len (Shows n) q =
    (n ≡ len) × (executed e r op ≡ Ok (Some (shown_row q false), q))

-- what an opcode of so many bytes that appends a row comes to: while dropping it appends none
abbrev pub shown : Registers → ℕ → Frequent
shown r len = if r.dropping then Quiet len else Shows len

-- the opcode at the front of the bytes was taken in, or nothing changed
abbrev pub TakesFirst : Header → Registers → List ℕ → Frequent → Registers → Type 0
TakesFirst h r bytes Other q = q ≡ r
TakesFirst h r bytes (Quiet n) q = Executes h r bytes n None q
TakesFirst h r bytes (Shows n) q = Executes h r bytes n (Some (shown_row q false)) q

-- an opcode has a byte at least, and three at most
abbrev pub IsShort : Frequent → Type 0
IsShort Other = Unit {0}
IsShort (Quiet n) = (0 < n) × (n ≤ 3)
IsShort (Shows n) = (0 < n) × (n ≤ 3)

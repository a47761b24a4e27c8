-- The files that a line program defines before its next row (DWARF 5, section 6.2.5.3: an opcode
-- adds a file to the header's while the program runs).
use Rattle.std.specs.Prelude.{◌||◌, ◌&&◌, not, Bool, List, [], ◌∷◌, nat_lt, if◌then◌else◌}
use Rattle.gimli_line.specs.declared.encoding.LineEncoding.{LineEncoding}
use Rattle.gimli_line.specs.declared.opcode.Opcode.{Opcode}
use Rattle.gimli_line.specs.declared.opcode.LineInstruction.{LineInstruction}
use Rattle.gimli_line.specs.declared.opcode.LineInstruction.TheVariants.{Changes, Defines}
use Rattle.gimli_line.specs.Encoding.{limit}
use Rattle.gimli_line.specs.Rows.{address_after, address_state, is_end, makes_row}

-- whether the newest opcode has a row or a fault
abbrev pub ends_search : LineEncoding → Opcode → List Opcode → Bool
ends_search e op past =
    not (nat_lt (address_after e past) (limit e)) || is_end op
    || makes_row op && not (address_state e past).dropping

-- the files that instructions define before the next row or fault
abbrev pub files_ahead : {F : Type 0} → LineEncoding → List Opcode → List (LineInstruction F)
    → List F
files_ahead e past [] = []
files_ahead e past (Changes op ∷ more) =
    if ends_search e op (op ∷ past) then [] else files_ahead e (op ∷ past) more
files_ahead e past (Defines f ∷ more) = f ∷ files_ahead e past more

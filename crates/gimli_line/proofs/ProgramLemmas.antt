-- The fault of a line program by its fields (on specs/Program.antt).
use Rattle.gimli_line.proofs.Common.{◌≡◌, ℕ, Result, Ok, Err, refl, ap, Error, Section, fault_of}
use Rattle.gimli_line.specs.Program.{line_header_fields_at, line_program_at}

fault_is : {A : Type 0} (r : Result A Error) (e : Error) → fault_of r ≡ Err e → r ≡ Err e
fault_is (Ok x) e h = absurd cc
fault_is (Err d) e h = let is : d ≡ e = cc in ap Err is

-- the fault of a field
pub fields_refused : (unit_size : ℕ) (s : Section) (e : Error) → fault_of (line_header_fields_at unit_size s) ≡ Err e → line_program_at unit_size s ≡ Err e
unfolding line_program_at
fields_refused unit_size s e h = rw (fault_is (line_header_fields_at unit_size s) e h) refl

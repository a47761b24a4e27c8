-- Passing over attributes, as the private functions see it (DWARF 5, section 7.5.5).
use Rattle.std.specs.Prelude.{◌≡◌, ℕ, Result, Ok, Err}
use Rattle.gimli_read.specs.declared.endian.Encoding.{Encoding}
use Rattle.gimli_read.specs.declared.error.Error.{Error}
use Rattle.gimli_read.specs.Section.{Section}
use Rattle.gimli_read.specs.Reading.{◌>>=◌}
use Rattle.gimli_read.specs.Abbreviations.{Specification}
use Rattle.gimli_read.specs.Number.{skipped_at}
use Rattle.gimli_read.specs.Form.{attribute_at, rest_of}

-- what is left after n bytes and an attribute
abbrev pub rest_after : ℕ → Encoding → Specification → Section → Result Section Error
rest_after n encoding x s = skipped_at n s >>= λ t. rest_of (attribute_at encoding x t.1)

-- the answer is how many bytes of what is left are still to be passed over, or the fault
abbrev pub IsStillToSkip : Section → Result ℕ Error → Result Section Error → Type 0
IsStillToSkip left (Ok n) given = given ≡ rest_of (skipped_at n left)
IsStillToSkip left (Err e) given = given ≡ Err e

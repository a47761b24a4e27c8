-- A section, or what is left of one (DWARF 5, section 7.5: sections are bytes in the byte order of
-- the target).
use Rattle.std.specs.Prelude.{ℕ, List, take, drop}
use Rattle.gimli_read.specs.declared.endian.RunTimeEndian.{RunTimeEndian}

-- bytes and the order of those of a number
pub record Section : Type 0 where
  pub bytes : List ℕ
  pub endian : RunTimeEndian

-- the first n bytes
abbrev pub first : ℕ → Section → Section
first n s = record s { bytes = take n s.bytes }

-- what stands after the first n bytes
abbrev pub after : ℕ → Section → Section
after n s = record s { bytes = drop n s.bytes }

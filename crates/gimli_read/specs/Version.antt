-- Versions of the standard that differ in what is read.
use Rattle.std.specs.Prelude.{ℕ, ◌==◌, ◌||◌, Bool, nat_lt}
use Rattle.gimli_read.specs.declared.constants.TheConstants.{DWARF_2, DWARF_4, DWARF_5}

-- whether a version is none of those that are read: 2 to 5
abbrev pub is_unknown : ℕ → Bool
is_unknown version = nat_lt version DWARF_2 || nat_lt DWARF_5 version

-- whether a version is 2
abbrev pub is_2 : ℕ → Bool
is_2 version = version == DWARF_2

-- whether a version comes before 4
abbrev pub is_before_4 : ℕ → Bool
is_before_4 version = nat_lt version DWARF_4

-- whether a version comes before 5
abbrev pub is_before_5 : ℕ → Bool
is_before_5 version = nat_lt version DWARF_5

-- whether a version is 5
abbrev pub is_5 : ℕ → Bool
is_5 version = version == DWARF_5

-- The numbers of a header that a program is run by (DWARF 5, section 6.2.4).
-- Own: a zero length, number of operations, range or opcode base is refused, and so is an address
-- size other than 1, 2, 4 and 8.
use Rattle.std.specs.Prelude.{ℕ}
use Rattle.gimli_line.specs.declared.encoding.LineEncoding.{LineEncoding}
use Rattle.gimli_line.specs.AddressSize.{address_limit}

-- the addresses of a program are below this
abbrev pub limit : LineEncoding → ℕ
limit e = address_limit e.address_size

-- Numbers among the attributes of functions and inlined entries, as the private functions see them.
use Rattle.std.specs.Prelude.{◌==◌, ◌||◌, Bool, if◌then◌else◌}
use Rattle.std.specs.Option.{option_or}
use Rattle.addr2line_lines.specs.Common.{DwAt, DW_AT_high_pc, DW_AT_low_pc}
use Rattle.gimli_read.specs.declared.number_value.NumberValue.{NumberValue}
use Rattle.gimli_read.specs.NumberValue.{number_address, number_constant}
use Rattle.addr2line_lines.specs.declared.function.RangeAttributes.{RangeAttributes}
use Rattle.addr2line_lines.specs.FoundAttributes.{is_call}
use Rattle.addr2line_lines.specs.FoundRanges.{is_address_name}
use Rattle.addr2line_lines.specs.Names.{is_origin}

-- whether an attribute is read as a number where its form is a frequent one: of a call, of
-- addresses, or of the entry that it stems from
abbrev pub is_number_name : DwAt → Bool
is_number_name name = is_call name || is_address_name name || is_origin name

-- range attributes with a number taken in as low_pc or high_pc; with another name, as they were
abbrev pub with_range_number : RangeAttributes → DwAt → NumberValue → RangeAttributes
with_range_number r name number =
    if name.0 == DW_AT_low_pc.0
    then record r { low_pc = option_or (number_address number) r.low_pc }
    else if name.0 == DW_AT_high_pc.0
    then record r {
      high_pc = option_or (number_address number) r.high_pc;
      size = option_or (number_constant number) r.size;
    }
    else r

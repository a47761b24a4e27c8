-- Ranges of inlined entries as they are stored, as the private functions see them.
-- Own: a range fits in sixteen bytes, beside an upper half, where its depth and its place have 32
-- bits and both its addresses have that upper half.
use Rattle.std.specs.Prelude.{ℕ, ◌+◌, ◌*◌, ◌^◌, ◌/◌, ◌==◌, ◌&&◌, Bool, nat_lt}
use Rattle.addr2line_lines.specs.declared.inlined_ranges.ShortRange.{ShortRange}
use Rattle.addr2line_lines.specs.declared.picks.InlinedFunctionAddress.{InlinedFunctionAddress}

-- the upper half of an address
abbrev pub upper_half : ℕ → ℕ
upper_half address = address / 2 ^ 32

-- the address of two halves
abbrev pub address_of_halves : ℕ → ℕ → ℕ
address_of_halves upper lower = upper * 2 ^ 32 + lower

-- the range that sixteen bytes and the upper half of its addresses stand for
abbrev pub range_of_short : ℕ → ShortRange → InlinedFunctionAddress
range_of_short upper r = record {
  depth = r.depth;
  range = record { begin = address_of_halves upper r.begin; end = address_of_halves upper r.end };
  function = r.function;
}

-- whether a depth and a place have 32 bits
abbrev pub is_narrow_range : InlinedFunctionAddress → Bool
is_narrow_range r = nat_lt r.depth (2 ^ 32) && nat_lt r.function (2 ^ 32)

-- whether a range fits in sixteen bytes, beside an upper half
abbrev pub range_fits : ℕ → InlinedFunctionAddress → Bool
range_fits upper r =
    (upper_half r.range.begin == upper) && (upper_half r.range.end == upper) && is_narrow_range r

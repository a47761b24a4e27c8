-- What many proofs of this crate cite, handed on. Declares nothing.
pub use Rattle.std.proofs.Common.{Bool, Err, List, None, Ok, Option, Some, [], add-one, ap, append_assoc, arith, bit_and, cond, drop, false, get_or, if◌then◌else◌, inl, inr, is_ok, length, map, nat_eq, nat_le, nat_lt, not, refl, replicate, slice_index, slice_range, subst, suc, sum, sym, take, true, zero, ℕ, ◌%◌, ◌&&◌, ◌*◌, ◌++◌, ◌+◌, ◌-◌, ◌/◌, ◌<◌, ◌==◌, ◌^◌, ◌||◌, ◌∙◌, ◌∷◌, ◌≡◌, ◌≢◌, ◌≤◌, ◌⊎◌}
pub use Rattle.std.proofs.lemmas.Bool.{cases_lt, or_right}
pub use Rattle.std.proofs.lemmas.Bool.Decides.{nat_tests}
pub use Rattle.std.proofs.lemmas.List.{append-nil, get_or-append-add, get_or-append_right, get_or-drop, get_or-take, get_or_append_left, get_or_at, get_or_read, length-append, length-drop, length-take, take_all, take_more}
pub use Rattle.std.proofs.lemmas.List.FromFn.{get_or-map-range_with_len, length-map-range_with_len, map-range_with_len_more}
pub use Rattle.std.proofs.lemmas.Result.{err_from_is_err_and}
pub use Rattle.std.specs.List.{range_with_len, slice_get}
pub use Rattle.inflate.specs.Bits.{BitReading, Bits, aligned, bits_after, bits_at, bits_of, bytes_number}
unfoldable pub use Rattle.inflate.specs.Bits.{highest_first, more_bytes_at}
pub use Rattle.inflate.specs.Blocks.{block_of}
unfoldable pub use Rattle.inflate.specs.StoredLength.{stored_length_at}
unfoldable pub use Rattle.inflate.specs.Blocks.{dynamic_codes_at, blocks_from, deflate_block_at, dynamic_at, stored_at}
pub use Rattle.inflate.specs.Codes.{found_or, is_code, symbol_of, symbols_from}
unfoldable pub use Rattle.inflate.specs.Codes.{coded_symbol_at, coded_symbols, first_code, symbol_from, texts_to}
pub use Rattle.inflate.specs.Dynamic.{fixed_codes, ordered_length, repeat_base, repeated}
unfoldable pub use Rattle.inflate.specs.Dynamic.{checked_codes, code_counts_at, code_lengths_of, lengths_at, lengths_from, next_lengths_at, repeat_at, small_numbers_at}
pub use Rattle.inflate.specs.Items.{distance_base, distance_extra, length_base, length_extra}
unfoldable pub use Rattle.inflate.specs.Items.{applied_at, coded_at, coded_from, copied, copy_at, distance_at, length_at, literal_at, with_copy, with_literal}
pub use Rattle.inflate.specs.Reader.{bits_left}
unfoldable pub use Rattle.inflate.specs.Reader.{bits_and_bytes}
pub use Rattle.inflate.specs.Reading.{OrFault, fault_if, ◌>>=◌}
pub use Rattle.inflate.specs.Stream.{is_bad_header, sums_from}
unfoldable pub use Rattle.inflate.specs.Stream.{adler32_of, header_at, sum_at}
pub use Rattle.inflate.specs.Tables.{AreCounts, ArePlaced, ArePlaces, AreSorted, IsLevel, entry_of, with_bit}
unfoldable pub use Rattle.inflate.specs.Tables.{sorted_to, table_to}
pub use Rattle.inflate.specs.declared.fault.InflateFault.{InflateFault}
pub use Rattle.inflate.specs.declared.fault.InflateFault.TheVariants.{BadBlock, BadCode, BadDistance, BadHeader, BadLengths, Cut, OutOfMemory, TooLong, WrongSum}

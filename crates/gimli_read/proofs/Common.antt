-- What many proofs of this crate cite, handed on. Declares nothing.
pub use Rattle.std.proofs.Common.{Bool, Err, IfOk, IfSome, List, None, Ok, Option, Result, Some, [], add-one, ap, append-nil, append_assoc, arith, cond, drop, drop-drop, eq-eqb, false, fold, get_or, inl, inr, is_ok, is_some, length, length-drop, length-take, lit<, ltb, nat_lt, negsuc, not, of_z, pos, refl, rules, subst, suc, sym, take, to_z, true, w64, zero, ℕ, ℤ, ◌%◌, ◌&&◌, ◌*◌, ◌++◌, ◌+◌, ◌-ℤ◌, ◌-◌, ◌/◌, ◌<◌, ◌==◌, ◌^◌, ◌∙◌, ◌∷◌, ◌≡◌, ◌≢◌, ◌≤◌, ◌⊎◌}
pub use Rattle.std.proofs.lemmas.Bool.{and_parts, cases_lt, eqb-false, eqb-true, le-ltb, lt-ltb, ltb-false, ltb-true, ne_eqb}
pub use Rattle.std.proofs.lemmas.Grind.{common_steps, pow_more}
pub use Rattle.std.proofs.lemmas.List.{at_drop_all, at_drop_more, drop_at, get_or-take, get_or_append_left, length-append, take-append-drop, take_at, take_more}
pub use Rattle.std.proofs.lemmas.Result.{IfOk-at_ok, err_from_is_err_and}
pub use Rattle.std.specs.List.{All, AllByRecursion, filter, position, position_from, slice_get}
pub use Rattle.gimli_read.specs.Abbrev.{coded, constant_at, extended, has_null, head_and_pair_at, is_null, specifications_at, specified, table_at, has_front, tells_children}
unfoldable pub use Rattle.gimli_read.specs.Abbrev.{abbreviation_at, declaration_at, declaration_head_at, front_at, specification_at, table_within}
pub use Rattle.gimli_read.specs.Abbreviations.{Abbrev, HasDistinctCodes, Specification, with_code}
pub use Rattle.gimli_read.specs.EncodedValue.{address_or_offset_at, block_at, encoded_at}
pub use Rattle.gimli_read.specs.Form.{NamedValue, direct_at, form_at, implicit_of, named_value, rest_of}
unfoldable pub use Rattle.gimli_read.specs.Form.{attribute_at, attributes_at, form_within, value_at}
pub use Rattle.gimli_read.specs.FormEncoding.{Address, AddressOrOffset, Block, Block1, Block2, Block4, Empty, Fixed, FormEncoding, Offset, Signed, Text, Unsigned}
unfoldable pub use Rattle.gimli_read.specs.FormEncoding.{form_encoding_of}
pub use Rattle.gimli_read.specs.Leb128.{IsLeb128Text, IsSleb128, IsUleb128, ReadsSleb128, ReadsSleb128Alone, ReadsUleb128, ReadsUleb128Alone, cut_after, leb128_text, sleb128_at, sleb128_value, uleb128_at, uleb128_value}
unfoldable pub use Rattle.gimli_read.specs.Leb128.{sleb128_in, sum_from, uleb128_in}
pub use Rattle.gimli_read.specs.Number.{address_at, ended_at, fits_i64, fits_u64, fixed_at, is_address_size, null_terminated_at, number_of, offset_at, offset_size, signed_byte_at, skipped_at, split_at}
unfoldable pub use Rattle.gimli_read.specs.Number.{address_size_at, initial_length_at, long_length_at}
pub use Rattle.gimli_read.specs.Reading.{Exactly, ExactlyUnlessOom, ExactlyUnlessOomIf, Reading, WasNotRefused, fault_of, mapped, refused_if, result_map, ◌>>=◌}
pub use Rattle.gimli_read.specs.Run.{More, Next, Run, Stop, collected, cons, continued, fold_of, listed, next_of, run_of}
unfoldable pub use Rattle.gimli_read.specs.Run.{fold_run, listed_with, run_within}
pub use Rattle.gimli_read.specs.Section.{Section, after, first}
pub use Rattle.gimli_read.specs.Value.{IsAddress, IsAddressOrOffset, IsAttributeValue, IsBlock, IsEnded, IsFixed, IsIndirectValue, IsListedValue, IsMadeOf, IsOffset, IsValue, high_first, low_first, number_in, section_of}
pub use Rattle.gimli_read.specs.ValueLaws.{IsTextAndRest, ReadsAttribute, ReadsAttributeAlone, ReadsFixed, ReadsFixedAlone, ReadsValue, ReadsValueAlone}
pub use Rattle.gimli_read.specs.ValueSize.{AddsCounted, AddsSize, LeavesItsSize, address_bytes, address_or_offset_bytes, attribute_size, bytes_of, constant_size, counted_bytes, encoded_size, is_usual, no_size, total_bytes}
pub use Rattle.gimli_read.specs.declared.constants.TheConstants.DwForm.{DW_FORM_implicit_const, DW_FORM_indirect}
pub use Rattle.gimli_read.specs.declared.endian.Encoding.{Encoding}
pub use Rattle.gimli_read.specs.declared.endian.Format.{Format}
pub use Rattle.gimli_read.specs.declared.endian.Format.TheVariants.{Dwarf32, Dwarf64}
pub use Rattle.gimli_read.specs.declared.error.Error.{Error}
pub use Rattle.gimli_read.specs.declared.error.Error.TheVariants.{BadAbbreviation, BadLeb128, OutOfMemory, UnexpectedEof, UnknownForm, UnknownReservedLength, UnsupportedAddressSize}
pub use Rattle.gimli_read.specs.declared.value.AttributeValue.{AttributeValue}

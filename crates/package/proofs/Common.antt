-- What many proofs of this crate cite, handed on. Declares nothing.
pub use Rattle.std.proofs.Common.{Bool, Err, IfSome, List, None, Ok, Option, Result, Some, [], ap, arith, cond, drop, false, get_or, inl, inr, length, ltb, map, nat_lt, not, refl, slice_index, slice_index_or, subst, suc, sym, take, true, zero, ℕ, ◌%◌, ◌&&◌, ◌*◌, ◌+◌, ◌-◌, ◌/◌, ◌<◌, ◌==◌, ◌^◌, ◌||◌, ◌∙◌, ◌∷◌, ◌≡◌, ◌≢◌, ◌≤◌, ◌⊎◌}
pub use Rattle.std.proofs.lemmas.Bool.{and_parts, cases_lt, cond-false, cond-true, eq-eqb, le-ltb, lt-ltb, ltb-false, ltb-true, ne_eqb, or_from, or_left, or_right}
pub use Rattle.std.proofs.lemmas.Bool.Decides.{nat_tests}
pub use Rattle.std.proofs.lemmas.List.FromFn.{get_or-map-range_with_len, length-map-range_with_len}
pub use Rattle.std.specs.List.{find, position, range_with_len}
pub use Rattle.package.specs.Common.{Error, OffsetOutOfBounds, Section, after, first}
pub use Rattle.package.specs.Index.{Index, columns_place, numbers_from, offsets_place, number_rows_from, rows_place, sizes_place, tables_end}
unfoldable pub use Rattle.package.specs.Index.{index_by_header, number_from}
pub use Rattle.package.specs.Parts.{cell_of, part_by_number}
pub use Rattle.package.specs.Search.{ends_at, probes, row_in_slot, row_number, row_by_id, step_of}
unfoldable pub use Rattle.package.specs.Search.{probe}
pub use Rattle.package.specs.declared.constants.TheConstants.{INDEX_HEADER_SIZE}
pub use Rattle.package.specs.declared.header.IndexHeader.{IndexHeader}

use Rattle.gimli_read.proofs.FaultLemmas.{by_bytes, not_refused, none_refused}
use Rattle.gimli.proofs.Common.{arange_sets_of, ranges_from, headers_left, all_headers}
use Rattle.gimli.proofs.FaultLemmas.{from_offset_is, string_is, string_length_is, indexed_number_is, string_of_is, indexed_address_is, attr_string_is, unit_header_is, next_header_is, headers_left_are, all_headers_are, entry_code_is, root_attributes_are, root_attributes_of_are, entry_bytes_is, item_is, entry_abbreviation_is, next_item_is, entries_are, items_from_end, items_of_end, items_at_end, subtree_end, root_values_are, address_from_is, line_program_of_is, table_from_is, unit_record_is, dwo_name_is, dwo_name_fault_is, arange_set_is, arange_sets_are, range_list_entry_is, range_list_entries_end, ranges_from_are, ranges_are, list_items_unrefused, ranges_offset_is}
use Rattle.gimli.proofs.laws.fault_laws.Goals as goal

pub returns : goal.returns
returns c = record {
  law = record {
    units = record {
      header = λ n s. not_refused (unit_header_is n s);
      next = λ n s. not_refused (next_header_is n s);
      left = λ n s. none_refused (headers_left n s) (headers_left_are n s);
      headers = λ s. none_refused (all_headers s) (all_headers_are s);
      table = λ offset s. not_refused (table_from_is offset s);
      line_program = λ d e offset. not_refused (line_program_of_is d e offset);
      unit = λ d header. not_refused (unit_record_is d header);
      split_name = λ u. not_refused (dwo_name_is u);
      split_name_fault = λ d u. not_refused (dwo_name_fault_is d u);
    };
    entries = record {
      code = λ table s. not_refused (entry_code_is table s);
      abbreviation = λ table cursor. not_refused (entry_abbreviation_is table cursor);
      root = λ e table s. not_refused (root_attributes_are e table s);
      root_of = λ u. not_refused (root_attributes_of_are u);
      root_values = λ e table s. not_refused (root_values_are e table s);
      bytes = λ header offset. not_refused (entry_bytes_is header offset);
      from = λ u offset. not_refused (entries_are u offset);
      item = λ unit depth s. not_refused (item_is unit depth s);
      next = λ unit cursor. not_refused (next_item_is unit cursor);
      items = λ unit depth s. not_refused (items_from_end unit depth s);
      items_in = λ u. not_refused (items_of_end u);
      items_after = λ u offset. not_refused (items_at_end u offset);
      subtree = λ x following h. not_refused (subtree_end x following (by_bytes following.end h));
    };
    strings = record {
      from = λ offset s. not_refused (from_offset_is offset s);
      at = λ offset s. not_refused (string_is offset s);
      length = λ offset s. not_refused (string_length_is offset s);
      number = λ size base index s. not_refused (indexed_number_is size base index s);
      string = λ d format base v. not_refused (string_of_is d format base v);
      of_unit = λ d u v. not_refused (attr_string_is d u v);
      address = λ d e base v. not_refused (address_from_is d e base v);
      address_of = λ d u index. not_refused (indexed_address_is d u index);
    };
    ranges = record {
      set = λ s. not_refused (arange_set_is s);
      sets = λ s. none_refused (arange_sets_of s) (arange_sets_are s);
      entry = λ e s. not_refused (range_list_entry_is e s);
      entries = λ e s. not_refused (range_list_entries_end e s);
      offset = λ d u v. not_refused (ranges_offset_is d u v);
      from = λ d u base s. none_refused (ranges_from d u base s) (ranges_from_are d u base s);
      list = λ d u offset. not_refused (ranges_are d u offset);
      list_items = λ d u offset. list_items_unrefused d u offset;
    };
  };
}

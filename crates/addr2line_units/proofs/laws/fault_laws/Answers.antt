use Rattle.addr2line_units.proofs.Common.{not_refused, none_refused, spans_along, verdict}
use Rattle.addr2line_units.proofs.FaultLemmas.{aranges_are, unit_attributes_are, unit_of_header_is, ranged_units_are, sup_units_are, index_units_is, new_units_are, lines_of_unit_are, location_in_is, first_location_is, location_of_is, spans_along_are, spans_of_are, spans_unrefused, all_lines_are, split_name_is, first_unit_is, answered_view_is, load_of_unit_is, verdict_is, view_not_refused, function_at_is, function_in_is, frames_in_are, frames_of_number_are, asked_of_unit_are, stop_of_is, stop_at_is, unit_of_token_is, load_result_is, forget_result_is, functions_fault_is, read_of_unit_is, read_of_units_is}
use Rattle.addr2line_units.proofs.laws.fault_laws.Goals as goal

pub returns : goal.returns
returns c = record {
  law = record {
    units = record {
      aranges = λ s. not_refused (aranges_are s);
      attributes = λ d u. not_refused (unit_attributes_are d u);
      unit = λ d aranges header. not_refused (unit_of_header_is d aranges header);
      ranged = λ d. not_refused (ranged_units_are d);
      sup = λ sup. not_refused (sup_units_are sup);
      index = λ d. not_refused (index_units_is d);
      state = λ d. not_refused (new_units_are d);
    };
    lines = record {
      unit = λ d u. not_refused (lines_of_unit_are d u);
      all = λ d units. not_refused (all_lines_are d units);
      location = λ d probe u. not_refused (location_in_is d probe u);
      along_ranges = λ d units probe ranges. not_refused (first_location_is d units probe ranges);
      of_address = λ d probe. not_refused (location_of_is d probe);
      spans = λ d units low high ranges. none_refused (spans_along d units low high ranges) (spans_along_are d units low high ranges);
      of_range = λ d low high. not_refused (spans_of_are d low high);
      in_range = spans_unrefused;
    };
    views = record {
      split_name = λ d u. not_refused (split_name_is d u);
      first = λ d. not_refused (first_unit_is d);
      answered = λ d u given. not_refused (answered_view_is d u given);
      load = λ d n u. not_refused (load_of_unit_is d n u);
      view = λ d u answer. view_not_refused (verdict d u answer) (verdict_is d u answer);
      token = λ us n. not_refused (unit_of_token_is us n);
      answer = λ d us answers n given. not_refused (load_result_is d us answers n given);
      forget = λ us n. not_refused (forget_result_is us n);
    };
    frames = record {
      function = λ scope view probe. not_refused (function_at_is scope view probe);
      in_view = λ scope u answer probe. not_refused (function_in_is scope u answer probe);
      in_unit = λ scope u answer probe. not_refused (frames_in_are scope u answer probe);
      of_number = λ scope units answers probe n. not_refused (frames_of_number_are scope units answers probe n);
      asked = λ asks scope units answers probe n. not_refused (asked_of_unit_are asks scope units answers probe n);
      stop = λ asks probe s ranges. not_refused (stop_of_is asks probe s ranges);
      stop_in_unit = λ asks probe s n. not_refused (stop_at_is asks probe s n);
    };
    parses = record {
      functions = λ scope view. not_refused (functions_fault_is scope view);
      unit = λ depth scope u answer. not_refused (read_of_unit_is depth scope u answer);
      units = λ depth scope us answers. not_refused (read_of_units_is depth scope us answers);
    };
  };
}

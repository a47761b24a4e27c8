use Rattle.gimli_read.proofs.FaultLemmas.{not_refused}
use Rattle.addr2line_lines.proofs.FaultLemmas.{attribute_ranges_are, detail_is, details_at_are, file_texts_are, functions_are, inlined_attributes_are, items_inside_are, name_is, program_lines_are, range_attributes_are, referred_is, referred_name_is, unit_lines_are, visited_is}
use Rattle.addr2line_lines.proofs.laws.fault_laws.Goals as goal

pub returns : goal.returns
returns c = record {
  law = record {
    lines = record {
      files = λ d u h files. not_refused (file_texts_are d u h files);
      program = λ d u p. not_refused (program_lines_are d u p);
      unit = λ d u. not_refused (unit_lines_are d u);
    };
    functions = record {
      attributes = λ d u attributes. not_refused (range_attributes_are d u attributes);
      ranges = λ d u r. not_refused (attribute_ranges_are d u r);
      unit = λ d u. not_refused (functions_are d u);
    };
    names = record {
      entry = λ scope u v. not_refused (referred_is scope u v);
      visit = λ place. not_refused (visited_is place);
      reference = λ scope u v. not_refused (referred_name_is scope u v);
      name = λ scope u attributes. not_refused (name_is scope u attributes);
    };
    details = record {
      inlined = λ scope u attributes. not_refused (inlined_attributes_are scope u attributes);
      items = λ u offset. not_refused (items_inside_are u offset);
      one = λ scope u offset. not_refused (detail_is scope u offset);
      all = λ scope u offsets. not_refused (details_at_are scope u offsets);
    };
  };
}

use Rattle.gimli_read.proofs.FaultLemmas.{not_refused}
use Rattle.addr2line.proofs.Common.{Stop, Skip, frames_value, unit_value}
use Rattle.addr2line_units.proofs.FaultLemmas.{location_of_is, spans_of_are, spans_unrefused}
use Rattle.addr2line.proofs.FaultLemmas.{forget_reply_is, found_are, lines_of_all_are, load_reply_is, lookup_stop_is, new_context_is, parse_reply_is, replies_are}
use Rattle.addr2line.proofs.laws.fault_laws.Goals as goal

pub returns : goal.returns
returns c = record {
  law = record {
    contexts = record {
      made = λ d. not_refused (new_context_is d);
      lines = λ d. not_refused (lines_of_all_are d);
      functions = λ depth d answers. not_refused (parse_reply_is depth d answers);
    };
    locations = record {
      location = λ d probe. not_refused (location_of_is d probe);
      range = λ d low high. not_refused (spans_of_are d low high);
      rows = spans_unrefused;
    };
    lookups = record {
      stop = λ faults d answers probe. not_refused (lookup_stop_is faults d answers probe);
      frames = λ d answers probe. not_refused (found_are Stop frames_value d answers probe);
      unit = λ d answers probe. not_refused (found_are Skip unit_value d answers probe);
    };
    loads = record {
      answer = λ d answers n given. not_refused (load_reply_is d answers n given);
      forget = λ d n. not_refused (forget_reply_is d n);
    };
    replies = replies_are;
  };
}

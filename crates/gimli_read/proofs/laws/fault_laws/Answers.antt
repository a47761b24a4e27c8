use Rattle.gimli_read.proofs.FaultLemmas.{not_refused, skipped_is, split_is, fixed_is, signed_byte_is, address_size_is, address_is, offset_is, null_terminated_is, initial_length_is, uleb128_in_is, sleb128_in_is, uleb128_is, sleb128_is, address_or_offset_is, direct_is, form_is, value_is, attribute_is, attributes_are, rest_after_is, runs_rest_is, rest_after_runs_is, specification_is, specifications_are, declaration_is, front_is, abbreviation_is, table_is}
use Rattle.gimli_read.proofs.laws.fault_laws.Goals as goal

pub returns : goal.returns
returns c = record {
  law = record {
    numbers = record {
      skipped = λ n s. not_refused (skipped_is n s);
      split = λ n s. not_refused (split_is n s);
      fixed = λ n s. not_refused (fixed_is n s);
      signed_byte = λ s. not_refused (signed_byte_is s);
      address_size = λ s. not_refused (address_size_is s);
      address = λ size s. not_refused (address_is size s);
      offset = λ format s. not_refused (offset_is format s);
      null_terminated = λ s. not_refused (null_terminated_is s);
      initial_length = λ s. not_refused (initial_length_is s);
      uleb128_bytes = λ bytes. not_refused (uleb128_in_is bytes);
      sleb128_bytes = λ bytes. not_refused (sleb128_in_is bytes);
      uleb128 = λ s. not_refused (uleb128_is s);
      sleb128 = λ s. not_refused (sleb128_is s);
    };
    values = record {
      address_or_offset = λ e s. not_refused (address_or_offset_is e s);
      direct = λ e form s. not_refused (direct_is e form s);
      form = λ s. not_refused (form_is s);
      value = λ e form s. not_refused (value_is e form s);
    };
    attributes = record {
      one = λ e x s. not_refused (attribute_is e x s);
      all = λ e xs s. not_refused (attributes_are e xs s);
      after_bytes = λ n e x s. not_refused (rest_after_is n e x s);
      after_runs = λ e runs s. not_refused (runs_rest_is e runs s);
      after_all = λ e runs last s. not_refused (rest_after_runs_is e runs last s);
    };
    tables = record {
      specification = λ s. not_refused (specification_is s);
      specifications = λ s. not_refused (specifications_are s);
      declaration = λ code s. not_refused (declaration_is code s);
      front = λ s. not_refused (front_is s);
      abbreviation = λ table s. not_refused (abbreviation_is table s);
      table = λ s. not_refused (table_is s);
    };
  };
}

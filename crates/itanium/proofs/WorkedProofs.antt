-- Names and their texts, computed.
use Rattle.std.proofs.Common.{refl}
use Rattle.itanium.specs.Worked.{WorkedEntities, WorkedTypes, WorkedSubstitutions, WorkedSpecialNames, WorkedLimits, WorkedFaults, WorkedNames}
use Rattle.itanium.proofs.Computing.{itanium}

worked_entities : WorkedEntities
unfolding itanium
worked_entities = record {
  plain = refl;
  variadic = refl;
  internal = refl;
  initializer = refl;
  unnamed_namespace = refl;
  of_std = refl;
  of_stream = refl;
  with_tag = refl;
  qualified = refl;
  string_constructor = refl;
  allocator_destructor = refl;
  inherited_constructor = refl;
  conversion = refl;
  operator_delete = refl;
  template_operator = refl;
  literal_operator = refl;
  vendor_operator = refl;
  local_object = refl;
  local_string = refl;
}

worked_types : WorkedTypes
unfolding itanium
worked_types = record {
  builtin_types = refl;
  function_pointer = refl;
  nested_functions = refl;
  function_result = refl;
  array_reference = refl;
  array_pointer = refl;
  array_result = refl;
  member_function = refl;
  members = refl;
  member_array = refl;
  qualified_function = refl;
  qualified_types = refl;
  collapsed = refl;
  function_argument = refl;
  function_and_array = refl;
  complex = refl;
  floating = refl;
  vectors = refl;
  pixels = refl;
}

worked_substitutions : WorkedSubstitutions
unfolding itanium
worked_substitutions = record {
  qualifiers = refl;
  prefixes = refl;
  arguments = refl;
  tagged = refl;
  member = refl;
  stream_operator = refl;
  constructor = refl;
  template_template = refl;
  integers = refl;
  small_integers = refl;
  typed_literals = refl;
}

worked_special_names : WorkedSpecialNames
unfolding itanium
worked_special_names = record {
  vtable = refl;
  vtt = refl;
  construction_vtable = refl;
  thunk = refl;
  virtual_thunk = refl;
  covariant_thunk = refl;
  wrapper = refl;
  initialization = refl;
  guard = refl;
  temporary = refl;
  cold = refl;
  clones = refl;
  dotted = refl;
}

worked_limits : WorkedLimits
unfolding itanium
worked_limits = record {
  deepest_type = refl;
  type_too_deep = refl;
}

worked_faults : WorkedFaults
unfolding itanium
worked_faults = record {
  no_prefix = refl;
  cut = refl;
  cut_identifier = refl;
  no_identifier = refl;
  bytes_left = refl;
  component_out_of_range = refl;
  parameter_out_of_range = refl;
  no_such_level = refl;
  substitution_alone = refl;
  arguments_in_conversion = refl;
  local_arguments = refl;
  pack = refl;
  expression = refl;
  closure = refl;
  block = refl;
  rust_legacy = refl;
}

pub worked_names : WorkedNames
worked_names = record {
  entities = worked_entities;
  types = worked_types;
  substitutions = worked_substitutions;
  special_names = worked_special_names;
  limits = worked_limits;
  faults = worked_faults;
}

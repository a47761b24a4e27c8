-- One name to unfold where a proof computes with a name that is written out.
use Rattle.itanium.specs.Tree.{depth}
use Rattle.itanium.specs.Reading.{table_entry_at, up_to}
use Rattle.itanium.specs.Identifiers.{abi_tags, after_discriminator, counted, decimal_digits, discriminator, identifier, name_length, number, source_name}
use Rattle.itanium.specs.Substitutions.{abbreviation, component, parameter, substitution, template_param}
use Rattle.itanium.specs.Args.{argument_rule, builtin_literal, literal, string_literal, template_args, typed_literal}
use Rattle.itanium.specs.Unqualified.{base_name, constructor_kind, constructor_name, conversion_name, cv_qualifiers, destructor_name, identifier_name, literal_operator, operator_name, ref_qualifier, unqualified_name, vendor_operator, with_arguments}
use Rattle.itanium.specs.Names.{argument_step, default_argument, entity_rule, first_prefix, known_prefix, known_template, local_entity, local_name, local_string, name_step, nested_name, new_prefix, parameter_prefix, step, steps, unscoped_name}
use Rattle.itanium.specs.Types.{array_type, compound_type, entity_type, float_type, function_parameter, function_rule, known_type, member_type, parameter_type, sized_vector, template_type, type_rule, unsized_vector, vector_type}
use Rattle.itanium.specs.Encodings.{call_offset, construction, encoding_rule, function_of, named_encoding, offset, parameters, plain_function, reference_temporary, special_entity, special_name, template_function, temporary_number, titled, types}
use Rattle.itanium.specs.Grammar.{bounded_entity, bounded_tree, level_around, reads}
use Rattle.itanium.specs.Shown.{parts, tree_text}
use Rattle.itanium.specs.Demangled.{cxx_text, encoded_text, has_hash, is_rust_legacy, undotted_text, without_prefix}

-- `unfolding itanium` lets `refl` compute `cxx_text`
unfoldable pub itanium : Unit {0}
unfolding depth table_entry_at up_to abi_tags after_discriminator counted decimal_digits discriminator identifier name_length number source_name abbreviation component parameter substitution template_param argument_rule builtin_literal literal string_literal template_args typed_literal base_name constructor_kind constructor_name conversion_name cv_qualifiers destructor_name identifier_name literal_operator operator_name ref_qualifier unqualified_name vendor_operator with_arguments argument_step default_argument entity_rule first_prefix known_prefix known_template local_entity local_name local_string name_step nested_name new_prefix parameter_prefix step steps unscoped_name array_type compound_type entity_type float_type function_parameter function_rule known_type member_type parameter_type sized_vector template_type type_rule unsized_vector vector_type call_offset construction encoding_rule function_of named_encoding offset parameters plain_function reference_temporary special_entity special_name template_function temporary_number titled types bounded_entity bounded_tree level_around reads parts tree_text cxx_text encoded_text has_hash is_rust_legacy undotted_text without_prefix
itanium = tt

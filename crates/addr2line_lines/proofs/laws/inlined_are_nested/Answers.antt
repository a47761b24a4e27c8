use Rattle.addr2line_lines.proofs.NestedInlined
use Rattle.addr2line_lines.proofs.laws.inlined_are_nested.Goals as goal

pub returns : goal.returns
returns c = record { law = record { chain = NestedInlined.nested_chain; nearest = NestedInlined.nested_in_function; first = NestedInlined.chain_begins_outermost } }

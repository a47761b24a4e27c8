use Rattle.addr2line_lines.proofs.Common.{◌≡◌, ◌-◌, as_value, name_within, referred_name, IsScope, as_scope}
use Rattle.addr2line_lines.proofs.name.referred_name.Given as goal

abbrev pub invariant-loop : goal.invariant-loop
invariant-loop g l = record {
  gives : name_within (16 - l.counter) (as_scope l.scope) l.unit (as_value g.R.Reader.section l.value) ≡ referred_name (as_scope l.fn.scope) l.fn.unit (as_value g.R.Reader.section l.fn.value);
  in_order : IsScope (as_scope l.scope);
}

use Rattle.addr2line_units.proofs.Common.{refl, rules, ◌≡◌, ◌∙◌, ap, sym, Err, option_map, split_unit, unboxed}
use Rattle.addr2line_units.proofs.UnitViewLemmas.{answered_verdict}
use Rattle.addr2line_units.proofs.unit.UnitView.decide.Goals as goal
use Rattle.addr2line_units.proofs.unit.UnitView.decide.Goals.{in-Ok, in-Err}

pub returns : goal.returns
returns g c = record {
  after = record {
    answer = refl;
    read = elim c.match-read_split_unit.branch [
      | in-Ok w ↦ answered_verdict {R = g.row.R.Denot} _ _ _ (ap unboxed w.unit-is ∙ sym w.in-Ok.ensures.gives)
      | in-Err w ↦
          let fault : split_unit c.args.dw_unit.now (option_map (λ d. d.value) c.args.sections) ≡ Err w.in-Err.error = search rules in
          answered_verdict {R = g.row.R.Denot} _ _ _ (ap unboxed w.unit-is ∙ sym fault)
    ];
    refused = tt;
    no_memory = λ takes. tt;
  };
}

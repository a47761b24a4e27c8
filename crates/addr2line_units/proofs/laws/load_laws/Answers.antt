use Rattle.addr2line_units.proofs.LoadsLawLemmas.{fewer_left, never_waits_alone, others_left, waits_listed}
use Rattle.addr2line_units.proofs.laws.load_laws.Goals as goal

pub returns : goal.returns
returns c = record {
  law = record {
    listed = waits_listed;
    none = never_waits_alone;
    others = others_left;
    fewer = fewer_left;
  };
}

use Rattle.gimli_read.proofs.AlikeLemmas.{exact_alike, unless_oom_alike}
use Rattle.gimli_read.proofs.laws.alike_laws.Goals as goal

pub returns : goal.returns
returns g c = record {
  law = record {
    exact = exact_alike _ _ _;
    unless_oom = unless_oom_alike _ _ _;
  };
}

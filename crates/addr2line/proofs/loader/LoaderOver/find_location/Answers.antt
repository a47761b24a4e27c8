use Rattle.addr2line.proofs.Common.{Err, ap, refl, sym, ◌∙◌, of_file}
use Rattle.addr2line.proofs.LoadingLemmas.{looked_in_context, no_oom}
use Rattle.addr2line.proofs.loader.LoaderOver.find_location.Goals as goal

pub returns-in-Ok : goal.returns-in-Ok
returns-in-Ok g c = (
  (
    refl,
    (λ _. tt),
    looked_in_context _ _ _ c.find_location.result _ _ _ (ap of_file (sym c.in-Ok.is)) c.find_location.follows.holds-at-none,
  ),
  record {
    gives = record {
      found = ap of_file c.in-Ok.ensures.gives.found;
      exact = λ ready. ap of_file (c.in-Ok.ensures.gives.exact ready);
      none = λ u. ap of_file (c.in-Ok.ensures.gives.none u);
      last = c.in-Ok.ensures.gives.last;
    };
    ends = tt;
  },
)

pub returns-in-Err : goal.returns-in-Err
returns-in-Err g c = (
  (
    refl,
    (λ _. tt),
    looked_in_context _ _ _ c.find_location.result _ _ _ (ap Err c.from.ensures ∙ ap of_file (sym c.in-Err.is)) c.find_location.follows.holds-at-none,
  ),
  record {
    gives = record {
      found = λ ne. ap of_file (c.in-Err.ensures.gives.found (no_oom c.in-Err.error (λ q. ne (c.from.ensures ∙ q)))) ∙ ap Err (sym c.from.ensures);
      exact = λ ready. ap of_file (c.in-Err.ensures.gives.exact ready) ∙ ap Err (sym c.from.ensures);
      none = λ u. absurd (let no = c.in-Err.ensures.gives.none u in cc);
      last = c.in-Err.ensures.gives.last;
    };
    ends = tt;
  },
)

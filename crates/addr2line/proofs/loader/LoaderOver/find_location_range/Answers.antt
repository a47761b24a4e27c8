use Rattle.addr2line.proofs.Common.{Err, ap, refl, sym, ◌∙◌, of_file}
use Rattle.elf.specs.Text.{loader_error_of}
use Rattle.addr2line.proofs.LoadingLemmas.{looked_in_context}
use Rattle.addr2line.proofs.loader.LoaderOver.find_location_range.Goals as goal

pub returns-in-Ok : goal.returns-in-Ok
returns-in-Ok g c = (
  (
    refl,
    (λ _. tt),
    looked_in_context _ _ _ c.find_location_range.result _ _ _ (ap of_file (sym c.in-Ok.is)) c.find_location_range.follows.holds-at-none,
  ),
  record { gives = record { found = c.in-Ok.ensures.gives.found; refused = tt; exact = λ none. refl }; ends = tt },
)

pub returns-in-Err : goal.returns-in-Err
returns-in-Err g c = (
  (
    refl,
    (λ _. tt),
    looked_in_context _ _ _ c.find_location_range.result _ _ _ (ap Err c.from.ensures ∙ ap of_file (sym c.in-Err.is)) c.find_location_range.follows.holds-at-none,
  ),
  record {
    gives = record {
      found = tt;
      refused = c.from.ensures ∙ ap loader_error_of c.in-Err.ensures.gives.refused;
      exact = λ none. absurd (let no = c.in-Err.ensures.gives.exact none in cc);
    };
    ends = tt;
  },
)

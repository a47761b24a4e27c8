use Rattle.gimli.proofs.UnitTexts.{units_cover, entries_follow_headers}
use Rattle.gimli.proofs.laws.unit_laws.Goals as goal

pub returns : goal.returns
returns c = record {
  law = record {
    cover = units_cover;
    entries = entries_follow_headers;
  };
}

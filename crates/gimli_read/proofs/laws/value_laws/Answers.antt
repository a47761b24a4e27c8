use Rattle.gimli_read.proofs.FixedTexts.{fixed_reads, fixed_alone}
use Rattle.gimli_read.proofs.ValueTexts.{value_reads, value_alone}
use Rattle.gimli_read.proofs.AttributeTexts.{attribute_reads, attribute_alone}
use Rattle.gimli_read.proofs.laws.value_laws.Goals as goal

pub returns : goal.returns
returns c = record {
  law = record {
    fixed = fixed_reads;
    fixed_alone = fixed_alone;
    value = value_reads;
    value_alone = value_alone;
    attribute = attribute_reads;
    attribute_alone = attribute_alone;
  };
}

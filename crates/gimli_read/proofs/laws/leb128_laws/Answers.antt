use Rattle.gimli_read.proofs.Leb128Texts.{uleb128_reads, uleb128_alone, sleb128_reads, sleb128_alone}
use Rattle.gimli_read.proofs.laws.leb128_laws.Goals as goal

pub returns : goal.returns
returns c = record {
  law = record {
    unsigned = uleb128_reads;
    unsigned_alone = uleb128_alone;
    signed = sleb128_reads;
    signed_alone = sleb128_alone;
  };
}

use Rattle.gimli_read.proofs.Common.{sym, pow_more}
use Rattle.gimli_read.proofs.Leb128Lemmas.{uleb128_value-more}
use Rattle.gimli_read.proofs.leb128.sum_of.Goals as goal

pub loop-byte-preserved : goal.loop-byte-preserved
loop-byte-preserved c =
    let e = uleb128_value-more c.args.text.now c.loop-byte.byte-index c.loop-byte-test.true in
    record {
      sum_is = rw (c.loop-byte.invariant.sum_is, c.loop-byte.invariant.scale_is) (sym e);
      scale_is = rw c.loop-byte.invariant.scale_is (sym (pow_more 128 c.loop-byte.byte-index));
    }

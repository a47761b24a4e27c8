use Rattle.inflate.proofs.Common.{◌≡◌, ◌+◌, ◌%◌, arith, take, get_or, refl, take_all, adler32_of}
use Rattle.inflate.proofs.AdlerLemmas.{low_next, high_next}
use Rattle.inflate.proofs.adler.adler32.Goals as goal
use Rattle.inflate.proofs.adler.adler32.Goals.{then-high-ge-SUM_LIMIT, else-high-ge-SUM_LIMIT}

pub loop-byte-preserved : goal.loop-byte-preserved
loop-byte-preserved c =
    let i = c.loop-byte.invariant in
    let xs = c.args.bytes.now in
    let n = c.loop-byte.byte-index in
    let byte = get_or xs n 0 in
    let joined = c.if-high-ge-SUM_LIMIT in
    let low_mod : joined.low % 65521 ≡ (c.loop-byte.low + byte) % 65521 = elim joined.branch [ then-high-ge-SUM_LIMIT w ↦ omega (arith, w.low-is) | else-high-ge-SUM_LIMIT w ↦ omega (arith, w.low-is) ] in
    let high_mod : joined.high % 65521 ≡ (c.loop-byte.high + joined.low) % 65521 = elim joined.branch [ then-high-ge-SUM_LIMIT w ↦ omega (arith, w.low-is, w.high-is) | else-high-ge-SUM_LIMIT w ↦ omega (arith, w.low-is, w.high-is) ] in
    let low = low_next xs n byte c.loop-byte.low joined.low c.loop-byte-test.true refl i.low_is low_mod in
    record {
      low_is = low;
      high_is = high_next xs n byte joined.low c.loop-byte.high joined.high c.loop-byte-test.true refl low i.high_is high_mod;
      low_small = elim joined.branch [ then-high-ge-SUM_LIMIT w ↦ omega (arith, w.low-is, w.high-is) | else-high-ge-SUM_LIMIT w ↦ omega (arith, w.low-is, w.high-is) ];
      high_small = elim joined.branch [ then-high-ge-SUM_LIMIT w ↦ omega (arith, w.low-is, w.high-is) | else-high-ge-SUM_LIMIT w ↦ omega (arith, w.if-high-ge-SUM_LIMIT.false, w.low-is, w.high-is) ];
    }

pub returns : goal.returns
unfolding adler32_of
returns c =
    let i = c.loop-byte.invariant in
    let t : take c.loop-byte.byte-index c.args.bytes.now ≡ c.args.bytes.now = take_all c.loop-byte.byte-index c.args.bytes.now (omega arith) in
    let low = rw t at i.low_is in
    let high = rw t at i.high_is in
    record { gives = rw (low, high) refl }

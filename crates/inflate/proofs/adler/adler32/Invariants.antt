use Rattle.inflate.proofs.Common.{◌≡◌, ◌+◌, ◌%◌, ◌<◌, ◌≤◌, ◌^◌, take, sum, sums_from}
use Rattle.inflate.proofs.adler.adler32.Given as goal

abbrev pub invariant-loop-byte : goal.invariant-loop-byte
invariant-loop-byte l = record {
  low_is : l.low % 65521 ≡ (1 + sum (take l.byte-index l.bytes)) % 65521;
  high_is : l.high % 65521 ≡ sums_from 1 (take l.byte-index l.bytes) % 65521;
  low_small : l.low ≤ l.high + 65521;
  high_small : l.high < 2 ^ 62;
}

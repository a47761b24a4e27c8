use Rattle.gimli_read.proofs.Common.{◌≡◌, ◌^◌, take, uleb128_value}
use Rattle.gimli_read.proofs.leb128.short_sum_of.Given as goal

abbrev pub invariant-loop-byte : goal.invariant-loop-byte
invariant-loop-byte l = record {
  sum_is : l.sum ≡ uleb128_value (take l.byte-index l.text);
  scale_is : l.scale ≡ 128 ^ l.byte-index;
}

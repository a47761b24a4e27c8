use Rattle.addr2line_lines.proofs.Common.{ℕ, ◌≡◌, ◌-◌, ◌<◌, ◌≤◌, ◌⊎◌, slice_index_or, FunctionAddress}
use Rattle.addr2line_lines.proofs.segments.are_disjoint.Given as goal

abbrev pub invariant-loop-address : goal.invariant-loop-address
invariant-loop-address l = record {
  proper : (j : ℕ) (d : FunctionAddress) → j < l.address-index → (slice_index_or l.addresses j d).range.begin < (slice_index_or l.addresses j d).range.end;
  apart : (i j : ℕ) (d : FunctionAddress) → i < j → j < l.address-index → (slice_index_or l.addresses i d).range.end ≤ (slice_index_or l.addresses j d).range.begin;
  past : (j : ℕ) (d : FunctionAddress) → j < l.address-index → (slice_index_or l.addresses j d).range.end ≤ l.past;
  last : (d : FunctionAddress) → (l.past ≡ 0) ⊎ ((0 < l.address-index) × (l.past ≡ (slice_index_or l.addresses (l.address-index - 1) d).range.end));
}

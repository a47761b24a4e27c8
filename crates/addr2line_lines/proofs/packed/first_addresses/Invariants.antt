use Rattle.addr2line_lines.proofs.Common.{ℕ, ◌≡◌, ◌*◌, ◌<◌, length, slice_index, row_address_at}
use Rattle.addr2line_lines.proofs.packed.first_addresses.Given as goal

abbrev pub invariant-loop-block : goal.invariant-loop-block
invariant-loop-block l = record {
  len : length l.coarse.items ≡ l.block;
  each : (j : ℕ) → j < l.block → slice_index l.coarse.items j ≡ row_address_at l.rows.rows (64 * j);
}

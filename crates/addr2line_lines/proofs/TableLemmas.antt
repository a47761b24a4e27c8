-- Packed rows as a table that is searched (on specs/Packed.antt).
use Rattle.addr2line_lines.proofs.Common.{ℕ, ◌≡◌, ◌<◌, ◌^◌, List, map, length, ◌∙◌, ap, sym, subst, AllByRecursion, length-map, Row, LineSequence, begins_sooner, in_order, start_of, end_of, IsAmong, IsTable, packed_rows_in, packed_start, packed_end, packed_sooner, unpacked}
use Rattle.std.specs.Option.{option_and_then}
use Rattle.addr2line_lines.specs.Counts.{most_steps, rows_in}
use Rattle.addr2line_lines.specs.Spans.{row_at, row_in}
use Rattle.addr2line_lines.proofs.OrderLemmas.{begins_order, in_order_all, in_order_ordered}
use Rattle.addr2line_lines.proofs.OrderPick.{pick_in_order}
use Rattle.addr2line_lines.proofs.PackedLemmas.{all_end, in_order-length, in_order-map, rows_in_is}

module _ (rows : List Row) (listed sequences : List LineSequence) (sorted : sequences ≡ in_order packed_sooner listed) where
  pub table_of : length rows < 2 ^ 64 → AllByRecursion (IsAmong rows) listed → IsTable sequences rows
  table_of few all =
      let P : List LineSequence → Type 0 = λ ss. IsTable ss rows in
      subst P (sym sorted) (record {
        few = few;
        each = in_order_all packed_sooner (IsAmong rows) listed all;
        ordered = in_order_ordered packed_sooner (begins_order packed_start packed_end) listed;
      })

  -- the sequences as they are searched are the listed ones in order
  pub ordered_are : map (unpacked rows) sequences ≡ in_order (begins_sooner start_of end_of) (map (unpacked rows) listed)
  ordered_are = ap (map (unpacked rows)) sorted ∙ in_order-map rows listed

  -- the looks of a search are those of the listed sequences
  pub steps_are : length rows ≡ packed_rows_in listed → AllByRecursion (IsAmong rows) listed
      → most_steps (length sequences) (length rows) ≡ most_steps (length (map (unpacked rows) listed)) (rows_in (map (unpacked rows) listed))
  steps_are all among =
      ap (λ n. most_steps n (length rows)) (ap length sorted ∙ in_order-length listed ∙ sym (length-map listed (unpacked rows)))
      ∙ ap (most_steps (length (map (unpacked rows) listed))) (all ∙ sym (rows_in_is rows listed (all_end rows listed among)))

  -- the row of the sequences as they are searched is that of the listed ones
  pub row_at_listed : (probe : ℕ) → row_at probe (map (unpacked rows) sequences) ≡ row_at probe (map (unpacked rows) listed)
  row_at_listed probe =
      ap (row_at probe) ordered_are
      ∙ ap (option_and_then (row_in probe)) (pick_in_order start_of end_of probe (map (unpacked rows) listed))

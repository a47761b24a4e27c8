-- Rows as they are stored (on specs/StoredRows.antt).
use Rattle.addr2line_lines.proofs.Common.{ℕ, ◌≡◌, ◌+◌, ◌*◌, ◌^◌, ◌%◌, ◌==◌, true, ◌∙◌, ap, sym, Row, and_parts, eqb-true}
use Rattle.std.proofs.lemmas.Nat.{div-add-mod'}
use Rattle.addr2line_lines.specs.StoredRows.{are_narrow, fits, row_of_short, shortened, upper_of}

-- what fits is narrow, and its twelve bytes stand for it
pub fits_narrow : (upper : ℕ) (r : Row) → fits upper r ≡ true → are_narrow r ≡ true
fits_narrow upper r e = (and_parts (upper_of r == upper) (are_narrow r) e).1

pub short_is : (upper : ℕ) (r : Row) → fits upper r ≡ true → row_of_short upper (shortened r) ≡ r
short_is upper r e =
    let same = eqb-true (upper_of r) upper (and_parts (upper_of r == upper) (are_narrow r) e).0 in
    ap (λ (a : ℕ). row_at a) (ap (λ u. u * 2 ^ 32 + r.address % 2 ^ 32) (sym same) ∙ div-add-mod' r.address (2 ^ 32))
  where
    row_at : ℕ → Row
    row_at a = record { address = a; file_index = r.file_index; line = r.line; column = r.column }

-- Addresses do not fall before an end (on specs/Rises.antt).
use Rattle.gimli_line.proofs.Common.{◌≡◌, ℕ, ◌+◌, ◌*◌, ◌/◌, ◌%◌, ◌≤◌, Bool, true, false, cond, not, ◌&&◌, ◌||◌, nat_lt, List, [], ◌∷◌, Some, None, Result, Ok, Err, refl, subst, arith, nat_tests, Error, AddressOverflow, ◌>>=◌, LineEncoding, Opcode, Special, Copy, AdvancePc, AdvanceLine, SetFile, SetColumn, ConstAddPc, FixedAdvancePc, EndSequence, SetAddress, Other, Registers, LineRow, limit, opcodes_in, line_advance, moved, is_end, makes_row, ended, start_registers, advanced, placed, fixed_advanced, step_registers, fitting, shown_row, row_of, registers_after, executed, with_row_first, continued_rows, rows_from}
use Rattle.gimli_line.specs.AddressSize.{is_tombstone}
use Rattle.gimli_line.specs.Rises.{rows_before, NeverFalls, RowsRise}
use Rattle.gimli_line.proofs.ClosedForm.{rows_of-start}

-- the address of what a condition chooses
advanced_grows : (e : LineEncoding) (n : ℕ) (r : Registers) → r.address ≤ (advanced e n r).address
advanced_grows e n r = by_cases r.dropping
  where
    by_cases : (b : Bool) → r.address ≤ (cond b r (record r {
      address = r.address + e.minimum_instruction_length * ((r.op_index + n) / e.maximum_operations_per_instruction);
      op_index = (r.op_index + n) % e.maximum_operations_per_instruction;
    })).address
    by_cases true = omega arith
    by_cases false = omega arith

fixed_advanced_grows : (n : ℕ) (r : Registers) → r.address ≤ (fixed_advanced n r).address
fixed_advanced_grows n r = by_cases r.dropping
  where
    by_cases : (b : Bool) → r.address ≤ (cond b r (record r { address = r.address + n; op_index = 0 })).address
    by_cases true = omega arith
    by_cases false = omega arith

placed_grows : (e : LineEncoding) (a : ℕ) (r : Registers) → r.address ≤ (placed e a r).address
placed_grows e a r = by_cases (is_tombstone e.address_size a || nat_lt a r.address) refl
  where
    not_below : (t b : Bool) → (t || b) ≡ false → b ≡ false
    not_below true b k = cc
    not_below false b k = k

    reaches : {x y : ℕ} → nat_lt x y ≡ false → y ≤ x
    reaches {x} {y} k = grind (arith, nat_tests)

    by_cases : (b : Bool) → (is_tombstone e.address_size a || nat_lt a r.address) ≡ b → r.address ≤ (cond b (record r { dropping = true }) (record r { address = a; op_index = 0; dropping = false })).address
    by_cases true k = omega arith
    by_cases false k = reaches (not_below (is_tombstone e.address_size a) _ k)

step_grows : (e : LineEncoding) (r : Registers) (op : Opcode) → r.address ≤ (step_registers e r op).address
step_grows e r (Special n) = advanced_grows e (n / e.line_range) (record r { line = moved r.line (line_advance e n) })
step_grows e r Copy = omega arith
step_grows e r (AdvancePc n) = advanced_grows e n r
step_grows e r (AdvanceLine z) = omega arith
step_grows e r (SetFile n) = omega arith
step_grows e r (SetColumn n) = omega arith
step_grows e r ConstAddPc = advanced_grows e _ r
step_grows e r (FixedAdvancePc n) = fixed_advanced_grows n r
step_grows e r EndSequence = omega arith
step_grows e r (SetAddress a) = placed_grows e a r
step_grows e r Other = omega arith

-- the first row, if there is one, is at this address or above it
abbrev pub NextFrom : ℕ → List LineRow → Type 0
NextFrom m [] = Unit {0}
NextFrom m (r ∷ rows) = m ≤ r.address

-- they never fall, from this address on
record Climbs (m : ℕ) (rows : List LineRow) : Type 0 where
  falls : NeverFalls rows
  next : NextFrom m rows

weaker : (m n : ℕ) (rows : List LineRow) → m ≤ n → Climbs n rows → Climbs m rows
weaker m n rows l h = record { falls = h.falls; next = by_list rows h.next }
  where
    by_list : (xs : List LineRow) → NextFrom n xs → NextFrom m xs
    by_list [] k = tt
    by_list (r ∷ xs) k = omega arith

add : (m n : ℕ) (r : LineRow) (rows : List LineRow) → m ≤ r.address → (r.end_sequence ≡ false → r.address ≡ n) → Climbs n rows → Climbs m (r ∷ rows)
add m n r rows l same h = record { falls = by_list rows h.falls h.next; next = l }
  where
    by_list : (xs : List LineRow) → NeverFalls xs → NextFrom n xs → NeverFalls (r ∷ xs)
    by_list [] f k = tt
    by_list (s ∷ xs) f k = ((λ o. let e = same o in omega arith), f)

module _ {Z : Type 0} (e : LineEncoding) (op : Opcode) (ops : List Opcode) (end : Result Z Error) where
  emits : (m : ℕ) (r : Registers) → m ≤ r.address → Climbs 0 (rows_before (rows_from e start_registers ops end)) → Climbs r.address (rows_before (rows_from e r ops end))
      → Climbs m (rows_before (with_row_first (row_of op r) (rows_from e (registers_after op r) ops end)))
  emits m r l anew on = at (is_end op) (makes_row op && not r.dropping)
    where
      at : (b d : Bool) → Climbs m (rows_before (with_row_first (cond b (Some (shown_row r true)) (cond d (Some (shown_row r false)) None)) (rows_from e (cond b start_registers r) ops end)))
      at true d = add m 0 (shown_row r true) (rows_before (rows_from e start_registers ops end)) l (λ k. cc) anew
      at false true = add m r.address (shown_row r false) (rows_before (rows_from e r ops end)) l (λ k. refl) on
      at false false = weaker m r.address (rows_before (rows_from e r ops end)) l on

  executes : (m : ℕ) (r : Registers) → m ≤ r.address → Climbs 0 (rows_before (rows_from e start_registers ops end)) → Climbs r.address (rows_before (rows_from e r ops end))
      → Climbs m (rows_before (continued_rows (λ q. rows_from e q ops end) (fitting e r >>= λ q. Ok (row_of op q, registers_after op q))))
  executes m r l anew on = by_test (nat_lt r.address (limit e))
    where
      by_test : (b : Bool) → Climbs m (rows_before (continued_rows (λ q. rows_from e q ops end) (cond b (Ok r) (Err AddressOverflow) >>= λ q. Ok (row_of op q, registers_after op q))))
      by_test true = emits m r l anew on
      by_test false = record { falls = tt; next = tt }

none_left : {Z : Type 0} (m : ℕ) (end : Result Z Error) → Climbs m (rows_before (ended end))
none_left m (Ok z) = record { falls = tt; next = tt }
none_left m (Err d) = record { falls = tt; next = tt }

climbs : {Z : Type 0} (e : LineEncoding) (ops : List Opcode) (end : Result Z Error) (r : Registers) → Climbs r.address (rows_before (rows_from e r ops end))
unfolding rows_from executed
climbs e [] end r = none_left r.address end
climbs e (op ∷ ops) end r = executes e op ops end r.address (step_registers e r op) (step_grows e r op) (climbs e ops end start_registers) (climbs e ops end (step_registers e r op))

pub never_falls : {Z : Type 0} (e : LineEncoding) (ops : List Opcode) (end : Result Z Error) (r : Registers) → NeverFalls (rows_before (rows_from e r ops end))
never_falls e ops end r = (climbs e ops end r).falls

pub rows_rise : RowsRise
rows_rise e run some =
    let P : List (Result LineRow Error) → Type 0 = λ rows. NeverFalls (rows_before rows) in
    subst P (rows_of-start e some (opcodes_in run.items) run.end) (never_falls e (opcodes_in run.items) run.end start_registers)

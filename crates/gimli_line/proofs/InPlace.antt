-- Opcodes that change registers in place (on specs/Steps.antt).
use Rattle.gimli_line.proofs.Common.{◌≡◌, ℕ, ℤ, ◌+◌, ◌*◌, ◌/◌, ◌%◌, ◌<◌, ◌&&◌, not, nat_lt, Bool, true, false, cond, Option, Some, None, Result, Ok, Err, refl, sym, ap, ◌∙◌, arith, lt-ltb, Error, AddressOverflow, Exactly, ◌>>=◌, LineEncoding, Opcode, AdvanceLine, AdvancePc, ConstAddPc, Copy, Other, SetColumn, SetFile, Special, Registers, LineRow, limit, Header, advance, moved, line_advance, is_end, makes_row, TakesOpcode, shown, done, IsRunning, start_registers, advanced, fitting, step_registers, shown_row, row_of, registers_after, executed}
use Rattle.std.proofs.Math.Nat.{div-one, mod-one}
use Rattle.std.specs.Result.{is_err}
use Rattle.gimli_line.specs.declared.frequent.Frequent.{Frequent}
use Rattle.gimli_line.specs.declared.frequent.Frequent.TheVariants.{Other as NotFrequent, Quiet, Shows}

abbrev pub Executed : Type 0
Executed = Option LineRow × Registers

-- where an answer isn't a refusal
pub not_refused : (r : Result (Unit {0}) Error) (q : Registers) (given : Result Registers Error) → is_err r ≡ false → Exactly (λ _. q) r given → given ≡ Ok q
not_refused (Ok x) q given e h = h
not_refused (Err x) q given e h = absurd (cc (e))

-- registers whose address fits
pub fitting_is : (e : LineEncoding) (r : Registers) → r.address < limit e → fitting e r ≡ Ok r
fitting_is e r h = rw (lt-ltb _ _ h) refl

-- registers that a header's opcodes are run from
pub fits : (e : LineEncoding) (h : Header) (r : Registers) → e ≡ h.line_encoding → IsRunning h.line_encoding r → r.address < limit e
fits e h r same running = rw same running.fits

fitting_same : (e : LineEncoding) (r q : Registers) → fitting e r ≡ Ok q → r ≡ q
fitting_same e r q h = by_test (nat_lt r.address (limit e)) h
  where
    by_test : (b : Bool) → ◌≡◌ {A = Result Registers Error} (cond b (Ok r) (Err AddressOverflow)) (Ok q) → r ≡ q
    by_test true h = cc
    by_test false h = absurd (cc (h))

-- the line makes no address fit
fitting_lined : (e : LineEncoding) (r q : Registers) (line : ℕ) → fitting e r ≡ Ok q → fitting e (record r { line = line }) ≡ Ok (record q { line = line })
fitting_lined e r q line h = by_test (nat_lt r.address (limit e)) h
  where
    by_test : (b : Bool) → ◌≡◌ {A = Result Registers Error} (cond b (Ok r) (Err AddressOverflow)) (Ok q)
        → ◌≡◌ {A = Result Registers Error} (cond b (Ok (record r { line = line })) (Err AddressOverflow)) (Ok (record q { line = line }))
    by_test true h = let same : r ≡ q = cc in ap (λ (x : Registers). Ok (record x { line = line })) same
    by_test false h = absurd (cc (h))

-- while dropping no advance counts
advanced_not : (e : LineEncoding) (n : ℕ) (r : Registers) → r.dropping ≡ true → advanced e n r ≡ r
advanced_not e n r h =
    let there : Registers = record r { address = r.address + e.minimum_instruction_length * ((r.op_index + n) / e.maximum_operations_per_instruction); op_index = (r.op_index + n) % e.maximum_operations_per_instruction } in
    ap (λ b. cond b r there) h

-- where an instruction has one operation, operations are instructions
advanced_single : (e : LineEncoding) (n : ℕ) (r : Registers) → e.maximum_operations_per_instruction ≡ 1 → IsRunning e r → r.dropping ≡ false
    → advanced e n r ≡ record r { address = r.address + e.minimum_instruction_length * n }
advanced_single e n r single running counts =
    let most : ℕ = e.maximum_operations_per_instruction in
    let index : r.op_index ≡ 0 = (let i = running.index in omega (arith, i, single)) in
    let full : (r.op_index + n) / most ≡ n = ap (λ k. (r.op_index + n) / k) single ∙ div-one (r.op_index + n) ∙ omega (arith, index) in
    let left : (r.op_index + n) % most ≡ r.op_index = ap (λ k. (r.op_index + n) % k) single ∙ mod-one (r.op_index + n) ∙ sym index in
    let there : Registers = record r { address = r.address + e.minimum_instruction_length * ((r.op_index + n) / most); op_index = (r.op_index + n) % most } in
    ap (λ b. cond b r there) counts
    ∙ ap (λ k. record r { address = r.address + e.minimum_instruction_length * k; op_index = (r.op_index + n) % most }) full
    ∙ ap (λ k. record r { address = r.address + e.minimum_instruction_length * n; op_index = k }) left

-- an opcode that appends no row
pub quiet : (e : LineEncoding) (r q : Registers) (op : Opcode) → is_end op ≡ false → makes_row op ≡ false → fitting e (step_registers e r op) ≡ Ok q → executed e r op ≡ Ok (None, q)
unfolding executed
quiet e r q op a b h = ap (λ (x : Result Registers Error). x >>= λ s. done {A = Executed} (row_of op s, registers_after op s)) h ∙ by_tests (is_end op) (makes_row op) a b
  where
    by_tests : (b c : Bool) → b ≡ false → c ≡ false
        → done {A = Executed} (cond b (Some (shown_row q true)) (cond (c && not q.dropping) (Some (shown_row q false)) None), cond b start_registers q) ≡ done {A = Executed} (None, q)
    by_tests true c e f = absurd (cc (e))
    by_tests false true e f = absurd (cc (f))
    by_tests false false e f = refl

-- one that does, but while dropping
hidden : (e : LineEncoding) (r q : Registers) (op : Opcode) → is_end op ≡ false → q.dropping ≡ true → fitting e (step_registers e r op) ≡ Ok q → executed e r op ≡ Ok (None, q)
unfolding executed
hidden e r q op a b h = ap (λ (x : Result Registers Error). x >>= λ s. done {A = Executed} (row_of op s, registers_after op s)) h ∙ by_tests (is_end op) (makes_row op) q.dropping a b
  where
    by_tests : (b c d : Bool) → b ≡ false → d ≡ true
        → done {A = Executed} (cond b (Some (shown_row q true)) (cond (c && not d) (Some (shown_row q false)) None), cond b start_registers q) ≡ done {A = Executed} (None, q)
    by_tests true c d e f = absurd (cc (e))
    by_tests false c false e f = absurd (cc (f))
    by_tests false true true e f = refl
    by_tests false false true e f = refl

-- and not while dropping
seen : (e : LineEncoding) (r q : Registers) (op : Opcode) → is_end op ≡ false → makes_row op ≡ true → q.dropping ≡ false → fitting e (step_registers e r op) ≡ Ok q
    → executed e r op ≡ Ok (Some (shown_row q false), q)
unfolding executed
seen e r q op a b c h = ap (λ (x : Result Registers Error). x >>= λ s. done {A = Executed} (row_of op s, registers_after op s)) h ∙ by_tests (is_end op) (makes_row op) q.dropping a b c
  where
    by_tests : (b c d : Bool) → b ≡ false → c ≡ true → d ≡ false
        → done {A = Executed} (cond b (Some (shown_row q true)) (cond (c && not d) (Some (shown_row q false)) None), cond b start_registers q) ≡ done {A = Executed} (Some (shown_row q false), q)
    by_tests true c d e f g = absurd (cc (e))
    by_tests false false d e f g = absurd (cc (f))
    by_tests false true true e f g = absurd (cc (g))
    by_tests false true false e f g = refl

-- a row of the registers as they are
pub copy_taken : (e : LineEncoding) (r : Registers) → r.address < limit e → TakesOpcode e r Copy 1 (shown r 1) r
copy_taken e r h = by_test r.dropping refl
  where
    by_test : (b : Bool) → r.dropping ≡ b → TakesOpcode e r Copy 1 (cond b (Quiet 1) (Shows 1)) r
    by_test true f = (refl, hidden e r r Copy refl f (fitting_is e r h))
    by_test false f = (refl, seen e r r Copy refl refl f (fitting_is e r h))

-- an advance while dropping
pub advance_dropped : (e : LineEncoding) (r : Registers) (n : ℕ) → r.address < limit e → r.dropping ≡ true → executed e r (AdvancePc n) ≡ Ok (None, r)
advance_dropped e r n h d = quiet e r r (AdvancePc n) refl refl (ap (fitting e) (advanced_not e n r d) ∙ fitting_is e r h)

-- and one that counts
pub advance_counted : (e : LineEncoding) (r q : Registers) (n : ℕ) → e.maximum_operations_per_instruction ≡ 1 → IsRunning e r → r.dropping ≡ false
    → fitting e (record r { address = r.address + e.minimum_instruction_length * n }) ≡ Ok q → executed e r (AdvancePc n) ≡ Ok (None, q)
advance_counted e r q n single running d h = quiet e r q (AdvancePc n) refl refl (ap (fitting e) (advanced_single e n r single running d) ∙ h)

as_advance : (e : LineEncoding) (r : Registers) → executed e r ConstAddPc ≡ executed e r (AdvancePc (advance e ConstAddPc))
unfolding executed
as_advance e r = refl

-- DW_LNS_const_add_pc is an advance
pub const_add_pc_taken : (e : LineEncoding) (r : Registers) (n : ℕ) (result : Frequent) (q : Registers) → n ≡ advance e ConstAddPc
    → TakesOpcode e r (AdvancePc n) 1 result q → TakesOpcode e r ConstAddPc 1 result q
const_add_pc_taken e r n NotFrequent q is h = h
const_add_pc_taken e r n (Quiet k) q is h = (h.0, as_advance e r ∙ ap (λ m. executed e r (AdvancePc m)) (sym is) ∙ h.1)
const_add_pc_taken e r n (Shows k) q is h = (h.0, as_advance e r ∙ ap (λ m. executed e r (AdvancePc m)) (sym is) ∙ h.1)

-- a special opcode while dropping
pub special_dropped : (e : LineEncoding) (r : Registers) (n line : ℕ) → line ≡ moved r.line (line_advance e n) → r.address < limit e → r.dropping ≡ true
    → executed e r (Special n) ≡ Ok (None, record r { line = line })
special_dropped e r n line is h d =
    let there : Registers = record r { line = moved r.line (line_advance e n) } in
    hidden e r (record r { line = line }) (Special n) refl d
    (ap (fitting e) (advanced_not e (n / e.line_range) there d) ∙ fitting_is e there h ∙ ap (λ k. Ok (record r { line = k })) (sym is))

-- and one that counts
pub special_counted : (e : LineEncoding) (r q : Registers) (n count line : ℕ) → line ≡ moved r.line (line_advance e n) → count ≡ n / e.line_range
    → e.maximum_operations_per_instruction ≡ 1 → IsRunning e r → r.dropping ≡ false
    → fitting e (record r { address = r.address + e.minimum_instruction_length * count }) ≡ Ok q
    → executed e r (Special n) ≡ Ok (Some (shown_row (record q { line = line }) false), record q { line = line })
special_counted e r q n count line is times single running d h =
    let there : Registers = record r { line = moved r.line (line_advance e n) } in
    let goes : IsRunning e there = record { index = running.index; fits = running.fits } in
    let kept : r.dropping ≡ q.dropping = ap (λ (x : Registers). x.dropping) (fitting_same e (record r { address = r.address + e.minimum_instruction_length * count }) q h) in
    seen e r (record q { line = line }) (Special n) refl refl (sym kept ∙ d)
    (ap (fitting e) (advanced_single e (n / e.line_range) there single goes d)
    ∙ ap (λ k. fitting e (record there { address = r.address + e.minimum_instruction_length * k })) (sym times)
    ∙ ap (λ k. fitting e (record r { address = r.address + e.minimum_instruction_length * count; line = k })) (sym is)
    ∙ fitting_lined e (record r { address = r.address + e.minimum_instruction_length * count }) q line h)

-- the opcodes that change one register or none, and not the address
pub line_taken : (e : LineEncoding) (r : Registers) (z : ℤ) (line len : ℕ) → line ≡ moved r.line z → r.address < limit e
    → TakesOpcode e r (AdvanceLine z) len (Quiet len) (record r { line = line })
line_taken e r z line len is h =
    let there : Registers = record r { line = moved r.line z } in
    (refl, quiet e r (record r { line = line }) (AdvanceLine z) refl refl (fitting_is e there h ∙ ap (λ k. Ok (record r { line = k })) (sym is)))

pub file_taken : (e : LineEncoding) (r : Registers) (n len : ℕ) → r.address < limit e → TakesOpcode e r (SetFile n) len (Quiet len) (record r { file_index = n })
file_taken e r n len h = (refl, quiet e r (record r { file_index = n }) (SetFile n) refl refl (fitting_is e (record r { file_index = n }) h))

pub column_taken : (e : LineEncoding) (r : Registers) (n len : ℕ) → r.address < limit e → TakesOpcode e r (SetColumn n) len (Quiet len) (record r { column = n })
column_taken e r n len h = (refl, quiet e r (record r { column = n }) (SetColumn n) refl refl (fitting_is e (record r { column = n }) h))

pub other_taken : (e : LineEncoding) (r : Registers) → r.address < limit e → TakesOpcode e r Other 1 (Quiet 1) r
other_taken e r h = (refl, quiet e r r Other refl refl (fitting_is e r h))

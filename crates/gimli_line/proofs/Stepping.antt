-- Registers hold what the opcodes of the sequence so far make (on specs/Rows.antt and specs/Steps.antt).
use Rattle.gimli_line.proofs.Common.{ℕ, ◌≡◌, ◌+◌, ◌*◌, ◌/◌, ◌%◌, ◌<◌, Bool, true, false, cond, ◌||◌, nat_lt, List, [], ◌∷◌, arith, ◌∙◌, ap, sym, refl, sum_by, LineEncoding, Opcode, Special, Copy, AdvancePc, AdvanceLine, SetFile, SetColumn, ConstAddPc, FixedAdvancePc, EndSequence, SetAddress, Other, Registers, AddressState, address_state, based, address_of, address_after, advance, line_advance, moved, line_after, file_after, column_after, start_registers, advanced, placed, fixed_advanced, step_registers}
use Rattle.std.proofs.Math.Nat.{mod-eq_of_lt, div-eq_of_lt, mod-lt}
use Rattle.std.proofs.lemmas.List.Sums.{sum_by-cons}
use Rattle.gimli_line.specs.AddressSize.{is_tombstone}
use Rattle.gimli_line.proofs.Division.{div_sum, mod_sum}

-- the registers hold what the opcodes before make
pub record StandsFor (e : LineEncoding) (r : Registers) (past : List Opcode) : Type 0 where
  pub address : r.address ≡ address_after e past
  pub op_index : r.op_index ≡ sum_by (advance e) (address_state e past).counting % e.maximum_operations_per_instruction
  pub file : r.file_index ≡ file_after past
  pub line : r.line ≡ line_after e past
  pub column : r.column ≡ column_after past
  pub dropping : r.dropping ≡ (address_state e past).dropping

-- a address_state with one more opcode
abbrev pub longer : Opcode → AddressState → AddressState
longer op c = record c { counting = op ∷ c.counting }

pub address_more : (e : LineEncoding) (c : AddressState) (op : Opcode) → 0 < e.maximum_operations_per_instruction
    → address_of e (longer op c) ≡ address_of e c + e.minimum_instruction_length * ((sum_by (advance e) c.counting % e.maximum_operations_per_instruction + advance e op) / e.maximum_operations_per_instruction)
address_more e c op some =
    let n : ℕ = sum_by (advance e) c.counting in
    let m : ℕ = e.maximum_operations_per_instruction in
    let q : sum_by (advance e) (op ∷ c.counting) / m ≡ n / m + (n % m + advance e op) / m = ap (λ k. k / m) (sum_by-cons (advance e) op c.counting) ∙ div_sum (advance e op) n m some in
    ap (λ k. c.base + e.minimum_instruction_length * k) q ∙ distribute c.base e.minimum_instruction_length (n / m) ((n % m + advance e op) / m)
  where
    distribute : (b m p q : ℕ) → b + m * (p + q) ≡ b + m * p + m * q
    distribute b m p q = omega arith

pub index_more : (e : LineEncoding) (c : AddressState) (op : Opcode) → sum_by (advance e) (op ∷ c.counting) % e.maximum_operations_per_instruction ≡ (sum_by (advance e) c.counting % e.maximum_operations_per_instruction + advance e op) % e.maximum_operations_per_instruction
index_more e c op = ap (λ k. k % e.maximum_operations_per_instruction) (sum_by-cons (advance e) op c.counting) ∙ mod_sum (advance e op) (sum_by (advance e) c.counting) e.maximum_operations_per_instruction

plus_none : (a k : ℕ) → a + k * 0 ≡ a
plus_none a k = omega arith

-- of a base alone
pub address_of-based : (e : LineEncoding) (a : ℕ) → 0 < e.maximum_operations_per_instruction → address_of e (based a) ≡ a
address_of-based e a some = ap (λ k. a + e.minimum_instruction_length * k) (div-eq_of_lt some) ∙ plus_none a e.minimum_instruction_length

index_of-based : (e : LineEncoding) (a : ℕ) → 0 < e.maximum_operations_per_instruction → sum_by (advance e) (based a).counting % e.maximum_operations_per_instruction ≡ 0
index_of-based e a some = mod-eq_of_lt some

pub start_stands : (e : LineEncoding) → 0 < e.maximum_operations_per_instruction → StandsFor e start_registers []
start_stands e some = record {
  address = sym (address_of-based e 0 some);
  op_index = sym (index_of-based e 0 some);
  file = refl;
  line = refl;
  column = refl;
  dropping = refl;
}

module _ (e : LineEncoding) (past : List Opcode) (r : Registers) (s : StandsFor e r past) (some : 0 < e.maximum_operations_per_instruction) where
  -- opcodes that count where nothing is dropped
  module _ (op : Opcode) (is : address_state e (op ∷ past) ≡ cond (address_state e past).dropping (address_state e past) (longer op (address_state e past))) where
    -- while dropping all stays
    kept : (r1 : Registers) → r1.dropping ≡ true → r1.address ≡ r.address → r1.op_index ≡ r.op_index → r1.dropping ≡ r.dropping
        → r1.file_index ≡ file_after (op ∷ past) → r1.line ≡ line_after e (op ∷ past) → r1.column ≡ column_after (op ∷ past) → StandsFor e r1 (op ∷ past)
    kept r1 t a i d f l c =
        let same : address_state e (op ∷ past) ≡ address_state e past = is ∙ ap (λ b. cond b (address_state e past) (longer op (address_state e past))) (sym s.dropping ∙ sym d ∙ t) in
        record {
          address = a ∙ s.address ∙ ap (address_of e) (sym same);
          op_index = i ∙ s.op_index ∙ ap (λ (q : AddressState). sum_by (advance e) q.counting % e.maximum_operations_per_instruction) (sym same);
          file = f;
          line = l;
          column = c;
          dropping = d ∙ s.dropping ∙ ap (λ (q : AddressState). q.dropping) (sym same);
        }

    -- where nothing is dropped the advance counts
    counted : (r1 : Registers) → r.dropping ≡ false → r1.address ≡ r.address + e.minimum_instruction_length * ((r.op_index + advance e op) / e.maximum_operations_per_instruction)
        → r1.op_index ≡ (r.op_index + advance e op) % e.maximum_operations_per_instruction → r1.dropping ≡ false
        → r1.file_index ≡ file_after (op ∷ past) → r1.line ≡ line_after e (op ∷ past) → r1.column ≡ column_after (op ∷ past) → StandsFor e r1 (op ∷ past)
    counted r1 t a i d f l c =
        let same : address_state e (op ∷ past) ≡ longer op (address_state e past) = is ∙ ap (λ b. cond b (address_state e past) (longer op (address_state e past))) (sym s.dropping ∙ t) in
        let there : r.address + e.minimum_instruction_length * ((r.op_index + advance e op) / e.maximum_operations_per_instruction) ≡ address_of e (longer op (address_state e past)) =
        (let m = address_more e (address_state e past) op some in let u = s.address in let v = s.op_index in cc) in
        let index : (r.op_index + advance e op) % e.maximum_operations_per_instruction ≡ sum_by (advance e) (op ∷ (address_state e past).counting) % e.maximum_operations_per_instruction =
        (let m = index_more e (address_state e past) op in let v = s.op_index in cc) in
        record {
          address = a ∙ there ∙ ap (address_of e) (sym same);
          op_index = i ∙ index ∙ ap (λ (q : AddressState). sum_by (advance e) q.counting % e.maximum_operations_per_instruction) (sym same);
          file = f;
          line = l;
          column = c;
          dropping = d ∙ sym (ap (λ (q : AddressState). q.dropping) same ∙ sym s.dropping ∙ t);
        }

    passes : (r1 : Registers) (n : ℕ) → n ≡ advance e op → r1.address ≡ r.address → r1.op_index ≡ r.op_index → r1.dropping ≡ r.dropping
        → r1.file_index ≡ file_after (op ∷ past) → r1.line ≡ line_after e (op ∷ past) → r1.column ≡ column_after (op ∷ past) → StandsFor e (advanced e n r1) (op ∷ past)
    passes r1 n is-n a i d f l c = by_cases r1.dropping refl
      where
        by_cases : (b : Bool) → r1.dropping ≡ b → StandsFor e (cond b r1 (record r1 {
          address = r1.address + e.minimum_instruction_length * ((r1.op_index + n) / e.maximum_operations_per_instruction);
          op_index = (r1.op_index + n) % e.maximum_operations_per_instruction;
        })) (op ∷ past)
        by_cases true t = kept r1 t a i d f l c
        by_cases false t = counted (record r1 {
          address = r1.address + e.minimum_instruction_length * ((r1.op_index + n) / e.maximum_operations_per_instruction);
          op_index = (r1.op_index + n) % e.maximum_operations_per_instruction;
        }) (sym d ∙ t) (cc) (cc) t f l c

    quiet : (r1 : Registers) → advance e op ≡ 0 → r1.address ≡ r.address → r1.op_index ≡ r.op_index → r1.dropping ≡ r.dropping
        → r1.file_index ≡ file_after (op ∷ past) → r1.line ≡ line_after e (op ∷ past) → r1.column ≡ column_after (op ∷ past) → StandsFor e r1 (op ∷ past)
    quiet r1 none a i d f l c = by_cases r.dropping refl
      where
        by_cases : (b : Bool) → r.dropping ≡ b → StandsFor e r1 (op ∷ past)
        by_cases true t = kept r1 (d ∙ t) a i d f l c
        by_cases false t =
            let m : ℕ = e.maximum_operations_per_instruction in
            let idx : r.op_index < m = rw s.op_index (mod-lt (sum_by (advance e) (address_state e past).counting) some) in
            let n : r.op_index + advance e op ≡ r.op_index = omega arith in
            let p : (r.op_index + advance e op) / m ≡ 0 = ap (λ k. k / m) n ∙ div-eq_of_lt idx in
            let q : (r.op_index + advance e op) % m ≡ r.op_index = ap (λ k. k % m) n ∙ mod-eq_of_lt idx in
            counted r1 t (a ∙ sym (ap (λ k. r.address + e.minimum_instruction_length * k) p ∙ plus_none r.address e.minimum_instruction_length)) (i ∙ sym q) (d ∙ t) f l c

  -- at a new base
  based_stands : (op : Opcode) (a : ℕ) → address_state e (op ∷ past) ≡ based a → (r1 : Registers) → r1.address ≡ a → r1.op_index ≡ 0 → r1.dropping ≡ false
      → r1.file_index ≡ file_after (op ∷ past) → r1.line ≡ line_after e (op ∷ past) → r1.column ≡ column_after (op ∷ past) → StandsFor e r1 (op ∷ past)
  based_stands op a same r1 ea ei d f l c = record {
    address = ea ∙ sym (ap (address_of e) same ∙ address_of-based e a some);
    op_index = ei ∙ sym (ap (λ (q : AddressState). sum_by (advance e) q.counting % e.maximum_operations_per_instruction) same ∙ index_of-based e a some);
    file = f;
    line = l;
    column = c;
    dropping = d ∙ ap (λ (q : AddressState). q.dropping) (sym same);
  }

  -- an address that is set
  sets : (a : ℕ) → StandsFor e (placed e a r) (SetAddress a ∷ past)
  sets a = by_cases (is_tombstone e.address_size a || nat_lt a r.address) refl
    where
      at : (b : Bool) → address_state e (SetAddress a ∷ past) ≡ cond b (record (address_state e past) { dropping = true }) (based a) → StandsFor e (cond b (record r { dropping = true }) (record r { address = a; op_index = 0; dropping = false })) (SetAddress a ∷ past)
      at true same = record {
        address = s.address ∙ ap (address_of e) (sym same);
        op_index = s.op_index ∙ ap (λ (q : AddressState). sum_by (advance e) q.counting % e.maximum_operations_per_instruction) (sym same);
        file = s.file;
        line = s.line;
        column = s.column;
        dropping = ap (λ (q : AddressState). q.dropping) (sym same);
      }
      at false same = based_stands (SetAddress a) a same (record r { address = a; op_index = 0; dropping = false }) refl refl refl s.file s.line s.column

      by_cases : (b : Bool) → (is_tombstone e.address_size a || nat_lt a r.address) ≡ b → StandsFor e (cond b (record r { dropping = true }) (record r { address = a; op_index = 0; dropping = false })) (SetAddress a ∷ past)
      by_cases b t =
          let same : address_state e (SetAddress a ∷ past) ≡ cond b (record (address_state e past) { dropping = true }) (based a) =
          ap (λ k. cond (is_tombstone e.address_size a || nat_lt a k) (record (address_state e past) { dropping = true }) (based a)) (sym s.address) ∙ ap (λ k. cond k (record (address_state e past) { dropping = true }) (based a)) t in
          at b same

  -- bytes that are passed over
  pushes : (n : ℕ) → StandsFor e (fixed_advanced n r) (FixedAdvancePc n ∷ past)
  pushes n = by_cases r.dropping refl
    where
      by_cases : (b : Bool) → r.dropping ≡ b → StandsFor e (cond b r (record r { address = r.address + n; op_index = 0 })) (FixedAdvancePc n ∷ past)
      by_cases true t =
          let same : address_state e (FixedAdvancePc n ∷ past) ≡ address_state e past = ap (λ k. cond k (address_state e past) (based (address_of e (address_state e past) + n))) (sym s.dropping ∙ t) in
          record {
            address = s.address ∙ ap (address_of e) (sym same);
            op_index = s.op_index ∙ ap (λ (q : AddressState). sum_by (advance e) q.counting % e.maximum_operations_per_instruction) (sym same);
            file = s.file;
            line = s.line;
            column = s.column;
            dropping = s.dropping ∙ ap (λ (q : AddressState). q.dropping) (sym same);
          }
      by_cases false t =
          let same : address_state e (FixedAdvancePc n ∷ past) ≡ based (r.address + n) =
          ap (λ k. cond k (address_state e past) (based (address_of e (address_state e past) + n))) (sym s.dropping ∙ t) ∙ ap (λ k. based (k + n)) (sym s.address) in
          based_stands (FixedAdvancePc n) (r.address + n) same (record r { address = r.address + n; op_index = 0 }) refl refl t s.file s.line s.column

  pub step_stands : (op : Opcode) → StandsFor e (step_registers e r op) (op ∷ past)
  step_stands (Special n) = passes (Special n) refl (record r { line = moved r.line (line_advance e n) }) (n / e.line_range) refl refl refl refl s.file (ap (λ l. moved l (line_advance e n)) s.line) s.column
  step_stands Copy = quiet Copy refl r refl refl refl refl s.file s.line s.column
  step_stands (AdvancePc n) = passes (AdvancePc n) refl r n refl refl refl refl s.file s.line s.column
  step_stands (AdvanceLine z) = quiet (AdvanceLine z) refl (record r { line = moved r.line z }) refl refl refl refl s.file (ap (λ l. moved l z) s.line) s.column
  step_stands (SetFile n) = quiet (SetFile n) refl (record r { file_index = n }) refl refl refl refl refl s.line s.column
  step_stands (SetColumn n) = quiet (SetColumn n) refl (record r { column = n }) refl refl refl refl s.file s.line refl
  step_stands ConstAddPc = passes ConstAddPc refl r (advance e ConstAddPc) refl refl refl refl s.file s.line s.column
  step_stands (FixedAdvancePc n) = pushes n
  step_stands EndSequence = quiet EndSequence refl r refl refl refl refl s.file s.line s.column
  step_stands (SetAddress a) = sets a
  step_stands Other = quiet Other refl r refl refl refl refl s.file s.line s.column

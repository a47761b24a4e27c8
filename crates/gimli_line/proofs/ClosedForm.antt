-- The rows of the registers are the rows of the closed form (on specs/Rows.antt and specs/Steps.antt).
use Rattle.gimli_line.proofs.Common.{◌≡◌, ◌<◌, Bool, true, false, cond, not, ◌&&◌, ◌||◌, nat_lt, List, [], ◌∷◌, Some, None, Result, Ok, Err, refl, sym, ap, ◌∙◌, Error, AddressOverflow, Section, ◌>>=◌, LineEncoding, Opcode, LineInstruction, Changes, Defines, Registers, LineRow, limit, address_state, address_after, row_after, row_from, past_after, rows_after, is_end, makes_row, start_registers, step_registers, fitting, shown_row, row_of, registers_after, executed, with_row_first, continued_rows, rows_from, rows_left, files_left, ahead_after, ahead_from, ahead_left, File, Header, Program, Lines, lines_of, opcodes_in, instructions_of}
use Rattle.gimli_line.specs.Ahead.{ends_search, files_ahead}
use Rattle.gimli_line.proofs.Stepping.{StandsFor, start_stands, step_stands}

row_is : (e : LineEncoding) (r : Registers) (past : List Opcode) (end : Bool) → StandsFor e r past → shown_row r end ≡ row_after e past end
row_is e r past end s = let a = s.address in let f = s.file in let l = s.line in let c = s.column in let d = s.dropping in cc

module _ {Z : Type 0} (e : LineEncoding) (past : List Opcode) (op : Opcode) (ops : List Opcode) (end : Result Z Error) where
  -- after an opcode whose address fits
  emits : (r : Registers) → StandsFor e r (op ∷ past) → rows_from e start_registers ops end ≡ rows_after e [] ops end → rows_from e r ops end ≡ rows_after e (op ∷ past) ops end
      → with_row_first (row_of op r) (rows_from e (registers_after op r) ops end) ≡ row_from e op (op ∷ past) (rows_after e (past_after op past) ops end)
  emits r s anew on = at (is_end op)
    where
      shown : (m : Bool) → with_row_first (cond (m && not r.dropping) (Some (shown_row r false)) None) (rows_from e r ops end)
          ≡ cond (m && not (address_state e (op ∷ past)).dropping) (Ok (row_after e (op ∷ past) false) ∷ rows_after e (op ∷ past) ops end) (rows_after e (op ∷ past) ops end)
      shown m = ap (λ d. with_row_first (cond (m && not d) (Some (shown_row r false)) None) (rows_from e r ops end)) s.dropping ∙ by_test (m && not (address_state e (op ∷ past)).dropping)
        where
          by_test : (b : Bool) → with_row_first (cond b (Some (shown_row r false)) None) (rows_from e r ops end) ≡ cond b (Ok (row_after e (op ∷ past) false) ∷ rows_after e (op ∷ past) ops end) (rows_after e (op ∷ past) ops end)
          by_test true = let f = row_is e r (op ∷ past) false s in cc
          by_test false = on

      at : (b : Bool) → with_row_first (cond b (Some (shown_row r true)) (cond (makes_row op && not r.dropping) (Some (shown_row r false)) None)) (rows_from e (cond b start_registers r) ops end)
          ≡ (let rest = rows_after e (cond b [] (op ∷ past)) ops end in cond b (Ok (row_after e (op ∷ past) true) ∷ rest) (cond (makes_row op && not (address_state e (op ∷ past)).dropping) (Ok (row_after e (op ∷ past) false) ∷ rest) rest))
      at true = let f = row_is e r (op ∷ past) true s in cc
      at false = shown (makes_row op)

  -- and with the test
  executes : (r : Registers) → StandsFor e r (op ∷ past) → rows_from e start_registers ops end ≡ rows_after e [] ops end → rows_from e r ops end ≡ rows_after e (op ∷ past) ops end
      → continued_rows (λ q. rows_from e q ops end) (fitting e r >>= λ q. Ok (row_of op q, registers_after op q))
      ≡ cond (nat_lt (address_after e (op ∷ past)) (limit e)) (row_from e op (op ∷ past) (rows_after e (past_after op past) ops end)) (Err AddressOverflow ∷ [])
  executes r s anew on = ap (λ a. continued_rows (λ q. rows_from e q ops end) (cond (nat_lt a (limit e)) (Ok r) (Err AddressOverflow) >>= λ q. Ok (row_of op q, registers_after op q))) s.address ∙ by_test (nat_lt (address_after e (op ∷ past)) (limit e))
    where
      by_test : (b : Bool) → continued_rows (λ q. rows_from e q ops end) (cond b (Ok r) (Err AddressOverflow) >>= λ q. Ok (row_of op q, registers_after op q)) ≡ cond b (row_from e op (op ∷ past) (rows_after e (past_after op past) ops end)) (Err AddressOverflow ∷ [])
      by_test true = emits r s anew on
      by_test false = refl

pub rows_are : {Z : Type 0} (e : LineEncoding) → 0 < e.maximum_operations_per_instruction → (ops : List Opcode) (end : Result Z Error) (r : Registers) (past : List Opcode) → StandsFor e r past → rows_from e r ops end ≡ rows_after e past ops end
unfolding rows_from executed
rows_are e some [] end r past s = refl
rows_are e some (op ∷ ops) end r past s =
    let t = step_stands e past r s some op in
    executes e past op ops end (step_registers e r op) t (rows_are e some ops end start_registers [] (start_stands e some)) (rows_are e some ops end (step_registers e r op) (op ∷ past) t)

-- the rows of a program, from the registers at the start
pub rows_of-start : {Z : Type 0} (e : LineEncoding) → 0 < e.maximum_operations_per_instruction → (ops : List Opcode) (end : Result Z Error) → rows_from e start_registers ops end ≡ rows_after e [] ops end
rows_of-start e some ops end = rows_are e some ops end start_registers [] (start_stands e some)

module _ {F : Type 0} (e : LineEncoding) (past : List Opcode) (op : Opcode) (more : List (LineInstruction F)) where
  -- the files ahead after an opcode, which end where it has a row or a fault
  looks_on : (r : Registers) → StandsFor e r (op ∷ past) → ahead_from e r more ≡ files_ahead e (op ∷ past) more
      → ahead_after (λ q. ahead_from e q more) (fitting e r >>= λ q. Ok (row_of op q, registers_after op q))
      ≡ cond (ends_search e op (op ∷ past)) [] (files_ahead e (op ∷ past) more)
  looks_on r s on =
      ap (λ a. ahead_after (λ q. ahead_from e q more) (cond (nat_lt a (limit e)) (Ok r) (Err AddressOverflow) >>= λ q. Ok (row_of op q, registers_after op q))) s.address
      ∙ by_limit (nat_lt (address_after e (op ∷ past)) (limit e))
    where
      shown : (m d : Bool) → ahead_after (λ q. ahead_from e q more) (Ok (cond (m && not d) (Some (shown_row r false)) None, r))
          ≡ cond (m && not d) [] (files_ahead e (op ∷ past) more)
      shown true true = on
      shown true false = refl
      shown false d = on

      by_end : (b : Bool) → ahead_after (λ q. ahead_from e q more) (Ok (cond b (Some (shown_row r true)) (cond (makes_row op && not r.dropping) (Some (shown_row r false)) None), cond b start_registers r))
          ≡ cond (b || makes_row op && not (address_state e (op ∷ past)).dropping) [] (files_ahead e (op ∷ past) more)
      by_end true = refl
      by_end false = shown (makes_row op) r.dropping ∙ ap (λ d. cond (makes_row op && not d) [] (files_ahead e (op ∷ past) more)) s.dropping

      by_limit : (b : Bool) → ahead_after (λ q. ahead_from e q more) (cond b (Ok r) (Err AddressOverflow) >>= λ q. Ok (row_of op q, registers_after op q))
          ≡ cond (not b || is_end op || makes_row op && not (address_state e (op ∷ past)).dropping) [] (files_ahead e (op ∷ past) more)
      by_limit true = by_end (is_end op)
      by_limit false = refl

pub ahead_is : {F : Type 0} (e : LineEncoding) → 0 < e.maximum_operations_per_instruction → (instructions : List (LineInstruction F)) (r : Registers) (past : List Opcode) → StandsFor e r past
    → ahead_from e r instructions ≡ files_ahead e past instructions
unfolding ahead_from executed
ahead_is e some [] r past s = refl
ahead_is e some (Changes op ∷ more) r past s =
    let t = step_stands e past r s some op in
    looks_on e past op more (step_registers e r op) t (ahead_is e some more (step_registers e r op) (op ∷ past) t)
ahead_is e some (Defines f ∷ more) r past s = ap (λ fs. f ∷ fs) (ahead_is e some more r past s)

pub ok_is : {X E : Type 0} {x y : X} → ◌≡◌ {A = Result X E} (Ok x) (Ok y) → x ≡ y
ok_is e = cc

-- all that a program gives, as the registers see it
pub lines_begin : (p : Program) (h : Header) (s : Section) (r : Registers) → 0 < p.header.line_encoding.maximum_operations_per_instruction → p.header ≡ h → p.program ≡ s → r ≡ start_registers
    → lines_of p ≡ record { header = h; left = rows_left h r s; ahead = ahead_left h r s; to_define = files_left h s }
lines_begin p h s r some eh es er =
    let run = instructions_of p.header p.program in
    let e = p.header.line_encoding in
    let a = rows_of-start e some (opcodes_in run.items) run.end in
    let c = ahead_is e some run.items start_registers [] (start_stands e some) in
    same p.header h _ _ _ _ _ _ eh
    (sym a ∙ ap (λ x. rows_left x start_registers p.program) eh ∙ ap (λ x. rows_left h start_registers x) es ∙ ap (λ x. rows_left h x s) (sym er))
    (sym c ∙ ap (λ x. ahead_left x start_registers p.program) eh ∙ ap (λ x. ahead_left h start_registers x) es ∙ ap (λ x. ahead_left h x s) (sym er))
    (ap (λ x. files_left x p.program) eh ∙ ap (λ x. files_left h x) es)
  where
    same : (x y : Header) (l m : List (Result LineRow Error)) (a b u v : List File) → x ≡ y → l ≡ m → a ≡ b → u ≡ v
        → ◌≡◌ {A = Lines} (record { header = x; left = l; ahead = a; to_define = u }) (record { header = y; left = m; ahead = b; to_define = v })
    same x y l m a b u v e f g h = cc

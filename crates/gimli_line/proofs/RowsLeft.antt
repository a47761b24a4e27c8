-- The rows that are left, one instruction on (on specs/Steps.antt).
use Rattle.gimli_line.proofs.Common.{◌≡◌, ℕ, ◌-◌, ◌==◌, nat_le, Bool, true, false, cond, length, List, [], ◌∷◌, ◌++◌, Option, Some, None, Result, Ok, Err, refl, sym, ap, ◌∙◌, append_assoc, Error, Section, Reading, ◌>>=◌, fixed_at, Run, done, DW_LNS_extended_op, Opcode, Special, LineInstruction, Changes, Defines, Registers, LineRow, File, Header, instruction_at, coded_instruction_at, extended_at, extended_in, standard_at, instructions_of, opcodes_in, files_in, executed, taken, step_instruction, step_standard, rows_from, continued_rows, with_row_first, rows_left, files_left, DefinesOn, FindsRow, YieldsUnlessOom}
use Rattle.std.specs.Result.{is_err}
use Rattle.gimli_read.specs.Run as runs
use Rattle.gimli_read.proofs.RunLemmas.{run_of-step}
use Rattle.gimli_line.proofs.Shortening.{instruction-takes}

abbrev pub State : Type 0
State = Option LineRow × Registers × Header

-- the run at one more place
pub run_at : (h : Header) (s : Section) (q : Reading (Option (LineInstruction File))) → instruction_at h s ≡ q → instructions_of h s ≡ runs.continued (instructions_of h) (runs.next_of q)
run_at h s q f = run_of-step (instruction_at h) (instruction-takes h) s ∙ ap (λ x. runs.continued (instructions_of h) (runs.next_of x)) f

-- the files of a header change no reading of it
same_instruction : (h : Header) (fs : List File) → instruction_at (record h { file_names = fs }) ≡ instruction_at h
unfolding instruction_at coded_instruction_at extended_at extended_in standard_at
same_instruction h fs = refl

pub same_run : (h : Header) (fs : List File) (s : Section) → instructions_of (record h { file_names = fs }) s ≡ instructions_of h s
same_run h fs s = ap (λ part. runs.run_of part s) (same_instruction h fs)

rows_in : Header → Registers → Run (LineInstruction File) Section → List (Result LineRow Error)
rows_in h r v = rows_from h.line_encoding r (opcodes_in v.items) v.end

pub left_fault : (h : Header) (r : Registers) (s : Section) (e : Error) → instruction_at h s ≡ Err e → rows_left h r s ≡ Err e ∷ []
unfolding rows_in rows_from
left_fault h r s e f = ap (rows_in h r) (run_at h s (Err e) f)

pub left_end : (h : Header) (r : Registers) (s t : Section) → instruction_at h s ≡ Ok (None, t) → rows_left h r s ≡ []
unfolding rows_in rows_from
left_end h r s t f = ap (rows_in h r) (run_at h s (Ok (None, t)) f)

pub files_end : (h : Header) (s t : Section) → instruction_at h s ≡ Ok (None, t) → files_left h s ≡ []
files_end h s t f = ap (λ (v : Run (LineInstruction File) Section). files_in v.items) (run_at h s (Ok (None, t)) f)

left_changes : (h : Header) (r : Registers) (s t : Section) (op : Opcode) → instruction_at h s ≡ Ok (Some (Changes op), t) → rows_left h r s ≡ continued_rows (λ q. rows_left h q t) (executed h.line_encoding r op)
unfolding rows_in rows_from
left_changes h r s t op f = ap (rows_in h r) (run_at h s (Ok (Some (Changes op), t)) f)

left_defines : (h : Header) (r : Registers) (s t : Section) (x : File) → instruction_at h s ≡ Ok (Some (Defines x), t) → rows_left h r s ≡ rows_left h r t
unfolding rows_in
left_defines h r s t x f = ap (rows_in h r) (run_at h s (Ok (Some (Defines x), t)) f)

-- the row of an instruction is the first
pub left_more : (h : Header) (r : Registers) (s t : Section) (i : LineInstruction File) (row : Option LineRow) (q : Registers) (g : Header) → instruction_at h s ≡ Ok (Some i, t) → taken h r i ≡ Ok (row, q, g)
    → rows_left h r s ≡ with_row_first row (rows_left g q t)
unfolding taken rows_in
left_more h r s t (Changes op) row q g f k = left_changes h r s t op f ∙ by_cases (executed h.line_encoding r op) k
  where
    by_cases : (x : Result (Option LineRow × Registers) Error) → (x >>= λ y. done {A = State} (y.0, y.1, h)) ≡ Ok (row, q, g) → continued_rows (λ p. rows_left h p t) x ≡ with_row_first row (rows_left g q t)
    by_cases (Ok y) e =
        let same : ◌≡◌ {A = State} (y.0, y.1, h) (row, q, g) = cc in
        ap (λ (z : State). with_row_first z.0 (rows_left z.2 z.1 t)) same
    by_cases (Err d) e = cc
left_more h r s t (Defines x) row q g f k =
    let same : ◌≡◌ {A = State} (None, r, record h { file_names = h.file_names ++ x ∷ [] }) (row, q, g) = cc in
    left_defines h r s t x f ∙ sym (ap (rows_in h r) (same_run h (h.file_names ++ x ∷ []) t)) ∙ ap (λ (z : State). with_row_first z.0 (rows_left z.2 z.1 t)) same

-- and its fault is the last
pub left_taken_fault : (h : Header) (r : Registers) (s t : Section) (i : LineInstruction File) (e : Error) → instruction_at h s ≡ Ok (Some i, t) → taken h r i ≡ Err e → rows_left h r s ≡ Err e ∷ []
unfolding taken
left_taken_fault h r s t (Changes op) e f k = left_changes h r s t op f ∙ by_cases (executed h.line_encoding r op) k
  where
    by_cases : (x : Result (Option LineRow × Registers) Error) → (x >>= λ y. done {A = State} (y.0, y.1, h)) ≡ Err e → continued_rows (λ p. rows_left h p t) x ≡ Err e ∷ []
    by_cases (Ok y) k = cc
    by_cases (Err d) k = cc
left_taken_fault h r s t (Defines x) e f k = cc

-- an instruction's code, and what follows it
pub at_code : (h : Header) (s u : Section) (code : ℕ) → (length s.bytes == 0) ≡ false → fixed_at 1 s ≡ Ok (code, u)
    → instruction_at h s ≡ (coded_instruction_at h code u >>= λ i. done {A = Option (LineInstruction File) × Section} (Some i.0, i.1))
unfolding instruction_at
at_code h s u code n f =
    ap (λ b. cond b (Ok (None, s)) (fixed_at 1 s >>= λ c. coded_instruction_at h c.0 c.1 >>= λ i. done {A = Option (LineInstruction File) × Section} (Some i.0, i.1))) n
    ∙ ap (λ (q : Reading ℕ). q >>= λ c. coded_instruction_at h c.0 c.1 >>= λ i. done {A = Option (LineInstruction File) × Section} (Some i.0, i.1)) f

abbrev pub Ended : Type 0
Ended = Option LineRow × Registers × Header × Section

-- an instruction is read and then taken in
pub step_instruction_is : (h : Header) (r : Registers) (code : ℕ) (s : Section) → step_instruction h r code s ≡ (coded_instruction_at h code s >>= λ i. taken h r i.0 >>= λ y. done {A = Ended} (y.0, y.1, y.2, i.1))
unfolding step_instruction step_standard coded_instruction_at taken
step_instruction_is h r code s = by_code (code == DW_LNS_extended_op) (nat_le h.line_encoding.opcode_base code)
  where
    special : (x : Result (Option LineRow × Registers) Error)
        → (x >>= λ y. done {A = Ended} (y.0, y.1, h, s)) ≡ ((x >>= λ y. done {A = State} (y.0, y.1, h)) >>= λ y. done {A = Ended} (y.0, y.1, y.2, s))
    special (Ok y) = refl
    special (Err e) = refl

    stepped : (t : Section) (x : Result (Option LineRow × Registers) Error)
        → ((x >>= λ y. done {A = Option LineRow × Registers × Section} (y.0, y.1, t)) >>= λ y. done {A = Ended} (y.0, y.1, h, y.2)) ≡ ((x >>= λ y. done {A = State} (y.0, y.1, h)) >>= λ y. done {A = Ended} (y.0, y.1, y.2, t))
    stepped t (Ok y) = refl
    stepped t (Err e) = refl

    standard : (x : Reading Opcode)
        → ((x >>= λ op. executed h.line_encoding r op.0 >>= λ y. done {A = Option LineRow × Registers × Section} (y.0, y.1, op.1)) >>= λ y. done {A = Ended} (y.0, y.1, h, y.2))
        ≡ ((x >>= λ op. done {A = LineInstruction File × Section} (Changes op.0, op.1)) >>= λ i. taken h r i.0 >>= λ y. done {A = Ended} (y.0, y.1, y.2, i.1))
    standard (Ok op) = stepped op.1 (executed h.line_encoding r op.0)
    standard (Err e) = refl

    by_code : (zero special_code : Bool)
        → cond zero (extended_at h s >>= λ i. taken h r i.0 >>= λ y. done {A = Ended} (y.0, y.1, y.2, i.1))
        (cond special_code (executed h.line_encoding r (Special (code - h.line_encoding.opcode_base)) >>= λ y. done {A = Ended} (y.0, y.1, h, s)) (step_standard h r code s >>= λ y. done {A = Ended} (y.0, y.1, h, y.2)))
        ≡ (cond zero (extended_at h s) (cond special_code (Ok (Changes (Special (code - h.line_encoding.opcode_base)), s)) (standard_at h code s >>= λ op. Ok (Changes op.0, op.1))) >>= λ i. taken h r i.0 >>= λ y. done {A = Ended} (y.0, y.1, y.2, i.1))
    by_code true b = refl
    by_code false true = special (executed h.line_encoding r (Special (code - h.line_encoding.opcode_base)))
    by_code false false = standard (standard_at h code s)

-- an instruction that step_instruction
pub record Stepped (h : Header) (r : Registers) (s t : Section) (row : Option LineRow) (q : Registers) (g : Header) : Type 0 where
  pub instruction : LineInstruction File
  pub read : instruction_at h s ≡ Ok (Some instruction, t)
  pub took : taken h r instruction ≡ Ok (row, q, g)

pub step_whole : (h : Header) (r : Registers) (s u t : Section) (code : ℕ) (row : Option LineRow) (q : Registers) (g : Header)
    → (length s.bytes == 0) ≡ false → fixed_at 1 s ≡ Ok (code, u) → step_instruction h r code u ≡ Ok (row, q, g, t) → Stepped h r s t row q g
step_whole h r s u t code row q g n f k = by_cases (coded_instruction_at h code u) (at_code h s u code n f) (sym (step_instruction_is h r code u) ∙ k)
  where
    taking : (i : LineInstruction File) (v : Section) (x : Result State Error) → taken h r i ≡ x → instruction_at h s ≡ Ok (Some i, v)
        → (x >>= λ y. done {A = Ended} (y.0, y.1, y.2, v)) ≡ Ok (row, q, g, t) → Stepped h r s t row q g
    taking i v (Ok y) w at e =
        let same : ◌≡◌ {A = Ended} (y.0, y.1, y.2, v) (row, q, g, t) = cc in
        record {
          instruction = i;
          read = at ∙ ap (λ (z : Ended). Ok (Some i, z.3)) same;
          took = w ∙ ap (λ (z : Ended). Ok (z.0, z.1, z.2)) same;
        }
    taking i v (Err d) w at e = absurd (cc (e))

    by_cases : (x : Reading (LineInstruction File)) → instruction_at h s ≡ (x >>= λ i. done {A = Option (LineInstruction File) × Section} (Some i.0, i.1))
        → (x >>= λ i. taken h r i.0 >>= λ y. done {A = Ended} (y.0, y.1, y.2, i.1)) ≡ Ok (row, q, g, t) → Stepped h r s t row q g
    by_cases (Ok i) at e = taking i.0 i.1 (taken h r i.0) refl at e
    by_cases (Err d) at e = absurd (cc (e))

-- and one that met a fault
pub left_step_fault : (h : Header) (r : Registers) (s u : Section) (code : ℕ) (e : Error)
    → (length s.bytes == 0) ≡ false → fixed_at 1 s ≡ Ok (code, u) → step_instruction h r code u ≡ Err e → rows_left h r s ≡ Err e ∷ []
left_step_fault h r s u code e n f k = by_cases (coded_instruction_at h code u) (at_code h s u code n f) (sym (step_instruction_is h r code u) ∙ k)
  where
    taking : (i : LineInstruction File) (v : Section) (x : Result State Error) → taken h r i ≡ x → instruction_at h s ≡ Ok (Some i, v)
        → (x >>= λ y. done {A = Ended} (y.0, y.1, y.2, v)) ≡ Err e → rows_left h r s ≡ Err e ∷ []
    taking i v (Ok y) w at c = absurd (cc (c))
    taking i v (Err d) w at c = left_taken_fault h r s v i e at (w ∙ cc (c))

    by_cases : (x : Reading (LineInstruction File)) → instruction_at h s ≡ (x >>= λ i. done {A = Option (LineInstruction File) × Section} (Some i.0, i.1))
        → (x >>= λ i. taken h r i.0 >>= λ y. done {A = Ended} (y.0, y.1, y.2, i.1)) ≡ Err e → rows_left h r s ≡ Err e ∷ []
    by_cases (Ok i) at c = taking i.0 i.1 (taken h r i.0) refl at c
    by_cases (Err d) at c = left_fault h r s e (at ∙ cc (c))

-- at the end
pub at_empty : (h : Header) (s : Section) → (length s.bytes == 0) ≡ true → instruction_at h s ≡ Ok (None, s)
unfolding instruction_at
at_empty h s n = ap (λ b. cond b (Ok (None, s)) (fixed_at 1 s >>= λ c. coded_instruction_at h c.0 c.1 >>= λ i. done {A = Option (LineInstruction File) × Section} (Some i.0, i.1))) n

-- the files so far and those to come stay the same
pub files_more : (h : Header) (r : Registers) (s t : Section) (i : LineInstruction File) (row : Option LineRow) (q : Registers) (g : Header) → instruction_at h s ≡ Ok (Some i, t) → taken h r i ≡ Ok (row, q, g)
    → h.file_names ++ files_left h s ≡ g.file_names ++ files_left g t
unfolding taken
files_more h r s t (Changes op) row q g f k = ap (λ (v : Run (LineInstruction File) Section). h.file_names ++ files_in v.items) (run_at h s (Ok (Some (Changes op), t)) f) ∙ by_cases (executed h.line_encoding r op) k
  where
    by_cases : (x : Result (Option LineRow × Registers) Error) → (x >>= λ y. done {A = State} (y.0, y.1, h)) ≡ Ok (row, q, g) → h.file_names ++ files_left h t ≡ g.file_names ++ files_left g t
    by_cases (Ok y) e =
        let same : ◌≡◌ {A = State} (y.0, y.1, h) (row, q, g) = cc in
        ap (λ (z : State). z.2.file_names ++ files_left z.2 t) same
    by_cases (Err d) e = cc
files_more h r s t (Defines x) row q g f k =
    let fs : List File = h.file_names ++ x ∷ [] in
    let same : ◌≡◌ {A = State} (None, r, record h { file_names = fs }) (row, q, g) = cc in
    ap (λ (v : Run (LineInstruction File) Section). h.file_names ++ files_in v.items) (run_at h s (Ok (Some (Defines x), t)) f)
    ∙ sym (append_assoc h.file_names (x ∷ []) (files_left h t))
    ∙ sym (ap (λ (v : Run (LineInstruction File) Section). fs ++ files_in v.items) (same_run h fs t))
    ∙ ap (λ (z : State). z.2.file_names ++ files_left z.2 t) same

-- nothing else of the header changes
pub header_kept : (h : Header) (r : Registers) (i : LineInstruction File) (row : Option LineRow) (q : Registers) (g : Header) → taken h r i ≡ Ok (row, q, g) → g ≡ record h { file_names = g.file_names }
unfolding taken
header_kept h r (Changes op) row q g k = by_cases (executed h.line_encoding r op) k
  where
    by_cases : (x : Result (Option LineRow × Registers) Error) → (x >>= λ y. done {A = State} (y.0, y.1, h)) ≡ Ok (row, q, g) → g ≡ record h { file_names = g.file_names }
    by_cases (Ok y) e =
        let same : ◌≡◌ {A = State} (y.0, y.1, h) (row, q, g) = cc in
        ap (λ (z : State). z.2) (sym same) ∙ ap (λ (z : State). record h { file_names = z.2.file_names }) same
    by_cases (Err d) e = cc
header_kept h r (Defines x) row q g k =
    let same : ◌≡◌ {A = State} (None, r, record h { file_names = h.file_names ++ x ∷ [] }) (row, q, g) = cc in
    ap (λ (z : State). z.2) (sym same) ∙ ap (λ (z : State). record h { file_names = z.2.file_names }) same

-- one instruction on, the files so far and those to come are the same
pub defines_more : (h0 : Header) (s0 : Section) (h : Header) (r : Registers) (s t : Section) (i : LineInstruction File) (row : Option LineRow) (q : Registers) (g : Header)
    → DefinesOn h0 s0 h s → instruction_at h s ≡ Ok (Some i, t) → taken h r i ≡ Ok (row, q, g) → DefinesOn h0 s0 g t
defines_more h0 s0 h r s t i row q g d f k = (
  d.0 ∙ files_more h r s t i row q g f k,
  header_kept h r i row q g k ∙ ap (λ (x : Header). record x { file_names = g.file_names }) d.1,
)

-- where no byte is left there is no row
pub at_end : (h : Header) (s : Section) → s.bytes ≡ [] → instruction_at h s ≡ Ok (None, s)
unfolding instruction_at
at_end h s e = ap (λ (b : List ℕ). cond (length b == 0) (Ok (None, s)) (fixed_at 1 s >>= λ code. coded_instruction_at h code.0 code.1 >>= λ i. done {A = Option (LineInstruction File) × Section} (Some i.0, i.1))) e

pub left_none : (h : Header) (r : Registers) (s : Section) → s.bytes ≡ [] → rows_left h r s ≡ []
left_none h r s e = left_end h r s s (at_end h s e)

-- after a refusal
pub stopped : (old : List (Result LineRow Error)) (r : Result (Option LineRow) Error) (left new : List (Result LineRow Error)) → is_err r ≡ true → FindsRow old r left → new ≡ [] → YieldsUnlessOom old r new
stopped old (Ok x) left new e f n = absurd (cc (e))
stopped old (Err d) left new e f n = (n, f)

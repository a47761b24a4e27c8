-- The opcode at the front of bytes (on specs/Taking.antt).
use Rattle.gimli_line.proofs.Common.{◌≡◌, ℕ, ◌-◌, ◌<◌, ◌≤◌, ◌==◌, nat_le, nat_lt, Bool, true, false, cond, length, List, ◌∷◌, Option, Some, Result, Ok, Err, drop, ℤ, refl, sym, ap, ◌∙◌, arith, max, le-ltb, le-leb, lt-leb, nat_tests, Error, UnexpectedEof, Section, Reading, ◌>>=◌, mapped, fixed_at, number_of, done, DW_LNS_extended_op, LineEncoding, Opcode, Special, Copy, AdvancePc, AdvanceLine, SetFile, SetColumn, ConstAddPc, Other, LineInstruction, Changes, Registers, File, Header, instruction_at, coded_instruction_at, standard_at, extended_at, executed, TakesFirst, TakesOpcode}
use Rattle.std.proofs.lemmas.Grind.{common_steps}
use Rattle.gimli_read.specs.declared.endian.RunTimeEndian.{RunTimeEndian}
use Rattle.gimli_read.specs.declared.endian.RunTimeEndian.TheVariants.{Little, Big}
use Rattle.gimli_read.specs.Leb128.{uleb128_in, sleb128_in, within}
use Rattle.gimli_line.specs.declared.frequent.Frequent.{Frequent}
use Rattle.gimli_line.specs.declared.frequent.Frequent.TheVariants.{Other as NotFrequent, Quiet, Shows}
use Rattle.gimli_line.proofs.RowsLeft.{at_code}

abbrev pub at : RunTimeEndian → List ℕ → Section
at endian bytes = record { bytes = bytes; endian = endian }

first_number : (endian : RunTimeEndian) (code : ℕ) (xs : List ℕ) → number_of endian 1 (code ∷ xs) ≡ code
first_number Little code xs = grind (arith, common_steps)
first_number Big code xs = grind (arith, common_steps)

first_byte : (endian : RunTimeEndian) (code : ℕ) (xs : List ℕ) → fixed_at 1 (at endian (code ∷ xs)) ≡ Ok (code, at endian xs)
first_byte endian code xs = by_test (nat_lt (length (code ∷ xs)) 1) (le-ltb (length (code ∷ xs)) 1 (omega arith))
  where
    by_test : (b : Bool) → b ≡ false → ◌≡◌ {A = Reading ℕ} (cond b (Err UnexpectedEof) (Ok (number_of endian 1 (code ∷ xs), at endian xs))) (Ok (code, at endian xs))
    by_test true e = absurd (cc (e))
    by_test false e = ap (λ n. Ok (n, at endian xs)) (first_number endian code xs)

-- an opcode that has this code
coded : (h : Header) (endian : RunTimeEndian) (code : ℕ) (xs : List ℕ) (op : Opcode) (t : Section)
    → coded_instruction_at h code (at endian xs) ≡ Ok (Changes op, t) → instruction_at h (at endian (code ∷ xs)) ≡ Ok (Some (Changes op), t)
coded h endian code xs op t e =
    at_code h (at endian (code ∷ xs)) (at endian xs) code (grind (arith, nat_tests)) (first_byte endian code xs)
    ∙ ap (λ (q : Reading (LineInstruction File)). q >>= λ i. done {A = Option (LineInstruction File) × Section} (Some i.0, i.1)) e

coded_special : (h : Header) (code : ℕ) (s : Section) → (code == DW_LNS_extended_op) ≡ false → nat_le h.line_encoding.opcode_base code ≡ true
    → coded_instruction_at h code s ≡ Ok (Changes (Special (code - h.line_encoding.opcode_base)), s)
unfolding coded_instruction_at
coded_special h code s e f = by_tests (code == DW_LNS_extended_op) (nat_le h.line_encoding.opcode_base code) e f
  where
    by_tests : (b c : Bool) → b ≡ false → c ≡ true
        → cond b (extended_at h s) (cond c (Ok (Changes (Special (code - h.line_encoding.opcode_base)), s)) (mapped Changes (standard_at h code s))) ≡ Ok (Changes (Special (code - h.line_encoding.opcode_base)), s)
    by_tests true c e f = absurd (cc (e))
    by_tests false false e f = absurd (cc (f))
    by_tests false true e f = refl

coded_standard : (h : Header) (code : ℕ) (s : Section) → (code == DW_LNS_extended_op) ≡ false → nat_le h.line_encoding.opcode_base code ≡ false
    → coded_instruction_at h code s ≡ mapped Changes (standard_at h code s)
unfolding coded_instruction_at
coded_standard h code s e f = by_tests (code == DW_LNS_extended_op) (nat_le h.line_encoding.opcode_base code) e f
  where
    by_tests : (b c : Bool) → b ≡ false → c ≡ false
        → cond b (extended_at h s) (cond c (Ok (Changes (Special (code - h.line_encoding.opcode_base)), s)) (mapped Changes (standard_at h code s))) ≡ mapped Changes (standard_at h code s)
    by_tests true c e f = absurd (cc (e))
    by_tests false true e f = absurd (cc (f))
    by_tests false false e f = refl

not_zero : (n : ℕ) → 0 < n → (n == 0) ≡ false
not_zero n h = grind (arith, nat_tests)

-- an opcode that can be read, and was taken in
pub first_taken : (h : Header) (r : Registers) (e : LineEncoding) (op : Opcode) (len : ℕ) (result : Frequent) (q : Registers) (code a b : ℕ) → e ≡ h.line_encoding
    → ((rest : List ℕ) (endian : RunTimeEndian) → instruction_at h (at endian (code ∷ a ∷ b ∷ rest)) ≡ Ok (Some (Changes op), at endian (drop len (code ∷ a ∷ b ∷ rest))))
    → TakesOpcode e r op len result q → (rest : List ℕ) → TakesFirst h r (code ∷ a ∷ b ∷ rest) result q
first_taken h r e op len NotFrequent q code a b same read took rest = took
first_taken h r e op len (Quiet n) q code a b same read took rest = record {
  opcode = op;
  read = λ endian. read rest endian ∙ ap (λ k. Ok (Some (Changes op), at endian (drop k (code ∷ a ∷ b ∷ rest)))) (sym took.0);
  does = ap (λ (x : LineEncoding). executed x r op) (sym same) ∙ took.1;
}
first_taken h r e op len (Shows n) q code a b same read took rest = record {
  opcode = op;
  read = λ endian. read rest endian ∙ ap (λ k. Ok (Some (Changes op), at endian (drop k (code ∷ a ∷ b ∷ rest)))) (sym took.0);
  does = ap (λ (x : LineEncoding). executed x r op) (sym same) ∙ took.1;
}

-- a special opcode
pub special_taken : (h : Header) (r : Registers) (e : LineEncoding) (result : Frequent) (q : Registers) (code a b : ℕ) → e ≡ h.line_encoding → max e.opcode_base 1 ≤ code
    → TakesOpcode e r (Special (code - e.opcode_base)) 1 result q → (rest : List ℕ) → TakesFirst h r (code ∷ a ∷ b ∷ rest) result q
special_taken h r e result q code a b same le =
    let base : h.line_encoding.opcode_base ≡ e.opcode_base = ap (λ (x : LineEncoding). x.opcode_base) (sym same) in
    first_taken h r e (Special (code - e.opcode_base)) 1 result q code a b same
    (λ rest endian. coded h endian code (a ∷ b ∷ rest) (Special (code - e.opcode_base)) (at endian (a ∷ b ∷ rest))
    (coded_special h code (at endian (a ∷ b ∷ rest)) (not_zero code (omega arith)) (le-leb h.line_encoding.opcode_base code (omega arith))
    ∙ ap (λ k. Ok (Changes (Special (code - k)), at endian (a ∷ b ∷ rest))) base))

-- a standard opcode
pub standard_taken : (h : Header) (r : Registers) (e : LineEncoding) (op : Opcode) (len : ℕ) (result : Frequent) (q : Registers) (code a b k : ℕ) → e ≡ h.line_encoding → code ≡ k → 0 < k → code < max e.opcode_base 1
    → ((rest : List ℕ) (endian : RunTimeEndian) → standard_at h k (at endian (a ∷ b ∷ rest)) ≡ Ok (op, at endian (drop len (code ∷ a ∷ b ∷ rest))))
    → TakesOpcode e r op len result q → (rest : List ℕ) → TakesFirst h r (code ∷ a ∷ b ∷ rest) result q
standard_taken h r e op len result q code a b k same is some lt standard =
    let base : h.line_encoding.opcode_base ≡ e.opcode_base = ap (λ (x : LineEncoding). x.opcode_base) (sym same) in
    first_taken h r e op len result q code a b same
    (λ rest endian. coded h endian code (a ∷ b ∷ rest) op (at endian (drop len (code ∷ a ∷ b ∷ rest)))
    (coded_standard h code (at endian (a ∷ b ∷ rest)) (not_zero code (omega arith)) (lt-leb h.line_encoding.opcode_base code (omega arith))
    ∙ ap (λ n. mapped Changes (standard_at h n (at endian (a ∷ b ∷ rest)))) is
    ∙ ap (λ (x : Reading Opcode). mapped Changes x) (standard rest endian)))

-- the opcodes without an operand
pub copy_is : (h : Header) (s : Section) → standard_at h 1 s ≡ Ok (Copy, s)
unfolding standard_at
copy_is h s = refl

pub negate_stmt_is : (h : Header) (s : Section) → standard_at h 6 s ≡ Ok (Other, s)
unfolding standard_at
negate_stmt_is h s = refl

pub set_basic_block_is : (h : Header) (s : Section) → standard_at h 7 s ≡ Ok (Other, s)
unfolding standard_at
set_basic_block_is h s = refl

pub const_add_pc_is : (h : Header) (s : Section) → standard_at h 8 s ≡ Ok (ConstAddPc, s)
unfolding standard_at
const_add_pc_is h s = refl

pub set_prologue_end_is : (h : Header) (s : Section) → standard_at h 10 s ≡ Ok (Other, s)
unfolding standard_at
set_prologue_end_is h s = refl

pub set_epilogue_begin_is : (h : Header) (s : Section) → standard_at h 11 s ≡ Ok (Other, s)
unfolding standard_at
set_epilogue_begin_is h s = refl

-- the opcodes with a number
operand : {A : Type 0} (make : A → Opcode) (s : Section) (left : List ℕ) (n : A) (read : List ℕ → Result (A × List ℕ) Error) → read s.bytes ≡ Ok (n, left)
    → mapped make (within read s) ≡ Ok (make n, record s { bytes = left })
operand make s left n read e = ap (λ x. mapped make (x >>= λ y. Ok (y.0, record s { bytes = y.1 }))) e

pub advance_pc_is : (h : Header) (endian : RunTimeEndian) (xs left : List ℕ) (n : ℕ) → uleb128_in xs ≡ Ok (n, left) → standard_at h 2 (at endian xs) ≡ Ok (AdvancePc n, at endian left)
unfolding standard_at
advance_pc_is h endian xs left n e = operand AdvancePc (at endian xs) left n uleb128_in e

pub advance_line_is : (h : Header) (endian : RunTimeEndian) (xs left : List ℕ) (z : ℤ) → sleb128_in xs ≡ Ok (z, left) → standard_at h 3 (at endian xs) ≡ Ok (AdvanceLine z, at endian left)
unfolding standard_at
advance_line_is h endian xs left z e = operand AdvanceLine (at endian xs) left z sleb128_in e

pub set_file_is : (h : Header) (endian : RunTimeEndian) (xs left : List ℕ) (n : ℕ) → uleb128_in xs ≡ Ok (n, left) → standard_at h 4 (at endian xs) ≡ Ok (SetFile n, at endian left)
unfolding standard_at
set_file_is h endian xs left n e = operand SetFile (at endian xs) left n uleb128_in e

pub set_column_is : (h : Header) (endian : RunTimeEndian) (xs left : List ℕ) (n : ℕ) → uleb128_in xs ≡ Ok (n, left) → standard_at h 5 (at endian xs) ≡ Ok (SetColumn n, at endian left)
unfolding standard_at
set_column_is h endian xs left n e = operand SetColumn (at endian xs) left n uleb128_in e

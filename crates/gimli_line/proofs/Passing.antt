-- From one place of a program to a later one (on specs/Taking.antt).
use Rattle.gimli_line.proofs.Common.{◌≡◌, ℕ, ◌+◌, ◌<◌, ◌==◌, false, length, nat_lt, List, [], ◌∷◌, Option, Some, None, Result, Ok, Err, drop, get_or, refl, sym, ap, subst, ◌∙◌, arith, drop_more, drop-drop, nat_tests, Error, UnexpectedEof, Section, after, skipped_at, ◌>>=◌, done, guard_ok, LineInstruction, Changes, Registers, LineRow, File, Header, rows_left, ahead_left, instruction_at, Executes, Passes, all_taken, fault_after}
use Rattle.gimli_read.specs.declared.endian.RunTimeEndian.{RunTimeEndian}
use Rattle.gimli_line.specs.Steps.{taken as took_in}
use Rattle.gimli_line.proofs.FirstOpcode.{at}
use Rattle.gimli_line.proofs.RowsLeft.{State, left_more, defines_more}
use Rattle.gimli_line.proofs.AheadLemmas.{defined_more, defined_none, still_none}

module _ {S : Type 0} (taken : S → LineRow → S) where
  pub passes_none : (h : Header) (r : Registers) (s : Section) (k : S) → Passes taken h r s k h r s k
  passes_none h r s k = record { fault = refl; rows = refl; files = (refl, refl); at_once = λ e left. (left, λ ahead. ahead) }

  pub passes_on : (h g f : Header) (r q p : Registers) (s t u : Section) (k l m : S)
      → Passes taken h r s k g q t l → Passes taken g q t l f p u m → Passes taken h r s k f p u m
  passes_on h g f r q p s t u k l m a b = record {
    fault = a.fault ∙ b.fault;
    rows = a.rows ∙ b.rows;
    files = (a.files.0 ∙ b.files.0, b.files.1 ∙ ap (λ (x : Header). record x { file_names = f.file_names }) a.files.1);
    at_once = λ e left. (let x = a.at_once e left in let y = b.at_once e x.0 in (y.0, λ ahead. y.1 (x.1 ahead)));
  }

  -- an instruction without a row
  pub passes_quiet : (h g : Header) (r q : Registers) (s t : Section) (i : LineInstruction File) (k : S)
      → instruction_at h s ≡ Ok (Some i, t) → took_in h r i ≡ Ok (None, q, g) → Passes taken h r s k g q t k
  passes_quiet h g r q s t i k read took =
      let same : rows_left h r s ≡ rows_left g q t = left_more h r s t i None q g read took in
      record {
        fault = ap fault_after same;
        rows = ap (all_taken taken k) same;
        files = defines_more h s h r s t i None q g (refl, refl) read took;
        at_once = λ e left. (
          sym same ∙ left,
          λ ahead. still_none h (ahead_left h r s) g (ahead_left g q t) (defined_more h (ahead_left h r s) h r s t i q g (defined_none h (ahead_left h r s)) read took) ahead,
        );
      }

  -- and one with a row
  pub passes_row : (h g : Header) (r q : Registers) (s t : Section) (i : LineInstruction File) (x : LineRow) (k l : S)
      → instruction_at h s ≡ Ok (Some i, t) → took_in h r i ≡ Ok (Some x, q, g) → l ≡ taken k x → Passes taken h r s k g q t l
  passes_row h g r q s t i x k l read took is =
      let same : rows_left h r s ≡ Ok x ∷ rows_left g q t = left_more h r s t i (Some x) q g read took in
      record {
        fault = ap fault_after same;
        rows = ap (all_taken taken k) same ∙ ap (λ (m : S). all_taken taken m (rows_left g q t)) (sym is);
        files = defines_more h s h r s t i (Some x) q g (refl, refl) read took;
        at_once = λ e left. absurd (not_both e (sym same ∙ left));
      }
    where
      not_both : (e : Error) → ◌≡◌ {A = List (Result LineRow Error)} (Ok x ∷ rows_left g q t) (Err e ∷ []) → ⊥
      not_both e eq = let first : ◌≡◌ {A = Result LineRow Error} (Ok x) (Err e) = cc in absurd (cc (first))

  took_is : (h : Header) (r q : Registers) (bytes : List ℕ) (n : ℕ) (row : Option LineRow) (x : Executes h r bytes n row q) → took_in h r (Changes x.opcode) ≡ Ok (row, q, h)
  unfolding took_in
  took_is h r q bytes n row x = ap (λ (y : Result (Option LineRow × Registers) Error). y >>= λ z. done {A = State} (z.0, z.1, h)) x.does

  pub executes_quiet : (h : Header) (r q : Registers) (bytes : List ℕ) (n : ℕ) (k : S) → Executes h r bytes n None q
      → (endian : RunTimeEndian) → Passes taken h r (at endian bytes) k h q (at endian (drop n bytes)) k
  executes_quiet h r q bytes n k x endian = passes_quiet h h r q (at endian bytes) (at endian (drop n bytes)) (Changes x.opcode) k (x.read endian) (took_is h r q bytes n None x)

  pub executes_row : (h : Header) (r q : Registers) (bytes : List ℕ) (n : ℕ) (row : LineRow) (k l : S) → Executes h r bytes n (Some row) q → l ≡ taken k row
      → (endian : RunTimeEndian) → Passes taken h r (at endian bytes) k h q (at endian (drop n bytes)) l
  executes_row h r q bytes n row k l x is endian = passes_row h h r q (at endian bytes) (at endian (drop n bytes)) (Changes x.opcode) row k l (x.read endian) (took_is h r q bytes n (Some row) x) is

-- a row stands first, so no fault stands at once
pub row_first : (h : Header) (r q : Registers) (bytes : List ℕ) (n : ℕ) (row : LineRow) → Executes h r bytes n (Some row) q
    → (endian : RunTimeEndian) (e : Error) → rows_left h r (at endian bytes) ≡ Err e ∷ [] → ⊥
row_first h r q bytes n row x endian e left =
    let same : rows_left h r (at endian bytes) ≡ Ok row ∷ rows_left h q (at endian (drop n bytes)) =
    left_more h r (at endian bytes) (at endian (drop n bytes)) (Changes x.opcode) (Some row) q h (x.read endian) (took_is (λ (k : ℕ) y. k) h r q bytes n (Some row) x) in
    let both : ◌≡◌ {A = List (Result LineRow Error)} (Ok row ∷ rows_left h q (at endian (drop n bytes))) (Err e ∷ []) = sym same ∙ left in
    let first : ◌≡◌ {A = Result LineRow Error} (Ok row) (Err e) = cc in
    absurd (cc (first))

-- the first three bytes from a place on
pub three_first : (bytes : List ℕ) (i : ℕ) → i + 2 < length bytes
    → drop i bytes ≡ get_or bytes i 0 ∷ get_or bytes (i + 1) 0 ∷ get_or bytes (i + 2) 0 ∷ drop (i + 3) bytes
three_first bytes i h =
    let a = drop_more bytes i 0 (omega arith) in
    let b = drop_more bytes (i + 1) 0 (omega arith) in
    let c = drop_more bytes (i + 2) 0 (omega arith) in
    let p : i + 1 + 1 ≡ i + 2 = omega arith in
    let q : i + 2 + 1 ≡ i + 3 = omega arith in
    a ∙ ap (λ xs. get_or bytes i 0 ∷ xs) (b ∙ ap (λ k. get_or bytes (i + 1) 0 ∷ drop k bytes) p ∙ ap (λ xs. get_or bytes (i + 1) 0 ∷ xs) (c ∙ ap (λ k. get_or bytes (i + 2) 0 ∷ drop k bytes) q))

-- an opcode at the front of three bytes or more
three_at : (h : Header) (r q : Registers) (bytes : List ℕ) (i n : ℕ) (row : Option LineRow) → i + 2 < length bytes
    → ((rest : List ℕ) → Executes h r (get_or bytes i 0 ∷ get_or bytes (i + 1) 0 ∷ get_or bytes (i + 2) 0 ∷ rest) n row q) → Executes h r (drop i bytes) n row q
three_at h r q bytes i n row l x =
    let P : List ℕ → Type 0 = λ xs. Executes h r xs n row q in
    subst P (sym (three_first bytes i l)) (x (drop (i + 3) bytes))

module _ {S : Type 0} (taken : S → LineRow → S) (h : Header) (r now q : Registers) (bytes : List ℕ) (i n : ℕ) (k l : S) (lt : i + 2 < length bytes)
    (before : (endian : RunTimeEndian) → Passes taken h r (at endian bytes) k h now (at endian (drop i bytes)) l) where
  further : (m : S) → ((endian : RunTimeEndian) → Passes taken h now (at endian (drop i bytes)) l h q (at endian (drop n (drop i bytes))) m)
      → (endian : RunTimeEndian) → Passes taken h r (at endian bytes) k h q (at endian (drop (i + n) bytes)) m
  further m step endian =
      let P : List ℕ → Type 0 = λ xs. Passes taken h r (at endian bytes) k h q (at endian xs) m in
      subst P (drop-drop n i bytes) (passes_on taken h h h r now q (at endian bytes) (at endian (drop i bytes)) (at endian (drop n (drop i bytes))) k l m (before endian) (step endian))

  pub quiet_on : ((rest : List ℕ) → Executes h now (get_or bytes i 0 ∷ get_or bytes (i + 1) 0 ∷ get_or bytes (i + 2) 0 ∷ rest) n None q)
      → (endian : RunTimeEndian) → Passes taken h r (at endian bytes) k h q (at endian (drop (i + n) bytes)) l
  quiet_on x = further l (executes_quiet taken h now q (drop i bytes) n l (three_at h now q bytes i n None lt x))

  pub row_on : (row : LineRow) (m : S) → ((rest : List ℕ) → Executes h now (get_or bytes i 0 ∷ get_or bytes (i + 1) 0 ∷ get_or bytes (i + 2) 0 ∷ rest) n (Some row) q) → m ≡ taken l row
      → (endian : RunTimeEndian) → Passes taken h r (at endian bytes) k h q (at endian (drop (i + n) bytes)) m
  row_on row m x is = further m (executes_row taken h now q (drop i bytes) n row l m (three_at h now q bytes i n (Some row) lt x) is)

  pub no_fault_on : (row : LineRow) → ((rest : List ℕ) → Executes h now (get_or bytes i 0 ∷ get_or bytes (i + 1) 0 ∷ get_or bytes (i + 2) 0 ∷ rest) n (Some row) q)
      → (endian : RunTimeEndian) (e : Error) → rows_left h r (at endian bytes) ≡ Err e ∷ [] → ⊥
  no_fault_on row x endian e left = row_first h now q (drop i bytes) n row (three_at h now q bytes i n (Some row) lt x) endian e ((before endian).at_once e left).0

-- where an instruction has a row no fault stands at once
pub row_before_fault : (h g : Header) (r q : Registers) (s t : Section) (i : LineInstruction File) (x : LineRow) (e : Error)
    → instruction_at h s ≡ Ok (Some i, t) → took_in h r i ≡ Ok (Some x, q, g) → rows_left h r s ≡ Err e ∷ [] → ⊥
row_before_fault h g r q s t i x e read took left =
    let both : ◌≡◌ {A = List (Result LineRow Error)} (Ok x ∷ rows_left g q t) (Err e ∷ []) = sym (left_more h r s t i (Some x) q g read took) ∙ left in
    let first : ◌≡◌ {A = Result LineRow Error} (Ok x) (Err e) = cc in
    absurd (cc (first))

-- two faults that stand at once are one
pub same_fault : {left : List (Result LineRow Error)} {d e : Error} → left ≡ Err d ∷ [] → left ≡ Err e ∷ [] → d ≡ e
same_fault {left} {d} {e} a b =
    let both : ◌≡◌ {A = List (Result LineRow Error)} (Err d ∷ []) (Err e ∷ []) = sym a ∙ b in
    let first : ◌≡◌ {A = Result LineRow Error} (Err d) (Err e) = cc in
    cc

-- bytes that are skipped
pub skipped_is : (n : ℕ) (s t : Section) (x : Unit {0}) → skipped_at n s ≡ Ok (x, t) → after n s ≡ t
skipped_is n s t x e =
    let both = (guard_ok (nat_lt (length s.bytes) n) UnexpectedEof (tt, after n s) (x, t) e).1 in
    ap (λ (y : Unit {0} × Section). y.1) both

pub some_left : (s : Section) → 0 < length s.bytes → (length s.bytes == 0) ≡ false
some_left s h = grind (arith, nat_tests)

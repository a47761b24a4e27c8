-- The files that are defined before the next row, one instruction on (on specs/Steps.antt and specs/Lines.antt).
use Rattle.gimli_line.proofs.Common.{◌≡◌, ℕ, ◌==◌, false, length, List, [], ◌∷◌, ◌++◌, Option, Some, None, Result, Ok, Err, IfOk, OnErr, refl, sym, ap, ◌∙◌, append_assoc, append-nil, Error, Section, Reading, ◌>>=◌, fixed_at, Run, done, Opcode, LineInstruction, Changes, Defines, Registers, LineRow, File, Header, with_files, HasDefined, IsOver, instruction_at, coded_instruction_at, gives_file, executed, taken, step_instruction, ahead_after, ahead_from, ahead_left, rows_left, files_left}
use Rattle.gimli_line.proofs.RowsLeft.{State, Ended, run_at, same_run, at_code, at_end, left_end, files_end, step_instruction_is}

ahead_in : Header → Registers → Run (LineInstruction File) Section → List File
ahead_in h r v = ahead_from h.line_encoding r v.items

pub ahead_end : (h : Header) (r : Registers) (s t : Section) → instruction_at h s ≡ Ok (None, t) → ahead_left h r s ≡ []
unfolding ahead_in ahead_from
ahead_end h r s t f = ap (ahead_in h r) (run_at h s (Ok (None, t)) f)

pub ahead_fault : (h : Header) (r : Registers) (s : Section) (e : Error) → instruction_at h s ≡ Err e → ahead_left h r s ≡ []
unfolding ahead_in ahead_from
ahead_fault h r s e f = ap (ahead_in h r) (run_at h s (Err e) f)

ahead_changes : (h : Header) (r : Registers) (s t : Section) (op : Opcode) → instruction_at h s ≡ Ok (Some (Changes op), t)
    → ahead_left h r s ≡ ahead_after (λ q. ahead_left h q t) (executed h.line_encoding r op)
unfolding ahead_in ahead_from
ahead_changes h r s t op f = ap (ahead_in h r) (run_at h s (Ok (Some (Changes op), t)) f)

ahead_defines : (h : Header) (r : Registers) (s t : Section) (x : File) → instruction_at h s ≡ Ok (Some (Defines x), t)
    → ahead_left h r s ≡ x ∷ ahead_left h r t
unfolding ahead_in ahead_from
ahead_defines h r s t x f = ap (ahead_in h r) (run_at h s (Ok (Some (Defines x), t)) f)

-- where an instruction has a row no file is ahead, and the header stays
pub ahead_row : (h : Header) (r : Registers) (s t : Section) (i : LineInstruction File) (row : LineRow) (q : Registers) (g : Header)
    → instruction_at h s ≡ Ok (Some i, t) → taken h r i ≡ Ok (Some row, q, g) → (ahead_left h r s ≡ []) × (g ≡ h)
unfolding taken
ahead_row h r s t (Changes op) row q g f k =
    let b = by_cases (executed h.line_encoding r op) k in
    (ahead_changes h r s t op f ∙ b.0, b.1)
  where
    by_cases : (x : Result (Option LineRow × Registers) Error) → (x >>= λ y. done {A = State} (y.0, y.1, h)) ≡ Ok (Some row, q, g)
        → (ahead_after (λ p. ahead_left h p t) x ≡ []) × (g ≡ h)
    by_cases (Ok (Some y, p)) e =
        let same : ◌≡◌ {A = State} (Some y, p, h) (Some row, q, g) = cc in
        (refl, ap (λ (z : State). z.2) (sym same))
    by_cases (Ok (None, p)) e =
        let same : ◌≡◌ {A = State} (None, p, h) (Some row, q, g) = cc in
        let none : ◌≡◌ {A = Option LineRow} None (Some row) = ap (λ (z : State). z.0) same in
        absurd (cc (none))
    by_cases (Err d) e = absurd (cc (e))
ahead_row h r s t (Defines x) row q g f k =
    let same : ◌≡◌ {A = State} (None, r, record h { file_names = h.file_names ++ x ∷ [] }) (Some row, q, g) = cc in
    let none : ◌≡◌ {A = Option LineRow} None (Some row) = ap (λ (z : State). z.0) same in
    absurd (cc (none))

-- where it has a fault none is ahead either
ahead_taken_fault : (h : Header) (r : Registers) (s t : Section) (i : LineInstruction File) (e : Error)
    → instruction_at h s ≡ Ok (Some i, t) → taken h r i ≡ Err e → ahead_left h r s ≡ []
unfolding taken
ahead_taken_fault h r s t (Changes op) e f k = ahead_changes h r s t op f ∙ by_cases (executed h.line_encoding r op) k
  where
    by_cases : (x : Result (Option LineRow × Registers) Error) → (x >>= λ y. done {A = State} (y.0, y.1, h)) ≡ Err e → ahead_after (λ p. ahead_left h p t) x ≡ []
    by_cases (Ok y) k = absurd (cc (k))
    by_cases (Err d) k = refl
ahead_taken_fault h r s t (Defines x) e f k = absurd (cc (k))

pub ahead_step_fault : (h : Header) (r : Registers) (s u : Section) (code : ℕ) (e : Error)
    → (length s.bytes == 0) ≡ false → fixed_at 1 s ≡ Ok (code, u) → step_instruction h r code u ≡ Err e → ahead_left h r s ≡ []
ahead_step_fault h r s u code e n f k = by_cases (coded_instruction_at h code u) (at_code h s u code n f) (sym (step_instruction_is h r code u) ∙ k)
  where
    taking : (i : LineInstruction File) (v : Section) (x : Result State Error) → taken h r i ≡ x → instruction_at h s ≡ Ok (Some i, v)
        → (x >>= λ y. done {A = Ended} (y.0, y.1, y.2, v)) ≡ Err e → ahead_left h r s ≡ []
    taking i v (Ok y) w at c = absurd (cc (c))
    taking i v (Err d) w at c = ahead_taken_fault h r s v i d at w

    by_cases : (x : Reading (LineInstruction File)) → instruction_at h s ≡ (x >>= λ i. done {A = Option (LineInstruction File) × Section} (Some i.0, i.1))
        → (x >>= λ i. taken h r i.0 >>= λ y. done {A = Ended} (y.0, y.1, y.2, i.1)) ≡ Err e → ahead_left h r s ≡ []
    by_cases (Ok i) at c = taking i.0 i.1 (taken h r i.0) refl at c
    by_cases (Err d) at c = ahead_fault h r s d at

-- where none is ahead this one defines none
pub none_ahead : (h : Header) (r : Registers) (s u : Section) (code : ℕ) → (length s.bytes == 0) ≡ false → fixed_at 1 s ≡ Ok (code, u)
    → ahead_left h r s ≡ [] → gives_file (coded_instruction_at h code u) ≡ false
none_ahead h r s u code n f none = by_cases (coded_instruction_at h code u) (at_code h s u code n f)
  where
    by_cases : (x : Reading (LineInstruction File)) → instruction_at h s ≡ (x >>= λ i. done {A = Option (LineInstruction File) × Section} (Some i.0, i.1)) → gives_file x ≡ false
    by_cases (Ok (Changes op, t)) at = refl
    by_cases (Ok (Defines x, t)) at = let some = sym (ahead_defines h r s t x at) ∙ none in absurd (cc (some))
    by_cases (Err e) at = refl

-- one instruction on without a row: the files defined, and those ahead
pub defined_more : (h0 : Header) (ahead : List File) (h : Header) (r : Registers) (s t : Section) (i : LineInstruction File) (q : Registers) (g : Header)
    → HasDefined h0 ahead h (ahead_left h r s) → instruction_at h s ≡ Ok (Some i, t) → taken h r i ≡ Ok (None, q, g) → HasDefined h0 ahead g (ahead_left g q t)
unfolding taken ahead_in
defined_more h0 ahead h r s t (Changes op) q g d f k = by_cases (executed h.line_encoding r op) k (ahead_changes h r s t op f)
  where
    by_cases : (x : Result (Option LineRow × Registers) Error) → (x >>= λ y. done {A = State} (y.0, y.1, h)) ≡ Ok (None, q, g)
        → ahead_left h r s ≡ ahead_after (λ p. ahead_left h p t) x → HasDefined h0 ahead g (ahead_left g q t)
    by_cases (Ok (None, p)) e on =
        let same : ◌≡◌ {A = State} (None, p, h) (None, q, g) = cc in
        record {
          defined = d.defined;
          header = ap (λ (z : State). z.2) (sym same) ∙ d.header;
          ahead_is = d.ahead_is ∙ ap (λ fs. d.defined ++ fs) (on ∙ ap (λ (z : State). ahead_left z.2 z.1 t) same);
        }
    by_cases (Ok (Some y, p)) e on =
        let same : ◌≡◌ {A = State} (Some y, p, h) (None, q, g) = cc in
        let some : ◌≡◌ {A = Option LineRow} (Some y) None = ap (λ (z : State). z.0) same in
        absurd (cc (some))
    by_cases (Err x) e on = absurd (cc (e))
defined_more h0 ahead h r s t (Defines x) q g d f k =
    let fs : List File = h.file_names ++ x ∷ [] in
    let same : ◌≡◌ {A = State} (None, r, record h { file_names = fs }) (None, q, g) = cc in
    let on : ahead_left h r s ≡ x ∷ ahead_left g q t = ahead_defines h r s t x f ∙ ap (λ k. x ∷ k) (sym (ap (ahead_in h r) (same_run h fs t)) ∙ ap (λ (z : State). ahead_left z.2 z.1 t) same) in
    record {
      defined = d.defined ++ x ∷ [];
      header = ap (λ (z : State). z.2) (sym same) ∙ ap (λ (z : Header). record z { file_names = z.file_names ++ x ∷ [] }) d.header
          ∙ ap (λ n. record h0 { file_names = n }) (append_assoc h0.file_names d.defined (x ∷ []));
      ahead_is = d.ahead_is ∙ ap (λ fs. d.defined ++ fs) on ∙ sym (append_assoc d.defined (x ∷ []) (ahead_left g q t));
    }

pub defined_none : (h : Header) (ahead : List File) → HasDefined h ahead h ahead
defined_none h ahead = record { defined = []; header = ap (λ n. record h { file_names = n }) (sym (append-nil h.file_names)); ahead_is = refl }

-- where nothing is ahead any more all is defined
pub defined_all : (h : Header) (ahead : List File) (g : Header) (rest : List File) → HasDefined h ahead g rest → rest ≡ [] → g ≡ with_files h ahead
defined_all h ahead g rest d none = d.header ∙ ap (with_files h) (sym (d.ahead_is ∙ ap (λ fs. d.defined ++ fs) none ∙ append-nil d.defined))

-- and where nothing was ahead nothing is
pub still_none : (h : Header) (ahead : List File) (g : Header) (rest : List File) → HasDefined h ahead g rest → ahead ≡ [] → rest ≡ []
still_none h ahead g rest d none = by_list d.defined (sym d.ahead_is ∙ none)
  where
    by_list : (xs : List File) → xs ++ rest ≡ [] → rest ≡ []
    by_list [] e = e
    by_list (x ∷ xs) e = absurd (cc (e))

-- where the header stays so do they
pub defined_kept : (h : Header) (ahead : List File) (g k : Header) (rest : List File) → HasDefined h ahead g rest → k ≡ g → HasDefined h ahead k rest
defined_kept h ahead g k rest d same = record { defined = d.defined; header = same ∙ d.header; ahead_is = d.ahead_is }

-- where no byte is left nothing is left
pub over : (h : Header) (r : Registers) (s : Section) → s.bytes ≡ [] → IsOver (record { header = h; left = rows_left h r s; ahead = ahead_left h r s; to_define = files_left h s })
over h r s e =
    let i = at_end h s e in
    record { left = left_end h r s s i; ahead = ahead_end h r s s i; to_define = files_end h s s i }

pub after_refusal : {X E A : Type 0} (r : Result X E) → A → OnErr r A
after_refusal (Ok x) a = tt
after_refusal (Err e) a = a

pub after_end : {X E A B : Type 0} (r : Result (Option X) E) → (A → B) → IfOk r (λ row. row ≡ None → A) → IfOk r (λ row. row ≡ None → B)
after_end (Ok row) f k = λ none. f (k none)
after_end (Err e) f k = tt

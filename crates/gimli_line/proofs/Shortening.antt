-- Each instruction takes bytes (on specs/Opcode.antt).
use Rattle.gimli_line.proofs.Common.{◌≡◌, ℕ, zero, suc, ◌+◌, ◌-◌, ◌<◌, Bool, true, false, cond, length, slice_index, Option, Some, None, Ok, Err, IfOk, IfSome, nat_le, ◌==◌, refl, length-drop, arith, Section, Reading, ◌>>=◌, fixed_at, ended_at, null_terminated_at, Shorter, shorter_bind, shorter_then, shorter_if, shorter_ok, shorter_err, shorter_weaker, takes_by, fixed-shorter, split-shorter, uleb128-shorter, sleb128-shorter, TakesBytes, DW_LNS_extended_op, LineInstruction, File, Header, file_with_path_at, numbers_skipped, standard_at, extended_in, extended_at, coded_instruction_at, instruction_at, directory_at, file_at}
use Rattle.std.specs.List.{position}
use Rattle.std.proofs.lemmas.List.Quantifiers.{position-Some}

numbers-shorter : (n : ℕ) (s : Section) → Shorter (length s.bytes + 1) (numbers_skipped n s)
unfolding numbers_skipped
numbers-shorter zero s = shorter_ok (omega arith)
numbers-shorter (suc n) s = shorter_bind (uleb128-shorter s) (λ x h. shorter_weaker (numbers-shorter n x.1) (omega arith))

standard-shorter : (h : Header) (code : ℕ) (s : Section) → Shorter (length s.bytes + 1) (standard_at h code s)
unfolding standard_at
standard-shorter h code s =
    shorter_if (code == 1) (shorter_ok (omega arith))
    (shorter_if (code == 2) (shorter_bind (uleb128-shorter s) (λ x k. shorter_ok (omega arith)))
    (shorter_if (code == 3) (shorter_bind (sleb128-shorter s) (λ x k. shorter_ok (omega arith)))
    (shorter_if (code == 4) (shorter_bind (uleb128-shorter s) (λ x k. shorter_ok (omega arith)))
    (shorter_if (code == 5) (shorter_bind (uleb128-shorter s) (λ x k. shorter_ok (omega arith)))
    (shorter_if (code == 6) (shorter_ok (omega arith))
    (shorter_if (code == 7) (shorter_ok (omega arith))
    (shorter_if (code == 8) (shorter_ok (omega arith))
    (shorter_if (code == 9) (shorter_bind (fixed-shorter 2 s (omega arith)) (λ x k. shorter_ok (omega arith)))
    (shorter_if (code == 10) (shorter_ok (omega arith))
    (shorter_if (code == 11) (shorter_ok (omega arith))
    (shorter_if (code == 12) (shorter_bind (uleb128-shorter s) (λ x k. shorter_ok (omega arith)))
    (shorter_bind (numbers-shorter (slice_index h.standard_opcode_lengths.bytes (code - 1)) s) (λ x k. shorter_ok k)))))))))))))

extended-shorter : (h : Header) (s : Section) → Shorter (length s.bytes + 1) (extended_at h s)
unfolding extended_at
extended-shorter h s = shorter_bind (uleb128-shorter s) (λ n hn. shorter_bind (split-shorter n.0 n.1) (λ t ht. shorter_then (extended_in h t.0) (λ i. shorter_ok (omega arith))))

coded-shorter : (h : Header) (code : ℕ) (s : Section) → Shorter (length s.bytes + 1) (coded_instruction_at h code s)
unfolding coded_instruction_at
coded-shorter h code s =
    shorter_if (code == DW_LNS_extended_op) (extended-shorter h s)
    (shorter_if (nat_le h.line_encoding.opcode_base code) (shorter_ok (omega arith))
    (shorter_bind (standard-shorter h code s) (λ x k. shorter_ok k)))

pub instruction-takes : (h : Header) → TakesBytes (instruction_at h)
unfolding instruction_at
instruction-takes h s = at (length s.bytes == 0)
  where
    inner : Shorter (length s.bytes) (fixed_at 1 s >>= λ code. coded_instruction_at h code.0 code.1 >>= λ i. Ok (Some i.0, i.1))
    inner = shorter_bind (fixed-shorter 1 s (omega arith)) (λ code k. shorter_bind (coded-shorter h code.0 code.1) (λ i m. shorter_ok (omega arith)))

    out : (r : Reading (Option (LineInstruction File))) → Shorter (length s.bytes) r → IfOk r (λ p. IfSome p.0 (λ _. length p.1.bytes < length s.bytes))
    out (Ok (Some x, t)) k = k.by
    out (Ok (None, t)) k = tt
    out (Err e) k = tt

    at : (c : Bool) → IfOk {T = Option (LineInstruction File) × Section} (cond c (Ok (None, s)) (fixed_at 1 s >>= λ code. coded_instruction_at h code.0 code.1 >>= λ i. Ok (Some i.0, i.1))) (λ p. IfSome p.0 (λ _. length p.1.bytes < length s.bytes))
    at true = tt
    at false = out _ inner

-- The tables of versions 2 to 4 (on specs/Tables.antt).

null_terminated-shorter : (s : Section) → Shorter (length s.bytes) (null_terminated_at s)
null_terminated-shorter s = by_cases (position (λ b. b == 0) s.bytes) refl
  where
    by_cases : (o : Option ℕ) → position (λ b. b == 0) s.bytes ≡ o → Shorter (length s.bytes) (ended_at s o)
    by_cases None e = shorter_err
    by_cases (Some n) e = let p = position-Some (λ b. b == 0) s.bytes n 0 e in shorter_ok (simp length-drop (omega (arith, p.0)))

file_with_path-shorter : (path s : Section) → Shorter (length s.bytes) (file_with_path_at path s)
unfolding file_with_path_at
file_with_path-shorter path s = shorter_bind (uleb128-shorter s) (λ x h. shorter_bind (uleb128-shorter x.1) (λ y k. shorter_bind (uleb128-shorter y.1) (λ z l. shorter_ok (omega arith))))

directory-shorter : (s : Section) → Shorter (length s.bytes) (directory_at s)
unfolding directory_at
directory-shorter s = shorter_bind (null_terminated-shorter s) (λ p h. shorter_if (length p.0.bytes == 0) (shorter_ok h) (shorter_ok h))

pub directory-takes : TakesBytes directory_at
directory-takes = takes_by directory_at directory-shorter

file-shorter : (s : Section) → Shorter (length s.bytes) (file_at s)
unfolding file_at
file-shorter s = shorter_bind (null_terminated-shorter s) (λ p h. shorter_if (length p.0.bytes == 0) (shorter_ok h) (shorter_bind (file_with_path-shorter p.0 p.1) (λ f k. shorter_ok (omega arith))))

pub file-takes : TakesBytes file_at
file-takes = takes_by file_at file-shorter

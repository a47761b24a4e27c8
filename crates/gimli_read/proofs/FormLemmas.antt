-- The form that indirections lead to, one at a time (on specs/Form.antt).
use Rattle.gimli_read.proofs.Common.{◌≡◌, ℕ, zero, suc, arith, ◌+◌, ◌<◌, length, true, false, cond, Ok, Err, ◌==◌, refl, ap, ◌∙◌, add-one, DW_FORM_indirect, Error, Section, Reading, ◌>>=◌, uleb128_at, form_within, form_at}
use Rattle.gimli_read.proofs.Shorter.{Shorter, shorter_at, uleb128-shorter}

-- one number read, and the next one where it is an indirection
abbrev choice : (Section → Reading ℕ) → ℕ × Section → Reading ℕ
choice rest form = cond (form.0 == DW_FORM_indirect.0) (rest form.1) (Ok form)

choice_agrees : (s : Section) (j k : Section → Reading ℕ) → ((t : Section) → length t.bytes < length s.bytes → j t ≡ k t) → (r : Reading ℕ) → Shorter (length s.bytes) r → (r >>= choice j) ≡ (r >>= choice k)
choice_agrees s j k same (Err e) h = refl
choice_agrees s j k same (Ok form) h = ap (λ v. cond (form.0 == DW_FORM_indirect.0) v (Ok form)) (same form.1 h.by)

form_enough : (n m : ℕ) (s : Section) → length s.bytes < n → length s.bytes < m → form_within n s ≡ form_within m s
unfolding form_within
form_enough zero m s h k = absurd (omega arith)
form_enough (suc n) zero s h k = absurd (omega arith)
form_enough (suc n) (suc m) s h k = choice_agrees s (form_within n) (form_within m) (λ t l. form_enough n m t (omega arith) (omega arith)) (uleb128_at s) (uleb128-shorter s)

form_next : (s : Section) → form_at s ≡ (uleb128_at s >>= choice form_at)
unfolding form_within
form_next s = ap (λ n. form_within n s) (add-one (length s.bytes)) ∙ choice_agrees s (form_within (length s.bytes)) form_at (λ t l. form_enough (length s.bytes) (length t.bytes + 1) t l (omega arith)) (uleb128_at s) (uleb128-shorter s)

pub form_fault : (s : Section) (e : Error) → uleb128_at s ≡ Err e → form_at s ≡ Err e
form_fault s e h = form_next s ∙ ap (λ r. r >>= choice form_at) h

pub form_more : (s : Section) (n : ℕ) (t : Section) → uleb128_at s ≡ Ok (n, t) → (n == DW_FORM_indirect.0) ≡ true → form_at s ≡ form_at t
form_more s n t h k = form_next s ∙ ap (λ r. r >>= choice form_at) h ∙ ap (λ b. cond b (form_at t) (Ok (n, t))) k

pub form_last : (s : Section) (n : ℕ) (t : Section) → uleb128_at s ≡ Ok (n, t) → (n == DW_FORM_indirect.0) ≡ false → form_at s ≡ Ok (n, t)
form_last s n t h k = form_next s ∙ ap (λ r. r >>= choice form_at) h ∙ ap (λ b. cond b (form_at t) (Ok (n, t))) k

pub form_less : (s : Section) (n : ℕ) (t : Section) → uleb128_at s ≡ Ok (n, t) → length t.bytes < length s.bytes
form_less s n t h = shorter_at (uleb128-shorter s) n t h

-- Numbers that nobody looks at, one by one (on specs/Opcode.antt).
use Rattle.gimli_line.proofs.Common.{◌≡◌, ℕ, zero, suc, ◌+◌, ◌<◌, List, [], ◌∷◌, ◌++◌, Ok, Err, refl, sym, ap, ◌∙◌, append_assoc, append-nil, arith, Error, Section, Reading, ◌>>=◌, with_front, done, numbers_skipped, times}
use Rattle.gimli_read.specs.Leb128.{uleb128_at}

-- one of them stands first
skipped_step : (n : ℕ) (s : Section) → numbers_skipped (suc n) s ≡ (uleb128_at s >>= λ x. numbers_skipped n x.1)
unfolding numbers_skipped
skipped_step n s = refl

pub skipped_fault : (n : ℕ) (s : Section) (e : Error) → 0 < n → uleb128_at s ≡ Err e → numbers_skipped n s ≡ Err e
skipped_fault zero s e h f = absurd (omega arith)
skipped_fault (suc n) s e h f = skipped_step n s ∙ ap (λ r. r >>= λ x. numbers_skipped n x.1) f

pub skipped_more : (n m : ℕ) (s t : Section) (x : ℕ) → n ≡ m + 1 → uleb128_at s ≡ Ok (x, t) → numbers_skipped n s ≡ numbers_skipped m t
skipped_more n m s t x h f =
    let e : n ≡ suc m = omega arith in
    ap (λ k. numbers_skipped k s) e ∙ skipped_step m s ∙ ap (λ r. r >>= λ y. numbers_skipped m y.1) f

pub skipped_none : (n : ℕ) (s : Section) → n ≡ 0 → numbers_skipped n s ≡ done (tt, s)
unfolding numbers_skipped
skipped_none n s h = ap (λ k. numbers_skipped k s) h

times_step : {A : Type 0} (part : Section → Reading A) (n : ℕ) (s : Section) → times part (suc n) s ≡ (part s >>= λ y. times part n y.1 >>= λ z. Ok (y.0 ∷ z.0, z.1))
unfolding times
times_step part n s = refl

front_more : {A : Type 0} (front : List A) (x : A) (r : Reading (List A)) → with_front front (r >>= λ z. Ok (x ∷ z.0, z.1)) ≡ with_front (front ++ x ∷ []) r
front_more front x (Ok y) = ap (λ v. Ok (v, y.1)) (sym (append_assoc front (x ∷ []) y.0))
front_more front x (Err d) = refl

-- so many things, the first ones read
pub times_more : {A : Type 0} (part : Section → Reading A) (n m : ℕ) (s t : Section) (x : A) → n ≡ m + 1 → part s ≡ Ok (x, t) → (front : List A) → with_front front (times part n s) ≡ with_front (front ++ x ∷ []) (times part m t)
times_more part n m s t x h f front =
    let e : n ≡ suc m = omega arith in
    ap (λ k. with_front front (times part k s)) e ∙ ap (with_front front) (times_step part m s ∙ ap (λ r. r >>= λ y. times part m y.1 >>= λ z. Ok (y.0 ∷ z.0, z.1)) f) ∙ front_more front x (times part m t)

pub times_fault : {A : Type 0} (part : Section → Reading A) (n : ℕ) (s : Section) (e : Error) → 0 < n → part s ≡ Err e → (front : List A) → with_front front (times part n s) ≡ Err e
times_fault part zero s e h f front = absurd (omega arith)
times_fault part (suc n) s e h f front = ap (with_front front) (times_step part n s ∙ ap (λ r. r >>= λ y. times part n y.1 >>= λ z. Ok (y.0 ∷ z.0, z.1)) f)

pub times_none : {A : Type 0} (part : Section → Reading A) (n : ℕ) (s : Section) → n ≡ 0 → (front : List A) → with_front front (times part n s) ≡ Ok (front, s)
unfolding times
times_none part n s h front = ap (λ k. with_front front (times part k s)) h ∙ ap (λ xs. Ok (xs, s)) (append-nil front)

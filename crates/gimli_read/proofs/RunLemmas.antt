-- Runs, one step at a time (on specs/Run.antt).
use Rattle.gimli_read.proofs.Common.{◌≡◌, ℕ, zero, suc, ◌+◌, ◌<◌, List, [], ◌∷◌, ◌++◌, length, Option, Some, None, Result, Ok, Err, refl, sym, ap, ◌∙◌, arith, append_assoc, add-one, Error, Section, Reading, ◌>>=◌, Run, Next, More, Stop, next_of, cons, continued, run_within, run_of, collected, fold_run, fold_of}
use Rattle.gimli_read.proofs.Shorter.{TakesBytes, shorter_by, Shorter}

-- what was collected, after what stands in front of it
abbrev pub with_front : {X Z : Type 0} → List X → Result (List X × Z) Error
    → Result (List X × Z) Error
with_front front r = r >>= λ x. Ok (front ++ x.0, x.1)

-- a step that goes on leaves less
abbrev pub Shrinks : {X S Z : Type 0} → (S → Next X S Z) → (S → ℕ) → Type 0
Shrinks {X} {S} {Z} step size = (s : S) (x : X) (t : S) → step s ≡ More x (Ok t) → size t < size s

-- two continuations that agree on what is smaller give one run
continued_same : {X S Z : Type 0} (size : S → ℕ) (n : ℕ) (j k : S → Run X Z) → ((t : S) → size t < n → j t ≡ k t) → (v : Next X S Z) → ((x : X) (t : S) → v ≡ More x (Ok t) → size t < n) → continued j v ≡ continued k v
continued_same size n j k same (Stop z) h = refl
continued_same size n j k same (More x (Err d)) h = refl
continued_same size n j k same (More x (Ok t)) h = ap (cons x) (same t (h x t refl))

-- with enough steps their number doesn't matter
pub run_enough : {X S Z : Type 0} (step : S → Next X S Z) (size : S → ℕ) → Shrinks step size → (n m : ℕ) (s : S) → size s < n → size s < m → run_within step n s ≡ run_within step m s
unfolding run_within
run_enough step size sh zero m s h k = absurd (omega arith)
run_enough step size sh (suc n) zero s h k = absurd (omega arith)
run_enough step size sh (suc n) (suc m) s h k = continued_same size (size s) (run_within step n) (run_within step m)
    (λ t lt. run_enough step size sh n m t (omega (arith, lt)) (omega (arith, lt))) (step s) (λ x t e. sh s x t e)

-- one step of a run with enough steps
pub run_step : {X S Z : Type 0} (step : S → Next X S Z) (size : S → ℕ) → Shrinks step size → (s : S) → run_within step (size s + 1) s ≡ continued (λ t. run_within step (size t + 1) t) (step s)
unfolding run_within
run_step step size sh s = ap (λ n. run_within step n s) (add-one (size s)) ∙ continued_same size (size s) (run_within step (size s)) (λ t. run_within step (size t + 1) t)
    (λ t lt. run_enough step size sh (size s) (size t + 1) t lt (omega arith)) (step s) (λ x t e. sh s x t e)

next_of-more : {X S : Type 0} (r : Result (Option X × S) Error) (x : X) (t : S) → next_of r ≡ More x (Ok t) → r ≡ Ok (Some x, t)
next_of-more (Err e) x t h = cc
next_of-more (Ok (None, u)) x t h = cc
next_of-more (Ok (Some y, u)) x t h = cc

pub shrinks_of : {X : Type 0} (part : Section → Reading (Option X)) → TakesBytes part → Shrinks (λ s. next_of (part s)) (λ s. length s.bytes)
shrinks_of part takes s x t e = shorter_by part takes s x t (next_of-more (part s) x t e)

pub run_of-step : {X : Type 0} (part : Section → Reading (Option X)) → TakesBytes part → (s : Section) → run_of part s ≡ continued (run_of part) (next_of (part s))
run_of-step part takes s = run_step (λ t. next_of (part t)) (λ t. length t.bytes) (shrinks_of part takes) s

front_more : {X : Type 0} (front : List X) (x : X) (xs : List X) (z : Result Section Error) → with_front front (z >>= λ y. Ok (x ∷ xs, y)) ≡ with_front (front ++ x ∷ []) (z >>= λ y. Ok (xs, y))
front_more front x xs (Ok y) = ap (λ v. Ok (v, y)) (sym (append_assoc front (x ∷ []) xs))
front_more front x xs (Err d) = refl

pub collected-more : {X : Type 0} (part : Section → Reading (Option X)) → TakesBytes part → (s : Section) (x : X) (t : Section) → part s ≡ Ok (Some x, t) → (front : List X) → with_front front (collected (run_of part s)) ≡ with_front (front ++ x ∷ []) (collected (run_of part t))
collected-more part takes s x t e front = ap (λ r. with_front front (collected r)) (run_of-step part takes s ∙ ap (λ r. continued (run_of part) (next_of r)) e) ∙ front_more front x (run_of part t).items (run_of part t).end

pub collected-end : {X : Type 0} (part : Section → Reading (Option X)) → TakesBytes part → (s t : Section) → part s ≡ Ok (None, t) → collected (run_of part s) ≡ Ok ([], t)
collected-end part takes s t e = ap collected (run_of-step part takes s ∙ ap (λ r. continued (run_of part) (next_of r)) e)

pub collected-fault : {X : Type 0} (part : Section → Reading (Option X)) → TakesBytes part → (s : Section) (d : Error) → part s ≡ Err d → collected (run_of part s) ≡ Err d
collected-fault part takes s d e = ap collected (run_of-step part takes s ∙ ap (λ r. continued (run_of part) (next_of r)) e)

pub fold-more : {X A : Type 0} (part : Section → Reading (Option X)) → TakesBytes part → (f : A → X → Result A Error) (s : Section) (x : X) (t : Section) → part s ≡ Ok (Some x, t) → (a : A) → fold_of f a (run_of part s) ≡ (f a x >>= λ y. fold_of f y (run_of part t))
unfolding fold_run
fold-more part takes f s x t e a = ap (fold_of f a) (run_of-step part takes s ∙ ap (λ r. continued (run_of part) (next_of r)) e)

pub fold-end : {X A : Type 0} (part : Section → Reading (Option X)) → TakesBytes part → (f : A → X → Result A Error) (s t : Section) → part s ≡ Ok (None, t) → (a : A) → fold_of f a (run_of part s) ≡ Ok (a, t)
unfolding fold_run
fold-end part takes f s t e a = ap (fold_of f a) (run_of-step part takes s ∙ ap (λ r. continued (run_of part) (next_of r)) e)

pub fold-fault : {X A : Type 0} (part : Section → Reading (Option X)) → TakesBytes part → (f : A → X → Result A Error) (s : Section) (d : Error) → part s ≡ Err d → (a : A) → fold_of f a (run_of part s) ≡ Err d
unfolding fold_run
fold-fault part takes f s d e a = ap (fold_of f a) (run_of-step part takes s ∙ ap (λ r. continued (run_of part) (next_of r)) e)

-- what follows the parts of a run is less than it began with
pub collected-shorter : {X : Type 0} (part : Section → Reading (Option X)) → ((s : Section) → Shorter (length s.bytes) (part s)) → (n : ℕ) (s : Section) → Shorter (length s.bytes) (collected (run_within (λ t. next_of (part t)) n s))
unfolding run_within
collected-shorter part sh zero s = record { by = tt }
collected-shorter {X} part sh (suc n) s = at (collected-shorter part sh n) (part s) (sh s)
  where
    more : (x : X) (t : Section) (z : Result Section Error) (xs : List X) → length t.bytes < length s.bytes → Shorter (length t.bytes) (z >>= λ y. Ok (xs, y)) → Shorter (length s.bytes) (z >>= λ y. Ok (x ∷ xs, y))
    more x t (Ok y) xs lt h = record { by = omega (arith, h.by) }
    more x t (Err e) xs lt h = record { by = tt }

    at : ((t : Section) → Shorter (length t.bytes) (collected (run_within (λ u. next_of (part u)) n t))) → (r : Reading (Option X)) → Shorter (length s.bytes) r → Shorter (length s.bytes) (collected (continued (run_within (λ u. next_of (part u)) n) (next_of r)))
    at ih (Err e) h = record { by = tt }
    at ih (Ok (None, t)) h = record { by = h.by }
    at ih (Ok (Some x, t)) h = more x t (run_within (λ u. next_of (part u)) n t).end (run_within (λ u. next_of (part u)) n t).items h.by (ih t)

-- Small steps on what readings give.
use Rattle.gimli_read.proofs.Common.{◌≡◌, ℕ, ◌+◌, Bool, true, false, cond, ltb, List, length, drop, Option, Some, None, Result, Ok, Err, ◌==◌, ◌⊎◌, inl, inr, refl, ap, sym, ◌∙◌, arith, position, common_steps, Error, UnexpectedEof, Section, first, after, ◌>>=◌, ExactlyUnlessOomIf, split_at, skipped_at, ended_at, null_terminated_at}

-- a value that no step reads
abbrev pub done : {A : Type 0} → A → Result A Error
done x = Ok x

-- a test that did not refuse
pub guard_ok : {A : Type 0} (b : Bool) (d : Error) (x y : A) → cond b (Err d) (Ok x) ≡ Ok y → (b ≡ false) × (x ≡ y)
guard_ok true d x y e = absurd cc
guard_ok false d x y e = (refl, cc)

-- the value of a step that did not fail
pub bind_ok : {A B : Type 0} (r : Result A Error) (f : A → Result B Error) (y : B) → (r >>= f) ≡ Ok y → (x : A) × (r ≡ Ok x) × (f x ≡ Ok y)
bind_ok (Ok x) f y e = (x, refl, e)
bind_ok (Err d) f y e = absurd cc

-- which way a test went
pub branch_taken : {A : Type 0} (b : Bool) (x y z : A) → cond b x y ≡ z → ((b ≡ true) × (x ≡ z)) ⊎ ((b ≡ false) × (y ≡ z))
branch_taken true x y z e = inl (refl, e)
branch_taken false x y z e = inr (refl, e)

-- two equal answers leave the same
pub same_rest : {A B : Type 0} (x y : A × B) → done x ≡ done y → x.1 ≡ y.1
same_rest {A = A} {B = B} x y e = let k : x ≡ y = cc in ap (λ (p : A × B). p.1) k

-- two equal answers have the same value
pub same_value : {A B : Type 0} (x y : A × B) → done x ≡ done y → x.0 ≡ y.0
same_value {A = A} {B = B} x y e = let k : x ≡ y = cc in ap (λ (p : A × B). p.0) k

-- an answer for which memory may be taken where it may be taken for another
pub given_as : {X : Type 0} (may part : Bool) (r given same : Result X Error) → (part ≡ true → may ≡ true) → given ≡ same → ExactlyUnlessOomIf part (λ x. x) r same → ExactlyUnlessOomIf may (λ x. x) r given
given_as may part (Ok x) given same m h k = h ∙ k
given_as may part (Err e) given same m h k = λ n. h ∙ k (λ p. n (m p))

-- a part, and then bytes that nobody looks at
split_then_skip : (s part rest end : Section) (n k : ℕ) → split_at n s ≡ Ok (part, rest) → skipped_at k rest ≡ Ok (tt, end) → done {A = Section × Section} (first n s, after (n + k) s) ≡ done {A = Section × Section} (part, end)
split_then_skip s part rest end n k e f =
    let p = guard_ok (ltb (length s.bytes) n) UnexpectedEof (first n s, after n s) (part, rest) e in
    let q = guard_ok (ltb (length rest.bytes) k) UnexpectedEof (tt, after k rest) (tt, end) f in
    let part-is : first n s ≡ part = ap (λ (x : Section × Section). x.0) p.1 in
    let rest-is : after n s ≡ rest = ap (λ (x : Section × Section). x.1) p.1 in
    let end-is : after k rest ≡ end = ap (λ (x : Unit {0} × Section). x.1) q.1 in
    let joined : drop k (drop n s.bytes) ≡ drop (n + k) s.bytes = grind (arith, common_steps) in
    let same : after (n + k) s ≡ after k (after n s) = ap (λ (b : List ℕ). record s { bytes = b }) (sym joined) in
    ap (λ (x : Section × Section). done x) (pair_is (first n s) part (after (n + k) s) end part-is (same ∙ ap (after k) rest-is ∙ end-is))
  where
    pair_is : (a b c d : Section) → a ≡ b → c ≡ d → ◌≡◌ {A = Section × Section} (a, c) (b, d)
    pair_is a b c d g h = cc

-- a text up to its zero byte, and that byte
pub null_terminated_when : (s part rest end : Section) (n : ℕ) → position (λ b. b == 0) s.bytes ≡ Some n → split_at n s ≡ Ok (part, rest) → skipped_at 1 rest ≡ Ok (tt, end) → null_terminated_at s ≡ Ok (part, end)
null_terminated_when s part rest end n e f h = ap (ended_at s) e ∙ split_then_skip s part rest end n 1 f h

-- the end of a list is no part of it
pub end_is_none : {A : Type 0} (x : A) (s t : Section) → ◌≡◌ {A = Result (Option A × Section) Error} (Ok (None, s)) (Ok (Some x, t)) → ⊥
end_is_none {A = A} x s t e = let same : None ≡ Some x = same_value {A = Option A} {B = Section} (None, s) (Some x, t) e in cc

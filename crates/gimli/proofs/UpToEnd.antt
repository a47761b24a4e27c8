-- Parts one after another up to a section's end: what one reading takes from the parts that are left.
use Rattle.gimli.proofs.Common.{◌≡◌, ℕ, ◌<◌, ◌==◌, Bool, true, false, cond, List, [], ◌∷◌, length, drop, ltb, Option, Some, None, IfOk, IfSome, Result, Ok, Err, ap, sym, ◌∙◌, arith, length-drop, Error, UnexpectedEof, Section, after, Reading, ◌>>=◌, skipped_at, run_of, listed, Shorter, TakesBytes, end_is_none, same_rest, same_value, guard_ok}
use Rattle.gimli_read.specs.Yields.{next_given}
use Rattle.gimli_read.proofs.Listed.{listed_ends, listed_more, listed_fault}

-- the next part, or none at the section's end
abbrev pub up_to_end : {X : Type 0} → (Section → Reading X) → Section → Reading (Option X)
up_to_end item s = cond (length s.bytes == 0) (Ok (None, s)) (item s >>= λ x. Ok (Some x.0, x.1))

pub end_takes : {X : Type 0} (item : Section → Reading X) → ((s : Section) → Shorter (length s.bytes) (item s)) → TakesBytes (up_to_end item)
end_takes {X} item shorter s = at (length s.bytes == 0)
  where
    out : (r : Reading X) → Shorter (length s.bytes) r → IfOk {T = Option X × Section} (r >>= λ x. Ok (Some x.0, x.1)) (λ p. IfSome p.0 (λ _. length p.1.bytes < length s.bytes))
    out (Ok x) k = k.by
    out (Err e) k = tt

    at : (b : Bool) → IfOk {T = Option X × Section} (cond b (Ok (None, s)) (item s >>= λ x. Ok (Some x.0, x.1))) (λ p. IfSome p.0 (λ _. length p.1.bytes < length s.bytes))
    at true = tt
    at false = out _ (shorter s)

-- at the end nothing is read
end_stays : {X : Type 0} (item : Section → Reading X) (s t : Section) → up_to_end item s ≡ Ok (None, t) → s ≡ t
end_stays {X} item s t e = at (length s.bytes == 0) e
  where
    found : (r : Reading X) → ◌≡◌ {A = Reading (Option X)} (r >>= λ x. Ok (Some x.0, x.1)) (Ok (None, t)) → s ≡ t
    found (Ok x) k = absurd (end_is_none x.0 t x.1 (sym k))
    found (Err d) k = cc

    at : (b : Bool) → ◌≡◌ {A = Reading (Option X)} (cond b (Ok (None, s)) (item s >>= λ x. Ok (Some x.0, x.1))) (Ok (None, t)) → s ≡ t
    at true k = same_rest {A = Option X} {B = Section} (None, s) (None, t) k
    at false k = found (item s) k

-- what one reading takes from the parts that are left
pub end_gives : {X : Type 0} (item : Section → Reading X) → ((s : Section) → Shorter (length s.bytes) (item s)) → (s t : Section) (o : Option X) → up_to_end item s ≡ Ok (o, t) → next_given (listed (run_of (up_to_end item) s)) ≡ Ok (o, listed (run_of (up_to_end item) t))
end_gives {X} item shorter s t None e =
    let here = listed_ends (up_to_end item) (end_takes item shorter) s t e in
    let there : listed (run_of (up_to_end item) t) ≡ [] = ap (λ u. listed (run_of (up_to_end item) u)) (sym (end_stays item s t e)) ∙ here in
    ap next_given here ∙ ap (λ (xs : List (Result X Error)). Ok (None, xs)) (sym there)
end_gives item shorter s t (Some x) e = ap next_given (listed_more (up_to_end item) (end_takes item shorter) s t x e)

pub end_refuses : {X : Type 0} (item : Section → Reading X) → ((s : Section) → Shorter (length s.bytes) (item s)) → (s : Section) (d : Error) → up_to_end item s ≡ Err d → next_given (listed (run_of (up_to_end item) s)) ≡ Err d
end_refuses item shorter s d e = ap next_given (listed_fault (up_to_end item) (end_takes item shorter) s d e)

-- nothing is left of no bytes
pub end_is_empty : {X : Type 0} (item : Section → Reading X) → ((s : Section) → Shorter (length s.bytes) (item s)) → (s : Section) → length s.bytes ≡ 0 → listed (run_of (up_to_end item) s) ≡ []
end_is_empty item shorter s e = listed_ends (up_to_end item) (end_takes item shorter) s s (ap (λ (n : ℕ). cond (n == 0) (Ok (None, s)) (item s >>= λ x. Ok (Some x.0, x.1))) e)

-- after all bytes are passed over none is left
pub skipped_all : (s t : Section) (n : ℕ) (u : Unit {0}) → n ≡ length s.bytes → skipped_at n s ≡ Ok (u, t) → length t.bytes ≡ 0
skipped_all s t n u e h =
    let p = guard_ok (ltb (length s.bytes) n) UnexpectedEof (tt, after n s) (u, t) h in
    let k : after n s ≡ t = ap (λ (x : Unit {0} × Section). x.1) p.1 in
    let len : length (drop n s.bytes) ≡ length t.bytes = ap (λ (x : Section). length x.bytes) k in
    omega (arith, length-drop n s.bytes)

-- a list that gave one of its items is longer than what is left of it
pub left_fewer : {X : Type 0} (xs rest : List (Result X Error)) (x : X) → next_given xs ≡ Ok (Some x, rest) → length rest < length xs
left_fewer {X} [] rest x h = absurd (let none = same_value {A = Option X} {B = List (Result X Error)} (None, []) (Some x, rest) h in cc)
left_fewer {X} (Ok y ∷ ys) rest x h =
    let same = ap length (same_rest {A = Option X} {B = List (Result X Error)} (Some y, ys) (Some x, rest) h) in
    omega (arith, same)
left_fewer (Err e ∷ ys) rest x h = absurd cc

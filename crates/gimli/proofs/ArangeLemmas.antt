-- Sets of address ranges and their pairs (on specs/Aranges.antt).
use Rattle.gimli.proofs.Common.{◌≡◌, ℕ, ◌*◌, ◌<◌, Bool, true, false, cond, List, [], ◌∷◌, length, filter_map, Option, Some, None, IfOk, IfSome, Ok, Err, ltb, refl, ap, sym, ◌∙◌, arith, length-drop, nat_tests, Error, Section, after, Reading, ◌>>=◌, is_address_size, address_at, Run, next_of, continued, run_of, Shorter, shorter_bind, shorter_then, shorter_ok, initial_length-shorter, split-shorter, TakesBytes, address-shorter, end_is_none, same_rest, ArangeSet, arange_set_at, next_set_at, arange_sets_of, next_pair_at, arange_of, aranges_of}
use Rattle.gimli_read.specs.declared.range.Range.{Range}
use Rattle.gimli_read.specs.Yields.{next_given}
use Rattle.gimli_read.proofs.RunLemmas.{run_of-step}
use Rattle.gimli.proofs.UpToEnd.{end_gives, end_refuses, end_is_empty}

set_shorter : (s : Section) → Shorter (length s.bytes) (arange_set_at s)
unfolding arange_set_at
set_shorter s =
    shorter_bind (initial_length-shorter s) (λ n h. shorter_bind (split-shorter n.0.0 n.1) (λ u k.
    shorter_then _ (λ x. shorter_ok (omega arith))))

pub set_gives : (s t : Section) (o : Option ArangeSet) → next_set_at s ≡ Ok (o, t) → next_given (arange_sets_of s) ≡ Ok (o, arange_sets_of t)
unfolding next_set_at
set_gives s t o e = end_gives arange_set_at set_shorter s t o e

pub set_refuses : (s : Section) (d : Error) → next_set_at s ≡ Err d → next_given (arange_sets_of s) ≡ Err d
unfolding next_set_at
set_refuses s d e = end_refuses arange_set_at set_shorter s d e

pub no_sets : (s : Section) → length s.bytes ≡ 0 → arange_sets_of s ≡ []
unfolding next_set_at
no_sets s e = end_is_empty arange_set_at set_shorter s e

pub pair_takes : (size : ℕ) → TakesBytes (next_pair_at size)
unfolding next_pair_at
pair_takes size s = at (ltb (length s.bytes) (2 * size))
  where
    pair : Shorter {A = Option (ℕ × ℕ)} (length s.bytes) (address_at size s >>= λ a. address_at size a.1 >>= λ n. Ok (Some (a.0, n.0), n.1))
    pair = shorter_bind (address-shorter size s) (λ a h. shorter_bind (address-shorter size a.1) (λ n k. shorter_ok (omega arith)))

    some : (r : Reading (Option (ℕ × ℕ))) → IfOk r (λ x. length x.1.bytes < length s.bytes) → IfOk r (λ p. IfSome p.0 (λ _. length p.1.bytes < length s.bytes))
    some (Ok (Some x, t)) k = k
    some (Ok (None, t)) k = tt
    some (Err e) k = tt

    at : (b : Bool) → IfOk {T = Option (ℕ × ℕ) × Section} (cond b (Ok (None, s)) (address_at size s >>= λ a. address_at size a.1 >>= λ n. Ok (Some (a.0, n.0), n.1))) (λ p. IfSome p.0 (λ _. length p.1.bytes < length s.bytes))
    at true = tt
    at false = some _ pair.by

-- the ranges that a step leaves
ranges_after : ℕ → Reading (Option (ℕ × ℕ)) → List Range
ranges_after size r = filter_map (arange_of size) (continued (run_of (next_pair_at size)) (next_of r)).items

ranges_step : (size : ℕ) (s : Section) → aranges_of size s ≡ filter_map (arange_of size) (continued (run_of (next_pair_at size)) (next_of (next_pair_at size s))).items
ranges_step size s = ap (λ (r : Run (ℕ × ℕ) Section). filter_map (arange_of size) r.items) (run_of-step (next_pair_at size) (pair_takes size) s)

step_is : (size : ℕ) (s : Section) (r : Reading (Option (ℕ × ℕ))) → next_pair_at size s ≡ r → aranges_of size s ≡ filter_map (arange_of size) (continued (run_of (next_pair_at size)) (next_of r)).items
step_is size s r e = ranges_step size s ∙ ap (λ (q : Reading (Option (ℕ × ℕ))). filter_map (arange_of size) (continued (run_of (next_pair_at size)) (next_of q)).items) e

pub range_given : (size : ℕ) (s t : Section) (p : ℕ × ℕ) (r : Range) → next_pair_at size s ≡ Ok (Some p, t) → arange_of size p ≡ Some r → aranges_of size s ≡ r ∷ aranges_of size t
range_given size s t p r e h = step_is size s (Ok (Some p, t)) e ∙ rw h refl

pub pair_passed : (size : ℕ) (s t : Section) (p : ℕ × ℕ) → next_pair_at size s ≡ Ok (Some p, t) → arange_of size p ≡ None → aranges_of size s ≡ aranges_of size t
pair_passed size s t p e h = step_is size s (Ok (Some p, t)) e ∙ rw h refl

pub pairs_end : (size : ℕ) (s t : Section) → next_pair_at size s ≡ Ok (None, t) → aranges_of size s ≡ []
pairs_end size s t e = step_is size s (Ok (None, t)) e

-- where an address has a right size and bytes enough are there, a pair is never refused
pub pair_never : (size : ℕ) (s : Section) (e : Error) → is_address_size size ≡ true → next_pair_at size s ≡ Err e → ⊥
unfolding next_pair_at
pair_never size s e known h = at (ltb (length s.bytes) (2 * size)) refl (ltb (length s.bytes) size) refl (ltb (length (after size s).bytes) size) refl h
  where
    at : (b : Bool) → ltb (length s.bytes) (2 * size) ≡ b → (c : Bool) → ltb (length s.bytes) size ≡ c → (d : Bool) → ltb (length (after size s).bytes) size ≡ d → next_pair_at size s ≡ Err e → ⊥
    at true p c q d r k = absurd (let t = rw p at k in cc)
    at false p true q d r k = absurd (grind (arith, nat_tests))
    at false p false q true r k = absurd (let n = length-drop size s.bytes in grind (arith, nat_tests))
    at false p false q false r k = absurd (let t = rw (p, known, q, r) at k in cc)

pub address_has_bytes : (size : ℕ) → is_address_size size ≡ true → 0 < size
address_has_bytes size h = grind (arith, nat_tests)

pub none_after : (size : ℕ) (s t : Section) → next_pair_at size s ≡ Ok (None, t) → aranges_of size t ≡ []
unfolding next_pair_at
none_after size s t e = at (ltb (length s.bytes) (2 * size)) refl
  where
    some : (r : Reading ℕ) (a : ℕ) → ◌≡◌ {A = Reading (Option (ℕ × ℕ))} (r >>= λ n. Ok (Some (a, n.0), n.1)) (Ok (None, t)) → aranges_of size t ≡ []
    some (Ok n) a k = absurd (end_is_none (a, n.0) t n.1 (sym k))
    some (Err d) a k = absurd cc

    pair : (r : Reading ℕ) → ◌≡◌ {A = Reading (Option (ℕ × ℕ))} (r >>= λ a. address_at size a.1 >>= λ n. Ok (Some (a.0, n.0), n.1)) (Ok (None, t)) → aranges_of size t ≡ []
    pair (Ok a) k = some (address_at size a.1) a.0 k
    pair (Err d) k = absurd cc

    at : (b : Bool) → ltb (length s.bytes) (2 * size) ≡ b → aranges_of size t ≡ []
    at true p =
        let k : ◌≡◌ {A = Reading (Option (ℕ × ℕ))} (Ok (None, s)) (Ok (None, t)) = rw p at e in
        let same : s ≡ t = same_rest {A = Option (ℕ × ℕ)} {B = Section} (None, s) (None, t) k in
        ap (aranges_of size) (sym same) ∙ pairs_end size s t e
    at false p = pair (address_at size s) (rw p at e)

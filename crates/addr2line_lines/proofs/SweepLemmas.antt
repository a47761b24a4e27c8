-- A walk that cuts ranges into segments (on specs/Sweep.antt).
use Rattle.addr2line_lines.proofs.Common.{ℕ, ◌≡◌, ◌+◌, ◌*◌, ◌<◌, ◌≤◌, ◌⊎◌, Bool, true, false, cond, max, nat_le, nat_lt, List, [], ◌∷◌, ◌++◌, length, slice_index_or, ◌↔◌, Option, Some, None, arith, inl, inr, ◌∙◌, ap, sym, subst, refl, suc, All, Contains, IsNonDecreasingBy, IsPermutation, IsSome, nat_tests, get_or_default, All-cons, All-tail, All-weaker, Contains-get_or, All-permutation, Contains-permutation, length_permutation, FunctionAddress, RunningRange, address_begin, address_end, address_function, address_holds, first_end, running_end, as_running, segment_to, AreApart, AreSegments, AreSegmentsBelow, IsSegment, le-ltb, lt-ltb}
use Rattle.std.specs.BinaryHeap.{IsHeap, PopsGreatest}
use Rattle.std.specs.Option.{IfSome}
use Rattle.std.proofs.lemmas.List.{append-nil, length-append}
use Rattle.addr2line_lines.specs.Sweep.{running_cmp, is_outdone, IsBegunFrom, IsGreatestFirst, IsRunningRange, IsSwept, SomeIsNoLonger}
use Rattle.addr2line_lines.specs.Shortest.{IsNoLonger}
use Rattle.addr2line_lines.proofs.SegmentLemmas.{has_first, has_later, first_or_later, cut_more, segment_of}
use Rattle.addr2line_lines.proofs.Facts.{from_inside}

-- the walk goes on to an address
module _ (addresses : List FunctionAddress) (next at until : ℕ) (segments : List FunctionAddress) where
  -- an address that no range holds, since none runs there
  none_runs : IsSwept addresses next at [] segments → IsBegunFrom addresses next until → (p : ℕ) → at ≤ p → p < until → All (λ a. address_holds p a ≡ false) addresses
  none_runs h begun p low high j d k = by_cases (address_holds p (slice_index_or addresses j d)) refl
    where
      by_place : (b : Bool) → nat_lt j next ≡ b → address_holds p (slice_index_or addresses j d) ≡ true → address_holds p (slice_index_or addresses j d) ≡ false
      by_place true e held = let c = (h.still j d (grind (arith, nat_tests)) k p low held).runs in absurd (let l = c.1 in omega arith)
      by_place false e held =
          let late = begun j d (grind (arith, nat_tests)) k in
          let between = (from_inside (slice_index_or addresses j d).range.begin (slice_index_or addresses j d).range.end p held).0 in
          absurd (omega arith)

      by_cases : (b : Bool) → address_holds p (slice_index_or addresses j d) ≡ b → address_holds p (slice_index_or addresses j d) ≡ false
      by_cases true e = by_place (nat_lt j next) refl e
      by_cases false e = e

  later_runs : (running : List RunningRange) → IsSwept addresses next at running segments → at ≤ until → (s : List FunctionAddress) → AreSegmentsBelow addresses s until → IsSwept addresses next until running s
  later_runs running h l s cut = record {
    heap = h.heap;
    cut = cut;
    only = All-weaker (IsRunningRange addresses at) (IsRunningRange addresses until) (λ o r. (let b = r.begun in record { address = r.address; listed = r.listed; begun = omega arith; is = r.is })) running h.only;
    still = λ j d k m p low held. h.still j d k m p (omega arith) held;
  }

  -- none of the running ranges ends before it
  abbrev pub NoneEnds : List RunningRange → Type 0
  NoneEnds [] = Unit {0}
  NoneEnds (o ∷ running) = until ≤ running_end o

  on : (running : List RunningRange) → IsSwept addresses next at running segments → IsBegunFrom addresses next until → NoneEnds running → IsGreatestFirst running
      → at < until → IsSwept addresses next until running (segments ++ segment_to until at running)
  on [] h begun fits top l =
      later_runs [] h (omega arith) (segments ++ []) (record {
        apart = subst AreApart (sym (append-nil segments)) h.cut.apart;
        below = subst (All (λ s. s.range.end ≤ until)) (sym (append-nil segments)) (All-weaker (λ s. s.range.end ≤ at) (λ s. s.range.end ≤ until) (λ s b. omega arith) segments h.cut.below);
        each = subst (All (IsSegment addresses)) (sym (append-nil segments)) h.cut.each;
        others = λ p high all. by_place p high (subst (All (λ s. address_holds p s ≡ false)) (append-nil segments) all) (nat_lt p at) refl;
      })
    where
      by_place : (p : ℕ) → p < until → All (λ s. address_holds p s ≡ false) segments → (b : Bool) → nat_lt p at ≡ b → All (λ a. address_holds p a ≡ false) addresses
      by_place p high all true e = h.cut.others p (grind (arith, nat_tests)) all
      by_place p high all false e = none_runs h begun p (grind (arith, nat_tests)) high
  on (o ∷ running) h begun fits top l =
      let s : FunctionAddress = record { range = record { begin = at; end = until }; function = o.0.1 } in
      let new = cut_more addresses segments at s h.cut refl (segment_of addresses next at segments o running until h begun l fits (top h.heap)) in
      let is : segment_to until at (o ∷ running) ≡ s ∷ [] = ap (λ b. cond b (s ∷ []) []) (lt-ltb at until l) in
      later_runs (o ∷ running) h (omega arith) (segments ++ segment_to until at (o ∷ running)) (subst (λ ss. AreSegmentsBelow addresses (segments ++ ss) until) (sym is) new)

  -- the walk goes on, or stands there already
  pub advanced : (running : List RunningRange) → IsSwept addresses next at running segments → IsBegunFrom addresses next until → NoneEnds running → IsGreatestFirst running
      → IsSwept addresses next (max at until) running (segments ++ segment_to until at running)
  advanced running h begun fits top = by_cases (nat_lt at until) refl
    where
      stays : (running : List RunningRange) → until ≤ at → segments ++ segment_to until at running ≡ segments
      stays [] l = append-nil segments
      stays (o ∷ running) l = ap (λ b. segments ++ cond b (record { range = record { begin = at; end = until }; function = o.0.1 } ∷ []) []) (le-ltb at until l) ∙ append-nil segments

      by_cases : (b : Bool) → nat_lt at until ≡ b → IsSwept addresses next (max at until) running (segments ++ segment_to until at running)
      by_cases true e =
          let l : at < until = grind (arith, nat_tests) in
          let m : max at until ≡ until = omega arith in
          subst (λ n. IsSwept addresses next n running (segments ++ segment_to until at running)) (sym m) (on running h begun fits top l)
      by_cases false e =
          let l : until ≤ at = grind (arith, nat_tests) in
          let m : max at until ≡ at = omega arith in
          subst (λ n. IsSwept addresses next n running (segments ++ segment_to until at running)) (sym m) (subst (λ ss. IsSwept addresses next at running ss) (sym (stays running l)) h)

-- the walk as it went on
pub advanced_to : (addresses : List FunctionAddress) (next at until : ℕ) (segments : List FunctionAddress) (running : List RunningRange) (at' : ℕ) (segments' : List FunctionAddress) (running' : List RunningRange)
    → at' ≡ max at until → segments' ≡ segments ++ segment_to until at running → running' ≡ running
    → IsSwept addresses next at running segments → IsBegunFrom addresses next until → NoneEnds addresses next at until segments running → IsGreatestFirst running → IsSwept addresses next at' running' segments'
advanced_to addresses next at until segments running at' segments' running' e f g h begun fits top =
    subst (λ n. IsSwept addresses next n running' segments') (sym e) (subst (λ rs. IsSwept addresses next (max at until) rs segments') (sym g) (subst (λ ss. IsSwept addresses next (max at until) running ss) (sym f) (advanced addresses next at until segments running h begun fits top)))

-- no range that runs ends by a limit
pub none_ends : (addresses : List FunctionAddress) (next at until : ℕ) (segments : List FunctionAddress) (running : List RunningRange) → first_end until running ≡ None → NoneEnds addresses next at until segments running
none_ends addresses next at until segments [] h = tt
none_ends addresses next at until segments (o ∷ running) h = by_cases (nat_le (running_end o) until) refl
  where
    by_cases : (b : Bool) → nat_le (running_end o) until ≡ b → until ≤ running_end o
    by_cases true e = let f : ◌≡◌ {A = Option ℕ} (Some (running_end o)) None = sym (ap (λ b. cond b (Some (running_end o)) None) e) ∙ h in absurd cc
    by_cases false e = grind (arith, nat_tests)

-- the first range that runs ends there
pub first_ends : (limit end : ℕ) (running : List RunningRange) → first_end limit running ≡ Some end → (o : RunningRange) × (rest : List RunningRange) × (running ≡ o ∷ rest) × (running_end o ≡ end) × (end ≤ limit)
first_ends limit end [] h = absurd cc
first_ends limit end (o ∷ running) h = by_cases (nat_le (running_end o) limit) refl
  where
    by_cases : (b : Bool) → nat_le (running_end o) limit ≡ b → (p : RunningRange) × (rest : List RunningRange) × (o ∷ running ≡ p ∷ rest) × (running_end p ≡ end) × (end ≤ limit)
    by_cases true e =
        let f : ◌≡◌ {A = Option ℕ} (Some (running_end o)) (Some end) = sym (ap (λ b. cond b (Some (running_end o)) None) e) ∙ h in
        let same : running_end o ≡ end = cc in
        let l : running_end o ≤ limit = grind (arith, nat_tests) in
        (o, running, refl, same, omega arith)
    by_cases false e = let f : ◌≡◌ {A = Option ℕ} None (Some end) = sym (ap (λ b. cond b (Some (running_end o)) None) e) ∙ h in absurd cc

pub fits_first : (addresses : List FunctionAddress) (next at until : ℕ) (segments : List FunctionAddress) (limit : ℕ) (running : List RunningRange) → first_end limit running ≡ Some until → NoneEnds addresses next at until segments running
fits_first addresses next at until segments limit [] h = tt
fits_first addresses next at until segments limit (o ∷ running) h =
    let f = first_ends limit until (o ∷ running) h in
    let cons : o ∷ running ≡ f.0 ∷ f.1 = f.2 in
    let same : o ≡ f.0 = cc in
    let e : running_end o ≡ running_end f.0 = ap running_end same in
    let g : running_end f.0 ≡ until = f.3 in
    omega arith

-- ranges begin past an address where they begin past a greater one
pub begun_before : (addresses : List FunctionAddress) (next limit until : ℕ) → until ≤ limit → IsBegunFrom addresses next limit → IsBegunFrom addresses next until
begun_before addresses next limit until l h j d k m = let b = h j d k m in omega arith

-- one segment more at most
pub one_segment : (until at : ℕ) (running : List RunningRange) → length (segment_to until at running) ≤ 1
one_segment until at [] = omega arith
one_segment until at (o ∷ running) = by_cases (nat_lt at until)
  where
    by_cases : (b : Bool) → length {A = FunctionAddress} (cond b (record { range = record { begin = at; end = until }; function = o.0.1 } ∷ []) []) ≤ 1
    by_cases true = omega arith
    by_cases false = omega arith

pub no_more_than_one : (until at : ℕ) (running : List RunningRange) (segments more : List FunctionAddress) → more ≡ segments ++ segment_to until at running → length more ≤ length segments + 1
no_more_than_one until at running segments more e =
    let one = one_segment until at running in
    let n : length more ≡ length segments + length (segment_to until at running) = ap length e ∙ length-append segments (segment_to until at running) in
    omega arith

-- where the range that is no longer runs still
still_runs : (running more : List RunningRange) (p : ℕ) (a : FunctionAddress) (some : SomeIsNoLonger running p a) → Contains more (as_running some.other) → SomeIsNoLonger more p a
still_runs running more p a some runs = record { other = some.other; runs = runs; ends_past = some.ends_past; no_longer = some.no_longer }

-- a range that ended runs no more
pub ended : (addresses : List FunctionAddress) (next at : ℕ) (running rest : List RunningRange) (segments : List FunctionAddress) (o : RunningRange) → IsSwept addresses next at running segments → running_end o ≤ at → IsPermutation running (o ∷ rest) → IsHeap running_cmp rest
    → IsSwept addresses next at rest segments
ended addresses next at running rest segments o h past moved heap = record {
  heap = heap;
  cut = h.cut;
  only = All-tail (IsRunningRange addresses at) o rest (All-permutation (IsRunningRange addresses at) running (o ∷ rest) moved h.only);
  still = λ j d k m p low held. (
      let some = h.still j d k m p low held in
      still_runs running rest p (slice_index_or addresses j d) some (others some.other p low some.ends_past (first_or_later rest o (as_running some.other) (Contains-permutation running (o ∷ rest) (as_running some.other) moved some.runs))));
}
  where
    others : (x : FunctionAddress) (p : ℕ) → at ≤ p → p < x.range.end → (o ≡ as_running x) ⊎ Contains rest (as_running x) → Contains rest (as_running x)
    others x p low high c = elim c [
      | inl e ↦ (let same : running_end o ≡ x.range.end = ap running_end e in absurd (omega arith))
      | inr k ↦ k
    ]

-- a range at the place or before it, and not before it
last_one : (addresses : List FunctionAddress) (next j : ℕ) (a d e : FunctionAddress) → next < length addresses → slice_index_or addresses next d ≡ a → j < next + 1 → nat_lt j next ≡ false → slice_index_or addresses j e ≡ a
last_one addresses next j a d e inside_it is k t =
    let same : j ≡ next = (let u : next ≤ j = grind (arith, nat_tests) in omega arith) in
    ap (λ i. slice_index_or addresses i e) same ∙ get_or_default addresses next e d inside_it ∙ is

-- the first running range outdoes another
outdone_is : (x y : RunningRange) → is_outdone y (x ∷ []) ≡ true → ((x.0.0 < y.0.0) ⊎ ((x.0.0 ≡ y.0.0) × (x.0.1 ≤ y.0.1))) × (running_end y ≤ running_end x)
outdone_is x y h = (grind (arith, nat_tests), grind (arith, nat_tests))

-- the next range runs
pub entered : (addresses : List FunctionAddress) (next at : ℕ) (running more : List RunningRange) (segments : List FunctionAddress) (a d : FunctionAddress) → next < length addresses → slice_index_or addresses next d ≡ a → IsSwept addresses next at running segments → a.range.begin ≤ at
    → IsPermutation (as_running a ∷ running) more → IsHeap running_cmp more → IsSwept addresses (next + 1) at more segments
entered addresses next at running more segments a d inside_it is h begun moved heap = record {
  heap = heap;
  cut = h.cut;
  only = All-permutation (IsRunningRange addresses at) (as_running a ∷ running) more moved (All-cons (IsRunningRange addresses at) (as_running a) running
      (record { address = a; listed = subst (Contains addresses) is (Contains-get_or addresses next d inside_it); begun = begun; is = refl }) h.only);
  still = λ j e k m p low held. by_place j e k m p low held (nat_lt j next) refl;
}
  where
    by_place : (j : ℕ) (e : FunctionAddress) → j < next + 1 → j < length addresses → (p : ℕ) → at ≤ p → address_holds p (slice_index_or addresses j e) ≡ true → (b : Bool) → nat_lt j next ≡ b → SomeIsNoLonger more p (slice_index_or addresses j e)
    by_place j e k m p low held true t =
        let some = h.still j e (grind (arith, nat_tests)) m p low held in
        still_runs running more p (slice_index_or addresses j e) some (Contains-permutation (as_running a ∷ running) more (as_running some.other) moved (has_later running (as_running a) (as_running some.other) some.runs))
    by_place j e k m p low held false t =
        let here : a ≡ slice_index_or addresses j e = sym (last_one addresses next j a d e inside_it is k t) in
        record {
          other = a;
          runs = Contains-permutation (as_running a ∷ running) more (as_running a) moved (has_first running (as_running a));
          ends_past = subst (λ x. p < x.range.end) (sym here) (from_inside _ _ p held).1;
          no_longer = subst (IsNoLonger address_begin address_end address_function a) here (inr (refl, omega arith));
        }

-- a range that is outdone is passed over
pub passed_over : (addresses : List FunctionAddress) (next at : ℕ) (running : List RunningRange) (segments : List FunctionAddress) (a d : FunctionAddress) → next < length addresses → slice_index_or addresses next d ≡ a → is_outdone (as_running a) running ≡ true
    → IsSwept addresses next at running segments → IsSwept addresses (next + 1) at running segments
passed_over addresses next at running segments a d inside_it is outdone h = record {
  heap = h.heap;
  cut = h.cut;
  only = h.only;
  still = λ j e k m p low held. by_place j e k m p low held (nat_lt j next) refl;
}
  where
    by_first : (running : List RunningRange) (p : ℕ) → All (IsRunningRange addresses at) running → is_outdone (as_running a) running ≡ true → p < a.range.end → SomeIsNoLonger running p a
    by_first [] p only outdone high = absurd cc
    by_first (o ∷ rest) p only outdone high =
        let first = only 0 o (omega arith) in
        let x = first.address in
        let tests = outdone_is (as_running x) (as_running a) (ap (λ r. is_outdone (as_running a) (r ∷ rest)) (sym first.is) ∙ outdone) in
        record {
          other = x;
          runs = subst (Contains (o ∷ rest)) first.is (has_first rest o);
          ends_past = (let l = tests.1 in omega arith);
          no_longer = tests.0;
        }

    by_place : (j : ℕ) (e : FunctionAddress) → j < next + 1 → j < length addresses → (p : ℕ) → at ≤ p → address_holds p (slice_index_or addresses j e) ≡ true → (b : Bool) → nat_lt j next ≡ b → SomeIsNoLonger running p (slice_index_or addresses j e)
    by_place j e k m p low held true t = h.still j e (grind (arith, nat_tests)) m p low held
    by_place j e k m p low held false t =
        let here : a ≡ slice_index_or addresses j e = sym (last_one addresses next j a d e inside_it is k t) in
        subst (SomeIsNoLonger running p) here (by_first running p h.only outdone (subst (λ x. p < x.range.end) (sym here) (from_inside _ _ p held).1))

-- once no range runs, all are cut
pub all_cut : (addresses : List FunctionAddress) (next at : ℕ) (running : List RunningRange) (segments : List FunctionAddress) → length addresses ≤ next → running ≡ [] → IsSwept addresses next at running segments → length segments ≤ 2 * length addresses → AreSegments addresses segments
all_cut addresses next at running segments all none h few = record {
  apart = h.cut.apart;
  few = few;
  each = h.cut.each;
  others = λ p out. by_place p out (nat_lt p at) refl;
}
  where
    by_cases : (j : ℕ) (d : FunctionAddress) → j < length addresses → (p : ℕ) → at ≤ p → (b : Bool) → address_holds p (slice_index_or addresses j d) ≡ b → address_holds p (slice_index_or addresses j d) ≡ false
    by_cases j d k p low true e = let some = h.still j d (omega arith) k p low e in let c = subst (λ xs. Contains xs (as_running some.other)) none some.runs in absurd (let l = c.1 in omega arith)
    by_cases j d k p low false e = e

    by_place : (p : ℕ) → All (λ s. address_holds p s ≡ false) segments → (b : Bool) → nat_lt p at ≡ b → All (λ a. address_holds p a ≡ false) addresses
    by_place p out true e = h.cut.others p (grind (arith, nat_tests)) out
    by_place p out false e = λ j d k. by_cases j d k p (grind (arith, nat_tests)) (address_holds p (slice_index_or addresses j d)) refl

-- what a heap of running ranges gives up is the first, which ended
pub popped : (addresses : List FunctionAddress) (next at : ℕ) (running rest : List RunningRange) (segments : List FunctionAddress) (limit end n : ℕ) (r : Option RunningRange) → n ≡ length running → IsSome r ↔ (0 < n) → first_end limit running ≡ Some end → end ≤ at
    → IfSome r (λ x. x ≡ slice_index_or running 0 x) → IfSome r (λ x. IsPermutation running (x ∷ rest)) → IfSome r (λ x. PopsGreatest running_cmp running x rest) → IsSwept addresses next at running segments → IsSwept addresses next at rest segments
popped addresses next at running rest segments limit end n None e some f l top moved heap h =
    let u = first_ends limit end running f in
    let m : length running ≡ suc (length u.1) = ap length u.2 in
    let z : false ≡ true = some.1 (omega arith) in
    absurd cc
popped addresses next at running rest segments limit end n (Some x) e some f l top moved heap h =
    let u = first_ends limit end running f in
    let is : x ≡ u.0 = top ∙ ap (λ xs. slice_index_or xs 0 x) u.2 in
    let same : running_end x ≡ running_end u.0 = ap running_end is in
    let ends : running_end u.0 ≡ end = u.3 in
    ended addresses next at running rest segments x h (omega arith) moved (heap h.heap).0

-- and one fewer is left
pub popped_few : (running rest : List RunningRange) (limit end n : ℕ) (r : Option RunningRange) → n ≡ length running → IsSome r ↔ (0 < n) → first_end limit running ≡ Some end → IfSome r (λ x. IsPermutation running (x ∷ rest)) → length rest + 1 ≡ length running
popped_few running rest limit end n None e some f moved =
    let u = first_ends limit end running f in
    let m : length running ≡ suc (length u.1) = ap length u.2 in
    let z : false ≡ true = some.1 (omega arith) in
    absurd cc
popped_few running rest limit end n (Some x) e some f moved = let m = length_permutation running (x ∷ rest) moved in omega arith

pub none_first : (limit end : ℕ) (running : List RunningRange) → running ≡ [] → first_end limit running ≡ Some end → ⊥
none_first limit end running e h = let f : ◌≡◌ {A = Option ℕ} None (Some end) = sym (ap (first_end limit) e) ∙ h in absurd cc

-- ranges in order of begin begin past each one before
pub begun_from : (addresses : List FunctionAddress) (next : ℕ) (e : FunctionAddress) → IsNonDecreasingBy address_begin addresses → next < length addresses → IsBegunFrom addresses next (slice_index_or addresses next e).range.begin
begun_from addresses next e up l j d low m =
    let le = up next j e low m in
    let f : (slice_index_or addresses j e).range.begin ≡ (slice_index_or addresses j d).range.begin = ap address_begin (get_or_default addresses j e d m) in
    omega arith

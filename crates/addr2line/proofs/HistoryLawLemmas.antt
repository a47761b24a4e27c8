-- The units that a lookup waits for differ (on specs/HistoryLaws.antt).
use Rattle.addr2line.proofs.Common.{◌≡◌, ◌≢◌, inl, inr, ℕ, ◌==◌, Bool, true, false, not, List, [], ◌∷◌, filter, length, slice_get, Option, Some, None, Result, Ok, Err, refl, sym, ap, subst, ◌∙◌, if◌then◌else◌, set, length-map, length-set, Error, ◌>>=◌, Sections, UnitRecord, OnFault, cover, LookupStop, Waits, Finds, FindsNothing, answer_of, main_scope, with_answer, is_of_other, load_of_number, loads_along, UnitIndex, index_units, IndexedUnit, unit_records, FirstAnswers, SplitLoad, decided_answer, others_left, waits_listed, answered, Given, Answered, Abandoned, where_waiting, loads_at, lookup_stop, stop_in}
use Rattle.std.proofs.lemmas.Bool.{eq-eqb}
use Rattle.std.specs.List.{AllByRecursion}
use Rattle.addr2line_units.specs.LoadsLaws.{IsListed}
use Rattle.addr2line_units.specs.LoadsLaws as laws
use Rattle.addr2line.specs.HistoryLaws.{AreDistinct, WaitsForEachOnce, waited_for}

-- what is listed among the loads of other units
listed_other : (n k : ℕ) (loads : List SplitLoad) → IsListed k (filter (is_of_other n) loads) → (k ≢ n) × IsListed k loads
listed_other n k [] h = absurd h
listed_other n k (load ∷ loads) h = by (is_of_other n load) refl (λ q. listed_other n k loads q) h
  where
    own : load.unit ≡ n → is_of_other n load ≡ false
    own e = ap (λ j. not (j == n)) e ∙ ap not (eq-eqb n n refl)

    by : (b : Bool) → is_of_other n load ≡ b → (IsListed k (filter (is_of_other n) loads) → (k ≢ n) × IsListed k loads) → IsListed k (if b then load ∷ filter (is_of_other n) loads else filter (is_of_other n) loads) → (k ≢ n) × IsListed k (load ∷ loads)
    by true e further (inl q) = (λ same. let f : ◌≡◌ {A = Bool} true false = sym e ∙ own (q ∙ same) in cc, inl q)
    by true e further (inr q) = let r = further q in (r.0, inr r.1)
    by false e further q = let r = further q in (r.0, inr r.1)

-- numbers of units that are listed among the loads of other units
all_other : (n : ℕ) (loads : List SplitLoad) (ks : List ℕ) → AllByRecursion (λ k. IsListed k (filter (is_of_other n) loads)) ks
    → AllByRecursion (λ k. k ≢ n) ks × AllByRecursion (λ k. IsListed k loads) ks
all_other n loads [] h = (tt, tt)
all_other n loads (k ∷ ks) h =
    let one = listed_other n k loads h.0 in
    let rest = all_other n loads ks h.1 in
    ((one.0, rest.0), (one.1, rest.1))

module _ (faults : OnFault) (d : Sections) (m : UnitIndex) (probe : ℕ) (e : index_units d ≡ Ok m) where
  abbrev us : List UnitRecord
  us = unit_records m.units

  abbrev listed : FirstAnswers → List SplitLoad
  listed answers = laws.loads_of d us answers (cover probe m.ranges)

  pub loads_are : (answers : FirstAnswers) → loads_at d answers probe ≡ listed answers
  loads_are answers = ap (λ (r : Result UnitIndex Error). elim r [ Err x ↦ [] | Ok i ↦ loads_along (load_of_number d (unit_records i.units) answers) (cover probe i.ranges) ]) e

  pub answers_are : (answers : FirstAnswers) (n : ℕ) (x : Option Sections) → answered d answers n x ≡ with_answer d us answers n x
  answers_are answers n x = ap (λ (r : Result UnitIndex Error). elim r [ Err f ↦ answers | Ok i ↦ with_answer d (unit_records i.units) answers n x ]) e

  pub waits_for_listed : (answers : FirstAnswers) (n : ℕ) → lookup_stop faults d answers probe ≡ Ok (Waits n) → IsListed n (listed answers)
  waits_for_listed answers n w =
      let stop : stop_in faults d answers probe m ≡ Ok (Waits n) = sym (ap (λ r. r >>= stop_in faults d answers probe) e) ∙ w in
      (waits_listed faults (main_scope d m) m.units answers probe n (cover probe m.ranges) stop).1

  pub as_many : (answers : FirstAnswers) (n : ℕ) (x : Option Sections) → length (with_answer d us answers n x) ≡ length answers
  as_many answers n x = by (slice_get us n)
    where
      by : (o : Option UnitRecord) → length {A = Option (Option Sections)} (elim o [ None ↦ answers | Some u ↦ set answers n (decided_answer d u (answer_of answers n) x) ]) ≡ length answers
      by None = refl
      by (Some u) = length-set answers n _

  abbrev Once : FirstAnswers → List ℕ → Type 0
  Once answers ns = AreDistinct ns × AllByRecursion (λ n. IsListed n (listed answers)) ns

  -- one more unit
  once_more : (answers : FirstAnswers) (n : ℕ) (x : Option Sections) (ns : List ℕ) → length us ≡ length answers → IsListed n (listed answers) → Once (answered d answers n x) ns → Once answers (n ∷ ns)
  once_more answers n x ns many there rest =
      let left : listed (answered d answers n x) ≡ filter (is_of_other n) (listed answers) = ap listed (answers_are answers n x) ∙ others_left d us answers n x (cover probe m.ranges) many in
      let others = all_other n (listed answers) ns (subst (λ ls. AllByRecursion (λ k. IsListed k ls) ns) left rest.1) in
      ((others.0, rest.0), (there, others.1))

  by_stop : (answers : FirstAnswers) (f : ℕ → List ℕ) → ((n : ℕ) → lookup_stop faults d answers probe ≡ Ok (Waits n) → Once answers (f n)) → (s : Result LookupStop Error) → lookup_stop faults d answers probe ≡ s → Once answers (where_waiting f [] s)
  by_stop answers f h (Ok (Waits n)) is = h n is
  by_stop answers f h (Ok (Finds n frames)) is = (tt, tt)
  by_stop answers f h (Ok FindsNothing) is = (tt, tt)
  by_stop answers f h (Err x) is = (tt, tt)

  once : (answers : FirstAnswers) (given : List Given) → length us ≡ length answers → Once answers (waited_for faults d probe answers given)
  once answers [] many = by_stop answers (λ n. n ∷ []) (λ n w. ((tt, tt), (waits_for_listed answers n w, tt))) (lookup_stop faults d answers probe) refl
  once answers (Abandoned ∷ given) many = by_stop answers (λ n. n ∷ []) (λ n w. ((tt, tt), (waits_for_listed answers n w, tt))) (lookup_stop faults d answers probe) refl
  once answers (Answered x ∷ given) many = by_stop answers (λ n. n ∷ waited_for faults d probe (answered d answers n x) given)
      (λ n w. once_more answers n x _ many (waits_for_listed answers n w) (once (answered d answers n x) given (many ∙ sym (ap length (answers_are answers n x) ∙ as_many answers n x))))
      (lookup_stop faults d answers probe) refl

pub each_once : WaitsForEachOnce
each_once faults d m probe answers given e many =
    let us_many = length-map m.units (λ (u : IndexedUnit). u.unit) ∙ many in
    let r = once faults d m probe e answers given us_many in
    (r.0, subst (λ ls. AllByRecursion (λ n. IsListed n ls) (waited_for faults d probe answers given)) (sym (loads_are faults d m probe e answers)) r.1)

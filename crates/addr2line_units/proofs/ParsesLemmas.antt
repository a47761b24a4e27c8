-- Parses of the functions of units, one unit after another (on specs/Parses.antt).
use Rattle.addr2line_units.proofs.Common.{◌≡◌, ℕ, zero, suc, ◌≤◌, ◌<◌, inl, inr, Bool, true, false, List, [], ◌∷◌, length, slice_get, Option, Some, None, Result, Ok, Err, refl, ap, ◌∙◌, arith, set, Error, ◌>>=◌, Sections, UnitRecord, Scope, ReadingDepth, answer_of, with_answer, AreReadBefore, answers_after_parse, first_decided, read_of_number, read_of_unit, read_of_units, read_of_view, unless_fault, is_open_at, FirstAnswers, SplitLoad, View, decided_answer, is_open, load_of_unit, verdict, verdict_by}
use Rattle.std.specs.Prelude.{is_none, if◌then◌else◌}
use Rattle.addr2line_units.proofs.Facts.{below_next}

-- the answers where one more is decided, of units behind the first one
with_more : (d : Sections) (o : Option UnitRecord) (x : Option (Option Sections)) (answers : FirstAnswers) (n : ℕ)
    → elim o [ None ↦ x ∷ answers | Some u ↦ set (x ∷ answers) (suc n) (decided_answer d u (answer_of (x ∷ answers) (suc n)) None) ]
    ≡ x ∷ elim o [ None ↦ answers | Some u ↦ set answers n (decided_answer d u (answer_of answers n) None) ]
with_more d None x answers n = refl
with_more d (Some u) x answers n = refl

module _ (d : Sections) where
  -- one more unit is decided
  pub decided_more : (us : List UnitRecord) (answers : FirstAnswers) (n : ℕ) → n < length us → length us ≡ length answers
      → with_answer d us (first_decided d n us answers) n None ≡ first_decided d (suc n) us answers
  decided_more [] answers n h many = absurd (omega arith)
  decided_more (u ∷ us) [] n h many = absurd (omega arith)
  decided_more (u ∷ us) (a ∷ answers) zero h many = refl
  decided_more (u ∷ us) (a ∷ answers) (suc n) h many =
      with_more d (slice_get us n) (decided_answer d u a None) (first_decided d n us answers) n
      ∙ ap (λ (xs : FirstAnswers). decided_answer d u a None ∷ xs) (decided_more us answers n (omega arith) (omega arith))

  -- the units behind are as they were, and those before are decided
  decided_at : (us : List UnitRecord) (answers : FirstAnswers) (n : ℕ) → answer_of (first_decided d n us answers) n ≡ answer_of answers n
  decided_at us answers zero = refl
  decided_at [] answers (suc n) = refl
  decided_at (u ∷ us) [] (suc n) = refl
  decided_at (u ∷ us) (a ∷ answers) (suc n) = decided_at us answers n

  pub open_behind : (us : List UnitRecord) (answers : FirstAnswers) (n : ℕ) → is_open_at d us (first_decided d n us answers) n ≡ is_open_at d us answers n
  open_behind us answers n = ap (λ (a : Option (Option Sections)). by_answer a) (decided_at us answers n)
    where
      by_answer : Option (Option Sections) → Bool
      by_answer a = elim (slice_get us n) [ None ↦ false | Some u ↦ is_open d u a ]

module _ (depth : ReadingDepth) (scope : Scope) where
  -- what is read of a unit is the same where those before it are decided
  pub number_behind : (us : List UnitRecord) (answers : FirstAnswers) (n : ℕ)
      → read_of_number depth scope us (first_decided scope.file.sections n us answers) n ≡ read_of_number depth scope us answers n
  number_behind us answers n =
      ap (λ (a : Option (Option Sections)). by_answer a) (decided_at scope.file.sections us answers n)
    where
      by_answer : Option (Option Sections) → Result (Unit {0}) Error
      by_answer a = elim (slice_get us n) [ None ↦ Ok tt | Some u ↦ read_of_unit depth scope u a ]

  -- one more unit was read
  pub before_more : (us : List UnitRecord) (answers : FirstAnswers) (n : ℕ) → AreReadBefore depth scope us answers n → read_of_number depth scope us answers n ≡ Ok tt → AreReadBefore depth scope us answers (suc n)
  before_more us answers n before at m h = elim (below_next m n h) [
    | inl l ↦ before m l
    | inr e ↦ ap (read_of_number depth scope us answers) e ∙ at
  ]

  -- the first fault is that of the first unit that has one
  pub read_stop : (us : List UnitRecord) (answers : FirstAnswers) (n : ℕ) (e : Error) → length us ≡ length answers → AreReadBefore depth scope us answers n → read_of_number depth scope us answers n ≡ Err e
      → read_of_units depth scope us answers ≡ Err e
  read_stop [] answers n e many before at = absurd cc
  read_stop (u ∷ us) [] n e many before at = absurd (omega arith)
  read_stop (u ∷ us) (a ∷ answers) zero e many before at = ap (λ (r : Result (Unit {0}) Error). r >>= λ _. read_of_units depth scope us answers) at
  read_stop (u ∷ us) (a ∷ answers) (suc n) e many before at =
      ap (λ (r : Result (Unit {0}) Error). r >>= λ _. read_of_units depth scope us answers) (before 0 (omega arith))
      ∙ read_stop us answers n e (omega arith) (λ m h. before (suc m) (omega arith)) at

  -- there is none where no unit has one
  pub read_end : (us : List UnitRecord) (answers : FirstAnswers) (n : ℕ) → length us ≡ length answers → length us ≤ n → AreReadBefore depth scope us answers n → read_of_units depth scope us answers ≡ Ok tt
  read_end [] answers n many past before = refl
  read_end (u ∷ us) [] n many past before = refl
  read_end (u ∷ us) (a ∷ answers) zero many past before = absurd (omega arith)
  read_end (u ∷ us) (a ∷ answers) (suc n) many past before =
      ap (λ (r : Result (Unit {0}) Error). r >>= λ _. read_of_units depth scope us answers) (before 0 (omega arith))
      ∙ read_end us answers n (omega arith) (omega arith) (λ m h. before (suc m) (omega arith))

  -- the answers then: up to the unit with the first fault, or all
  pub after_stop : (us : List UnitRecord) (answers : FirstAnswers) (n : ℕ) (e : Error) → length us ≡ length answers → AreReadBefore depth scope us answers n → read_of_number depth scope us answers n ≡ Err e
      → answers_after_parse depth scope us answers ≡ first_decided scope.file.sections (suc n) us answers
  after_stop [] answers n e many before at = absurd cc
  after_stop (u ∷ us) [] n e many before at = absurd (omega arith)
  after_stop (u ∷ us) (a ∷ answers) zero e many before at =
      ap (λ (r : Result (Unit {0}) Error). decided_answer scope.file.sections u a None ∷ unless_fault r (answers_after_parse depth scope us answers) answers) at
  after_stop (u ∷ us) (a ∷ answers) (suc n) e many before at =
      ap (λ (r : Result (Unit {0}) Error). decided_answer scope.file.sections u a None ∷ unless_fault r (answers_after_parse depth scope us answers) answers) (before 0 (omega arith))
      ∙ ap (λ (xs : FirstAnswers). decided_answer scope.file.sections u a None ∷ xs) (after_stop us answers n e (omega arith) (λ m h. before (suc m) (omega arith)) at)

  pub after_end : (us : List UnitRecord) (answers : FirstAnswers) (n : ℕ) → length us ≡ length answers → length us ≤ n → AreReadBefore depth scope us answers n → answers_after_parse depth scope us answers ≡ first_decided scope.file.sections n us answers
  after_end [] answers zero many past before = refl
  after_end [] answers (suc n) many past before = refl
  after_end (u ∷ us) [] n many past before = absurd (omega arith)
  after_end (u ∷ us) (a ∷ answers) zero many past before = absurd (omega arith)
  after_end (u ∷ us) (a ∷ answers) (suc n) many past before =
      ap (λ (r : Result (Unit {0}) Error). decided_answer scope.file.sections u a None ∷ unless_fault r (answers_after_parse depth scope us answers) answers) (before 0 (omega arith))
      ∙ ap (λ (xs : FirstAnswers). decided_answer scope.file.sections u a None ∷ xs) (after_end us answers n (omega arith) (omega arith) (λ m h. before (suc m) (omega arith)))

-- a unit that is decided by none where it was open is decided
module _ (d : Sections) (u : UnitRecord) where
  by_load : (load : Result (Option SplitLoad) Error) → (view : Result View Error) × (verdict_by d u load (Some None) ≡ Some view)
  by_load (Err e) = (_, refl)
  by_load (Ok None) = (_, refl)
  by_load (Ok (Some load)) = (_, refl)

  of_verdict : (o : Option (Result View Error)) → is_none o ≡ false → (view : Result View Error) × (o ≡ Some view)
  of_verdict None e = absurd cc
  of_verdict (Some view) e = (view, refl)

  pub decided_verdict : (answer : Option (Option Sections)) → (view : Result View Error) × (verdict d u (decided_answer d u answer None) ≡ Some view)
  decided_verdict answer = by_open (is_open d u answer) refl
    where
      by_open : (b : Bool) → is_open d u answer ≡ b → (view : Result View Error) × (verdict d u (if b then Some None else answer) ≡ Some view)
      by_open true e = by_load (load_of_unit d 0 u)
      by_open false e = of_verdict (verdict d u answer) e

  pub decided_shut : (answer : Option (Option Sections)) → is_open d u (decided_answer d u answer None) ≡ false
  decided_shut answer = ap (λ (o : Option (Result View Error)). is_none o) (decided_verdict answer).1

  -- and stays so
  pub decided_again : (answer : Option (Option Sections)) → decided_answer d u (decided_answer d u answer None) None ≡ decided_answer d u answer None
  decided_again answer =
      let v = decided_verdict answer in
      ap (λ (o : Option (Result View Error)). if is_none o then Some None else decided_answer d u answer None) v.1

pub shut_before : (d : Sections) (us : List UnitRecord) (answers : FirstAnswers) (k n : ℕ) → n < k → length us ≡ length answers → is_open_at d us (first_decided d k us answers) n ≡ false
shut_before d us answers zero n h many = absurd (omega (arith, h))
shut_before d [] answers (suc k) n h many = refl
shut_before d (u ∷ us) [] (suc k) n h many = absurd (omega (arith, many))
shut_before d (u ∷ us) (a ∷ answers) (suc k) zero h many = decided_shut d u a
shut_before d (u ∷ us) (a ∷ answers) (suc k) (suc n) h many = shut_before d us answers k n (omega (arith, h)) (omega (arith, many))

-- a parse after a parse
module _ (depth : ReadingDepth) (scope : Scope) where
  pub unit_again : (u : UnitRecord) (answer : Option (Option Sections)) → read_of_unit depth scope u (decided_answer scope.file.sections u answer None) ≡ read_of_unit depth scope u answer
  unit_again u answer = ap (λ a. read_of_view_at a) (decided_again scope.file.sections u answer)
    where
      read_of_view_at : Option (Option Sections) → Result (Unit {0}) Error
      read_of_view_at a = read_of_view depth scope (verdict scope.file.sections u a)

  pub units_again : (us : List UnitRecord) (answers : FirstAnswers) → read_of_units depth scope us (answers_after_parse depth scope us answers) ≡ read_of_units depth scope us answers
  units_again [] answers = refl
  units_again (u ∷ us) [] = refl
  units_again (u ∷ us) (a ∷ answers) = by_unit (units_again us answers) (read_of_unit depth scope u a) (unit_again u a)
    where
      by_unit : read_of_units depth scope us (answers_after_parse depth scope us answers) ≡ read_of_units depth scope us answers → (r : Result (Unit {0}) Error) → read_of_unit depth scope u (decided_answer scope.file.sections u a None) ≡ r
          → (read_of_unit depth scope u (decided_answer scope.file.sections u a None) >>= λ _. read_of_units depth scope us (unless_fault r (answers_after_parse depth scope us answers) answers)) ≡ (r >>= λ _. read_of_units depth scope us answers)
      by_unit again (Ok x) e = ap (λ (r : Result (Unit {0}) Error). r >>= λ _. read_of_units depth scope us (answers_after_parse depth scope us answers)) e ∙ again
      by_unit again (Err x) e = ap (λ (r : Result (Unit {0}) Error). r >>= λ _. read_of_units depth scope us answers) e

  pub answers_again : (us : List UnitRecord) (answers : FirstAnswers) → answers_after_parse depth scope us (answers_after_parse depth scope us answers) ≡ answers_after_parse depth scope us answers
  answers_again [] answers = refl
  answers_again (u ∷ us) [] = refl
  answers_again (u ∷ us) (a ∷ answers) =
      ap (λ x. x ∷ unless_fault (read_of_unit depth scope u (decided_answer scope.file.sections u a None)) (answers_after_parse depth scope us (rest (read_of_unit depth scope u a))) (rest (read_of_unit depth scope u a))) (decided_again scope.file.sections u a)
      ∙ ap (λ xs. decided_answer scope.file.sections u a None ∷ xs) (by_unit (answers_again us answers) (read_of_unit depth scope u a) (unit_again u a))
    where
      rest : Result (Unit {0}) Error → FirstAnswers
      rest r = unless_fault r (answers_after_parse depth scope us answers) answers

      by_unit : answers_after_parse depth scope us (answers_after_parse depth scope us answers) ≡ answers_after_parse depth scope us answers → (r : Result (Unit {0}) Error) → read_of_unit depth scope u (decided_answer scope.file.sections u a None) ≡ r
          → unless_fault (read_of_unit depth scope u (decided_answer scope.file.sections u a None)) (answers_after_parse depth scope us (unless_fault r (answers_after_parse depth scope us answers) answers)) (unless_fault r (answers_after_parse depth scope us answers) answers)
          ≡ unless_fault r (answers_after_parse depth scope us answers) answers
      by_unit again (Ok x) e = ap (λ (r : Result (Unit {0}) Error). unless_fault r (answers_after_parse depth scope us (answers_after_parse depth scope us answers)) (answers_after_parse depth scope us answers)) e ∙ again
      by_unit again (Err x) e = ap (λ (r : Result (Unit {0}) Error). unless_fault r (answers_after_parse depth scope us answers) answers) e

  pub reads_again : (us : List UnitRecord) (answers : FirstAnswers)
      → (read_of_units depth scope us (answers_after_parse depth scope us answers) ≡ read_of_units depth scope us answers) × (answers_after_parse depth scope us (answers_after_parse depth scope us answers) ≡ answers_after_parse depth scope us answers)
  reads_again us answers = (units_again us answers, answers_again us answers)

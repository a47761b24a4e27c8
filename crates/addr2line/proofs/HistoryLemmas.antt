-- One answer more of a lookup, and one call more of a history (on specs/History.antt).
use Rattle.addr2line.proofs.Common.{◌≡◌, ◌⊎◌, inl, inr, ℕ, suc, ◌+◌, ◌<◌, add-one, append_assoc, Bool, true, false, List, [], ◌∷◌, ◌++◌, drop, get_or, length, map, take, Option, Result, Ok, Err, refl, sym, ap, subst, ◌∙◌, append-nil, get_or-map, length-map, take-append-drop, take_more, Error, Sections, LookupResult, Output, OnFault, LookupStop, Waits, Finds, FindsNothing, is_waiting, WasNotRefused, StaysParsed, has_parsed, IfOutput, AfterResume, answered, ContextState, Given, Answered, Abandoned, answers_given, where_waiting, lookup_stop, FirstAnswers, IfErr, OnOk}
use Rattle.std.proofs.Math.Seq.{drop-cons}
use Rattle.addr2line_units.specs.declared.parses.ReadingDepth.{ReadingDepth}
use Rattle.addr2line.specs.Loads.{AfterParse}
use Rattle.addr2line.specs.History.{ParsesFunctions, AfterCall}
use Rattle.gimli_read.specs.declared.error.Error.TheVariants.{OutOfMemory}

-- where a lookup waits it goes on
where_waits : {X : Type 0} (f : ℕ → X) (x : X) (s : Result LookupStop Error) (n : ℕ) → s ≡ Ok (Waits n) → where_waiting f x s ≡ f n
where_waits f x s n e = ap (where_waiting f x) e

-- where it has ended it doesn't
where_ended : {X : Type 0} (f : ℕ → X) (x : X) (s : Result LookupStop Error) → is_waiting s ≡ false → where_waiting f x s ≡ x
where_ended f x (Ok (Waits n)) e = absurd cc
where_ended f x (Ok (Finds n frames)) e = refl
where_ended f x (Ok FindsNothing) e = refl
where_ended f x (Err e) h = refl

module _ (faults : OnFault) (d : Sections) (probe : ℕ) where
  -- a lookup that waits, given one more answer
  pub given_one : (answers : FirstAnswers) (n : ℕ) (x : Option Sections) (given : List Given) → lookup_stop faults d answers probe ≡ Ok (Waits n)
      → answers_given faults d probe answers (Answered x ∷ given) ≡ answers_given faults d probe (answered d answers n x) given
  given_one answers n x given e = where_waits (λ k. answers_given faults d probe (answered d answers k x) given) answers _ n e

  -- a lookup that has ended takes no more answers
  pub given_ended : (answers : FirstAnswers) (given : List Given) → is_waiting (lookup_stop faults d answers probe) ≡ false → answers_given faults d probe answers given ≡ answers
  given_ended answers [] e = refl
  given_ended answers (Abandoned ∷ given) e = refl
  given_ended answers (Answered x ∷ given) e = where_ended (λ k. answers_given faults d probe (answered d answers k x) given) answers _ e

-- the answers of a list, one by one
module _ {A B : Type 0} (f : A → B) (xs : List A) (i : ℕ) (a : A) (h : i < length xs) (e : a ≡ get_or xs i a) where
  inside : i < length (map f xs)
  inside = rw (length-map xs f) h

  element_is : get_or (map f xs) i (f a) ≡ f a
  element_is = get_or-map f xs i a (f a) h ∙ ap f (sym e)

  pub drop_one : drop i (map f xs) ≡ f a ∷ drop (i + 1) (map f xs)
  drop_one = rw add-one (drop-cons (map f xs) i (f a) inside ∙ ap (λ y. y ∷ drop (suc i) (map f xs)) element_is)

  take_one : take (i + 1) (map f xs) ≡ take i (map f xs) ++ (f a ∷ [])
  take_one = take_more (map f xs) i (f a) inside ∙ ap (λ y. take i (map f xs) ++ (y ∷ [])) element_is

  pub take_then : (rest : List B) → take (i + 1) (map f xs) ++ rest ≡ take i (map f xs) ++ (f a ∷ rest)
  take_then rest = ap (λ ys. ys ++ rest) take_one ∙ append_assoc (take i (map f xs)) (f a ∷ []) rest

  pub take_drop_one : take i (map f xs) ++ (f a ∷ drop (i + 1) (map f xs)) ≡ map f xs
  take_drop_one = ap (λ ys. take i (map f xs) ++ ys) (sym drop_one) ∙ take-append-drop i (map f xs)

-- what a lookup has been given so far, and what is left
abbrev pub HasGiven : OnFault → Sections → ℕ → FirstAnswers → List Given → FirstAnswers → Type 0
HasGiven faults d probe first given now =
    (rest : List Given) → answers_given faults d probe first (given ++ rest) ≡ answers_given faults d probe now rest

module _ (faults : OnFault) (d : Sections) (probe : ℕ) (first now : FirstAnswers) (given : List Given) (so : HasGiven faults d probe first given now) where
  -- nothing more is given
  pub given_all : answers_given faults d probe first given ≡ now
  given_all = ap (answers_given faults d probe first) (sym (append-nil given)) ∙ so []

  pub given_up : (rest all : List Given) → given ++ (Abandoned ∷ rest) ≡ all → answers_given faults d probe first all ≡ now
  given_up rest all e = ap (answers_given faults d probe first) (sym e) ∙ so (Abandoned ∷ rest)

  -- one more answer is given
  module _ (n : ℕ) (x : Option Sections) (waits : lookup_stop faults d now probe ≡ Ok (Waits n)) where
    pub given_more : (more : List Given) → ((rest : List Given) → more ++ rest ≡ given ++ (Answered x ∷ rest)) → HasGiven faults d probe first more (answered d now n x)
    given_more more e rest = ap (answers_given faults d probe first) (e rest) ∙ so (Answered x ∷ rest) ∙ given_one faults d probe now n x rest waits

    pub given_last : (rest all : List Given) → given ++ (Answered x ∷ rest) ≡ all → is_waiting (lookup_stop faults d (answered d now n x) probe) ≡ false → answers_given faults d probe first all ≡ answered d now n x
    given_last rest all e ended = ap (answers_given faults d probe first) (sym e) ∙ so (Answered x ∷ rest) ∙ given_one faults d probe now n x rest waits ∙ given_ended faults d probe (answered d now n x) rest ended

-- a context after an answer with which a lookup went on
module _ {X : Type 0} (shares : Bool) (faults : OnFault) (probe n : ℕ) (x : Option Sections) (o : Result X Error) (old new : ContextState) (after : AfterResume shares faults probe n x o old new) where
  pub resumed_sections : new.sections ≡ old.sections
  resumed_sections = elim after [ inl (mid, a, b) ↦ b.after.sections ∙ a.sections | inr (e, a, none) ↦ a.sections ]

  pub resumed_parsed : StaysParsed old.parsed new.parsed
  resumed_parsed = elim after [
    | inl (mid, a, b) ↦ λ k h. b.after.parsed k (subst (λ p. has_parsed p k ≡ true) (sym a.parsed) h)
    | inr (e, a, none) ↦ λ k h. subst (λ p. has_parsed p k ≡ true) (sym a.parsed) h
  ]

  pub resumed_answers : WasNotRefused o → new.answers ≡ answered old.sections old.answers n x
  resumed_answers told = elim after [
    | inl (mid, a, b) ↦ b.after.answers ∙ a.answers
    | inr (e, a, none) ↦ absurd (subst WasNotRefused e told refl)
  ]

  pub resumed_begun : (new.answers ≡ old.answers) ⊎ (new.answers ≡ answered old.sections old.answers n x)
  resumed_begun = elim after [
    | inl (mid, a, b) ↦ inr (b.after.answers ∙ a.answers)
    | inr (e, a, none) ↦ inl (a.refused.1)
  ]

-- what an answer has left of a lookup that has ended, by what is said of its output
pub resumed_output : {L D S X : Type 0} (shares : Bool) (faults : OnFault) (probe n : ℕ) (x : Option Sections) (old : ContextState) (result : LookupResult L (Result X Error) D S) (o : Result X Error) → result ≡ Output o → (asked : ℕ) → asked ≡ probe → (new lender : ContextState) → new ≡ lender
    → IfOutput result (λ q. AfterResume shares faults asked n x q old lender) → AfterResume shares faults probe n x o old new
resumed_output shares faults probe n x old result o is asked same new lender ends rests =
    subst (λ q. AfterResume shares faults q n x o old new) same (subst (λ s. AfterResume shares faults asked n x o old s) (sym ends)
    (subst (λ r. IfOutput r (λ q. AfterResume shares faults asked n x q old lender)) is rests))

-- what a parse of functions leaves, where the reply can be made unless memory was refused
pub parse_leaves : {X : Type 0} (depth : ReadingDepth) (done : Result (Unit {0}) Error) (r : Result X Error) (old new : ContextState) → AfterParse depth done old new → OnOk r (WasNotRefused done)
    → IfErr r (λ e. (e ≡ OutOfMemory) × (done ≡ Err OutOfMemory)) → AfterCall (ParsesFunctions depth) r old new
parse_leaves {X = X} depth done r old new a told refused = by r told refused
  where
    parsed : StaysParsed old.parsed new.parsed
    parsed = subst (StaysParsed old.parsed) (sym a.stays.parsed) (λ n e. e)

    by : (r : Result X Error) → OnOk r (WasNotRefused done) → IfErr r (λ e. (e ≡ OutOfMemory) × (done ≡ Err OutOfMemory)) → AfterCall (ParsesFunctions depth) r old new
    by (Ok x) told refused = record { sections = a.stays.sections; answers = a.answers told; refused = tt; parsed = parsed }
    by (Err e) told refused = record {
      sections = a.stays.sections;
      answers = tt;
      refused = (refused.0, λ m is. (let begun = a.begun m is in (begun.0, begun.1.decided)));
      parsed = parsed;
    }

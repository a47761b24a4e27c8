-- What a reading gives, and what an answer has to do with it.
-- A reading takes bytes from the front of a section: it gives a value and what is left, or the
-- first fault from the left.
-- Own: no reading gives OutOfMemory, which a refused growth alone answers.
-- The words for steps and answers serve every kind of fault; `Reading`, `Reads` and those with Oom
-- in their names are for the faults of sections.
use Rattle.std.specs.Prelude.{◌≡◌, ◌≢◌, Bool, true, is_ok, Result, Ok, Err, if◌then◌else◌}
use Rattle.std.specs.Result.{result_map_both}
use Rattle.gimli_read.specs.declared.error.Error.{Error}
use Rattle.gimli_read.specs.declared.error.Error.TheVariants.{OutOfMemory}
use Rattle.gimli_read.specs.Section.{Section}

-- a value and what is left, or a fault of one kind
abbrev pub ReadingOr : Type 0 → Type 0 → Type 0
ReadingOr E A = Result (A × Section) E

-- a value and what is left, or a fault of a section
abbrev pub Reading : Type 0 → Type 0
Reading A = ReadingOr Error A

infixl 10 ◌>>=◌
-- one step, and the next one where there was no fault
abbrev pub ◌>>=◌ : {A B E : Type 0} → Result A E → (A → Result B E) → Result B E
(Ok x) >>= f = f x
(Err e) >>= f = Err e

-- what is given, with its value made into another
abbrev pub result_map : {A B E : Type 0} → (A → B) → Result A E → Result B E
result_map make given = result_map_both make (λ e. e) given

-- the fault of what is given, if it is one
abbrev pub fault_of : {A E : Type 0} → Result A E → Result (Unit {0}) E
fault_of given = given >>= λ x. Ok tt

-- what a reading gives, made into another value
abbrev pub mapped : {A B E : Type 0} → (A → B) → ReadingOr E A → ReadingOr E B
mapped make read = read >>= λ x. Ok (make x.0, x.1)

-- a test, at the place where its fault stands
abbrev pub refused_if : {E : Type 0} → Bool → E → Result (Unit {0}) E
refused_if bad e = if bad then Err e else Ok tt

-- the answer is a value, or a refusal other than OutOfMemory
abbrev pub WasNotRefused : {X : Type 0} → Result X Error → Type 0
WasNotRefused (Ok x) = Unit {0}
WasNotRefused (Err e) = e ≢ OutOfMemory

-- the answer, seen by view, is what is given; so it takes no memory
abbrev pub Exactly : {X Y E : Type 0} → (X → Y) → Result X E → Result Y E → Type 0
Exactly view (Ok x) given = given ≡ Ok (view x)
Exactly view (Err e) given = given ≡ Err e

-- the answer, seen by view, is what is given; a refusal only where `holds` is true of what is given
-- and of the refusal
abbrev pub ExactlyWhere : {X Y E : Type 0} → (Result Y E → E → Type 0) → (X → Y) → Result X E
    → Result Y E → Type 0
ExactlyWhere holds view (Ok x) given = given ≡ Ok (view x)
ExactlyWhere holds view (Err e) given = holds given e → given ≡ Err e

-- the answer, seen by view, is what is given, or this fault in place of any answer
abbrev pub ExactlyUnless : {X Y E : Type 0} → E → (X → Y) → Result X E → Result Y E → Type 0
ExactlyUnless oom view result given = ExactlyWhere (λ _ e. e ≢ oom) view result given

-- the same, where this fault is an answer only if memory may be taken, and only where `takes` is
-- true of what is given
abbrev pub ExactlyUnlessFor : {X Y E : Type 0} → E → Bool → (Result Y E → Bool) → (X → Y)
    → Result X E → Result Y E → Type 0
ExactlyUnlessFor oom may takes view result given =
    ExactlyWhere (λ given e. may ≡ true → takes given ≡ true → e ≢ oom) view result given

-- the answer, seen by view, is what is given, or OutOfMemory
abbrev pub ExactlyUnlessOom : {X Y : Type 0} → (X → Y) → Result X Error → Result Y Error → Type 0
ExactlyUnlessOom view result given = ExactlyUnless OutOfMemory view result given

-- the answer is what is given, or OutOfMemory
abbrev pub IsUnlessOom : {X : Type 0} → Result X Error → Result X Error → Type 0
IsUnlessOom result given = ExactlyUnlessOom (λ x. x) result given

-- the same, where OutOfMemory is an answer only if memory may be taken
abbrev pub ExactlyUnlessOomIf : {X Y : Type 0} → Bool → (X → Y) → Result X Error → Result Y Error
    → Type 0
ExactlyUnlessOomIf may view result given =
    ExactlyWhere (λ _ e. may ≡ true → e ≢ OutOfMemory) view result given

-- the same, where memory may be taken only if `takes` is true of what is given
abbrev pub ExactlyUnlessOomFor : {X Y : Type 0} → Bool → (Result Y Error → Bool) → (X → Y)
    → Result X Error → Result Y Error → Type 0
ExactlyUnlessOomFor may takes view result given =
    ExactlyUnlessFor OutOfMemory may takes view result given

-- a call that moves a reader gave what is read from it, and left what the reading leaves
abbrev pub Reads : {R X : Type 0} → (R → Section) → R → R → Result X Error → (Section → Reading X)
    → Type 0
Reads see old new result reading = Exactly (λ x. (x, see new)) result (reading (see old))

-- the same, or OutOfMemory, if memory may be taken
abbrev pub ReadsUnlessOomIf : {R X : Type 0} → Bool → (R → Section) → R → R → Result X Error
    → (Section → Reading X) → Type 0
ReadsUnlessOomIf may see old new result reading =
    ExactlyUnlessOomIf may (λ x. (x, see new)) result (reading (see old))

-- the same, where memory may be taken only if `takes` is true of what is given
abbrev pub ReadsUnlessOomFor : {R X : Type 0} → Bool → (Reading X → Bool) → (R → Section) → R → R
    → Result X Error → (Section → Reading X) → Type 0
ReadsUnlessOomFor may takes see old new result reading =
    ExactlyUnlessOomFor may takes (λ x. (x, see new)) result (reading (see old))

-- a call that takes a part of a reader as one of its own; OutOfMemory only for a part
abbrev pub ReadsPartUnlessOom : {R : Type 0} → Bool → (R → Section) → R → R → Result R Error
    → (Section → Reading Section) → Type 0
ReadsPartUnlessOom may see old new result reading =
    ExactlyUnlessOomFor may is_ok (λ r. (see r, see new)) result (reading (see old))

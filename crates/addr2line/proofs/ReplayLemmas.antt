-- What recorded lookups are given, answer by answer, and the replies that they come to (on
-- specs/History.antt).
use Rattle.addr2line.proofs.Common.{◌≡◌, inl, inr, ℕ, ◌+◌, ◌<◌, ◌≤◌, Bool, true, false, List, ◌∷◌, ◌++◌, drop, get_or, length, map, slice_get, take, Option, Some, None, option_map, Result, Ok, Err, refl, sym, ap, subst, ◌∙◌, take_all, IfErr, IfOk, OnOk, Error, ◌>>=◌, WasNotRefused, Section, Sections, UnitRecord, LookupResult, Output, OnFault, Skip, Stop, LookupStop, Waits, Finds, FindsNothing, is_waiting, StaysParsed, has_parsed, IfOutput, UnitIndex, index_units, unit_records, FirstAnswers, SplitLoad, View, load_by, load_of_unit, split_name_of, AfterResume, SuspendsAgain, answered, ContextState, Given, Answered, Abandoned, Leaves, answers_given, frames_replied, unit_replied, AfterFramesOver, Suspends, IsLoadOf, ended_with, found_at, lookup_stop, stop_in, unit_of, view_found, CopiedReply, SuspendedAt, reply_of_frames, reply_of_unit, given_by, as_reply}
use Rattle.gimli_read.specs.declared.error.Error.TheVariants.{OutOfMemory}
use Rattle.gimli.specs.declared.unit.DwoId.{DwoId}
use Rattle.addr2line.proofs.HistoryLemmas.{HasGiven, given_all, given_ended, given_last, given_more, given_up, resumed_answers, resumed_begun, resumed_output, resumed_parsed, resumed_sections, take_drop_one, take_then}
use Rattle.addr2line.specs.declared.reply.Reply.{Reply}

-- the load of a unit has its number
load_number : (d : Sections) (n : ℕ) (u : UnitRecord) (l : SplitLoad) → load_of_unit d n u ≡ Ok (Some l) → l.unit ≡ n
unfolding load_of_unit
load_number d n u l e = by (split_name_of d u) u.dwo_id e
  where
    by : (name : Result (Option Section) Error) (id : Option DwoId) → load_by d n u name id ≡ Ok (Some l) → l.unit ≡ n
    by name None h = absurd cc
    by (Err f) (Some i) h = absurd cc
    by (Ok path) (Some i) h = sym (own h)
      where
        own : ◌≡◌ {A = Result (Option SplitLoad) Error} (Ok (Some (record { unit = n; dwo_id = i; comp_dir = u.comp_dir; path = path; parent = d }))) (Ok (Some l)) → n ≡ l.unit
        own q = ap (λ (r : Result (Option SplitLoad) Error). elim r [ Err f ↦ n | Ok o ↦ elim o [ None ↦ n | Some x ↦ x.unit ] ]) q

-- the load of a lookup that waits
pub load_token : (faults : OnFault) (d : Sections) (answers : FirstAnswers) (probe n : ℕ) (l : SplitLoad) → lookup_stop faults d answers probe ≡ Ok (Waits n) → IsLoadOf d n l → l.unit ≡ n
load_token faults d answers probe n l w own = by (index_units d) refl
  where
    of_unit : (o : Option UnitRecord) → option_map (load_of_unit d n) o ≡ Some (Ok (Some l)) → l.unit ≡ n
    of_unit None h = absurd cc
    of_unit (Some u) h = load_number d n u l (some_is h)
      where
        some_is : ◌≡◌ {A = Option (Result (Option SplitLoad) Error)} (Some (load_of_unit d n u)) (Some (Ok (Some l))) → load_of_unit d n u ≡ Ok (Some l)
        some_is q = cc

    by : (r : Result UnitIndex Error) → index_units d ≡ r → l.unit ≡ n
    by (Err f) e = absurd (let q : ◌≡◌ {A = Result LookupStop Error} (Err f) (Ok (Waits n)) = sym (ap (λ x. x >>= stop_in faults d answers probe) e) ∙ w in cc)
    by (Ok m) e = of_unit (slice_get (unit_records m.units) n) (own m e)

-- this answer comes next of all
pub record IsNext (all : List Given) (i : ℕ) (x : Given) : Type 0 where
  pub whole : take i all ++ (x ∷ drop (i + 1) all) ≡ all
  pub more : (rest : List Given) → take (i + 1) all ++ rest ≡ take i all ++ (x ∷ rest)

next_of : {A : Type 0} (see : A → Given) (xs : List A) (i : ℕ) (a : A) → i < length xs → a ≡ get_or xs i a → (x : Given) → x ≡ see a → IsNext (map see xs) i x
next_of see xs i a h e x given = subst (IsNext (map see xs) i) (sym given) (record { whole = take_drop_one see xs i a h e; more = take_then see xs i a h e })

-- an answer that was shared comes next
pub next_shared : {A D : Type 0} (see : A → Given) (value : D → Sections) (xs : List A) (i : ℕ) (a : A) → i < length xs → a ≡ get_or xs i a → {o p : Option (Option D)} → o ≡ p → given_by (option_map (option_map value) o) ≡ see a
    → IsNext (map see xs) i (given_by (option_map (option_map value) p))
next_shared see value xs i a h e is gives = next_of see xs i a h e _ (sym (ap (λ q. given_by (option_map (option_map value) q)) is) ∙ gives)

-- a lookup was given so many answers, and waits for the unit of a number
pub record HasAnswered (faults : OnFault) (probe : ℕ) (first : ContextState) (all : List Given) (i number : ℕ) (now : ContextState) : Type 0 where
  pub sections : now.sections ≡ first.sections
  pub given : HasGiven faults first.sections probe first.answers (take i all) now.answers
  pub waits : lookup_stop faults now.sections now.answers probe ≡ Ok (Waits number)
  pub parsed : StaysParsed first.parsed now.parsed

module _ (faults : OnFault) (probe : ℕ) (first : ContextState) (all : List Given) where
  -- a lookup that waits at first
  pub begun_at : (number : ℕ) (load : SplitLoad) (now : ContextState) → Suspends faults probe number load first now → HasAnswered faults probe first all 0 number now
  begun_at number load now s = record {
    sections = s.after.sections;
    given = λ rest. ap (λ x. answers_given faults first.sections probe x rest) (sym s.after.answers);
    waits = ap (λ d. lookup_stop faults d now.answers probe) s.after.sections ∙ ap (λ x. lookup_stop faults first.sections x probe) s.after.answers ∙ s.waits;
    parsed = s.after.parsed;
  }

  -- the first answers once all were given
  abbrev all_given : FirstAnswers
  all_given = answers_given faults first.sections probe first.answers all

  -- those once the first of them were
  abbrev SomeGiven : FirstAnswers → Type 0
  SomeGiven answers = (n : ℕ) × (answers ≡ answers_given faults first.sections probe first.answers (take n all))

  -- what a lookup replies by the first answers that it leaves, and what it leaves
  abbrev Replies : (FirstAnswers → CopiedReply) → Result Reply Error → ContextState → Type 0
  Replies replied r new = IfOk r (λ y. as_reply y ≡ replied all_given) × Leaves all_given SomeGiven r first new

  replies_by : {ended told : Type 0} (replied : FirstAnswers → CopiedReply) (left : FirstAnswers) (r : Result Reply Error) (new : ContextState) → IfOk r (λ y. (as_reply y ≡ replied left) × ended) → (ended → all_given ≡ left)
      → OnOk r told → (told → new.answers ≡ left) → IfErr r (λ e. e ≡ OutOfMemory) → SomeGiven new.answers → new.sections ≡ first.sections → StaysParsed first.parsed new.parsed → Replies replied r new
  replies_by replied left (Ok y) new h all_left t answers oom some d p =
      (h.0 ∙ ap replied (sym (all_left h.1)), record { sections = d; answers = answers t ∙ sym (all_left h.1); refused = tt; parsed = p })
  replies_by replied left (Err e) new h all_left t answers oom some d p = (tt, record { sections = d; answers = tt; refused = (oom, some); parsed = p })

  -- it has ended at once
  pub ends_at_once : {X : Type 0} (shares : Bool) (replied : FirstAnswers → CopiedReply) (o : Result X Error) (new : ContextState) → AfterFramesOver shares faults probe o first new → (r : Result Reply Error)
      → IfOk r (λ y. (as_reply y ≡ replied first.answers) × (is_waiting (lookup_stop faults first.sections first.answers probe) ≡ false)) → OnOk r (WasNotRefused o) → IfErr r (λ e. e ≡ OutOfMemory) → Replies replied r new
  ends_at_once shares replied o new a r h told oom =
      replies_by replied first.answers r new h (λ w. given_ended faults first.sections probe first.answers all w) told (λ t. a.after.answers) oom (0, a.after.answers) a.after.sections a.after.parsed

  module _ {i number : ℕ} {now : ContextState} (so : HasAnswered faults probe first all i number now) where
    own_waits : lookup_stop faults first.sections now.answers probe ≡ Ok (Waits number)
    own_waits = ap (λ d. lookup_stop faults d now.answers probe) (sym so.sections) ∙ so.waits

    own_answered : (x : Option Sections) → answered now.sections now.answers number x ≡ answered first.sections now.answers number x
    own_answered x = ap (λ d. answered d now.answers number x) so.sections

    -- it waits again
    pub goes_on : (x : Option Sections) → IsNext all i (Answered x) → (next : ℕ) (load : SplitLoad) (new : ContextState) → SuspendsAgain faults probe number x next load now new → HasAnswered faults probe first all (i + 1) next new
    goes_on x one next load new (mid, a, s) = record {
      sections = s.after.sections ∙ a.sections ∙ so.sections;
      given = subst (λ y. HasGiven faults first.sections probe first.answers (take (i + 1) all) y) (sym (s.after.answers ∙ a.answers ∙ own_answered x))
          (given_more faults first.sections probe first.answers now.answers (take i all) so.given number x own_waits (take (i + 1) all) one.more);
      waits = ap (λ d. lookup_stop faults d new.answers probe) s.after.sections ∙ ap (λ y. lookup_stop faults mid.sections y probe) s.after.answers ∙ s.waits;
      parsed = λ k e. s.after.parsed k (subst (λ p. has_parsed p k ≡ true) (sym a.parsed) (so.parsed k e));
    }

    -- a beginning of the answers was given
    begun_so : (new : ContextState) → new.answers ≡ now.answers → SomeGiven new.answers
    begun_so new e = (i, e ∙ sym (given_all faults first.sections probe first.answers now.answers (take i all) so.given))

    -- it is given up, or has no answer left
    pub left_by : IsNext all i Abandoned → all_given ≡ now.answers
    left_by one = given_up faults first.sections probe first.answers now.answers (take i all) so.given (drop (i + 1) all) all one.whole

    pub left_at_end : length all ≤ i → all_given ≡ now.answers
    left_at_end h = ap (answers_given faults first.sections probe first.answers) (sym (take_all i all h)) ∙ given_all faults first.sections probe first.answers now.answers (take i all) so.given

    is_left : (replied : FirstAnswers → CopiedReply) → (lookup_stop faults first.sections now.answers probe ≡ Ok (Waits number) → replied now.answers ≡ SuspendedAt number)
        → (token : ℕ) → token ≡ number → (y : Reply) → as_reply y ≡ SuspendedAt token → (new : ContextState) → new ≡ now → all_given ≡ now.answers → Replies replied (Ok y) new
    is_left replied told token own y is new e left = (
      is ∙ ap (λ n. SuspendedAt n) own ∙ sym (told own_waits) ∙ ap replied (sym left),
      record {
        sections = ap (λ (s : ContextState). s.sections) e ∙ so.sections;
        answers = ap (λ (s : ContextState). s.answers) e ∙ sym left;
        refused = tt;
        parsed = subst (λ (s : ContextState). StaysParsed first.parsed s.parsed) (sym e) so.parsed;
      },
    )

    -- an answer could not be shared
    pub is_refused : (replied : FirstAnswers → CopiedReply) (f : Error) (new : ContextState) → new ≡ now → f ≡ OutOfMemory → Replies replied (Err f) new
    is_refused replied f new e oom = (
      tt,
      record {
        sections = ap (λ (s : ContextState). s.sections) e ∙ so.sections;
        answers = tt;
        refused = (oom, begun_so new (ap (λ (s : ContextState). s.answers) e));
        parsed = subst (λ (s : ContextState). StaysParsed first.parsed s.parsed) (sym e) so.parsed;
      },
    )

    -- it has ended with an answer
    module _ (x : Option Sections) (one : IsNext all i (Answered x)) where
      abbrev left : FirstAnswers
      left = answered now.sections now.answers number x

      ended_by : is_waiting (lookup_stop faults first.sections left probe) ≡ false → all_given ≡ left
      ended_by ended =
          given_last faults first.sections probe first.answers now.answers (take i all) so.given number x own_waits (drop (i + 1) all) all one.whole
          (subst (λ y. is_waiting (lookup_stop faults first.sections y probe) ≡ false) (own_answered x) ended)
          ∙ sym (own_answered x)

      begun_more : {X : Type 0} (shares : Bool) (o : Result X Error) (new : ContextState) → AfterResume shares faults probe number x o now new → SomeGiven new.answers
      begun_more shares o new after = elim (resumed_begun shares faults probe number x o now new after) [
        | inl e ↦ begun_so new e
        | inr e ↦ (
          i + 1,
          e ∙ own_answered x ∙ sym (given_all faults first.sections probe first.answers (answered first.sections now.answers number x) (take (i + 1) all)
              (given_more faults first.sections probe first.answers now.answers (take i all) so.given number x own_waits (take (i + 1) all) one.more)),
        )
      ]

      pub ends_resumed : {L D S X : Type 0} (shares : Bool) (replied : FirstAnswers → CopiedReply) (result : LookupResult L (Result X Error) D S) (o : Result X Error) → result ≡ Output o → (asked : ℕ) → asked ≡ probe → (new lender : ContextState) → new ≡ lender
          → IfOutput result (λ q. AfterResume shares faults asked number x q now lender) → (r : Result Reply Error) → IfOk r (λ y. (as_reply y ≡ replied (answered now.sections now.answers number x)) × (is_waiting (lookup_stop faults first.sections (answered now.sections now.answers number x) probe) ≡ false))
          → OnOk r (WasNotRefused o) → IfErr r (λ e. e ≡ OutOfMemory) → Replies replied r new
      ends_resumed shares replied result o is asked same new lender ends rests r h told oom =
          replies_by replied left r new h ended_by told (resumed_answers shares faults probe number x o now new after) oom (begun_more shares o new after)
          (resumed_sections shares faults probe number x o now new after ∙ so.sections) (λ k e. resumed_parsed shares faults probe number x o now new after k (so.parsed k e))
        where
          after : AfterResume shares faults probe number x o now new
          after = resumed_output shares faults probe number x now result o is asked same new lender ends rests

-- a lookup that is left where it waits replies at which unit, of frames
pub frames_suspended : {probe : ℕ} {first : ContextState} {all : List Given} {i number : ℕ} {now : ContextState} → HasAnswered Stop probe first all i number now → {token : ℕ} → token ≡ number → (y : Reply) → as_reply y ≡ SuspendedAt token → (new : ContextState) → new ≡ now
    → all_given Stop probe first all ≡ now.answers → Replies Stop probe first all (frames_replied first.sections probe) (Ok y) new
frames_suspended {probe} {first} {all} so own y is new e left = is_left Stop probe first all so (frames_replied first.sections probe) (λ w. ap reply_of_frames w) _ own y is new e left

-- of a unit
pub unit_suspended : {probe : ℕ} {first : ContextState} {all : List Given} {i number : ℕ} {now : ContextState} → HasAnswered Skip probe first all i number now → {token : ℕ} → token ≡ number → (y : Reply) → as_reply y ≡ SuspendedAt token → (new : ContextState) → new ≡ now
    → all_given Skip probe first all ≡ now.answers → Replies Skip probe first all (unit_replied first.sections probe) (Ok y) new
unit_suspended {probe} {first} {all} {now = now} so own y is new e left =
    is_left Skip probe first all so (unit_replied first.sections probe) (λ w. ap (λ r. reply_of_unit r (unit_of first.sections now.answers probe)) w) _ own y is new e left

-- a lookup that waits has found nothing
pub found_waiting : {V : Type 0} (faults : OnFault) (value_of : LookupStop → Option View → V) (d : Sections) (answers : FirstAnswers) (probe : ℕ) → is_waiting (lookup_stop faults d answers probe) ≡ true → found_at faults value_of d answers probe ≡ Ok None
found_waiting faults value_of d answers probe w = of_stop (lookup_stop faults d answers probe) w
  where
    of_stop : (r : Result LookupStop Error) → is_waiting r ≡ true → (r >>= λ s. Ok (ended_with (value_of s (view_found d answers s)) s)) ≡ Ok None
    of_stop (Ok (Waits n)) h = refl
    of_stop (Ok (Finds n frames)) h = absurd cc
    of_stop (Ok FindsNothing) h = absurd cc
    of_stop (Err e) h = absurd cc

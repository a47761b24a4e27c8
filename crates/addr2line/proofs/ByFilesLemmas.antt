-- Loads that files answer, one after another (on specs/LoadsByFiles.antt, specs/Loader.antt and
-- specs/FramesByFiles.antt).
use Rattle.addr2line.proofs.Common.{◌≡◌, ◌≢◌, ◌⊎◌, ◌<◌, ◌≤◌, inl, inr, ℕ, Bool, List, [], ◌∷◌, ◌++◌, length, Option, Some, None, Result, Ok, Err, arith, true, refl, sym, ap, subst, ◌∙◌, eqb_tells, IfErr, IfSome, Error, Sections, LoaderError, OutOfMemory, PathNotUtf8, Loading, LoadsUnlessOom, LookupResult, Output, Stop, FrameRecord, Waits, answer_of, is_waiting, result_map, StaysParsed, has_parsed, StaysKnown, IfOutput, FirstAnswers, SplitLoad, AfterAnswering, AfterResume, SuspendsAgain, answered, ContextState, ReadFiles, Given, Answered, AfterFrames, AfterFramesOver, IsKnownFew, ReadsAsked, Suspends, IsLoadOf, loads_at, lookup_stop, given_by_files, of_file, IfSome_then}
use Rattle.std.proofs.lemmas.List.{append_assoc}
use Rattle.gimli_read.specs.declared.error.Error.TheVariants as reading
use Rattle.elf.specs.Text.{loader_error_of}
use Rattle.addr2line.specs.declared.compressed.CompressedSections.{CompressedSections}
use Rattle.addr2line.specs.FramesByFiles.{frames_by_files, stop_frames}
use Rattle.addr2line.specs.LoadsByFiles.{AfterAnswers, AfterFramesByFiles, AnswersByFiles, AnswersInTurn, IsFaultByFiles, IsUnitFault, StayAnswered, WaitsForLoad, WaitsForNone}
use Rattle.addr2line.specs.SplitFiles.{AreOfSomeFile, HasPathNotUtf8}
use Rattle.addr2line.proofs.AskedLemmas.{answer_before, reads_answered, reads_more, reads_nothing}
use Rattle.addr2line.proofs.FilesLookupLemmas.{answer_changes, first_answers_stay, frames_ended, frames_stay, refused_frames, stop_stays}
use Rattle.addr2line.proofs.HistoryLemmas.{HasGiven, given_all, given_more, resumed_output}
use Rattle.addr2line.proofs.LoadingLemmas.{no_oom, no_path, not_told}
use Rattle.addr2line.proofs.NoLoadLemmas.{lacks_memory}
use Rattle.addr2line.proofs.SkippedLemmas.{waits_true}
use Rattle.addr2line_units.proofs.EntriesStayLemmas.{known_of_twice, same_stays_known}
use Rattle.addr2line.proofs.Facts.{always, if_some_both}

-- a first answer that is the same at last was the same in between
same_between : (old mid new : FirstAnswers) → StayAnswered old mid → StayAnswered mid new → (n : ℕ) → answer_of new n ≡ answer_of old n → answer_of mid n ≡ answer_of old n
same_between old mid new a b n same = by (answer_of old n) (answer_of mid n) refl refl
  where
    by : (x y : Option (Option Sections)) → answer_of old n ≡ x → answer_of mid n ≡ y → answer_of mid n ≡ answer_of old n
    by None None p q = q ∙ sym p
    by None (Some given) p q = let f : ◌≡◌ {A = Option (Option Sections)} (Some given) None = sym (b n given q) ∙ same ∙ p in absurd cc
    by (Some given) y p q = a n given p ∙ sym p

-- a lookup comes to the same where sections and first answers are the same
same_stop : (probe : ℕ) (old new : ContextState) → new.sections ≡ old.sections → new.answers ≡ old.answers → lookup_stop Stop new.sections new.answers probe ≡ lookup_stop Stop old.sections old.answers probe
same_stop probe old new s a = ap (λ d. lookup_stop Stop d new.answers probe) s ∙ ap (λ x. lookup_stop Stop old.sections x probe) a

module _ (compressed : CompressedSections) (files : Option ReadFiles) where
  -- neither sections nor first answers were changed, and what was read stays
  unchanged : (old new : ContextState) → new.sections ≡ old.sections → new.answers ≡ old.answers → StaysParsed old.parsed new.parsed → StaysKnown old.known new.known → old.steps ≤ new.steps → AfterAnswers compressed files old new
  unchanged old new s a parsed known raised = record {
    sections = s;
    answers = subst (λ x. StayAnswered old.answers x) (sym a) (λ n given e. e);
    made = λ n sections e. inl (sym (ap (λ x. answer_of x n) a) ∙ e);
    given = always files (λ held n answer e. inl (sym (ap (λ x. answer_of x n) a) ∙ e));
    frames = always files (λ held q. ap (λ d. frames_by_files held d new.answers q) s ∙ ap (λ x. frames_by_files held old.sections x q) a);
    ended = λ q w. same_stop q old new s a;
    parsed = parsed;
    known = λ n same. known n;
    raised = raised;
  }

  then_answered : (old mid new : ContextState) → AfterAnswers compressed files old mid → AfterAnswers compressed files mid new → AfterAnswers compressed files old new
  then_answered old mid new a b = record {
    sections = b.sections ∙ a.sections;
    answers = λ n given e. b.answers n given (a.answers n given e);
    made = λ n sections e. elim (b.made n sections e) [
      | inl q ↦ a.made n sections q
      | inr q ↦ inr (q.0, subst (λ d. IsLoadOf d n q.0) a.sections q.1, q.2)
    ];
    given = if_some_both files a.given b.given (λ held p q n answer e. elim (q n answer e) [
      | inl before ↦ p n answer before
      | inr by ↦ inr (by.0, subst (λ d. IsLoadOf d n by.0) a.sections by.1, by.2)
    ]);
    frames = if_some_both files a.frames b.frames (λ held p q probe. q probe ∙ p probe);
    ended = λ q w. b.ended q (ap is_waiting (a.ended q w) ∙ w) ∙ a.ended q w;
    parsed = λ n e. b.parsed n (a.parsed n e);
    known = λ n same.
        let before = same_between old.answers mid.answers new.answers a.answers b.answers n same in
        known_of_twice n old.known mid.known new.known (a.known n before) (b.known n (same ∙ sym before));
    raised = let x = a.raised in let y = b.raised in omega (arith, x, y);
  }

  -- a fault by the files was one before
  fault_before : (old mid : ContextState) (probe : ℕ) (e : LoaderError) → AfterAnswers compressed files old mid → IsFaultByFiles files mid probe e → IsFaultByFiles files old probe e
  fault_before old mid probe e a h = if_some_both files a.frames h (λ held p q ne. sym (p probe) ∙ q ne)

  module _ (probe n : ℕ) (load : SplitLoad) (old : ContextState) (waits : lookup_stop Stop old.sections old.answers probe ≡ Ok (Waits n)) (is : IsLoadOf old.sections n load) where
    -- the load was answered by a file
    answered_by_file : (given : Option Sections) → IfSome files (λ held. given_by_files held load ≡ Ok given) → IfSome given (AreOfSomeFile compressed load) → (new : ContextState) → AfterAnswering n given (Ok tt) old new → AfterAnswers compressed files old new
    answered_by_file given h made new a = record {
      sections = a.sections;
      answers = subst (λ x. StayAnswered old.answers x) (sym a.answers) (first_answers_stay old.sections old.answers probe n load waits is given);
      made = λ k sections e. elim (answer_before old.sections old.answers n given k (Some sections) (subst (λ x. answer_of x k ≡ Some (Some sections)) a.answers e)) [
        | inl q ↦ inl q
        | inr q ↦ inr (load, subst (λ i. IsLoadOf old.sections i load) (sym q.0) is, subst (λ o. IfSome o (AreOfSomeFile compressed load)) q.1 made)
      ];
      given = IfSome_then files h (λ held gives k answer e. elim (answer_before old.sections old.answers n given k answer (subst (λ x. answer_of x k ≡ Some answer) a.answers e)) [
        | inl q ↦ inl q
        | inr q ↦ inr (load, subst (λ i. IsLoadOf old.sections i load) (sym q.0) is, gives ∙ ap Ok q.1)
      ]);
      frames = IfSome_then files h (λ held e q. ap (λ d. frames_by_files held d new.answers q) a.sections ∙ ap (λ x. frames_by_files held old.sections x q) a.answers
          ∙ frames_stay old.sections old.answers probe n load waits is (given_by_files held) given e q);
      ended = λ q w. ap (λ d. lookup_stop Stop d new.answers q) a.sections ∙ ap (λ x. lookup_stop Stop old.sections x q) a.answers ∙ stop_stays old.sections old.answers probe n load waits is given q w;
      parsed = λ k e. subst (λ p. has_parsed p k ≡ true) (sym a.parsed) e;
      known = λ k same. elim (eqb_tells k n) [ inl p ↦ absurd (changed k p.1 same) | inr q ↦ same_stays_known k old.known new.known (a.others k q.1) ];
      raised = subst (λ l. old.steps ≤ l) (sym a.steps) (omega arith);
    }
      where
        changed : (k : ℕ) → k ≡ n → answer_of new.answers k ≢ answer_of old.answers k
        changed k q same =
            answer_changes old.sections old.answers probe n load waits is given
            (subst (λ x. length (loads_at old.sections x probe) < length (loads_at old.sections old.answers probe)) a.answers
            (subst (λ d. length (loads_at d new.answers probe) < length (loads_at old.sections old.answers probe)) a.sections (a.shorter Stop probe (waits_true n _ waits))))
            (subst (λ x. answer_of x n ≡ answer_of old.answers n) a.answers (subst (λ i. answer_of new.answers i ≡ answer_of old.answers i) q same))

    -- the files refused the load
    refused_by_file : (e : LoaderError) → IfSome files (λ held. e ≢ OutOfMemory → given_by_files held load ≡ Err e) → IsFaultByFiles files old probe e
    refused_by_file e h = IfSome_then files h (λ held k ne. refused_frames old.sections old.answers probe n load waits is (given_by_files held) e (k ne))

-- it doesn't wait both for a unit and for none
waits_no_more : (probe n : ℕ) (c : ContextState) → WaitsForNone c probe → lookup_stop Stop c.sections c.answers probe ≡ Ok (Waits n) → ⊥
waits_no_more probe n c w waits = let no = sym (ap is_waiting waits) ∙ w in absurd cc

-- a fault that ends a lookup is one by the files
stop_fault : (files : Option ReadFiles) (c : ContextState) (probe : ℕ) (e : Error) → (loader_error_of e ≢ OutOfMemory → lookup_stop Stop c.sections c.answers probe ≡ Err e) → IsFaultByFiles files c probe (loader_error_of e)
stop_fault files c probe e h = always files by
  where
    by : (held : ReadFiles) → loader_error_of e ≢ OutOfMemory → frames_by_files held c.sections c.answers probe ≡ Err (loader_error_of e)
    by held ne = frames_ended (given_by_files held) c.sections c.answers probe (ap is_waiting (h ne)) ∙ ap stop_frames (h ne)

-- loads of a lookup were answered by files, in turn
pub record HasAnswered (compressed : CompressedSections) (files : Option ReadFiles) (probe : ℕ) (first now : ContextState) : Type 0 where
  pub after : AfterAnswers compressed files first now
  pub only : ReadsAsked Stop probe first now
  pub given : List Given
  pub so : HasGiven Stop first.sections probe first.answers given now.answers

-- it waits for the unit of a number, which has this load
pub record WaitsByFiles (compressed : CompressedSections) (files : Option ReadFiles) (probe : ℕ) (first : ContextState) (n : ℕ) (load : SplitLoad) (now : ContextState) : Type 0 where
  pub so : HasAnswered compressed files probe first now
  pub waits : lookup_stop Stop now.sections now.answers probe ≡ Ok (Waits n)
  pub own : IsLoadOf now.sections n load

module _ (compressed : CompressedSections) (files : Option ReadFiles) (probe : ℕ) (first : ContextState) where
  none_answered : HasAnswered compressed files probe first first
  none_answered = record { after = unchanged compressed files first first refl refl (λ n e. e) (λ n. same_stays_known n first.known first.known refl) (omega arith); only = reads_nothing Stop probe first; given = []; so = λ rest. refl }

  module _ (now : ContextState) (h : HasAnswered compressed files probe first now) where
    checked : {X : Type 0} (r : Result X Error) (new : ContextState) → AfterFrames Stop probe r now new → HasAnswered compressed files probe first new
    checked r new a = record {
      after = then_answered compressed files first now new h.after (unchanged compressed files now new a.sections a.answers a.parsed a.known a.raised);
      only = reads_more Stop probe r first now new a h.only;
      given = h.given;
      so = subst (λ x. HasGiven Stop first.sections probe first.answers h.given x) (sym a.answers) h.so;
    }

    in_turn : AnswersInTurn probe first now
    in_turn = (h.given, sym (given_all Stop first.sections probe first.answers now.answers h.given h.so))

    waits_then : (n : ℕ) (load : SplitLoad) (new : ContextState) → Suspends Stop probe n load now new → WaitsByFiles compressed files probe first n load new
    waits_then n load new s = record {
      so = checked (Ok (tt {0})) new s.after;
      waits = same_stop probe now new s.after.sections s.after.answers ∙ s.waits;
      own = subst (λ d. IsLoadOf d n load) (sym s.after.sections) s.load;
    }

  -- it has ended
  module _ {X : Type 0} (shares : Bool) (now : ContextState) (h : HasAnswered compressed files probe first now) (new : ContextState) where
    ended_with : (o : Result X Error) → AfterFramesOver shares Stop probe o now new → AnswersByFiles compressed files probe (of_file (result_map (λ _. tt {0}) o)) first new
    ended_with (Ok x) a =
        let so = checked now h (Ok x) new a.after in record {
          answers = so.after;
          lookup = record {
            in_turn = in_turn new so;
            only = so.only;
            ended = λ _. a.ended tt;
            ready = λ _. a.after.ready tt;
            told = λ _. ap stop_frames a.stored;
            waits = tt;
            memory = λ none few. tt;
            refused = tt;
          };
          refused = tt;
        }
    ended_with (Err e) a =
        let so = checked now h {X = X} (Err e) new a.after in
        let memory = λ (none : WaitsForNone new probe) (few : IsKnownFew Stop new probe).
        not_told e (a.after.memory few (ap is_waiting (sym (same_stop probe now new a.after.sections a.after.answers)) ∙ none)) in record {
          answers = so.after;
          lookup = record {
            in_turn = in_turn new so;
            only = so.only;
            ended = λ fault. a.ended (no_oom e fault.0);
            ready = λ fault. a.after.ready (no_oom e fault.0);
            told = λ fault. ap stop_frames (a.stored (no_oom e fault.0));
            waits = λ q. absurd (no_path e q);
            memory = memory;
            refused = lacks_memory (loader_error_of e) new probe memory;
          };
          refused = fault_before compressed files first new probe (loader_error_of e) so.after (stop_fault files new probe e (λ ne. a.stored (no_oom e ne)));
        }

    ends_then : (o : Result X Error) → AfterFramesOver shares Stop probe o now new → (r : Loading (Unit {0})) → r ≡ of_file (result_map (λ _. tt) o) → AnswersByFiles compressed files probe r first new
    ends_then o a r is = subst (λ q. AnswersByFiles compressed files probe q first new) (sym is) (ended_with o a)

  -- it waits at first, or ends at once
  pub begins_waiting : (n : ℕ) (load : SplitLoad) (new : ContextState) → Suspends Stop probe n load first new → WaitsByFiles compressed files probe first n load new
  begins_waiting = waits_then first none_answered

  pub ends_at_once : {X : Type 0} (shares : Bool) (o : Result X Error) (new : ContextState) → AfterFramesOver shares Stop probe o first new → (r : Loading (Unit {0})) → r ≡ of_file (result_map (λ _. tt) o) → AnswersByFiles compressed files probe r first new
  ends_at_once shares o new a r is = ends_then shares first none_answered new o a r is

  -- it waits for a load of which this holds
  pub waits_still : (n : ℕ) (load : SplitLoad) (now : ContextState) → WaitsByFiles compressed files probe first n load now → (Holds : SplitLoad → Type 0) → Holds load → (new : ContextState) → new ≡ now → WaitsForLoad Holds new probe
  waits_still n load now w Holds so new same = subst (λ c. WaitsForLoad Holds c probe) (sym same) (record { number = n; load = load; waits = w.waits; own = w.own; so = so })

  -- the load was refused, and it still waits
  module _ (n : ℕ) (load : SplitLoad) (now : ContextState) (w : WaitsByFiles compressed files probe first n load now) (e : LoaderError) (h : (e ≡ OutOfMemory) ⊎ ((e ≡ PathNotUtf8) × HasPathNotUtf8 load)) where
    no_end : IsUnitFault e → ⊥
    no_end fault = elim h [ inl q ↦ fault.0 q | inr q ↦ fault.1 q.0 ]

    by_path : e ≡ PathNotUtf8 → HasPathNotUtf8 load
    by_path is = elim h [ inl q ↦ absurd (let no = sym q ∙ is in cc) | inr q ↦ q.1 ]

    pub given_up : IfSome files (λ held. e ≢ OutOfMemory → given_by_files held load ≡ Err e) → (new : ContextState) → new ≡ now → AnswersByFiles compressed files probe (Err e) first new
    given_up refusal new same = subst (AnswersByFiles compressed files probe (Err e) first) (sym same) (record {
      answers = w.so.after;
      lookup = record {
        in_turn = in_turn now w.so;
        only = w.so.only;
        ended = λ fault. absurd (no_end fault);
        ready = λ fault. absurd (no_end fault);
        told = λ fault. absurd (no_end fault);
        waits = λ q. waits_still n load now w HasPathNotUtf8 (by_path q) now refl;
        memory = λ none few. absurd (waits_no_more probe n now none w.waits);
        refused = λ _. inl (ap is_waiting w.waits);
      };
      refused = fault_before compressed files first now probe e w.so.after (refused_by_file compressed files probe n load now w.waits w.own e refusal);
    })

  -- the load was answered by a file
  module _ (n : ℕ) (load : SplitLoad) (now : ContextState) (w : WaitsByFiles compressed files probe first n load now) (x : Option Sections) (by : IfSome files (λ held. given_by_files held load ≡ Ok x)) (made : IfSome x (AreOfSomeFile compressed load)) where
    answered_then : (new : ContextState) → AfterAnswering n x (Ok tt) now new → HasAnswered compressed files probe first new
    answered_then new a = record {
      after = then_answered compressed files first now new w.so.after (answered_by_file compressed files probe n load now w.waits w.own x by made new a);
      only = reads_answered Stop probe n first now new w.waits w.so.only x (Ok tt) a;
      given = w.so.given ++ (Answered x ∷ []);
      so = subst (λ y. HasGiven Stop first.sections probe first.answers (w.so.given ++ (Answered x ∷ [])) y) (sym (a.answers ∙ ap (λ d. answered d now.answers n x) w.so.after.sections))
          (given_more Stop first.sections probe first.answers now.answers w.so.given w.so.so n x (ap (λ d. lookup_stop Stop d now.answers probe) (sym w.so.after.sections) ∙ w.waits) (w.so.given ++ (Answered x ∷ [])) (append_assoc w.so.given (Answered x ∷ [])));
    }

    -- memory was refused for it
    refused_then : (new : ContextState) → AfterAnswering n x (Err reading.OutOfMemory) now new → WaitsByFiles compressed files probe first n load new
    refused_then new a = record {
      so = record {
        after = then_answered compressed files first now new w.so.after
            (unchanged compressed files now new a.sections a.refused.1 (λ k q. subst (λ p. has_parsed p k ≡ true) (sym a.parsed) q) a.refused.2 (subst (λ l. now.steps ≤ l) (sym a.steps) (omega arith)));
        only = reads_answered Stop probe n first now new w.waits w.so.only x (Err reading.OutOfMemory) a;
        given = w.so.given;
        so = subst (λ y. HasGiven Stop first.sections probe first.answers w.so.given y) (sym a.refused.1) w.so.so;
      };
      waits = same_stop probe now new a.sections a.refused.1 ∙ w.waits;
      own = subst (λ d. IsLoadOf d n load) (sym a.sections) w.own;
    }

    pub goes_on : (k : ℕ) (next : SplitLoad) (new : ContextState) → SuspendsAgain Stop probe n x k next now new → WaitsByFiles compressed files probe first k next new
    goes_on k next new (mid, a, s) = waits_then mid (answered_then mid a) k next new s

    pub ends_resumed : {L D S X : Type 0} (shares : Bool) (result : LookupResult L (Result X Error) D S) (o : Result X Error) → result ≡ Output o → (asked : ℕ) → asked ≡ probe → (new lender : ContextState) → new ≡ lender
        → IfOutput result (λ q. AfterResume shares Stop asked n x q now lender) → (r : Loading (Unit {0})) → r ≡ of_file (result_map (λ _. tt) o) → AnswersByFiles compressed files probe r first new
    ends_resumed shares result o is asked same new lender ends rests r told =
        elim (resumed_output shares Stop probe n x now result o is asked same new lender ends rests) [
          | inl (mid, a, b) ↦ ends_then shares mid (answered_then mid a) new o b r told
          | inr (e, a, none) ↦ subst (λ q. AnswersByFiles compressed files probe q first new) (sym (told ∙ ap (λ q. of_file (result_map (λ _. tt {0}) q)) e))
              (given_up n load new (refused_then new a) OutOfMemory (inl refl) (always files (λ held ne. absurd (ne refl))) new refl)
        ]

-- what a lookup gives by files
module _ {compressed : CompressedSections} (files : Option ReadFiles) (probe : ℕ) (first now : ContextState) (a : AfterAnswers compressed files first now) where
  pub gives_by_files : (given : Loading (List FrameRecord)) → AfterFramesByFiles probe given first now → IfErr given (IsFaultByFiles files first probe)
      → IfSome files (λ held. LoadsUnlessOom (λ x. x) given (frames_by_files held first.sections first.answers probe))
  gives_by_files (Ok frames) b h = IfSome_then files a.frames (λ held p. sym (p probe) ∙ frames_ended (given_by_files held) now.sections now.answers probe (b.ended tt) ∙ b.told tt)
  gives_by_files (Err e) b h = h

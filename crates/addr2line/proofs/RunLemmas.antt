-- Calls made one after another (on specs/History.antt).
use Rattle.addr2line.proofs.Common.{◌≡◌, inl, inr, arith, List, [], ◌∷◌, ◌++◌, append_assoc, Ok, Err, refl, sym, ap, subst, ◌∙◌, append-nil, Error, Sections, StaysParsed, ContextState, AfterCall, AfterCalls, AnswersLoad, AsksFrames, AsksLoads, AsksLocation, AsksRange, AsksUnit, Forgets, HasBegun, HistoryCall, IsCutShort, ParsesFunctions, ParsesLines, answers_after, answers_left, replies_to, reply_to, CopiedReply, FirstAnswers}
use Rattle.gimli_read.specs.declared.error.Error.TheVariants.{OutOfMemory}

-- nothing was done of a call
begun_nothing : (d : Sections) (answers : FirstAnswers) (call : HistoryCall) → HasBegun d answers call answers
begun_nothing d answers (AsksLocation probe) = refl
begun_nothing d answers (AsksRange low high) = refl
begun_nothing d answers (AsksFrames probe given) = (0, refl)
begun_nothing d answers (AsksUnit probe given) = (0, refl)
begun_nothing d answers (AsksLoads probe) = refl
begun_nothing d answers (AnswersLoad n x) = inl refl
begun_nothing d answers (Forgets n) = refl
begun_nothing d answers ParsesLines = refl
begun_nothing d answers (ParsesFunctions depth) = λ m e. (0, ((λ k h. absurd (omega arith)), inl refl))

cut_nothing : (d : Sections) (answers : FirstAnswers) (calls : List HistoryCall) → IsCutShort d answers calls answers
cut_nothing d answers [] = refl
cut_nothing d answers (call ∷ calls) = inl (begun_nothing d answers call)

-- calls were made up to these
pub record HasMade (first : ContextState) (all left : List HistoryCall) (replies : List CopiedReply) (now : ContextState) : Type 0 where
  pub sections : now.sections ≡ first.sections
  pub told : replies ++ replies_to first.sections now.answers left ≡ replies_to first.sections first.answers all
  pub rest : answers_after first.sections now.answers left ≡ answers_after first.sections first.answers all
  pub cut : (answers : FirstAnswers) → IsCutShort first.sections now.answers left answers → IsCutShort first.sections first.answers all answers
  pub parsed : StaysParsed first.parsed now.parsed

module _ (first : ContextState) (all : List HistoryCall) where
  pub made_none : HasMade first all all [] first
  made_none = record { sections = refl; told = refl; rest = refl; cut = λ answers h. h; parsed = λ n e. e }

  -- no memory was there before the first call
  pub refused_at_once : {X : Type 0} (e : Error) → e ≡ OutOfMemory → AfterCalls {X = X} all (Err e) first first
  refused_at_once e oom = record { sections = refl; answers = tt; refused = (oom, cut_nothing first.sections first.answers all); parsed = λ n h. h }

  module _ (left : List HistoryCall) (replies : List CopiedReply) (now : ContextState) (made : HasMade first all left replies now) where
    -- all calls were made
    pub made_all : {X : Type 0} (x : X) → left ≡ [] → AfterCalls {X = X} all (Ok x) first now
    made_all x none = record {
      sections = made.sections;
      answers = sym (ap (answers_after first.sections now.answers) none) ∙ made.rest;
      refused = tt;
      parsed = made.parsed;
    }

    pub told_all : left ≡ [] → replies ≡ replies_to first.sections first.answers all
    told_all none = sym (append-nil replies) ∙ ap (λ calls. replies ++ replies_to first.sections now.answers calls) (sym none) ∙ made.told

    module _ (call : HistoryCall) (more : List HistoryCall) (e : left ≡ call ∷ more) (new : ContextState) where
      -- a call was refused
      pub refused_in : {X Y : Type 0} (f : Error) → AfterCall {X = X} call (Err f) now new → AfterCalls {X = Y} all (Err f) first new
      refused_in f a = record {
        sections = a.sections ∙ made.sections;
        answers = tt;
        refused = (a.refused.0, made.cut new.answers (subst (λ calls. IsCutShort first.sections now.answers calls new.answers) (sym e) (inl (subst (λ d. HasBegun d now.answers call new.answers) made.sections a.refused.1))));
        parsed = λ n h. a.parsed n (made.parsed n h);
      }

      left_is : {X : Type 0} (x : X) → AfterCall {X = X} call (Ok x) now new → new.answers ≡ answers_left first.sections now.answers call
      left_is x a = a.answers ∙ ap (λ d. answers_left d now.answers call) made.sections

      -- its reply could not be stored
      pub refused_after : {X Y : Type 0} (x : X) (f : Error) → f ≡ OutOfMemory → AfterCall {X = X} call (Ok x) now new → AfterCalls {X = Y} all (Err f) first new
      refused_after x f oom a = record {
        sections = a.sections ∙ made.sections;
        answers = tt;
        refused = (
          oom,
          made.cut new.answers (subst (λ calls. IsCutShort first.sections now.answers calls new.answers) (sym e)
              (inr (subst (λ answers. IsCutShort first.sections answers more new.answers) (left_is x a) (cut_nothing first.sections new.answers more)))),
        );
        parsed = λ n h. a.parsed n (made.parsed n h);
      }

      -- one more call was made
      pub made_one : {X : Type 0} (x : X) (reply : CopiedReply) → AfterCall {X = X} call (Ok x) now new → reply ≡ reply_to now.sections now.answers call → HasMade first all more (replies ++ (reply ∷ [])) new
      made_one x reply a is =
          let left_to = left_is x a in
          record {
            sections = a.sections ∙ made.sections;
            told = append_assoc replies (reply ∷ []) _
                ∙ ap (λ r. replies ++ (r ∷ replies_to first.sections new.answers more)) (is ∙ ap (λ d. reply_to d now.answers call) made.sections)
                ∙ ap (λ answers. replies ++ (reply_to first.sections now.answers call ∷ replies_to first.sections answers more)) left_to
                ∙ ap (λ calls. replies ++ replies_to first.sections now.answers calls) (sym e) ∙ made.told;
            rest = ap (λ answers. answers_after first.sections answers more) left_to ∙ ap (answers_after first.sections now.answers) (sym e) ∙ made.rest;
            cut = λ answers h. made.cut answers (subst (λ calls. IsCutShort first.sections now.answers calls answers) (sym e) (inr (subst (λ x. IsCutShort first.sections x more answers) left_to h)));
            parsed = λ n h. a.parsed n (made.parsed n h);
          }

-- What holds of a context once a lookup was lent from it that it had stored (on
-- specs/AfterLookups.antt and specs/Skips.antt).
use Rattle.addr2line.proofs.Common.{◌≡◌, inl, inr, ℕ, Bool, true, false, Option, Some, None, option_map, Result, Ok, Err, refl, sym, ap, subst, ◌∙◌, IfErr, OnOk, Error, ◌>>=◌, ExactlyUnlessOom, WasNotRefused, fault_of, Sections, LookupResult, Load, Output, OnFault, LookupStop, Waits, Finds, FindsNothing, is_waiting, readable_view, unit_found, view_of_number, IfLoad, IfOutput, unit_records, UnitIndex, index_units, FirstAnswers, SplitLoad, View, parts_of, AfterFrames, AfterFramesOver, IsLent, IsStored, NeedsNoMemory, Suspends, ContextState, IsFaultOfAsked, IsLoadOf, ended_with, lookup_stop, unit_value, view_found, waiting_unit, found_of_context}
use Rattle.addr2line.specs.AfterAnswering.{AfterAnswering, AfterAnsweringOver, AfterResume}
use Rattle.addr2line.specs.Skips.{AfterSkip, skipped_answers}

-- what holds of a lookup that waits
pub if_load : {L O D S : Type 0} (P Q : L → Type 0) (result : LookupResult L O D S) → ((c : L) → P c → Q c) → IfLoad result P → IfLoad result Q
if_load P Q (Load c) f h = f c h
if_load P Q (Output o) f h = tt

-- what holds of an output
pub if_output : {L O D S : Type 0} (P Q : O → Type 0) (result : LookupResult L O D S) → ((o : O) → P o → Q o) → IfOutput result P → IfOutput result Q
if_output P Q (Load c) f h = tt
if_output P Q (Output o) f h = f o h

-- the refusal of an answer with which a lookup doesn't go on
pub resume_refused : {X : Type 0} (shares : Bool) (faults : OnFault) (probe n : ℕ) (given : Option Sections) (e : Error) (old new : ContextState) → AfterAnsweringOver shares n given (Err e) old new → AfterResume {X = X} shares faults probe n given (Err e) old new
resume_refused shares faults probe n given e old new a =
    let oom = a.after.refused.0 in
    inr (ap (λ x. Err x) oom, subst (λ x. AfterAnswering n given (Err x) old new) oom a.after, λ none. a.no_memory none ∙ ap (λ x. Err x) oom)

-- what is left by a lookup, by whether it was refused alone
pub frames_told : {X : Type 0} (faults : OnFault) (probe : ℕ) (old mid : ContextState) (r : Result X Error) → AfterFrames faults probe r old mid → AfterFrames faults probe (fault_of r) old mid
frames_told faults probe old mid (Ok x) a = record { sections = a.sections; answers = a.answers; parsed = a.parsed; known = a.known; only = a.only; learns = a.learns; details = a.details; raised = a.raised; ready = a.ready; memory = a.memory }
frames_told faults probe old mid (Err e) a = record { sections = a.sections; answers = a.answers; parsed = a.parsed; known = a.known; only = a.only; learns = a.learns; details = a.details; raised = a.raised; ready = a.ready; memory = a.memory }

pub skip_told_so : {X : Type 0} (shares : Bool) (faults : OnFault) (probe : ℕ) (old mid : ContextState) (r : Result X Error) → AfterSkip shares faults probe r old mid → AfterSkip shares faults probe (fault_of r) old mid
skip_told_so shares faults probe old mid (Ok x) a = record { sections = a.sections; answers = a.answers; begun = a.begun; parsed = a.parsed; known = a.known; only = a.only; raised = a.raised; ready = a.ready; memory = a.memory; no_memory = a.no_memory }
skip_told_so shares faults probe old mid (Err e) a = record { sections = a.sections; answers = a.answers; begun = a.begun; parsed = a.parsed; known = a.known; only = a.only; raised = a.raised; ready = a.ready; memory = a.memory; no_memory = a.no_memory }

pub stored_told : {X : Type 0} (faults : OnFault) (probe : ℕ) (c : ContextState) (r : Result X Error) → IsStored faults probe r c → IsStored faults probe (fault_of r) c
stored_told faults probe c (Ok x) h = h
stored_told faults probe c (Err e) h = h

pub fault_told : {X : Type 0} (P : Error → Type 0) (r : Result X Error) → IfErr r P → IfErr (fault_of r) P
fault_told P (Ok x) h = tt
fault_told P (Err e) h = h

pub ok_told : {X : Type 0} (P : Type 0) (r : Result X Error) → OnOk r P → OnOk (fault_of r) P
ok_told P (Ok x) h = h
ok_told P (Err e) h = tt

-- a lookup that has ended gives the same in a context with the same sections and first answers
pub outputs_same : {L V X D S : Type 0} (reading : Sections → FirstAnswers → ℕ → Result V Error) (see : X → V) (probe : ℕ) (old mid : ContextState) (result : LookupResult L (Result X Error) D S) → mid.sections ≡ old.sections → mid.answers ≡ old.answers
    → IfOutput result (λ o. ExactlyUnlessOom see o (reading mid.sections mid.answers probe)) → IfOutput result (λ o. ExactlyUnlessOom see o (reading old.sections old.answers probe))
outputs_same reading see probe old mid result s a h =
    subst (λ x. IfOutput result (λ o. ExactlyUnlessOom see o (reading x old.answers probe))) s
    (subst (λ x. IfOutput result (λ o. ExactlyUnlessOom see o (reading mid.sections x probe))) a h)

stop_ended : (walked : Result (Unit {0}) Error) (stop : LookupStop) (r : Result LookupStop Error) → ExactlyUnlessOom (λ _. stop) walked r → is_waiting r ≡ false → is_waiting (walked >>= λ _. Ok stop) ≡ false
stop_ended (Ok x) stop r h w = sym (ap is_waiting h) ∙ w
stop_ended (Err e) stop r h w = refl

none_waits : (walked : Result (Unit {0}) Error) (stop : LookupStop) → OnOk walked (waiting_unit stop ≡ None) → is_waiting (walked >>= λ _. Ok stop) ≡ false
none_waits (Ok x) (Waits n) h = absurd cc
none_waits (Ok x) (Finds n frames) h = refl
none_waits (Ok x) FindsNothing h = refl
none_waits (Err e) stop h = refl

-- what is lent after a lookup, by the refusal of the lookup
module _ {X : Type 0} (walked : Result (Unit {0}) Error) (stop : LookupStop) where
  lent_told : (o : Result X Error) → IsLent walked stop o → WasNotRefused o → WasNotRefused walked
  lent_told (Ok x) h told = subst (λ (w : Result (Unit {0}) Error). WasNotRefused w) (sym h.0) tt
  lent_told (Err e) h told = elim h [ inl q ↦ subst (λ (w : Result (Unit {0}) Error). WasNotRefused w) (sym q) told | inr q ↦ absurd (told q.0) ]

  lent_refused : (o : Result X Error) → IsLent walked stop o → is_waiting (walked >>= λ _. Ok stop) ≡ false → IfErr o (λ e. walked ≡ Err e)
  lent_refused (Ok x) h w = tt
  lent_refused (Err e) h w = elim h [
    | inl q ↦ q
    | inr q ↦ let no : true ≡ false = sym q.2 ∙ sym (ap (λ r. is_waiting (r >>= λ _. Ok stop)) q.1) ∙ w in absurd cc
  ]

  lent_memory : (o : Result X Error) → IsLent walked stop o → is_waiting (walked >>= λ _. Ok stop) ≡ false → WasNotRefused walked → WasNotRefused o
  lent_memory (Ok x) h w told = tt
  lent_memory (Err e) h w told = subst (λ (r : Result (Unit {0}) Error). WasNotRefused r) (lent_refused (Err e) h w) told

  -- what is so of the refusal of a lookup is so of what is lent
  lent_alone : (P : Error → Type 0) (o : Result X Error) → IfErr walked P → IfErr o (λ e. walked ≡ Err e) → IfErr o P
  lent_alone P (Ok x) h k = tt
  lent_alone P (Err e) h k = subst (λ w. IfErr w P) k h

-- a lookup that was stored and has ended waits for no unit
pub never_waits : (walked : Result (Unit {0}) Error) (stop : LookupStop) (n : ℕ) → OnOk walked (waiting_unit stop ≡ None) → walked ≡ Ok tt → stop ≡ Waits n → ⊥
never_waits walked stop n ended is waits =
    let none : waiting_unit stop ≡ None = subst (λ r. OnOk r (waiting_unit stop ≡ None)) is ended in
    let f : ◌≡◌ {A = Option ℕ} (Some n) None = sym (ap waiting_unit waits) ∙ none in
    cc

module _ (faults : OnFault) (probe : ℕ) (old mid : ContextState) (walked : Result (Unit {0}) Error) where
  module _ (a : AfterFrames faults probe walked old mid) (stored : IsStored faults probe walked mid) where
    same_lookup : lookup_stop faults mid.sections mid.answers probe ≡ lookup_stop faults old.sections old.answers probe
    same_lookup = ap (λ d. lookup_stop faults d mid.answers probe) a.sections ∙ ap (λ x. lookup_stop faults old.sections x probe) a.answers

    -- the output of a lookup
    pub frames_after : {L X D S : Type 0} (new : ContextState) (result : LookupResult L (Result X Error) D S) → IfOutput result (λ o. (new ≡ mid) × IsLent walked mid.stop o) → IfOutput result (λ o. AfterFrames faults probe o old new)
    frames_after new (Load c) h = tt
    frames_after {X = X} new (Output o) h = subst (λ n. AfterFrames {X = X} faults probe o old n) (sym h.0) (record {
      sections = a.sections;
      answers = a.answers;
      parsed = a.parsed;
      known = a.known;
      only = a.only;
      learns = a.learns;
      details = a.details;
      raised = a.raised;
      ready = λ told. a.ready (lent_told walked mid.stop o h.1 told);
      memory = λ few ended. lent_memory walked mid.stop o h.1 (stop_ended walked mid.stop (lookup_stop faults mid.sections mid.answers probe) stored (ap is_waiting same_lookup ∙ ended)) (a.memory few ended);
    })

    -- what it came to is stored, and it waits for nothing
    lent_stored : {X : Type 0} (o : Result X Error) → IsLent walked mid.stop o → IsStored faults probe o mid
    lent_stored (Ok x) h = subst (λ r. IsStored faults probe r mid) h.0 stored
    lent_stored (Err e) h = elim h [ inl q ↦ subst (λ r. IsStored faults probe r mid) q stored | inr q ↦ λ ne. absurd (ne q.0) ]

    lent_ended : {X : Type 0} (o : Result X Error) → IsLent walked mid.stop o → WasNotRefused o → is_waiting (lookup_stop faults mid.sections mid.answers probe) ≡ false
    lent_ended (Ok x) h told = ap is_waiting (lent_stored (Ok x) h) ∙ h.1
    lent_ended {X = X} (Err e) h told = ap is_waiting (lent_stored {X = X} (Err e) h told)

    pub frames_over : {L X D S : Type 0} (shares : Bool) → (NeedsNoMemory shares faults mid probe → IfErr walked (IsFaultOfAsked faults old.sections old.answers probe)) → (new : ContextState) (result : LookupResult L (Result X Error) D S) → IfOutput result (λ o. (new ≡ mid) × IsLent walked mid.stop o)
        → IfOutput result (λ o. AfterFramesOver shares faults probe o old new)
    frames_over shares alone new (Load c) h = tt
    frames_over {L = L} {X = X} {D = D} {S = S} shares alone new (Output o) h = record {
      after = frames_after {L = L} {X = X} {D = D} {S = S} new (Output o) h;
      stored = subst (λ n. IsStored faults probe o n) (sym h.0) (lent_stored o h.1);
      ended = λ told. subst (λ (n : ContextState). is_waiting (lookup_stop faults n.sections n.answers probe) ≡ false) (sym h.0) (lent_ended o h.1 told);
      no_memory = λ none ended. lent_alone walked mid.stop (IsFaultOfAsked faults old.sections old.answers probe) o (alone (subst (λ n. NeedsNoMemory shares faults n probe) h.0 none))
          (lent_refused walked mid.stop o h.1 (stop_ended walked mid.stop (lookup_stop faults mid.sections mid.answers probe) stored (ap is_waiting same_lookup ∙ ended)));
    }

    -- the rest of a lookup that waits
    pub suspends : (number : ℕ) (load : SplitLoad) (new : ContextState) → new ≡ mid → walked ≡ Ok tt → mid.stop ≡ Waits number → IsLoadOf mid.sections number load → Suspends faults probe number load old new
    suspends number load new held is waits of = record {
      waits = sym same_lookup ∙ subst (λ r. ExactlyUnlessOom (λ _. mid.stop) r (lookup_stop faults mid.sections mid.answers probe)) is stored ∙ ap (λ s. Ok s) waits;
      load = subst (λ d. IsLoadOf d number load) a.sections of;
      after = subst (λ n. AfterFrames {X = Unit {0}} faults probe (Ok tt) old n) (sym held) (subst (λ r. AfterFrames {X = Unit {0}} faults probe r old mid) is a);
    }

  module _ (shares : Bool) (a : AfterSkip shares faults probe walked old mid) where
    -- the output of a lookup of which none was answered to each load
    pub skip_after : {L X D S : Type 0} (new : ContextState) (result : LookupResult L (Result X Error) D S) → OnOk walked (waiting_unit mid.stop ≡ None) → IfOutput result (λ o. (new ≡ mid) × IsLent walked mid.stop o) → IfOutput result (λ o. AfterSkip shares faults probe o old new)
    skip_after new (Load c) ended h = tt
    skip_after {X = X} new (Output o) ended h = subst (λ n. AfterSkip {X = X} shares faults probe o old n) (sym h.0) (record {
      sections = a.sections;
      answers = λ told. a.answers (lent_told walked mid.stop o h.1 told);
      begun = a.begun;
      parsed = a.parsed;
      known = a.known;
      only = a.only;
      raised = a.raised;
      ready = λ told. a.ready (lent_told walked mid.stop o h.1 told);
      memory = λ few. lent_memory walked mid.stop o h.1 (none_waits walked mid.stop ended) (a.memory few);
      no_memory = λ none. lent_alone walked mid.stop (IsFaultOfAsked faults mid.sections mid.answers probe) o (a.no_memory none) (lent_refused walked mid.stop o h.1 (none_waits walked mid.stop ended));
    })

    pub outputs_skipped : {L V X D S : Type 0} (reading : Sections → FirstAnswers → ℕ → Result V Error) (see : X → V) (new : ContextState) (result : LookupResult L (Result X Error) D S) → IfOutput result (λ o. (new ≡ mid) × IsLent walked mid.stop o)
        → IfOutput result (λ o. ExactlyUnlessOom see o (reading mid.sections mid.answers probe)) → IfOutput result (λ o. ExactlyUnlessOom see o (reading old.sections (skipped_answers faults old.sections probe old.answers) probe))
    outputs_skipped {L = L} {X = X} {D = D} {S = S} reading see new result l h = by result l h
      where
        same : WasNotRefused walked → reading mid.sections mid.answers probe ≡ reading old.sections (skipped_answers faults old.sections probe old.answers) probe
        same told = ap (λ d. reading d mid.answers probe) a.sections ∙ ap (λ x. reading old.sections x probe) (a.answers told)

        by : (r : LookupResult L (Result X Error) D S) → IfOutput r (λ o. (new ≡ mid) × IsLent walked mid.stop o) → IfOutput r (λ o. ExactlyUnlessOom see o (reading mid.sections mid.answers probe))
            → IfOutput r (λ o. ExactlyUnlessOom see o (reading old.sections (skipped_answers faults old.sections probe old.answers) probe))
        by (Load c) l h = tt
        by (Output (Ok x)) l h = sym (same (lent_told walked mid.stop (Ok x) l.1 tt)) ∙ h
        by (Output (Err e)) l h = λ ne. sym (same (lent_told {X = X} walked mid.stop (Err e) l.1 ne)) ∙ h ne

-- what is found by a lookup that has ended
pub found_lent : {V : Type 0} (faults : OnFault) (value_of : LookupStop → Option View → V) (c : ContextState) (probe : ℕ) (found : V) → lookup_stop faults c.sections c.answers probe ≡ Ok c.stop → waiting_unit c.stop ≡ None → found ≡ value_of c.stop (view_found c.sections c.answers c.stop)
    → found_of_context faults value_of c probe ≡ Ok (Some found)
found_lent {V = V} faults value_of c probe found h w f =
    ap (λ r. r >>= λ s. Ok (ended_with (value_of s (view_found c.sections c.answers s)) s)) h ∙ ap (λ o. Ok o) (ended (value_of c.stop (view_found c.sections c.answers c.stop)) c.stop w ∙ ap (λ v. Some v) (sym f))
  where
    ended : (v : V) (s : LookupStop) → waiting_unit s ≡ None → ended_with v s ≡ Some v
    ended v (Waits n) e = absurd cc
    ended v (Finds n fs) e = refl
    ended v FindsNothing e = refl

-- the unit of the view that a lookup has found
pub unit_found_is : (d : Sections) (answers : FirstAnswers) (stop : LookupStop) (m : UnitIndex) → index_units d ≡ Ok m → unit_found d (unit_records m.units) answers stop ≡ unit_value stop (view_found d answers stop)
unit_found_is d answers (Waits n) m e = refl
unit_found_is d answers FindsNothing m e = refl
unit_found_is d answers (Finds n frames) m e =
    sym (ap (λ (r : Result UnitIndex Error). option_map parts_of (elim r [ Err f ↦ None | Ok i ↦ readable_view (view_of_number d (unit_records i.units) answers n) ])) e)

-- Answers to loads outside a lookup, in a context (on specs/Loads.antt).
use Rattle.addr2line.proofs.Common.{◌≡◌, ◌⊎◌, inl, inr, ℕ, Bool, false, true, List, [], slice_get, Option, Result, Ok, Err, sym, ap, subst, ◌∙◌, IfErr, IfOk, IsOk, OnOk, Error, fault_of, Sections, UnitRecord, Scope, UnitRange, cover, asked_frames, stop_along, knows_at, NoneOpen, forget_result, is_open_at, load_result, loads_along, all_lines, LeadTo, IsReadyAt, StaysKnown, UnitsState, SplitLoad, IsContext, lines_of_all, as_context, AfterForgetting, AfterLoading, AfterParse, AfterPreload, IsAllKnown, IsNotOpen, NoneOpenAt, ReachesAllOf, ReadsFunctionsNoMemory, StaysRead, forget_reply, parse_reply, parsed_answers, result_map}
use Rattle.addr2line.specs.Common.{OutOfMemory}
use Rattle.addr2line_units.specs.declared.parses.ReadingDepth.{ReadingDepth}
use Rattle.addr2line_units.specs.declared.parses.ReadingDepth.TheVariants as depths
use Rattle.addr2line_units.specs.UnitsAfter as left
use Rattle.addr2line_units.specs.ParsesLaws.{IsReached}
use Rattle.addr2line_units.specs.Parses.{AreReadyFor, ReadsNoMemory, answers_after_parse, read_of_units}
use Rattle.addr2line.specs.Loads.{load_reply}
use Rattle.addr2line.proofs.AnsweredLemmas.{answers_are, read_context, scope_same, units_same}
use Rattle.addr2line.proofs.ContextLemmas.{at_made, at_now, by_made, of_made, of_now, or_made}

-- along no ranges no loads are listed
pub none_listed : {X : Type 0} (items : X → List SplitLoad) (load : ℕ → Option SplitLoad) (ranges : List UnitRange) (r : Result X Error) → ranges ≡ [] → IsOk r → IfOk r (λ x. items x ≡ loads_along load ranges) → result_map items r ≡ Ok []
none_listed items load ranges (Ok x) none ok h = ap (λ l. Ok l) (h ∙ ap (loads_along load) none)
none_listed items load ranges (Err e) none ok h = absurd cc

-- what a result gives changes nothing of whether it is refused
pub listed_ok : {X Y : Type 0} (f : X → Y) (r : Result X Error) → IsOk r → IsOk (result_map f r)
listed_ok f (Ok x) h = h
listed_ok f (Err e) h = h

pub listed_refused : {X Y : Type 0} (f : X → Y) (r : Result X Error) → IfErr r (λ e. e ≡ OutOfMemory) → IfErr (result_map f r) (λ e. e ≡ OutOfMemory)
listed_refused f (Ok x) h = tt
listed_refused f (Err e) h = h

module _ (ranges : List UnitRange) (u : UnitsState) (i : IsContext ranges u) where
  abbrev d : Sections
  d = u.scope.file.sections

  abbrev us : List UnitRecord
  us = u.scope.file.units

  pub load_is : (n : ℕ) (given : Option Sections) → load_reply d u.answers n given ≡ load_result d us u.answers n given
  load_is n given = by_made ranges u i (λ s xs rs. load_result s.file.sections s.file.units u.answers n given)

  pub forget_is : (n : ℕ) → forget_reply d n ≡ forget_result us n
  forget_is n = by_made ranges u i (λ s xs rs. forget_result s.file.units n)

  pub parse_is : (depth : ReadingDepth) → parse_reply depth d u.answers ≡ read_of_units depth u.scope us u.answers
  parse_is depth = by_made ranges u i (λ s xs rs. read_of_units depth s s.file.units u.answers)

  parsed_is : (depth : ReadingDepth) → parsed_answers depth d u.answers ≡ answers_after_parse depth u.scope us u.answers
  parsed_is depth = or_made ranges u i u.answers (λ s xs rs. answers_after_parse depth s s.file.units u.answers)

  pub not_open_is : (n : ℕ) → IsNotOpen (as_context u) n → is_open_at d us u.answers n ≡ false
  not_open_is n h = at_made ranges u i (λ s xs rs. is_open_at s.file.sections s.file.units u.answers n ≡ false) h

  pub none_open_are : (probe : ℕ) → NoneOpenAt (as_context u) probe → NoneOpen d us u.answers (cover probe ranges)
  none_open_are probe h = at_made ranges u i (λ s xs rs. NoneOpen s.file.sections s.file.units u.answers (cover probe rs)) h

  stays_read : (now : UnitsState) → left.StayRead u now → StaysRead (as_context u) (as_context now)
  stays_read now stays = record {
    sections = ap (λ (x : UnitsState). x.scope.file.sections) stays;
    parsed = ap (λ (x : UnitsState). x.parsed) stays;
    steps = ap (λ (x : UnitsState). x.steps) stays;
  }

  pub after_load : {shares : Bool} (n : ℕ) (given : Option Sections) (r : Result (Unit {0}) Error) (now : UnitsState) → left.AfterLoad shares n given r u now → AfterLoading n given r (as_context u) (as_context now)
  after_load n given r now a = record {
    stays = stays_read now a.stays;
    answers = λ told. a.answers told ∙ sym (answers_are ranges u i n given);
    begun = elim a.begun [ inl e ↦ inl e | inr e ↦ inr (e ∙ sym (answers_are ranges u i n given)) ];
    refused = λ ne. a.refused (λ e. ne (e ∙ sym (load_is n given)));
    known = of_made ranges u i (λ s xs rs. is_open_at s.file.sections s.file.units u.answers n ≡ false → StaysKnown u.known now.known) a.known;
    same = a.same;
    others = a.others;
    functions = a.functions;
  }

  pub after_forget : (n : ℕ) (now : UnitsState) → left.AfterForget n u now → AfterForgetting n (as_context u) (as_context now)
  after_forget n now a = record { stays = stays_read now a.stays; answers = a.answers; same = a.same; others = a.others; functions = a.functions }

  pub after_preload : (probe : ℕ) (now : UnitsState) → left.AfterListing (LeadTo (cover probe ranges)) u now → AfterPreload probe (as_context u) (as_context now)
  after_preload probe now a = record {
    stays = stays_read now a.stays;
    answers = a.answers;
    known = a.known;
    learns = of_made ranges u i (λ s xs rs. (n : ℕ) → (slice_get now.known n ≡ slice_get u.known n) ⊎ LeadTo (cover probe rs) n) a.learns;
    functions = a.functions;
  }

  module _ {shares : Bool} (depth : ReadingDepth) (r : Result (Unit {0}) Error) (now : UnitsState) (a : left.AfterReading shares depth r u now) where
    pub after_parse : AfterParse depth r (as_context u) (as_context now)
    after_parse = record {
      stays = stays_read now a.stays;
      answers = λ told. a.answers told ∙ sym (parsed_is depth);
      begun = of_made ranges u i (λ s xs rs. (n : ℕ) × left.HasComeTo depth r s s.file.units u.answers u.known now.answers now.known n) a.begun;
      known = of_made ranges u i (λ s xs rs. (probe n : ℕ) → is_open_at s.file.sections s.file.units u.answers n ≡ false → knows_at u.known probe n ≡ true → knows_at now.known probe n ≡ true) a.known;
      whole = of_made ranges u i (λ s xs rs. (needed : ReadingDepth) (n : ℕ) → is_open_at s.file.sections s.file.units u.answers n ≡ false → IsReadyAt needed u.known n → IsReadyAt needed now.known n) a.whole;
      details = a.details;
      read = a.read;
      whole_known = a.whole_known;
      memory = λ known. a.memory (at_now ranges u i now (scope_same ranges u i now a.stays) (units_same ranges u i now a.stays) (λ s xs rs. AreReadyFor depth s s.file.units now.answers now.known) known);
      ready = λ told. of_now ranges u i now (scope_same ranges u i now a.stays) (units_same ranges u i now a.stays) (λ s xs rs. AreReadyFor depth s s.file.units now.answers now.known) (a.ready told);
      exact = λ known. a.exact (at_made ranges u i (λ s xs rs. AreReadyFor depth s s.file.units u.answers u.known) known) ∙ sym (parse_is depth);
      same = λ known. a.same (at_made ranges u i (λ s xs rs. AreReadyFor depth s s.file.units u.answers u.known) known);
    }

    -- where the parse takes no memory, a refusal is the fault of functions
    pub parsed_alone : ReadsFunctionsNoMemory shares depth (as_context now) → IfErr r (λ e. parse_reply depth d u.answers ≡ Err e)
    parsed_alone none = subst (λ given. IfErr r (λ e. given ≡ Err e)) (sym (parse_is depth))
        (a.no_memory (at_now ranges u i now (scope_same ranges u i now a.stays) (units_same ranges u i now a.stays) (λ s xs rs. ReadsNoMemory shares depth s s.file.units now.answers now.known) none))

    pub all_known : depth ≡ depths.Details → OnOk r (IsAllKnown (as_context now))
    all_known = a.all

  -- no lookup waits or has a fault after a parse of all details
  pub all_reached : {shares : Bool} (depth : ReadingDepth) (r : Result (Unit {0}) Error) (now : UnitsState) → left.AfterReading shares depth r u now → depth ≡ depths.Details → OnOk r (ReachesAllOf (as_context now))
  all_reached depth (Err f) now a e = tt
  all_reached depth (Ok x) now a e = λ lines faults probe.
      subst IsReached (sym (by_made ranges now (read_context ranges u i now a.stays) (λ s xs rs. stop_along (asked_frames faults s xs now.answers probe) (cover probe rs))))
      (a.reached e (sym (by_made ranges u i (λ s xs rs. fault_of (all_lines s.file.sections xs))) ∙ subst (λ (s : Scope). lines_of_all s.file.sections ≡ Ok tt) (scope_same ranges u i now a.stays) lines) faults probe (cover probe ranges))

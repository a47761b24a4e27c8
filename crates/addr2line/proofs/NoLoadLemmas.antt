-- Lookups by files that answer no load (on specs/LoadsByFiles.antt).
use Rattle.addr2line.proofs.Common.{◌≡◌, ◌≢◌, ◌&&◌, ◌||◌, inl, inr, ℕ, Bool, true, false, not, List, [], ◌∷◌, Option, Result, Ok, Err, refl, sym, ap, subst, ◌∙◌, Error, Sections, LoaderError, OutOfMemory, Loading, LoadsUnlessOom, Stop, UnitRange, cover, FrameRecord, LookupAsks, answer_of, asks_lines_of, ends_lookup, inlined_at_number, holds_along, is_waiting, main_scope, knows_at, StaysParsed, has_parsed, UnitIndex, index_units, FramesResult, ContextState, IsUncovered, ReadFiles, IsKnownFew, TakesMemory, has_few_of, StaysKnown, asked_of, lookup_stop, FirstAnswers}
use Rattle.addr2line_lines.specs.InlineRoom.{exceeds_inline_room}
use Rattle.addr2line.specs.declared.compressed.CompressedSections.{CompressedSections}
use Rattle.addr2line.specs.FramesByFiles.{ended_frames_of, stop_frames}
use Rattle.addr2line.specs.LoadsByFiles.{AfterAnswers, AfterFramesByFiles, AnswersInTurn, MayLackMemory, WaitsForNone}
use Rattle.addr2line.proofs.HistoryLemmas.{given_ended}
use Rattle.addr2line.proofs.UncoveredLemmas.{uncovered_few, uncovered_stop}
use Rattle.addr2line.proofs.Facts.{both_more}
use Rattle.addr2line_lines.proofs.Facts.{ok_is}

-- along ranges what follows of each number
pub holds_more : (h k : ℕ → Bool) (frames : ℕ → FramesResult) (ranges : List UnitRange) → ((n : ℕ) → h n ≡ true → k n ≡ true) → holds_along h frames ranges ≡ true → holds_along k frames ranges ≡ true
holds_more h k frames [] f e = refl
holds_more h k frames (r ∷ ranges) f e =
    both_more (h r.unit) (ends_lookup (frames r.unit)) (holds_along h frames ranges) (k r.unit) (holds_along k frames ranges) (f r.unit) (holds_more h k frames ranges f) e

-- a number of which something doesn't hold that doesn't hold along ranges
lacks_along : (h : ℕ → Bool) (frames : ℕ → FramesResult) (ranges : List UnitRange) → holds_along h frames ranges ≡ false → (n : ℕ) × LookupAsks frames ranges n × (h n ≡ false)
lacks_along h frames [] e = absurd cc
lacks_along h frames (r ∷ ranges) e = by (h r.unit) (ends_lookup (frames r.unit)) refl refl (lacks_along h frames ranges) e
  where
    by : (a b : Bool) → h r.unit ≡ a → ends_lookup (frames r.unit) ≡ b → (holds_along h frames ranges ≡ false → (n : ℕ) × LookupAsks frames ranges n × (h n ≡ false)) → (a && (b || holds_along h frames ranges)) ≡ false
        → (n : ℕ) × LookupAsks frames (r ∷ ranges) n × (h n ≡ false)
    by false b p q later k = (r.unit, inl refl, p)
    by true true p q later k = absurd cc
    by true false p q later k = let rest = later k in (rest.0, inr (q, rest.1), rest.2)

-- whether all is known that a lookup asks for, and at most 16 inlined functions stand there
abbrev few_along : ContextState → ℕ → UnitIndex → Bool
few_along c probe m = holds_along (has_few_of c probe m) (asked_of Stop c.sections c.answers probe m) (cover probe m.ranges)

-- where it isn't so, a lookup takes memory
takes_if_not : (c : ContextState) (probe : ℕ) → (IsKnownFew Stop c probe → ⊥) → TakesMemory Stop c probe
takes_if_not c probe never = by_index (index_units c.sections) refl
  where
    by_held : (m : UnitIndex) → index_units c.sections ≡ Ok m → (b : Bool) → few_along c probe m ≡ b → TakesMemory Stop c probe
    by_held m is true k = absurd (never (λ x e. subst (λ y. few_along c probe y ≡ true) (ok_is m x (sym is ∙ e)) k))
    by_held m is false k = (m, is, lacks_along (has_few_of c probe m) (asked_of Stop c.sections c.answers probe m) (cover probe m.ranges) k)

    by_index : (r : Result UnitIndex Error) → index_units c.sections ≡ r → TakesMemory Stop c probe
    by_index (Ok m) is = by_held m is (few_along c probe m) refl
    by_index (Err e) is = absurd (never (λ x q. absurd (let f : ◌≡◌ {A = Result UnitIndex Error} (Err e) (Ok x) = sym is ∙ q in cc)))

-- where memory was refused
pub lacks_memory : (e : LoaderError) (c : ContextState) (probe : ℕ) → (WaitsForNone c probe → IsKnownFew Stop c probe → e ≢ OutOfMemory) → e ≡ OutOfMemory → MayLackMemory c probe
lacks_memory e c probe h oom = by_stop (is_waiting (lookup_stop Stop c.sections c.answers probe)) refl
  where
    by_stop : (b : Bool) → is_waiting (lookup_stop Stop c.sections c.answers probe) ≡ b → MayLackMemory c probe
    by_stop true w = inl w
    by_stop false w = inr (w, takes_if_not c probe (λ few. h w few oom))

-- where all was known that a lookup asks for, it still is
module _ (probe : ℕ) (old new : ContextState) where
  abbrev few_at : Sections → FirstAnswers → UnitIndex → ℕ → Bool
  few_at d answers m n = (knows_at new.known probe n && (not (asks_lines_of (main_scope d m) m.units answers probe n) || has_parsed new.parsed n))
      && not (exceeds_inline_room (inlined_at_number (main_scope d m) m.units answers probe n))

  abbrev FewBy : Sections → FirstAnswers → Type 0
  FewBy d answers = (m : UnitIndex) → index_units d ≡ Ok m → holds_along (few_at d answers m) (asked_of Stop d answers probe m) (cover probe m.ranges) ≡ true

  pub few_stays : new.sections ≡ old.sections → new.answers ≡ old.answers → StaysKnown old.known new.known → StaysParsed old.parsed new.parsed → IsKnownFew Stop old probe → IsKnownFew Stop new probe
  few_stays s a known parsed few = subst (λ d. FewBy d new.answers) (sym s) (subst (λ x. FewBy old.sections x) (sym a) (λ m e. holds_more (has_few_of old probe m) (few_at old.sections old.answers m) _ (cover probe m.ranges) (stays m) (few m e)))
    where
      stays : (m : UnitIndex) (n : ℕ) → has_few_of old probe m n ≡ true → few_at old.sections old.answers m n ≡ true
      stays m n e =
          let scope = main_scope old.sections m in
          let asks = not (asks_lines_of scope m.units old.answers probe n) in
          let few_there = not (exceeds_inline_room (inlined_at_number scope m.units old.answers probe n)) in
          let before = knows_at old.known probe n && (asks || has_parsed old.parsed n) in
          let after = knows_at new.known probe n && (asks || has_parsed new.parsed n) in
          both_more before false few_there after few_there (both_more _ asks (has_parsed old.parsed n) _ (has_parsed new.parsed n) ((known n).at probe) (parsed n)) (λ q. q) e

-- what a lookup gives by files that waits for no answer
module _ {compressed : CompressedSections} (files : Option ReadFiles) (probe : ℕ) (first now : ContextState) (a : AfterAnswers compressed files first now) where
  module _ (w : WaitsForNone first probe) where
    none_now : WaitsForNone now probe
    none_now = ap is_waiting (a.ended probe w) ∙ w

    -- none was given to it, and all that was known that it asks for still is
    few_later : AnswersInTurn probe first now → IsKnownFew Stop first probe → IsKnownFew Stop now probe
    few_later t few =
        let same = t.1 ∙ given_ended Stop first.sections probe first.answers t.0 w in
        few_stays probe first now a.sections same (λ n. a.known n (ap (λ x. answer_of x n) same)) a.parsed few

    as_first : ended_frames_of first probe ≡ ended_frames_of now probe
    as_first = ap stop_frames (sym (a.ended probe w))

    pub gives_if_none : (given : Loading (List FrameRecord)) → AfterFramesByFiles probe given first now → LoadsUnlessOom (λ x. x) given (ended_frames_of first probe)
    gives_if_none (Ok frames) b = as_first ∙ b.told tt
    gives_if_none (Err e) b = λ ne. as_first ∙ b.told (ne, λ q. let no = sym (ap is_waiting (b.waits q).waits) ∙ none_now in cc)

    pub gives_exactly : (given : Loading (List FrameRecord)) → AfterFramesByFiles probe given first now → IsKnownFew Stop first probe → ended_frames_of first probe ≡ given
    gives_exactly (Ok frames) b few = gives_if_none (Ok frames) b
    gives_exactly (Err e) b few = gives_if_none (Err e) b (b.memory none_now (few_later b.in_turn few))

-- what it comes to where no unit covers the probe, and no memory is refused
pub last_frames : (probe : ℕ) (c : ContextState) → IsUncovered c probe → (given : Loading (List FrameRecord)) → (WaitsForNone c probe → IsKnownFew Stop c probe → ended_frames_of c probe ≡ given) → ◌≡◌ {A = Loading (List FrameRecord)} (Ok []) given
last_frames probe c u given h =
    let stop = uncovered_stop Stop probe c u in
    sym (ap stop_frames stop) ∙ h (ap is_waiting stop) (uncovered_few Stop probe c u)

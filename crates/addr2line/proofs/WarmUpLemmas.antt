-- Lookups in a context that has read all (on specs/WarmUp.antt).
use Rattle.addr2line.proofs.Common.{◌≡◌, ℕ, ◌&&◌, ◌||◌, Bool, true, false, not, List, [], ◌∷◌, Result, Ok, Err, refl, sym, ap, subst, ◌∙◌, Error, Sections, OnFault, UnitRange, cover, holds_until, LookupStop, Waits, Finds, FindsNothing, asks_lines_of, inlined_at_number, holds_along, is_waiting, main_scope, knows_at, StaysParsed, has_parsed, UnitIndex, index_units, FirstAnswers, IsKnownFew, has_few_of, ContextState, lines_of_all, IsAllKnown, asked_of, lookup_stop, ends_lookup, located_frames}
use Rattle.addr2line_lines.specs.InlineRoom.{exceeds_inline_room}
use Rattle.addr2line_units.specs.ParsesLaws.{IsReached}
use Rattle.addr2line.specs.WarmUp.{FindsAllWhenWarm, IsFewInlined, IsWarm, LocatesWhenWarm}
use Rattle.addr2line.proofs.NoLoadLemmas.{holds_more}
use Rattle.addr2line.proofs.Facts.{all_hold}

-- what is warm stays so where nothing is forgotten
warm_stays : (old new : ContextState) → IsWarm old → new.sections ≡ old.sections → new.answers ≡ old.answers → StaysParsed old.parsed new.parsed → IsAllKnown new → IsWarm new
warm_stays old new w s a parsed known = record {
  lines = ap lines_of_all s ∙ w.lines;
  parsed = λ n. parsed n (w.parsed n);
  known = known;
  reaches = λ l faults probe. subst (λ d. IsReached (lookup_stop faults d new.answers probe)) (sym s) (subst (λ x. IsReached (lookup_stop faults old.sections x probe)) (sym a) (w.reaches w.lines faults probe));
}

-- what is reached doesn't wait
reached_ends : (s : Result LookupStop Error) → IsReached s → is_waiting s ≡ false
reached_ends (Ok (Waits n)) h = absurd h
reached_ends (Ok (Finds n frames)) h = refl
reached_ends (Ok FindsNothing) h = refl
reached_ends (Err e) h = absurd h

-- all is known of a few
known_few : (faults : OnFault) (c : ContextState) (probe : ℕ) → IsWarm c → IsFewInlined faults c probe → IsKnownFew faults c probe
known_few faults c probe w few m e = holds_more (λ n. not (exceeds_inline_room (inlined_at_number (main_scope c.sections m) m.units c.answers probe n))) (has_few_of c probe m) (asked_of faults c.sections c.answers probe m) (cover probe m.ranges) each (few m e)
  where
    each : (n : ℕ) → not (exceeds_inline_room (inlined_at_number (main_scope c.sections m) m.units c.answers probe n)) ≡ true → has_few_of c probe m n ≡ true
    each n h = all_hold (knows_at c.known probe n) (has_parsed c.parsed n) (not (asks_lines_of (main_scope c.sections m) m.units c.answers probe n)) _ (w.known probe n) (w.parsed n) h

-- the functions that are inlined at an address depend on the sections and first answers alone
module _ (faults : OnFault) (probe : ℕ) (old new : ContextState) where
  abbrev FewBy : Sections → FirstAnswers → Type 0
  FewBy d answers = (m : UnitIndex) → index_units d ≡ Ok m
      → holds_along (λ n. not (exceeds_inline_room (inlined_at_number (main_scope d m) m.units answers probe n))) (asked_of faults d answers probe m) (cover probe m.ranges) ≡ true

  few_stays : new.sections ≡ old.sections → new.answers ≡ old.answers → IsFewInlined faults old probe → IsFewInlined faults new probe
  few_stays s a few = subst (λ d. FewBy d new.answers) (sym s) (subst (λ x. FewBy old.sections x) (sym a) few)

pub finds_all : FindsAllWhenWarm
finds_all faults probe result old new w after =
    let reached = w.reaches w.lines faults probe in
    let warm = warm_stays old new w after.sections after.answers after.parsed (λ p n. (after.known n).at p (w.known p n)) in
    record {
      reached = reached;
      warm = warm;
      memory = λ few. after.memory (known_few faults new probe warm (few_stays faults probe old new after.sections after.answers few)) (reached_ends (lookup_stop faults old.sections old.answers probe) reached);
    }

all_until : (ends holds : ℕ → Bool) → ((n : ℕ) → holds n ≡ true) → (ranges : List UnitRange) → holds_until ends holds ranges ≡ true
all_until ends holds all [] = refl
all_until ends holds all (r ∷ ranges) = by (holds r.unit) (ends r.unit) (all r.unit) (all_until ends holds all ranges)
  where
    by : (h b : Bool) {rest : Bool} → h ≡ true → rest ≡ true → (h && (b || rest)) ≡ true
    by true true e f = refl
    by true false e f = f
    by false b e f = absurd cc

pub locates : LocatesWhenWarm
locates probe result old new w after = (
  λ m e. all_until (λ n. ends_lookup (located_frames old.sections m.units probe n)) (has_parsed old.parsed) w.parsed (cover probe m.ranges),
  warm_stays old new w after.stays.sections after.stays.answers after.stays.parsed (λ p n. subst (λ k. knows_at k p n ≡ true) (sym after.stays.known) (w.known p n)),
)

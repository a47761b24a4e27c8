-- Lookups of frames where files answer loads (on specs/FramesByFiles.antt and
-- specs/LoadsByFiles.antt).
use Rattle.addr2line.proofs.Common.{◌≡◌, ◌≢◌, ◌⊎◌, inl, inr, ℕ, zero, suc, ◌<◌, arith, Bool, true, false, List, [], ◌∷◌, length, slice_get, Option, Some, None, option_map, Result, Ok, Err, refl, sym, ap, subst, ◌∙◌, eqb_tells, slice_get-map, set, is_none, Error, ◌>>=◌, Sections, UnitRecord, LoaderError, Loading, Scope, before_others, is_open_at, load_of_number, loads_along, Stop, UnitRange, cover, FrameRecord, LookupStop, Waits, after_fault, answer_of, asked_frames, frames_of_number, is_waiting, main_scope, or_stop, stop_along, with_answer, FramesResult, frames_in, UnitIndex, index_units, IndexedUnit, unit_records, FirstAnswers, SplitLoad, awaited_by, awaited_load, decided_answer, is_open, load_of_unit, verdict_by, waits_listed, answered, IsLoadOf, loads_at, lookup_stop, stop_in, of_file, frames_by_lines, get_set_other}
use Rattle.std.specs.Prelude.{if◌then◌else◌, is_some, unwrap_or}
use Rattle.addr2line_units.proofs.LoadsAnswerLemmas.{decided_if_open}
use Rattle.addr2line_units.proofs.LoadsLemmas.{open_awaits}
use Rattle.addr2line_units.proofs.FramesWaitLemmas.{same_number}
use Rattle.addr2line.proofs.SkipLemmas.{decided_stop_along}
use Rattle.addr2line.specs.FramesByFiles.{GivesAnswers, answer_by, first_frames, frames_by_answers, frames_in_units, frames_of_unit, frames_or_fault, frames_with, or_rest, stop_frames}
use Rattle.addr2line.specs.LoadsByFiles.{StayAnswered}
use Rattle.addr2line_units.proofs.Facts.{no_answer}

pub none_if_open : (scope : Scope) (u : IndexedUnit) (answer : Option (Option Sections)) (probe : ℕ) → is_open scope.file.sections u.unit answer ≡ true → frames_in scope u answer probe ≡ Ok None
unfolding frames_by_lines
none_if_open scope u answer probe e = by (is_open scope.file.sections u.unit answer) _ e
  where
    by : (b : Bool) (r : FramesResult) → b ≡ true → (if b then Ok None else r) ≡ Ok None
    by true r h = refl
    by false r h = absurd cc

-- a unit that waits has no first answer, and waits for its load
awaited_is : (d : Sections) (n : ℕ) (u : UnitRecord) (answer : Option (Option Sections)) (load : SplitLoad) → load_of_unit d n u ≡ Ok (Some load) → is_open d u answer ≡ true
    → (awaited_load d n u answer ≡ Some load) × (answer ≡ None)
awaited_is d n u None load e h = (ap (λ r. awaited_by r None) e, refl)
awaited_is d n u (Some a) load e h =
    let s : is_some (awaited_load d n u (Some a)) ≡ false = ap (λ r. is_some (awaited_by r (Some a))) e in
    let f : true ≡ false = sym h ∙ open_awaits d n u (Some a) ∙ s in
    absurd cc

nothing_awaited : (r : Result (Option SplitLoad) Error) (given : Option Sections) → awaited_by r (Some given) ≡ None
nothing_awaited (Err e) given = refl
nothing_awaited (Ok None) given = refl
nothing_awaited (Ok (Some l)) given = refl

-- a unit with an answer isn't open
answered_closed : (d : Sections) (u : UnitRecord) (given : Option Sections) → is_open d u (Some given) ≡ false
answered_closed d u given = by (load_of_unit d 0 u)
  where
    by : (r : Result (Option SplitLoad) Error) → is_none (verdict_by d u r (Some given)) ≡ false
    by (Err e) = refl
    by (Ok None) = refl
    by (Ok (Some l)) = refl

-- an answer that is set is there, or there was no place for it
set_at : (answers : FirstAnswers) (n : ℕ) (v : Option (Option Sections)) → (answer_of (set answers n v) n ≡ v) ⊎ (answer_of (set answers n v) n ≡ answer_of answers n)
set_at [] n v = inr refl
set_at (a ∷ answers) zero v = inl refl
set_at (a ∷ answers) (suc n) v = set_at answers n v

module _ (give : GivesAnswers) (scope : Scope) (units : List IndexedUnit) (answers : FirstAnswers) (probe : ℕ) where
  abbrev asked : ℕ → FramesResult
  asked n = asked_frames Stop scope units answers probe n

  abbrev given_frames : ℕ → Loading (List FrameRecord)
  given_frames n = frames_of_unit give scope units answers probe n

  -- a unit that doesn't wait has the same frames
  at_unit : (n : ℕ) → frames_of_number scope units answers probe n ≢ Ok None → given_frames n ≡ frames_or_fault (frames_of_number scope units answers probe n)
  at_unit n ne = by (slice_get units n) ne
    where
      closed : (u : IndexedUnit) (b : Bool) → is_open scope.file.sections u.unit (answer_of answers n) ≡ b → frames_in scope u (answer_of answers n) probe ≢ Ok None
          → frames_with give scope probe n (answer_of answers n) u ≡ frames_or_fault (frames_in scope u (answer_of answers n) probe)
      closed u true e h = absurd (h (none_if_open scope u (answer_of answers n) probe e))
      closed u false e h =
          ap (λ o. answer_by give o (answer_of answers n) >>= λ decided. frames_or_fault (frames_in scope u decided probe))
          (no_answer (awaited_load scope.file.sections n u.unit (answer_of answers n)) (sym (open_awaits scope.file.sections n u.unit (answer_of answers n)) ∙ e))

      by : (o : Option IndexedUnit) → ◌≢◌ {A = FramesResult} (elim o [ None ↦ Ok (Some []) | Some u ↦ frames_in scope u (answer_of answers n) probe ]) (Ok None)
          → ◌≡◌ {A = Loading (List FrameRecord)} (elim o [ None ↦ Ok [] | Some u ↦ frames_with give scope probe n (answer_of answers n) u ]) (frames_or_fault (elim o [ None ↦ Ok (Some []) | Some u ↦ frames_in scope u (answer_of answers n) probe ]))
      by None h = refl
      by (Some u) h = closed u (is_open scope.file.sections u.unit (answer_of answers n)) refl h

  ended_step : (n : ℕ) (x : FramesResult) (y : Loading (List FrameRecord)) (stop : Result LookupStop Error) (rest : Loading (List FrameRecord)) → (x ≢ Ok None → y ≡ frames_or_fault x) → (is_waiting stop ≡ false → rest ≡ stop_frames stop)
      → is_waiting (after_fault Stop x >>= or_stop n stop) ≡ false → (y >>= or_rest rest) ≡ stop_frames (after_fault Stop x >>= or_stop n stop)
  ended_step n (Ok None) y stop rest same later w = absurd cc
  ended_step n (Ok (Some [])) y stop rest same later w = ap (λ v. v >>= or_rest rest) (same (λ q. cc)) ∙ later w
  ended_step n (Ok (Some (f ∷ fs))) y stop rest same later w = ap (λ v. v >>= or_rest rest) (same (λ q. cc))
  ended_step n (Err e) y stop rest same later w = ap (λ v. v >>= or_rest rest) (same (λ q. cc))

  -- a lookup that doesn't wait gives the frames by what is given
  ended_along : (ranges : List UnitRange) → is_waiting (stop_along asked ranges) ≡ false → first_frames given_frames ranges ≡ stop_frames (stop_along asked ranges)
  ended_along [] w = refl
  ended_along (r ∷ ranges) w =
      ended_step r.unit (frames_of_number scope units answers probe r.unit) (given_frames r.unit) (stop_along asked ranges) (first_frames given_frames ranges) (at_unit r.unit) (ended_along ranges) w

  refused_step : (n k : ℕ) (fault : LoaderError) (x : FramesResult) (y : Loading (List FrameRecord)) (stop : Result LookupStop Error) (rest : Loading (List FrameRecord)) → (x ≢ Ok None → y ≡ frames_or_fault x) → (k ≡ n → y ≡ Err fault)
      → (stop ≡ Ok (Waits n) → rest ≡ Err fault) → (after_fault Stop x >>= or_stop k stop) ≡ Ok (Waits n) → (y >>= or_rest rest) ≡ Err fault
  refused_step n k fault (Ok None) y stop rest same here later w = ap (λ v. v >>= or_rest rest) (here (same_number k n w))
  refused_step n k fault (Ok (Some [])) y stop rest same here later w = ap (λ v. v >>= or_rest rest) (same (λ q. cc)) ∙ later w
  refused_step n k fault (Ok (Some (f ∷ fs))) y stop rest same here later w = absurd cc
  refused_step n k fault (Err e) y stop rest same here later w = absurd cc

  -- a lookup that waits for a unit whose answer is refused gives that fault
  refused_along : (n : ℕ) (fault : LoaderError) → given_frames n ≡ Err fault → (ranges : List UnitRange) → stop_along asked ranges ≡ Ok (Waits n) → first_frames given_frames ranges ≡ Err fault
  refused_along n fault h [] w = absurd cc
  refused_along n fault h (r ∷ ranges) w =
      refused_step n r.unit fault (frames_of_number scope units answers probe r.unit) (given_frames r.unit) (stop_along asked ranges) (first_frames given_frames ranges) (at_unit r.unit) (λ e. ap given_frames e ∙ h) (refused_along n fault h ranges) w

-- frames that are the same of each unit are the same along ranges
same_along : (f g : ℕ → Loading (List FrameRecord)) → ((n : ℕ) → f n ≡ g n) → (ranges : List UnitRange) → first_frames f ranges ≡ first_frames g ranges
same_along f g same [] = refl
same_along f g same (r ∷ ranges) = ap (λ x. x >>= or_rest (first_frames f ranges)) (same r.unit) ∙ ap (λ rest. g r.unit >>= or_rest rest) (same_along f g same ranges)

-- the unit that waits for a load
pub record Awaits (d : Sections) (units : List IndexedUnit) (answers : FirstAnswers) (n : ℕ) (load : SplitLoad) : Type 0 where
  pub unit : IndexedUnit
  pub unit_is : slice_get units n ≡ Some unit
  pub open_is : is_open d unit.unit (answer_of answers n) ≡ true
  pub load_is : load_of_unit d n unit.unit ≡ Ok (Some load)

awaiting : (d : Sections) (units : List IndexedUnit) (answers : FirstAnswers) (n : ℕ) (load : SplitLoad) → is_open_at d (unit_records units) answers n ≡ true
    → option_map (load_of_unit d n) (slice_get (unit_records units) n) ≡ Some (Ok (Some load)) → Awaits d units answers n load
awaiting d units answers n load o l = by (slice_get units n) refl (subst (λ x. elim x [ None ↦ false | Some u ↦ is_open d u (answer_of answers n) ] ≡ true) at o) (subst (λ x. option_map (load_of_unit d n) x ≡ Some (Ok (Some load))) at l)
  where
    at : slice_get (unit_records units) n ≡ option_map (λ (u : IndexedUnit). u.unit) (slice_get units n)
    at = slice_get-map (λ (u : IndexedUnit). u.unit) units n

    by : (x : Option IndexedUnit) → slice_get units n ≡ x → elim (option_map (λ (u : IndexedUnit). u.unit) x) [ None ↦ false | Some u ↦ is_open d u (answer_of answers n) ] ≡ true
        → option_map (load_of_unit d n) (option_map (λ (u : IndexedUnit). u.unit) x) ≡ Some (Ok (Some load)) → Awaits d units answers n load
    by None e p q = absurd cc
    by (Some u) e p q = record { unit = u; unit_is = e; open_is = p; load_is = cc }

module _ (give : GivesAnswers) (scope : Scope) (units : List IndexedUnit) (answers : FirstAnswers) (n : ℕ) (load : SplitLoad) (w : Awaits scope.file.sections units answers n load) where
  abbrev now : Option Sections → FirstAnswers
  now given = with_answer scope.file.sections (unit_records units) answers n given

  abbrev with_unit : ℕ → ℕ → Option (Option Sections) → Option IndexedUnit → Loading (List FrameRecord)
  with_unit probe k answer o = elim o [ None ↦ Ok [] | Some u ↦ frames_with give scope probe k answer u ]

  no_answer_yet : answer_of answers n ≡ None
  no_answer_yet = (awaited_is scope.file.sections n w.unit.unit (answer_of answers n) load w.load_is w.open_is).1

  -- the answer of the unit is set
  now_is : (given : Option Sections) → now given ≡ set answers n (Some given)
  now_is given =
      ap (λ o. elim o [ None ↦ answers | Some u ↦ set answers n (decided_answer scope.file.sections u (answer_of answers n) given) ]) (slice_get-map (λ (u : IndexedUnit). u.unit) units n ∙ ap (option_map (λ (u : IndexedUnit). u.unit)) w.unit_is)
      ∙ ap (λ v. set answers n v) (decided_if_open scope.file.sections w.unit.unit (answer_of answers n) given w.open_is)

  pub other_now : (given : Option Sections) (k : ℕ) → k ≢ n → answer_of (now given) k ≡ answer_of answers k
  other_now given k ne = ap (λ xs. answer_of xs k) (now_is given) ∙ ap (λ o. unwrap_or o None) (get_set_other answers n k (Some given) ne)

  -- the unit has the frames with the answer that is given
  waiting_is : (probe : ℕ) → frames_of_unit give scope units answers probe n ≡ ((give load >>= λ given. Ok (Some given)) >>= λ decided. frames_or_fault (frames_in scope w.unit decided probe))
  waiting_is probe =
      ap (with_unit probe n (answer_of answers n)) w.unit_is
      ∙ ap (λ o. answer_by give o (answer_of answers n) >>= λ decided. frames_or_fault (frames_in scope w.unit decided probe))
      (awaited_is scope.file.sections n w.unit.unit (answer_of answers n) load w.load_is w.open_is).0

  refused_unit : (probe : ℕ) (fault : LoaderError) → give load ≡ Err fault → frames_of_unit give scope units answers probe n ≡ Err fault
  refused_unit probe fault e = waiting_is probe ∙ ap (λ r. (r >>= λ given. Ok (Some given)) >>= λ decided. frames_or_fault (frames_in scope w.unit decided probe)) e

  -- with that answer it has the same frames, and so has any other unit
  given_unit : (given : Option Sections) (probe : ℕ) → give load ≡ Ok given → (k : ℕ) → frames_of_unit give scope units (now given) probe k ≡ frames_of_unit give scope units answers probe k
  given_unit given probe e k = elim (eqb_tells k n) [ inl p ↦ here k p.1 | inr q ↦ ap (λ a. with_unit probe k a (slice_get units k)) (other_now given k q.1) ]
    where
      set_now : (v : Option (Option Sections)) → (v ≡ Some given) ⊎ (v ≡ answer_of answers n) → with_unit probe n v (slice_get units n) ≡ frames_of_unit give scope units answers probe n
      set_now v (inr same) = ap (λ a. with_unit probe n a (slice_get units n)) same
      set_now v (inl same) =
          ap (λ a. with_unit probe n a (slice_get units n)) same
          ∙ ap (with_unit probe n (Some given)) w.unit_is
          ∙ ap (λ o. answer_by give o (Some given) >>= λ decided. frames_or_fault (frames_in scope w.unit decided probe)) (nothing_awaited (load_of_unit scope.file.sections n w.unit.unit) given)
          ∙ sym (waiting_is probe ∙ ap (λ r. (r >>= λ g. Ok (Some g)) >>= λ decided. frames_or_fault (frames_in scope w.unit decided probe)) e)

      at_n : frames_of_unit give scope units (now given) probe n ≡ frames_of_unit give scope units answers probe n
      at_n = set_now (answer_of (now given) n) (subst (λ xs. (answer_of xs n ≡ Some given) ⊎ (answer_of xs n ≡ answer_of answers n)) (sym (now_is given)) (set_at answers n (Some given)))

      here : (j : ℕ) → j ≡ n → frames_of_unit give scope units (now given) probe j ≡ frames_of_unit give scope units answers probe j
      here j q = subst (λ i. frames_of_unit give scope units (now given) probe i ≡ frames_of_unit give scope units answers probe i) (sym q) at_n

  stays_answered : (given : Option Sections) → StayAnswered answers (now given)
  stays_answered given k a e = elim (eqb_tells k n) [ inl p ↦ absurd (never k p.1 e) | inr q ↦ other_now given k q.1 ∙ e ]
    where
      never : (j : ℕ) → j ≡ n → answer_of answers j ≢ Some a
      never j q h = let f : ◌≡◌ {A = Option (Option Sections)} None (Some a) = sym no_answer_yet ∙ ap (answer_of answers) (sym q) ∙ h in cc

  -- a unit that doesn't wait is asked for the same
  pub same_asked : (given : Option Sections) (probe k : ℕ) → asked_frames Stop scope units answers probe k ≢ Ok None → asked_frames Stop scope units (now given) probe k ≡ asked_frames Stop scope units answers probe k
  same_asked given probe k ne = elim (eqb_tells k n) [
    | inl p ↦ absurd (ne (waits_at k p.1))
    | inr q ↦ ap (λ a. after_fault Stop (asked_by a (slice_get units k))) (other_now given k q.1)
  ]
    where
      asked_by : Option (Option Sections) → Option IndexedUnit → FramesResult
      asked_by a o = elim o [ None ↦ Ok (Some []) | Some u ↦ frames_in scope u a probe ]

      waits_here : frames_of_number scope units answers probe n ≡ Ok None
      waits_here = ap (asked_by (answer_of answers n)) w.unit_is ∙ none_if_open scope w.unit (answer_of answers n) probe w.open_is

      waits_at : (j : ℕ) → j ≡ n → asked_frames Stop scope units answers probe j ≡ Ok None
      waits_at j q = subst (λ i. asked_frames Stop scope units answers probe i ≡ Ok None) (sym q) (ap (after_fault Stop) waits_here)

-- loads that are the same of each unit are the same along ranges
same_loads : (f g : ℕ → Option SplitLoad) → ((n : ℕ) → f n ≡ g n) → (ranges : List UnitRange) → loads_along f ranges ≡ loads_along g ranges
same_loads f g same [] = refl
same_loads f g same (r ∷ ranges) = ap (λ o. before_others o (loads_along f ranges)) (same r.unit) ∙ ap (before_others (g r.unit)) (same_loads f g same ranges)

-- a lookup that waits for a unit, by the load of which the files are asked
module _ (d : Sections) (answers : FirstAnswers) (probe n : ℕ) (load : SplitLoad) (waits : lookup_stop Stop d answers probe ≡ Ok (Waits n)) (is : IsLoadOf d n load) where
  stop_is : (m : UnitIndex) → index_units d ≡ Ok m → stop_in Stop d answers probe m ≡ Ok (Waits n)
  stop_is m e = sym (ap (λ r. r >>= stop_in Stop d answers probe) e) ∙ waits

  pub awaits_in : (m : UnitIndex) → index_units d ≡ Ok m → Awaits d m.units answers n load
  awaits_in m e = awaiting d m.units answers n load (waits_listed Stop (main_scope d m) m.units answers probe n (cover probe m.ranges) (stop_is m e)).0 (is m e)

  abbrev answers_by : Result UnitIndex Error → Option Sections → FirstAnswers
  answers_by r given = elim r [ Err e ↦ answers | Ok m ↦ with_answer d (unit_records m.units) answers n given ]

  -- the answer that is given changes no lookup
  pub frames_stay : (give : GivesAnswers) (given : Option Sections) → give load ≡ Ok given → (q : ℕ) → frames_by_answers give d (answered d answers n given) q ≡ frames_by_answers give d answers q
  frames_stay give given h q = by (index_units d) refl
    where
      by : (r : Result UnitIndex Error) → index_units d ≡ r → (of_file r >>= frames_in_units give d (answers_by r given) q) ≡ (of_file r >>= frames_in_units give d answers q)
      by (Err e) k = refl
      by (Ok m) k = same_along _ _ (given_unit give (main_scope d m) m.units answers n load (awaits_in m k) given q h) (cover q m.ranges)

  pub first_answers_stay : (given : Option Sections) → StayAnswered answers (answered d answers n given)
  first_answers_stay given = by (index_units d) refl
    where
      by : (r : Result UnitIndex Error) → index_units d ≡ r → StayAnswered answers (answers_by r given)
      by (Err e) k = λ j a h. h
      by (Ok m) k = stays_answered (λ l. Ok None) (main_scope d m) m.units answers n load (awaits_in m k) given

  -- nor what one comes to that waits for none
  pub stop_stays : (given : Option Sections) (q : ℕ) → is_waiting (lookup_stop Stop d answers q) ≡ false → lookup_stop Stop d (answered d answers n given) q ≡ lookup_stop Stop d answers q
  stop_stays given q ended = by (index_units d) refl ended
    where
      by : (r : Result UnitIndex Error) → index_units d ≡ r → is_waiting (r >>= stop_in Stop d answers q) ≡ false → (r >>= stop_in Stop d (answers_by r given) q) ≡ (r >>= stop_in Stop d answers q)
      by (Err e) k h = refl
      by (Ok m) k h = decided_stop_along _ _ (same_asked (λ l. Ok None) (main_scope d m) m.units answers n load (awaits_in m k) given q) (cover q m.ranges) h

  -- the unit has another first answer than before where fewer loads are left
  pub answer_changes : (given : Option Sections) → length (loads_at d (answered d answers n given) probe) < length (loads_at d answers probe) → answer_of (answered d answers n given) n ≢ answer_of answers n
  answer_changes given fewer = by (index_units d) refl fewer
    where
      loads_by : Result UnitIndex Error → FirstAnswers → List SplitLoad
      loads_by r a = elim r [ Err e ↦ [] | Ok m ↦ loads_along (load_of_number d (unit_records m.units) a) (cover probe m.ranges) ]

      by : (r : Result UnitIndex Error) → index_units d ≡ r → length (loads_by r (answers_by r given)) < length (loads_by r answers) → answer_of (answers_by r given) n ≢ answer_of answers n
      by (Err e) k h same = absurd (omega (arith, h))
      by (Ok m) k h same = absurd (omega (arith, h, ap length loads))
        where
          us : List UnitRecord
          us = unit_records m.units

          now : FirstAnswers
          now = answers_by (Ok m) given

          answer : (j : ℕ) → answer_of now j ≡ answer_of answers j
          answer j = elim (eqb_tells j n) [
            | inl p ↦ subst (λ i. answer_of now i ≡ answer_of answers i) (sym p.1) same
            | inr q ↦ other_now (λ l. Ok None) (main_scope d m) m.units answers n load (awaits_in m k) given j q.1
          ]

          loads : loads_by (Ok m) now ≡ loads_by (Ok m) answers
          loads = same_loads (load_of_number d us now) (load_of_number d us answers)
              (λ j. ap (λ a. elim (slice_get us j) [ None ↦ None | Some u ↦ awaited_load d j u a ]) (answer j)) (cover probe m.ranges)

  -- where no answer is given, the lookup has that fault
  pub refused_frames : (give : GivesAnswers) (fault : LoaderError) → give load ≡ Err fault → frames_by_answers give d answers probe ≡ Err fault
  refused_frames give fault h = by (index_units d) refl
    where
      by : (r : Result UnitIndex Error) → index_units d ≡ r → (of_file r >>= frames_in_units give d answers probe) ≡ Err fault
      by (Err e) k = let f : ◌≡◌ {A = Result LookupStop Error} (Err e) (Ok (Waits n)) = sym (ap (λ r. r >>= stop_in Stop d answers probe) k) ∙ waits in absurd cc
      by (Ok m) k = refused_along give (main_scope d m) m.units answers probe n fault (refused_unit give (main_scope d m) m.units answers n load (awaits_in m k) probe fault h) (cover probe m.ranges) (stop_is m k)

-- a lookup that doesn't wait has its frames, whatever is given
pub frames_ended : (give : GivesAnswers) (d : Sections) (answers : FirstAnswers) (probe : ℕ) → is_waiting (lookup_stop Stop d answers probe) ≡ false → frames_by_answers give d answers probe ≡ stop_frames (lookup_stop Stop d answers probe)
frames_ended give d answers probe w = by (index_units d) w
  where
    by : (r : Result UnitIndex Error) → is_waiting (r >>= stop_in Stop d answers probe) ≡ false → (of_file r >>= frames_in_units give d answers probe) ≡ stop_frames (r >>= stop_in Stop d answers probe)
    by (Err e) h = refl
    by (Ok m) h = ended_along give (main_scope d m) m.units answers probe (cover probe m.ranges) h

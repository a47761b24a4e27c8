-- The cached lines of a unit (on specs/UnitLinesCached.antt and specs/UnitAfter.antt).
use Rattle.addr2line_units.proofs.Common.{◌≡◌, ◌≢◌, ◌⊎◌, ◌∙◌, ◌≤◌, not, if◌then◌else◌, inl, inr, ℕ, ap, arith, box_value, Bool, true, false, refl, IfErr, List, Option, None, Result, Ok, Err, Some, subst, sym, false≢true, DwLang, Error, OutOfMemory, Range, Exactly, ExactlyUnlessOom, ExactlyUnlessOomIf, WasNotRefused, not_refused, ◌>>=◌, Sections, UnitRecord, LineTable, location_at, unit_lines, LazyLines, LinesCache, AreLinesOf, StayLines, cached_lines, cached_lines_result, is_uncached, lines_result, lines_take_memory, IndexedUnit, RangedUnit, has_lines, location_in, steps_in}
use Rattle.addr2line_units.specs.UnitAfter.{AfterLinesOf, CachesLines, CountsSteps}
use Rattle.addr2line_units.specs.UnitLinesCached.{cached_steps, unit_at_first, lines_or, lines_result_or, location_or, no_lines}
use Rattle.addr2line_units.specs.UnitsIndexed.{as_ranged_unit}
use Rattle.addr2line_units.specs.declared.unit.LazyLines.TheVariants.{Unread, Absent, Read, Faulty}
use Rattle.gimli_read.proofs.FaultLemmas.{memory_or_not}
use Rattle.addr2line_lines.proofs.FaultLemmas.{unit_lines_are}

-- cached lines that are those of the unit, or their fault
module _ (d : Sections) (u : UnitRecord) where
  pub lines_are : (l : LazyLines) → AreLinesOf d u l → lines_or d u l ≡ unit_lines d u
  lines_are Unread h = refl
  lines_are Absent h = sym h
  lines_are (Read lines) h = sym h
  lines_are (Faulty x) h = sym h.0

  pub results_are : (l : LazyLines) → AreLinesOf d u l → lines_result_or d u l ≡ lines_result d u
  results_are l h = ap (λ r. r >>= λ x. Ok (Some x)) (lines_are l h)

  -- the fault is never OutOfMemory
  pub not_refused_lines : (l : LazyLines) → AreLinesOf d u l → WasNotRefused (cached_lines_result l)
  not_refused_lines Unread h = tt
  not_refused_lines Absent h = tt
  not_refused_lines (Read lines) h = tt
  not_refused_lines (Faulty x) h = h.1

  uncached_are : (l : LazyLines) → is_uncached l ≡ true → lines_or d u l ≡ unit_lines d u
  uncached_are Unread h = refl
  uncached_are Absent h = absurd cc
  uncached_are (Read lines) h = absurd cc
  uncached_are (Faulty x) h = absurd cc

-- what gives a value is refused memory alone, and only where it may take some
pub refused_alone : {X Y : Type 0} (may : Bool) (view : X → Y) (y : Y) (e : Error) → ExactlyUnlessOomIf may view (Err e) (Ok y) → (may ≡ true) × (e ≡ OutOfMemory)
refused_alone may view y e h = (by may h, elim (memory_or_not e) [ inl oom ↦ oom | inr ne ↦ absurd (let no = h (λ _. ne) in cc) ])
  where
    by : (b : Bool) → ExactlyUnlessOomIf b view (Err e) (Ok y) → b ≡ true
    by true h = refl
    by false h = absurd (let no = h (λ t. absurd cc) in cc)

-- by whether memory may be taken
pub taken_or : (b : Bool) → (b ≡ true → ⊥) → (b ≡ false → ⊥) → ⊥
taken_or true f g = f refl
taken_or false f g = g refl

-- the fault of lines as they are cached is their fault
fault_alone : (r : Result LineTable Error) (e : Error) → (r >>= λ x. Ok (Some x)) ≡ Err e → r ≡ Err e
fault_alone (Ok x) e h = absurd cc
fault_alone (Err y) e h = let same : y ≡ e = cc in ap (λ z. Err z) same

-- the location in them is that in the unit, and so are the steps to it
module _ (d : Sections) (x : IndexedUnit) (l : LazyLines) (own : AreLinesOf d x.unit l) where
  pub location_is : (probe : ℕ) → location_or d x.unit probe l ≡ location_in d probe (Some x)
  location_is probe = ap (λ r. r >>= λ found. Ok (location_at probe found)) (lines_are d x.unit l own)

  pub steps_are : {found : Bool} {before after : ℕ} → CountsSteps (cached_steps l) found before after → CountsSteps (steps_in d (Some x)) found before after
  steps_are {before} {after} counts =
      let most = most_of l own in
      let cost = counts.cost in
      record { raised = counts.raised; counted = counts.counted; cost = omega (arith, most, cost) }
    where
      most_of : (k : LazyLines) → AreLinesOf d x.unit k → cached_steps k ≤ steps_in d (Some x)
      most_of Unread h = omega arith
      most_of Absent h = omega arith
      most_of (Read lines) h = rw h (omega arith)
      most_of (Faulty e) h = omega arith

-- the fault of the lines is that of a location in them
pub lines_fault : (d : Sections) (probe : ℕ) (x : IndexedUnit) (e : Error) → lines_result d x.unit ≡ Err e → location_in d probe (Some x) ≡ Err e
lines_fault d probe x e h = by (unit_lines d x.unit) refl h
  where
    by : (r : Result LineTable Error) → unit_lines d x.unit ≡ r → (r >>= λ lines. Ok (Some lines)) ≡ Err e → location_in d probe (Some x) ≡ Err e
    by (Ok table) q k = absurd cc
    by (Err y) q k = let same : y ≡ e = cc in ap (λ (r : Result LineTable Error). r >>= λ table. Ok (location_at probe table)) q ∙ ap (λ z. Err z) same

-- lines that were read are the unit's own, and cached
module _ (d : Sections) (u : UnitRecord) where
  pub read_are : (l : LazyLines) → cached_lines_result l ≡ lines_result d u → AreLinesOf d u l × (is_uncached l ≡ false)
  read_are l e = by_lines (unit_lines d u) refl l e
    where
      by_lines : (r : Result LineTable Error) → unit_lines d u ≡ r → (l : LazyLines) → cached_lines_result l ≡ (r >>= λ x. Ok (Some x)) → AreLinesOf d u l × (is_uncached l ≡ false)
      by_lines (Ok table) q Unread h = absurd cc
      by_lines (Ok table) q Absent h = let same : no_lines ≡ table = cc in (q ∙ ap (λ x. Ok x) (sym same), refl)
      by_lines (Ok table) q (Read lines) h = let same : box_value lines ≡ table = cc in (q ∙ ap (λ x. Ok x) (sym same), refl)
      by_lines (Ok table) q (Faulty e) h = absurd cc
      by_lines (Err f) q Unread h = absurd cc
      by_lines (Err f) q Absent h = absurd cc
      by_lines (Err f) q (Read lines) h = absurd cc
      by_lines (Err f) q (Faulty e) h =
          let same : e ≡ f = cc in
          ((q ∙ ap (λ x. Err x) (sym same), subst WasNotRefused (q ∙ ap (λ x. Err x) (sym same)) (not_refused (unit_lines_are d u))), refl)

  -- OutOfMemory is no fault of theirs
  pub no_fault : (e : Error) → e ≡ OutOfMemory → unit_lines d u ≡ Err e → ⊥
  no_fault e oom h = subst WasNotRefused h (not_refused (unit_lines_are d u)) oom

  pub no_result_fault : (e : Error) → e ≡ OutOfMemory → lines_result d u ≡ Err e → ⊥
  no_result_fault e oom h = no_fault e oom (fault_alone (unit_lines d u) e h)

  -- the lines with which a unit is taken into a context
  module _ (language : Option DwLang) (listed : List Range) where
    abbrev unit : RangedUnit
    unit = as_ranged_unit u language listed

    first_by : (b : Bool) (l : LazyLines) → cached_lines_result l ≡ (if b then lines_result d u else Ok None) → AreLinesOf d u l × (not (is_uncached l) ≡ b)
    first_by true l e = let own = read_are l e in (own.0, ap not own.1)
    first_by false Unread e = (tt, refl)
    first_by false Absent e = absurd cc
    first_by false (Read lines) e = absurd cc
    first_by false (Faulty f) e = absurd cc

    pub first_are : (l : LazyLines) → cached_lines_result l ≡ (unit_at_first d unit).lines → AreLinesOf d u l × (not (is_uncached l) ≡ has_lines unit)
    first_are l e = first_by (has_lines unit) l e

-- lines are cached then, unless memory was refused, and then they are as before
abbrev pub CachesResult : {X : Type 0} → LazyLines → Result X Error → LazyLines → Type 0
CachesResult old (Ok x) new = is_uncached new ≡ false
CachesResult old (Err e) new =
    (e ≢ OutOfMemory → is_uncached new ≡ false) × (e ≡ OutOfMemory → new ≡ old)

-- what follows where lines were asked for
pub record LinesFollow {X : Type 0} (shares : Bool) (d : Sections) (u : UnitRecord) (result : Result X Error) (old new : LinesCache) : Type 0 where
  pub read : (new.lines ≡ old.lines) ⊎ AreLinesOf d u new.lines
  pub stay : StayLines old new
  pub known : CachesResult old.lines result new.lines
  pub memory : is_uncached new.lines ≡ false → WasNotRefused (cached_lines_result new.lines) → WasNotRefused result
  pub no_memory : lines_take_memory shares u ≡ false → IfErr result (λ e. lines_or d u old.lines ≡ Err e)

-- lines that are cached then
module _ {d : Sections} {u : UnitRecord} {old new : LinesCache} (c : CachesLines d u old new) where
  cached_known : is_uncached new.lines ≡ false
  cached_known = by (lines_or d u old.lines) new.lines c.lines
    where
      by : (r : Result LineTable Error) (l : LazyLines) → cached_lines_result l ≡ (r >>= λ x. Ok (Some x)) → is_uncached l ≡ false
      by r Absent h = refl
      by r (Read lines) h = refl
      by r (Faulty e) h = refl
      by (Ok x) Unread h = absurd cc
      by (Err e) Unread h = absurd cc

  pub cached_read : (new.lines ≡ old.lines) ⊎ AreLinesOf d u new.lines
  cached_read = by (is_uncached old.lines) refl
    where
      by : (b : Bool) → is_uncached old.lines ≡ b → (new.lines ≡ old.lines) ⊎ AreLinesOf d u new.lines
      by true e = inr (read_are d u new.lines (c.lines ∙ ap (λ r. r >>= λ x. Ok (Some x)) (uncached_are d u old.lines e))).0
      by false e = inl (c.stay.lines e)

  cached_follow : {X : Type 0} (shares : Bool) (r : Result X Error) → IfErr r (λ e. lines_or d u old.lines ≡ Err e) → LinesFollow shares d u r old new
  cached_follow shares (Ok x) fault = record { read = cached_read; stay = c.stay; known = cached_known; memory = λ _ _. tt; no_memory = λ _. fault }
  cached_follow shares (Err e) fault = record {
    read = cached_read;
    stay = c.stay;
    known = (λ _. cached_known, same (is_uncached old.lines) refl);
    memory = λ _ not_oom. subst WasNotRefused (c.lines ∙ ap (λ r. r >>= λ x. Ok (Some x)) fault) not_oom;
    no_memory = λ _. fault;
  }
    where
      same : (b : Bool) → is_uncached old.lines ≡ b → e ≡ OutOfMemory → new.lines ≡ old.lines
      same true q oom = absurd (no_fault d u e oom (sym (uncached_are d u old.lines q) ∙ fault))
      same false q oom = c.stay.lines q

module _ {d : Sections} {u : UnitRecord} {old new : LinesCache} where
  pub left_are : (new ≡ old) ⊎ CachesLines d u old new → AreLinesOf d u old.lines → AreLinesOf d u new.lines
  left_are (inl same) own = subst (λ (x : LinesCache). AreLinesOf d u x.lines) (sym same) own
  left_are (inr c) own = elim (cached_read c) [ inl same ↦ subst (AreLinesOf d u) (sym same) own | inr read ↦ read ]

  pub left_stay : (new ≡ old) ⊎ CachesLines d u old new → StayLines old new
  left_stay (inl same) = record { language = ap (λ (x : LinesCache). x.lang) same; lines = λ _. ap (λ (x : LinesCache). x.lines) same }
  left_stay (inr c) = c.stay

module _ {shares : Bool} {d : Sections} {u : UnitRecord} {old new : LinesCache} where
  pub lines_follow : {X : Type 0} {result : Result X Error} → AfterLinesOf shares d u result old new → LinesFollow shares d u result old new
  lines_follow {X} {result} (inl c) = cached_follow c.0 shares result c.1
  lines_follow {X} {result} (inr l) = record {
    read = inl (ap (λ (x : LinesCache). x.lines) l.same);
    stay = record { language = ap (λ (x : LinesCache). x.lang) l.same; lines = λ _. ap (λ (x : LinesCache). x.lines) l.same };
    known = subst (λ (r : Result X Error). CachesResult old.lines r new.lines) (sym l.refused) (λ ne. absurd (ne refl), λ _. ap (λ (x : LinesCache). x.lines) l.same);
    memory = λ cached. absurd (false≢true (sym cached ∙ ap (λ (x : LinesCache). is_uncached x.lines) l.same ∙ l.unread));
    no_memory = λ none. absurd (false≢true (sym none ∙ l.takes));
  }

  pub lines_left : {X : Type 0} {result : Result X Error} → AfterLinesOf shares d u result old new → (new ≡ old) ⊎ CachesLines d u old new
  lines_left (inl c) = inr c.0
  lines_left (inr l) = inl l.same

  -- what a call leaves is left by the calls above it
  pub lines_refused : {X Y : Type 0} (e : Error) → AfterLinesOf {X = X} shares d u (Err e) old new → AfterLinesOf {X = Y} shares d u (Err e) old new
  lines_refused e (inl c) = inl c
  lines_refused e (inr l) = inr (record { same = l.same; unread = l.unread; takes = l.takes; refused = let oom : e ≡ OutOfMemory = (let r = l.refused in cc) in ap (λ x. Err x) oom })

  pub lines_given : {X Y : Type 0} (x : X) (y : Y) → AfterLinesOf shares d u (Ok x) old new → AfterLinesOf shares d u (Ok y) old new
  lines_given x y (inl c) = inl (c.0, tt)
  lines_given x y (inr l) = absurd (let no = l.refused in cc)

  -- their fault is told, if they have one
  pub lines_told : (r : Result (Unit {0}) Error) → AfterLinesOf {X = Unit {0}} shares d u (Ok tt) old new → cached_lines_result new.lines ≡ lines_result_or d u old.lines → Exactly (λ _. cached_lines new.lines) r (cached_lines_result new.lines)
      → ExactlyUnlessOom (λ _. cached_lines new.lines) r (lines_result_or d u old.lines) × AfterLinesOf shares d u r old new
  lines_told (Ok x) a is told = (sym is ∙ told, lines_given tt x a)
  lines_told (Err e) (inl c) is told = let fault = sym is ∙ told in (λ _. fault, inl (c.0, fault_alone (lines_or d u old.lines) e fault))
  lines_told (Err e) (inr l) is told = absurd (let no = l.refused in cc)

  -- where what was cached is the unit's own, so is what is cached then
  module _ {X : Type 0} {result : Result X Error} (own : AreLinesOf d u old.lines) (a : LinesFollow shares d u result old new) where
    pub own_after : AreLinesOf d u new.lines
    own_after = elim a.read [ inl same ↦ subst (AreLinesOf d u) (sym same) own | inr read ↦ read ]

    pub memory_after : is_uncached new.lines ≡ false → WasNotRefused result
    memory_after cached = a.memory cached (not_refused_lines d u new.lines own_after)

    pub no_memory_after : lines_take_memory shares u ≡ false → IfErr result (λ e. lines_result d u ≡ Err e)
    no_memory_after none = of result (subst (λ given. IfErr result (λ e. given ≡ Err e)) (lines_are d u old.lines own) (a.no_memory none))
      where
        of : (r : Result X Error) → IfErr r (λ e. unit_lines d u ≡ Err e) → IfErr r (λ e. lines_result d u ≡ Err e)
        of (Ok x) h = tt
        of (Err e) h = ap (λ r. r >>= λ x. Ok (Some x)) h

  -- what was cached, or else the unit's lines, is what is cached then, or else these
  pub lines_or_stays : {X : Type 0} {result : Result X Error} → LinesFollow shares d u result old new → lines_or d u old.lines ≡ lines_or d u new.lines
  lines_or_stays a = elim a.read [ inl same ↦ ap (lines_or d u) (sym same) | inr own ↦ by own (is_uncached old.lines) refl ]
    where
      by : AreLinesOf d u new.lines → (b : Bool) → is_uncached old.lines ≡ b → lines_or d u old.lines ≡ lines_or d u new.lines
      by own true e = uncached_are d u old.lines e ∙ sym (lines_are d u new.lines own)
      by own false e = ap (lines_or d u) (sym (a.stay.lines e))

-- lines that weren't cached were parsed, or memory was refused
module _ (shares : Bool) (d : Sections) (u : UnitRecord) (old : LinesCache) where
  pub parsed_after : (l : LazyLines) → is_uncached old.lines ≡ true → cached_lines_result l ≡ lines_result d u → AfterLinesOf {X = Unit {0}} shares d u (Ok tt) old (record { lang = old.lang; lines = l })
  parsed_after l uncached read = inl (
    record {
      stay = record { language = refl; lines = λ cached. absurd (false≢true (sym cached ∙ uncached)) };
      lines = read ∙ ap (λ r. r >>= λ x. Ok (Some x)) (sym (uncached_are d u old.lines uncached));
    },
    tt,
  )

  pub unparsed_after : (e : Error) → is_uncached old.lines ≡ true → ExactlyUnlessOomIf (lines_take_memory shares u) cached_lines_result (Err e) (Ok (lines_result d u)) → AfterLinesOf {X = Unit {0}} shares d u (Err e) old old
  unparsed_after e uncached gives =
      let refused = refused_alone (lines_take_memory shares u) cached_lines_result (lines_result d u) e gives in
      inr (record { same = refl; unread = uncached; takes = refused.0; refused = ap (λ x. Err x) refused.1 })

  -- lines that were cached stay
  pub cached_after : is_uncached old.lines ≡ false → AfterLinesOf {X = Unit {0}} shares d u (Ok tt) old old
  cached_after cached = inl (record { stay = record { language = refl; lines = λ _. refl }; lines = by old.lines cached }, tt)
    where
      by : (l : LazyLines) → is_uncached l ≡ false → cached_lines_result l ≡ lines_result_or d u l
      by Unread h = absurd cc
      by Absent h = refl
      by (Read lines) h = refl
      by (Faulty e) h = refl

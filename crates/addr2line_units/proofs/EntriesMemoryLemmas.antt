-- What is read without memory (on specs/EntriesMemory.antt).
use Rattle.addr2line_units.proofs.Common.{◌⊎◌, inl, inr, length, nat_lt, Range, LazyLines, AreLinesOf, cached_ranges, ◌≡◌, ◌≢◌, ◌∙◌, ◌++◌, ℕ, ap, subst, sym, refl, ◌||◌, not, is_none, is_some, Bool, true, false, List, [], ◌∷◌, Option, Some, None, Result, Ok, Err, IfErr, Error, OutOfMemory, ◌>>=◌, ExactlyUnlessOomIf, WasNotRefused, Sections, UnitRecord, all_read_once, FunctionTable, functions_take_memory, LineTable, line_table_of, Scope, read_all, IsFaultAtOnce, lines_in, program_lines, unit_lines, LazyFunctions, any_program_takes_memory, is_fault_at_once, lines_take_memory, AreFunctionsOf, IsTableOf, cached_takes_memory, find_takes_memory, reading_takes_memory, table_takes_memory, lines_result, not_refused}
use Rattle.std.specs.Prelude.{IfSome}
use Rattle.gimli_line.specs.declared.row.LineRow.{LineRow}
use Rattle.gimli_line.specs.Header.{File, Program, header_copy_takes_memory}
use Rattle.gimli_line.specs.Lines.{lines_of}
use Rattle.addr2line_lines.specs.FileTexts.{file_texts}
use Rattle.addr2line_units.specs.declared.entries.LazyFunctions.TheVariants as lazy
use Rattle.addr2line_units.specs.declared.unit.LazyLines.TheVariants.{Unread, Absent, Read, Faulty}
use Rattle.addr2line_units.specs.UnitsRanged.{line_ranges}
use Rattle.addr2line_lines.proofs.FaultLemmas.{unit_lines_are}
use Rattle.addr2line_units.proofs.EntriesFunctionMemoryLemmas.{details_take, place_takes}
use Rattle.addr2line_units.proofs.Facts.{or_none}

-- where no memory may be taken, a refusal is what is given
pub exactly_if_none : {X Y : Type 0} (may : Bool) (see : X → Y) (r : Result X Error) (given : Result Y Error) → may ≡ false → ExactlyUnlessOomIf may see r given → IfErr r (λ e. given ≡ Err e)
exactly_if_none may see (Ok x) given none h = tt
exactly_if_none may see (Err e) given none h = h (λ takes. let no : false ≡ true = sym none ∙ takes in absurd cc)

-- the fault that a program has at once is that of its lines
pub at_once : (d : Sections) (u : UnitRecord) (p : Program) (e : Error) → (lines_of p).left ≡ Err e ∷ [] → program_lines d u p ≡ Err e
unfolding program_lines
at_once d u p e left = ap (λ (rows : List (Result LineRow Error)). read_all rows >>= λ read. file_texts d u p.header (p.header.file_names ++ (lines_of p).to_define) >>= λ files. Ok (line_table_of files read)) left

module _ {X : Type 0} (shares : Bool) (d : Sections) (u : UnitRecord) (see : X → LineTable) (e : Error) where
  by_lists : (p : Program) (files : List File) (rows : List (Result LineRow Error)) → (lines_of p).ahead ≡ files → (lines_of p).left ≡ rows → is_fault_at_once files rows ≡ true → IsFaultAtOnce {X = X} (lines_of p) (Err e) → program_lines d u p ≡ Err e
  by_lists p [] [] a l h k = cc
  by_lists p [] (Ok row ∷ rows) a l h k = cc
  by_lists p [] (Err f ∷ []) a l h k =
      let same : ◌≡◌ {A = Result X Error} (Err e) (Err f) = k f a l in
      let is : f ≡ e = cc in
      at_once d u p f l ∙ ap Err is
  by_lists p [] (Err f ∷ row ∷ rows) a l h k = cc
  by_lists p (file ∷ files) rows a l h k = cc

  by_program : (o : Option Program) → ExactlyUnlessOomIf (is_some o) see (Err e) (lines_in d u o)
      → IfSome o (λ p. header_copy_takes_memory shares p.header ≡ false → IsFaultAtOnce {X = X} (lines_of p) (Err e))
      → any_program_takes_memory shares o ≡ false → lines_in d u o ≡ Err e
  by_program None gives exact none = gives (λ h. absurd cc)
  by_program (Some p) gives exact none =
      let both = or_none (header_copy_takes_memory shares p.header) (is_fault_at_once (lines_of p).ahead (lines_of p).left) none in
      by_lists p (lines_of p).ahead (lines_of p).left refl refl both.1 (exact both.0)

-- lines that take no memory are refused by their fault alone
pub lines_exact : {X : Type 0} (shares : Bool) (d : Sections) (u : UnitRecord) (see : X → LineTable) (r : Result X Error) → ExactlyUnlessOomIf (is_some u.line_program) see r (unit_lines d u)
    → IfSome u.line_program (λ p. header_copy_takes_memory shares p.header ≡ false → IsFaultAtOnce {X = X} (lines_of p) r)
    → lines_take_memory shares u ≡ false → IfErr r (λ e. lines_result d u ≡ Err e)
unfolding lines_take_memory
lines_exact shares d u see (Ok x) gives exact none = tt
lines_exact shares d u see (Err e) gives exact none = ap (λ r. r >>= λ lines. Ok (Some lines)) (by_program shares d u see e u.line_program gives exact none)

-- lines of a program that were read took memory
module _ {X : Type 0} (shares : Bool) (x : X) where
  no_fault : (p : Program) (files : List File) (rows : List (Result LineRow Error)) → (lines_of p).ahead ≡ files → (lines_of p).left ≡ rows → is_fault_at_once files rows ≡ true → IsFaultAtOnce {X = X} (lines_of p) (Ok x) → ⊥
  no_fault p [] [] a l h k = cc
  no_fault p [] (Ok row ∷ rows) a l h k = cc
  no_fault p [] (Err f ∷ []) a l h k = let no : ◌≡◌ {A = Result X Error} (Ok x) (Err f) = k f a l in cc
  no_fault p [] (Err f ∷ row ∷ rows) a l h k = cc
  no_fault p (file ∷ files) rows a l h k = cc

  read_of_program : (o : Option Program) → is_none o ≡ false → IfSome o (λ p. header_copy_takes_memory shares p.header ≡ false → IsFaultAtOnce {X = X} (lines_of p) (Ok x))
      → any_program_takes_memory shares o ≡ false → ⊥
  read_of_program None some exact none = cc
  read_of_program (Some p) some exact none =
      let both = or_none (header_copy_takes_memory shares p.header) (is_fault_at_once (lines_of p).ahead (lines_of p).left) none in
      no_fault p (lines_of p).ahead (lines_of p).left refl refl both.1 (exact both.0)

  pub lines_took : (u : UnitRecord) → is_none u.line_program ≡ false → IfSome u.line_program (λ p. header_copy_takes_memory shares p.header ≡ false → IsFaultAtOnce {X = X} (lines_of p) (Ok x))
      → lines_take_memory shares u ≡ false → ⊥
  unfolding lines_take_memory
  lines_took u some exact none = read_of_program u.line_program some exact none

-- lines that have sequences take memory
module _ (shares : Bool) (d : Sections) (u : UnitRecord) where
  none_at_once : (p : Program) (files : List File) (rows : List (Result LineRow Error)) → (lines_of p).ahead ≡ files → (lines_of p).left ≡ rows → is_fault_at_once files rows ≡ true → line_ranges (program_lines d u p) ≡ []
  none_at_once p [] [] a l h = cc
  none_at_once p [] (Ok row ∷ rows) a l h = cc
  none_at_once p [] (Err f ∷ []) a l h = ap line_ranges (at_once d u p f l)
  none_at_once p [] (Err f ∷ row ∷ rows) a l h = cc
  none_at_once p (file ∷ files) rows a l h = cc

  none_of_program : (o : Option Program) → any_program_takes_memory shares o ≡ false → line_ranges (lines_in d u o) ≡ []
  none_of_program None none = refl
  none_of_program (Some p) none =
      let both = or_none (header_copy_takes_memory shares p.header) (is_fault_at_once (lines_of p).ahead (lines_of p).left) none in
      none_at_once p (lines_of p).ahead (lines_of p).left refl refl both.1

  none_of_unit : lines_take_memory shares u ≡ false → line_ranges (unit_lines d u) ≡ []
  unfolding lines_take_memory
  none_of_unit none = none_of_program u.line_program none

  ranges_are : (l : LazyLines) → AreLinesOf d u l → cached_ranges l ≡ [] ⊎ (cached_ranges l ≡ line_ranges (unit_lines d u))
  ranges_are Unread own = inl refl
  ranges_are Absent own = inl refl
  ranges_are (Read lines) own = inr (ap line_ranges (sym own))
  ranges_are (Faulty e) own = inl refl

  no_ranges : (l : LazyLines) → AreLinesOf d u l → lines_take_memory shares u ≡ false → cached_ranges l ≡ []
  no_ranges l own none = elim (ranges_are l own) [ inl e ↦ e | inr e ↦ e ∙ none_of_unit none ]

  pub ranges_take : (l : LazyLines) → AreLinesOf d u l → nat_lt 0 (length (cached_ranges l)) ≡ true → lines_take_memory shares u ≡ true
  ranges_take l own some = by (lines_take_memory shares u) refl
    where
      by : (b : Bool) → lines_take_memory shares u ≡ b → b ≡ true
      by true e = refl
      by false e = absurd (let no = subst (λ (rs : List Range). nat_lt 0 (length rs) ≡ true) (no_ranges l own e) some in cc)

-- functions that take no memory take none however many of them are cached
module _ {R : Type 0} (shares : Bool) (scope : Scope) (view : UnitRecord) (f : LazyFunctions R) (right : AreFunctionsOf scope view f) (none : functions_take_memory shares scope.file.sections view ≡ false) where
  cached_takes_none : (takes : FunctionTable → Bool) → ((t : FunctionTable) → IsTableOf scope view t → takes t ≡ true → functions_take_memory shares scope.file.sections view ≡ true) → cached_takes_memory shares scope view takes f ≡ false
  cached_takes_none takes some = by_functions f right
    where
      by_test : (t : FunctionTable) → IsTableOf scope view t → (b : Bool) → takes t ≡ b → takes t ≡ false
      by_test t is true e = let no : false ≡ true = sym none ∙ some t is e in absurd cc
      by_test t is false e = e

      by_functions : (x : LazyFunctions R) → AreFunctionsOf scope view x → cached_takes_memory shares scope view takes x ≡ false
      by_functions lazy.Unread is = none
      by_functions lazy.Absent is = refl
      by_functions (lazy.Read t) is = by_test t.value is (takes t.value) refl
      by_functions (lazy.Faulty e) is = refl

  pub find_takes_none : (probe : ℕ) → find_takes_memory shares scope view probe f ≡ false
  find_takes_none probe = cached_takes_none (table_takes_memory probe) (λ t is. place_takes shares scope view t is probe)

  -- nor to read all their details
  pub reading_takes_none : reading_takes_memory shares scope view f ≡ false
  reading_takes_none = cached_takes_none (λ (t : FunctionTable). (all_read_once scope view t.functions).takes_memory shares) (λ t is. details_take shares scope view t is)

-- where lines are parsed, or take no memory, a refusal is what is given
pub alone_if_none : {X : Type 0} (parsed takes : Bool) (e : Error) (given : Result X Error) → (parsed || not takes) ≡ true → (parsed ≡ true → e ≢ OutOfMemory) → (e ≢ OutOfMemory → given ≡ Err e) → (takes ≡ false → given ≡ Err e) → given ≡ Err e
alone_if_none true takes e given none known gives alone = gives (known refl)
alone_if_none false true e given none known gives alone = cc
alone_if_none false false e given none known gives alone = alone refl

-- a call that is refused by their fault alone isn't refused memory
pub none_refused : {X : Type 0} (shares : Bool) (d : Sections) (u : UnitRecord) (r : Result X Error) → (lines_take_memory shares u ≡ false → IfErr r (λ e. lines_result d u ≡ Err e)) → lines_take_memory shares u ≡ false → WasNotRefused r
none_refused shares d u (Ok x) alone none = tt
none_refused shares d u (Err e) alone none = by_lines (unit_lines d u) (not_refused (unit_lines_are d u)) (alone none)
  where
    by_lines : (l : Result LineTable Error) → WasNotRefused l → ◌≡◌ {A = Result (Option LineTable) Error} (l >>= λ lines. Ok (Some lines)) (Err e) → e ≢ OutOfMemory
    by_lines (Ok x) known q = cc
    by_lines (Err f) known q = let same : f ≡ e = cc in subst (λ y. y ≢ OutOfMemory) same known

-- nor one for lines that are parsed, or take no memory
pub either_none : {X : Type 0} (parsed takes : Bool) (r : Result X Error) → (parsed || not takes) ≡ true → (parsed ≡ true → WasNotRefused r) → (takes ≡ false → WasNotRefused r) → WasNotRefused r
either_none true takes r none known alone = known refl
either_none false true r none known alone = cc
either_none false false r none known alone = alone refl

-- Sections that one piece has, and the names of those that are wanted (on specs/Wanted.antt).
use Rattle.elf.proofs.Common.{section_names_of, first_zdebug, first_named, ObjectFile, ◌≡◌, ◌∙◌, ◌+◌, ℕ, ◌==◌, Bool, true, false, ◌&&◌, ◌||◌, cond, not, List, [], ◌∷◌, Option, Some, None, drop, length, nat_eq, nat_lt, option_map, take, ap, refl, sym, codes, slice_get, option_and_then, list_all, position, starts_with, option_map_or, bytes_eq, and_left, and_parts, and_right, eqb-true, SectionHeader, Image, Shows, image_bytes, is_held, bytes_at, is_nobits, is_outside, section_bytes_in, string_table_in, table_text_at, debug_prefix, is_named, is_zdebug, is_zdebug_text, zdebug_prefix, symbol_bytes, symbol_table, shows_section, is_shown_at, is_wanted_section, is_wanted_stem, is_wanted_text}
use Rattle.std.specs.Cmp.Lexicographic.{pointwise}
use Rattle.std.proofs.lemmas.List.Quantifiers.{position-Some}
use Rattle.std.proofs.lemmas.Option.{get_or_from_slice_get}
use Rattle.std.proofs.lemmas.Slice.Eq.{bytes_eq-Decides}
use Rattle.elf.specs.declared.constants.TheConstants.{SHN_UNDEF}
use Rattle.elf.proofs.FileTableLemmas.{all_at}

-- ---- tests
-- of two answers after a test the same one is taken, if the second ones are the same where it is asked for
pub choose : {A : Type 0} (a b c : Bool) (p q x y : A) → (a || (b || c)) ≡ true → (c ≡ true → x ≡ y) → cond a p (cond b q x) ≡ cond a p (cond b q y)
choose true b c p q x y h e = refl
choose false true c p q x y h e = refl
choose false false true p q x y h e = e refl
choose false false false p q x y h e = absurd cc

-- the same of two tests as one
pub choose_either : {A : Type 0} (a b c d : Bool) (p q x y : A) → (a || (b || c)) ≡ true → p ≡ q → (c ≡ true → x ≡ y) → cond (a || (b || d)) p x ≡ cond (a || (b || d)) q y
choose_either true b c d p q x y h same e = same
choose_either false true c d p q x y h same e = same
choose_either false false true true p q x y h same e = same
choose_either false false true false p q x y h same e = e refl
choose_either false false false d p q x y h same e = absurd cc

-- ---- names that are wanted
-- a name begins with .debug_ or with .zdebug_, never with both
one_prefix : (name : List ℕ) → starts_with nat_eq name debug_prefix ≡ true → starts_with nat_eq name zdebug_prefix ≡ false
one_prefix [] h = absurd cc
one_prefix (a ∷ []) h = by (nat_eq 46 a) h
  where
    by : (p : Bool) → (p && false) ≡ true → (p && false) ≡ false
    by true h = refl
    by false h = refl
one_prefix (a ∷ b ∷ rest) h =
    let debug = pointwise nat_eq (codes "ebug_") (take 5 rest) in
    let zdebug = pointwise nat_eq (codes "debug_") (take 6 rest) in
    let p = and_parts (nat_eq 46 a) (nat_eq 100 b && debug) h in
    let q = and_parts (nat_eq 100 b) debug p.1 in
    let is_d : 100 ≡ b = eqb-true 100 b q.0 in
    let other : nat_eq 122 b ≡ false = ap (nat_eq 122) (sym is_d) in
    and_right (nat_eq 46 a) (nat_eq 122 b && zdebug) (and_left (nat_eq 122 b) zdebug other)

-- a name with .zdebug_ for the .debug_ of a wanted name is wanted
zdebug_wanted : (name text : List ℕ) → is_wanted_text name ≡ true → is_zdebug_text name text ≡ true → is_wanted_text text ≡ true
zdebug_wanted name text wanted is =
    let both = and_parts (starts_with nat_eq name debug_prefix) (starts_with nat_eq text zdebug_prefix && bytes_eq (drop (length zdebug_prefix) text) (drop (length debug_prefix) name)) is in
    let own = and_parts (starts_with nat_eq text zdebug_prefix) (bytes_eq (drop (length zdebug_prefix) text) (drop (length debug_prefix) name)) both.1 in
    let same = (bytes_eq-Decides (drop (length zdebug_prefix) text) (drop (length debug_prefix) name)).0 own.1 in
    let stem = by_prefix (starts_with nat_eq name debug_prefix) (starts_with nat_eq name zdebug_prefix) (is_wanted_stem (drop (length debug_prefix) name)) (is_wanted_stem (drop (length zdebug_prefix) name)) both.0 (one_prefix name both.0) wanted in
    second (starts_with nat_eq text debug_prefix && is_wanted_stem (drop (length debug_prefix) text)) (starts_with nat_eq text zdebug_prefix) (is_wanted_stem (drop (length zdebug_prefix) text)) own.0 (ap is_wanted_stem same ∙ stem)
  where
    by_prefix : (a b s t : Bool) → a ≡ true → b ≡ false → ((a && s) || (b && t)) ≡ true → s ≡ true
    by_prefix true false true t p q h = refl
    by_prefix true false false t p q h = absurd cc
    by_prefix true true s t p q h = absurd cc
    by_prefix false b s t p q h = absurd cc

    second : (a b s : Bool) → b ≡ true → s ≡ true → (a || (b && s)) ≡ true
    second true b s p q = refl
    second false true true p q = refl
    second false true false p q = absurd cc
    second false false s p q = absurd cc

-- a section of a wanted name is wanted
pub named_wanted : (names name : List ℕ) (s : SectionHeader) → is_wanted_text name ≡ true → is_named names name s ≡ true → is_wanted_section names s ≡ true
named_wanted names name s wanted is = by_text (table_text_at names s.name) is
  where
    by_text : (o : Option (List ℕ)) → option_map_or (λ t. bytes_eq t name) o false ≡ true → option_map_or is_wanted_text o false ≡ true
    by_text None e = absurd cc
    by_text (Some t) e = ap is_wanted_text ((bytes_eq-Decides t name).0 e) ∙ wanted

pub zdebug_named_wanted : (names name : List ℕ) (s : SectionHeader) → is_wanted_text name ≡ true → is_zdebug names name s ≡ true → is_wanted_section names s ≡ true
zdebug_named_wanted names name s wanted is = by_text (table_text_at names s.name) is
  where
    by_text : (o : Option (List ℕ)) → option_map_or (is_zdebug_text name) o false ≡ true → option_map_or is_wanted_text o false ≡ true
    by_text None e = absurd cc
    by_text (Some t) e = zdebug_wanted name t wanted e

-- ---- the first section that passes a test
-- beside its number
abbrev pub found_in : List SectionHeader → Option ℕ → Option (ℕ × SectionHeader)
found_in sections o = option_and_then (λ n. option_map {U = ℕ × SectionHeader} (λ s. (n, s)) (slice_get sections n)) o

-- one that is found is one of all, and passes
found_is : (p : SectionHeader → Bool) (sections : List SectionHeader) (x : ℕ × SectionHeader) → found_in sections (position p sections) ≡ Some x → (p x.1 ≡ true) × (slice_get sections x.0 ≡ Some x.1)
found_is p sections x e = by_place (position p sections) refl e
  where
    by_section : (n : ℕ) → position p sections ≡ Some n → (o : Option SectionHeader) → slice_get sections n ≡ o → option_map {U = ℕ × SectionHeader} (λ s. (n, s)) o ≡ Some x → (p x.1 ≡ true) × (slice_get sections x.0 ≡ Some x.1)
    by_section n at None there e = absurd cc
    by_section n at (Some s) there e =
        let pair : (n, s) ≡ x = cc in
        let number : n ≡ x.0 = ap (λ (q : ℕ × SectionHeader). q.0) pair in
        let same : s ≡ x.1 = ap (λ (q : ℕ × SectionHeader). q.1) pair in
        let passes = (position-Some p sections n s at).1 in
        let own = get_or_from_slice_get sections n s s there in
        (sym (ap p (own ∙ same)) ∙ passes, ap (slice_get sections) (sym number) ∙ there ∙ ap Some same)

    by_place : (o : Option ℕ) → position p sections ≡ o → found_in sections o ≡ Some x → (p x.1 ≡ true) × (slice_get sections x.0 ≡ Some x.1)
    by_place None at e = absurd cc
    by_place (Some n) at e = by_section n at (slice_get sections n) refl e

-- where each that is wanted is shown, a wanted one that is found is shown
pub found_shown : (p wanted shown : SectionHeader → Bool) (sections : List SectionHeader) (x : ℕ × SectionHeader) → list_all (λ s. not (wanted s) || shown s) sections ≡ true
    → ((s : SectionHeader) → p s ≡ true → wanted s ≡ true) → found_in sections (position p sections) ≡ Some x → shown x.1 ≡ true
found_shown p wanted shown sections x all implies e =
    let is = found_is p sections x e in
    by_tests (wanted x.1) (shown x.1) (implies x.1 is.0) (all_at (λ s. not (wanted s) || shown s) sections x.0 x.1 all is.1)
  where
    by_tests : (w s : Bool) → w ≡ true → (not w || s) ≡ true → s ≡ true
    by_tests true s w e = e
    by_tests false s w e = absurd cc

-- the first section of a wanted name is wanted
pub first_wanted : (name : List ℕ) (file : ObjectFile) (n : ℕ) (x : SectionHeader) → first_named name file ≡ Some (n, x) → is_wanted_text name ≡ true → is_wanted_section (section_names_of file) x ≡ true
first_wanted name file n x e wanted = named_wanted (section_names_of file) name x wanted (found_is (is_named (section_names_of file) name) file.sections (n, x) e).0

pub zdebug_first_wanted : (name : List ℕ) (file : ObjectFile) (n : ℕ) (x : SectionHeader) → first_zdebug name file ≡ Some (n, x) → is_wanted_text name ≡ true → is_wanted_section (section_names_of file) x ≡ true
zdebug_first_wanted name file n x e wanted = zdebug_named_wanted (section_names_of file) name x wanted (found_is (is_zdebug (section_names_of file) name) file.sections (n, x) e).0

-- ---- bytes of sections
module _ (image : Image) (bytes : List ℕ) (shows : Shows image bytes) where
  pub outside_same : (s : SectionHeader) → is_outside (image_bytes image) s ≡ is_outside bytes s
  outside_same s = ap (λ n. nat_lt n (s.offset + s.size)) shows.len

  -- a section in one piece has the bytes of the file
  pub held_same : (s : SectionHeader) → is_held s.offset s.size image ≡ true → bytes_at (image_bytes image) s ≡ bytes_at bytes s
  held_same s h = shows.same s.offset s.size h

  -- a section that is shown has the same bytes, or none in both
  pub section_same : (s : SectionHeader) → shows_section image s ≡ true → section_bytes_in (image_bytes image) s ≡ section_bytes_in bytes s
  section_same s h =
      choose {A = Option (List ℕ)} (is_nobits s) (is_outside (image_bytes image) s) (is_held s.offset s.size image) (Some []) None (Some (bytes_at (image_bytes image) s)) (Some (bytes_at bytes s)) h (λ k. ap Some (held_same s k))
      ∙ ap (λ (b : Bool). cond {A = Option (List ℕ)} (is_nobits s) (Some []) (cond b None (Some (bytes_at bytes s)))) (outside_same s)

  maybe_same : (o : Option SectionHeader) → option_map_or (shows_section image) o true ≡ true → option_and_then (section_bytes_in (image_bytes image)) o ≡ option_and_then (section_bytes_in bytes) o
  maybe_same None h = refl
  maybe_same (Some s) h = section_same s h

  -- a string table that is shown
  pub table_same : (sections : List SectionHeader) (n : ℕ) → is_shown_at image sections n ≡ true → string_table_in (image_bytes image) sections n ≡ string_table_in bytes sections n
  table_same sections n h = ap (λ (o : Option (List ℕ)). cond (n == SHN_UNDEF) [] (option_map_or (λ t. t) o [])) (maybe_same (slice_get sections n) h)

  -- a symbol table that is shown
  pub symbols_same : (sections : List SectionHeader) → option_map_or (shows_section image) (symbol_table sections) true ≡ true → symbol_bytes (image_bytes image) sections ≡ symbol_bytes bytes sections
  symbols_same sections h = ap (λ (o : Option (List ℕ)). option_map_or (λ t. t) o []) (maybe_same (symbol_table sections) h)

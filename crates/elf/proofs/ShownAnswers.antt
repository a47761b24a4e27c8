-- What two files answer that differ in bytes which lookups don't read (on specs/ImageLaws.antt).
use Rattle.elf.proofs.Common.{◌≡◌, ◌∙◌, ℕ, Bool, true, false, ◌&&◌, ◌||◌, cond, not, List, Option, Some, None, Ok, Err, option_map, ap, refl, sym, option_and_then, list_any, position, option_map_or, and_parts, SectionHeader, PackedSection, decompressed_of, decompression_of, first_zdebug, missing_decompressed, packed_in, shared_contents, unpacked_contents, zdebug_of, zdebug_packed_in, Image, Shows, image_bytes, is_held, layout_of, CostedLoading, Loading, ObjectFile, bytes_at, is_nobits, is_outside, section_bytes_in, addresses_of, contents_of, empty_contents, first_named, gives_bytes_of_file, is_compressed, is_named, is_zdebug, missing_section, relocates, section_at, section_names_of, section_range_at, NamedAddress, covers, nearest_symbol, symbol_at, symbol_bytes, symbol_entry_name, symbol_names_number, symbol_names_of, symbol_table, usable_in, shows_section, is_shown_at, is_wanted_section, is_wanted_text, shows_sections, shows_tables}
use Rattle.gimli_read.specs.Costed.{◌>>=◌, free}
use Rattle.gimli_read.specs.Section.{Section}
use Rattle.elf.specs.declared.error.LoaderError.TheVariants.{BadElf, CompressedSection, RelocationsNeeded}
use Rattle.elf.specs.Compressed.{copied_if}
use Rattle.elf.specs.ImageLaws.{AnswersAlike}
use Rattle.elf.proofs.ShownLemmas.{choose, choose_either, found_in, found_shown, held_same, named_wanted, outside_same, section_same, symbols_same, table_same, zdebug_named_wanted}

-- the file of other bytes
abbrev pub with_bytes : List ℕ → ObjectFile → ObjectFile
with_bytes bytes f = record f { bytes = bytes }

module _ (image : Image) (bytes : List ℕ) (shows : Shows image bytes) (f : ObjectFile) where
  -- ---- the files, and their tables
  abbrev of_image : ObjectFile
  of_image = with_bytes (image_bytes image) f

  abbrev of_bytes : ObjectFile
  of_bytes = with_bytes bytes f

  abbrev TablesShown : Type 0
  TablesShown = shows_tables image of_image ≡ true

  abbrev SectionsShown : Type 0
  SectionsShown = shows_sections image of_image ≡ true

  tables_same : TablesShown → (section_names_of of_image ≡ section_names_of of_bytes) × (symbol_names_of of_image ≡ symbol_names_of of_bytes) × (symbol_bytes (image_bytes image) f.sections ≡ symbol_bytes bytes f.sections)
  tables_same t =
      let number = symbol_names_number f.sections in
      let table = option_map_or (shows_section image) (symbol_table f.sections) true in
      let p = and_parts (is_shown_at image f.sections f.name_table) (is_shown_at image f.sections number && table) t in
      let q = and_parts (is_shown_at image f.sections number) table p.1 in
      (table_same image bytes shows f.sections f.name_table p.0, table_same image bytes shows f.sections number q.0, symbols_same image bytes shows f.sections q.1)

  -- ---- symbols
  symbol_by : ℕ → List ℕ → List ℕ → Option NamedAddress
  symbol_by probe names table = option_and_then (λ e. cond (covers probe e) (option_map (λ name. record { name = name; address = e.address }) (symbol_entry_name names e)) None)
      (nearest_symbol probe (usable_in f.endian (layout_of f.class) names table))

  symbol_is : (probe : ℕ) (all : List ℕ) → symbol_at probe (with_bytes all f) ≡ symbol_by probe (symbol_names_of (with_bytes all f)) (symbol_bytes all f.sections)
  unfolding symbol_at symbol_by
  symbol_is probe all = refl

  symbol_same : TablesShown → (probe : ℕ) → symbol_at probe of_image ≡ symbol_at probe of_bytes
  symbol_same t probe =
      let tables = tables_same t in
      symbol_is probe (image_bytes image) ∙ ap (λ names. symbol_by probe names (symbol_bytes (image_bytes image) f.sections)) tables.1 ∙ ap (symbol_by probe (symbol_names_of of_bytes)) tables.2 ∙ sym (symbol_is probe bytes)

  -- ---- sections by name
  first_same : TablesShown → (name : List ℕ) → first_named name of_image ≡ first_named name of_bytes
  first_same t name = ap (λ (names : List ℕ). found_in f.sections (position (is_named names name) f.sections)) (tables_same t).0

  zdebug_first_same : TablesShown → (name : List ℕ) → first_zdebug name of_image ≡ first_zdebug name of_bytes
  zdebug_first_same t name = ap (λ (names : List ℕ). found_in f.sections (position (is_zdebug names name) f.sections)) (tables_same t).0

  range_same : TablesShown → (name : List ℕ) → section_range_at name of_image ≡ section_range_at name of_bytes
  range_same t name = ap (λ (o : Option (ℕ × SectionHeader)). option_and_then (λ found. addresses_of found.1) o) (first_same t name)

  -- the first section of a wanted name is shown
  first_shown : SectionsShown → (name : List ℕ) (x : ℕ × SectionHeader) → is_wanted_text name ≡ true → first_named name of_image ≡ Some x → shows_section image x.1 ≡ true
  first_shown all name x wanted e =
      let names = section_names_of of_image in
      found_shown (is_named names name) (is_wanted_section names) (shows_section image) f.sections x all (λ s. named_wanted names name s wanted) e

  zdebug_first_shown : SectionsShown → (name : List ℕ) (x : ℕ × SectionHeader) → is_wanted_text name ≡ true → first_zdebug name of_image ≡ Some x → shows_section image x.1 ≡ true
  zdebug_first_shown all name x wanted e =
      let names = section_names_of of_image in
      found_shown (is_zdebug names name) (is_wanted_section names) (shows_section image) f.sections x all (λ s. zdebug_named_wanted names name s wanted) e

  -- ---- what a section has
  -- the answer for a section in the file, by its bytes
  abbrev contents_by : ℕ → SectionHeader → List ℕ → Loading Section
  contents_by n s own = cond (is_compressed s) (Err CompressedSection) (cond (f.is_relocatable && list_any (relocates n) f.sections) (Err RelocationsNeeded) (Ok (record { bytes = own; endian = f.endian })))

  contents_same : (n : ℕ) (s : SectionHeader) → shows_section image s ≡ true → contents_of of_image n s ≡ contents_of of_bytes n s
  unfolding contents_of
  contents_same n s h =
      choose {A = Loading Section} (is_nobits s) (is_outside (image_bytes image) s) (is_held s.offset s.size image) (Ok (empty_contents f)) (Err BadElf) (contents_by n s (bytes_at (image_bytes image) s)) (contents_by n s (bytes_at bytes s)) h (λ k. ap (contents_by n s) (held_same image bytes shows s k))
      ∙ ap (λ (b : Bool). cond {A = Loading Section} (is_nobits s) (Ok (empty_contents f)) (cond b (Err BadElf) (contents_by n s (bytes_at bytes s)))) (outside_same image bytes shows s)

  missing_same : TablesShown → (name : List ℕ) → missing_section name of_image ≡ missing_section name of_bytes
  missing_same t name = ap (λ (names : List ℕ). cond {A = Loading Section} (list_any (is_zdebug names name) f.sections) (Err CompressedSection) (Ok (empty_contents f))) (tables_same t).0

  -- an answer by the section that is found, or by there being none
  by_found : {A : Type 0} (g h : ℕ → SectionHeader → A) (none some : A) (o p : Option (ℕ × SectionHeader)) → o ≡ p → none ≡ some → ((x : ℕ × SectionHeader) → o ≡ Some x → g x.0 x.1 ≡ h x.0 x.1)
      → option_map_or (λ (x : ℕ × SectionHeader). g x.0 x.1) o none ≡ option_map_or (λ (x : ℕ × SectionHeader). h x.0 x.1) p some
  by_found g h none some None p e same each = same ∙ ap (λ (q : Option (ℕ × SectionHeader)). option_map_or (λ (x : ℕ × SectionHeader). h x.0 x.1) q some) e
  by_found g h none some (Some x) p e same each = each x refl ∙ ap (λ (q : Option (ℕ × SectionHeader)). option_map_or (λ (x : ℕ × SectionHeader). h x.0 x.1) q some) e

  section_answer_same : TablesShown → SectionsShown → (name : List ℕ) → is_wanted_text name ≡ true → section_at name of_image ≡ section_at name of_bytes
  unfolding section_at
  section_answer_same t all name wanted =
      by_found (contents_of of_image) (contents_of of_bytes) (missing_section name of_image) (missing_section name of_bytes) (first_named name of_image) (first_named name of_bytes) (first_same t name) (missing_same t name)
      (λ x e. contents_same x.0 x.1 (first_shown all name x wanted e))

  -- ---- what a section has that is decompressed
  unpacked_same : (n : ℕ) (r : Loading PackedSection) → (free r >>= unpacked_contents of_image n) ≡ (free r >>= unpacked_contents of_bytes n)
  unfolding unpacked_contents
  unpacked_same n (Ok p) = refl
  unpacked_same n (Err e) = refl

  abbrev packed_by : List ℕ → Loading PackedSection
  packed_by own = packed_in f.endian (layout_of f.class).address_size own

  decompressed_same : (n : ℕ) (s : SectionHeader) → shows_section image s ≡ true → decompressed_of of_image n s ≡ decompressed_of of_bytes n s
  unfolding decompressed_of
  decompressed_same n s h =
      choose_either {A = CostedLoading Section} (is_nobits s) (is_outside (image_bytes image) s) (is_held s.offset s.size image) (not (is_compressed s)) (shared_contents of_image n s) (shared_contents of_bytes n s)
      (free (packed_by (bytes_at (image_bytes image) s)) >>= unpacked_contents of_image n) (free (packed_by (bytes_at bytes s)) >>= unpacked_contents of_bytes n) h (ap at_cost (contents_same n s h))
      (λ k. ap (λ (own : List ℕ). free (packed_by own) >>= unpacked_contents of_image n) (held_same image bytes shows s k) ∙ unpacked_same n (packed_by (bytes_at bytes s)))
      ∙ ap (λ (b : Bool). cond {A = CostedLoading Section} (is_nobits s || (b || not (is_compressed s))) (shared_contents of_bytes n s) (free (packed_by (bytes_at bytes s)) >>= unpacked_contents of_bytes n)) (outside_same image bytes shows s)
    where
      at_cost : Loading Section → CostedLoading Section
      at_cost given = record { given = given; takes_memory = λ shares. shares && gives_bytes_of_file given }

  zdebug_same : (n : ℕ) (s : SectionHeader) → shows_section image s ≡ true → zdebug_of of_image n s ≡ zdebug_of of_bytes n s
  unfolding zdebug_of
  zdebug_same n s h =
      ap (λ (o : Option (List ℕ)). option_map_or (λ own. free (zdebug_packed_in own) >>= unpacked_contents of_image n) o (free (Err BadElf))) (section_same image bytes shows s h) ∙ each (section_bytes_in bytes s)
    where
      each : (o : Option (List ℕ)) → option_map_or (λ own. free (zdebug_packed_in own) >>= unpacked_contents of_image n) o (free (Err BadElf)) ≡ option_map_or (λ own. free (zdebug_packed_in own) >>= unpacked_contents of_bytes n) o (free (Err BadElf))
      each None = refl
      each (Some own) = unpacked_same n (zdebug_packed_in own)

  missing_decompressed_same : TablesShown → SectionsShown → (name : List ℕ) → is_wanted_text name ≡ true → missing_decompressed name of_image ≡ missing_decompressed name of_bytes
  unfolding missing_decompressed
  missing_decompressed_same t all name wanted =
      by_found (zdebug_of of_image) (zdebug_of of_bytes) (free (Ok (empty_contents f))) (free (Ok (empty_contents f))) (first_zdebug name of_image) (first_zdebug name of_bytes) (zdebug_first_same t name) refl
      (λ x e. zdebug_same x.0 x.1 (zdebug_first_shown all name x wanted e))

  decompressed_answer_same : TablesShown → SectionsShown → (name : List ℕ) → is_wanted_text name ≡ true → decompression_of name of_image ≡ decompression_of name of_bytes
  unfolding decompression_of
  decompressed_answer_same t all name wanted =
      ap (copied_if (not (is_wanted_text name))) (by_found (decompressed_of of_image) (decompressed_of of_bytes) (missing_decompressed name of_image) (missing_decompressed name of_bytes) (first_named name of_image) (first_named name of_bytes) (first_same t name)
      (missing_decompressed_same t all name wanted) (λ x e. decompressed_same x.0 x.1 (first_shown all name x wanted e)))

  -- ---- all that lookups ask
  pub answers_alike : TablesShown → SectionsShown → AnswersAlike of_image of_bytes
  answers_alike t all = record {
    ranges = range_same t;
    symbols = symbol_same t;
    sections = λ name wanted. record {
      contents = section_answer_same t all name wanted;
      decompressed = decompressed_answer_same t all name wanted;
    };
  }

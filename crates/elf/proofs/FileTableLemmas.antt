-- Sections that stand in one piece (on specs/FileTables.antt).
use Rattle.elf.proofs.Common.{◌≡◌, ◌∙◌, ◌≤◌, ◌+◌, ℕ, zero, suc, Bool, true, false, ◌&&◌, ◌||◌, not, List, [], ◌∷◌, Option, Some, None, drop, get_or, length, nat_eq, option_map, ap, arith, refl, sym, slice_get, option_and_then, list_all, position, starts_with, option_map_or, bytes_eq, nat_tests, or_right, and_parts, SectionHeader, Image, IsWhole, image_bytes, is_held, AreReadable, has_zdebug_name, is_packed, is_readable, first_zdebug, ObjectFile, is_outside, table_text_at, debug_prefix, zdebug_prefix, is_compressed, is_zdebug, is_zdebug_text, section_names_of}
use Rattle.std.proofs.lemmas.List.Quantifiers.{position-Some}
use Rattle.elf.proofs.Common.{is_wanted_section}

-- what holds of all holds of each
pub all_at : {X : Type 0} (p : X → Bool) (xs : List X) (n : ℕ) (x : X) → list_all p xs ≡ true → slice_get xs n ≡ Some x → p x ≡ true
all_at p [] n x h e = absurd cc
all_at p (y ∷ ys) zero x h e = first (p y) refl
  where
    first : (b : Bool) → p y ≡ b → p x ≡ true
    first true t = let same : y ≡ x = cc in ap p (sym same) ∙ t
    first false t = absurd cc
all_at p (y ∷ ys) (suc n) x h e = rest (p y) refl (λ r. all_at p ys n x r e)
  where
    rest : (b : Bool) → p y ≡ b → (list_all p ys ≡ true → p x ≡ true) → p x ≡ true
    rest true t next = next cc
    rest false t next = absurd cc

-- what holds of each holds of all
pub all_of_each : {X : Type 0} (p : X → Bool) (xs : List X) → ((n : ℕ) (x : X) → slice_get xs n ≡ Some x → p x ≡ true) → list_all p xs ≡ true
all_of_each p [] each = refl
all_of_each p (y ∷ ys) each = ap (λ b. b && list_all p ys) (each 0 y refl) ∙ all_of_each p ys (λ n x e. each (suc n) x e)

-- where one piece has all bytes of a file, it has those of each section
pub whole_readable : (image : Image) (names : List ℕ) (sections : List SectionHeader) → IsWhole image → AreReadable image names sections
whole_readable image names sections whole n s e = by_cases (is_outside (image_bytes image) s) refl
  where
    by_cases : (b : Bool) → is_outside (image_bytes image) s ≡ b → is_readable image names s ≡ true
    by_cases true h = ap (λ b. not (is_wanted_section names s) || (not (is_packed names s) || (b || is_held s.offset s.size image))) h ∙ ap (λ b. not (is_wanted_section names s) || b) (or_right (not (is_packed names s)) true refl) ∙ or_right (not (is_wanted_section names s)) true refl
    by_cases false h =
        let within : s.offset + s.size ≤ length (image_bytes image) = grind (arith, nat_tests) in
        ap (λ b. not (is_wanted_section names s) || (not (is_packed names s) || (b || is_held s.offset s.size image))) h ∙ ap (λ b. not (is_wanted_section names s) || (not (is_packed names s) || b)) (whole s.offset s.size within)
        ∙ ap (λ b. not (is_wanted_section names s) || b) (or_right (not (is_packed names s)) true refl) ∙ or_right (not (is_wanted_section names s)) true refl

-- a packed section in the file that doesn't stand in one piece isn't wanted
pub unread_is_unwanted : (image : Image) (names : List ℕ) (s : SectionHeader) → is_readable image names s ≡ true → is_packed names s ≡ true → is_outside (image_bytes image) s ≡ false
    → is_held s.offset s.size image ≡ false → is_wanted_section names s ≡ false
unread_is_unwanted image names s h packed within held = by (is_wanted_section names s) (is_packed names s) (is_outside (image_bytes image) s) (is_held s.offset s.size image) packed within held h
  where
    by : (w p o e : Bool) → p ≡ true → o ≡ false → e ≡ false → (not w || (not p || (o || e))) ≡ true → w ≡ false
    by false p o e x y z h = refl
    by true true false false x y z h = absurd cc
    by true false o e x y z h = absurd cc
    by true true true e x y z h = absurd cc
    by true true false true x y z h = absurd cc

-- the name with .zdebug_ in place of .debug_ begins with .zdebug_
zdebug_name : (names name : List ℕ) (s : SectionHeader) → is_zdebug names name s ≡ true → has_zdebug_name names s ≡ true
zdebug_name names name s h = by_text (table_text_at names s.name) h
  where
    by_text : (t : Option (List ℕ)) → option_map_or (is_zdebug_text name) t false ≡ true → option_map_or (λ text. starts_with nat_eq text zdebug_prefix) t false ≡ true
    by_text None e = absurd cc
    by_text (Some text) e = (and_parts (starts_with nat_eq text zdebug_prefix) (bytes_eq (drop (length zdebug_prefix) text) (drop (length debug_prefix) name)) (and_parts (starts_with nat_eq name debug_prefix) (starts_with nat_eq text zdebug_prefix && bytes_eq (drop (length zdebug_prefix) text) (drop (length debug_prefix) name)) e).1).0

-- the element at a place
get_at : (xs : List SectionHeader) (n : ℕ) (s : SectionHeader) → slice_get xs n ≡ Some s → get_or xs n s ≡ s
get_at [] n s e = absurd cc
get_at (x ∷ xs) zero s e = cc
get_at (x ∷ xs) (suc n) s e = get_at xs n s e

-- the section that is found for such a name is packed
pub zdebug_is_packed : (name : List ℕ) (file : ObjectFile) (n : ℕ) (s : SectionHeader) → first_zdebug name file ≡ Some (n, s) → is_packed (section_names_of file) s ≡ true
zdebug_is_packed name file n s e = by_place (position (is_zdebug names name) file.sections) refl e
  where
    names : List ℕ
    names = section_names_of file

    by_section : (m : ℕ) → position (is_zdebug names name) file.sections ≡ Some m → (o : Option SectionHeader) → slice_get file.sections m ≡ o
        → option_map {U = ℕ × SectionHeader} (λ x. (m, x)) o ≡ Some (n, s) → is_packed names s ≡ true
    by_section m at None there e = absurd cc
    by_section m at (Some x) there e =
        let pair : (m, x) ≡ (n, s) = cc in
        let same : x ≡ s = ap (λ (q : ℕ × SectionHeader). q.1) pair in
        let passes = (position-Some (is_zdebug names name) file.sections m x at).1 in
        let is : is_zdebug names name x ≡ true = sym (ap (is_zdebug names name) (get_at file.sections m x there)) ∙ passes in
        let named = zdebug_name names name x is in
        ap (is_packed names) (sym same) ∙ ap (λ b. is_compressed x || b) named ∙ or_right (is_compressed x) true refl

    by_place : (o : Option ℕ) → position (is_zdebug names name) file.sections ≡ o
        → option_and_then (λ m. option_map {U = ℕ × SectionHeader} (λ x. (m, x)) (slice_get file.sections m)) o ≡ Some (n, s) → is_packed names s ≡ true
    by_place None at e = absurd cc
    by_place (Some m) at e = by_section m at (slice_get file.sections m) refl e

-- Sections that are decompressed, and the memory that this takes (on specs/Compressed.antt).
use Rattle.elf.specs.Compressed.{copied_if}
use Rattle.elf.proofs.Common.{◌≡◌, ◌∙◌, ◌||◌, ap, sym, or_right, Bool, true, false, not, Ok, Err, is_wanted_text, ℕ, List, Some, None, refl, SectionHeader, first_zdebug, zdebug_of, missing_decompressed, decompressed_of, decompression_of, CostedLoading, Loading, LoadsAtCost, ObjectFile, first_named}

-- an answer with which another one ends
pub loads_as : {X Y : Type 0} (view : X → Y) (r : Loading X) (given same : CostedLoading Y) → given ≡ same → LoadsAtCost view r same → LoadsAtCost view r given
loads_as view r given same e h = rw e h

-- an answer where memory may be taken too for a copy
pub copied_more : {X Y : Type 0} (view : X → Y) (r : Loading X) (b : Bool) (c : CostedLoading Y) → LoadsAtCost view r c → LoadsAtCost view r (copied_if b c)
copied_more view (Ok x) b c h = h
copied_more view (Err e) b c h = λ n. h (λ k. n (or_right b (c.takes_memory true) k))

-- where it is taken only if the other test is true as well
pub copied_less : {X Y : Type 0} (view : X → Y) (r : Loading X) (w s : Bool) (c : CostedLoading Y) → (w ≡ true → s ≡ true) → LoadsAtCost view r (copied_if (not s) c) → LoadsAtCost view r (copied_if (not w) c)
copied_less view (Ok x) w s c k h = h
copied_less view (Err e) true s c k h = λ n. h (λ m. n (sym (ap (λ b. not b || c.takes_memory true) (k refl)) ∙ m))
copied_less view (Err e) false s c k h = λ n. h (λ m. n refl)

-- the first section of a name
pub named_gives : (name : List ℕ) (file : ObjectFile) (n : ℕ) (s : SectionHeader) → first_named name file ≡ Some (n, s) → decompression_of name file ≡ copied_if (not (is_wanted_text name)) (decompressed_of file n s)
unfolding decompression_of
named_gives name file n s h = rw h refl

pub missing_gives : (name : List ℕ) (file : ObjectFile) → first_named name file ≡ None → decompression_of name file ≡ copied_if (not (is_wanted_text name)) (missing_decompressed name file)
unfolding decompression_of
missing_gives name file h = rw h refl

-- a section with .zdebug_ in its name
pub zdebug_gives : (name : List ℕ) (file : ObjectFile) (n : ℕ) (s : SectionHeader) → first_zdebug name file ≡ Some (n, s) → missing_decompressed name file ≡ zdebug_of file n s
unfolding missing_decompressed
zdebug_gives name file n s h = rw h refl

pub copied_zdebug : (name : List ℕ) (file : ObjectFile) (n : ℕ) (s : SectionHeader) → first_zdebug name file ≡ Some (n, s) → copied_if (not (is_wanted_text name)) (missing_decompressed name file) ≡ copied_if (not (is_wanted_text name)) (zdebug_of file n s)
copied_zdebug name file n s h = ap (copied_if (not (is_wanted_text name))) (zdebug_gives name file n s h)

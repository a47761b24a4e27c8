-- Lines that are read from an input one after another.
use Rattle.addr2line_bin.proofs.Common.{◌≡◌, ◌∙◌, ◌+◌, ◌-◌, ◌^◌, ◌<◌, inl, inr, ℕ, true, false, List, [], ◌∷◌, ◌++◌, length, ap, refl, Option, Some, None, IfSome, length-append, map-append, IsAtEnd, IsUtf8, byte, address_in, AreFirstLines, AreLines, AreLinesToFault, InputState, IsInputEnd, ReadsLine, StartKnown, StartWith, TakesLine, TakesPart, line_probes, plus}
use Rattle.std.specs.Io.BufRead.{first_line, drop_through}
use Rattle.addr2line_bin.proofs.Runs.{plus_plus}

-- the lines that were read, where these bytes are left of all
abbrev pub ReadSoFar : Option (List ℕ) → Option (List ℕ) → List (List ℕ) → Type 0
ReadSoFar None left lines = Unit {0}
ReadSoFar (Some bytes) None lines = ⊥
ReadSoFar (Some bytes) (Some rest) lines = StartWith bytes lines rest

pub read_nothing : (all : Option (List ℕ)) → ReadSoFar all all []
read_nothing None = tt
read_nothing (Some bytes) = refl

line_more : (bytes : List ℕ) (lines : List (List ℕ)) (mid line : List ℕ) → StartWith bytes lines mid → 0 < length mid → line ≡ first_line mid → IsUtf8 line
    → StartWith bytes (lines ++ line ∷ []) (drop_through (byte "\n") mid)
line_more bytes [] mid line s lt e u = rw s (lt, e, u, refl)
line_more bytes (l ∷ lines) mid line s lt e u = (s.0, s.1, s.2, line_more (drop_through (byte "\n") bytes) lines mid line s.3 lt e u)

-- one more line is read
pub read_more : (all old new : Option (List ℕ)) (lines : List (List ℕ)) (line : List ℕ) → ReadSoFar all old lines
    → IfSome old (λ xs. (0 < length xs) × (line ≡ first_line xs) × (new ≡ Some (drop_through (byte "\n") xs))) → IsUtf8 line → ReadSoFar all new (lines ++ line ∷ [])
read_more None old new lines line s h u = tt
read_more (Some bytes) None new lines line s h u = absurd s
read_more (Some bytes) (Some xs) new lines line s h u = rw h.2 (line_more bytes lines xs line s h.0 h.1 u)

-- what was read so far is all before the line of which a failed read took a part
begins : (all left new : Option (List ℕ)) (lines : List (List ℕ)) → ReadSoFar all left lines → TakesPart left new → StartKnown all lines (λ rest. TakesPart (Some rest) new)
begins None left new lines s part = tt
begins (Some bytes) None new lines s part = absurd s
begins (Some bytes) (Some rest) new lines s part = (rest, s, part)

-- nothing behind it was read
begins_before : (all left : Option (List ℕ)) (lines : List (List ℕ)) → ReadSoFar all left lines → StartKnown all lines (λ rest. left ≡ Some rest)
begins_before None left lines s = tt
begins_before (Some bytes) None lines s = absurd s
begins_before (Some bytes) (Some rest) lines s = (rest, s, refl)

-- the input ends where no byte is left
ends_at_last : (all left : Option (List ℕ)) (lines : List (List ℕ)) → ReadSoFar all left lines → IsAtEnd left → StartKnown all lines IsInputEnd
ends_at_last None left lines s h = tt
ends_at_last (Some bytes) None lines s h = absurd s
ends_at_last (Some bytes) (Some rest) lines s h = (rest, s, inl h)

-- it ends at a line that is no UTF-8
ends_at_foreign : (all left new : Option (List ℕ)) (lines : List (List ℕ)) (line : List ℕ) → ReadSoFar all left lines → TakesLine true left new line → (IsUtf8 line → ⊥)
    → StartKnown all lines IsInputEnd
ends_at_foreign None left new lines line s h u = tt
ends_at_foreign (Some bytes) None new lines line s h u = absurd s
ends_at_foreign (Some bytes) (Some rest) new lines line s h u = (rest, s, inr (rw h.1 at u))

-- one line more was asked for
asked_more : (a b c : Option ℕ) (n : ℕ) → b ≡ plus a n → c ≡ plus b 1 → c ≡ plus a (n + 1)
asked_more a b c n before one = one ∙ ap (λ o. plus o 1) before ∙ plus_plus a n 1 (n + 1) refl

pub counted_more : (a b c : Option ℕ) (lines : List (List ℕ)) (line : List ℕ) → b ≡ plus a (length lines) → c ≡ plus b 1 → c ≡ plus a (length (lines ++ line ∷ []))
counted_more a b c lines line before one = one ∙ ap (λ o. plus o 1) before ∙ plus_plus a (length lines) 1 _ (length-append lines (line ∷ []))

pub to_fault : (old mid new : InputState) (lines : List (List ℕ)) → mid.reads ≡ plus old.reads (length lines) → ReadSoFar old.bytes mid.bytes lines → new.reads ≡ plus mid.reads 1 → TakesPart mid.bytes new.bytes
    → AreLinesToFault old new lines
to_fault old mid new lines reads s one part = (asked_more old.reads mid.reads new.reads _ reads one, begins old.bytes mid.bytes new.bytes lines s part)

-- the lines are all where there is no more
pub all_without : (old mid new : InputState) (lines : List (List ℕ)) (line : List ℕ) → mid.fault ≡ old.fault → mid.reads ≡ plus old.reads (length lines) → ReadSoFar old.bytes mid.bytes lines
    → new.reads ≡ plus mid.reads 1 → ReadsLine false mid new line → AreLines old new lines
all_without old mid new lines line same reads s one (inl end) =
    inl (end.0 ∙ same, asked_more old.reads mid.reads new.reads _ reads one, ends_at_last old.bytes mid.bytes lines s end.1)
all_without old mid new lines line same reads s one (inr failed) =
    inr (inl (failed.0, to_fault old mid new lines reads s one failed.1))

-- they are where the next is no UTF-8
pub all_before_foreign : (old mid new : InputState) (lines : List (List ℕ)) (line : List ℕ) → mid.fault ≡ old.fault → mid.reads ≡ plus old.reads (length lines) → ReadSoFar old.bytes mid.bytes lines
    → new.reads ≡ plus mid.reads 1 → ReadsLine true mid new line → (IsUtf8 line → ⊥) → AreLines old new lines
all_before_foreign old mid new lines line same reads s one read u =
    inl (read.0 ∙ same, asked_more old.reads mid.reads new.reads _ reads one, ends_at_foreign old.bytes mid.bytes new.bytes lines line s read.1 u)

pub are_first : (old new : InputState) (lines : List (List ℕ)) → new.fault ≡ old.fault → new.reads ≡ plus old.reads (length lines) → ReadSoFar old.bytes new.bytes lines → AreFirstLines old new lines
are_first old new lines same reads s = (same, reads, begins_before old.bytes new.bytes lines s)

-- they are where no more can be counted
pub all_counted : (old new : InputState) (lines : List (List ℕ)) → new.fault ≡ old.fault → new.reads ≡ plus old.reads (length lines) → ReadSoFar old.bytes new.bytes lines → length lines ≡ 2 ^ 64 - 1
    → AreLines old new lines
all_counted old new lines same reads s full = inr (inr (are_first old new lines same reads s, full))

pub probes_more : (lines : List (List ℕ)) (line : List ℕ) → line_probes (lines ++ line ∷ []) ≡ line_probes lines ++ address_in line ∷ []
probes_more lines line = map-append address_in lines (line ∷ [])

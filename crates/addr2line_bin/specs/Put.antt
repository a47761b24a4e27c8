-- What goes to a stream that may fail: its bytes, where they are known, grow by a text, or by a
-- beginning of it where it fails.
-- Own: a write that fails, is interrupted or takes no byte isn't tried again; after a failed write
-- to standard error nothing more goes there.
use Rattle.std.specs.Prelude.{◌≡◌, ◌+◌, ℕ, zero, suc, Bool, true, false, List, [], ◌∷◌, ◌++◌, drop, Option, Some, is_some, option_map, Result, Ok, Err}
use Rattle.std.specs.declared.io.ErrorKind.{ErrorKind}
use Rattle.std.specs.declared.io.ErrorKind.TheVariants.{WriteZero}
use Rattle.std.specs.Io.KnownBytes.{Appends, Keeps}
use Rattle.addr2line_bin.specs.Calls.{Flushed, SinkCall, Wrote}

-- a stream: its bytes and how often it was flushed, where these are known, whether all of them are
-- flushed, its last fault, and whether its last call had that
pub record StreamState : Type 0 where
  pub contents : Option (List ℕ)
  pub flushes : Option ℕ
  pub is_flushed : Bool
  pub fault : Option ErrorKind
  pub is_failing : Bool

-- whether a stream has failed
abbrev pub has_fault : StreamState → Bool
has_fault s = is_some s.fault

-- the calls write the text, each from where the one before it stopped, until all is written, or one
-- fails or takes no byte; the answer is that of the last one. For no byte there is no call
abbrev pub PutsBy : List ℕ → Result (Unit {0}) ErrorKind → List SinkCall → Type 0
PutsBy [] result calls = (calls ≡ []) × (result ≡ Ok tt)
PutsBy (b ∷ rest) result [] = ⊥
PutsBy (b ∷ rest) result (Wrote bytes (Ok zero) ∷ calls) =
    (bytes ≡ b ∷ rest) × (calls ≡ []) × (result ≡ Err WriteZero)
PutsBy (b ∷ rest) result (Wrote bytes (Ok (suc n)) ∷ calls) =
    (bytes ≡ b ∷ rest) × PutsBy (drop (suc n) (b ∷ rest)) result calls
PutsBy (b ∷ rest) result (Wrote bytes (Err kind) ∷ calls) =
    (bytes ≡ b ∷ rest) × (calls ≡ []) × (result ≡ Err kind)
PutsBy (b ∷ rest) result (Flushed answer ∷ calls) = ⊥

-- the calls are one flush, and the answer is its own
abbrev pub FlushesBy : Result (Unit {0}) ErrorKind → List SinkCall → Type 0
FlushesBy result calls = calls ≡ Flushed result ∷ []

-- the last fault, after a call with this answer
abbrev pub last_fault_after : {A : Type 0} → Option ErrorKind → Result A ErrorKind
    → Option ErrorKind
last_fault_after before (Ok _) = before
last_fault_after before (Err kind) = Some kind

-- a known count, and n more
abbrev pub plus : Option ℕ → ℕ → Option ℕ
plus known n = option_map (λ m. m + n) known

-- how often a stream was flushed, after a flush with this answer
abbrev pub flushes_after : Option ℕ → Result (Unit {0}) ErrorKind → Option ℕ
flushes_after known (Ok _) = plus known 1
flushes_after known (Err _) = known

-- known bytes grow by a beginning of the text
pub record WritesPrefix (old new : Option (List ℕ)) (text : List ℕ) : Type 0 where
  pub written : List ℕ
  pub rest : List ℕ
  pub joins : text ≡ written ++ rest
  pub appends : Appends old new written

-- a text goes to a stream that has failed by now, or hasn't
abbrev pub WritesUnlessFailed : Option (List ℕ) → Option (List ℕ) → Bool → List ℕ → Type 0
WritesUnlessFailed old new true text = WritesPrefix old new text
WritesUnlessFailed old new false text = Appends old new text

-- the same, to a stream that may have failed before: nothing goes there then
abbrev pub WritesIfUnfailed : Option (List ℕ) → Option (List ℕ) → Bool → Bool → List ℕ → Type 0
WritesIfUnfailed old new true after text = Keeps old new × (after ≡ true)
WritesIfUnfailed old new false after text = WritesUnlessFailed old new after text

-- a text is reported to a stream, all of it unless the stream fails or has failed
abbrev pub Reports : StreamState → StreamState → List ℕ → Type 0
Reports old new text =
    WritesIfUnfailed old.contents new.contents (has_fault old) (has_fault new) text

-- a text is reported to standard error, and nothing goes to the output
abbrev pub OnlyReports : StreamState → StreamState → StreamState → StreamState → List ℕ → Type 0
OnlyReports oo on eo en text = (on ≡ oo) × Reports eo en text

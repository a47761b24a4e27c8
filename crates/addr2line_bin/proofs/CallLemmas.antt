-- Calls of a writer or a reader one after another, and what they make of a text or a line.
use Rattle.std.proofs.Common.{◌≡◌, ◌≢◌, ℕ, Bool, true, false, ◌==◌, zero, suc, List, [], ◌∷◌, drop, length, Result, Ok, Err, OnOk, is_ok, refl, sym, subst}
use Rattle.std.specs.Io.{appended_bytes}
use Rattle.std.specs.Str.{byte}
use Rattle.std.specs.declared.io.ErrorKind.{ErrorKind}
use Rattle.std.specs.declared.io.ErrorKind.TheVariants.{WriteZero}
use Rattle.addr2line_bin.specs.Calls.{Made, ReadCall, ReadTo, SinkCall, Wrote}
use Rattle.addr2line_bin.specs.InputLines.{ReadsBy, cut_line, line_answer, line_of_taken}
use Rattle.addr2line_bin.specs.Put.{PutsBy}

-- one call
one_call : {S C : Type 0} (gives : S → C → S → Type 0) (old new : S) (call : C) (So : List C → Type 0) → gives old call new → So (call ∷ []) → Made gives old new So
one_call gives old new call So g so = record { calls = call ∷ []; steps = (new, g, refl); so = so }

-- a write that took some bytes, and the calls after it
pub wrote_more : {S : Type 0} (gives : S → SinkCall → S → Type 0) (old mid new : S) (rest : List ℕ) (n : ℕ) (result : Result (Unit {0}) ErrorKind) → length rest ≢ 0 → n ≢ 0 → gives old (Wrote rest (Ok n)) mid → Made gives mid new (PutsBy (drop n rest) result) → Made gives old new (PutsBy rest result)
wrote_more gives old mid new [] n result left some g r = absurd (left refl)
wrote_more gives old mid new (b ∷ rest) zero result left some g r = absurd (some refl)
wrote_more gives old mid new (b ∷ rest) (suc n) result left some g r = record {
  calls = Wrote (b ∷ rest) (Ok (suc n)) ∷ r.calls;
  steps = (mid, g, r.steps);
  so = (refl, r.so);
}

-- a write that failed
pub wrote_fault : {S : Type 0} (gives : S → SinkCall → S → Type 0) (old new : S) (rest : List ℕ) (kind : ErrorKind) → length rest ≢ 0 → gives old (Wrote rest (Err kind)) new → Made gives old new (PutsBy rest (Err kind))
wrote_fault gives old new [] kind left g = absurd (left refl)
wrote_fault gives old new (b ∷ rest) kind left g = one_call gives old new _ _ g (refl, refl, refl)

-- a write that took no byte
pub wrote_nothing : {S : Type 0} (gives : S → SinkCall → S → Type 0) (old new : S) (rest : List ℕ) → length rest ≢ 0 → gives old (Wrote rest (Ok 0)) new → Made gives old new (PutsBy rest (Err WriteZero))
wrote_nothing gives old new [] left g = absurd (left refl)
wrote_nothing gives old new (b ∷ rest) left g = one_call gives old new _ _ g (refl, refl, refl)

-- a length that isn't found to be 0
pub left_over : (n : ℕ) → false ≡ (n == 0) → n ≢ 0
left_over zero k e = absurd cc
left_over (suc n) k e = absurd cc

-- whether all is flushed, after a flush
pub flushed_by : (answer : Result (Unit {0}) ErrorKind) (flushed : Bool) → flushed ≡ is_ok answer → OnOk answer (flushed ≡ true)
flushed_by (Ok x) flushed e = e
flushed_by (Err kind) flushed e = tt

-- what is appended to nothing is all
pub after_nothing : (old new : List ℕ) → old ≡ [] → new ≡ appended_bytes old new
after_nothing old new none = subst (λ xs. new ≡ appended_bytes xs new) (sym none) refl

-- one read
pub one_read : {S : Type 0} (gives : S → ReadCall → S → Type 0) (old new : S) (taken : List ℕ) (answer : Result ℕ ErrorKind) (result : Result Bool ErrorKind) (line : List ℕ) → gives old (ReadTo (byte "\n") taken answer) new → result ≡ line_answer answer → line ≡ line_of_taken answer taken → Made gives old new (ReadsBy result line)
one_read gives old new taken answer result line g r l = record {
  calls = ReadTo (byte "\n") taken answer ∷ [];
  steps = (new, g, refl);
  so = record { taken = taken; answer = answer; reads = refl; gives = r; left = l };
}

-- a read that took some bytes
pub line_read : {S : Type 0} (gives : S → ReadCall → S → Type 0) (old new : S) (taken : List ℕ) (n : ℕ) (line : List ℕ) → n ≢ 0 → gives old (ReadTo (byte "\n") taken (Ok n)) new → line ≡ cut_line taken → Made gives old new (ReadsBy (Ok true) line)
line_read gives old new taken zero line some g l = absurd (some refl)
line_read gives old new taken (suc n) line some g l = one_read gives old new taken (Ok (suc n)) (Ok true) line g refl l

-- What C gets of calls by a handle (on specs/Calls.antt).
use Rattle.addr2line_c.proofs.Common.{◌≡◌, ℕ, List, Option, Some, None, Result, Ok, Err, sym, subst, OpenFile, OpensFile, Status, Closed, Refused, CallsFile, given_sup, status_number}
use Rattle.std.specs.Prelude.{IfErr}
use Rattle.elf.specs.Loading.{Loading, LoadsUnlessOom}
use Rattle.elf.specs.ObjectFile.{ObjectFile, object_file_of}
use Rattle.elf.specs.declared.error.LoaderError.{LoaderError}
use Rattle.addr2line.specs.declared.compressed.CompressedSections.{CompressedSections}
use Rattle.addr2line.specs.Context.{ContextState}
use Rattle.addr2line.specs.Loaded.{loaded_bytes}

-- a handle that isn't open
pub calls_none : {F : Type 0} (old new : Option F) (number : ℕ) (untouched : Type 0)
    (says : F → F → Status → Type 0) → old ≡ None → new ≡ None
    → number ≡ status_number Closed → untouched → CallsFile old new number untouched says
calls_none old new number untouched says closed stays is same =
    subst (λ o. CallsFile o new number untouched says) (sym closed) (stays, is, same)

-- an open one
pub calls_open : {F : Type 0} (old new : Option F) (number : ℕ) (untouched : Type 0)
    (says : F → F → Status → Type 0) (file left : F) (s : Status) → old ≡ Some file
    → new ≡ Some left → number ≡ status_number s → says file left s
    → CallsFile old new number untouched says
calls_open old new number untouched says file left s is_file put is said =
    subst (λ o. CallsFile o new number untouched says) (sym is_file) (left, s, put, is, said)

-- bytes that were opened are an ELF file, so that no other refusal is owed
pub opened_is_read : {X Y E : Type 0} (read : Result X E) (r : Result Y E) (y : Y) (q : Result Y E)
    → r ≡ Ok y → IfErr read (λ e. r ≡ Err e) → IfErr read (λ e. q ≡ Err e)
opened_is_read (Ok x) r y q is h = tt
opened_is_read (Err e) r y q is h = absurd cc

-- the refusal of bytes that are no ELF file is that of the call
refusal_is : {X Y E : Type 0} (read : Result X E) (r : Result Y E) (refusal : E)
    → r ≡ Err refusal → IfErr read (λ e. r ≡ Err e) → IfErr read (λ e. refusal ≡ e)
refusal_is (Ok x) r refusal is h = tt
refusal_is (Err e) r refusal is h = cc

-- a handle has nothing where the file was refused
pub opens_none : {Y : Type 0} (compressed : CompressedSections) (bytes sup : List ℕ) (value : Option OpenFile)
    (number : ℕ) (see : Y → ObjectFile × ContextState) (r : Loading Y) (refusal : LoaderError)
    → value ≡ None → number ≡ status_number (Refused refusal) → r ≡ Err refusal
    → LoadsUnlessOom see r (loaded_bytes compressed bytes (given_sup sup))
    → IfErr (object_file_of bytes) (λ e. r ≡ Err e) → OpensFile compressed bytes sup value number
opens_none compressed bytes sup value number see r refusal closed told is gives refused =
    subst (λ v. OpensFile compressed bytes sup v number) (sym closed) (
      refusal,
      told,
      subst (λ x. LoadsUnlessOom see x (loaded_bytes compressed bytes (given_sup sup))) is gives,
      refusal_is (object_file_of bytes) r refusal is refused,
    )

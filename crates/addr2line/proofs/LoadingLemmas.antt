-- Answers about a file, by what its bytes give (on specs/Loading.antt of elf, specs/SplitFiles.antt
-- and specs/Loaded.antt).
use Rattle.addr2line.proofs.Common.{◌≡◌, ◌≢◌, Bool, Option, Result, Ok, Err, ap, refl, Error, ExactlyUnlessOom, OutOfMemory, PathNotUtf8, Loading, LoadsUnlessOom, LoadsUnlessOomFor, ObjectFile, ContextState, ReadFiles, of_file}
use Rattle.gimli_read.specs.declared.error.Error.TheVariants as reading
use Rattle.elf.specs.Text.{loader_error_of}
use Rattle.addr2line.specs.declared.compressed.CompressedSections.{CompressedSections}
use Rattle.addr2line.specs.Loader.{AfterContext}

-- whatever takes memory
pub loads_for : {X : Type 0} (takes : Loading X → Bool) (r given : Loading X) → LoadsUnlessOomFor takes r given → LoadsUnlessOom (λ x. x) r given
loads_for takes (Ok x) given h = h
loads_for takes (Err e) given h = λ ne. h (λ _. λ _. ne)

-- a refusal of DWARF that isn't told as OutOfMemory isn't OutOfMemory
pub no_oom : (e : Error) → loader_error_of e ≢ OutOfMemory → e ≢ reading.OutOfMemory
no_oom e ne q = ne (ap loader_error_of q)

-- nor is one told as OutOfMemory that isn't
pub not_told : (e : Error) → e ≢ reading.OutOfMemory → loader_error_of e ≢ OutOfMemory
not_told reading.OutOfMemory ne = λ _. ne refl
not_told _ ne = λ q. absurd cc

-- nor is one told as a path that isn't UTF-8
pub no_path : (e : Error) → loader_error_of e ≢ PathNotUtf8
no_path reading.OutOfMemory = λ q. absurd cc
no_path _ = λ q. absurd cc

-- an answer about DWARF as one about its file
pub as_loading : {X Y : Type 0} (see : X → Y) (r : Result X Error) (given : Result Y Error) → ExactlyUnlessOom see r given → LoadsUnlessOom see (of_file r) (of_file given)
as_loading see (Ok x) given h = ap of_file h
as_loading see (Err e) given h = λ ne. ap of_file (h (no_oom e ne))

-- after a lookup of locations in its context, a loader
pub looked_in_context : {X : Type 0} (IsAfter : Result X Error → ContextState → ContextState → Type 0) {compressed : CompressedSections} (files : Option ReadFiles) (object : ObjectFile) (r : Result X Error) (result : Loading X) (old new : ContextState) → result ≡ of_file r → IsAfter r old new
    → AfterContext IsAfter result (record { compressed = compressed; files = files; object = object; context = old }) (record { compressed = compressed; files = files; object = object; context = new })
looked_in_context IsAfter files object r result old new is after =
    record { compressed = refl; files = refl; object = refl; given = r; answer = is; context = after }

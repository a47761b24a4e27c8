-- What a loader is made from, whatever its files hold (on specs/Loaded.antt).
use Rattle.addr2line.proofs.Common.{◌≡◌, ◌≢◌, Bool, true, List, ℕ, Option, Some, Result, Ok, Err, refl, ap, ◌∙◌, IfOk, ◌>>=◌, Sections, SupSections, LoaderError, OutOfMemory, Loading, LoadsUnlessOom, ObjectFile, object_file_of, ContextState, new_context, ReadFiles, of_file}
use Rattle.addr2line.specs.declared.compressed.CompressedSections.{CompressedSections}
use Rattle.addr2line.specs.Loaded.{AreSectionsOf, AreSupOfBytes, IsFileOfBytes, IsLoaded, as_sup, context_at, dwarf_at, loaded, main_with_sup, object_at, sections_of_file}

-- a file that was parsed
pub parsed_file : (bytes : List ℕ) (r : Loading ObjectFile) → LoadsUnlessOom (λ f. f) r (object_file_of bytes) → IfOk r IsFileOfBytes
parsed_file bytes (Ok file) h = (bytes, h)
parsed_file bytes (Err e) h = tt

-- the sections of a supplementary file that was opened
pub sup_made : {X : Type 0} (see : X → Option SupSections) (compressed : CompressedSections) (file : ObjectFile) → IsFileOfBytes file → (r : Loading X) → LoadsUnlessOom see r (as_sup (sections_of_file compressed file)) → IfOk r (λ s. AreSupOfBytes compressed true (see s))
sup_made see choice file is (Ok s) h = (Some is.0, refl, ap (λ f. as_sup (f >>= sections_of_file choice)) is.1 ∙ h)
sup_made see choice file is (Err e) h = tt

-- what is given to a step that goes on where there is no fault
gives_step : {X Y : Type 0} (see : X → Y) (r : Loading X) → LoadsUnlessOom see r (r >>= λ x. Ok (see x))
gives_step see (Ok x) = refl
gives_step see (Err e) = λ ne. refl

-- the sections of a main file with those of a supplementary one
pub dwarf_made : {X : Type 0} (see : X → Option SupSections) (compressed : CompressedSections) (has_sup : Bool) (file : ObjectFile) (main : SupSections) → sections_of_file compressed file ≡ Ok main → (sup : Loading X) → IfOk sup (λ s. AreSupOfBytes compressed has_sup (see s))
    → (r : Loading Sections) → ((given : Loading (Option SupSections)) → LoadsUnlessOom see sup given → LoadsUnlessOom (λ d. d) r (main_with_sup main given)) → IfOk r (AreSectionsOf compressed has_sup file)
dwarf_made see choice has_sup file main is (Ok s) made (Ok d) gives = (see s, made, ap (λ x. x >>= λ m. main_with_sup m (Ok (see s))) is ∙ gives (Ok (see s)) refl)
dwarf_made see choice has_sup file main is (Err e) made (Ok d) gives = absurd (let no = gives (Err e) (λ ne. refl) in cc)
dwarf_made see choice has_sup file main is sup made (Err f) gives = tt

-- the context of sections
pub loader_made : (compressed : CompressedSections) (has_sup : Bool) (file : ObjectFile) → IsFileOfBytes file → (dwarf : Loading Sections) → IfOk dwarf (AreSectionsOf compressed has_sup file) → (c : ContextState)
    → ((given : Loading Sections) → LoadsUnlessOom (λ d. d) dwarf given → context_at given ≡ Ok c) → IsLoaded compressed has_sup file c
loader_made choice has_sup file is (Ok d) are c gives = record { file_is = is; sections = d; sections_are = are; context_is = of_loading (new_context d) (gives (Ok d) refl) }
  where
    of_loading : (r : Result ContextState _) → of_file r ≡ Ok c → r ≡ Ok c
    of_loading (Ok x) h = cc
    of_loading (Err e) h = absurd cc
loader_made choice has_sup file is (Err e) are c gives = absurd (let no = gives (Err e) (λ ne. refl) in cc)

-- what is loaded, by its two steps
pub loaded_by : (held : ReadFiles) (path : List ℕ) (sup_path : Option (List ℕ)) (object : ObjectFile) (context : ContextState) → object_at held.files path ≡ Ok object → context_at (dwarf_at held object sup_path) ≡ Ok context → loaded held path sup_path ≡ Ok (object, context)
unfolding loaded
loaded_by held path sup_path object context e f =
    ap (λ r. r >>= λ file. context_at (dwarf_at held file sup_path) >>= λ c. Ok (file, c)) e
    ∙ ap (λ r. r >>= λ c. Ok (object, c)) f

-- the fault of the second one
pub loaded_fault : {X : Type 0} (view : X → ObjectFile × ContextState) (held : ReadFiles) (path : List ℕ) (sup_path : Option (List ℕ)) (object : ObjectFile) (r : Loading X) (x e : LoaderError) → r ≡ Err x → x ≡ e
    → object_at held.files path ≡ Ok object → (e ≢ OutOfMemory → context_at (dwarf_at held object sup_path) ≡ Err e) → LoadsUnlessOom view r (loaded held path sup_path)
unfolding loaded
loaded_fault view held path sup_path object r x e is same p f = rw (is, same) (λ ne.
    ap (λ r. r >>= λ file. context_at (dwarf_at held file sup_path) >>= λ c. Ok (file, c)) p
    ∙ ap (λ r. r >>= λ c. Ok (object, c)) (f ne))

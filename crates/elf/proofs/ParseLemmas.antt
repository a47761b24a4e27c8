-- When a file takes memory (on specs/ObjectFile.antt).
use Rattle.elf.proofs.Common.{ℕ, zero, suc, ◌≡◌, ◌≢◌, ◌∙◌, ◌==◌, true, not, List, [], Ok, Err, length, drop, arith, ap, subst, refl, nat_tests, RunTimeEndian, layout_of, ident_in, header_in, sections_in, Loading, LoadsUnlessOomFor, ObjectFile, object_file_of, object_file_with, gives_sections}
use Rattle.gimli_read.specs.Reading.{◌>>=◌}
use Rattle.elf.specs.declared.layout.Layout.{Layout}
use Rattle.elf.specs.declared.header.Ident.{Ident}
use Rattle.elf.specs.declared.header.FileHeader.{FileHeader}
use Rattle.elf.specs.declared.error.LoaderError.{LoaderError}
use Rattle.elf.specs.declared.error.LoaderError.TheVariants.{OutOfMemory}

-- so many section headers are read
pub sections_length : (o : RunTimeEndian) (l : Layout) (n : ℕ) (bytes : List ℕ) → length (sections_in o l n bytes) ≡ n
sections_length o l zero bytes = refl
sections_length o l (suc n) bytes = ap (λ k. suc k) (sections_length o l n (drop l.section_size bytes))

some_not : (n : ℕ) → n ≢ 0 → not (n == 0) ≡ true
some_not n h = grind (arith, nat_tests)

-- a file with a section header takes memory
pub takes_memory : (bytes : List ℕ) (ident : Ident) (header : FileHeader) → Ok ident ≡ ident_in bytes
    → Ok header ≡ header_in ident.endian (layout_of ident.class) bytes → header.count ≢ 0
    → gives_sections (object_file_of bytes) ≡ true
unfolding object_file_of
takes_memory bytes ident header is_ident is_header some =
    let o = ident.endian in
    let l = layout_of ident.class in
    let count : length (sections_in o l header.count (drop header.start bytes)) ≡ header.count = sections_length o l header.count (drop header.start bytes) in
    let known : not (length (sections_in o l header.count (drop header.start bytes)) == 0) ≡ true = ap (λ n. not (n == 0)) count ∙ some_not header.count some in
    let H : Loading FileHeader → Type 0 = λ h. gives_sections (h >>= λ x. Ok (object_file_with bytes ident x)) ≡ true in
    let G : Loading Ident → Type 0 = λ i. gives_sections (i >>= λ j. header_in j.endian (layout_of j.class) bytes >>= λ x. Ok (object_file_with bytes j x)) ≡ true in
    subst G is_ident (subst H is_header known)

-- where memory is refused, the file has a section
pub memory_refused : (bytes : List ℕ) (r : Loading ObjectFile) (e : LoaderError) → r ≡ Err e → e ≡ OutOfMemory → gives_sections (object_file_of bytes) ≡ true
    → LoadsUnlessOomFor gives_sections r (object_file_of bytes)
memory_refused bytes r e is out takes = rw (is, out) (λ h. absurd (h refl takes refl))

-- without section headers none is read
pub no_sections : (o : RunTimeEndian) (l : Layout) (n : ℕ) (bytes : List ℕ) → n ≡ 0 → sections_in o l n bytes ≡ []
no_sections o l n bytes e = ap (λ k. sections_in o l k bytes) e

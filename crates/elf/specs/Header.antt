-- An ELF file's own header and its section headers (System V ABI, Object Files: ELF Header,
-- Sections).
-- Own: a file without the whole magic is NotElf; one that has it, but no class or data byte,
-- another value of these, or not the whole header of its class, is BadElf, and so are section
-- headers outside the file or of another size than the class's.
use Rattle.std.specs.List.{starts_with}
use Rattle.std.specs.Prelude.{ℕ, zero, suc, ◌+◌, ◌*◌, ◌==◌, Bool, not, List, [], ◌∷◌, Option, Some, None, Ok, Err, if◌then◌else◌, drop, length, slice_index, nat_eq, nat_le, nat_lt, codes}
use Rattle.elf.specs.Common.{RunTimeEndian, ◌>>=◌}
use Rattle.gimli_read.specs.declared.endian.RunTimeEndian.TheVariants.{Little, Big}
use Rattle.elf.specs.declared.constants.TheConstants.{HALF_SIZE, WORD_SIZE, ELFMAG0, EI_CLASS, EI_DATA, ELFCLASS32, ELFCLASS64, ELFDATA2LSB, ELFDATA2MSB, ET_REL}
use Rattle.elf.specs.declared.error.LoaderError.TheVariants.{NotElf, BadElf}
use Rattle.elf.specs.declared.layout.Class.{Class}
use Rattle.elf.specs.declared.layout.Class.TheVariants.{Elf32, Elf64}
use Rattle.elf.specs.declared.layout.Layout.{Layout}
use Rattle.elf.specs.declared.header.Ident.{Ident}
use Rattle.elf.specs.declared.header.FileHeader.{FileHeader}
use Rattle.elf.specs.declared.section.SectionHeader.{SectionHeader}
use Rattle.elf.specs.Layout.{layout_of, layout_number_at}
use Rattle.elf.specs.Loading.{Loading}

-- the bytes that an ELF file begins with
abbrev pub magic : List ℕ
magic = ELFMAG0 ∷ codes "ELF"

-- whether the bytes begin as those of an ELF file do
abbrev pub has_magic : List ℕ → Bool
has_magic bytes = starts_with nat_eq bytes magic

-- the class that a byte names
abbrev pub class_of : ℕ → Loading Class
class_of n = if n == ELFCLASS32 then Ok Elf32 else if n == ELFCLASS64 then Ok Elf64 else Err BadElf

-- the byte order that a byte names
abbrev pub endian_of : ℕ → Loading RunTimeEndian
endian_of n = if n == ELFDATA2LSB then Ok Little
    else if n == ELFDATA2MSB then Ok Big
    else Err BadElf

-- what e_ident says
unfoldable pub ident_in : List ℕ → Loading Ident
ident_in bytes = if not (has_magic bytes) then Err NotElf
    else if not (nat_lt EI_DATA (length bytes)) then Err BadElf
    else (class_of (slice_index bytes EI_CLASS) >>= λ class.
    endian_of (slice_index bytes EI_DATA) >>= λ endian.
    Ok (record { class = class; endian = endian }))

-- the number of section headers from a place on; where e_shnum is 0, it is the size of section 0
abbrev pub count_in : RunTimeEndian → Layout → ℕ → List ℕ → Loading ℕ
count_in endian l at bytes = if not (layout_number_at endian l.e_shnum HALF_SIZE bytes == 0)
    then Ok (layout_number_at endian l.e_shnum HALF_SIZE bytes)
    else if nat_lt (length bytes) (at + l.section_size) then Err BadElf
    else Ok (layout_number_at endian l.sh_size l.address_size (drop at bytes))

-- the file's header; without section headers its other fields about them aren't looked at
unfoldable pub header_in : RunTimeEndian → Layout → List ℕ → Loading FileHeader
header_in endian l bytes = if nat_lt (length bytes) l.header_size then Err BadElf
    else (let start = layout_number_at endian l.e_shoff l.address_size bytes in
    let is_relocatable = layout_number_at endian l.e_type HALF_SIZE bytes == ET_REL in
    if start == 0
    then Ok (record { is_relocatable = is_relocatable; start = 0; count = 0; name_index = 0 })
    else if not (layout_number_at endian l.e_shentsize HALF_SIZE bytes == l.section_size)
    then Err BadElf
    else (count_in endian l start bytes >>= λ count.
    if nat_lt (length bytes) (start + count * l.section_size) then Err BadElf
    else Ok (record {
      is_relocatable = is_relocatable;
      start = start;
      count = count;
      name_index = layout_number_at endian l.e_shstrndx HALF_SIZE bytes;
    })))

-- the section header at the front
abbrev pub section_in : RunTimeEndian → Layout → List ℕ → SectionHeader
section_in endian l bytes = record {
  name = layout_number_at endian l.sh_name WORD_SIZE bytes;
  kind = layout_number_at endian l.sh_type WORD_SIZE bytes;
  flags = layout_number_at endian l.sh_flags l.address_size bytes;
  address = layout_number_at endian l.sh_addr l.address_size bytes;
  offset = layout_number_at endian l.sh_offset l.address_size bytes;
  size = layout_number_at endian l.sh_size l.address_size bytes;
  link = layout_number_at endian l.sh_link WORD_SIZE bytes;
  info = layout_number_at endian l.sh_info WORD_SIZE bytes;
}

-- the n section headers at the front
abbrev pub sections_in : RunTimeEndian → Layout → ℕ → List ℕ → List SectionHeader
sections_in endian l zero bytes = []
sections_in endian l (suc n) bytes = section_in endian l bytes
    ∷ sections_in endian l n (drop l.section_size bytes)

-- the section headers that a file's header tells of, none where they aren't all in the file
abbrev pub headers_in : Ident → FileHeader → List ℕ → Option (List SectionHeader)
headers_in ident header bytes =
    let l = layout_of ident.class in
    if nat_le (header.start + header.count * l.section_size) (length bytes)
    then Some (sections_in ident.endian l header.count (drop header.start bytes))
    else None

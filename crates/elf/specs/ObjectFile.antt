-- What an ELF file's bytes say as a whole (System V ABI, Object Files).
-- Own: the byte EI_DATA of the file alone gives the byte order, of its sections too.
use Rattle.std.specs.Option.{option_map_or}
use Rattle.std.specs.Prelude.{ℕ, ◌==◌, Bool, false, not, List, Ok, Err, if◌then◌else◌, drop, length}
use Rattle.elf.specs.Common.{RunTimeEndian, ◌>>=◌}
use Rattle.std.specs.List.{slice_get}
use Rattle.elf.specs.declared.constants.TheConstants.{SHN_XINDEX}
use Rattle.elf.specs.declared.layout.Class.{Class}
use Rattle.elf.specs.declared.header.Ident.{Ident}
use Rattle.elf.specs.declared.header.FileHeader.{FileHeader}
use Rattle.elf.specs.declared.section.SectionHeader.{SectionHeader}
use Rattle.elf.specs.Layout.{layout_of}
use Rattle.elf.specs.Header.{ident_in, header_in, sections_in}
use Rattle.elf.specs.Loading.{Loading}

-- a file: its bytes, how they are read, its sections in order, and which of them has the names
pub record ObjectFile : Type 0 where
  pub bytes : List ℕ
  pub class : Class
  pub endian : RunTimeEndian
  pub is_relocatable : Bool
  pub sections : List SectionHeader
  pub name_table : ℕ

-- the section that has the names: where e_shstrndx is SHN_XINDEX, it is the link of section 0
abbrev pub name_table_of : ℕ → List SectionHeader → ℕ
name_table_of n sections = if n == SHN_XINDEX
    then option_map_or (λ (s : SectionHeader). s.link) (slice_get sections 0) 0
    else n

-- the file of an identification and a header
abbrev pub object_file_with : List ℕ → Ident → FileHeader → ObjectFile
object_file_with bytes ident header =
    let l = layout_of ident.class in
    let sections = sections_in ident.endian l header.count (drop header.start bytes) in
    record {
      bytes = bytes;
      class = ident.class;
      endian = ident.endian;
      is_relocatable = header.is_relocatable;
      sections = sections;
      name_table = name_table_of header.name_index sections;
    }

-- the file that the bytes are
unfoldable pub object_file_of : List ℕ → Loading ObjectFile
object_file_of bytes = do
  ident ← ident_in bytes
  header ← header_in ident.endian (layout_of ident.class) bytes
  Ok (object_file_with bytes ident header)

-- whether a loading gives a file with sections, whose headers take memory
abbrev pub gives_sections : Loading ObjectFile → Bool
gives_sections (Ok file) = not (length file.sections == 0)
gives_sections (Err e) = false

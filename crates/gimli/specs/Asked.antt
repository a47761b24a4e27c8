-- The names of the sections that DWARF is read from (DWARF 5, section 7.5 and appendix B; split
-- files: section 7.3.2.2), and how a caller is asked for them.
-- Own: they are asked for in the order of their names, up to the first one that is refused.
use Rattle.std.specs.Prelude.{◌≡◌, ℕ, List, [], ◌∷◌, codes, Option, Some, None, Result, Ok, Err}
use Rattle.gimli.specs.Common.{Section, ◌>>=◌}
use Rattle.gimli.specs.declared.load.SectionId.{SectionId}
use Rattle.gimli.specs.declared.load.SectionId.TheVariants.{DebugAbbrev, DebugAddr, DebugAranges, DebugInfo, DebugLine, DebugLineStr, DebugRanges, DebugRngLists, DebugStr, DebugStrOffsets}
use Rattle.gimli.specs.Sections.{Sections, SupSections, sup_sections}

-- the name of a section
abbrev pub section_name : SectionId → List ℕ
section_name DebugAbbrev = codes ".debug_abbrev"
section_name DebugAddr = codes ".debug_addr"
section_name DebugAranges = codes ".debug_aranges"
section_name DebugInfo = codes ".debug_info"
section_name DebugLine = codes ".debug_line"
section_name DebugLineStr = codes ".debug_line_str"
section_name DebugRanges = codes ".debug_ranges"
section_name DebugRngLists = codes ".debug_rnglists"
section_name DebugStr = codes ".debug_str"
section_name DebugStrOffsets = codes ".debug_str_offsets"

-- its name in a split file, where split files have it
abbrev pub dwo_section_name : SectionId → Option (List ℕ)
dwo_section_name DebugAbbrev = Some (codes ".debug_abbrev.dwo")
dwo_section_name DebugAddr = None
dwo_section_name DebugAranges = None
dwo_section_name DebugInfo = Some (codes ".debug_info.dwo")
dwo_section_name DebugLine = Some (codes ".debug_line.dwo")
dwo_section_name DebugLineStr = None
dwo_section_name DebugRanges = None
dwo_section_name DebugRngLists = Some (codes ".debug_rnglists.dwo")
dwo_section_name DebugStr = Some (codes ".debug_str.dwo")
dwo_section_name DebugStrOffsets = Some (codes ".debug_str_offsets.dwo")

-- the sections in the order in which they are asked for
abbrev pub all_sections : List SectionId
all_sections = DebugAbbrev ∷ DebugAddr ∷ DebugAranges ∷ DebugInfo ∷ DebugLine ∷ DebugLineStr
    ∷ DebugRanges ∷ DebugRngLists ∷ DebugStr ∷ DebugStrOffsets ∷ []

-- a caller's function was asked for sections one after another, each time in the state in which the
-- call before left it; its answers, seen as bytes, are these, up to the first refusal
unfoldable pub Asked
    : {F A E : Type 0} → (A → Section) → (F → SectionId → Result A E → F → Type 0) → F
    → List SectionId → Result (List Section) E → Type 0
Asked see step f [] answers = answers ≡ Ok []
Asked see step f (x ∷ xs) answers =
    (answer : _) × (g : _) × step f x answer g × elim answer [
      | Err e ↦ answers ≡ Err e
      | Ok a ↦ (more : _) × Asked see step g xs more
          × (answers ≡ (more >>= λ rest. Ok (see a ∷ rest)))
    ]

-- the sections of a file, in the order in which they are asked for
abbrev pub section_list : Sections → List Section
section_list d =
    d.debug_abbrev ∷ d.debug_addr ∷ d.debug_aranges ∷ d.debug_info ∷ d.debug_line
    ∷ d.debug_line_str ∷ d.debug_ranges ∷ d.debug_rnglists ∷ d.debug_str ∷ d.debug_str_offsets ∷ []

-- those of a supplementary file
abbrev pub sup_section_list : SupSections → List Section
sup_section_list d = section_list (sup_sections d)

-- the sections that a caller gave are those of a file's supplementary file from then on; or the
-- answer is the caller's first refusal, or OutOfMemory if they can't be shared, and the file is as
-- it was
abbrev pub Supplies : {E : Type 0} → (E → Type 0) → Result SupSections E → Result (Unit {0}) E
    → Sections → Sections → Type 0
Supplies oom (Ok sup) (Ok u) old new = new ≡ record old { sup = Some sup }
Supplies oom (Ok sup) (Err e) old new = oom e × (new ≡ old)
Supplies oom (Err f) (Ok u) old new = ⊥
Supplies oom (Err f) (Err e) old new = (e ≡ f) × (new ≡ old)

-- The entries that are open inside a function, by their kinds, as the private functions see them.
use Rattle.std.specs.Prelude.{◌≡◌, ℕ, ◌==◌, ◌&&◌, Bool, true, false, List, [], ◌∷◌, count_by, if◌then◌else◌}
use Rattle.addr2line_lines.specs.Common.{Abbrev}
use Rattle.addr2line_lines.specs.declared.nesting.Kind.{Kind}
use Rattle.addr2line_lines.specs.declared.nesting.Kind.TheVariants.{Subprogram, Inlined, Other}
use Rattle.addr2line_lines.specs.InlinedEntries.{is_inlined}
use Rattle.addr2line_lines.specs.Functions.{is_subprogram}

-- what an open entry is to the function around it
abbrev pub kind_of : Abbrev → Kind
kind_of a = if is_subprogram a then Subprogram else if is_inlined a then Inlined else Other

-- whether a kind is that of nested subprograms
abbrev pub is_subprogram_kind : Kind → Bool
is_subprogram_kind Subprogram = true
is_subprogram_kind _ = false

-- whether a kind is that of inlined entries
abbrev pub is_inlined_kind : Kind → Bool
is_inlined_kind Inlined = true
is_inlined_kind _ = false

-- whether an entry of a kind is an inlined one in no nested subprogram
abbrev pub is_listed : Kind → List Kind → Bool
is_listed kind around = is_inlined_kind kind && count_by is_subprogram_kind around == 0

-- the kinds that are open after a closing entry
abbrev pub closed_once : List Kind → List Kind
closed_once [] = []
closed_once (kind ∷ around) = around

-- those after an entry
abbrev pub opened : Kind → Bool → List Kind → List Kind
opened kind has_children around = if has_children then kind ∷ around else around

-- how many of the open entries are inlined ones, and how many nested subprograms
pub record AreCounted (around : List Kind) (inlined subprograms : ℕ) : Type 0 where
  pub inlined_is : inlined ≡ count_by is_inlined_kind around
  pub subprograms_is : subprograms ≡ count_by is_subprogram_kind around

-- Lists whose elements are stored in few bytes each until one doesn't fit, as the private functions
-- see them.
-- Own: what short elements have in common, as the upper half of addresses, is stored once, as their
-- base. Where none is stored any more, that of an element that doesn't fit takes its place. From
-- the first element on that fits neither beside the base nor, where none is stored, beside its own,
-- all are stored whole, and stay so.
use Rattle.std.specs.Prelude.{ℕ, ◌≡◌, ◌⊎◌, ◌==◌, ◌&&◌, Bool, true, List, [], map, if◌then◌else◌}
use Rattle.addr2line_lines.specs.declared.short_list.ListStore.{ListStore}
use Rattle.addr2line_lines.specs.declared.short_list.ListStore.TheVariants as stored
use Rattle.addr2line_lines.specs.StoredRows.{Width, Short, Whole}

-- whether an element can be stored so: short, beside a base, or whole
abbrev pub can_store : {X : Type 0} → (ℕ → X → Bool) → Width → X → Bool
can_store fits (Short base) x = fits base x
can_store fits Whole x = true

-- the elements that are stored, and how
pub record StoredList (X : Type 0) : Type 0 where
  pub elements : List X
  pub width : Width

-- before the first element
abbrev pub no_elements : {X : Type 0} → StoredList X
no_elements = record { elements = []; width = Short 0 }

module _ {X : Type 0} (fits : ℕ → X → Bool) (base_of : X → ℕ) where
  -- how one more element is stored after so many, and these with it
  abbrev pub width_with : ℕ → Width → X → Width
  width_with count w x =
      if can_store fits w x then w
      else if (count == 0) && fits (base_of x) x then Short (base_of x)
      else Whole

  -- so many elements are stored as before, or as one more needs it
  abbrev pub IsWidthWith : X → ℕ → Width → Width → Type 0
  IsWidthWith x count old new = (new ≡ old) ⊎ (new ≡ width_with count old x)

-- what is stored stands for these elements
abbrev pub whole_elements : {S X : Type 0} → (ℕ → S → X) → ListStore S X → List X
whole_elements whole (stored.Short base list) = map (whole base) list.items
whole_elements whole (stored.Whole list) = list.items

-- how they are stored
abbrev pub store_width : {S X : Type 0} → ListStore S X → Width
store_width (stored.Short base list) = Short base
store_width (stored.Whole list) = Whole

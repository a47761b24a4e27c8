-- Items with texts, one after another: each is written with the texts of those before it known.
use Rattle.std.specs.Prelude.{◌++◌, ◌∷◌, ℕ, List, [], flat_map}

-- the texts of items
abbrev pub texts_of_items : {F : Type 0} → (F → List (List ℕ)) → List F → List (List ℕ)
texts_of_items texts items = flat_map texts items

-- items that follow these texts
abbrev pub written_items : {F W : Type 0} → (F → List (List ℕ)) → (List (List ℕ) → F → W)
    → List (List ℕ) → List F → List W
written_items texts write before [] = []
written_items texts write before (f ∷ items) =
    write before f ∷ written_items texts write (before ++ texts f) items

-- of each item there is one that was written, in their order, and that names the item's texts
abbrev pub EachNames : {F W : Type 0} → (W → F → Type 0) → List W → List F → Type 0
EachNames names written [] = Unit {0}
EachNames names [] (f ∷ items) = ⊥
EachNames names (w ∷ written) (f ∷ items) = names w f × EachNames names written items

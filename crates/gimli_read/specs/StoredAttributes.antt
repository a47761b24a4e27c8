-- How an abbreviation stores its attributes, as the private functions see it.
use Rattle.std.specs.Prelude.{List, [], ◌∷◌}
use Rattle.gimli_read.specs.declared.abbrev.StoredAttributes.{StoredAttributes}
use Rattle.gimli_read.specs.declared.abbrev.StoredAttributes.TheVariants as stored
use Rattle.gimli_read.specs.Abbreviations.{Specification}

-- the attributes that are stored
abbrev pub attributes_of : StoredAttributes → List Specification
attributes_of (stored.One attribute) = attribute ∷ []
attributes_of (stored.Listed attributes) = attributes.items

-- Names that are cached, as more are (on specs/CachedNames.antt).
use Rattle.addr2line_lines.proofs.Common.{◌≡◌, ℕ, List, length, map, take, option_map, Option, Some, None, IfSome, Result, refl, ap, sym, subst, ◌∙◌, slice_get, slice_get-map, take-append_seam, Error, UnitOffset, UnitRecord, Section, AreNamesIn, AreNamesMore, AreNamesOf, CachedName, GrowNames, KnownNames, UnitInScope, IsKnownAs, IsNameOf, as_cached_name, as_shared, in_scope, referred_name, Scope}
use Rattle.std.specs.declared.alloc.Global.{Global}
use Rattle.std.specs.declared.rc.Rc.{Rc}
use Rattle.gimli_read.specs.declared.value.AttributeValue.TheVariants as values
use Rattle.gimli.specs.AttributeSinks.{IsGrowth}
use Rattle.addr2line_lines.specs.Grown.{IsGrown}
use Rattle.addr2line_lines.specs.declared.names.CachedName as declared_name
use Rattle.addr2line_lines.proofs.NestingLemmas.{grown_not, grown_on}
use Rattle.addr2line_lines.proofs.Facts.{all_at, all_first}

-- nothing more is cached
pub names_same : (names : KnownNames) → AreNamesMore names names
names_same names = record { unit = refl; grown = grown_not names.names }

-- more is cached twice
pub names_on : (a b c : KnownNames) → AreNamesMore a b → AreNamesMore b c → AreNamesMore a c
names_on a b c h k = record { unit = k.unit ∙ h.unit; grown = grown_on a.names b.names c.names h.grown k.grown }

-- names of the same unit are the same
pub known_same : (a b : KnownNames) → a.unit ≡ b.unit → a.names ≡ b.names → a ≡ b
known_same a b e f = ap (λ u. record { unit = u; names = a.names }) e ∙ ap (λ ns. record { unit = b.unit; names = ns }) f

-- so they grow from any state on
pub names_growth : (scope : Scope) (u : UnitRecord) → IsGrowth (GrowNames scope u)
names_growth scope u = record {
  again = λ old new h. record { in_order = h.in_order; unit = h.more.unit ∙ h.unit; more = names_same new };
  on = λ old between new h k. record { in_order = h.in_order; unit = h.unit; more = names_on old between new h.more k.more };
}

-- the first of names that are right
pub first_right : (x : UnitInScope) (n : ℕ) (names : List CachedName) → AreNamesOf x names → AreNamesOf x (take n names)
first_right x n names right = all_first (IsNameOf x) n names right

-- the unit that the names were made for is the one that is given
pub own_unit : (scope : Scope) (u : UnitRecord) (x : UnitInScope) (names : List CachedName) (known : KnownNames) → record { unit = Some x; names = names } ≡ known → AreNamesIn scope u known → x ≡ in_scope scope u
own_unit scope u x names known view is = let same : Some x ≡ Some (in_scope scope u) = ap (λ (k : KnownNames). k.unit) view ∙ is in cc

-- so what is known of a name is what a reference in that unit gives
pub known_in : (scope : Scope) (u : UnitRecord) (x : UnitInScope) (names : List CachedName) (offset : UnitOffset) (name : Result (Option Section) Error) → x ≡ in_scope scope u → AreNamesOf x names → IsKnownAs offset name names → referred_name scope u (values.UnitRef offset) ≡ name
known_in scope u x names offset name is right known = subst (λ (y : UnitInScope). referred_name y.scope y.unit (values.UnitRef offset) ≡ name) is (known x right)

-- the first names are those that were cached before
pub first_names : (n : ℕ) (old new : List CachedName) → IsGrown old new → n ≡ length old → take n new ≡ old
first_names n old new h e = ap (λ m. take m new) e ∙ ap (λ v. take (length old) v) h.is ∙ take-append_seam old h.more

-- what is known of a name is known where it is shared
pub known_shared : {R : Type 0} (see : R → Section) (names : List CachedName) (name : Result (Option Section) Error) (found : Option (Result (Rc (Option R) Global) Error)) (offset : UnitOffset) → IfSome found (λ shared. as_shared see shared ≡ name) → IsKnownAs offset name names → IfSome found (λ shared. IsKnownAs offset (as_shared see shared) names)
known_shared see names name None offset h known = tt
known_shared see names name (Some shared) offset h known = subst (λ n. IsKnownAs offset n names) (sym h) known

-- what stands at a place is known, where its offset is
pub known_at : {R : Type 0} (see : R → Section) (xs : List (declared_name.CachedName R)) (n : ℕ) (x : declared_name.CachedName R) (offset : UnitOffset) → slice_get xs n ≡ Some x → (as_cached_name see x).offset ≡ offset → IsKnownAs offset (as_cached_name see x).name (map (as_cached_name see) xs)
known_at see xs n x offset at e = λ y all.
    subst (λ o. referred_name y.scope y.unit (values.UnitRef o) ≡ (as_cached_name see x).name) e
    (all_at (IsNameOf y) (map (as_cached_name see) xs) n (as_cached_name see x) all (slice_get-map (as_cached_name see) xs n ∙ ap (option_map (as_cached_name see)) at))

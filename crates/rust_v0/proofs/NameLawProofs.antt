-- Names that have no text, and worked names.
use Rattle.std.proofs.Common.{◌≡◌, ◌∙◌, ℕ, Bool, true, false, List, [], ◌∷◌, ap, sym, refl}
use Rattle.std.specs.Prelude.{◌&&◌, if◌then◌else◌, nat_eq, Option, Some, None, option_and_then, codes}
use Rattle.std.specs.Char.{is_ascii}
use Rattle.std.specs.List.{list_all, starts_with}
use Rattle.rust_v0.specs.Name.{after_first, as_path, is_upper_first, prefixes, spelled_text, v0_text, without_llvm, without_prefix}
use Rattle.rust_v0.specs.NameLaws.{NeedsAscii, NeedsPrefix, NeedsUpperCase}

-- what begins a name without LLVM's mark begins the name
first_too : (p q r : Bool) → (q ≡ true → r ≡ true) → (p && q) ≡ true → (p && r) ≡ true
first_too true q r rest h = rest h
first_too false q r rest h = h

one_too : (c b : ℕ) (cs bs : List ℕ) (is_mark is_llvm : Bool)
    → (starts_with nat_eq (without_llvm bs) cs ≡ true → starts_with nat_eq bs cs ≡ true)
    → starts_with nat_eq (if is_mark then (if is_llvm then [] else b ∷ bs) else b ∷ without_llvm bs) (c ∷ cs) ≡ true
    → starts_with nat_eq (b ∷ bs) (c ∷ cs) ≡ true
one_too c b cs bs true true rest h = absurd (let no : false ≡ true = h in cc)
one_too c b cs bs true false rest h = h
one_too c b cs bs false is_llvm rest h = first_too (nat_eq c b) _ _ rest h

begins_too : (text name : List ℕ) → starts_with nat_eq (without_llvm name) text ≡ true
    → starts_with nat_eq name text ≡ true
begins_too [] name h = refl
begins_too (c ∷ cs) [] h = h
begins_too (c ∷ cs) (b ∷ bs) h = one_too c b cs bs _ _ (begins_too cs bs) h

apart_too : (p q : Bool) → (p ≡ true → q ≡ true) → q ≡ false → p ≡ false
apart_too true q h e = absurd (let no : false ≡ true = sym e ∙ h refl in cc)
apart_too false q h e = refl

still_apart : (name text : List ℕ) → starts_with nat_eq name text ≡ false
    → starts_with nat_eq (without_llvm name) text ≡ false
still_apart name text e = apart_too _ _ (begins_too text name) e

no_prefix : (p q r : Bool) (x y z : Option (List ℕ)) → p ≡ false → q ≡ false → r ≡ false
    → (if p then x else (if q then y else (if r then z else None))) ≡ None
no_prefix false false false x y z a b c = refl
no_prefix true q r x y z a b c = absurd cc
no_prefix false true r x y z a b c = absurd cc
no_prefix false false true x y z a b c = absurd cc

none_first : (name : List ℕ) → starts_with nat_eq name (codes "_R") ≡ false
    → starts_with nat_eq name (codes "R") ≡ false
    → starts_with nat_eq name (codes "__R") ≡ false → after_first prefixes name ≡ None
none_first name a b c = no_prefix _ _ _ _ _ _ a b c

-- no text, since no path begins there
no_start : (name : List ℕ) → option_and_then as_path (after_first prefixes (without_llvm name)) ≡ None
    → v0_text name ≡ None
unfolding v0_text without_prefix
no_start name e = ap (λ found. option_and_then spelled_text found) e

pub needs_prefix : NeedsPrefix
needs_prefix name a b c =
    let none : after_first prefixes (without_llvm name) ≡ None =
    none_first (without_llvm name) (still_apart name (codes "_R") a) (still_apart name (codes "R") b)
    (still_apart name (codes "__R") c) in
    no_start name (ap (λ found. option_and_then as_path found) none)

no_upper : (p q : Bool) (bytes : List ℕ) → p ≡ false → (if p && q then Some bytes else None) ≡ None
no_upper true q bytes e = absurd cc
no_upper false q bytes e = refl

no_ascii : (p q : Bool) (bytes : List ℕ) → q ≡ false → (if p && q then Some bytes else None) ≡ None
no_ascii true true bytes e = absurd cc
no_ascii true false bytes e = refl
no_ascii false q bytes e = refl

pub needs_upper_case : NeedsUpperCase
needs_upper_case name rest found e =
    no_start name (ap (λ o. option_and_then as_path o) found ∙ no_upper _ (list_all is_ascii rest) rest e)

pub needs_ascii : NeedsAscii
needs_ascii name rest found e =
    no_start name (ap (λ o. option_and_then as_path o) found ∙ no_ascii (is_upper_first rest) _ rest e)

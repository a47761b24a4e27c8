-- What attributes say of names (on specs/Names.antt).
use Rattle.addr2line_lines.proofs.Common.{ℕ, ◌+◌, ◌≡◌, ◌≢◌, ◌==◌, ◌||◌, Bool, true, false, cond, List, Option, Some, None, is_some, option_map, Result, Ok, Err, add-one, arith, refl, ap, ◌∙◌, ℤ, pos, option_or, nat_tests, DW_AT_name, Error, OutOfMemory, AttributeValue, Abbrev, Specification, NamedValue, as_value, Reading, ExactlyUnlessOomIf, ◌>>=◌, Section, entry_bytes_from, entry_code_at, EntriesLeft, EntryCursor, depth_after_code, entries_at, entries_from, entry_abbreviation_at, UnitRecord, attr_string_of, is_name_attribute, as_name_or_origin, with_linkage, NameOrOrigin, entry_specifications, is_linkage_name, is_origin, linkage_name_of, name_within, named_at, no_name, or_referred_name, readable, referred_name, visited, with_name, with_name_or_origin, EntryPlace, Scope, referred}
use Rattle.std.specs.Result.{result_ok}
use Rattle.gimli.proofs.WantedLemmas.{PassesOver}
use Rattle.addr2line_lines.specs.declared.name.NameOrOrigin.{NameOrOrigin as NameOrOriginOf}
use Rattle.addr2line_lines.proofs.Facts.{none_of}

-- a string that can't be read is none
pub unreadable : (s : Scope) (u : UnitRecord) (v : AttributeValue Section) (may ok : Type 0) (e : Error) → (e ≡ OutOfMemory → ⊥) → ((may → ok → e ≢ OutOfMemory) → attr_string_of s.file.sections u v ≡ Err e) → readable s u v ≡ None
unreadable s u v may ok e other h = ap result_ok (h (λ _ _. other))

no_name_number : (n : ℕ) → (n == 110 || n == 8199) ≡ true → (n == 3) ≡ false
no_name_number n h = grind (arith, nat_tests)

no_origin_number : (n : ℕ) → (n == 110 || n == 8199) ≡ true → (n == 49 || n == 71) ≡ false
no_origin_number n h = grind (arith, nat_tests)

-- a linkage name changes nothing else
linkage_alone : (s : Scope) (u : UnitRecord) (found : NameOrOrigin) (a : NamedValue) → is_linkage_name a.name ≡ true → with_name_or_origin s u found a ≡ found
linkage_alone s u found a h =
    ap (λ b. cond b (record found { name = option_or (readable s u a.value) found.name }) (cond (is_origin a.name) (record found { origin = Some a.value }) found)) (no_name_number a.name.0 h)
    ∙ ap (λ b. cond b (record found { origin = Some a.value }) found) (no_origin_number a.name.0 h)

-- a linkage name is answered
pub linkage_taken : {R : Type 0} (see : R → Section) (may : Bool) (s : Scope) (u : UnitRecord) (found : NameOrOrigin) (a : NamedValue) (r : Result (Option R) Error) → is_linkage_name a.name ≡ true → ExactlyUnlessOomIf may (option_map see) r (Ok (readable s u a.value))
    → ExactlyUnlessOomIf may (λ linkage. with_linkage (option_map see linkage) found) r (Ok (with_linkage (linkage_name_of s u a) (with_name_or_origin s u found a)))
linkage_taken see may s u found a (Ok x) h k =
    let string : readable s u a.value ≡ option_map see x = cc in
    ap (λ b. Ok (with_linkage (cond b (readable s u a.value) None) (with_name_or_origin s u found a))) h
    ∙ ap (λ o. Ok (with_linkage o (with_name_or_origin s u found a))) string
    ∙ ap (λ f. Ok (with_linkage (option_map see x) f)) (linkage_alone s u found a h)
linkage_taken see may s u found a (Err e) h k = λ m. absurd (let q = k m in cc)

-- an attribute that gives no name says nothing of it
other_found : (s : Scope) (u : UnitRecord) (found : NameOrOrigin) (a : NamedValue) → is_name_attribute a.name ≡ false → with_name_or_origin s u found a ≡ found
other_found s u found a h =
    let p = none_of (is_linkage_name a.name) (a.name.0 == DW_AT_name.0) (is_origin a.name) h in
    ap (λ b. cond b (record found { name = option_or (readable s u a.value) found.name }) (cond (is_origin a.name) (record found { origin = Some a.value }) found)) p.1
    ∙ ap (λ b. cond b (record found { origin = Some a.value }) found) p.2

no_linkage : (s : Scope) (u : UnitRecord) (a : NamedValue) → is_name_attribute a.name ≡ false → linkage_name_of s u a ≡ None
no_linkage s u a h = ap (λ b. cond b (readable s u a.value) None) (none_of (is_linkage_name a.name) (a.name.0 == DW_AT_name.0) (is_origin a.name) h).0

-- after an attribute
abbrev pub named_after : Scope → UnitRecord → List Specification → NameOrOrigin → (NamedValue × Section) → Result NameOrOrigin Error
named_after s u xs found a = elim (linkage_name_of s u a.0) [
  | Some name ↦ Ok (record { name = Some name; origin = None })
  | None ↦ named_at s u xs a.1 (with_name_or_origin s u found a.0)
]

-- the same by its linkage name, if it gives one
abbrev by_linkage : Scope → UnitRecord → List Specification → NameOrOrigin → Section → NamedValue → Option Section → Result NameOrOrigin Error
by_linkage s u after found t a linkage = elim linkage [
  | Some name ↦ Ok (record { name = Some name; origin = None })
  | None ↦ named_at s u after t (with_name_or_origin s u found a)
]

-- attributes that give no name are passed over
pub name_passes : (s : Scope) (u : UnitRecord) (found : NameOrOrigin) → PassesOver u.header.encoding is_name_attribute (λ xs left. named_at s u xs left found) (λ xs a. named_after s u xs found a) (λ _. Ok found)
unfolding named_at
name_passes s u found = record {
  next = λ x xs left. refl;
  still = λ xs a h. ap (by_linkage s u xs found a.1 a.0) (no_linkage s u a.0 h) ∙ ap (named_at s u xs a.1) (other_found s u found a.0 h);
  end = λ left. refl;
}

-- what an attribute gives
gives : (s : Scope) (u : UnitRecord) (found more : NameOrOrigin) (a : NamedValue) (linkage : Option Section) → ◌≡◌ {A = Result (Option Section × NameOrOrigin) Error} (Ok (with_linkage (linkage_name_of s u a) (with_name_or_origin s u found a))) (Ok (with_linkage linkage more))
    → (linkage_name_of s u a ≡ linkage) × (with_name_or_origin s u found a ≡ more)
gives s u found more a linkage h =
    let p : ◌≡◌ {A = Option Section × NameOrOrigin} (with_linkage (linkage_name_of s u a) (with_name_or_origin s u found a)) (with_linkage linkage more) = cc in
    (ap (λ x. x.0) p, ap (λ x. x.1) p)

-- after an attribute that gives a linkage name
pub named_linkage : (s : Scope) (u : UnitRecord) (after : List Specification) (found more : NameOrOrigin) (a : NamedValue) (t name : Section) → ◌≡◌ {A = Result (Option Section × NameOrOrigin) Error} (Ok (with_linkage (linkage_name_of s u a) (with_name_or_origin s u found a))) (Ok (with_linkage (Some name) more))
    → named_after s u after found (a, t) ≡ Ok (record { name = Some name; origin = None })
named_linkage s u after found more a t name h = ap (by_linkage s u after found t a) (gives s u found more a (Some name) h).0

-- after another
pub named_other : (s : Scope) (u : UnitRecord) (after : List Specification) (found more : NameOrOrigin) (a : NamedValue) (t : Section) → ◌≡◌ {A = Result (Option Section × NameOrOrigin) Error} (Ok (with_linkage (linkage_name_of s u a) (with_name_or_origin s u found a))) (Ok (with_linkage None more))
    → named_after s u after found (a, t) ≡ named_at s u after t more
named_other s u after found more a t h = let p = gives s u found more a None h in ap (by_linkage s u after found t a) p.0 ∙ ap (named_at s u after t) p.1

-- what an entry says, whose reading begins
abbrev entry_read : EntryPlace → EntriesLeft → Result NameOrOrigin Error
entry_read place entries = do
  entry ← entry_abbreviation_at entries.unit.abbreviations entries.cursor
  specifications ← entry_specifications place.offset entry.0
  named_at place.scope place.unit specifications entry.1.left no_name

visited_is : (place : EntryPlace) → visited place ≡ (entries_from place.unit (Some place.offset) >>= λ entries. entry_read place entries)
unfolding visited entry_abbreviation_at
visited_is place = by_bytes (entry_bytes_from place.unit.header (Some place.offset))
  where
    by_code : (depth : ℤ) (r : Reading (Option Abbrev))
        → (r >>= λ entry. entry_specifications place.offset entry.0 >>= λ specifications. named_at place.scope place.unit specifications entry.1 no_name)
        ≡ (◌>>=◌ {B = Option Abbrev × EntryCursor} r (λ code. Ok (code.0, record { left = code.1; depth = depth_after_code code.0 depth })) >>= λ entry. entry_specifications place.offset entry.0 >>= λ specifications. named_at place.scope place.unit specifications entry.1.left no_name)
    by_code depth (Ok code) = refl
    by_code depth (Err e) = refl

    by_bytes : (r : Result Section Error)
        → (r >>= λ left. entry_code_at place.unit.abbreviations left >>= λ entry. entry_specifications place.offset entry.0 >>= λ specifications. named_at place.scope place.unit specifications entry.1 no_name)
        ≡ ((r >>= λ left. Ok (entries_at place.unit.header place.unit.abbreviations left)) >>= λ entries. entry_read place entries)
    by_bytes (Ok s) = by_code (pos 0) (entry_code_at place.unit.abbreviations s)
    by_bytes (Err e) = refl

-- an entry whose reading can't begin
pub visited_fault : (place : EntryPlace) (e : Error) → entries_from place.unit (Some place.offset) ≡ Err e → visited place ≡ Err e
visited_fault place e h = visited_is place ∙ ap (λ (r : Result EntriesLeft Error). r >>= λ entries. entry_read place entries) h

-- an entry whose code is read, or isn't
pub visited_by : (place : EntryPlace) (left : EntriesLeft) (r : Result (Option Abbrev × EntryCursor) Error) → entries_from place.unit (Some place.offset) ≡ Ok left → entry_abbreviation_at left.unit.abbreviations left.cursor ≡ r
    → visited place ≡ (r >>= λ entry. entry_specifications place.offset entry.0 >>= λ specifications. named_at place.scope place.unit specifications entry.1.left no_name)
visited_by place left r h k =
    visited_is place ∙ ap (λ (q : Result EntriesLeft Error). q >>= λ entries. entry_read place entries) h
    ∙ ap (λ (q : Result (Option Abbrev × EntryCursor) Error). q >>= λ entry. entry_specifications place.offset entry.0 >>= λ specifications. named_at place.scope place.unit specifications entry.1.left no_name) k

-- the name after what an entry says
abbrev pub after_visit : ℕ → EntryPlace → NameOrOrigin → Result (Option Section) Error
after_visit n place found = elim found.name [
  | Some name ↦ Ok (Some name)
  | None ↦ elim found.origin [ None ↦ Ok None | Some next ↦ name_within n place.scope place.unit next ]
]

-- the name by an entry that is referred to
abbrev pub after_referred : ℕ → Option EntryPlace → Result (Option Section) Error
after_referred n entry = elim entry [ None ↦ Ok None | Some place ↦ visited place >>= λ found. after_visit n place found ]

-- one more entry of a chain
pub within_step : (m n : ℕ) (s : Scope) (u : UnitRecord) (v : AttributeValue Section) → m ≡ n + 1 → name_within m s u v ≡ (referred s u v >>= λ entry. after_referred n entry)
unfolding name_within
within_step m n s u v h = ap (λ k. name_within k s u v) (h ∙ add-one n)

-- where the value can't be followed
pub within_fault : (m n : ℕ) (s : Scope) (u : UnitRecord) (v : AttributeValue Section) (e : Error) → m ≡ n + 1 → referred s u v ≡ Err e → name_within m s u v ≡ Err e
within_fault m n s u v e h k = within_step m n s u v h ∙ ap (λ r. r >>= λ entry. after_referred n entry) k

-- where it refers to nothing
pub within_none : (m n : ℕ) (s : Scope) (u : UnitRecord) (v : AttributeValue Section) → m ≡ n + 1 → referred s u v ≡ Ok None → name_within m s u v ≡ Ok None
within_none m n s u v h k = within_step m n s u v h ∙ ap (λ r. r >>= λ entry. after_referred n entry) k

-- where it refers to an entry
pub within_place : (m n : ℕ) (s : Scope) (u : UnitRecord) (v : AttributeValue Section) (place : EntryPlace) (read : Result NameOrOrigin Error) → m ≡ n + 1 → referred s u v ≡ Ok (Some place) → visited place ≡ read
    → name_within m s u v ≡ (read >>= λ found. after_visit n place found)
within_place m n s u v place read h k q = within_step m n s u v h ∙ ap (λ r. r >>= λ entry. after_referred n entry) k ∙ ap (λ r. r >>= λ found. after_visit n place found) q

-- after the last entry
pub within_zero : (s : Scope) (u : UnitRecord) (v : AttributeValue Section) (m : ℕ) → m ≡ 0 → name_within m s u v ≡ Ok None
unfolding name_within
within_zero s u v m h = ap (λ k. name_within k s u v) h

-- after an entry with a name
pub visit_named : {R : Type 0} (see : R → Section) (n : ℕ) (place : EntryPlace) (x : NameOrOriginOf R) → true ≡ is_some x.name → after_visit n place (as_name_or_origin see x) ≡ Ok (option_map see x.name)
visit_named see n place x h = at x.name h
  where
    at : (o : Option _) → true ≡ is_some o → ◌≡◌ {A = Result (Option Section) Error} (elim (option_map see o) [ Some name ↦ Ok (Some name) | None ↦ elim (option_map (as_value see) x.origin) [ None ↦ Ok None | Some next ↦ name_within n place.scope place.unit next ] ]) (Ok (option_map see o))
    at None h = absurd cc
    at (Some name) h = refl

-- after an entry without one
visit_unnamed : {R : Type 0} (see : R → Section) (n : ℕ) (place : EntryPlace) (x : NameOrOriginOf R) → false ≡ is_some x.name
    → after_visit n place (as_name_or_origin see x) ≡ elim (option_map (as_value see) x.origin) [ None ↦ Ok None | Some next ↦ name_within n place.scope place.unit next ]
visit_unnamed see n place x h = at x.name h
  where
    at : (o : Option _) → false ≡ is_some o → ◌≡◌ {A = Result (Option Section) Error} (elim (option_map see o) [ Some name ↦ Ok (Some name) | None ↦ elim (option_map (as_value see) x.origin) [ None ↦ Ok None | Some next ↦ name_within n place.scope place.unit next ] ]) (elim (option_map (as_value see) x.origin) [ None ↦ Ok None | Some next ↦ name_within n place.scope place.unit next ])
    at None h = refl
    at (Some name) h = absurd cc

-- after an entry that says nothing
pub visit_ends : {R : Type 0} (see : R → Section) (n : ℕ) (place : EntryPlace) (x : NameOrOriginOf R) → false ≡ is_some x.name → x.origin ≡ None → after_visit n place (as_name_or_origin see x) ≡ Ok None
visit_ends see n place x h k = visit_unnamed see n place x h ∙ ap (λ o. elim (option_map (as_value see) o) [ None ↦ Ok None | Some next ↦ name_within n place.scope place.unit next ]) k

-- after an entry that refers to another one
pub visit_goes_on : {R : Type 0} (see : R → Section) (n : ℕ) (place : EntryPlace) (x : NameOrOriginOf R) (v : AttributeValue R) → false ≡ is_some x.name → x.origin ≡ Some v → after_visit n place (as_name_or_origin see x) ≡ name_within n place.scope place.unit (as_value see v)
visit_goes_on see n place x v h k = visit_unnamed see n place x h ∙ ap (λ o. elim (option_map (as_value see) o) [ None ↦ Ok None | Some next ↦ name_within n place.scope place.unit next ]) k

-- by the attribute's name
abbrev pub by_name : Scope → UnitRecord → Option Section → NamedValue → Bool → Bool → Bool → Result (Option Section) Error
by_name s u name a linkage is_name origin =
    cond linkage (Ok (option_or (readable s u a.value) name))
    (cond is_name (Ok (option_or name (readable s u a.value)))
    (cond origin (or_referred_name s u name a.value) (Ok name)))

-- the name after an attribute by what the attribute is
with_is : (s : Scope) (u : UnitRecord) (name : Option Section) (a : NamedValue) (x y z : Bool) → is_linkage_name a.name ≡ x → (a.name.0 == DW_AT_name.0) ≡ y → is_origin a.name ≡ z → with_name s u name a ≡ by_name s u name a x y z
unfolding with_name
with_is s u name a x y z h k l =
    ap (λ b. by_name s u name a b (a.name.0 == DW_AT_name.0) (is_origin a.name)) h ∙ ap (λ b. by_name s u name a x b (is_origin a.name)) k ∙ ap (by_name s u name a x y) l

-- an attribute that may give no name leaves the name as it is
pub name_kept : (s : Scope) (u : UnitRecord) (name : Option Section) (a : NamedValue) → is_name_attribute a.name ≡ false → with_name s u name a ≡ Ok name
name_kept s u name a h =
    let p = none_of (is_linkage_name a.name) (a.name.0 == DW_AT_name.0) (is_origin a.name) h in
    with_is s u name a false false false p.0 p.1 p.2

-- a name that was found stays, where the attribute is no linkage name
pub name_stays : (s : Scope) (u : UnitRecord) (name : Option Section) (a : NamedValue) → is_linkage_name a.name ≡ false → true ≡ is_some name → with_name s u name a ≡ Ok name
name_stays s u None a h k = absurd cc
name_stays s u (Some name) a h k = with_is s u (Some name) a false (a.name.0 == DW_AT_name.0) (is_origin a.name) h refl refl ∙ at (a.name.0 == DW_AT_name.0) (is_origin a.name)
  where
    at : (y z : Bool) → by_name s u (Some name) a false y z ≡ Ok (Some name)
    at true z = refl
    at false true = refl
    at false false = refl

-- a name that was found stays, whatever a value refers to
pub referred_stays : (s : Scope) (u : UnitRecord) (name : Option Section) (value : AttributeValue Section) → true ≡ is_some name → or_referred_name s u name value ≡ Ok name
referred_stays s u None value h = absurd cc
referred_stays s u (Some name) value h = refl

-- where none was found, that by the reference counts
pub referred_else : (s : Scope) (u : UnitRecord) (name : Option Section) (value : AttributeValue Section) → false ≡ is_some name → or_referred_name s u name value ≡ referred_name s u value
referred_else s u None value h = refl
referred_else s u (Some name) value h = absurd cc

-- where none was found, by the attribute
pub name_by : (s : Scope) (u : UnitRecord) (name : Option Section) (a : NamedValue) (y z : Bool) → is_linkage_name a.name ≡ false → false ≡ is_some name → (a.name.0 == DW_AT_name.0) ≡ y → is_origin a.name ≡ z → with_name s u name a ≡ by_name s u None a false y z
name_by s u (Some name) a y z h k l m = absurd cc
name_by s u None a y z h k l m = with_is s u None a false y z h l m

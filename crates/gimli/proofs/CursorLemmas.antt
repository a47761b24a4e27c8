-- What is read at a place is what is read of its bytes, at its depth (on specs/EntryCursor.antt).
use Rattle.gimli.proofs.Common.{◌≡◌, ℕ, ◌==◌, Bool, true, false, cond, List, length, Option, Some, None, Result, Ok, Err, refl, sym, ap, ◌∙◌, ℤ, Error, UnknownAbbreviation, Section, Reading, ◌>>=◌, uleb128_at, Abbrev, with_code, NamedValue, attributes_at, EntryUnit, depth_after_entry, depth_after_closing, entry_code_at, known_abbreviation, EntryCursor, depth_after_code, depth_after_next, entry_abbreviation_at, next_item_at, Entry, Item, entry_of_code, item_at, offset_of}

-- the abbreviation of a code, where the table has it, and the place after it
abbrev pub opening_entry : Option Abbrev → EntryCursor → Result (Option Abbrev × EntryCursor) Error
opening_entry None cursor = Err UnknownAbbreviation
opening_entry (Some a) cursor = Ok (Some a, record { left = cursor.left; depth = depth_after_entry a.has_children cursor.depth })

-- the abbreviation of the next entry, by its code
pub abbreviation_is : (table : List Abbrev) (c : EntryCursor)
    → entry_abbreviation_at table c ≡ (uleb128_at c.left >>= λ code. cond {A = Result (Option Abbrev × EntryCursor) Error} (code.0 == 0) (Ok (None, record { left = code.1; depth = depth_after_closing c.depth })) (opening_entry (with_code code.0 table) (record { left = code.1; depth = c.depth })))
unfolding entry_abbreviation_at entry_code_at
abbreviation_is table c = at (uleb128_at c.left)
  where
    placed : Option Abbrev × Section → Result (Option Abbrev × EntryCursor) Error
    placed code = Ok (code.0, record { left = code.1; depth = depth_after_code code.0 c.depth })

    found : (o : Option Abbrev) (t : Section) → (known_abbreviation o t >>= placed) ≡ opening_entry o (record { left = t; depth = c.depth })
    found None t = refl
    found (Some a) t = refl

    picked : (b : Bool) (n : ℕ) (t : Section) → (cond {A = Reading (Option Abbrev)} b (Ok (None, t)) (known_abbreviation (with_code n table) t) >>= placed)
        ≡ cond {A = Result (Option Abbrev × EntryCursor) Error} b (Ok (None, record { left = t; depth = depth_after_closing c.depth })) (opening_entry (with_code n table) (record { left = t; depth = c.depth }))
    picked true n t = refl
    picked false n t = found (with_code n table) t

    at : (r : Reading ℕ) → ((r >>= λ code. cond {A = Reading (Option Abbrev)} (code.0 == 0) (Ok (None, code.1)) (known_abbreviation (with_code code.0 table) code.1)) >>= placed)
        ≡ (r >>= λ code. cond {A = Result (Option Abbrev × EntryCursor) Error} (code.0 == 0) (Ok (None, record { left = code.1; depth = depth_after_closing c.depth })) (opening_entry (with_code code.0 table) (record { left = code.1; depth = c.depth })))
    at (Ok (n, t)) = picked (n == 0) n t
    at (Err e) = refl

-- a code that is read at a place is read of its bytes, and so is its fault
pub code_read : (table : List Abbrev) (c d : EntryCursor) (a : Option Abbrev) → entry_abbreviation_at table c ≡ Ok (a, d) → entry_code_at table c.left ≡ Ok (a, d.left)
unfolding entry_abbreviation_at
code_read table c d a h = at (entry_code_at table c.left) h
  where
    at : (r : Reading (Option Abbrev)) → ◌≡◌ {A = Result (Option Abbrev × EntryCursor) Error} (r >>= λ code. Ok (code.0, record { left = code.1; depth = depth_after_code code.0 c.depth })) (Ok (a, d)) → r ≡ Ok (a, d.left)
    at (Ok code) k =
        let pairs : ◌≡◌ {A = Option Abbrev × EntryCursor} (code.0, record { left = code.1; depth = depth_after_code code.0 c.depth }) (a, d) = cc in
        ap (λ (p : Option Abbrev × EntryCursor). Ok (p.0, p.1.left)) pairs
    at (Err e) k = absurd cc

pub code_refused : (table : List Abbrev) (c : EntryCursor) (e : Error) → entry_abbreviation_at table c ≡ Err e → entry_code_at table c.left ≡ Err e
unfolding entry_abbreviation_at
code_refused table c e h = at (entry_code_at table c.left) h
  where
    at : (r : Reading (Option Abbrev)) → ◌≡◌ {A = Result (Option Abbrev × EntryCursor) Error} (r >>= λ code. Ok (code.0, record { left = code.1; depth = depth_after_code code.0 c.depth })) (Err e) → r ≡ Err e
    at (Ok code) k = absurd cc
    at (Err f) k = let same : f ≡ e = cc in ap Err same

-- an item that begins at a place
abbrev pub item_here : EntryUnit → EntryCursor → Option Entry → Item
item_here unit start entry = record { offset = offset_of unit start.left; depth = start.depth; entry = entry }

-- the item whose code is read: a closing entry, or an entry, whose attributes follow
abbrev pub item_from : EntryUnit → EntryCursor → Option Abbrev × EntryCursor → Result (Option Item × EntryCursor) Error
item_from unit start (None, cursor) = Ok (Some (item_here unit start None), cursor)
item_from unit start (Some a, cursor) = attributes_at unit.encoding a.attributes cursor.left >>= λ x. Ok (
  Some (item_here unit start (Some (record { abbreviation = a; attributes = x.0 }))),
  record { left = x.1; depth = cursor.depth },
)

-- the next item, by its code
pub item_is : (unit : EntryUnit) (c : EntryCursor) → next_item_at unit c ≡ cond (length c.left.bytes == 0) (Ok (None, c)) (entry_abbreviation_at unit.abbreviations c >>= λ x. item_from unit c x)
unfolding next_item_at item_at entry_abbreviation_at
item_is unit c = at (length c.left.bytes == 0) (entry_code_at unit.abbreviations c.left)
  where
    placed : Option Item × Section → Result (Option Item × EntryCursor) Error
    placed x = Ok (x.0, record { left = x.1; depth = depth_after_next x.0 c.depth })

    by_place : Option Abbrev × Section → Result (Option Abbrev × EntryCursor) Error
    by_place code = Ok (code.0, record { left = code.1; depth = depth_after_code code.0 c.depth })

    item : Option Entry × Section → Reading (Option Item)
    item x = Ok (Some (item_here unit c x.0), x.1)

    read : (a : Abbrev) (r : Reading (List NamedValue))
        → ((◌>>=◌ {B = Option Entry × Section} r (λ x. Ok (Some (record { abbreviation = a; attributes = x.0 }), x.1)) >>= item) >>= placed)
        ≡ ◌>>=◌ {B = Option Item × EntryCursor} r (λ x. Ok (Some (item_here unit c (Some (record { abbreviation = a; attributes = x.0 }))), record { left = x.1; depth = depth_after_entry a.has_children c.depth }))
    read a (Ok x) = refl
    read a (Err e) = refl

    coded : (r : Reading (Option Abbrev)) → (((r >>= λ code. entry_of_code unit code) >>= item) >>= placed) ≡ ((r >>= by_place) >>= λ x. item_from unit c x)
    coded (Ok (None, t)) = refl
    coded (Ok (Some a, t)) = read a (attributes_at unit.encoding a.attributes t)
    coded (Err e) = refl

    at : (b : Bool) (r : Reading (Option Abbrev)) → (cond {A = Reading (Option Item)} b (Ok (None, c.left)) ((r >>= λ code. entry_of_code unit code) >>= item) >>= placed)
        ≡ cond b (Ok (None, c)) ((r >>= by_place) >>= λ x. item_from unit c x)
    at true r = refl
    at false r = coded r

-- where bytes are left the item is that of a code
pub item_coded : (unit : EntryUnit) (c : EntryCursor) → (length c.left.bytes == 0) ≡ false → next_item_at unit c ≡ (entry_abbreviation_at unit.abbreviations c >>= λ x. item_from unit c x)
item_coded unit c h = item_is unit c ∙ ap (λ b. cond b (Ok (None, c)) (entry_abbreviation_at unit.abbreviations c >>= λ x. item_from unit c x)) h

-- the next item of a place is the item that its bytes begin with
pub next_of_item : (unit : EntryUnit) (depth : ℤ) (s rest : Section) (o : Option Item) → item_at unit depth s ≡ Ok (o, rest)
    → next_item_at unit (record { left = s; depth = depth }) ≡ Ok (o, record { left = rest; depth = depth_after_next o depth })
unfolding next_item_at
next_of_item unit depth s rest o h = ap (λ (r : Reading (Option Item)). ◌>>=◌ {B = Option Item × EntryCursor} r (λ y. Ok (y.0, record { left = y.1; depth = depth_after_next y.0 depth }))) h

-- an item that is read at a place is read of its bytes, and so is its fault
pub item_of_next : (unit : EntryUnit) (c d : EntryCursor) (o : Option Item) → next_item_at unit c ≡ Ok (o, d) → (item_at unit c.depth c.left ≡ Ok (o, d.left)) × (d.depth ≡ depth_after_next o c.depth)
unfolding next_item_at
item_of_next unit c d o h = at (item_at unit c.depth c.left) h
  where
    at : (r : Reading (Option Item)) → ◌≡◌ {A = Result (Option Item × EntryCursor) Error} (r >>= λ x. Ok (x.0, record { left = x.1; depth = depth_after_next x.0 c.depth })) (Ok (o, d)) → (r ≡ Ok (o, d.left)) × (d.depth ≡ depth_after_next o c.depth)
    at (Ok x) k =
        let pairs : ◌≡◌ {A = Option Item × EntryCursor} (x.0, record { left = x.1; depth = depth_after_next x.0 c.depth }) (o, d) = cc in
        let item : x.0 ≡ o = ap (λ (p : Option Item × EntryCursor). p.0) pairs in
        (ap (λ (p : Option Item × EntryCursor). Ok (p.0, p.1.left)) pairs, sym (ap (λ (p : Option Item × EntryCursor). p.1.depth) pairs) ∙ ap (λ p. depth_after_next p c.depth) item)
    at (Err e) k = absurd cc

pub item_refused : (unit : EntryUnit) (c : EntryCursor) (e : Error) → next_item_at unit c ≡ Err e → item_at unit c.depth c.left ≡ Err e
unfolding next_item_at
item_refused unit c e h = at (item_at unit c.depth c.left) h
  where
    at : (r : Reading (Option Item)) → ◌≡◌ {A = Result (Option Item × EntryCursor) Error} (r >>= λ x. Ok (x.0, record { left = x.1; depth = depth_after_next x.0 c.depth })) (Err e) → r ≡ Err e
    at (Ok x) k = absurd cc
    at (Err f) k = let same : f ≡ e = cc in ap Err same

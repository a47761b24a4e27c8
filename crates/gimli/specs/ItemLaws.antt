-- Units and items as texts (DWARF 5, sections 7.5.1 to 7.5.3): a section is the texts of its units,
-- one after another, and a unit's entries are the texts of its items; and where subtrees end
-- (section 2.3).
use Rattle.std.specs.Prelude.{◌≡◌, ◌≢◌, ℕ, ◌+◌, ◌≤◌, ℤ, ◌<ℤ◌, List, [], ◌∷◌, ◌++◌, length, take, drop, Option, Some, None, Result, Ok, Err, IsOk}
use Rattle.std.specs.List.{AllByRecursion, flat_map}
use Rattle.gimli_read.specs.declared.endian.RunTimeEndian.{RunTimeEndian}
use Rattle.gimli.specs.Common.{Encoding, Error, UnexpectedEof, Section, ◌>>=◌, Run, Specification, with_code, NamedValue}
use Rattle.gimli_read.specs.Leb128.{IsUleb128}
use Rattle.gimli_read.specs.Value.{IsAttribute}
use Rattle.gimli.specs.Header.{UnitHeaderFields, headers_of}
use Rattle.gimli.specs.Entry.{EntryUnit}
use Rattle.gimli.specs.Entries.{unit_length}
use Rattle.gimli.specs.Items.{Entry, Item, depth_after, offset_of, item_at, items_from, subtree_of}

-- the bytes of a unit, its length among them, in those of its section
abbrev pub unit_text : List ℕ → UnitHeaderFields → List ℕ
unit_text bytes header = take (unit_length header) (drop header.offset.0 bytes)

-- the units of a section that is read to its end: their texts joined are the section
abbrev pub UnitsCover : Type 0
UnitsCover =
    (s end : Section) → (headers_of s).end ≡ Ok end
    → flat_map (unit_text s.bytes) (headers_of s).items ≡ s.bytes

-- the entries of each unit are what follows the header in its text
abbrev pub EntriesFollowHeaders : Type 0
EntriesFollowHeaders =
    (s : Section)
    → AllByRecursion (λ h. h.entries.bytes ≡ drop h.header_length (unit_text s.bytes h))
    (headers_of s).items

-- the text is that of attributes, one after another
abbrev pub AreAttributes : Encoding → RunTimeEndian → List Specification → List ℕ → List NamedValue
    → Type 0
AreAttributes encoding order [] text [] = text ≡ []
AreAttributes encoding order [] text (a ∷ attributes) = ⊥
AreAttributes encoding order (x ∷ xs) text [] = ⊥
AreAttributes encoding order (x ∷ xs) text (a ∷ attributes) =
    (front rest : List ℕ) × (text ≡ front ++ rest) × IsAttribute encoding order x front a
    × AreAttributes encoding order xs rest attributes

-- the text is that of an entry: its abbreviation's code, and its attributes; of a closing entry the
-- code 0 alone
abbrev pub IsEntryText : EntryUnit → RunTimeEndian → Option Entry → List ℕ → Type 0
IsEntryText unit order None text = IsUleb128 text 0
IsEntryText unit order (Some e) text =
    (code : ℕ) × (front rest : List ℕ) × (text ≡ front ++ rest) × IsUleb128 front code
    × (code ≢ 0) × (with_code code unit.abbreviations ≡ Some e.abbreviation)
    × AreAttributes unit.encoding order e.abbreviation.attributes rest e.attributes

-- the texts of the items joined are the bytes, of which the first stands at an offset and a depth
abbrev pub AreItems : EntryUnit → RunTimeEndian → ℕ → ℤ → List Item → List ℕ → Type 0
AreItems unit order offset depth [] bytes = bytes ≡ []
AreItems unit order offset depth (x ∷ xs) bytes =
    (text rest : List ℕ) × (bytes ≡ text ++ rest) × IsEntryText unit order x.entry text
    × (x.offset ≡ offset) × (x.depth ≡ depth)
    × AreItems unit order (offset + length text) (depth_after x) xs rest

-- the items that are read to the unit's end cover its bytes
abbrev pub ItemsCover : Type 0
ItemsCover =
    (unit : EntryUnit) (depth : ℤ) (s end : Section) → length s.bytes ≤ unit.length
    → (items_from unit depth s).end ≡ Ok end
    → AreItems unit s.endian (offset_of unit s) depth (items_from unit depth s).items s.bytes

-- and any items whose texts cover them are those that are read
abbrev pub ItemsAlone : Type 0
ItemsAlone =
    (unit : EntryUnit) (depth : ℤ) (s : Section) (items : List Item)
    → length s.bytes ≤ unit.length
    → AreItems unit s.endian (offset_of unit s) depth items s.bytes
    → ((items_from unit depth s).items ≡ items) × IsOk (items_from unit depth s).end

-- the items between an item and the end of its subtree lie deeper than it
abbrev pub SubtreesLieDeeper : Type 0
SubtreesLieDeeper =
    (unit : EntryUnit) (depth : ℤ) (s rest : Section) (x : Item)
    → item_at unit depth s ≡ Ok (Some x, rest)
    → AllByRecursion (λ y. x.depth <ℤ y.depth)
    (subtree_of x (items_from unit (depth_after x) rest)).items

-- the depth after items, of which the first lies at a depth
abbrev pub depth_after_all : ℤ → List Item → ℤ
depth_after_all now [] = now
depth_after_all now (x ∷ xs) = depth_after_all (depth_after x) xs

-- of items that begin at a depth `now` these are a front, after which the depth is the one wanted;
-- or they are all, after which it is still greater, and the fault is theirs, or UnexpectedEof where
-- they have none
abbrev pub Closes : {Z : Type 0} → ℤ → ℤ → Run Item Z → List Item → Result (Unit {0}) Error → Type 0
Closes depth now following items (Ok u) =
    (rest : List Item) × (following.items ≡ items ++ rest) × (depth_after_all now items ≡ depth)
Closes depth now following items (Err e) =
    (items ≡ following.items) × (depth <ℤ depth_after_all now items)
    × ◌≡◌ {A = Result (Unit {0}) Error} (following.end >>= λ z. Err UnexpectedEof) (Err e)

-- an entry's subtree is a front of the items after it, after which the depth is the entry's own; or
-- there is no such front, and its fault is that of the items, or UnexpectedEof
abbrev pub SubtreesClose : Type 0
SubtreesClose =
    (unit : EntryUnit) (depth : ℤ) (s rest : Section) (x : Item) (e : Entry)
    → item_at unit depth s ≡ Ok (Some x, rest) → x.entry ≡ Some e
    → let following = items_from unit (depth_after x) rest in
    Closes x.depth (depth_after x) following (subtree_of x following).items
    (subtree_of x following).end

-- the units of a section, and the entries of each
pub record UnitLaws : Type 0 where
  pub cover : UnitsCover
  pub entries : EntriesFollowHeaders

-- the items of a unit, and the subtrees among them
pub record ItemLaws : Type 0 where
  pub cover : ItemsCover
  pub alone : ItemsAlone
  pub deeper : SubtreesLieDeeper
  pub close : SubtreesClose

-- Readings of a name: from what is left of it, and what it can refer back to, to a value and the
-- same after it, or the one fault.
-- Source: Itanium C++ ABI, 5.1 (Compression: the substitutable components so far). Own: all else.
use Rattle.std.specs.Prelude.{ℕ, zero, suc, ◌&&◌, ◌==◌, Bool, true, false, not, List, [], ◌∷◌, ◌++◌, length, take, drop, nat_le, if◌then◌else◌, Option, Some, None, is_some, option_map, option_and_then, codes}
use Rattle.std.specs.List.{prefix_len}
use Rattle.itanium.specs.Tree.{Text, Tree}

-- the state of a reading
pub record State : Type 0 where
  pub bytes : List ℕ  -- those that are left to read
  pub components : List Tree  -- what `S_`, `S0_` and so on stand for
  pub arguments : List Tree  -- what `T_`, `T0_` and so on stand for
  pub is_conversion : Bool  -- whether the type of a conversion is read

-- a value and the state after it, or the fault
abbrev pub Reading : Type 0 → Type 0
Reading A = State → Option (A × State)

-- one reading and then another, with the value of the first or without it
infixl 10 ◌>>=◌
abbrev pub ◌>>=◌ : {A B : Type 0} → Reading A → (A → Reading B) → Reading B
first >>= next = λ s. option_and_then (λ p. next p.0 p.1) (first s)

infixl 10 ◌>>◌
abbrev pub ◌>>◌ : {A B : Type 0} → Reading A → Reading B → Reading B
first >> second = first >>= (λ _. second)

-- a value, with nothing read
abbrev pub give : {A : Type 0} → A → Reading A
give x = λ s. Some (x, s)

-- the fault
abbrev pub fault : {A : Type 0} → Reading A
fault = λ s. None

-- ---- what stands first

-- what follows a text that stands first
abbrev pub after : Text → List ℕ → Option (List ℕ)
after [] bytes = Some bytes
after (c ∷ text) [] = None
after (c ∷ text) (b ∷ bytes) = if b == c then after text bytes else None

-- what follows a byte that passes a test and stands first
abbrev pub after_byte : (ℕ → Bool) → List ℕ → Option (List ℕ)
after_byte test [] = None
after_byte test (b ∷ bytes) = if test b then Some bytes else None

-- the entry of a table whose code stands first, and what follows the code
unfoldable pub table_entry_at : {A : Type 0} → List (Text × A) → List ℕ → Option (A × List ℕ)
table_entry_at [] bytes = None
table_entry_at (entry ∷ table) bytes = elim (after entry.0 bytes)
    [ None ↦ table_entry_at table bytes | Some rest ↦ Some (entry.1, rest) ]

-- what has to stand here: a text, or a byte that passes a test
abbrev pub passed : Option (List ℕ) → Reading (Unit {0})
passed rest = λ s. option_map (λ bytes. (tt, record s { bytes = bytes })) rest

abbrev pub need : Text → Reading (Unit {0})
need text = λ s. passed (after text s.bytes) s

abbrev pub need_byte : (ℕ → Bool) → Reading (Unit {0})
need_byte test = λ s. passed (after_byte test s.bytes) s

-- so many bytes
abbrev pub next_bytes : ℕ → Reading Text
next_bytes n = λ s.
    if nat_le n (length s.bytes)
    then Some (take n s.bytes, record s { bytes = drop n s.bytes }) else None

-- all bytes from the front on that pass a test
abbrev pub leading : (ℕ → Bool) → Reading Text
leading test = λ s.
    let n = prefix_len test s.bytes in
    Some (take n s.bytes, record s { bytes = drop n s.bytes })

-- a reading, and `E` after it
abbrev pub up_to_end : {A : Type 0} → Reading A → Reading A
up_to_end reading = do
  x ← reading
  need (codes "E")
  give x

-- ---- choices: the first that fits is taken, and nothing is tried twice

-- by the entry of a table whose code stands first, and else another reading
abbrev pub by_table : {A B : Type 0} → List (Text × A) → (A → Reading B) → Reading B → Reading B
by_table table found other = λ s. elim (table_entry_at table s.bytes)
    [ None ↦ other s | Some p ↦ found p.0 (record s { bytes = p.1 }) ]

-- the reading after the first of these texts that stands here, and else another
abbrev pub one_of : {A : Type 0} → List (Text × Reading A) → Reading A → Reading A
one_of table other = by_table table (λ reading. reading) other

-- the same of one text
abbrev pub if_next : {A : Type 0} → Text → Reading A → Reading A → Reading A
if_next text next other = one_of ((text, next) ∷ []) other

-- whether a text stands here, which is then passed over
abbrev pub optional : Text → Reading Bool
optional text = if_next text (give true) (give false)

-- one of two readings
abbrev pub choose : {A : Type 0} → Bool → Reading A → Reading A → Reading A
choose true one other = one
choose false one other = other

-- one reading where a text stands first, which is left there, and else another
abbrev pub if_at : {A : Type 0} → Text → Reading A → Reading A → Reading A
if_at text one other = λ s. choose (is_some (after text s.bytes)) one other s

-- the same of a byte that passes a test
abbrev pub if_first : {A : Type 0} → (ℕ → Bool) → Reading A → Reading A → Reading A
if_first test one other = λ s. choose (is_some (after_byte test s.bytes)) one other s

-- ---- rows

-- readings in a row up to one of these ends, and what the end stands for; the number bounds the
-- turns
unfoldable pub up_to : {A B : Type 0} → List (Text × B) → Reading A → ℕ → Reading (List A × B)
up_to ends item zero = fault
up_to ends item (suc turns) = by_table ends (λ end. give ([], end)) (do
  first ← item
  more ← up_to ends item turns
  give (first ∷ more.0, more.1))

-- as many as there can be: each takes a byte, and so does the end
abbrev pub all_up_to : {A B : Type 0} → List (Text × B) → Reading A → Reading (List A × B)
all_up_to ends item = λ s. up_to ends item (length s.bytes) s

-- ---- what can be referred back to

-- a tree that is a substitutable component from here on
abbrev pub enter : Tree → Reading Tree
enter tree = λ s. Some (tree, record s { components = s.components ++ tree ∷ [] })

abbrev pub entered : Reading Tree → Reading Tree
entered reading = reading >>= enter

-- an argument that template parameters can stand for from here on, and none
abbrev pub enter_argument : Tree → Reading Tree
enter_argument tree = λ s. Some (tree, record s { arguments = s.arguments ++ tree ∷ [] })

abbrev pub no_arguments : Reading (Unit {0})
no_arguments = λ s. Some (tt, record s { arguments = [] })

-- a reading in which template parameters stand for nothing at first, and for what they did after it
abbrev pub apart : {A : Type 0} → Reading A → Reading A
apart reading = λ s.
    option_map (λ p. (p.0, record p.1 { arguments = s.arguments }))
    (reading (record s { arguments = [] }))

-- a reading inside the type of a conversion
abbrev pub inside_conversion : {A : Type 0} → Reading A → Reading A
inside_conversion reading = λ s.
    option_map (λ p. (p.0, record p.1 { is_conversion = s.is_conversion }))
    (reading (record s { is_conversion = true }))

-- whether template arguments follow that aren't those of a conversion
abbrev pub takes_arguments : Reading Bool
takes_arguments = λ s. Some (is_some (after (codes "I") s.bytes) && not s.is_conversion, s)

-- ---- productions

-- the name of an entity, and what it tells the encoding that it is the name of
pub record Entity : Type 0 where
  pub tree : Tree
  pub has_no_result : Bool  -- whether it is a constructor, a destructor or a conversion
  pub qualifiers : Text  -- those of a nested name

-- a name that tells nothing
abbrev pub entity_of : Tree → Entity
entity_of tree = record { tree = tree; has_no_result = false; qualifiers = [] }

-- how each production reads one level further in; an entity is told whether it names an encoding
pub record Inner : Type 0 where
  pub encoding : Reading Tree
  pub entity : Bool → Reading Entity
  pub type : Reading Tree
  pub argument : Reading Tree

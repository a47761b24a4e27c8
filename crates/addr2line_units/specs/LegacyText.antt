-- The text of a legacy name of Rust as a function of the name. `LegacyLaws` says that it is what
-- `IsLegacyName` relates the name to, and none where it relates the name to nothing.
-- Own: a name is demangled only in Rust, and one without a language as one of Rust.
use Rattle.std.specs.Prelude.{ℕ, zero, suc, ◌+◌, ◌==◌, ◌&&◌, Bool, true, false, List, [], ◌∷◌, ◌++◌, length, take, drop, map, not, nat_lt, nat_le, nat_eq, if◌then◌else◌, Option, Some, None, option_map, option_and_then, codes, encode_utf8}
use Rattle.std.specs.Char.{is_ascii, is_ascii_digit, is_control}
use Rattle.std.specs.List.{list_all, prefix_len, position, starts_with}
use Rattle.std.specs.Map.{lookup}
use Rattle.std.specs.Option.{option_or}
use Rattle.std.specs.Str.{byte, bytes_eq}
use Rattle.std.specs.Str.Parse.{digits_value}
use Rattle.gimli_read.specs.declared.constants.TheConstants.DwLang.{DW_LANG_Rust}
use Rattle.addr2line_units.specs.LegacyName.{llvm_mark, is_llvm_byte, prefixes, is_suffix, joined}
use Rattle.addr2line_units.specs.LegacyElements.{is_lower_hex, is_hash, escapes, is_scalar_value, is_first, is_dot}

-- the name up to the first mark of LLVM, where only such bytes follow it
abbrev pub without_llvm : List ℕ → List ℕ
without_llvm [] = []
without_llvm (b ∷ bs) = if starts_with nat_eq (b ∷ bs) llvm_mark
    then (if list_all is_llvm_byte (drop (length llvm_mark) (b ∷ bs)) then [] else b ∷ bs)
    else b ∷ without_llvm bs

-- what follows the first of such texts that the name begins with
abbrev pub after_first : List (List ℕ) → List ℕ → Option (List ℕ)
after_first [] name = None
after_first (text ∷ texts) name =
    if starts_with nat_eq name text then Some (drop (length text) name)
    else after_first texts name

-- the name after its prefix
unfoldable pub without_prefix : List ℕ → Option (List ℕ)
without_prefix name = after_first prefixes name

-- the first bytes, if they are ASCII and there are so many, and those after them
abbrev pub ascii_front : ℕ → List ℕ → Option (List ℕ × List ℕ)
ascii_front n bytes =
    if nat_le n (length bytes) && list_all is_ascii (take n bytes)
    then Some (take n bytes, drop n bytes) else None

-- the element after its decimal length, and what follows it
unfoldable pub element_at : List ℕ → Option (List ℕ × List ℕ)
element_at text =
    let n = prefix_len is_ascii_digit text in
    if nat_lt 0 n then ascii_front (digits_value 10 (take n text)) (drop n text) else None

-- an element before those that stand after it, or none
abbrev pub elements_by : Option (List ℕ × List ℕ) → List ℕ
    → (List ℕ → List (List ℕ) × List ℕ) → List (List ℕ) × List ℕ
elements_by None text next = ([], text)
elements_by (Some e) text next = (e.0 ∷ (next e.1).0, (next e.1).1)

-- the elements that stand one after another, at most so many, and what follows them
abbrev pub elements_within : ℕ → List ℕ → List (List ℕ) × List ℕ
elements_within zero text = ([], text)
elements_within (suc n) text = elements_by (element_at text) text (elements_within n)

-- the elements that stand one after another, and what follows them
unfoldable pub elements_at : List ℕ → List (List ℕ) × List ℕ
elements_at text = elements_within (length text) text

-- the elements without a last one that is a hash
abbrev pub without_hash : List (List ℕ) → List (List ℕ)
without_hash [] = []
without_hash (e ∷ []) = if is_hash e then [] else e ∷ []
without_hash (e ∷ f ∷ es) = e ∷ without_hash (f ∷ es)

-- the character of that number, if it is one and no control
abbrev pub shown_char : ℕ → Option ℕ
shown_char n =
    if is_scalar_value n && not (is_control n) then Some n else None

-- the character that the digits after `u` name
abbrev pub numbered_char : List ℕ → Option ℕ
numbered_char [] = None
numbered_char (b ∷ digits) =
    if b == byte "u" && (nat_lt 0 (length digits) && list_all is_lower_hex digits)
    then shown_char (digits_value 16 digits) else None

-- the character that stands between two dollars
unfoldable pub escape_char : List ℕ → Option ℕ
escape_char body = option_or (lookup (bytes_eq body) escapes) (numbered_char body)

-- the escape after a dollar: its character, and how many bytes it takes
unfoldable pub escape_in : List ℕ → Option (ℕ × ℕ)
escape_in rest =
    option_and_then (λ k. option_map (λ c. (c, k + 1)) (escape_char (take k rest)))
    (position (λ b. b == byte "$") rest)

-- the character of an escape and what stands after it, or a dollar and the rest as they stand
abbrev pub escape_text : Option (ℕ × ℕ) → List ℕ → (ℕ → List ℕ) → List ℕ
escape_text None rest next = byte "$" ∷ rest
escape_text (Some e) rest next = encode_utf8 e.0 ++ next e.1

-- the text of an element's bytes, read from the left, without the first so many
abbrev pub plain_from : ℕ → List ℕ → List ℕ
plain_from skip [] = []
plain_from (suc skip) (b ∷ bs) = plain_from skip bs
plain_from zero (b ∷ bs) =
    if b == byte "$" then escape_text (escape_in bs) bs (λ n. plain_from n bs)
    else if is_dot b && is_first is_dot bs then codes "::" ++ plain_from 1 bs
    else b ∷ plain_from 0 bs

-- the element without the underscore of a leading `_$`
abbrev pub bare_of : List ℕ → List ℕ
bare_of element = if starts_with nat_eq element (codes "_$") then drop 1 element else element

-- the text of an element
unfoldable pub element_text : List ℕ → List ℕ
element_text element = plain_from 0 (bare_of element)

-- a text, after two colons unless it is the first
abbrev pub joint_text : Bool → List ℕ → List ℕ
joint_text true text = text
joint_text false text = codes "::" ++ text

-- the text of the elements
unfoldable pub elements_text : List ℕ → List ℕ
elements_text text = joined (map element_text (without_hash (elements_at text).0))

-- the suffix after the `E`
unfoldable pub suffix_at : List ℕ → Option (List ℕ)
suffix_at [] = None
suffix_at (b ∷ bs) = if b == byte "E" && is_suffix bs then Some bs else None

-- the text of what follows the prefix
unfoldable pub spelled_text : List ℕ → Option (List ℕ)
spelled_text text =
    option_and_then (λ _.
    option_map (λ suffix. elements_text text ++ suffix) (suffix_at (elements_at text).1))
    (element_at text)

-- the text of a legacy name
unfoldable pub legacy_text : List ℕ → Option (List ℕ)
legacy_text name = option_and_then spelled_text (without_prefix (without_llvm name))

-- the text of a name in the language of that number: that of a legacy name where it is Rust, else
-- none
unfoldable pub demangled : ℕ → List ℕ → Option (List ℕ)
demangled language name = if language == DW_LANG_Rust.0 then legacy_text name else None

-- the text of a name whose language may be unknown: then it is tried as one of Rust
abbrev pub demangled_auto : Option ℕ → List ℕ → Option (List ℕ)
demangled_auto None name = demangled DW_LANG_Rust.0 name
demangled_auto (Some language) name = demangled language name

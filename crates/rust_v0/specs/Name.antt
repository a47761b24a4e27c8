-- v0 names of Rust, and the text that each stands for.
-- Source: Rust RFC 2603; what LLVM appends after `.llvm.`; the prefixes `R` and `__R` of other systems.
-- Own: a name with any fault in what is read has no text; 500 levels, 65,536 productions and
-- 1,000,000 bytes of text of its path at most; which suffixes. Of a path that isn't shown neither what
-- stands at the places that references name is read, nor whether lifetimes are bound.
use Rattle.std.specs.Prelude.{ℕ, ◌==◌, ◌&&◌, ◌||◌, Bool, true, false, List, [], ◌∷◌, ◌++◌, length, drop, nat_eq, if◌then◌else◌, Option, Some, None, option_and_then, codes}
use Rattle.std.specs.Char.{is_ascii, is_ascii_digit, is_ascii_graphic, is_ascii_uppercase}
use Rattle.std.specs.Int.{is_in_range}
use Rattle.std.specs.List.{list_all, starts_with}
use Rattle.std.specs.Str.{byte}
use Rattle.rust_v0.specs.declared.grammar.Production.TheVariants.{ValuePath}
use Rattle.rust_v0.specs.declared.printer.Mode.{Mode}
use Rattle.rust_v0.specs.declared.printer.Mode.TheVariants.{Written}
use Rattle.rust_v0.specs.State.{State, Reading, ◌>>=◌}
use Rattle.rust_v0.specs.Reads.{hidden, reads}

-- the most levels, productions and bytes of text
abbrev pub most_levels : ℕ
most_levels = 500

abbrev pub most_productions : ℕ
most_productions = 65_536

abbrev pub most_text : ℕ
most_text = 1_000_000

-- what LLVM puts between a name and a mark of its own
abbrev pub llvm_mark : List ℕ
llvm_mark = codes ".llvm."

-- `A` to `F`, `0` to `9`, `@`
abbrev pub is_llvm_byte : ℕ → Bool
is_llvm_byte b = is_in_range (byte "A") (byte "F") b || (is_ascii_digit b || b == byte "@")

-- the name up to the first mark of LLVM, where only such bytes follow it
abbrev pub without_llvm : List ℕ → List ℕ
without_llvm [] = []
without_llvm (b ∷ bs) = if starts_with nat_eq (b ∷ bs) llvm_mark
    then (if list_all is_llvm_byte (drop (length llvm_mark) (b ∷ bs)) then [] else b ∷ bs)
    else b ∷ without_llvm bs

-- what a name may begin with
abbrev pub prefixes : List (List ℕ)
prefixes = codes "_R" ∷ codes "R" ∷ codes "__R" ∷ []

-- what follows the first of such texts that the name begins with
abbrev pub after_first : List (List ℕ) → List ℕ → Option (List ℕ)
after_first [] name = None
after_first (text ∷ texts) name =
    if starts_with nat_eq name text then Some (drop (length text) name)
    else after_first texts name

-- whether an upper case letter stands first
abbrev pub is_upper_first : List ℕ → Bool
is_upper_first [] = false
is_upper_first (b ∷ bs) = is_ascii_uppercase b

-- the name after its prefix, all of it ASCII, from an upper case letter on
abbrev pub as_path : List ℕ → Option (List ℕ)
as_path bytes = if is_upper_first bytes && list_all is_ascii bytes then Some bytes else None

unfoldable pub without_prefix : List ℕ → Option (List ℕ)
without_prefix name = option_and_then as_path (after_first prefixes name)

-- whether a text may follow a path
abbrev pub is_suffix : List ℕ → Bool
is_suffix [] = true
is_suffix (b ∷ bs) = b == byte "." && list_all is_ascii_graphic (b ∷ bs)

-- before anything is read
abbrev pub start : Mode → List ℕ → State
start mode spelled = record {
  name = spelled;
  bytes = spelled;
  left = most_productions;
  room = most_text;
  bound = 0;
  is_open = false;
  mode = mode;
  text = [];
}

-- the crate that made the instance, which isn't shown, if it stands there
unfoldable pub instantiating : Reading
instantiating s = if is_upper_first s.bytes then hidden (reads most_levels) s else Some s

-- the suffix, which stands after the text as it is
abbrev pub suffixed : State → Option (List ℕ)
suffixed s = if is_suffix s.bytes then Some (s.text ++ s.bytes) else None

-- the path of a name, and the crate that made the instance
unfoldable pub paths : Reading
paths s = reads most_levels ValuePath s >>= instantiating

-- the text of what follows the prefix
unfoldable pub spelled_text : List ℕ → Option (List ℕ)
spelled_text spelled = paths (start Written spelled) >>= suffixed

-- the text of a v0 name, and none for any other name
unfoldable pub v0_text : List ℕ → Option (List ℕ)
v0_text name = option_and_then spelled_text (without_prefix (without_llvm name))

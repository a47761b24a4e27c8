-- A text pushed onto a path; texts are bytes.
-- Own: a text that begins with `/` or `\`, or has `:/` or `:\` at bytes 1 and 2, replaces the path.
-- Otherwise a separator stands between, unless the path is empty or ends in it: `\` where the path
-- begins with `\` or has `:\` at bytes 1 and 2, else `/`.
use Rattle.std.specs.Prelude.{ℕ, Bool, false, not, ◌&&◌, ◌||◌, List, [], ◌∷◌, ◌++◌, ◌==◌, ◌-◌, Option, Some, None, slice_get, length, if◌then◌else◌}

-- the byte `/`
abbrev pub slash : ℕ
slash = 47

-- the byte `\`
abbrev pub backslash : ℕ
backslash = 92

-- the byte `:`
abbrev pub colon : ℕ
colon = 58

-- `/` or `\`
abbrev pub is_slash : ℕ → Bool
is_slash b = b == slash || b == backslash

-- the text replaces what it is pushed onto
abbrev pub replaces : List ℕ → Bool
replaces [] = false
replaces (a ∷ []) = is_slash a
replaces (a ∷ b ∷ []) = is_slash a
replaces (a ∷ b ∷ c ∷ rest) = is_slash a || (b == colon && is_slash c)

-- what separates the parts of the path
abbrev pub separator : List ℕ → ℕ
separator [] = slash
separator (a ∷ []) = if a == backslash then backslash else slash
separator (a ∷ b ∷ []) = if a == backslash then backslash else slash
separator (a ∷ b ∷ c ∷ rest) =
    if a == backslash || (b == colon && c == backslash) then backslash else slash

-- there is a byte, and it is not s
abbrev pub is_other : ℕ → Option ℕ → Bool
is_other s None = false
is_other s (Some b) = not (b == s)

-- the path has bytes, and does not end in s
abbrev pub lacks : ℕ → List ℕ → Bool
lacks s path = is_other s (slice_get path (length path - 1))

-- a text below a path
abbrev pub joined_path : List ℕ → List ℕ → List ℕ
joined_path path text =
    (if lacks (separator path) path then path ++ separator path ∷ [] else path) ++ text

-- a text pushed onto a path
abbrev pub pushed_path : List ℕ → List ℕ → List ℕ
pushed_path path text = if replaces text then text else joined_path path text

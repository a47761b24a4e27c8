-- What codes stand for: builtin types, operators, substitutions of `std`, literals, special names.
-- Source: Itanium C++ ABI, 5.1.3 (operators), 5.1.4 (special names), 5.1.5 (types) and 5.1,
-- Compression (substitutions). Own: the texts, which are those of llvm-cxxfilt.
use Rattle.std.specs.Prelude.{List, [], ◌∷◌, codes}
use Rattle.itanium.specs.Tree.{Text, Abbreviation}

-- <builtin-type>
abbrev pub builtin_types : List (Text × Text)
builtin_types =
    (codes "v", codes "void") ∷ (codes "w", codes "wchar_t") ∷ (codes "b", codes "bool")
    ∷ (codes "c", codes "char") ∷ (codes "a", codes "signed char")
    ∷ (codes "h", codes "unsigned char") ∷ (codes "s", codes "short")
    ∷ (codes "t", codes "unsigned short") ∷ (codes "i", codes "int")
    ∷ (codes "j", codes "unsigned int") ∷ (codes "l", codes "long")
    ∷ (codes "m", codes "unsigned long") ∷ (codes "x", codes "long long")
    ∷ (codes "y", codes "unsigned long long") ∷ (codes "n", codes "__int128")
    ∷ (codes "o", codes "unsigned __int128") ∷ (codes "f", codes "float")
    ∷ (codes "d", codes "double") ∷ (codes "e", codes "long double")
    ∷ (codes "g", codes "__float128") ∷ (codes "z", codes "...")
    ∷ (codes "Dd", codes "decimal64") ∷ (codes "De", codes "decimal128")
    ∷ (codes "Df", codes "decimal32") ∷ (codes "Dh", codes "half")
    ∷ (codes "Di", codes "char32_t") ∷ (codes "Ds", codes "char16_t")
    ∷ (codes "Du", codes "char8_t") ∷ (codes "Da", codes "auto")
    ∷ (codes "Dc", codes "decltype(auto)") ∷ (codes "Dn", codes "std::nullptr_t")
    ∷ (codes "DF16b", codes "std::bfloat16_t") ∷ []

-- <operator-name>: what stands behind `operator`
abbrev pub operators : List (Text × Text)
operators =
    (codes "nw", codes " new") ∷ (codes "na", codes " new[]") ∷ (codes "dl", codes " delete")
    ∷ (codes "da", codes " delete[]") ∷ (codes "aw", codes " co_await") ∷ (codes "ps", codes "+")
    ∷ (codes "ng", codes "-") ∷ (codes "ad", codes "&") ∷ (codes "de", codes "*")
    ∷ (codes "co", codes "~") ∷ (codes "pl", codes "+") ∷ (codes "mi", codes "-")
    ∷ (codes "ml", codes "*") ∷ (codes "dv", codes "/") ∷ (codes "rm", codes "%")
    ∷ (codes "an", codes "&") ∷ (codes "or", codes "|") ∷ (codes "eo", codes "^")
    ∷ (codes "aS", codes "=") ∷ (codes "pL", codes "+=") ∷ (codes "mI", codes "-=")
    ∷ (codes "mL", codes "*=") ∷ (codes "dV", codes "/=") ∷ (codes "rM", codes "%=")
    ∷ (codes "aN", codes "&=") ∷ (codes "oR", codes "|=") ∷ (codes "eO", codes "^=")
    ∷ (codes "ls", codes "<<") ∷ (codes "rs", codes ">>") ∷ (codes "lS", codes "<<=")
    ∷ (codes "rS", codes ">>=") ∷ (codes "eq", codes "==") ∷ (codes "ne", codes "!=")
    ∷ (codes "lt", codes "<") ∷ (codes "gt", codes ">") ∷ (codes "le", codes "<=")
    ∷ (codes "ge", codes ">=") ∷ (codes "ss", codes "<=>") ∷ (codes "nt", codes "!")
    ∷ (codes "aa", codes "&&") ∷ (codes "oo", codes "||") ∷ (codes "pp", codes "++")
    ∷ (codes "mm", codes "--") ∷ (codes "cm", codes ",") ∷ (codes "pm", codes "->*")
    ∷ (codes "pt", codes "->") ∷ (codes "cl", codes "()") ∷ (codes "cp", codes "()")
    ∷ (codes "ix", codes "[]") ∷ (codes "qu", codes "?") ∷ []

-- a name of `std`, the name of its constructors, and its arguments
abbrev pub standard : Text → Text → Text → Abbreviation
standard name class arguments = record { name = name; class = class; arguments = arguments }

-- the arguments of streams, and those of strings
abbrev pub stream_arguments : Text
stream_arguments = codes "<char, std::char_traits<char>>"

abbrev pub string_arguments : Text
string_arguments = codes "<char, std::char_traits<char>, std::allocator<char>>"

-- <substitution>: what stands behind its `S`, without the `t` of `std` itself
abbrev pub abbreviations : List (Text × Abbreviation)
abbreviations =
    (codes "a", standard (codes "allocator") (codes "allocator") [])
    ∷ (codes "b", standard (codes "basic_string") (codes "basic_string") [])
    ∷ (codes "s", standard (codes "string") (codes "basic_string") string_arguments)
    ∷ (codes "i", standard (codes "istream") (codes "basic_istream") stream_arguments)
    ∷ (codes "o", standard (codes "ostream") (codes "basic_ostream") stream_arguments)
    ∷ (codes "d", standard (codes "iostream") (codes "basic_iostream") stream_arguments) ∷ []

-- <expr-primary>: what stands before the number of a literal of a builtin type, and behind it
abbrev pub literal_types : List (Text × (Text × Text))
literal_types =
    (codes "i", ([], [])) ∷ (codes "j", ([], codes "u")) ∷ (codes "l", ([], codes "l"))
    ∷ (codes "m", ([], codes "ul")) ∷ (codes "x", ([], codes "ll"))
    ∷ (codes "y", ([], codes "ull")) ∷ (codes "w", (codes "(wchar_t)", []))
    ∷ (codes "c", (codes "(char)", [])) ∷ (codes "a", (codes "(signed char)", []))
    ∷ (codes "h", (codes "(unsigned char)", [])) ∷ (codes "s", (codes "(short)", []))
    ∷ (codes "t", (codes "(unsigned short)", [])) ∷ (codes "n", (codes "(__int128)", []))
    ∷ (codes "o", (codes "(unsigned __int128)", [])) ∷ []

-- <special-name>: what is made for a type, and for an entity
abbrev pub special_types : List (Text × Text)
special_types =
    (codes "TV", codes "vtable for ") ∷ (codes "TT", codes "VTT for ")
    ∷ (codes "TI", codes "typeinfo for ") ∷ (codes "TS", codes "typeinfo name for ") ∷ []

abbrev pub special_entities : List (Text × Text)
special_entities =
    (codes "GV", codes "guard variable for ")
    ∷ (codes "TW", codes "thread-local wrapper routine for ")
    ∷ (codes "TH", codes "thread-local initialization routine for ") ∷ []

-- <ref-qualifier> of a nested name, and the end of a function type with the one before it
abbrev pub ref_qualifiers : List (Text × Text)
ref_qualifiers = (codes "R", codes " &") ∷ (codes "O", codes " &&") ∷ []

abbrev pub function_ends : List (Text × Text)
function_ends = (codes "E", []) ∷ (codes "RE", codes " &") ∷ (codes "OE", codes " &&") ∷ []

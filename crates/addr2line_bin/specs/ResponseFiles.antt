-- Words that files have in place of words of the command line (response files).
-- Own: after word 0 a word `@PATH` stands for the words of the file at PATH, as for GNU's and LLVM's
-- programs. Where no file of UTF-8 is there the word stays. A word that comes of a file stays,
-- whatever it begins with.
-- Own: white space parts the words of a file. Between two marks, single or double, it is part of a
-- word, and a backslash makes the next character part of a word, whatever it is. The end of the file
-- ends an open mark, and a backslash before it counts for nothing.
use Rattle.std.specs.Prelude.{◌==◌, ◌||◌, ℕ, Bool, true, false, List, [], ◌∷◌, ◌++◌, Option, Some, None, codes, drop, encode_utf8, flat_map, fold, if◌then◌else◌, nat_eq, option_and_then}
use Rattle.std.specs.List.{list_any, starts_with}
use Rattle.std.specs.Option.{option_map_or}
use Rattle.std.specs.Str.{byte, chars, is_utf8}
use Rattle.addr2line.specs.Files.{Files}
use Rattle.addr2line_bin.specs.Common.{Text}

-- what is read of a text: its words, what is read of the word that has begun, if one has, the mark
-- that is open, if one is, and whether the last character makes the next part of a word
pub record Splitting : Type 0 where
  pub words : List Text
  pub word : Text
  pub is_begun : Bool
  pub quote : Option ℕ
  pub is_escaped : Bool

-- nothing is read
abbrev pub nothing_read : Splitting
nothing_read = record {
  words = [];
  word = [];
  is_begun = false;
  quote = None;
  is_escaped = false;
}

-- whether a character opens or closes what is quoted
abbrev pub is_quote : ℕ → Bool
is_quote c = c == byte "'" || c == byte "\""

-- whether a character is white space: a space, a tab, or one of the four that end a line or page
abbrev pub is_space : ℕ → Bool
is_space c = c == 32 || c == 9 || c == 10 || c == 11 || c == 12 || c == 13

-- a character is part of a word
abbrev pub with_character : Splitting → ℕ → Splitting
with_character s c =
    record s { word = s.word ++ encode_utf8 c; is_begun = true; is_escaped = false }

-- the word that has begun ends
abbrev pub with_end : Splitting → Splitting
with_end s = if s.is_begun
    then record s { words = s.words ++ (s.word ∷ []); word = []; is_begun = false } else s

-- a character where nothing is quoted
abbrev pub with_plain : Splitting → ℕ → Splitting
with_plain s c = if is_quote c then record s { quote = Some c; is_begun = true }
    else (if is_space c then with_end s else with_character s c)

-- a character, by the mark that is open, if one is
abbrev pub with_marked : Option ℕ → Splitting → ℕ → Splitting
with_marked None s c = with_plain s c
with_marked (Some mark) s c = if c == mark then record s { quote = None } else with_character s c

-- the next character
abbrev pub with_next : Splitting → ℕ → Splitting
with_next s c = if s.is_escaped then with_character s c
    else (if c == byte "\\" then record s { is_begun = true; is_escaped = true }
    else with_marked s.quote s c)

-- the words of a text
abbrev pub words_in : Text → List Text
words_in text = (with_end (fold with_next nothing_read (chars text))).words

-- the path that a word names as such a file, if it does
abbrev pub response_path : Text → Option Text
response_path word = if starts_with nat_eq word (codes "@") then Some (drop 1 word) else None

-- the bytes, if they are UTF-8
abbrev pub text_in : List ℕ → Option Text
text_in bytes = if is_utf8 bytes then Some bytes else None

-- the words that a word stands for
abbrev pub words_for : Files → Text → List Text
words_for held word = option_map_or words_in
    (option_and_then text_in (option_and_then held (response_path word))) (word ∷ [])

-- words after word 0, with those that they stand for in their place
abbrev pub expanded : Files → List Text → List Text
expanded held [] = []
expanded held (name ∷ words) = name ∷ flat_map (words_for held) words

-- whether a word names such a file
abbrev pub is_response : Text → Bool
is_response word = option_map_or (λ path. true) (response_path word) false

-- whether a word after word 0 does
abbrev pub has_response : List Text → Bool
has_response [] = false
has_response (name ∷ words) = list_any is_response words

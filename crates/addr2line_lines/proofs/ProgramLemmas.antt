-- The lines of a program, of its rows and its files (on specs/UnitLines.antt).
use Rattle.addr2line_lines.proofs.Common.{◌≡◌, ℕ, ◌++◌, List, [], ◌∷◌, Option, Some, None, Result, Ok, Err, sym, ap, ◌∙◌, Error, ◌>>=◌, result_map, File, LineRow, Header, Program, Sections, UnitRecord, read_all, Sequence, sequences_of}
use Rattle.gimli_line.specs.Lines.{Lines, YieldsUnlessOom, lines_of}
use Rattle.addr2line_lines.specs.Location.{LineTable, line_table_of}
use Rattle.addr2line_lines.specs.FileTexts.{file_texts}
use Rattle.addr2line_lines.specs.UnitLines.{IsFaultAtOnce, program_lines}

-- files and sequences
abbrev table_with : List (List ℕ) → List Sequence → LineTable
table_with files sequences = record { files = files; sequences = sequences }

-- rows and files together
abbrev joined : Result (List LineRow) Error → Result (List (List ℕ)) Error → Result LineTable Error
joined rows files = rows >>= λ rs. files >>= λ fs. Ok (line_table_of fs rs)

rows_fault : (rows : Result (List LineRow) Error) (files : Result (List (List ℕ)) Error) (e : Error) → result_map sequences_of rows ≡ Err e → joined rows files ≡ Err e
rows_fault (Ok rs) files e h = cc
rows_fault (Err f) files e h = let same : f ≡ e = cc in ap Err same

texts_fault : (rows : Result (List LineRow) Error) (files : Result (List (List ℕ)) Error) (ss : List Sequence) (e : Error) → result_map sequences_of rows ≡ Ok ss → files ≡ Err e → joined rows files ≡ Err e
texts_fault (Ok rs) files ss e h k = ap (λ f. f >>= λ fs. Ok (line_table_of fs rs)) k
texts_fault (Err f) files ss e h k = cc

both_made : (rows : Result (List LineRow) Error) (files : Result (List (List ℕ)) Error) (ss : List Sequence) (ts : List (List ℕ)) → result_map sequences_of rows ≡ Ok ss → files ≡ Ok ts → joined rows files ≡ Ok (table_with ts ss)
both_made (Ok rs) files ss ts h k = let same : sequences_of rs ≡ ss = cc in ap (λ f. f >>= λ fs. Ok (line_table_of fs rs)) k ∙ ap (λ xs. Ok (table_with ts xs)) same
both_made (Err f) files ss ts h k = cc

value_of : (a b : Lines) → ◌≡◌ {A = Result Lines Error} (Ok a) (Ok b) → a ≡ b
value_of a b e = cc

module _ (d : Sections) (u : UnitRecord) (p : Program) (rows : Lines) (given : ◌≡◌ {A = Result Lines Error} (Ok (lines_of p)) (Ok rows)) where
  same_left : read_all rows.left ≡ read_all (lines_of p).left
  same_left = ap (λ (l : Lines). read_all l.left) (sym (value_of (lines_of p) rows given))

  pub program_rows_fault : (e : Error) → result_map sequences_of (read_all rows.left) ≡ Err e → program_lines d u p ≡ Err e
  unfolding program_lines
  program_rows_fault e h = rows_fault (read_all (lines_of p).left) _ e (ap (result_map sequences_of) (sym same_left) ∙ h)

  -- a fault that comes before anything else is the answer of the program too
  pub refused_at_once : {X Y : Type 0} (x : Error) → IsFaultAtOnce {X = X} rows (Err x) → IsFaultAtOnce {X = Y} (lines_of p) (Err x)
  refused_at_once {X} {Y} x h e ahead left =
      let same = value_of (lines_of p) rows given in
      let is : ◌≡◌ {A = Result X Error} (Err x) (Err e) = h e (ap (λ (l : Lines). l.ahead) (sym same) ∙ ahead) (ap (λ (l : Lines). l.left) (sym same) ∙ left) in
      let fault : x ≡ e = cc in
      ap Err fault

  -- where the rows are read there is no such fault
  pub read_at_once : {X Y : Type 0} (v : X) (r : Result Y Error) → IsFaultAtOnce {X = X} rows (Ok v) → IsFaultAtOnce {X = Y} (lines_of p) r
  read_at_once {X} {Y} v r h e ahead left =
      let same = value_of (lines_of p) rows given in
      let is : ◌≡◌ {A = Result X Error} (Ok v) (Err e) = h e (ap (λ (l : Lines). l.ahead) (sym same) ∙ ahead) (ap (λ (l : Lines). l.left) (sym same) ∙ left) in
      absurd cc

  module _ (ss : List Sequence) (h : result_map sequences_of (read_all rows.left) ≡ Ok ss) (header : Header) (its : header ≡ p.header) (files : List (File)) (is : files ≡ rows.header.file_names ++ rows.to_define) where
    same_files : file_texts d u header files ≡ file_texts d u p.header (p.header.file_names ++ (lines_of p).to_define)
    same_files = ap (λ x. file_texts d u x files) its ∙ ap (file_texts d u p.header) (is ∙ ap (λ (l : Lines). l.header.file_names ++ l.to_define) (sym (value_of (lines_of p) rows given)))

    pub program_files_fault : (e : Error) → file_texts d u header files ≡ Err e → program_lines d u p ≡ Err e
    unfolding program_lines
    program_files_fault e k = texts_fault (read_all (lines_of p).left) _ ss e (ap (result_map sequences_of) (sym same_left) ∙ h) (sym same_files ∙ k)

    pub program_made : (ts : List (List ℕ)) → file_texts d u header files ≡ Ok ts → program_lines d u p ≡ Ok (table_with ts ss)
    unfolding program_lines
    program_made ts k = both_made (read_all (lines_of p).left) _ ss ts (ap (result_map sequences_of) (sym same_left) ∙ h) (sym same_files ∙ k)

-- a fault before the first row, and before any file, is the answer
pub fault_at_once : {X : Type 0} (start now : Lines) (e f : Error) → now ≡ start → (now.ahead ≡ [] → now.left ≡ Err f ∷ []) → start.ahead ≡ [] → start.left ≡ Err e ∷ [] → ◌≡◌ {A = Result X Error} (Err f) (Err e)
fault_at_once {X} start now e f same gave ahead left =
    let found : now.left ≡ Err f ∷ [] = gave (ap (λ (l : Lines). l.ahead) same ∙ ahead) in
    let given : now.left ≡ Err e ∷ [] = ap (λ (l : Lines). l.left) same ∙ left in
    let is : ◌≡◌ {A = List (Result LineRow Error)} (Err f ∷ []) (Err e ∷ []) = sym found ∙ given in
    let fault : f ≡ e = cc in
    ap Err fault

-- where such a fault comes nothing else is given
pub never_at_once : (start now : Lines) (e : Error) (r : Option LineRow) (rest : List (Result LineRow Error)) → now ≡ start → start.left ≡ Err e ∷ [] → YieldsUnlessOom now.left (Ok r) rest → ⊥
never_at_once start now e None rest same left gave =
    let given : now.left ≡ Err e ∷ [] = ap (λ (l : Lines). l.left) same ∙ left in
    let none : now.left ≡ [] = gave.0 in
    cc
never_at_once start now e (Some x) rest same left gave =
    let given : now.left ≡ Err e ∷ [] = ap (λ (l : Lines). l.left) same ∙ left in
    let some : now.left ≡ Ok x ∷ rest = gave in
    cc

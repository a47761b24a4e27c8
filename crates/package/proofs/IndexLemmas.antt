-- The tables of an index, by the places where their numbers stand (on specs/Index.antt).
use Rattle.package.proofs.Common.{◌≡◌, ◌∙◌, ℕ, ◌+◌, ◌*◌, ◌<◌, List, [], length, ap, sym, arith, slice_index, get_or-map-range_with_len, length-map-range_with_len, Section, Index, IndexHeader, INDEX_HEADER_SIZE, columns_place, index_by_header, number_from, numbers_from, offsets_place, number_rows_from, rows_place, sizes_place, cell_of}

-- a table has as many numbers as it is to have
numbers-length : (width count place : ℕ) (s : Section) → length (numbers_from width count place s) ≡ count
numbers-length width count place s = length-map-range_with_len (λ (n : ℕ). number_from width (place + width * n) s) 0 count

-- and this is each of them
number_of_table : (width count place n : ℕ) (s : Section) → n < count → slice_index (numbers_from width count place s) n ≡ number_from width (place + width * n) s
number_of_table width count place n s l = get_or-map-range_with_len (λ (k : ℕ). number_from width (place + width * k) s) 0 count n n 0 l (omega arith)

-- the same of a table of rows
rows-length : (rows columns place : ℕ) (s : Section) → length (number_rows_from rows columns place s) ≡ rows
rows-length rows columns place s = length-map-range_with_len (λ (row : ℕ). numbers_from 4 columns (place + 4 * (row * columns)) s) 0 rows

cell_of_table : (rows columns place row column : ℕ) (s : Section) → row < rows → column < columns → cell_of (number_rows_from rows columns place s) row column ≡ number_from 4 (place + 4 * (row * columns) + 4 * column) s
cell_of_table rows columns place row column s l k =
    ap (λ (numbers : List ℕ). slice_index numbers column) (get_or-map-range_with_len (λ (n : ℕ). numbers_from 4 columns (place + 4 * (n * columns)) s) 0 rows row row [] l (omega arith))
    ∙ number_of_table 4 columns (place + 4 * (row * columns)) column s k

-- a table that an index has: so many numbers of a width, from a place on
pub record HasTable (see : Index → List ℕ) (x : Index) (width count place : ℕ) (s : Section) : Type 0 where
  pub is : see x ≡ numbers_from width count place s

-- the same of rows of numbers
pub record HasRows (see : Index → List (List ℕ)) (x : Index) (rows columns place : ℕ) (s : Section) : Type 0 where
  pub is : see x ≡ number_rows_from rows columns place s

pub table-length : {see : Index → List ℕ} {x : Index} {width count place : ℕ} {s : Section} → HasTable see x width count place s → length (see x) ≡ count
table-length {see} {x} {width} {count} {place} {s} t = ap length t.is ∙ numbers-length width count place s

pub table_read : {see : Index → List ℕ} {x : Index} {width count place : ℕ} {s : Section} → HasTable see x width count place s → (n at number : ℕ) → number ≡ number_from width at s → at ≡ place + width * n → n < count → number ≡ slice_index (see x) n
table_read {see} {x} {width} {count} {place} {s} t n at number given is l =
    given ∙ ap (λ (p : ℕ). number_from width p s) is ∙ sym (number_of_table width count place n s l) ∙ ap (λ (numbers : List ℕ). slice_index numbers n) (sym t.is)

pub rows_count : {see : Index → List (List ℕ)} {x : Index} {rows columns place : ℕ} {s : Section} → HasRows see x rows columns place s → length (see x) ≡ rows
rows_count {see} {x} {rows} {columns} {place} {s} t = ap length t.is ∙ rows-length rows columns place s

pub cell_read : {see : Index → List (List ℕ)} {x : Index} {rows columns place : ℕ} {s : Section} → HasRows see x rows columns place s → (row column at number : ℕ) → number ≡ number_from 4 at s → at ≡ place + 4 * (row * columns) + 4 * column → row < rows → column < columns → number ≡ cell_of (see x) row column
cell_read {see} {x} {rows} {columns} {place} {s} t row column at number given is l k =
    given ∙ ap (λ (p : ℕ). number_from 4 p s) is ∙ sym (cell_of_table rows columns place row column s l k) ∙ ap (λ (table : List (List ℕ)). cell_of table row column) (sym t.is)

-- the tables that the index of a header has
module _ (h : IndexHeader) (s : Section) (x : Index) (made : index_by_header h s ≡ x) where
  pub ids_table : HasTable (λ i. i.ids) x 8 h.slot_count INDEX_HEADER_SIZE s
  unfolding index_by_header
  ids_table = record { is = ap (λ (i : Index). i.ids) (sym made) }

  pub rows_table : HasTable (λ i. i.rows) x 4 h.slot_count (rows_place h) s
  unfolding index_by_header
  rows_table = record { is = ap (λ (i : Index). i.rows) (sym made) }

  pub columns_table : HasTable (λ i. i.columns) x 4 h.section_count (columns_place h) s
  unfolding index_by_header
  columns_table = record { is = ap (λ (i : Index). i.columns) (sym made) }

  pub offsets_table : HasRows (λ i. i.offsets) x h.unit_count h.section_count (offsets_place h) s
  unfolding index_by_header
  offsets_table = record { is = ap (λ (i : Index). i.offsets) (sym made) }

  pub sizes_table : HasRows (λ i. i.sizes) x h.unit_count h.section_count (sizes_place h) s
  unfolding index_by_header
  sizes_table = record { is = ap (λ (i : Index). i.sizes) (sym made) }

  pub version_is : h.version ≡ x.version
  unfolding index_by_header
  version_is = ap (λ (i : Index). i.version) made

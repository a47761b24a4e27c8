-- No reading of a unit's lines, functions or details gives OutOfMemory (on specs/UnitLines.antt, Functions, Details and those that they stand on).
use Rattle.addr2line_lines.proofs.Common.{ℕ, zero, suc, ◌==◌, ◌&&◌, Bool, true, false, cond, List, [], ◌∷◌, map, Option, Some, None, IfOk, Result, Ok, Err, DW_AT_low_pc, DW_AT_high_pc, DW_AT_ranges, DW_AT_name, Error, NoEntryAtGivenOffset, Range, AttributeValue, Abbrev, Specification, NamedValue, ◌>>=◌, Run, Section, File, Header, Program, Entry, Item, items_of, items_at, subtree_of, ranges_at, Sections, UnitRecord, RangeAttributes, read_all, attr_address, no_range_attributes, with_range_attribute, range_attributes_of, ranges_of, all_ranges, attribute_ranges, FunctionRange, is_subprogram, entry_ranges, with_function, functions_of, FileRecord, EntryPlace, Scope, unit_at, entry_in, sup_scope, entry_in_sup, referred, is_linkage_name, is_origin, NameOrOrigin, no_name, with_name_or_origin, linkage_name_of, named_at, entry_specifications, visited, most_visited, name_within, referred_name, or_referred_name, with_name, name_of, InlinedAttributes, InlinedRange, no_inlined_attributes, is_inlined, with_inlined_attribute, inlined_attributes_of, PlacedItem, placed_items, is_in_function, with_inlined, with_inlined_entry, inlined_in, WholeEntry, first_whole, whole_entry_at, detail_at}
use Rattle.gimli_read.specs.declared.value.AttributeValue.TheVariants as values
use Rattle.gimli_read.specs.Version.{is_before_5}
use Rattle.gimli_read.proofs.FaultLemmas.{IsByBytes, AreByBytes, step, either, value, fault, moved_fault, result_map_is, fold_run_is, fold_of_is, attribute_is}
use Rattle.gimli_line.specs.Lines.{lines_of}
use Rattle.gimli_line.proofs.FaultLemmas.{rows_of_are}
use Rattle.gimli.proofs.FaultLemmas.{attr_string_is, indexed_number_is, ranges_offset_is, ranges_are, list_items_are, entry_bytes_is, entry_code_is, items_of_end, items_at_end, subtree_end, taken_in_is}
use Rattle.addr2line_lines.specs.FileTexts.{optional_string, file_directory, text_of_file, texts_of, file_texts}
use Rattle.addr2line_lines.specs.UnitLines.{program_lines, lines_in, unit_lines}
use Rattle.addr2line_lines.specs.FunctionDetails.{details_at}
use Rattle.addr2line_lines.specs.ItemsAround.{items_inside_at}

-- ---- choices and lists
by_option : {A B : Type 0} (o : Option A) {r : Result B Error} {f : A → Result B Error} → IsByBytes r → ((x : A) → IsByBytes (f x)) → IsByBytes (elim o [ None ↦ r | Some x ↦ f x ])
by_option None h k = h
by_option (Some x) h k = k x

pub read_all_is : {X : Type 0} (rows : List (Result X Error)) → AreByBytes rows → IsByBytes (read_all rows)
read_all_is [] h = value
read_all_is (Ok x ∷ rest) h = result_map_is (λ xs. x ∷ xs) (read_all rest) (read_all_is rest h.1)
read_all_is (Err e ∷ rest) h = moved_fault h.0

pub values_are : {X : Type 0} (xs : List X) → AreByBytes (map Ok xs)
values_are [] = tt
values_are (x ∷ xs) = (value, values_are xs)

-- ---- the texts of files, and lines
pub optional_string_is : (d : Sections) (u : UnitRecord) (v : Option (AttributeValue Section)) → IsByBytes (optional_string d u v)
optional_string_is d u None = value
optional_string_is d u (Some v) = step (attr_string_is d u v) (λ text. value)

text_of_file_is : (d : Sections) (u : UnitRecord) (h : Header) (f : File) → IsByBytes (text_of_file d u h f)
unfolding text_of_file
text_of_file_is d u h f = step (optional_string_is d u (file_directory h f)) (λ directory. step (attr_string_is d u f.path_name) (λ path. value))

texts_are : (d : Sections) (u : UnitRecord) (h : Header) (files : List File) → IsByBytes (texts_of d u h files)
unfolding texts_of
texts_are d u h [] = value
texts_are d u h (f ∷ files) = step (text_of_file_is d u h f) (λ text. step (texts_are d u h files) (λ more. value))

pub file_texts_are : (d : Sections) (u : UnitRecord) (h : Header) (files : List File) → IsByBytes (file_texts d u h files)
file_texts_are d u h files =
    either (is_before_5 h.encoding.version) (step (texts_are d u h files) (λ more. value)) (step (texts_are d u h files) (λ texts. value))

pub program_lines_are : (d : Sections) (u : UnitRecord) (p : Program) → IsByBytes (program_lines d u p)
unfolding program_lines
program_lines_are d u p = step (read_all_is (lines_of p).left (rows_of_are p)) (λ rows. step (file_texts_are d u p.header _) (λ files. value))

lines_in_are : (d : Sections) (u : UnitRecord) (p : Option Program) → IsByBytes (lines_in d u p)
lines_in_are d u None = value
lines_in_are d u (Some p) = program_lines_are d u p

pub unit_lines_are : (d : Sections) (u : UnitRecord) → IsByBytes (unit_lines d u)
unit_lines_are d u = lines_in_are d u u.line_program

-- ---- ranges and functions
attr_address_is : (d : Sections) (u : UnitRecord) (v : AttributeValue Section) → IsByBytes (attr_address d u v)
attr_address_is d u (values.Addr a) = value
attr_address_is d u (values.DebugAddrIndex i) = step (indexed_number_is u.header.encoding.address_size u.addr_base i d.debug_addr) (λ a. value)
attr_address_is d u _ = value

pub with_range_attribute_is : (d : Sections) (u : UnitRecord) (r : RangeAttributes) (a : NamedValue) → IsByBytes (with_range_attribute d u r a)
unfolding with_range_attribute
with_range_attribute_is d u r a =
    either (a.name.0 == DW_AT_low_pc.0) (step (attr_address_is d u a.value) (λ low. value))
    (either (a.name.0 == DW_AT_high_pc.0) (step (attr_address_is d u a.value) (λ high. value))
    (either (a.name.0 == DW_AT_ranges.0) (step (ranges_offset_is d u a.value) (λ offset. value)) value))

pub range_attributes_are : (d : Sections) (u : UnitRecord) (attributes : List NamedValue) → IsByBytes (range_attributes_of d u attributes)
range_attributes_are d u attributes =
    taken_in_is (with_range_attribute d u) (with_range_attribute_is d u) no_range_attributes attributes

-- all ranges of a list, or its first fault
all_ranges_are : (list : Result (List (Result Range Error)) Error) → IsByBytes list → IfOk list (λ ranges. AreByBytes ranges) → IsByBytes (all_ranges list)
all_ranges_are (Ok ranges) h each = read_all_is ranges each
all_ranges_are (Err e) h each = moved_fault h

pub attribute_ranges_are : (d : Sections) (u : UnitRecord) (r : RangeAttributes) → IsByBytes (attribute_ranges d u r)
attribute_ranges_are d u r = by_offset r.ranges_offset
  where
    by_offset : (o : Option ℕ) → IsByBytes (all_ranges (elim o [ None ↦ Ok (map Ok (ranges_of r)) | Some offset ↦ ranges_at d u offset ]))
    by_offset None = read_all_is (map Ok (ranges_of r)) (values_are (ranges_of r))
    by_offset (Some offset) = all_ranges_are (ranges_at d u offset) (ranges_are d u offset) (list_items_are d u offset)

entry_ranges_are : (d : Sections) (u : UnitRecord) (e : Entry) → IsByBytes (entry_ranges d u e)
entry_ranges_are d u e = step (range_attributes_are d u e.attributes) (λ r. attribute_ranges_are d u r)

with_function_is : (d : Sections) (u : UnitRecord) (found : List FunctionRange) (x : Item) → IsByBytes (with_function d u found x)
with_function_is d u found x =
    by_option x.entry value (λ e. either (is_subprogram e.abbreviation) (step (entry_ranges_are d u e) (λ ranges. value)) value)

pub functions_are : (d : Sections) (u : UnitRecord) → IsByBytes (functions_of d u)
functions_are d u = step (fold_of_is (with_function d u) (with_function_is d u) [] (items_of u) (items_of_end u)) (λ found. value)

-- ---- references and names
entry_in_is : (scope : Scope) (offset : ℕ) → IsByBytes (entry_in scope offset)
entry_in_is scope offset = by_option (unit_at offset scope.file.units) (fault (NoEntryAtGivenOffset offset) (λ p. cc)) (λ x. value)

entry_in_sup_is : (sup : Option FileRecord) (offset : ℕ) → IsByBytes (entry_in_sup sup offset)
entry_in_sup_is None offset = value
entry_in_sup_is (Some file) offset = entry_in_is (sup_scope file) offset

pub referred_is : (scope : Scope) (u : UnitRecord) (v : AttributeValue Section) → IsByBytes (referred scope u v)
referred_is scope u (values.UnitRef offset) = value
referred_is scope u (values.DebugInfoRef offset) = entry_in_is scope offset.0
referred_is scope u (values.DebugInfoRefSup offset) = entry_in_sup_is scope.sup offset.0
referred_is scope u _ = value

named_is : (scope : Scope) (u : UnitRecord) (xs : List Specification) (s : Section) (found : NameOrOrigin) → IsByBytes (named_at scope u xs s found)
unfolding named_at
named_is scope u [] s found = value
named_is scope u (x ∷ xs) s found =
    step (attribute_is u.header.encoding x s) (λ a.
    by_option (linkage_name_of scope u a.0) (named_is scope u xs a.1 (with_name_or_origin scope u found a.0)) (λ name. value))

specifications_are : (offset : ℕ) (a : Option Abbrev) → IsByBytes (entry_specifications offset a)
specifications_are offset None = fault (NoEntryAtGivenOffset offset) (λ p. cc)
specifications_are offset (Some a) = value

pub visited_is : (place : EntryPlace) → IsByBytes (visited place)
unfolding visited
visited_is place =
    step (entry_bytes_is place.unit.header (Some place.offset)) (λ left. step (entry_code_is place.unit.abbreviations left) (λ entry.
    step (specifications_are place.offset entry.0) (λ specifications. named_is place.scope place.unit specifications entry.1 no_name)))

name_within_is : (n : ℕ) (scope : Scope) (u : UnitRecord) (v : AttributeValue Section) → IsByBytes (name_within n scope u v)
unfolding name_within
name_within_is zero scope u v = value
name_within_is (suc n) scope u v =
    step (referred_is scope u v) (λ entry. by_option entry value (λ place. step (visited_is place) (λ found.
    by_option found.name (by_option found.origin value (λ next. name_within_is n place.scope place.unit next)) (λ name. value))))

pub referred_name_is : (scope : Scope) (u : UnitRecord) (v : AttributeValue Section) → IsByBytes (referred_name scope u v)
referred_name_is scope u v = name_within_is most_visited scope u v

or_referred_name_is : (scope : Scope) (u : UnitRecord) (name : Option Section) (v : AttributeValue Section) → IsByBytes (or_referred_name scope u name v)
or_referred_name_is scope u (Some name) v = value
or_referred_name_is scope u None v = referred_name_is scope u v

pub with_name_is : (scope : Scope) (u : UnitRecord) (name : Option Section) (a : NamedValue) → IsByBytes (with_name scope u name a)
unfolding with_name
with_name_is scope u name a =
    either (is_linkage_name a.name) value
    (either (a.name.0 == DW_AT_name.0) value
    (either (is_origin a.name) (or_referred_name_is scope u name a.value) value))

pub name_is : (scope : Scope) (u : UnitRecord) (attributes : List NamedValue) → IsByBytes (name_of scope u attributes)
name_is scope u attributes = taken_in_is (with_name scope u) (with_name_is scope u) None attributes

-- ---- inlined entries and details
with_inlined_attribute_is : (scope : Scope) (u : UnitRecord) (x : InlinedAttributes) (a : NamedValue) → IsByBytes (with_inlined_attribute scope u x a)
unfolding with_inlined_attribute
with_inlined_attribute_is scope u x a =
    step (with_range_attribute_is scope.file.sections u x.ranges a) (λ ranges. step (with_name_is scope u x.name a) (λ name. value))

pub inlined_attributes_are : (scope : Scope) (u : UnitRecord) (attributes : List NamedValue) → IsByBytes (inlined_attributes_of scope u attributes)
inlined_attributes_are scope u attributes =
    taken_in_is (with_inlined_attribute scope u) (with_inlined_attribute_is scope u) no_inlined_attributes attributes

with_inlined_is : (scope : Scope) (u : UnitRecord) (found : List InlinedRange) (x : PlacedItem) → IsByBytes (with_inlined scope u found x)
with_inlined_is scope u found x = by_entry x.item.entry
  where
    by_test : (e : Entry) (listed : Bool) → IsByBytes (cond listed (with_inlined_entry scope u found x e) (Ok found))
    by_test e true = step (inlined_attributes_are scope u e.attributes) (λ a. step (attribute_ranges_are scope.file.sections u a.ranges) (λ ranges. value))
    by_test e false = value

    by_entry : (o : Option Entry) → IsByBytes (with_inlined scope u found (record { item = record { offset = x.item.offset; depth = x.item.depth; entry = o }; around = x.around }))
    by_entry None = value
    by_entry (Some e) = by_test e (is_inlined e.abbreviation && is_in_function x)

pub inlined_in_is : (scope : Scope) (u : UnitRecord) (inside : Run Item (Unit {0})) → IsByBytes inside.end → IsByBytes (inlined_in scope u inside)
inlined_in_is scope u inside h =
    step (fold_run_is (with_inlined scope u) (with_inlined_is scope u) [] (placed_items [] inside.items) inside.end h) (λ found. value)

-- a whole entry, of which the items inside end by the bytes, and what follows it
after_first : {A : Type 0} {next : WholeEntry → Result A Error} → ((x : WholeEntry) → IsByBytes x.inside.end → IsByBytes (next x))
    → (offset : ℕ) (items : List Item) (end : Result Section Error) → IsByBytes end → IsByBytes (first_whole offset items end >>= next)
after_first each offset [] (Ok s) h = fault (NoEntryAtGivenOffset offset) (λ p. cc)
after_first each offset [] (Err e) h = moved_fault h
after_first {A} {next} each offset (x ∷ items) end h = by_entry x.entry
  where
    by_entry : (o : Option Entry) → IsByBytes ((elim o [
      | None ↦ Err (NoEntryAtGivenOffset offset)
      | Some e ↦ Ok (record {
        entry = e;
        inside = subtree_of x (record { items = items; end = end });
      })
    ]) >>= next)
    by_entry None = fault (NoEntryAtGivenOffset offset) (λ p. cc)
    by_entry (Some e) = each _ (subtree_end x (record { items = items; end = end }) h)

after_whole : {A : Type 0} {next : WholeEntry → Result A Error} → ((x : WholeEntry) → IsByBytes x.inside.end → IsByBytes (next x))
    → (u : UnitRecord) (offset : ℕ) → IsByBytes (whole_entry_at u offset >>= next)
after_whole each u offset = after_first each offset (items_at u offset).items (items_at u offset).end (items_at_end u offset)

pub items_inside_are : (u : UnitRecord) (offset : ℕ) → IsByBytes (items_inside_at u offset)
items_inside_are u offset = after_whole (λ x h. value) u offset

pub detail_is : (scope : Scope) (u : UnitRecord) (offset : ℕ) → IsByBytes (detail_at scope u offset)
unfolding detail_at
detail_is scope u offset =
    after_whole (λ x h. step (name_is scope u x.entry.attributes) (λ name. step (inlined_in_is scope u x.inside h) (λ inlined. value))) u offset

pub details_at_are : (scope : Scope) (u : UnitRecord) (offsets : List ℕ) → IsByBytes (details_at scope u offsets)
details_at_are scope u [] = value
details_at_are scope u (offset ∷ offsets) = step (detail_is scope u offset) (λ detail. details_at_are scope u offsets)

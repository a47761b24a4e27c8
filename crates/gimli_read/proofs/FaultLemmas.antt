-- No reading gives OutOfMemory, which a refused growth alone answers (on specs/Reading.antt and those that stand on it).
use Rattle.gimli_read.proofs.Common.{◌≡◌, ◌≢◌, ℕ, zero, suc, ◌+◌, ◌==◌, not, Bool, true, false, cond, List, [], ◌∷◌, ◌++◌, length, fold, Option, Some, None, is_some, Result, Ok, Err, nat_lt, ap, ℤ, ◌⊎◌, inl, inr, refl, position, AllByRecursion, DW_FORM_indirect, DW_FORM_implicit_const, Encoding, Format, Dwarf32, Dwarf64, Error, OutOfMemory, UnexpectedEof, BadLeb128, UnknownReservedLength, UnsupportedAddressSize, BadAbbreviation, UnknownForm, Section, Reading, ◌>>=◌, result_map, fault_of, mapped, refused_if, WasNotRefused, skipped_at, split_at, fixed_at, signed_byte_at, is_address_size, address_size_at, address_at, offset_at, ended_at, null_terminated_at, long_length_at, initial_length_at, fits_u64, fits_i64, cut_after, leb128_text, uleb128_value, sleb128_value, uleb128_in, sleb128_in, uleb128_at, sleb128_at, Run, Next, More, Stop, next_of, continued, run_within, run_of, collected, fold_run, fold_of, listed_with, listed, FormEncoding, Fixed, Address, Offset, AddressOrOffset, Unsigned, Signed, Block1, Block2, Block4, Block, Text, Empty, form_encoding_of, block_at, address_or_offset_at, encoded_at, Specification, Abbrev, with_code, rest_of, direct_at, form_within, form_at, value_at, implicit_of, named_value, attribute_at, attributes_at, total_bytes, constant_at, specified, is_null, has_null, specification_at, specifications_at, tells_children, declaration_head_at, declaration_at, head_and_pair_at, front_at, abbreviation_at, extended, table_within, table_at}
use Rattle.gimli_read.specs.declared.constants.TheConstants.{FIRST_RESERVED_LENGTH, LENGTH_ESCAPE, CLOSING_CODE}
use Rattle.gimli_read.specs.declared.constants.TheConstants.DwTag.{DW_TAG_null}
use Rattle.gimli_read.specs.declared.leb128.TheConstants.{MAX_LEB128_LEN}
use Rattle.gimli_read.specs.declared.abbrev.SizedRun.{SizedRun}
use Rattle.gimli_read.specs.declared.size.TotalSize.{TotalSize}
use Rattle.gimli_read.specs.Version.{is_2}
use Rattle.gimli_read.specs.Skip.{rest_after}
use Rattle.gimli_read.specs.SizedRuns.{runs_rest, rest_after_runs}
use Rattle.gimli_read.specs.FaultLaws.{NoneWasRefused}
use Rattle.gimli_read.specs.Yields.{next_given}

-- a value, or a fault that the bytes cause
pub record IsByBytes {A : Type 0} (r : Result A Error) : Type 0 where
  pub by : r ≢ Err OutOfMemory

-- whether a fault is that of memory
pub memory_or_not : (e : Error) → (e ≡ OutOfMemory) ⊎ (e ≢ OutOfMemory)
memory_or_not OutOfMemory = inl refl
memory_or_not _ = inr (λ h. absurd cc)

-- the same fault in place of another value
pub moved_fault : {A B : Type 0} {e : Error} → IsByBytes {A = A} (Err e) → IsByBytes {A = B} (Err e)
moved_fault {A} {e = e} h = record { by = λ p. h.by (let q : ◌≡◌ {A = Result A Error} (Err e) (Err OutOfMemory) = cc in q) }

-- ---- steps
pub step : {A B : Type 0} {r : Result A Error} {f : A → Result B Error} → IsByBytes r → ((x : A) → IsByBytes (f x)) → IsByBytes (r >>= f)
step {r = Ok x} h k = k x
step {r = Err e} h k = moved_fault h

pub either : {A : Type 0} (b : Bool) {r s : Result A Error} → IsByBytes r → IsByBytes s → IsByBytes (cond b r s)
either true h k = h
either false h k = k

pub value : {A : Type 0} {x : A} → IsByBytes (Ok x)
value = record { by = λ p. cc }

pub fault : {A : Type 0} (e : Error) → e ≢ OutOfMemory → IsByBytes {A = A} (Err e)
fault e h = record { by = λ p. h cc }

pub test : (b : Bool) (e : Error) → e ≢ OutOfMemory → IsByBytes (refused_if b e)
test true e h = fault e h
test false e h = value

-- the end of what there is
pub ends : {A : Type 0} → IsByBytes {A = A} (Err UnexpectedEof)
ends = fault UnexpectedEof (λ p. cc)

-- the same value made into another, or no value of it
pub mapped_is : {A B : Type 0} (make : A → B) {read : Reading A} → IsByBytes read → IsByBytes (mapped make read)
mapped_is make h = step h (λ x. value)

pub result_map_is : {A B : Type 0} (make : A → B) (given : Result A Error) → IsByBytes given → IsByBytes (result_map make given)
result_map_is make (Ok x) h = value
result_map_is make (Err e) h = moved_fault h

pub fault_of_is : {A : Type 0} {given : Result A Error} → IsByBytes given → IsByBytes (fault_of given)
fault_of_is h = step h (λ x. value)

-- what is by bytes was not refused
pub not_refused : {A : Type 0} {r : Result A Error} → IsByBytes r → WasNotRefused r
not_refused {r = Ok x} h = tt
not_refused {r = Err e} h = λ p. h.by (ap (λ d. Err d) p)

-- and the other way round
pub by_bytes : {A : Type 0} (r : Result A Error) → WasNotRefused r → IsByBytes r
by_bytes (Ok x) h = value
by_bytes (Err e) h = fault e h

-- a list of answers without OutOfMemory
abbrev pub AreByBytes : {A : Type 0} → List (Result A Error) → Type 0
AreByBytes rs = AllByRecursion (λ r. IsByBytes r) rs

pub none_refused : {A : Type 0} (rs : List (Result A Error)) → AreByBytes rs → NoneWasRefused rs
none_refused [] h = tt
none_refused (r ∷ rs) h = (not_refused h.0, none_refused rs h.1)

pub are_joined : {A : Type 0} (rs ss : List (Result A Error)) → AreByBytes rs → AreByBytes ss → AreByBytes (rs ++ ss)
are_joined [] ss h k = k
are_joined (r ∷ rs) ss h k = (h.0, are_joined rs ss h.1 k)

-- the first of them, or the fault in its place
pub next_given_is : {X : Type 0} (rs : List (Result X Error)) → AreByBytes rs → IsByBytes (next_given rs)
next_given_is [] h = value
next_given_is (Ok x ∷ rs) h = value
next_given_is (Err e ∷ rs) h = moved_fault h.0

-- ---- numbers
pub skipped_is : (n : ℕ) (s : Section) → IsByBytes (skipped_at n s)
skipped_is n s = either (nat_lt (length s.bytes) n) ends value

pub split_is : (n : ℕ) (s : Section) → IsByBytes (split_at n s)
split_is n s = either (nat_lt (length s.bytes) n) ends value

pub fixed_is : (n : ℕ) (s : Section) → IsByBytes (fixed_at n s)
fixed_is n s = either (nat_lt (length s.bytes) n) ends value

pub signed_byte_is : (s : Section) → IsByBytes (signed_byte_at s)
signed_byte_is s = either (nat_lt (length s.bytes) 1) ends value

pub address_size_is : (s : Section) → IsByBytes (address_size_at s)
unfolding address_size_at
address_size_is s = step (fixed_is 1 s) (λ size. step (test (not (is_address_size size.0)) UnsupportedAddressSize (λ p. cc)) (λ u. value))

pub address_is : (size : ℕ) (s : Section) → IsByBytes (address_at size s)
address_is size s = either (is_address_size size) (fixed_is size s) (fault UnsupportedAddressSize (λ p. cc))

pub offset_is : (format : Format) (s : Section) → IsByBytes (offset_at format s)
offset_is Dwarf32 s = fixed_is 4 s
offset_is Dwarf64 s = fixed_is 8 s

pub ended_is : (s : Section) (o : Option ℕ) → IsByBytes (ended_at s o)
ended_is s None = ends
ended_is s (Some n) = value

pub null_terminated_is : (s : Section) → IsByBytes (null_terminated_at s)
null_terminated_is s = ended_is s (position (λ b. b == 0) s.bytes)

pub long_length_is : (s : Section) → IsByBytes (long_length_at s)
unfolding long_length_at
long_length_is s = step (fixed_is 8 s) (λ x. value)

pub initial_length_is : (s : Section) → IsByBytes (initial_length_at s)
unfolding initial_length_at
initial_length_is s =
    step (fixed_is 4 s) (λ x.
    either (nat_lt x.0 FIRST_RESERVED_LENGTH) value
    (either (nat_lt x.0 LENGTH_ESCAPE) (fault UnknownReservedLength (λ p. cc)) (long_length_is x.1)))

-- ---- LEB128
pub cut_is : (bytes : List ℕ) (o : Option ℕ) → IsByBytes (cut_after bytes o)
cut_is bytes (Some n) = value
cut_is bytes None = at (nat_lt (length bytes) MAX_LEB128_LEN)
  where
    at : (b : Bool) → IsByBytes {A = List ℕ × List ℕ} (Err (cond b UnexpectedEof BadLeb128))
    at true = ends
    at false = fault BadLeb128 (λ p. cc)

pub leb128_text_is : (bytes : List ℕ) → IsByBytes (leb128_text bytes)
leb128_text_is bytes = cut_is bytes _

pub uleb128_in_is : (bytes : List ℕ) → IsByBytes (uleb128_in bytes)
unfolding uleb128_in
uleb128_in_is bytes = step (leb128_text_is bytes) (λ text. either (fits_u64 (uleb128_value text.0)) value (fault BadLeb128 (λ p. cc)))

pub sleb128_in_is : (bytes : List ℕ) → IsByBytes (sleb128_in bytes)
unfolding sleb128_in
sleb128_in_is bytes = step (leb128_text_is bytes) (λ text. either (fits_i64 (sleb128_value text.0)) value (fault BadLeb128 (λ p. cc)))

pub uleb128_is : (s : Section) → IsByBytes (uleb128_at s)
uleb128_is s = step (uleb128_in_is s.bytes) (λ x. value)

pub sleb128_is : (s : Section) → IsByBytes (sleb128_at s)
sleb128_is s = step (sleb128_in_is s.bytes) (λ x. value)

-- ---- runs
-- the end of a step, or what follows its part
abbrev pub NextIsByBytes : {X S Z : Type 0} → Next X S Z → Type 0
NextIsByBytes (More x rest) = IsByBytes rest
NextIsByBytes (Stop end) = IsByBytes end

pub next_of_is : {X S : Type 0} (r : Result (Option X × S) Error) → IsByBytes r → NextIsByBytes (next_of r)
next_of_is (Err e) h = moved_fault h
next_of_is (Ok (None, s)) h = value
next_of_is (Ok (Some x, s)) h = value

continued_is : {X S Z : Type 0} (following : S → Run X Z) → ((s : S) → IsByBytes (following s).end) → (v : Next X S Z) → NextIsByBytes v → IsByBytes (continued following v).end
continued_is following h (Stop z) k = k
continued_is following h (More x (Err e)) k = moved_fault k
continued_is following h (More x (Ok t)) k = h t

pub run_within_is : {X S Z : Type 0} (next : S → Next X S Z) → ((s : S) → NextIsByBytes (next s)) → (n : ℕ) (s : S) → IsByBytes (run_within next n s).end
unfolding run_within
run_within_is next h zero s = ends
run_within_is next h (suc n) s = continued_is (run_within next n) (run_within_is next h n) (next s) (h s)

pub run_of_is : {X : Type 0} (part : Section → Reading (Option X)) → ((s : Section) → IsByBytes (part s)) → (s : Section) → IsByBytes (run_of part s).end
run_of_is part h s = run_within_is (λ t. next_of (part t)) (λ t. next_of_is (part t) (h t)) (length s.bytes + 1) s

pub collected_is : {X Z : Type 0} (r : Run X Z) → IsByBytes r.end → IsByBytes (collected r)
collected_is r h = step h (λ z. value)

pub fold_run_is : {X Z A : Type 0} (f : A → X → Result A Error) → ((a : A) (x : X) → IsByBytes (f a x)) → (a : A) (xs : List X) (end : Result Z Error) → IsByBytes end → IsByBytes (fold_run f a xs end)
unfolding fold_run
fold_run_is f h a [] end k = step k (λ z. value)
fold_run_is f h a (x ∷ xs) end k = step (h a x) (λ b. fold_run_is f h b xs end k)

pub fold_of_is : {X Z A : Type 0} (f : A → X → Result A Error) → ((a : A) (x : X) → IsByBytes (f a x)) → (a : A) (r : Run X Z) → IsByBytes r.end → IsByBytes (fold_of f a r)
fold_of_is f h a r k = fold_run_is f h a r.items r.end k

-- of the answers of a run the last alone may be a fault
pub listed_with_are : {X Z : Type 0} (xs : List X) (end : Result Z Error) → IsByBytes end → AreByBytes (listed_with xs end)
unfolding listed_with
listed_with_are [] (Ok z) h = tt
listed_with_are [] (Err e) h = (moved_fault h, tt)
listed_with_are (x ∷ xs) end h = (value, listed_with_are xs end h)

pub listed_are : {X Z : Type 0} (r : Run X Z) → IsByBytes r.end → AreByBytes (listed r)
listed_are r h = listed_with_are r.items r.end h

-- elements that are added one after another to what may be a fault
pub fold_is : {X A : Type 0} (f : Result A Error → X → Result A Error) → ((r : Result A Error) (x : X) → IsByBytes r → IsByBytes (f r x)) → (r : Result A Error) → IsByBytes r → (xs : List X) → IsByBytes (fold f r xs)
fold_is f h r k [] = k
fold_is f h r k (x ∷ xs) = fold_is f h (f r x) (h r x k) xs

-- ---- values
pub block_is : {read : Reading ℕ} → IsByBytes read → IsByBytes (block_at read)
block_is h = step h (λ n. split_is n.0 n.1)

pub address_or_offset_is : (e : Encoding) (s : Section) → IsByBytes (address_or_offset_at e s)
address_or_offset_is e s = either (is_2 e.version) (address_is e.address_size s) (offset_is e.format s)

pub encoded_is : (e : Encoding) (form : Option FormEncoding) (s : Section) → IsByBytes (encoded_at e form s)
encoded_is e None s = fault UnknownForm (λ p. cc)
encoded_is e (Some (Fixed n make)) s = mapped_is make (fixed_is n s)
encoded_is e (Some (Address make)) s = mapped_is make (address_is e.address_size s)
encoded_is e (Some (Offset make)) s = mapped_is make (offset_is e.format s)
encoded_is e (Some (AddressOrOffset make)) s = mapped_is make (address_or_offset_is e s)
encoded_is e (Some (Unsigned make)) s = mapped_is make (uleb128_is s)
encoded_is e (Some (Signed make)) s = mapped_is make (sleb128_is s)
encoded_is e (Some (Block1 make)) s = mapped_is make (block_is (fixed_is 1 s))
encoded_is e (Some (Block2 make)) s = mapped_is make (block_is (fixed_is 2 s))
encoded_is e (Some (Block4 make)) s = mapped_is make (block_is (fixed_is 4 s))
encoded_is e (Some (Block make)) s = mapped_is make (block_is (uleb128_is s))
encoded_is e (Some (Text make)) s = mapped_is make (null_terminated_is s)
encoded_is e (Some (Empty made)) s = value

pub direct_is : (e : Encoding) (form : ℕ) (s : Section) → IsByBytes (direct_at e form s)
direct_is e form s = encoded_is e (form_encoding_of form) s

pub form_within_is : (n : ℕ) (s : Section) → IsByBytes (form_within n s)
unfolding form_within
form_within_is zero s = ends
form_within_is (suc n) s = step (uleb128_is s) (λ form. either (form.0 == DW_FORM_indirect.0) (form_within_is n form.1) value)

pub form_is : (s : Section) → IsByBytes (form_at s)
form_is s = form_within_is (length s.bytes + 1) s

pub value_is : (e : Encoding) (form : ℕ) (s : Section) → IsByBytes (value_at e form s)
unfolding value_at
value_is e form s = either (form == DW_FORM_indirect.0) (step (form_is s) (λ real. direct_is e real.0 real.1)) (direct_is e form s)

-- ---- attributes
pub implicit_is : (constant : Option ℤ) → IsByBytes (implicit_of constant)
implicit_is None = fault UnknownForm (λ p. cc)
implicit_is (Some z) = value

pub attribute_is : (e : Encoding) (x : Specification) (s : Section) → IsByBytes (attribute_at e x s)
unfolding attribute_at
attribute_is e x s =
    either (x.form.0 == DW_FORM_implicit_const.0) (step (implicit_is x.constant) (λ v. value))
    (mapped_is (named_value x) (value_is e x.form.0 s))

pub attributes_are : (e : Encoding) (xs : List Specification) (s : Section) → IsByBytes (attributes_at e xs s)
unfolding attributes_at
attributes_are e [] s = value
attributes_are e (x ∷ xs) s = step (attribute_is e x s) (λ a. mapped_is (λ more. a.0 ∷ more) (attributes_are e xs a.1))

pub rest_of_is : {A : Type 0} {read : Reading A} → IsByBytes read → IsByBytes (rest_of read)
rest_of_is h = step h (λ x. value)

pub rest_after_is : (n : ℕ) (e : Encoding) (x : Specification) (s : Section) → IsByBytes (rest_after n e x s)
rest_after_is n e x s = step (skipped_is n s) (λ t. rest_of_is (attribute_is e x t.1))

pub runs_rest_is : (e : Encoding) (runs : List SizedRun) (s : Section) → IsByBytes (runs_rest e runs s)
runs_rest_is e [] s = value
runs_rest_is e (run ∷ runs) s = step (rest_after_is (total_bytes e run.size) e run.next s) (λ t. runs_rest_is e runs t)

pub rest_after_runs_is : (e : Encoding) (runs : List SizedRun) (last : TotalSize) (s : Section) → IsByBytes (rest_after_runs e runs last s)
rest_after_runs_is e runs last s = step (runs_rest_is e runs s) (λ t. rest_of_is (skipped_is (total_bytes e last) t))

-- ---- abbreviations
pub constant_is : (form : ℕ) (s : Section) → IsByBytes (constant_at form s)
constant_is form s = either (form == DW_FORM_implicit_const.0) (mapped_is Some (sleb128_is s)) value

pub specification_is : (s : Section) → IsByBytes (specification_at s)
unfolding specification_at
specification_is s =
    step (uleb128_is s) (λ name. step (uleb128_is name.1) (λ form.
    either (is_null name.0 form.0) value
    (either (has_null name.0 form.0) (fault BadAbbreviation (λ p. cc)) (mapped_is (λ c. Some (specified name.0 form.0 c)) (constant_is form.0 form.1)))))

pub specifications_are : (s : Section) → IsByBytes (specifications_at s)
specifications_are s = collected_is (run_of specification_at s) (run_of_is specification_at specification_is s)

pub declaration_head_is : (s : Section) → IsByBytes (declaration_head_at s)
unfolding declaration_head_at
declaration_head_is s =
    step (uleb128_is s) (λ tag. step (test (tag.0 == DW_TAG_null.0) BadAbbreviation (λ p. cc)) (λ known.
    step (fixed_is 1 tag.1) (λ children. step (test (not (tells_children children.0)) BadAbbreviation (λ p. cc)) (λ flag. value))))

pub declaration_is : (code : ℕ) (s : Section) → IsByBytes (declaration_at code s)
unfolding declaration_at
declaration_is code s = step (declaration_head_is s) (λ head. step (specifications_are head.1) (λ attributes. value))

pub head_and_pair_is : (s : Section) → IsByBytes (head_and_pair_at s)
head_and_pair_is s = step (declaration_head_is s) (λ head. specification_is head.1)

pub front_is : (s : Section) → IsByBytes (front_at s)
unfolding front_at
front_is s = step (uleb128_is s) (λ code. step (test (code.0 == CLOSING_CODE) BadAbbreviation (λ p. cc)) (λ coded. head_and_pair_is code.1))

pub abbreviation_is : (table : List Abbrev) (s : Section) → IsByBytes (abbreviation_at table s)
unfolding abbreviation_at
abbreviation_is table s =
    either (length s.bytes == 0) value
    (step (uleb128_is s) (λ code. either (code.0 == CLOSING_CODE) value
    (step (test (is_some (with_code code.0 table)) BadAbbreviation (λ p. cc)) (λ new. mapped_is Some (declaration_is code.0 code.1)))))

-- ---- tables
extended_is : (more : List Abbrev → Section → Result (List Abbrev) Error) → ((table : List Abbrev) (s : Section) → IsByBytes (more table s)) → (table : List Abbrev) (a : Option Abbrev) (s : Section) → IsByBytes (extended more table a s)
extended_is more h table None s = value
extended_is more h table (Some a) s = h (table ++ a ∷ []) s

pub table_within_is : (n : ℕ) (table : List Abbrev) (s : Section) → IsByBytes (table_within n table s)
unfolding table_within
table_within_is zero table s = ends
table_within_is (suc n) table s = step (abbreviation_is table s) (λ a. extended_is (table_within n) (table_within_is n) table a.0 a.1)

pub table_is : (s : Section) → IsByBytes (table_at s)
table_is s = table_within_is (length s.bytes + 1) [] s

-- Inlined entries as they are stored (on specs/StoredInlined.antt).
use Rattle.addr2line_lines.proofs.Common.{ℕ, zero, suc, ◌≡◌, ◌^◌, ◌==◌, ◌&&◌, ◌++◌, Bool, true, false, cond, List, [], ◌∷◌, length, take, Option, Some, None, slice_get, refl, ap, nat_lt, arith, rules, Section}
use Rattle.addr2line_lines.specs.declared.inlined_functions.InlinedCall.{InlinedCall}
use Rattle.addr2line_lines.specs.StoredInlined.{call_fits, entries_of_calls, entry_of_call, file_fits, file_of_short, no_file, short_file}

-- the index of a file that fits is what four bytes stand for
pub short_file_is : (file : Option ℕ) → file_fits file ≡ true → file_of_short (short_file file) ≡ file
short_file_is None h = refl
short_file_is (Some n) h = by_test (n == no_file) refl
  where
    by_test : (b : Bool) → (n == no_file) ≡ b → cond b None (Some n) ≡ Some n
    by_test false e = refl
    by_test true e = absurd search rules

-- the file of a call that fits does
pub fitting_file : (base : ℕ) (c : InlinedCall) → call_fits base c ≡ true → file_fits c.call.file ≡ true
fitting_file base c h = second (nat_lt c.offset.0 (2 ^ 32)) h
  where
    second : (b : Bool) → (b && file_fits c.call.file) ≡ true → file_fits c.call.file ≡ true
    second true h = h
    second false h = absurd cc

-- entries of lists of one length, and one more of each
pub one_entry_more : (names : List (Option Section)) (calls : List InlinedCall) (name : Option Section) (call : InlinedCall) → length names ≡ length calls → entries_of_calls (names ++ name ∷ []) (calls ++ call ∷ []) ≡ entries_of_calls names calls ++ entry_of_call name call ∷ []
one_entry_more [] [] name call e = refl
one_entry_more [] (c ∷ calls) name call e = absurd (omega arith)
one_entry_more (n ∷ names) [] name call e = absurd (omega arith)
one_entry_more (n ∷ names) (c ∷ calls) name call e = ap (λ rest. entry_of_call n c ∷ rest) (one_entry_more names calls name call (omega arith))

-- as many as there are names
pub entries_count : (names : List (Option Section)) (calls : List InlinedCall) → length names ≡ length calls → length (entries_of_calls names calls) ≡ length names
entries_count [] calls e = refl
entries_count (n ∷ names) [] e = absurd (omega arith)
entries_count (n ∷ names) (c ∷ calls) e = ap suc (entries_count names calls (omega arith))

-- the entry of a place is that of the name and the call there
pub entry_at : (names : List (Option Section)) (calls : List InlinedCall) (n : ℕ) (name : Option Section) (call : InlinedCall) → slice_get names n ≡ Some name → slice_get calls n ≡ Some call → slice_get (entries_of_calls names calls) n ≡ Some (entry_of_call name call)
entry_at [] calls n name call h k = absurd cc
entry_at (m ∷ names) [] n name call h k = absurd cc
entry_at (m ∷ names) (c ∷ calls) zero name call h k = cc
entry_at (m ∷ names) (c ∷ calls) (suc n) name call h k = entry_at names calls n name call h k

-- and there is none where there is no name
pub no_name_at : (names : List (Option Section)) (calls : List InlinedCall) (n : ℕ) → slice_get names n ≡ None → slice_get (entries_of_calls names calls) n ≡ None
no_name_at [] calls n h = refl
no_name_at (m ∷ names) [] n h = refl
no_name_at (m ∷ names) (c ∷ calls) zero h = absurd cc
no_name_at (m ∷ names) (c ∷ calls) (suc n) h = no_name_at names calls n h

-- or no call
pub no_call_at : (names : List (Option Section)) (calls : List InlinedCall) (n : ℕ) → slice_get calls n ≡ None → slice_get (entries_of_calls names calls) n ≡ None
no_call_at [] calls n h = refl
no_call_at (m ∷ names) [] n h = refl
no_call_at (m ∷ names) (c ∷ calls) zero h = absurd cc
no_call_at (m ∷ names) (c ∷ calls) (suc n) h = no_call_at names calls n h

-- the first entries are those of the first of both
pub first_entries : (n : ℕ) (names : List (Option Section)) (calls : List InlinedCall) → entries_of_calls (take n names) (take n calls) ≡ take n (entries_of_calls names calls)
first_entries zero names calls = refl
first_entries (suc n) [] calls = refl
first_entries (suc n) (m ∷ names) [] = refl
first_entries (suc n) (m ∷ names) (c ∷ calls) = ap (λ rest. entry_of_call m c ∷ rest) (first_entries n names calls)

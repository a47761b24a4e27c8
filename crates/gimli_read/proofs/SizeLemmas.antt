-- Attributes of known sizes, and attributes one after another (on specs/ValueSize.antt and specs/Skip.antt).
use Rattle.gimli_read.proofs.Common.{◌≡◌, ℕ, suc, add-one, ◌+◌, ◌*◌, ◌<◌, ◌≤◌, ◌==◌, Bool, true, false, cond, ltb, List, [], ◌∷◌, ◌++◌, length, drop, get_or, Option, Some, None, Result, Ok, Err, refl, sym, ap, ◌∙◌, arith, length-drop, drop-drop, ℤ, eqb-true, lt-ltb, le-ltb, ltb-false, ltb-true, at_drop_more, at_drop_all, Error, UnexpectedEof, UnsupportedAddressSize, Encoding, Format, Dwarf32, Dwarf64, DW_FORM_indirect, DW_FORM_implicit_const, AttributeValue, Specification, Section, after, Reading, mapped, ◌>>=◌, number_of, fixed_at, skipped_at, address_at, offset_at, is_address_size, offset_size, FormEncoding, Fixed, Address, Offset, AddressOrOffset, Unsigned, Signed, Block1, Block2, Block4, Block, Text, Empty, form_encoding_of, address_or_offset_at, encoded_at, NamedValue, rest_of, direct_at, form_at, value_at, implicit_of, named_value, attribute_at, attributes_at, encoded_size, constant_size, address_bytes, bytes_of, attribute_size, address_or_offset_bytes, counted_bytes, no_size, is_usual, total_bytes, LeavesItsSize}
use Rattle.gimli_read.specs.declared.size.ValueSize.TheVariants as sizes
use Rattle.gimli_read.specs.declared.size.CountedSize.{CountedSize}
use Rattle.gimli_read.specs.declared.size.TotalSize.{TotalSize}
use Rattle.gimli_read.specs.Skip.{rest_after}
use Rattle.gimli_read.specs.declared.abbrev.SizedRun.{SizedRun}
use Rattle.gimli_read.specs.SizedRuns.{run_rest, runs_rest, rest_after_runs}

-- bytes that are passed over, where there are enough and where there are not
enough : (n : ℕ) (s : Section) → n ≤ length s.bytes → rest_of (skipped_at n s) ≡ Ok (after n s)
enough n s h = ap (λ b. rest_of {A = Unit {0}} (cond b (Err UnexpectedEof) (Ok (tt, after n s)))) (le-ltb (length s.bytes) n h)

missing : (n : ℕ) (s : Section) → length s.bytes < n → rest_of (skipped_at n s) ≡ Err UnexpectedEof
missing n s h = ap (λ b. rest_of {A = Unit {0}} (cond b (Err UnexpectedEof) (Ok (tt, after n s)))) (lt-ltb (length s.bytes) n h)

pub none_skipped : (s : Section) → rest_of (skipped_at 0 s) ≡ Ok s
none_skipped s = enough 0 s (omega arith)

-- so many bytes, and then some more
pub skipped_more : (n m : ℕ) (s : Section) → (skipped_at n s >>= λ t. rest_of (skipped_at m t.1)) ≡ rest_of (skipped_at (n + m) s)
skipped_more n m s = at (ltb (length s.bytes) n) refl
  where
    then : Bool → Result Section Error
    then b = cond {A = Reading (Unit {0})} b (Err UnexpectedEof) (Ok (tt, after n s)) >>= λ t. rest_of (skipped_at m t.1)

    left : (b : Bool) → ltb (length (drop n s.bytes)) m ≡ b → n ≤ length s.bytes → rest_of (skipped_at m (after n s)) ≡ rest_of (skipped_at (n + m) s)
    left true h k = let l = ltb-true _ _ h in missing m (after n s) l ∙ sym (missing (n + m) s (omega (arith, l, k, length-drop n s.bytes)))
    left false h k =
        let l = ltb-false _ _ h in
        enough m (after n s) l ∙ ap (λ (xs : List ℕ). Ok (record s { bytes = xs })) (drop-drop m n s.bytes) ∙ sym (enough (n + m) s (omega (arith, l, k, length-drop n s.bytes)))

    at : (b : Bool) → ltb (length s.bytes) n ≡ b → then (ltb (length s.bytes) n) ≡ rest_of (skipped_at (n + m) s)
    at true h = ap then h ∙ sym (missing (n + m) s (let l = ltb-true _ _ h in omega (arith, l)))
    at false h = ap then h ∙ left (ltb (length (drop n s.bytes)) m) refl (ltb-false _ _ h)

-- a value that is made of what a reading gives leaves what the reading leaves
pub mapped_leaves : {A B : Type 0} (make : A → B) (r : Reading A) → rest_of (mapped make r) ≡ rest_of r
mapped_leaves make (Ok x) = refl
mapped_leaves make (Err d) = refl

-- a fixed number leaves what passing over as many bytes leaves
fixed_rest : (make : ℕ → AttributeValue Section) (n : ℕ) (s : Section) → rest_of (mapped make (fixed_at n s)) ≡ rest_of (skipped_at n s)
fixed_rest make n s = at (ltb (length s.bytes) n)
  where
    at : (b : Bool) → rest_of (mapped make (cond b (Err UnexpectedEof) (Ok (number_of s.endian n s.bytes, after n s)))) ≡ rest_of {A = Unit {0}} (cond b (Err UnexpectedEof) (Ok (tt, after n s)))
    at true = refl
    at false = refl

address_rest : (e : Encoding) (make : ℕ → AttributeValue Section) (n : ℕ) (s : Section) → address_bytes e ≡ Some n → rest_of (mapped make (address_at e.address_size s)) ≡ rest_of (skipped_at n s)
address_rest e make n s = at (is_address_size e.address_size)
  where
    at : (b : Bool) → cond b (Some e.address_size) None ≡ Some n → rest_of (mapped make (cond b (fixed_at e.address_size s) (Err UnsupportedAddressSize))) ≡ rest_of (skipped_at n s)
    at true h = let is : e.address_size ≡ n = cc in fixed_rest make e.address_size s ∙ ap (λ k. rest_of (skipped_at k s)) is
    at false h = absurd cc

offset_rest : (f : Format) (make : ℕ → AttributeValue Section) (s : Section) → rest_of (mapped make (offset_at f s)) ≡ rest_of (skipped_at (offset_size f) s)
offset_rest Dwarf32 make s = fixed_rest make 4 s
offset_rest Dwarf64 make s = fixed_rest make 8 s

same_offset : (f : Format) (make : ℕ → AttributeValue Section) (n : ℕ) (s : Section) → Some (offset_size f) ≡ Some n → rest_of (mapped make (offset_at f s)) ≡ rest_of (skipped_at n s)
same_offset f make n s h = let is : offset_size f ≡ n = cc in offset_rest f make s ∙ ap (λ k. rest_of (skipped_at k s)) is

either_rest : (e : Encoding) (make : ℕ → AttributeValue Section) (n : ℕ) (s : Section) → cond (e.version == 2) (address_bytes e) (Some (offset_size e.format)) ≡ Some n → rest_of (mapped make (address_or_offset_at e s)) ≡ rest_of (skipped_at n s)
either_rest e make n s = at (e.version == 2)
  where
    at : (b : Bool) → cond b (address_bytes e) (Some (offset_size e.format)) ≡ Some n → rest_of (mapped make (cond b (address_at e.address_size s) (offset_at e.format s))) ≡ rest_of (skipped_at n s)
    at true h = address_rest e make n s h
    at false h = same_offset e.format make n s h

encoded_leaves : (e : Encoding) (f : Option FormEncoding) (n : ℕ) (s : Section) → bytes_of e (encoded_size f) ≡ Some n → rest_of (encoded_at e f s) ≡ rest_of (skipped_at n s)
encoded_leaves e None n s h = absurd cc
encoded_leaves e (Some (Fixed k make)) n s h = let is : k ≡ n = cc in fixed_rest make k s ∙ ap (λ j. rest_of (skipped_at j s)) is
encoded_leaves e (Some (Address make)) n s h = address_rest e make n s h
encoded_leaves e (Some (Offset make)) n s h = same_offset e.format make n s h
encoded_leaves e (Some (AddressOrOffset make)) n s h = either_rest e make n s h
encoded_leaves e (Some (Unsigned make)) n s h = absurd cc
encoded_leaves e (Some (Signed make)) n s h = absurd cc
encoded_leaves e (Some (Block1 make)) n s h = absurd cc
encoded_leaves e (Some (Block2 make)) n s h = absurd cc
encoded_leaves e (Some (Block4 make)) n s h = absurd cc
encoded_leaves e (Some (Block make)) n s h = absurd cc
encoded_leaves e (Some (Text make)) n s h = absurd cc
encoded_leaves e (Some (Empty made)) n s h = let is : 0 ≡ n = cc in sym (none_skipped s) ∙ ap (λ j. rest_of (skipped_at j s)) is

-- an indirection has no known size
indirect_size : (e : Encoding) → bytes_of e (encoded_size (form_encoding_of DW_FORM_indirect.0)) ≡ None
unfolding form_encoding_of
indirect_size e = refl

value_leaves : (e : Encoding) (form n : ℕ) (s : Section) → bytes_of e (encoded_size (form_encoding_of form)) ≡ Some n → rest_of (value_at e form s) ≡ rest_of (skipped_at n s)
unfolding value_at
value_leaves e form n s h = at (form == DW_FORM_indirect.0) refl
  where
    at : (b : Bool) → (form == DW_FORM_indirect.0) ≡ b → rest_of (cond b (form_at s >>= λ real. direct_at e real.0 real.1) (direct_at e form s)) ≡ rest_of (skipped_at n s)
    at true k = absurd (let q : None ≡ Some n = sym (indirect_size e) ∙ ap (λ f. bytes_of e (encoded_size (form_encoding_of f))) (sym (eqb-true _ _ k)) ∙ h in cc)
    at false k = encoded_leaves e (form_encoding_of form) n s h

pub attribute_leaves_size : LeavesItsSize
unfolding attribute_at
attribute_leaves_size e x n s = at (x.form.0 == DW_FORM_implicit_const.0)
  where
    constant : (c : Option ℤ) → bytes_of e (constant_size c) ≡ Some n → rest_of (implicit_of c >>= λ value. Ok (named_value x value, s)) ≡ rest_of (skipped_at n s)
    constant None h = absurd cc
    constant (Some z) h = let is : 0 ≡ n = cc in sym (none_skipped s) ∙ ap (λ j. rest_of (skipped_at j s)) is

    at : (b : Bool) → bytes_of e (cond b (constant_size x.constant) (encoded_size (form_encoding_of x.form.0))) ≡ Some n
        → rest_of (cond b (implicit_of x.constant >>= λ value. Ok (named_value x value, s)) (mapped (named_value x) (value_at e x.form.0 s))) ≡ rest_of (skipped_at n s)
    at true h = constant x.constant h
    at false h = mapped_leaves (named_value x) (value_at e x.form.0 s) ∙ value_leaves e x.form.0 n s h

-- an attribute, and those after it
pub rests_more : (e : Encoding) (x : Specification) (xs : List Specification) (s : Section) → rest_of (attributes_at e (x ∷ xs) s) ≡ (rest_of (attribute_at e x s) >>= λ t. rest_of (attributes_at e xs t))
unfolding attributes_at
rests_more e x xs s = at (attribute_at e x s)
  where
    with_one : (a : NamedValue) (r : Reading (List NamedValue)) → rest_of (r >>= λ more. Ok (a ∷ more.0, more.1)) ≡ rest_of r
    with_one a (Ok more) = refl
    with_one a (Err d) = refl

    at : (r : Reading NamedValue) → rest_of (r >>= λ a. attributes_at e xs a.1 >>= λ more. Ok (a.0 ∷ more.0, more.1)) ≡ (rest_of r >>= λ t. rest_of (attributes_at e xs t))
    at (Ok a) = with_one a.0 (attributes_at e xs a.1)
    at (Err d) = refl

rests_none : (e : Encoding) (s : Section) → rest_of (attributes_at e [] s) ≡ Ok s
unfolding attributes_at
rests_none e s = refl

-- an attribute of a known size after bytes that are passed over
pub next_sized : (n : ℕ) (e : Encoding) (x : Specification) (m : ℕ) (s : Section) → attribute_size e x ≡ Some m → rest_after n e x s ≡ rest_of (skipped_at (n + m) s)
next_sized n e x m s h = at (skipped_at n s) ∙ skipped_more n m s
  where
    at : (r : Reading (Unit {0})) → (r >>= λ t. rest_of (attribute_at e x t.1)) ≡ (r >>= λ t. rest_of (skipped_at m t.1))
    at (Ok t) = attribute_leaves_size e x m t.1 h
    at (Err d) = refl

pub next_missing : (n : ℕ) (e : Encoding) (x : Specification) (s : Section) (d : Error) → skipped_at n s ≡ Err d → rest_after n e x s ≡ Err d
next_missing n e x s d h = ap (λ (r : Reading (Unit {0})). r >>= λ t. rest_of (attribute_at e x t.1)) h

pub next_fault : (n : ℕ) (e : Encoding) (x : Specification) (s t : Section) (d : Error) → skipped_at n s ≡ Ok (tt, t) → attribute_at e x t ≡ Err d → rest_after n e x s ≡ Err d
next_fault n e x s t d h k = ap (λ (r : Reading (Unit {0})). r >>= λ u. rest_of (attribute_at e x u.1)) h ∙ ap rest_of k

pub next_read : (n : ℕ) (e : Encoding) (x : Specification) (s t u : Section) (a : NamedValue) → skipped_at n s ≡ Ok (tt, t) → attribute_at e x t ≡ Ok (a, u) → rest_after n e x s ≡ rest_of (skipped_at 0 u)
next_read n e x s t u a h k = ap (λ (r : Reading (Unit {0})). r >>= λ v. rest_of (attribute_at e x v.1)) h ∙ ap rest_of k ∙ sym (none_skipped u)

-- what is left after bytes that are passed over, and attributes
abbrev pub rests_after : ℕ → Encoding → List Specification → Section → Result Section Error
rests_after n e xs s = rest_of (skipped_at n s) >>= λ t. rest_of (attributes_at e xs t)

pub rests_start : (e : Encoding) (xs : List Specification) (s : Section) → rests_after 0 e xs s ≡ rest_of (attributes_at e xs s)
rests_start e xs s = ap (λ (r : Result Section Error). r >>= λ t. rest_of (attributes_at e xs t)) (none_skipped s)

rests_next : (n : ℕ) (e : Encoding) (x : Specification) (xs : List Specification) (s : Section) → rests_after n e (x ∷ xs) s ≡ (rest_after n e x s >>= λ t. rest_of (attributes_at e xs t))
rests_next n e x xs s = at (skipped_at n s)
  where
    at : (r : Reading (Unit {0})) → (rest_of r >>= λ t. rest_of (attributes_at e (x ∷ xs) t)) ≡ ((r >>= λ t. rest_of (attribute_at e x t.1)) >>= λ t. rest_of (attributes_at e xs t))
    at (Ok t) = rests_more e x xs t.1
    at (Err d) = refl

pub rests_step : (n m : ℕ) (e : Encoding) (xs : List Specification) (i : ℕ) (x : Specification) (s t : Section) → i < length xs → rest_after n e (get_or xs i x) s ≡ rest_of (skipped_at m t) → rests_after n e (drop i xs) s ≡ rests_after m e (drop (i + 1) xs) t
rests_step n m e xs i x s t h k = at_drop_more (λ ys. rests_after n e ys s) xs i x h ∙ rests_next n e (get_or xs i x) (drop (i + 1) xs) s ∙ ap (λ (r : Result Section Error). r >>= λ u. rest_of (attributes_at e (drop (i + 1) xs) u)) k

pub rests_fault : (n : ℕ) (e : Encoding) (xs : List Specification) (i : ℕ) (x : Specification) (s : Section) (d : Error) → i < length xs → rest_after n e (get_or xs i x) s ≡ Err d → rests_after n e (drop i xs) s ≡ Err d
rests_fault n e xs i x s d h k = at_drop_more (λ ys. rests_after n e ys s) xs i x h ∙ rests_next n e (get_or xs i x) (drop (i + 1) xs) s ∙ ap (λ (r : Result Section Error). r >>= λ u. rest_of (attributes_at e (drop (i + 1) xs) u)) k

pub rests_end : (n : ℕ) (e : Encoding) (xs : List Specification) (i : ℕ) (s : Section) → length xs ≤ i → rests_after n e (drop i xs) s ≡ rest_of (skipped_at n s)
rests_end n e xs i s h = at_drop_all (λ ys. rests_after n e ys s) xs i h ∙ at (rest_of (skipped_at n s))
  where
    at : (r : Result Section Error) → (r >>= λ t. rest_of (attributes_at e [] t)) ≡ r
    at (Ok t) = rests_none e t
    at (Err d) = refl

-- runs, one at a time
pub runs_more : (e : Encoding) (runs : List SizedRun) (i : ℕ) (d : SizedRun) (last : TotalSize) (s : Section) → i < length runs
    → rest_after_runs e (drop i runs) last s ≡ (run_rest e (get_or runs i d) s >>= λ t. rest_after_runs e (drop (i + 1) runs) last t)
runs_more e runs i d last s h = at_drop_more (λ rs. rest_after_runs e rs last s) runs i d h ∙ at (run_rest e (get_or runs i d) s)
  where
    at : (r : Result Section Error) → ((r >>= λ t. runs_rest e (drop (i + 1) runs) t) >>= λ t. rest_of (skipped_at (total_bytes e last) t)) ≡ (r >>= λ t. rest_after_runs e (drop (i + 1) runs) last t)
    at (Ok t) = refl
    at (Err x) = refl

pub runs_none : (e : Encoding) (runs : List SizedRun) (i : ℕ) (last : TotalSize) (s : Section) → length runs ≤ i → rest_after_runs e (drop i runs) last s ≡ rest_of (skipped_at (total_bytes e last) s)
runs_none e runs i last s h = at_drop_all (λ rs. rest_after_runs e rs last s) runs i h

-- one more run at the end
runs_push : (e : Encoding) (runs : List SizedRun) (r : SizedRun) (s : Section) → runs_rest e (runs ++ r ∷ []) s ≡ (runs_rest e runs s >>= λ t. run_rest e r t)
runs_push e [] r s = at (run_rest e r s)
  where
    at : (q : Result Section Error) → (q >>= λ t. Ok t) ≡ q
    at (Ok t) = refl
    at (Err x) = refl
runs_push e (x ∷ runs) r s = at (λ t. runs_push e runs r t) (run_rest e x s)
  where
    at : ((t : Section) → runs_rest e (runs ++ r ∷ []) t ≡ (runs_rest e runs t >>= λ u. run_rest e r u)) → (q : Result Section Error) → (q >>= λ t. runs_rest e (runs ++ r ∷ []) t) ≡ ((q >>= λ t. runs_rest e runs t) >>= λ u. run_rest e r u)
    at ih (Ok t) = ih t
    at ih (Err y) = refl

-- runs, values of known sizes after them, and the attributes that are left
abbrev pub so_far : Encoding → List SizedRun → TotalSize → List Specification → Section → Result Section Error
so_far e runs last xs s = runs_rest e runs s >>= λ t. rests_after (total_bytes e last) e xs t

pub so_far_start : (e : Encoding) (last : TotalSize) (xs : List Specification) (s : Section) → total_bytes e last ≡ 0 → so_far e [] last xs s ≡ rest_of (attributes_at e xs s)
so_far_start e last xs s h = ap (λ n. rests_after n e xs s) h ∙ rests_start e xs s

pub so_far_sized : (e : Encoding) (runs : List SizedRun) (t u : TotalSize) (xs : List Specification) (i : ℕ) (x : Specification) (k : ℕ) (s : Section) → i < length xs → attribute_size e (get_or xs i x) ≡ Some k → total_bytes e u ≡ total_bytes e t + k
    → so_far e runs t (drop i xs) s ≡ so_far e runs u (drop (i + 1) xs) s
so_far_sized e runs t u xs i x k s h a b = at (runs_rest e runs s)
  where
    at : (r : Result Section Error) → (r >>= λ v. rests_after (total_bytes e t) e (drop i xs) v) ≡ (r >>= λ v. rests_after (total_bytes e u) e (drop (i + 1) xs) v)
    at (Ok v) = rests_step (total_bytes e t) (total_bytes e u) e xs i x v v h (next_sized (total_bytes e t) e (get_or xs i x) k v a ∙ ap (λ n. rest_of (skipped_at n v)) (sym b))
    at (Err y) = refl

pub so_far_other : (e : Encoding) (runs : List SizedRun) (t u : TotalSize) (xs : List Specification) (i : ℕ) (x : Specification) (s : Section) → i < length xs → total_bytes e u ≡ 0
    → so_far e runs t (drop i xs) s ≡ so_far e (runs ++ record { size = t; next = get_or xs i x } ∷ []) u (drop (i + 1) xs) s
so_far_other e runs t u xs i x s h z =
    at (runs_rest e runs s) ∙ ap (λ (r : Result Section Error). r >>= λ v. rests_after (total_bytes e u) e (drop (i + 1) xs) v) (sym (runs_push e runs (record { size = t; next = get_or xs i x }) s))
  where
    rests : (q : Result Section Error) → (q >>= λ v. rest_of (attributes_at e (drop (i + 1) xs) v)) ≡ (q >>= λ v. rests_after (total_bytes e u) e (drop (i + 1) xs) v)
    rests (Ok v) = sym (ap (λ n. rests_after n e (drop (i + 1) xs) v) z ∙ rests_start e (drop (i + 1) xs) v)
    rests (Err y) = refl

    at : (r : Result Section Error) → (r >>= λ v. rests_after (total_bytes e t) e (drop i xs) v) ≡ ((r >>= λ v. rest_after (total_bytes e t) e (get_or xs i x) v) >>= λ v. rests_after (total_bytes e u) e (drop (i + 1) xs) v)
    at (Ok v) = at_drop_more (λ ys. rests_after (total_bytes e t) e ys v) xs i x h ∙ rests_next (total_bytes e t) e (get_or xs i x) (drop (i + 1) xs) v ∙ rests (rest_after (total_bytes e t) e (get_or xs i x) v)
    at (Err y) = refl

pub so_far_end : (e : Encoding) (runs : List SizedRun) (t : TotalSize) (xs : List Specification) (i : ℕ) (s : Section) → length xs ≤ i → so_far e runs t (drop i xs) s ≡ rest_after_runs e runs t s
so_far_end e runs t xs i s h = at (runs_rest e runs s)
  where
    at : (r : Result Section Error) → (r >>= λ v. rests_after (total_bytes e t) e (drop i xs) v) ≡ (r >>= λ v. rest_of (skipped_at (total_bytes e t) v))
    at (Ok v) = rests_end (total_bytes e t) e xs i v h
    at (Err y) = refl

-- what one more value adds
pub address_known : (e : Encoding) → is_address_size e.address_size ≡ true → bytes_of e sizes.Address ≡ Some e.address_size
address_known e v = ap (λ b. cond b (Some e.address_size) None) v

pub either_known : (e : Encoding) → is_address_size e.address_size ≡ true → bytes_of e sizes.AddressOrOffset ≡ Some (address_or_offset_bytes e)
either_known e v = at (e.version == 2)
  where
    at : (b : Bool) → cond b (address_bytes e) (Some (offset_size e.format)) ≡ Some (cond b e.address_size (offset_size e.format))
    at true = address_known e v
    at false = refl

once_more : (a n k : ℕ) → n ≡ a + 1 → n * k ≡ a * k + k
once_more a n k h = let step : suc a * k ≡ a * k + k = omega arith in ap (λ x. x * k) (h ∙ add-one a) ∙ step

pub more_addresses : (e : Encoding) (t : CountedSize) (n : ℕ) → n ≡ t.addresses + 1 → counted_bytes e (record t { addresses = n }) ≡ counted_bytes e t + e.address_size
more_addresses e t n h = let step = once_more t.addresses n e.address_size h in omega (arith, step)

pub more_offsets : (e : Encoding) (t : CountedSize) (n : ℕ) → n ≡ t.offsets + 1 → counted_bytes e (record t { offsets = n }) ≡ counted_bytes e t + offset_size e.format
more_offsets e t n h = let step = once_more t.offsets n (offset_size e.format) h in omega (arith, step)

pub more_of_either : (e : Encoding) (t : CountedSize) (n : ℕ) → n ≡ t.addresses_or_offsets + 1 → counted_bytes e (record t { addresses_or_offsets = n }) ≡ counted_bytes e t + address_or_offset_bytes e
more_of_either e t n h = let step = once_more t.addresses_or_offsets n (address_or_offset_bytes e) h in omega (arith, step)

pub total_zero : (e : Encoding) → total_bytes e no_size ≡ 0
total_zero e = at (is_usual e)
  where
    at : (b : Bool) → cond b 0 (counted_bytes e no_size.counted) ≡ 0
    at true = refl
    at false = omega arith

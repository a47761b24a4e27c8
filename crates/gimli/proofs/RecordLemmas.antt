-- The attributes of a unit's root entry (on specs/Record.antt).
use Rattle.gimli.proofs.Common.{◌≡◌, ◌==◌, ◌||◌, Bool, true, false, cond, List, [], ◌∷◌, fold, Option, Some, None, Result, Ok, Err, refl, ap, sym, ◌∙◌, or_parts, or_from, Error, Encoding, Abbrev, Reading, ◌>>=◌, NamedValue, constant_of, is_before_5, entry_code_at, root_attributes, root_specifications, EntryCursor, depth_after_code, entry_abbreviation_at, taken_after, taken_in}
use Rattle.gimli_read.specs.declared.constants.TheConstants.DwAt.{DW_AT_name, DW_AT_comp_dir, DW_AT_low_pc, DW_AT_stmt_list, DW_AT_str_offsets_base, DW_AT_addr_base, DW_AT_GNU_addr_base, DW_AT_rnglists_base, DW_AT_GNU_ranges_base, DW_AT_GNU_dwo_id, DW_AT_GNU_dwo_name, DW_AT_dwo_name}
use Rattle.std.specs.Option.{option_or}
use Rattle.gimli.specs.Entry.{attributes_at}
use Rattle.gimli.specs.Record.{RootValues, address_value, dwo_name_attribute, line_offset, no_root_values, section_offset, with_root_attribute, root_values_of}
use Rattle.gimli.specs.WantedAttributes.{is_root_name}

-- a test that fails
pass : {X : Type 0} (b : Bool) (x y z : X) → b ≡ false → y ≡ z → cond b x y ≡ z
pass true x y z h k = absurd cc
pass false x y z h k = k

-- an attribute that names a split file in no version
no_split_file : (old : Bool) (root : RootValues) (a : NamedValue) → (a.name.0 == DW_AT_GNU_dwo_name.0) ≡ false → (a.name.0 == DW_AT_dwo_name.0) ≡ false → cond (a.name.0 == (cond old DW_AT_GNU_dwo_name DW_AT_dwo_name).0) (record root { dwo_name = Some a.value }) root ≡ root
no_split_file true root a h k = pass (a.name.0 == DW_AT_GNU_dwo_name.0) (record root { dwo_name = Some a.value }) root root h refl
no_split_file false root a h k = pass (a.name.0 == DW_AT_dwo_name.0) (record root { dwo_name = Some a.value }) root root k refl

-- no test of a chain holds
pass_all : {X : Type 0} (a b c d e f g h i j k l : Bool) (p q r s t u v w y z : X) → (a || b || c || d || e || f || g || h || i || j || k || l) ≡ false → (k ≡ false → l ≡ false → y ≡ z)
    → cond a p (cond b q (cond c r (cond d s (cond e t (cond (f || g) u (cond (h || i) v (cond j w y))))))) ≡ z
pass_all a b c d e f g h i j k l p q r s t u v w y z none last =
    let nl = or_parts (a || b || c || d || e || f || g || h || i || j || k) l none in
    let nk = or_parts (a || b || c || d || e || f || g || h || i || j) k nl.0 in
    let nj = or_parts (a || b || c || d || e || f || g || h || i) j nk.0 in
    let ni = or_parts (a || b || c || d || e || f || g || h) i nj.0 in
    let nh = or_parts (a || b || c || d || e || f || g) h ni.0 in
    let ng = or_parts (a || b || c || d || e || f) g nh.0 in
    let nf = or_parts (a || b || c || d || e) f ng.0 in
    let ne = or_parts (a || b || c || d) e nf.0 in
    let nd = or_parts (a || b || c) d ne.0 in
    let nc = or_parts (a || b) c nd.0 in
    let nb = or_parts a b nc.0 in
    pass a p _ z nb.0 (pass b q _ z nb.1 (pass c r _ z nc.1 (pass d s _ z nd.1 (pass e t _ z ne.1 (pass (f || g) u _ z (or_from f g nf.1 ng.1) (pass (h || i) v _ z (or_from h i nh.1 ni.1) (pass j w y z nj.1 (last nk.1 nl.1))))))))

-- an attribute of no such name changes nothing
pub still_root : (e : Encoding) (root : RootValues) (a : NamedValue) → is_root_name a.name ≡ false → with_root_attribute e root a ≡ root
still_root e root a h =
    let n = a.name.0 in
    pass_all
    (n == DW_AT_name.0) (n == DW_AT_comp_dir.0) (n == DW_AT_low_pc.0) (n == DW_AT_stmt_list.0) (n == DW_AT_str_offsets_base.0)
    (n == DW_AT_addr_base.0) (n == DW_AT_GNU_addr_base.0) (n == DW_AT_rnglists_base.0) (n == DW_AT_GNU_ranges_base.0) (n == DW_AT_GNU_dwo_id.0)
    (n == DW_AT_GNU_dwo_name.0) (n == DW_AT_dwo_name.0)
    (record root { name = Some a.value })
    (record root { comp_dir = Some a.value })
    (record root { low_pc = option_or (address_value a.value) root.low_pc })
    (record root { stmt_list = option_or (line_offset e a.value) root.stmt_list })
    (record root { str_offsets_base = option_or (section_offset a.value) root.str_offsets_base })
    (record root { addr_base = option_or (section_offset a.value) root.addr_base })
    (record root { rnglists_base = option_or (section_offset a.value) root.rnglists_base })
    (record root { dwo_id = option_or (constant_of a.value) root.dwo_id })
    (cond (n == (dwo_name_attribute e).0) (record root { dwo_name = Some a.value }) root)
    root
    h
    (no_split_file (is_before_5 e.version) root a)

-- the values after the attributes that a reading gives
abbrev pub root_values_after : Encoding → Reading (List NamedValue) → Result RootValues Error
root_values_after e read = taken_after (λ root a. Ok (with_root_attribute e root a)) (Ok no_root_values) read

-- attributes that are taken in without a fault
all_taken : (e : Encoding) (root : RootValues) (xs : List NamedValue) → taken_in (λ r a. Ok (with_root_attribute e r a)) (Ok root) xs ≡ Ok (fold (with_root_attribute e) root xs)
all_taken e root [] = refl
all_taken e root (a ∷ xs) = all_taken e (with_root_attribute e root a) xs

-- the values of a root entry, by the place where it begins
pub root_values_is : (e : Encoding) (table : List Abbrev) (c : EntryCursor)
    → root_values_of e table c.left ≡ (entry_abbreviation_at table c >>= λ root. root_specifications root.0 >>= λ specifications. root_values_after e (attributes_at e specifications root.1.left))
unfolding root_values_of root_attributes entry_abbreviation_at
root_values_is e table c = at (entry_code_at table c.left)
  where
    read : (r : Reading (List NamedValue)) → ((r >>= λ a. Ok a.0) >>= λ attributes. Ok (fold (with_root_attribute e) no_root_values attributes)) ≡ root_values_after e r
    read (Ok x) = sym (all_taken e no_root_values x.0)
    read (Err f) = refl

    at : (r : Reading (Option Abbrev)) → ((r >>= λ root. root_specifications root.0 >>= λ specifications. attributes_at e specifications root.1 >>= λ a. Ok a.0) >>= λ attributes. Ok (fold (with_root_attribute e) no_root_values attributes))
        ≡ (◌>>=◌ {B = Option Abbrev × EntryCursor} r (λ code. Ok (code.0, record { left = code.1; depth = depth_after_code code.0 c.depth })) >>= λ root. root_specifications root.0 >>= λ specifications. root_values_after e (attributes_at e specifications root.1.left))
    at (Ok (None, t)) = refl
    at (Ok (Some a, t)) = read (attributes_at e a.attributes t)
    at (Err f) = refl

-- the same, once its code is read, or isn't
pub root_values_by : (e : Encoding) (table : List Abbrev) (c : EntryCursor) (r : Result (Option Abbrev × EntryCursor) Error) → entry_abbreviation_at table c ≡ r
    → root_values_of e table c.left ≡ (r >>= λ root. root_specifications root.0 >>= λ specifications. root_values_after e (attributes_at e specifications root.1.left))
root_values_by e table c r h = root_values_is e table c ∙ ap (λ (q : Result (Option Abbrev × EntryCursor) Error). q >>= λ root. root_specifications root.0 >>= λ specifications. root_values_after e (attributes_at e specifications root.1.left)) h

-- The functions of a unit, one item at a time (on specs/FoundFunctions.antt).
use Rattle.addr2line_lines.proofs.Common.{◌≡◌, ℕ, ◌<◌, ◌≤◌, ◌==◌, ◌&&◌, Bool, true, false, cond, List, [], ◌∷◌, ◌++◌, map, length, Option, Some, None, Result, Ok, Err, OnOk, refl, ap, sym, ◌∙◌, arith, append-nil, length-append, Error, Range, Abbrev, takes_memory_after, Section, Reading, ◌>>=◌, Exactly, ExactlyUnlessOomIf, NamedValue, rest_of, EntryUnit, attributes_at, Item, EntryCursor, entry_abbreviation_at, next_item_at, Sections, UnitRecord, RangeAttributes, FunctionAddress, attribute_ranges, gives_a_range, no_range_attributes, range_attributes_after, range_attributes_of, is_subprogram, FoundFunctions, next_found_at, found_more, function_address, item_has_function, with_attributes, with_found, with_ranges, offset_of}
use Rattle.gimli_read.specs.declared.endian.Encoding.{Encoding}
use Rattle.gimli_read.proofs.SkipLemmas.{attributes_leave}
use Rattle.gimli.proofs.CursorLemmas.{item_coded, item_from, item_here}
use Rattle.gimli.proofs.EntryLemmas.{abbreviation_takes}

-- an answer, and a place beside it; memory may be taken for the part only if it may for the whole
pub beside_if : {X Y Z : Type 0} (part may : Bool) (r : Result Z Error) (x : X) (y : Y) (given : Result X Error) (whole : Result (X × Y) Error) → (part ≡ true → may ≡ true) → whole ≡ (given >>= λ v. Ok (v, y)) → ExactlyUnlessOomIf part (λ _. x) r given → ExactlyUnlessOomIf may (λ _. (x, y)) r whole
beside_if part may (Ok z) x y given whole m h k = h ∙ ap (λ g. g >>= λ v. Ok (v, y)) k
beside_if part may (Err e) x y given whole m h k = λ ne. h ∙ ap (λ g. g >>= λ v. Ok (v, y)) (k (λ p. ne (m p)))

-- what is found, and where the entry ends
abbrev pub ending : EntryCursor → Result FoundFunctions Error → Result (FoundFunctions × EntryCursor) Error
ending s r = r >>= λ more. Ok (more, s)

-- whether an item is given
abbrev gives_item : Result (Option Item × EntryCursor) Error → Bool
gives_item (Ok (Some x, t)) = true
gives_item (Ok (None, t)) = false
gives_item (Err e) = false

module _ (d : Sections) (u : UnitRecord) (unit : EntryUnit) where
  -- what is found at an item that is read
  abbrev pub found_after : FoundFunctions → Result (Option Item × EntryCursor) Error → Result (FoundFunctions × EntryCursor) Error
  found_after found r = r >>= λ x. elim x.0 [ None ↦ Ok (found, x.1) | Some item ↦ with_found d u found item >>= λ more. Ok (more, x.1) ]

  at_code : (c : EntryCursor) (found : FoundFunctions) (r : Result (Option Abbrev × EntryCursor) Error) → (length c.left.bytes == 0) ≡ false → entry_abbreviation_at unit.abbreviations c ≡ r → next_found_at d u unit c found ≡ found_after found (r >>= λ x. item_from unit c x)
  at_code c found r h k = ap (found_after found) (item_coded unit c h ∙ ap (λ s. s >>= λ x. item_from unit c x) k)

  pub code_fault : (c : EntryCursor) (found : FoundFunctions) (e : Error) → (length c.left.bytes == 0) ≡ false → entry_abbreviation_at unit.abbreviations c ≡ Err e → next_found_at d u unit c found ≡ Err e
  code_fault c found e h k = at_code c found (Err e) h k

  pub closing_found : (c t : EntryCursor) (found : FoundFunctions) → (length c.left.bytes == 0) ≡ false → entry_abbreviation_at unit.abbreviations c ≡ Ok (None, t) → next_found_at d u unit c found ≡ Ok (found, t)
  closing_found c t found h k = at_code c found (Ok (None, t)) h k

  -- what is found at an entry whose attributes are read
  abbrev found_entry : EntryCursor → EntryCursor → FoundFunctions → Abbrev → Reading (List NamedValue) → Result (FoundFunctions × EntryCursor) Error
  found_entry c t found a read = found_after found (read >>= λ x. Ok (Some (item_here unit c (Some (record { abbreviation = a; attributes = x.0 }))), record { left = x.1; depth = t.depth }))

  at_entry : (c t : EntryCursor) (found : FoundFunctions) (a : Abbrev) (e : Encoding) → (length c.left.bytes == 0) ≡ false → entry_abbreviation_at unit.abbreviations c ≡ Ok (Some a, t) → e ≡ unit.encoding → next_found_at d u unit c found ≡ found_entry c t found a (attributes_at e a.attributes t.left)
  at_entry c t found a e h k q = at_code c found (Ok (Some a, t)) h k ∙ ap (λ f. found_entry c t found a (attributes_at f a.attributes t.left)) (sym q)

  -- no function's entry
  not_function : (c t : EntryCursor) (found : FoundFunctions) (a : Abbrev) → is_subprogram a ≡ false → (read : Reading (List NamedValue)) → found_entry c t found a read ≡ (rest_of read >>= λ s. Ok (found, record { left = s; depth = t.depth }))
  not_function c t found a h (Err e) = refl
  not_function c t found a h (Ok x) =
      ap (λ b. ending (record { left = x.1; depth = t.depth }) (cond {A = Result FoundFunctions Error} b (range_attributes_of d u x.0 >>= λ r. with_attributes d u r (offset_of unit c.left) found) (Ok found))) h

  pub other_found : (may : Bool) (c t s : EntryCursor) (found : FoundFunctions) (a : Abbrev) (e : Encoding) (r : Result (Unit {0}) Error) → (length c.left.bytes == 0) ≡ false → entry_abbreviation_at unit.abbreviations c ≡ Ok (Some a, t) → e ≡ unit.encoding → is_subprogram a ≡ false
      → s.depth ≡ t.depth → Exactly (λ _. s.left) r (rest_of (attributes_at e a.attributes t.left)) → ExactlyUnlessOomIf may (λ _. (found, s)) r (next_found_at d u unit c found)
  other_found may c t s found a e (Ok z) h k q n m g =
      at_entry c t found a e h k q ∙ not_function c t found a n (attributes_at e a.attributes t.left)
      ∙ ap (λ v. v >>= λ s'. Ok (found, record { left = s'; depth = t.depth })) g
      ∙ ap (λ v. Ok (found, record { left = s.left; depth = v })) (sym m)
  other_found may c t s found a e (Err f) h k q n m g = λ ne.
      at_entry c t found a e h k q ∙ not_function c t found a n (attributes_at e a.attributes t.left)
      ∙ ap (λ v. v >>= λ s'. Ok (found, record { left = s'; depth = t.depth })) g

  -- a function's entry
  function_is : (c t : EntryCursor) (found : FoundFunctions) (a : Abbrev) → is_subprogram a ≡ true → (read : Reading (List NamedValue))
      → found_entry c t found a read ≡ (read >>= λ x. range_attributes_of d u x.0 >>= λ r. ending (record { left = x.1; depth = t.depth }) (with_attributes d u r (offset_of unit c.left) found))
  function_is c t found a h (Err e) = refl
  function_is c t found a h (Ok x) =
      ap (λ b. ending (record { left = x.1; depth = t.depth }) (cond {A = Result FoundFunctions Error} b (range_attributes_of d u x.0 >>= λ r. with_attributes d u r (offset_of unit c.left) found) (Ok found))) h
      ∙ nested (range_attributes_of d u x.0)
    where
      nested : (r : Result RangeAttributes Error) → ending (record { left = x.1; depth = t.depth }) (r >>= λ v. with_attributes d u v (offset_of unit c.left) found)
          ≡ (r >>= λ v. ending (record { left = x.1; depth = t.depth }) (with_attributes d u v (offset_of unit c.left) found))
      nested (Ok v) = refl
      nested (Err e) = refl

  pub function_fault : (c t : EntryCursor) (found : FoundFunctions) (a : Abbrev) (e : Encoding) (f : Error) → (length c.left.bytes == 0) ≡ false → entry_abbreviation_at unit.abbreviations c ≡ Ok (Some a, t) → e ≡ unit.encoding → is_subprogram a ≡ true
      → range_attributes_after d u (Ok no_range_attributes) (attributes_at e a.attributes t.left) ≡ Err f → next_found_at d u unit c found ≡ Err f
  function_fault c t found a e f h k q n m = at_entry c t found a e h k q ∙ function_is c t found a n (attributes_at e a.attributes t.left) ∙ faulty (attributes_at e a.attributes t.left) m
    where
      faulty : (read : Reading (List NamedValue)) → range_attributes_after d u (Ok no_range_attributes) read ≡ Err f → (read >>= λ x. range_attributes_of d u x.0 >>= λ r. ending (record { left = x.1; depth = t.depth }) (with_attributes d u r (offset_of unit c.left) found)) ≡ Err f
      faulty (Ok x) m = ap (λ v. v >>= λ r. ending (record { left = x.1; depth = t.depth }) (with_attributes d u r (offset_of unit c.left) found)) m
      faulty (Err g) m = let same : g ≡ f = cc in ap Err same

  pub function_found : (c t s : EntryCursor) (found : FoundFunctions) (a : Abbrev) (e : Encoding) (r : RangeAttributes) (offset : ℕ) → (length c.left.bytes == 0) ≡ false → entry_abbreviation_at unit.abbreviations c ≡ Ok (Some a, t) → e ≡ unit.encoding → is_subprogram a ≡ true
      → range_attributes_after d u (Ok no_range_attributes) (attributes_at e a.attributes t.left) ≡ Ok r → rest_of (attributes_at e a.attributes t.left) ≡ Ok s.left → s.depth ≡ t.depth → offset ≡ offset_of unit c.left
      → next_found_at d u unit c found ≡ ending s (with_attributes d u r offset found)
  function_found c t s found a e r offset h k q n m l z o = at_entry c t found a e h k q ∙ function_is c t found a n (attributes_at e a.attributes t.left) ∙ whole (attributes_at e a.attributes t.left) m l
    where
      whole : (read : Reading (List NamedValue)) → range_attributes_after d u (Ok no_range_attributes) read ≡ Ok r → rest_of read ≡ Ok s.left
          → (read >>= λ x. range_attributes_of d u x.0 >>= λ v. ending (record { left = x.1; depth = t.depth }) (with_attributes d u v (offset_of unit c.left) found)) ≡ ending s (with_attributes d u r offset found)
      whole (Err g) m l = cc
      whole (Ok x) m l =
          let left : x.1 ≡ s.left = cc in
          ap (λ v. v >>= λ w. ending (record { left = x.1; depth = t.depth }) (with_attributes d u w (offset_of unit c.left) found)) m
          ∙ ap (λ v. ending (record { left = v; depth = t.depth }) (with_attributes d u r (offset_of unit c.left) found)) left
          ∙ ap (λ v. ending (record { left = s.left; depth = v }) (with_attributes d u r (offset_of unit c.left) found)) (sym z)
          ∙ ap (λ v. ending s (with_attributes d u r v found)) (sym o)

  -- where the range attributes of a function's entry give a range, the next item does
  pub function_takes : (c t : EntryCursor) (a : Abbrev) (e : Encoding) (r : RangeAttributes) → (length c.left.bytes == 0) ≡ false → entry_abbreviation_at unit.abbreviations c ≡ Ok (Some a, t) → e ≡ unit.encoding → is_subprogram a ≡ true
      → range_attributes_after d u (Ok no_range_attributes) (attributes_at e a.attributes t.left) ≡ Ok r → gives_a_range d u r ≡ true → item_has_function d u (next_item_at unit c) ≡ true
  function_takes c t a e r h k q n m w =
      ap (item_has_function d u) (item_coded unit c h ∙ ap (λ s. s >>= λ x. item_from unit c x) k ∙ ap (λ f. entry_item (attributes_at f a.attributes t.left)) (sym q)) ∙ whole (attributes_at e a.attributes t.left) m
    where
      entry_item : Reading (List NamedValue) → Result (Option Item × EntryCursor) Error
      entry_item read = read >>= λ x. Ok (Some (item_here unit c (Some (record { abbreviation = a; attributes = x.0 }))), record { left = x.1; depth = t.depth })

      given : Result RangeAttributes Error → Bool
      given v = takes_memory_after v (gives_a_range d u)

      whole : (read : Reading (List NamedValue)) → range_attributes_after d u (Ok no_range_attributes) read ≡ Ok r → item_has_function d u (entry_item read) ≡ true
      whole (Err g) v = absurd cc
      whole (Ok x) v = ap (λ b. b && given (range_attributes_of d u x.0)) n ∙ ap given v ∙ w

  pub entry_shorter : (c t : EntryCursor) (left : Section) (a : Abbrev) (e : Encoding) → entry_abbreviation_at unit.abbreviations c ≡ Ok (Some a, t) → rest_of (attributes_at e a.attributes t.left) ≡ Ok left → length left.bytes < length c.left.bytes
  entry_shorter c t left a e k l =
      let code = abbreviation_takes unit.abbreviations c t (Some a) k in
      let values = attributes_leave e a.attributes t.left left l in
      omega arith

  pub skipped_shorter : (c t s : EntryCursor) (a : Abbrev) (e : Encoding) (r : Result (Unit {0}) Error) → entry_abbreviation_at unit.abbreviations c ≡ Ok (Some a, t) → Exactly (λ _. s.left) r (rest_of (attributes_at e a.attributes t.left))
      → OnOk r (length s.left.bytes < length c.left.bytes)
  skipped_shorter c t s a e (Ok z) k g = entry_shorter c t s.left a e k g
  skipped_shorter c t s a e (Err f) k g = tt

  pub closing_shorter : (c t : EntryCursor) → entry_abbreviation_at unit.abbreviations c ≡ Ok (None, t) → length t.left.bytes < length c.left.bytes
  closing_shorter c t k = abbreviation_takes unit.abbreviations c t None k

  -- there is an item where there are bytes
  pub some_item : (c t : EntryCursor) → (length c.left.bytes == 0) ≡ false → next_item_at unit c ≡ Ok (None, t) → ⊥
  some_item c t h k = by_code (entry_abbreviation_at unit.abbreviations c) (sym (item_coded unit c h) ∙ k)
    where
      by_values : (r : Reading (List NamedValue)) (a : Abbrev) (z : EntryCursor) → ◌≡◌ {A = Result (Option Item × EntryCursor) Error} (r >>= λ x. Ok (Some (item_here unit c (Some (record { abbreviation = a; attributes = x.0 }))), record { left = x.1; depth = z.depth })) (Ok (None, t)) → ⊥
      by_values (Ok x) a z e = let no = ap gives_item e in absurd cc
      by_values (Err f) a z e = absurd cc

      by_code : (r : Result (Option Abbrev × EntryCursor) Error) → (r >>= λ x. item_from unit c x) ≡ Ok (None, t) → ⊥
      by_code (Ok (None, z)) e = let no = ap gives_item e in absurd cc
      by_code (Ok (Some a, z)) e = by_values (attributes_at unit.encoding a.attributes z.left) a z e
      by_code (Err f) e = absurd cc

-- the function of an entry, by the ranges of its attributes
module _ (d : Sections) (u : UnitRecord) (attributes : RangeAttributes) (offset function : ℕ) (found : FoundFunctions) where
  abbrev pushed : Result (List Range) Error → Result (List FunctionAddress) Error
  pushed r = r >>= λ ranges. Ok (found.addresses ++ map (function_address function) ranges)

  abbrev added : Result (List Range) Error → Result FoundFunctions Error
  added r = r >>= λ ranges. Ok (found_more found offset ranges)

  -- a fault of the ranges
  pub ranges_refused : (e : Error) → with_ranges d u attributes function found.addresses ≡ Err e → with_attributes d u attributes offset found ≡ Err e
  ranges_refused e h = by_ranges (attribute_ranges d u attributes) h
    where
      by_ranges : (r : Result (List Range) Error) → pushed r ≡ Err e → added r ≡ Err e
      by_ranges (Err f) h = let same : f ≡ e = cc in ap Err same
      by_ranges (Ok ranges) h = absurd cc

  -- no range was added
  pub none_added : (addresses : List FunctionAddress) → with_ranges d u attributes function found.addresses ≡ Ok addresses → length addresses ≤ length found.addresses
      → with_attributes d u attributes offset found ≡ Ok (record { offsets = found.offsets; addresses = addresses })
  none_added addresses h l = by_ranges (attribute_ranges d u attributes) h
    where
      by_ranges : (r : Result (List Range) Error) → pushed r ≡ Ok addresses → added r ≡ Ok (record { offsets = found.offsets; addresses = addresses })
      by_ranges (Err f) h = absurd cc
      by_ranges (Ok []) h =
          let same : found.addresses ++ [] ≡ addresses = cc in
          ap (λ (v : List FunctionAddress). Ok (record { offsets = found.offsets; addresses = v })) (sym (append-nil found.addresses) ∙ same)
      by_ranges (Ok (r ∷ ranges)) h =
          let same : found.addresses ++ map (function_address function) (r ∷ ranges) ≡ addresses = cc in
          let long : length addresses ≡ length (found.addresses ++ map (function_address function) (r ∷ ranges)) = ap (λ (v : List FunctionAddress). length v) (sym same) in
          let sum = length-append found.addresses (map (function_address function) (r ∷ ranges)) in
          absurd (omega arith)

  -- a range was added
  pub some_added : (addresses : List FunctionAddress) → with_ranges d u attributes function found.addresses ≡ Ok addresses → length found.addresses < length addresses → function ≡ length found.offsets
      → with_attributes d u attributes offset found ≡ Ok (record { offsets = found.offsets ++ record { 0 = offset } ∷ []; addresses = addresses })
  some_added addresses h l n = by_ranges (attribute_ranges d u attributes) h
    where
      more : List FunctionAddress → FoundFunctions
      more v = record { offsets = found.offsets ++ record { 0 = offset } ∷ []; addresses = v }

      by_ranges : (r : Result (List Range) Error) → pushed r ≡ Ok addresses → added r ≡ Ok (more addresses)
      by_ranges (Err f) h = absurd cc
      by_ranges (Ok []) h =
          let same : found.addresses ++ [] ≡ addresses = cc in
          let long : length found.addresses ≡ length addresses = ap (λ (v : List FunctionAddress). length v) (sym (append-nil found.addresses) ∙ same) in
          absurd (omega arith)
      by_ranges (Ok (r ∷ ranges)) h =
          let same : found.addresses ++ map (function_address function) (r ∷ ranges) ≡ addresses = cc in
          ap (λ m. Ok (more (found.addresses ++ map (function_address m) (r ∷ ranges)))) (sym n) ∙ ap (λ v. Ok (more v)) same

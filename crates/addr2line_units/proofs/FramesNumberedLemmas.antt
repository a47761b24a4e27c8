-- What the unit of a number has at an address, of all units (on specs/FramesLookup.antt and
-- specs/FramesCached.antt).
use Rattle.addr2line_units.proofs.Common.{◌≡◌, ℕ, ◌<◌, ◌≤◌, ◌⊎◌, inl, inr, Bool, true, false, ◌&&◌, ◌||◌, not, List, [], length, get_or, slice_get, Option, Some, None, option_map, unwrap_or, Result, Ok, Err, refl, ap, sym, subst, ◌∙◌, set, slice_get_past, Error, ExactlyUnlessOom, UnitRecord, exceeds_inline_room, Scope, CachedUnit, functions_in_take_memory, lines_of_take_memory, lines_take_memory, indexed_unit, indexed_units, is_uncached, parsed_units, asks_lines_of, frames_of_number, function_offset_of, functions_of_take_memory, inlined_at_number, AreFramesIn, AsksNoMemoryIn, frames_of_place, has_entries, first_answer_of, functions_at, language_at, HaveEntriesOf, answers_in, ParsesOnly, has_parsed, asks_lines_in, frames_in, function_offset_in, inlined_of_unit, first_so, second_so, get_set_same}
use Rattle.std.proofs.Math.Seq.{lt-length-set}
use Rattle.std.specs.Prelude.{IfOk}
use Rattle.addr2line_units.specs.declared.entries.UnitFrames.{UnitFrames}
use Rattle.addr2line_units.specs.declared.entries.UnitFrames.TheVariants as found
use Rattle.addr2line_units.proofs.UnitsLinesLemmas.{no_parsed, no_unit, only_set, parsed_set, set_parsed, unit_at}
use Rattle.addr2line_units.proofs.UnitsCachedLemmas.{answer_at, as_many_entries, parsed_by_lines, same_lines_set}
use Rattle.addr2line_units.proofs.UnitsCaches.{AreFoundAt, frames_found_at, has_entries_at, has_frames_at}

module _ {R : Type 0} (scope : Scope) (probe : ℕ) (us : List UnitRecord) (cs : List (CachedUnit R)) (n : ℕ) where
  abbrev asks : ℕ → Bool
  asks = asks_lines_of scope (indexed_units us cs) (answers_in cs) probe

  -- past the last unit there is nothing to ask for
  pub nothing_at : length cs ≤ n → frames_of_number scope (indexed_units us cs) (answers_in cs) probe n ≡ Ok (Some [])
  nothing_at h = rw (no_unit us cs n h, frames_of_number) refl

  pub none_known : length cs ≤ n → has_frames_at asks probe cs n ≡ true
  none_known h = of_bools (has_entries_at probe cs n) (asks n) (has_parsed (parsed_units cs) n) (ap (λ (o : Option (CachedUnit R)). unwrap_or (option_map (λ x. has_entries probe x.entries) o) true) (slice_get_past cs n h)) (no_parsed cs n h)
    where
      of_bools : (a b c : Bool) → a ≡ true → c ≡ true → (a && (not b || c)) ≡ true
      of_bools true true true e k = refl
      of_bools true true false e k = cc
      of_bools true false c e k = refl
      of_bools false b c e k = cc

  module _ (own : HaveEntriesOf scope us cs) (h : n < length cs) (u : UnitRecord) (c w : CachedUnit R) (unit : u ≡ get_or us n u) (at : c ≡ get_or cs n c) where
    unit_is : slice_get (indexed_units us cs) n ≡ Some (indexed_unit u c.lines)
    unit_is = unit_at us cs n u c (subst (λ m. n < m) (sym (as_many_entries scope us cs own)) h) h unit at

    answer_is : slice_get (answers_in cs) n ≡ Some (first_answer_of c.entries)
    answer_is = answer_at cs n c h at

    pub frames_are : frames_of_number scope (indexed_units us cs) (answers_in cs) probe n ≡ frames_in scope (indexed_unit u c.lines) (first_answer_of c.entries) probe
    frames_are = rw (unit_is, frames_of_number, answer_is) refl

    pub asks_are : asks n ≡ asks_lines_in scope u (first_answer_of c.entries) probe
    asks_are = rw (unit_is, asks_lines_of, answer_is) refl

    pub many_are : exceeds_inline_room (inlined_at_number scope (indexed_units us cs) (answers_in cs) probe n) ≡ exceeds_inline_room (inlined_of_unit scope u (first_answer_of c.entries) probe)
    many_are = rw (unit_is, inlined_at_number, answer_is) refl

    pub offset_is : function_offset_of scope (indexed_units us cs) (answers_in cs) probe n ≡ function_offset_in scope u (first_answer_of c.entries) probe
    offset_is = rw (unit_is, function_offset_of, answer_is) refl

    pub functions_take : (shares : Bool) → functions_of_take_memory shares scope (indexed_units us cs) (answers_in cs) n ≡ functions_in_take_memory shares scope u (first_answer_of c.entries)
    functions_take shares = rw (unit_is, functions_of_take_memory, answer_is) refl

    pub lines_take : (shares : Bool) → lines_of_take_memory shares (indexed_units us cs) n ≡ lines_take_memory shares u
    lines_take shares = rw (unit_is, lines_of_take_memory) refl

    there : slice_get (set cs n w) n ≡ Some w
    there = get_set_same cs n w h

    entries_there : has_entries_at probe (set cs n w) n ≡ has_entries probe w.entries
    entries_there = ap (λ (o : Option (CachedUnit R)). unwrap_or (option_map (λ x. has_entries probe x.entries) o) true) there

    found_at : (f : UnitFrames) → frames_of_place w.lines w.entries f ≡ frames_found_at (set cs n w) n f
    found_at found.Open = refl
    found_at (found.Here function row) = rw (there, language_at, functions_at) refl

    pub frames_given : (result : Result UnitFrames Error) → ExactlyUnlessOom (frames_of_place w.lines w.entries) result (frames_in scope (indexed_unit u c.lines) (first_answer_of c.entries) probe)
        → ExactlyUnlessOom (frames_found_at (set cs n w) n) result (frames_of_number scope (indexed_units us cs) (answers_in cs) probe n)
    frames_given (Ok f) g = frames_are ∙ g ∙ ap (λ x. Ok x) (found_at f)
    frames_given (Err e) g = λ ne. frames_are ∙ g ne

    pub places_there : (result : Result UnitFrames Error) → IfOk result (AreFramesIn w.lines w.entries) → IfOk result (AreFoundAt (set cs n w) n)
    places_there (Ok found.Open) g = tt
    places_there (Ok (found.Here None None)) g = tt
    places_there (Ok (found.Here None (Some row))) g = record { unit = lt-length-set cs n w h; function = tt; lines = rw there g.1 }
    places_there (Ok (found.Here (Some p) row)) g = record { unit = lt-length-set cs n w h; function = rw (there, functions_at) g.0; lines = rw there g.1 }
    places_there (Err e) g = tt

    -- no lines are read but those that are asked for
    pub lines_only : (asks_lines_in scope u (first_answer_of c.entries) probe ≡ false → w.lines ≡ c.lines) → ParsesOnly (λ m. (m ≡ n) × (asks m ≡ true)) (parsed_units cs) (parsed_units (set cs n w))
    lines_only same m e = elim (only_set cs n w m e) [ inl p ↦ inl p | inr q ↦ by_asks q (asks m) refl ]
      where
        by_asks : m ≡ n → (b : Bool) → asks m ≡ b → (has_parsed (parsed_units cs) m ≡ true) ⊎ ((m ≡ n) × (asks m ≡ true))
        by_asks q true a = inr (q, a)
        by_asks q false a =
            let left : w.lines ≡ c.lines = same (sym asks_are ∙ ap asks (sym q) ∙ a) in
            inl (subst (λ bs. has_parsed bs m ≡ true) (parsed_by_lines cs (set cs n w) (same_lines_set cs n c w at left)) e)

    -- what the unit has is known where its entries are, and its lines if they are asked for
    pub known_then : has_entries probe w.entries ≡ true → (asks_lines_in scope u (first_answer_of c.entries) probe ≡ true → is_uncached w.lines.lines ≡ false) → has_frames_at asks probe (set cs n w) n ≡ true
    known_then entries lines = of_bools (has_entries_at probe (set cs n w) n) (asks n) (has_parsed (parsed_units (set cs n w)) n) (entries_there ∙ entries) (λ a. parsed_set cs n w h (lines (sym asks_are ∙ a)))
      where
        of_bools : (a b c : Bool) → a ≡ true → (b ≡ true → c ≡ true) → (a && (not b || c)) ≡ true
        of_bools true true c e k = k refl
        of_bools true false c e k = refl
        of_bools false b c e k = cc

    pub then_known : has_frames_at asks probe (set cs n w) n ≡ true → (has_entries probe w.entries ≡ true) × (asks_lines_in scope u (first_answer_of c.entries) probe ≡ true → is_uncached w.lines.lines ≡ false)
    then_known known =
        let both = of_bools (has_entries_at probe (set cs n w) n) (asks n) (has_parsed (parsed_units (set cs n w)) n) known in
        (sym entries_there ∙ both.0, λ a. set_parsed cs n w h (both.1 (asks_are ∙ a)))
      where
        of_bools : (a b c : Bool) → (a && (not b || c)) ≡ true → (a ≡ true) × (b ≡ true → c ≡ true)
        of_bools true true c e = (refl, λ q. e)
        of_bools true false c e = (refl, λ q. cc)
        of_bools false b c e = cc

    -- a lookup takes no memory in the unit, by what is cached of it
    pub then_no_memory : (shares : Bool) → ((has_entries_at probe (set cs n w) n || not (functions_in_take_memory shares scope u (first_answer_of c.entries)))
        && (not (asks_lines_in scope u (first_answer_of c.entries) probe) || (has_parsed (parsed_units (set cs n w)) n || not (lines_take_memory shares u)))) ≡ true
        → exceeds_inline_room (inlined_of_unit scope u (first_answer_of c.entries) probe) ≡ false → AsksNoMemoryIn shares scope u (first_answer_of c.entries) probe w.lines w.entries
    then_no_memory shares none few = record {
      functions = λ takes. sym entries_there ∙ or_not (has_entries_at probe (set cs n w) n) (functions_in_take_memory shares scope u (first_answer_of c.entries)) (first_so _ _ none) takes;
      lines = λ asked takes. set_parsed cs n w h (or_not (has_parsed (parsed_units (set cs n w)) n) (lines_take_memory shares u) (not_or (asks_lines_in scope u (first_answer_of c.entries) probe) _ (second_so _ _ none) asked) takes);
      few = few;
    }
      where
        or_not : (a b : Bool) → (a || not b) ≡ true → b ≡ true → a ≡ true
        or_not true b e q = refl
        or_not false true e q = e
        or_not false false e q = cc

        not_or : (a b : Bool) → (not a || b) ≡ true → a ≡ true → b ≡ true
        not_or true b e q = e
        not_or false b e q = cc

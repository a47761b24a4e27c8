-- Frames by the places of inlined entries (on specs/FramesLeft.antt).
use Rattle.addr2line_units.proofs.Common.{ℕ, ◌≡◌, ◌+◌, ◌<◌, List, [], ◌∷◌, ◌++◌, map, length, reverse, arith, ◌∙◌, ap, sym, subst, refl, AllByRecursion, length-reverse, reverse-append, slice_get-get_or, DwLang, InlinedEntry, FunctionTable, cached_name, cached_offset_at, Location, call_location, frames_from, function_frame}
use Rattle.std.specs.Prelude.{Option, Some, None, option_map, slice_get, IfSome}
use Rattle.addr2line_lines.specs.FoundInlined.{entry_among, no_inlined}
use Rattle.addr2line_units.specs.FramesLeft.{entry_frame, frames_inside}
use Rattle.addr2line_units.proofs.Facts.{map_reverse}

module _ {X : Type 0} (P : X → Type 0) where
  all_snoc : (xs : List X) (x : X) → AllByRecursion P xs → P x → AllByRecursion P (xs ++ x ∷ [])
  all_snoc [] x all h = (h, tt)
  all_snoc (y ∷ xs) x all h = (all.0, all_snoc xs x all.1 h)

  -- what holds of each holds of each from the end
  all_reverse : (xs : List X) → AllByRecursion P xs → AllByRecursion P (reverse xs)
  all_reverse [] all = tt
  all_reverse (x ∷ xs) all =
      subst (AllByRecursion P) (sym (reverse-append (x ∷ []) xs)) (all_snoc (reverse xs) x (all_reverse xs all.1) all.0)

module _ (files : List (List ℕ)) (language : Option DwLang) (t : FunctionTable) (place : ℕ) where
  -- one frame more than places
  frames_count : (ns : List ℕ) (location : Option Location) → length (frames_inside files language t place ns location) ≡ length ns + 1
  frames_count [] location = refl
  frames_count (n ∷ ns) location =
      let rest = frames_count ns (option_map (λ (x : InlinedEntry). call_location files x.call) (slice_get t.inlined n)) in
      omega arith

  -- places that stand in the list are those of their entries
  frames_by_entries : (offset : ℕ) → cached_offset_at t place ≡ Some offset → (ns : List ℕ) → AllByRecursion (λ n. n < length t.inlined) ns → (location : Option Location)
      → frames_inside files language t place ns location ≡ frames_from files language offset (cached_name t place) (map (entry_among t.inlined) ns) location
  frames_by_entries offset at [] all location =
      ap (λ o. record { offset = o; function = option_map (λ n. record { name = n; language = language }) (cached_name t place); location = location } ∷ []) at
  frames_by_entries offset at (n ∷ ns) all location =
      ap (λ (e : Option InlinedEntry). entry_frame language e location ∷ frames_inside files language t place ns (option_map (λ (x : InlinedEntry). call_location files x.call) e)) (slice_get-get_or t.inlined n no_inlined all.0)
      ∙ ap (λ rest. function_frame language (entry_among t.inlined n).offset (entry_among t.inlined n).name location ∷ rest) (frames_by_entries offset at ns all.1 _)

  -- the same from the inside out, of the function of a place
  pub function_frames : (ns : List ℕ) → AllByRecursion (λ n. n < length t.inlined) ns → (location : Option Location)
      → IfSome (cached_offset_at t place) (λ offset. frames_inside files language t place (reverse ns) location
      ≡ frames_from files language offset (cached_name t place) (reverse (map (entry_among t.inlined) ns)) location)
  function_frames ns all location = of_offset (cached_offset_at t place) refl
    where
      of_offset : (o : Option ℕ) → cached_offset_at t place ≡ o → IfSome o (λ offset. frames_inside files language t place (reverse ns) location
          ≡ frames_from files language offset (cached_name t place) (reverse (map (entry_among t.inlined) ns)) location)
      of_offset None at = tt
      of_offset (Some offset) at =
          frames_by_entries offset at (reverse ns) (all_reverse _ ns all) location
          ∙ ap (λ es. frames_from files language offset (cached_name t place) es location) (map_reverse (entry_among t.inlined) ns)

  -- one frame more than the inlined functions
  pub function_frames_count : (ns : List ℕ) (location : Option Location) → length (frames_inside files language t place (reverse ns) location) ≡ length ns + 1
  function_frames_count ns location = frames_count (reverse ns) location ∙ ap (λ k. k + 1) (length-reverse ns)

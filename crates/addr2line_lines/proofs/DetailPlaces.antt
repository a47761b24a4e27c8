-- Places of details, and what adding details leaves of them (on specs/CachedDetails.antt).
use Rattle.addr2line_lines.proofs.Common.{◌≡◌, ℕ, ◌+◌, ◌-◌, ◌<◌, ◌≤◌, ◌==◌, Bool, true, false, cond, nat_lt, List, [], ◌∷◌, ◌++◌, drop, map, length, slice_index_or, take, Option, Some, None, option_and_then, option_map, Result, Ok, Err, IfOk, refl, ap, sym, subst, ◌∙◌, arith, length-append, length-drop, zero, suc, All, AllByRecursion, IsNonDecreasingBy, drop-append-le, length-map, length-take-le, take-append-le, All-weaker, recursion_from_All, drop-append_seam, take-append_seam, take-length, Error, ExactlyUnlessOomIf, Section, greatest, topmost, UnitRecord, FunctionDetail, InlinedFunctionAddress, Detail, detail_at, InlinedEntry, InlinedRange, FoundInlined, IsFoundMore, entry_among, first_found, range_among, inlined_sooner, inlined_place, place_begin, place_end, places_chain, places_of_depth, places_within, IsInOrder, in_order, AreDetailsMore, AreNamesMore, IsDetailPlace, IsOfEntryBetween, IsRefusedThen, CachedDetails, between, detail_of, listed_ranges, at_or_below, candidate, if_past, pick, Scope, In, In-filter, In-last, get_or_append_left}
use Rattle.addr2line_lines.specs.InlinedChain.{inlined_chain}
use Rattle.addr2line_lines.specs.Grown.{IsGrown}
use Rattle.addr2line_lines.specs.FoundDetails.{detail_found_at}
use Rattle.addr2line_lines.specs.InlineRoom.{exceeds_inline_room, inline_room}
use Rattle.addr2line_lines.proofs.CostLemmas.{AgreesGiven}
use Rattle.addr2line_lines.proofs.DetailOrder.{IsFrom, detail_agrees, detail_made}
use Rattle.addr2line_lines.proofs.DetailRanges.{among, ranges_stay}
use Rattle.addr2line_lines.proofs.InlinedOrder.{inlined_order, length_in_order, listed_chain}
use Rattle.addr2line_lines.proofs.NestingLemmas.{found_same, grown_not}
use Rattle.addr2line_lines.proofs.OrderLemmas.{All-in, in_order_all, in_order_ordered}
use Rattle.addr2line_lines.proofs.SeekLemmas.{non_decreasing}
use Rattle.addr2line_lines.proofs.Facts.{longer}

-- ranges, those from a place on put in order
abbrev pub sorted_from : ℕ → List InlinedFunctionAddress → List InlinedFunctionAddress
sorted_from start xs = take start xs ++ in_order inlined_sooner (drop start xs)

length_sorted : (start : ℕ) (xs : List InlinedFunctionAddress) → start ≤ length xs → length (sorted_from start xs) ≡ length xs
length_sorted start xs l =
    let a = length-append (take start xs) (in_order inlined_sooner (drop start xs)) in
    let b = length-take-le start xs l in
    let c = length_in_order inlined_sooner (drop start xs) in
    let d = length-drop start xs in
    omega arith

between_sorted : (start end : ℕ) (xs : List InlinedFunctionAddress) → start ≤ length xs → end ≡ length xs → between start end (sorted_from start xs) ≡ in_order inlined_sooner (drop start xs)
between_sorted start end xs l e =
    let run = in_order inlined_sooner (drop start xs) in
    let b : length (take start xs) ≡ start = length-take-le start xs l in
    let c : length run ≡ length (drop start xs) = length_in_order inlined_sooner (drop start xs) in
    let d = length-drop start xs in
    let count : end - start ≡ length run = omega arith in
    ap (λ n. take (end - start) (drop n (take start xs ++ run))) (sym b)
    ∙ ap (λ ys. take (end - start) ys) (drop-append_seam (take start xs) run)
    ∙ ap (λ n. take n run) count ∙ take-length run

-- details that were found, and where they are cached
pub record AreCachedAt (name : Option Section) (found listed : FoundInlined) (d : CachedDetails) (p : FunctionDetail) : Type 0 where
  pub name_is : slice_index_or d.names p.name None ≡ name
  pub name_there : p.name < length d.names
  pub inlined_begin : p.inlined_begin ≡ length found.entries
  pub inlined_end : p.inlined_end ≡ length d.found.entries
  pub ranges_begin : p.ranges_begin ≡ length found.ranges
  pub ranges_end : p.ranges_end ≡ length d.found.ranges
  pub entries : d.found.entries ≡ listed.entries
  pub listed_is : p.listed.value.elements ≡ listed.ranges
  pub ranges : d.found.ranges ≡ sorted_from p.ranges_begin listed.ranges

module _ (scope : Scope) (u : UnitRecord) (offset : ℕ) (name : Option Section) (found listed : FoundInlined) (read : (detail_found_at scope u offset found).given ≡ Ok (name, listed))
    (d : CachedDetails) (p : FunctionDetail) (at : AreCachedAt name found listed d p) where
  agrees : AgreesGiven (detail_made scope u offset found) (IsFrom scope u offset found) (detail_at scope u offset) (Ok (name, listed))
  agrees = subst (AgreesGiven (detail_made scope u offset found) (IsFrom scope u offset found) (detail_at scope u offset)) read (detail_agrees scope u offset found).given

  run_is : listed_ranges p ≡ drop (length found.ranges) listed.ranges
  run_is = ap (λ n. drop n p.listed.value.elements) at.ranges_begin ∙ ap (λ xs. drop (length found.ranges) xs) at.listed_is

  -- the details that are cached are those of the function
  pub detail_cached : detail_at scope u offset ≡ Ok (detail_of d p)
  detail_cached =
      let made : Option Section → List InlinedRange → Detail = λ n xs. record { name = n; inlined = xs } in
      agrees.0 ∙ ap (λ n. Ok (made n (map (range_among listed.entries) (drop (length found.ranges) listed.ranges)))) (sym at.name_is)
      ∙ ap (λ es. Ok (made (slice_index_or d.names p.name None) (map (range_among es) (drop (length found.ranges) listed.ranges)))) (sym at.entries)
      ∙ ap (λ xs. Ok (made (slice_index_or d.names p.name None) (map (range_among d.found.entries) xs))) (sym run_is)

  -- and their place is one
  pub place_cached : IsDetailPlace d p
  place_cached =
      let b = at.inlined_begin in
      let e = at.inlined_end in
      let s = at.ranges_begin in
      let t = at.ranges_end in
      let past = agrees.1.past in
      let within = agrees.1.within in
      let entries : length d.found.entries ≡ length listed.entries = ap (λ xs. length xs) at.entries in
      let start : p.ranges_begin ≤ length listed.ranges = omega arith in
      let long : length d.found.ranges ≡ length listed.ranges = ap (λ xs. length xs) at.ranges ∙ length_sorted p.ranges_begin listed.ranges start in
      let Between : InlinedFunctionAddress → Type 0 = IsOfEntryBetween p.inlined_begin p.inlined_end in
      let Found : InlinedFunctionAddress → Type 0 = IsOfEntryBetween (length found.entries) (length listed.entries) in
      let run = drop (length found.ranges) listed.ranges in
      record {
        name = at.name_there;
        inlined_begin = omega arith;
        inlined_end = omega arith;
        ranges_begin = omega arith;
        ranges_end = omega arith;
        places = subst (All Between) (sym run_is) (All-weaker Found Between (λ a k. let f = k.0 in let g = k.1 in (omega arith, omega arith)) run agrees.1.places);
        rising = subst (IsNonDecreasingBy inlined_place) (sym run_is) (non_decreasing inlined_place run agrees.1.rising);
        ordered = ap (λ xs. between p.ranges_begin p.ranges_end xs) at.ranges ∙ between_sorted p.ranges_begin p.ranges_end listed.ranges start (omega arith)
            ∙ ap (λ xs. in_order inlined_sooner (drop p.ranges_begin xs)) (sym at.listed_is);
      }

first_of : {X : Type 0} (n : ℕ) (xs ys : List X) → IsGrown xs ys → n ≡ length xs → take n ys ≡ xs
first_of n xs ys h e = ap (λ m. take m ys) e ∙ ap (λ v. take (length xs) v) h.is ∙ take-append_seam xs h.more

pub first_is : (functions ranges : ℕ) (found more : FoundInlined) → IsFoundMore found more → functions ≡ length found.entries → ranges ≡ length found.ranges → first_found functions ranges more ≡ found
first_is functions ranges found more h a b =
    let made : List InlinedEntry → List InlinedFunctionAddress → FoundInlined = λ xs ys. record { entries = xs; ranges = ys } in
    ap (λ xs. made xs (take ranges more.ranges)) (first_of functions found.entries more.entries h.entries a) ∙ ap (λ ys. made found.entries ys) (first_of ranges found.ranges more.ranges h.ranges b)

-- ranges that were cached stay where those after them are put in order
pub sorted_more : (start : ℕ) (xs listed : List InlinedFunctionAddress) → start ≡ length xs → IsGrown xs listed → IsGrown xs (sorted_from start listed)
sorted_more start xs listed e h = record { more = in_order inlined_sooner (drop start listed); is = ap (λ ys. ys ++ in_order inlined_sooner (drop start listed)) (first_of start xs listed h e) }

-- what is cached stays after a refusal
pub details_refused : (cached more : CachedDetails) (e : Error) → IsRefusedThen cached more e → AreNamesMore cached.known more.known → AreDetailsMore cached more
details_refused cached more e h known = record {
  names = subst (IsGrown cached.names) (sym h.names) (grown_not cached.names);
  found = subst (IsFoundMore cached.found) (sym h.found) (found_same cached.found);
  known = known;
}

-- what is added changes nothing of the details that are cached, and their places are places still
pub detail_stays : (cached more : CachedDetails) (p : FunctionDetail) → AreDetailsMore cached more → IsDetailPlace cached p → (detail_of more p ≡ detail_of cached p) × IsDetailPlace more p
detail_stays cached more p h at = (same, still)
  where
    made : Option Section → List InlinedRange → Detail
    made n xs = record { name = n; inlined = xs }

    count : ℕ
    count = p.ranges_end - p.ranges_begin

    between_is : between p.ranges_begin p.ranges_end more.found.ranges ≡ between p.ranges_begin p.ranges_end cached.found.ranges
    between_is =
        let b = at.ranges_begin in
        let e = at.ranges_end in
        let long = length-drop p.ranges_begin cached.found.ranges in
        ap (λ xs. take count (drop p.ranges_begin xs)) h.found.ranges.is
        ∙ ap (λ xs. take count xs) (drop-append-le p.ranges_begin cached.found.ranges h.found.ranges.more (omega arith))
        ∙ take-append-le count (drop p.ranges_begin cached.found.ranges) h.found.ranges.more (omega arith)

    inlined_is : map (range_among more.found.entries) (listed_ranges p) ≡ map (range_among cached.found.entries) (listed_ranges p)
    inlined_is =
        ap (λ es. map (range_among es) (listed_ranges p)) h.found.entries.is
        ∙ ranges_stay cached.found.entries h.found.entries.more (listed_ranges p) (among p.inlined_begin p.inlined_end cached.found.entries (listed_ranges p) at.inlined_end at.places)

    name_is : slice_index_or more.names p.name None ≡ slice_index_or cached.names p.name None
    name_is = ap (λ xs. slice_index_or xs p.name None) h.names.is ∙ get_or_append_left cached.names h.names.more None p.name at.name

    same : detail_of more p ≡ detail_of cached p
    same = ap (λ n. made n (map (range_among more.found.entries) (listed_ranges p))) name_is ∙ ap (λ xs. made (slice_index_or cached.names p.name None) xs) inlined_is

    still : IsDetailPlace more p
    still =
        let n = longer cached.names more.names h.names in
        let r = longer cached.found.ranges more.found.ranges h.found.ranges in
        let e = longer cached.found.entries more.found.entries h.found.entries in
        let a = at.name in
        let b = at.ranges_end in
        let c = at.inlined_end in
        record {
          name = omega arith;
          inlined_begin = at.inlined_begin;
          inlined_end = omega arith;
          ranges_begin = at.ranges_begin;
          ranges_end = omega arith;
          places = at.places;
          rising = at.rising;
          ordered = between_is ∙ at.ordered;
        }

-- what is picked is among the ranges
picked_in : (probe : ℕ) (xs : List InlinedFunctionAddress) (z : InlinedFunctionAddress) → pick place_begin place_end probe xs ≡ Some z → In z xs
picked_in probe xs z e = by_candidate (candidate place_begin place_end probe xs) refl e
  where
    low : List InlinedFunctionAddress
    low = at_or_below place_begin probe xs

    by_end : (b : Bool) (y : InlinedFunctionAddress) → cond b (Some y) None ≡ Some z → y ≡ z
    by_end true y e = cc
    by_end false y e = absurd cc

    by_candidate : (o : Option InlinedFunctionAddress) → candidate place_begin place_end probe xs ≡ o → option_and_then (if_past place_end probe) o ≡ Some z → In z xs
    by_candidate None q e = absurd cc
    by_candidate (Some y) q e =
        let a = In-last (topmost place_end (topmost place_begin low)) y q in
        let b = In-filter (λ x. place_end x == greatest place_end (topmost place_begin low)) (topmost place_begin low) y a in
        let c = In-filter (λ x. place_begin x == greatest place_begin low) low y b.0 in
        let f = In-filter _ xs y c.0 in
        subst (λ w. In w xs) (by_end (nat_lt probe (place_end y)) y e) f.0

-- what holds of the place of each range holds of the chain
module _ (P : ℕ → Type 0) (probe : ℕ) (xs : List InlinedFunctionAddress) (all : AllByRecursion (λ x. P (inlined_place x)) xs) where
  pub all_within : (n depth : ℕ) → AllByRecursion P (places_within n probe depth xs)
  all_within zero depth = tt
  all_within (suc n) depth = by_cases (pick place_begin place_end probe (places_of_depth depth xs)) refl (all_within n (depth + 1))
    where
      rest : List ℕ
      rest = places_within n probe (depth + 1) xs

      by_cases : (o : Option InlinedFunctionAddress) → pick place_begin place_end probe (places_of_depth depth xs) ≡ o → AllByRecursion P rest → AllByRecursion P (elim (option_map inlined_place o) [ None ↦ [] | Some x ↦ x ∷ rest ])
      by_cases None e r = tt
      by_cases (Some z) e r =
          let i = In-filter (λ x. x.depth == depth) xs z (picked_in probe (places_of_depth depth xs) z e) in
          (All-in (λ x. P (inlined_place x)) xs z all i.0, r)

-- the run of a place, and the chain of an address in it
module _ (d : CachedDetails) (p : FunctionDetail) (at : IsDetailPlace d p) where
  abbrev pub run : List InlinedFunctionAddress
  run = between p.ranges_begin p.ranges_end d.found.ranges

  pub run_ordered : IsInOrder inlined_sooner run
  run_ordered = subst (IsInOrder inlined_sooner) (sym at.ordered) (in_order_ordered inlined_sooner inlined_order (listed_ranges p))

  pub chain_is : (probe : ℕ) → inlined_chain probe (detail_of d p).inlined ≡ map (entry_among d.found.entries) (places_chain probe run)
  chain_is probe = sym (listed_chain (entry_among d.found.entries) probe (listed_ranges p) run at.rising at.ordered)

  pub chain_there : (probe : ℕ) → AllByRecursion (λ n. n < length d.found.entries) (places_chain probe run)
  chain_there probe =
      let there : InlinedFunctionAddress → Type 0 = λ x. inlined_place x < length d.found.entries in
      let listed = recursion_from_All there (listed_ranges p) (among p.inlined_begin p.inlined_end d.found.entries (listed_ranges p) at.inlined_end at.places) in
      all_within (λ n. n < length d.found.entries) probe run (subst (AllByRecursion there) (sym at.ordered) (in_order_all inlined_sooner there (listed_ranges p) listed)) (length run) 0

  -- what the search in the run gives is the chain of the details
  module _ (probe : ℕ) {X : Type 0} (items : X → List ℕ) where
    abbrev SearchGives : Result X Error → Type 0
    SearchGives r = ExactlyUnlessOomIf (exceeds_inline_room (places_chain probe run)) items r (Ok (places_chain probe run))

    pub chain_gives : (r : Result X Error) → SearchGives r
        → ExactlyUnlessOomIf (exceeds_inline_room (inlined_chain probe (detail_of d p).inlined)) (λ x. map (entry_among d.found.entries) (items x)) r (Ok (inlined_chain probe (detail_of d p).inlined))
    chain_gives (Ok x) h =
        let is : places_chain probe run ≡ items x = cc in
        ap Ok (chain_is probe ∙ ap (map (entry_among d.found.entries)) is)
    chain_gives (Err e) h = λ ne.
        let long : length (places_chain probe run) ≡ length (inlined_chain probe (detail_of d p).inlined) =
        sym (length-map (places_chain probe run) (entry_among d.found.entries)) ∙ ap (λ xs. length xs) (sym (chain_is probe)) in
        let fault : ◌≡◌ {A = Result (List ℕ) Error} (Ok (places_chain probe run)) (Err e) = h (λ t. ne (subst (λ n. nat_lt inline_room n ≡ true) long t)) in
        absurd cc

    pub chain_items : (r : Result X Error) → SearchGives r → IfOk r (λ x. AllByRecursion (λ n. n < length d.found.entries) (items x))
    chain_items (Ok x) h =
        let is : places_chain probe run ≡ items x = cc in
        subst (AllByRecursion (λ n. n < length d.found.entries)) is (chain_there probe)
    chain_items (Err e) h = tt

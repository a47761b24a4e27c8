use Rattle.addr2line_lines.proofs.Common.{ℕ, List, Ok, Result, Global, ap, subst, sym, ◌∙◌, map-id, Error, ExactlyUnlessOomIf, InlinedFunctionAddress, IsInOrder, inlined_sooner, places_chain}
use Rattle.smallvec.specs.declared.small_vec.SmallVec.{SmallVec}
use Rattle.addr2line_lines.specs.InlineRoom.{exceeds_inline_room}
use Rattle.addr2line_lines.specs.ShortLists.{StoredList, whole_elements}
use Rattle.addr2line_lines.specs.StoredRanges.{range_of_short}
use Rattle.addr2line_lines.proofs.StoredRangeLemmas.{images_between}
use Rattle.addr2line_lines.proofs.inlined_ranges.ShortList+ShortRange.find_chain.Goals as goal

-- the ranges of a list
abbrev ranges_of : StoredList InlinedFunctionAddress → List InlinedFunctionAddress
ranges_of l = l.elements

pub find_chain-requires : goal.find_chain-requires
find_chain-requires c =
    let e = images_between (range_of_short c.in-Short.upper) c.args.begin c.args.end _ _ _ c.deref.ensures.value (ap (whole_elements range_of_short) (sym c.in-Short.is) ∙ ap ranges_of c.self.view_is) in
    record { ordered = subst (IsInOrder inlined_sooner) (sym e) c.requires.ordered }

-- what the search gives of ranges it gives of the same ranges
abbrev GivesChainAt : ℕ → Result (SmallVec ℕ 16 Global) Error → List InlinedFunctionAddress → Type 0
GivesChainAt probe result ranges = ExactlyUnlessOomIf (exceeds_inline_room (places_chain probe ranges)) (λ chain. chain.items) result (Ok (places_chain probe ranges))

pub returns-in-Short : goal.returns-in-Short
returns-in-Short c =
    let e = images_between (range_of_short c.in-Short.upper) c.args.begin c.args.end _ _ _ c.deref.ensures.value (ap (whole_elements range_of_short) (sym c.in-Short.is) ∙ ap ranges_of c.self.view_is) in
    record { gives = subst (GivesChainAt c.args.probe c.find_chain.result) e c.find_chain.ensures.gives }

pub returns-in-Whole : goal.returns-in-Whole
returns-in-Whole c =
    let e = images_between (λ r. r) c.args.begin c.args.end _ _ _ c.deref-in-Whole.ensures.value (map-id _ ∙ ap (whole_elements range_of_short) (sym c.in-Whole.is) ∙ ap ranges_of c.self.view_is) in
    record { gives = subst (GivesChainAt c.args.probe c.find_chain-in-Whole.result) e c.find_chain-in-Whole.ensures.gives }

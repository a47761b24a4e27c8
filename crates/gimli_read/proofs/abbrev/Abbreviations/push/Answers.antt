use Rattle.gimli_read.proofs.Common.{length, ap, Abbrev}
use Rattle.gimli_read.proofs.AbbrevLemmas.{distinct-push}
use Rattle.gimli_read.proofs.PlaceLemmas.{placed_apart, placed_first, placed-push}
use Rattle.gimli_read.proofs.abbrev.Abbreviations.push.Goals as goal

pub invariant_of-self : goal.invariant_of-self
invariant_of-self c =
    let new = rw (← c.self.view_is) at c.requires.new in
    let others = rw (ap (λ (a : Abbrev). a.code) c.abbreviation.view_is) at c.note_place.ensures.after in
    let placed = placed_first _ _ _ _ _ c.self.inside.displaced c.deref.ensures.value c.first_code_with-self-inside.ensures.gives c.self.invariant.1 in
    (c.self.invariant.0, placed_apart _ _ c.self.inside.displaced c.note_place.new.displaced _ c.self.invariant.0 placed new others)

pub invariant_of-self-in_err-push : goal.invariant_of-self-in_err-push
invariant_of-self-in_err-push c =
    let new = rw (← c.self.view_is) at c.requires.new in
    let others = rw (ap (λ (a : Abbrev). a.code) c.abbreviation.view_is) at c.note_place.ensures.after in
    let placed = placed_first _ _ _ _ _ c.self.inside.displaced c.deref.ensures.value c.first_code_with-self-inside.ensures.gives c.self.invariant.1 in
    rw c.in_err-push.ensures.items (c.self.invariant.0, placed_apart _ _ c.self.inside.displaced c.note_place.new.displaced _ c.self.invariant.0 placed new others)

pub invariant_of-self-2 : goal.invariant_of-self-2
invariant_of-self-2 c =
    let new = rw (← c.self.view_is) at c.requires.new in
    let code_is = ap (λ (a : Abbrev). a.code) c.abbreviation.view_is in
    let others = rw code_is at c.note_place.ensures.after in
    let placed = placed_first _ _ _ _ _ c.self.inside.displaced c.deref.ensures.value c.first_code_with-self-inside.ensures.gives c.self.invariant.1 in
    let noted = rw (c.abs_diff.ensures, code_is, ap length c.as_slice-index.ensures.value) at c.in_ok-note_place.ensures.found in
    let apart = placed_apart _ _ c.self.inside.displaced c.note_place.new.displaced _ c.self.invariant.0 placed new others in
    rw c.in_ok-push.ensures.items (distinct-push _ _ c.self.invariant.0 new, placed-push _ _ c.note_place.new.displaced _ apart noted)

use Rattle.gimli_read.proofs.Common.{List, sym, ap, ◌∙◌, slice_get, Abbrev}
use Rattle.gimli_read.specs.AbbreviationPlaces.{if_coded}
use Rattle.gimli_read.proofs.PlaceLemmas.{coded_found, displaced_found, led_to}
use Rattle.gimli_read.proofs.abbrev.Abbreviations.get.Goals as goal

pub returns-in-Some : goal.returns-in-Some
returns-in-Some c =
    let p = rw c.self.view_is at c.self.invariant in
    let held = ap (λ (t : List Abbrev). if_coded c.args.code (slice_get t c.abs_diff-place.result)) (sym (c.deref.ensures.value ∙ c.self.view_is)) ∙ sym (c.in-Some.ensures.found) in
    record { found = sym (coded_found c.args.self.now p.0 c.args.code c.abs_diff-place.result c.in-Some.abbreviation.now held) }

pub returns-in-Some-get : goal.returns-in-Some-get
returns-in-Some-get c =
    let p = rw c.self.view_is at c.self.invariant in
    let held = ap (λ (t : List Abbrev). if_coded c.args.code (slice_get t c.abs_diff-place.result)) (sym (c.deref.ensures.value ∙ c.self.view_is)) ∙ sym (c.in_default.ensures.found) in
    let led = c.coded_at-in-Some-get.ensures.found ∙ ap (λ (t : List Abbrev). if_coded c.args.code (slice_get t c.in-Some-get.index.now)) (c.deref-in-Some-get.ensures.value ∙ c.self.view_is) in
    record { found = led ∙ ap (led_to c.args.code c.args.self.now) (c.in-Some-get.ensures.value) ∙ displaced_found c.args.self.now c.self.inside.first c.self.inside.displaced p.0 p.1 c.args.code (rw c.abs_diff-place.ensures at held) }

pub returns-in-None : goal.returns-in-None
returns-in-None c =
    let p = rw c.self.view_is at c.self.invariant in
    let held = ap (λ (t : List Abbrev). if_coded c.args.code (slice_get t c.abs_diff-place.result)) (sym (c.deref.ensures.value ∙ c.self.view_is)) ∙ sym (c.in_default.ensures.found) in
    record { found = ap (led_to c.args.code c.args.self.now) (c.in-None.ensures.value) ∙ displaced_found c.args.self.now c.self.inside.first c.self.inside.displaced p.0 p.1 c.args.code (rw c.abs_diff-place.ensures at held) }

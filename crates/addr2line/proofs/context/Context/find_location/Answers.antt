use Rattle.addr2line.proofs.Common.{[], cover, Err, None, Ok, Option, UnitRange, ap, refl, sym, ◌∙◌, ◌≡◌, err_from_is_err_and}
use Rattle.addr2line_lines.specs.LentLocation.{as_location}
use Rattle.addr2line_units.proofs.LocationsWalkLemmas.{location_told}
use Rattle.addr2line.proofs.ContextLemmas.{after_lookup, covers_none, finds_none, found_stopped, has_no_fault, located_alone, located_context, location_is, ready_told, stored_now, told_uncovered, uncovered_by}
use Rattle.addr2line.proofs.context.Context.find_location.Goals as goal

pub invariant_of-self : goal.invariant_of-self
invariant_of-self g c =
    let s = c.self.inside in
    let e = rw c.find-ranges.ensures.gives at c.walk.ensures in
    located_context s.ranges s.units c.self.invariant g.R.Reader.shares c.args.probe c.walk.result c.walk.new.self e.after

pub returns-in_err-walk : goal.returns-in_err-walk
returns-in_err-walk g c =
    let s = c.self.inside in
    let i = c.self.invariant in
    let p = err_from_is_err_and c.from_residual.result c.from_residual.ensures.1 in
    let e = rw c.find-ranges.ensures.gives at c.in_err-walk.ensures in
    let now = c.walk.new.self in
    let x = c.in_err-walk.field-0.0 in
    let told = location_told {X = Option UnitRange} c.args.probe (cover c.args.probe s.ranges) s.units (Err x) now.stop e.gives in
    let is = location_is s.ranges s.units i c.args.probe in
    let no : (cover c.args.probe s.ranges ≡ [] → ⊥) = (λ none. has_no_fault s.ranges s.units i c.args.probe none x (told (told_uncovered s.ranges s.units i g.R.Reader.shares c.args.probe (Err x) now e.after none))) in
    rw (p.1, p.2, sym c.self.view_is) (
      (
        refl,
        (λ _. tt),
        record {
          after = after_lookup s.ranges s.units i g.R.Reader.shares c.args.probe (Err x) now e.after (Err x) (λ h. h) (λ h. h) (λ h. absurd cc);
          stored = λ n. stored_now s.ranges s.units i g.R.Reader.shares c.args.probe (Err x) now e.after ∙ e.gives n;
          refused = e.after.stop;
          no_memory = located_alone s.ranges s.units i g.R.Reader.shares c.args.probe (Err x) now e.after;
        },
      ),
      record {
        gives = record {
          found = λ n. is ∙ told n;
          exact = λ ready. is ∙ told (ready_told s.ranges s.units i g.R.Reader.shares c.args.probe (Err x) now e.after ready);
          none = λ q. absurd (no (covers_none s.ranges s.units i c.args.probe q));
          last = λ q. uncovered_by s.ranges s.units i c.args.probe (sym c.find-ranges.ensures.gives ∙ c.find-ranges.ensures.last q);
        };
        ends = tt;
      },
    )

pub returns : goal.returns
returns g c =
    let s = c.self.inside in
    let i = c.self.invariant in
    let e = rw c.find-ranges.ensures.gives at c.in_ok-walk.ensures in
    let now = c.walk.new.self in
    let found = c.location.result in
    let place : Option UnitRange = c.in_ok-walk.field-0 in
    let told = location_told {X = Option UnitRange} c.args.probe (cover c.args.probe s.ranges) s.units (Ok place) now.stop e.gives ∙ ap (λ l. Ok l) (sym c.location.ensures.gives) in
    let gives = location_is s.ranges s.units i c.args.probe ∙ told in
    let nothing : (cover c.args.probe s.ranges ≡ [] → found ≡ None) = (λ none. finds_none s.ranges s.units i c.args.probe none as_location found told) in
    rw (sym c.self.view_is) (
      (
        refl,
        (λ _. tt),
        record {
          after = after_lookup s.ranges s.units i g.R.Reader.shares c.args.probe (Ok place) now e.after (Ok found) (λ h. tt) (λ h. tt) (found_stopped as_location found now.stop c.location.ensures.gives);
          stored = stored_now s.ranges s.units i g.R.Reader.shares c.args.probe (Ok place) now e.after ∙ e.gives;
          refused = tt;
          no_memory = λ none. tt;
        },
      ),
      record {
        gives = record {
          found = gives;
          exact = λ ready. gives;
          none = λ q. ap (λ l. Ok l) (nothing (covers_none s.ranges s.units i c.args.probe q));
          last = λ q. uncovered_by s.ranges s.units i c.args.probe (sym c.find-ranges.ensures.gives ∙ c.find-ranges.ensures.last q);
        };
        ends = tt;
      },
    )

use Rattle.addr2line.proofs.Common.{Err, Ok, ap, refl, sym, ◌∙◌, err_from_is_err_and, cover_range, spans_of, TakeNone, UnitsState}
use Rattle.addr2line_units.proofs.UnitsLinesLemmas.{none_more_along}
use Rattle.addr2line.proofs.ContextLemmas.{after_range_lookup, at_made, lines_context}
use Rattle.addr2line.proofs.context.Context.find_location_range.Goals as goal

pub invariant_of-self : goal.invariant_of-self
invariant_of-self g c =
    let s = c.self.inside in
    let a = rw c.find_range.ensures.gives at c.cache_lines.ensures.after in
    lines_context s.ranges s.units c.self.invariant _ c.cache_lines.new.self a.lines

pub cached_rows-requires : goal.cached_rows-requires
cached_rows-requires g c =
    let s = c.self.inside in
    let i = c.self.invariant in
    let a = rw c.find_range.ensures.gives at c.in_ok-cache_lines.ensures.after in
    let now = c.cache_lines.new.self in
    record { parsed = (after_range_lookup s.ranges s.units i {X = Unit {0}} {Y = Unit {0}} g.R.Reader.shares c.args.low c.args.high (Ok tt) now a (Ok tt) (λ told parsed. parsed) (λ h. h)).ready tt }

pub returns-in_err-cache_lines : goal.returns-in_err-cache_lines
returns-in_err-cache_lines g c =
    let s = c.self.inside in
    let i = c.self.invariant in
    let p = err_from_is_err_and c.from_residual.result c.from_residual.ensures.1 in
    let a = rw c.find_range.ensures.gives at c.in_err-cache_lines.ensures.after in
    let now = c.cache_lines.new.self in
    let rows = cover_range c.args.low c.args.high s.ranges in
    let shares = g.R.Reader.shares in
    rw (p.1, p.2, sym c.self.view_is) (
      (refl, (λ _. tt), after_range_lookup s.ranges s.units i g.R.Reader.shares c.args.low c.args.high (Err c.in_err-cache_lines.field-0.0) now a (Err c.in_err-cache_lines.field-0.0) (λ told. absurd (told a.refused)) (λ h. h)),
      record {
        gives = record {
          found = tt;
          refused = a.refused;
          exact = λ none. absurd (a.memory (none_more_along shares s.units.units s.units.parsed now.parsed a.lines.parsed rows (at_made s.ranges s.units i (λ x xs rs. TakeNone shares xs s.units.parsed (cover_range c.args.low c.args.high rs)) none)) a.refused);
        };
        ends = tt;
      },
    )

pub returns : goal.returns
returns g c =
    let s = c.self.inside in
    let i = c.self.invariant in
    let a = rw c.find_range.ensures.gives at c.in_ok-cache_lines.ensures.after in
    let now = c.cache_lines.new.self in
    rw (sym c.self.view_is) (
      (refl, (λ _. tt), after_range_lookup s.ranges s.units i g.R.Reader.shares c.args.low c.args.high (Ok tt) now a (Ok c.cached_rows.result) (λ told parsed. parsed) (λ h. h)),
      record {
        gives = record {
          found = ap (λ (x : UnitsState). spans_of x.scope.file.sections c.args.low c.args.high) (sym a.lines.same) ∙ c.cached_rows.ensures.gives;
          refused = tt;
          exact = λ none. refl;
        };
        ends = tt;
      },
    )

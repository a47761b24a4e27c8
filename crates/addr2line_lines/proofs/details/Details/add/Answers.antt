use Rattle.addr2line_lines.proofs.Common.{◌≡◌, refl, ◌++◌, ◌∷◌, [], ◌+◌, None, length, map, option_map, slice_index_or, ap, arith, length-append, ◌∙◌, subst, sym, append-nil, length-map, map-append, err_from_is_err_and, FunctionDetail, FoundInlined, as_lists, CachedDetails, as_details, as_scope, or_right}
use Rattle.addr2line_lines.specs.Grown.{IsGrown}
use Rattle.addr2line_lines.proofs.CostLemmas.{refused_part}
use Rattle.addr2line_lines.proofs.DetailMemory.{found_takes}
use Rattle.addr2line_lines.proofs.DetailOrder.{detail_part}
use Rattle.addr2line_lines.proofs.DetailPlaces.{AreCachedAt, detail_cached, place_cached, sorted_more}
use Rattle.addr2line_lines.proofs.NestingLemmas.{grown_by, grown_not}
use Rattle.addr2line_lines.proofs.details.Details.add.Given.{Over}
use Rattle.addr2line_lines.proofs.details.Details.add.Goals as goal
use Rattle.addr2line_lines.proofs.Facts.{last_name}

pub returns-in_err-read-clause-gives : goal.returns-in_err-read-clause-gives
returns-in_err-read-clause-gives g c =
    let p = err_from_is_err_and c.from_residual.result c.from_residual.ensures.1 in
    rw (p.1, p.2) (refused_part g.R.Reader.shares _ (detail_part (as_scope c.args.scope) c.args.unit.now c.args.offset.0 (as_lists c.args.self.now.inlined)) c.in_err-read.ensures.gives)

-- memory may be taken, as the detail was read
pub returns-in_err-push-clause-gives : goal.returns-in_err-push-clause-gives
returns-in_err-push-clause-gives g c =
    let p = err_from_is_err_and c.from_residual-in_err-push.result c.from_residual-in_err-push.ensures.1 in
    let whole = found_takes (as_scope c.args.scope) c.args.unit.now c.args.offset.0 (as_lists c.args.self.now.inlined) _ c.in_ok-read.ensures.gives in
    rw (p.1, p.2) (λ ne. absurd (ne (or_right g.R.Reader.shares _ whole) refl))

module _ (g : Over) (c : goal.After-len-2 g) where
  abbrev old : CachedDetails
  old = as_details g.R.Reader.section c.args.self.now

  abbrev listed : FoundInlined
  listed = as_lists c.read_detail.new.found

  abbrev more : CachedDetails
  more = record {
    names = map (option_map g.R.Reader.section) c.push.new.self.items;
    found = record { entries = listed.entries; ranges = c.sort_from.new.self.elements };
    known = c.read_detail.new.names;
  }

  abbrev made : FunctionDetail
  made = record {
    name = c.len-name.result;
    inlined_begin = c.len-inlined_begin.result;
    inlined_end = c.len.result;
    ranges_begin = c.len-ranges_begin.result;
    ranges_end = c.len-2.result;
    listed = c.of-listed.result;
  }

  -- the names that were cached, and one more
  longer : length more.names ≡ length old.names + 1
  longer =
      let see = option_map g.R.Reader.section in
      let names = c.args.self.now.names.items in
      let a : length more.names ≡ length names + 1 = length-map c.push.new.self.items see ∙ ap (λ xs. length xs) c.in_ok-push.ensures.items ∙ length-append names (c.in_ok-read.read ∷ []) in
      let b : length old.names ≡ length names = length-map names see in
      omega arith

  place : made.name ≡ length old.names
  place = c.len-name.ensures ∙ c.args.self.now.names.ok.0 ∙ sym (length-map c.args.self.now.names.items (option_map g.R.Reader.section))

  -- where what was found is cached
  at : AreCachedAt (option_map g.R.Reader.section c.in_ok-read.read) old.found listed more made
  at =
      let see = option_map g.R.Reader.section in
      let names = c.args.self.now.names.items in
      let n = place in
      let l = longer in
      record {
        name_is = ap (λ xs. slice_index_or (map see xs) made.name None) c.in_ok-push.ensures.items
            ∙ ap (λ n. slice_index_or (map see (names ++ c.in_ok-read.read ∷ [])) n None) (c.len-name.ensures ∙ c.args.self.now.names.ok.0)
            ∙ last_name see names c.in_ok-read.read None;
        name_there = omega arith;
        inlined_begin = c.len-inlined_begin.ensures.gives;
        inlined_end = c.len.ensures.gives;
        ranges_begin = c.len-ranges_begin.ensures.gives;
        ranges_end = c.len-2.ensures.gives;
        entries = refl;
        listed_is = ap (λ v. v.elements) c.of-listed.ensures;
        ranges = c.sort_from.ensures.gives;
      }

pub returns-clause-gives : goal.returns-clause-gives
returns-clause-gives g c = detail_cached (as_scope c.args.scope) c.args.unit.now c.args.offset.0 _ (old g c).found (listed g c) c.in_ok-read.ensures.gives (more g c) (made g c) (at g c)

pub returns-clause-kept : goal.returns-clause-kept
returns-clause-kept g c =
    let see = option_map g.R.Reader.section in
    let names = c.args.self.now.names.items in
    record {
      names = grown_by _ _ _ (ap (λ xs. map see xs) c.in_ok-push.ensures.items ∙ map-append see names (c.in_ok-read.read ∷ []));
      found = record {
        entries = c.in_ok-read.ensures.kept.entries;
        ranges = subst (IsGrown (old g c).found.ranges) (sym c.sort_from.ensures.gives) (sorted_more (made g c).ranges_begin (old g c).found.ranges (listed g c).ranges (at g c).ranges_begin c.in_ok-read.ensures.kept.ranges);
      };
      known = c.in_ok-read.ensures.names;
    }

pub returns-clause-within : goal.returns-clause-within
returns-clause-within g c = place_cached (as_scope c.args.scope) c.args.unit.now c.args.offset.0 _ (old g c).found (listed g c) c.in_ok-read.ensures.gives (more g c) (made g c) (at g c)

pub returns-clause-after : goal.returns-clause-after
returns-clause-after g c =
    let a = at g c in
    record {
      name = place g c;
      names = longer g c;
      inlined_begin = a.inlined_begin;
      inlined_end = a.inlined_end;
      ranges_begin = a.ranges_begin;
      ranges_end = a.ranges_end;
    }

pub returns-in_err-read-clause-kept : goal.returns-in_err-read-clause-kept
returns-in_err-read-clause-kept g c = record { names = grown_not _; found = c.in_err-read.ensures.kept; known = c.in_err-read.ensures.names }

pub returns-in_err-read-clause-within : goal.returns-in_err-read-clause-within
returns-in_err-read-clause-within g c = let p = err_from_is_err_and c.from_residual.result c.from_residual.ensures.1 in rw p.1 tt

pub returns-in_err-read-clause-after : goal.returns-in_err-read-clause-after
returns-in_err-read-clause-after g c = let p = err_from_is_err_and c.from_residual.result c.from_residual.ensures.1 in rw p.1 tt

pub returns-in_err-read-clause-names : goal.returns-in_err-read-clause-names
returns-in_err-read-clause-names g c = let p = err_from_is_err_and c.from_residual.result c.from_residual.ensures.1 in rw p.1 refl

pub returns-in_err-push-clause-kept : goal.returns-in_err-push-clause-kept
returns-in_err-push-clause-kept g c = record { names = grown_by _ _ [] (ap (map (option_map g.R.Reader.section)) c.in_err-push.ensures.items ∙ sym (append-nil _)); found = c.in_ok-read.ensures.kept; known = c.in_ok-read.ensures.names }

pub returns-in_err-push-clause-within : goal.returns-in_err-push-clause-within
returns-in_err-push-clause-within g c = let p = err_from_is_err_and c.from_residual-in_err-push.result c.from_residual-in_err-push.ensures.1 in rw p.1 tt

pub returns-in_err-push-clause-after : goal.returns-in_err-push-clause-after
returns-in_err-push-clause-after g c = let p = err_from_is_err_and c.from_residual-in_err-push.result c.from_residual-in_err-push.ensures.1 in rw p.1 tt

pub returns-in_err-push-clause-names : goal.returns-in_err-push-clause-names
returns-in_err-push-clause-names g c = let p = err_from_is_err_and c.from_residual-in_err-push.result c.from_residual-in_err-push.ensures.1 in rw p.1 (ap (map (option_map g.R.Reader.section)) c.in_err-push.ensures.items)

pub returns-clause-names : goal.returns-clause-names
returns-clause-names g c = tt

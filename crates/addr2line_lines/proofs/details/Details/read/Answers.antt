use Rattle.addr2line_lines.proofs.Common.{◌≡◌, length, sym, subst, ◌∙◌, AreNamesMore, as_lists, as_details}
use Rattle.addr2line_lines.proofs.CachedNameLemmas.{first_names, known_same, names_same}
use Rattle.addr2line_lines.proofs.DetailPlaces.{details_refused, first_is}
use Rattle.addr2line_lines.proofs.details.Details.read.Goals as goal

pub returns-in-OutOfMemory-clause-refused : goal.returns-in-OutOfMemory-clause-refused
returns-in-OutOfMemory-clause-refused g c =
    let old = as_details g.R.Reader.section c.args.self.now in
    let entries : c.len-functions.result ≡ length old.found.entries = c.len-functions.ensures.gives in
    let more : AreNamesMore old.known c.add.new.self.known = c.in-Err.ensures.kept.known in
    let names = c.truncate-in-OutOfMemory.ensures.names ∙ first_names c.len-known.result old.known.names c.add.new.self.known.names more.grown c.len-known.ensures.gives in
    let unit = c.truncate-in-OutOfMemory.ensures.unit ∙ more.unit in
    record {
      names = c.in-Err.ensures.names;
      found = c.truncate.ensures.gives ∙ first_is c.len-functions.result c.len-ranges.result old.found (as_lists c.add.new.self.inlined) c.in-Err.ensures.kept.found entries c.len-ranges.ensures.gives;
      memory = λ _. known_same _ _ unit names;
    }

pub returns-in-OutOfMemory-clause-kept : goal.returns-in-OutOfMemory-clause-kept
returns-in-OutOfMemory-clause-kept g c =
    let old = as_details g.R.Reader.section c.args.self.now in
    let refused = returns-in-OutOfMemory-clause-refused g c in
    details_refused _ _ c.in-Err.error refused (subst (AreNamesMore old.known) (sym (refused.memory c.in-OutOfMemory.is)) (names_same old.known))

pub returns-in_default-clause-refused : goal.returns-in_default-clause-refused
returns-in_default-clause-refused g c =
    let old = as_details g.R.Reader.section c.args.self.now in
    let entries : c.len-functions.result ≡ length old.found.entries = c.len-functions.ensures.gives in
    record {
      names = c.in-Err.ensures.names;
      found = c.truncate.ensures.gives ∙ first_is c.len-functions.result c.len-ranges.result old.found (as_lists c.add.new.self.inlined) c.in-Err.ensures.kept.found entries c.len-ranges.ensures.gives;
      memory = λ oom. absurd (c.in_default.not-OutOfMemory oom);
    }

pub returns-in_default-clause-kept : goal.returns-in_default-clause-kept
returns-in_default-clause-kept g c = details_refused _ _ c.in-Err.error (returns-in_default-clause-refused g c) c.in-Err.ensures.kept.known

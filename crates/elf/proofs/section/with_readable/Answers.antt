use Rattle.elf.proofs.Common.{◌≡◌, ◌∙◌, true, false, Result, Ok, Err, sym, IfOk, list_all, Image, IsWhole, AreReadable, is_readable}
use Rattle.elf.specs.declared.error.LoaderError.{LoaderError}
use Rattle.elf.proofs.FileTableLemmas.{all_at, all_of_each, whole_readable}
use Rattle.elf.proofs.section.with_readable.Goals as goal

pub returns-then-are_readable-clause-known : goal.returns-then-are_readable-clause-known
returns-then-are_readable-clause-known c = λ n s e.
    let all : list_all (is_readable c.args.file c.args.names.now) c.args.sections.now ≡ true = sym c.are_readable.ensures.gives ∙ c.if-are_readable.true in
    all_at (is_readable c.args.file c.args.names.now) c.args.sections.now n s all e

pub returns-clause-known : goal.returns-clause-known
returns-clause-known c = by_result c.flattened.result c.flattened.ensures.whole
  where
    by_result : (r : Result Image LoaderError) → IfOk r IsWhole → IfOk r (λ f. AreReadable f c.args.names.now c.args.sections.now)
    by_result (Ok f) w = whole_readable f c.args.names.now c.args.sections.now w
    by_result (Err e) w = tt

pub returns-clause-exact : goal.returns-clause-exact
returns-clause-exact c = λ readable.
    let all : list_all (is_readable c.args.file c.args.names.now) c.args.sections.now ≡ true = all_of_each (is_readable c.args.file c.args.names.now) c.args.sections.now readable in
    let refused : list_all (is_readable c.args.file c.args.names.now) c.args.sections.now ≡ false = sym c.are_readable.ensures.gives ∙ c.if-are_readable.false in
    absurd cc

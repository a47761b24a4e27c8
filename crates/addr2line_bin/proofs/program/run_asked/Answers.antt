use Rattle.addr2line_bin.proofs.Common.{Some, inl, inr, map, refl, IsText}
use Rattle.addr2line_bin.proofs.AnswerLemmas.{text_before}
use Rattle.addr2line_bin.proofs.PrintingLemmas.{lines_printed, run_before, run_printed}
use Rattle.addr2line_bin.proofs.program.run_asked.Goals as goal

pub returns-in-Ok : goal.returns-in-Ok
returns-in-Ok g c =
    let a = g.L.Lookups.answers c.args.lookups.now in
    let b = g.L.Lookups.answers c.all_addresses.new.lookups in
    let context = c.args.context.now in
    let o = g.W.Stream.state in
    let e = g.E.Stream.state in
    let items = c.in-Ok.addresses.items in
    let name = context.name.now in
    record {
      gives = rw c.in-All.is (
        inl (
          items,
          c.in-Ok.ensures.gives,
          run_before (IsText b context) (IsText a context) (text_before a b c.all_addresses.ensures.kept context) name (o c.args.out.now) (o c.print_addresses-printed.new.out) (e c.args.err.now) (e c.end_run.new.err) (map Some items) c.end_run.result
              (run_printed (IsText b context) name (o c.args.out.now) (o c.print_addresses-printed.new.out) (e c.args.err.now) (e c.print_addresses-printed.new.err) (e c.end_run.new.err) (map Some items) c.print_addresses-printed.result c.end_run.result
              (rw c.as_slice.ensures.value at c.print_addresses-printed.ensures.gives) c.end_run.ensures.gives),
        ),
        refl,
      );
    }

pub returns-in-Err : goal.returns-in-Err
returns-in-Err g c = record { gives = rw c.in-All.is (inr ((refl, rw c.in-Err.ensures.refused at c.tell_addresses_fault.ensures.after), c.tell_addresses_fault.ensures.gives), refl) }

pub returns-in-Words : goal.returns-in-Words
returns-in-Words g c =
    let o = g.W.Stream.state in
    let e = g.E.Stream.state in
    record {
      gives = rw c.in-Words.is (
        run_printed (IsText (g.L.Lookups.answers c.args.lookups.now) c.args.context.now) c.args.context.now.name.now (o c.args.out.now) (o c.print_words-printed.new.out) (e c.args.err.now) (e c.print_words-printed.new.err) (e c.end_run-in-Words.new.err) _ c.print_words-printed.result c.end_run-in-Words.result
            (rw c.as_slice-in-Words.ensures.value at c.print_words-printed.ensures.gives) c.end_run-in-Words.ensures.gives,
        refl,
      );
    }

pub returns-in-Lines : goal.returns-in-Lines
returns-in-Lines g c =
    let a = c.print_lines-printed.ensures.gives in
    let i = g.I.Input.state in
    let o = g.W.Stream.state in
    let e = g.E.Stream.state in
    record {
      gives = rw c.in-Lines.is (
        a.0,
        lines_printed (IsText (g.L.Lookups.answers c.args.lookups.now) c.args.context.now) c.args.context.now.name.now (i c.args.input.now) (i c.print_lines-printed.new.input) a.0 (o c.args.out.now) (o c.print_lines-printed.new.out) (e c.args.err.now) (e c.print_lines-printed.new.err) (e c.end_run-in-Lines.new.err) c.print_lines-printed.result c.end_run-in-Lines.result
            a.1 c.end_run-in-Lines.ensures.gives,
      );
    }

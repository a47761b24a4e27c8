use Rattle.addr2line.proofs.Common.{Ok, refl, subst, sym, err_from_is_err_and, frames_left, as_read_if_known}
use Rattle.addr2line.specs.LoadsByFiles.{AfterFramesByFiles}
use Rattle.addr2line.proofs.ByFilesLemmas.{gives_by_files}
use Rattle.addr2line.proofs.NoLoadLemmas.{gives_exactly, gives_if_none, last_frames}
use Rattle.addr2line.proofs.loader.LoaderOver.find_frames.Goals as goal

pub returns-in_err-answer_loads : goal.returns-in_err-answer_loads
returns-in_err-answer_loads g c =
    let p = err_from_is_err_and c.from_residual.result c.from_residual.ensures.1 in
    let files = as_read_if_known c.args.self.now.compressed (g.F.FileSource.files c.args.self.now.files) in
    let probe = c.args.probe in
    let first = c.args.self.now.context in
    let now = c.answer_loads.new.ctx in
    let told = c.in_err-answer_loads.ensures.after.by_files in
    let a = told.answers in
    let b = told.lookup in
    rw (p.1, p.2) (
      (refl, (λ _. tt), record { compressed = refl; files = refl; object = refl; context = a; lookup = b }),
      record {
        gives = record {
          by_files = told.refused;
          ended = λ w. gives_if_none files probe first now a w _ b;
          exact = λ w few. gives_exactly files probe first now a w _ b few;
          none = λ u. last_frames probe first u _ (λ w few. gives_exactly files probe first now a w _ b few);
          last = c.answer_loads.ensures.after.last;
        };
        ends = tt;
      },
    )

pub returns-in-Ok : goal.returns-in-Ok
returns-in-Ok g c =
    let files = as_read_if_known c.args.self.now.compressed (g.F.FileSource.files c.args.self.now.files) in
    let probe = c.args.probe in
    let first = c.args.self.now.context in
    let now = c.answer_loads.new.ctx in
    let told = rw c.in-Ok.is at c.in_ok-answer_loads.ensures.after.by_files in
    let a = told.answers in
    let given = Ok (frames_left c.found_frames.result) in
    let b = subst (λ frames. AfterFramesByFiles probe (Ok frames) first now) (sym c.found_frames.ensures.gives) told.lookup in (
      (refl, (λ _. tt), record { compressed = refl; files = refl; object = refl; context = a; lookup = b }),
      record {
        gives = record {
          by_files = gives_by_files files probe first now a given b tt;
          ended = λ w. gives_if_none files probe first now a w given b;
          exact = λ w few. gives_exactly files probe first now a w given b few;
          none = λ u. last_frames probe first u given (λ w few. gives_exactly files probe first now a w given b few);
          last = c.answer_loads.ensures.after.last;
        };
        ends = tt;
      },
    )

pub returns-in-Err : goal.returns-in-Err
returns-in-Err g c =
    let files = as_read_if_known c.args.self.now.compressed (g.F.FileSource.files c.args.self.now.files) in
    let probe = c.args.probe in
    let first = c.args.self.now.context in
    let now = c.answer_loads.new.ctx in
    let told = rw (c.in-Err.is, sym c.from.ensures) at c.in_ok-answer_loads.ensures.after.by_files in
    let a = told.answers in
    let b = told.lookup in (
      (refl, (λ _. tt), record { compressed = refl; files = refl; object = refl; context = a; lookup = b }),
      record {
        gives = record {
          by_files = told.refused;
          ended = λ w. gives_if_none files probe first now a w _ b;
          exact = λ w few. gives_exactly files probe first now a w _ b few;
          none = λ u. last_frames probe first u _ (λ w few. gives_exactly files probe first now a w _ b few);
          last = c.answer_loads.ensures.after.last;
        };
        ends = tt;
      },
    )

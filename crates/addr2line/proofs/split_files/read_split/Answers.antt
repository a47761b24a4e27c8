use Rattle.addr2line.proofs.Common.{Ok, Err, Some, refl, sym, ap, false, true, ◌∙◌, err_from_is_err_and, id_of_unit, is_same_id}
use Rattle.gimli.specs.Split.{split_sections}
use Rattle.addr2line.proofs.LoadingLemmas.{no_oom}
use Rattle.addr2line.proofs.SplitFileLemmas.{as_made, id_read, split_is, split_tested, split_unread}
use Rattle.addr2line.proofs.Facts.{never_fault}
use Rattle.addr2line.proofs.split_files.read_split.Goals as goal

pub returns-in_err-read_sections : goal.returns-in_err-read_sections
returns-in_err-read_sections g c =
    let p = err_from_is_err_and c.from_residual.result c.from_residual.ensures.1 in
    rw (p.1, p.2) (record { gives = λ ne. split_unread (g.S.SectionSource.given c.args.file.now) c.args.load.now _ (c.in_err-read_sections.ensures.gives ne); other = tt })

pub returns-in_err-read_first_unit : goal.returns-in_err-read_first_unit
returns-in_err-read_first_unit g c =
    let p = err_from_is_err_and c.from_residual-in_err-read_first_unit.result c.from_residual-in_err-read_first_unit.ensures.1 in
    let e = c.in_err-read_first_unit.field-0.0 in
    rw (p.1, p.2) (record {
      gives = λ ne.
          split_is (g.S.SectionSource.given c.args.file.now) c.args.load.now c.in_ok-read_sections.field-0 c.as_dwarf-dwarf.result c.in_ok-read_sections.ensures.gives c.as_dwarf-dwarf.ensures.gives (Err e) (c.in_err-read_first_unit.ensures.gives (λ _. no_oom e ne));
      other = tt;
    })

pub returns-then-not-is_same : goal.returns-then-not-is_same
returns-then-not-is_same g c =
    let unit = c.in_ok-read_first_unit.field-0 in
    let test = ap (is_same_id c.args.load.now.dwo_id) (sym c.id_of-id.ensures.gives) ∙ ap (λ l. is_same_id l.dwo_id c.id_of-id.result) (sym c.load.view_is) ∙ sym c.is_same.ensures.gives ∙ c.if-not-is_same.true in
    record {
      gives = split_tested (g.S.SectionSource.given c.args.file.now) c.args.load.now c.in_ok-read_sections.field-0 c.as_dwarf-dwarf.result c.in_ok-read_sections.ensures.gives c.as_dwarf-dwarf.ensures.gives unit false c.in_ok-read_first_unit.ensures.gives test;
      other = (
        ap (is_same_id c.args.load.now.dwo_id) c.id_of-id.ensures.gives ∙ test,
        id_read (g.S.SectionSource.given c.args.file.now) c.args.load.now c.in_ok-read_sections.field-0 c.as_dwarf-dwarf.result c.in_ok-read_sections.ensures.gives c.as_dwarf-dwarf.ensures.gives unit c.in_ok-read_first_unit.ensures.gives ∙ ap Ok (sym c.id_of-id.ensures.gives),
      );
    }

pub returns-in_err-make_dwo : goal.returns-in_err-make_dwo
returns-in_err-make_dwo g c =
    let p = err_from_is_err_and c.from_residual-in_err-make_dwo.result c.from_residual-in_err-make_dwo.ensures.1 in
    let e = c.in_err-make_dwo.field-0.0 in
    rw (p.1, p.2) (record { gives = λ ne. never_fault _ e (c.in_err-make_dwo.ensures.gives (λ _. no_oom e ne)); other = tt })

pub returns-in_err-new : goal.returns-in_err-new
returns-in_err-new g c =
    let p = err_from_is_err_and c.from_residual-in_err-new.result c.from_residual-in_err-new.ensures.1 in
    rw (p.1, p.2) (record { gives = λ ne. absurd (ne refl); other = tt })

pub returns : goal.returns
returns g c =
    let unit = c.in_ok-read_first_unit.field-0 in
    let d = c.as_dwarf-dwarf.result in
    let test = ap (is_same_id c.args.load.now.dwo_id) (sym c.id_of-id.ensures.gives) ∙ ap (λ l. is_same_id l.dwo_id c.id_of-id.result) (sym c.load.view_is) ∙ sym c.is_same.ensures.gives ∙ c.if-not-is_same.false in
    record {
      gives =
          split_tested (g.S.SectionSource.given c.args.file.now) c.args.load.now c.in_ok-read_sections.field-0 d c.in_ok-read_sections.ensures.gives c.as_dwarf-dwarf.ensures.gives unit true c.in_ok-read_first_unit.ensures.gives test
          ∙ ap (λ l. Ok (Some (split_sections d l.parent))) (sym c.load.view_is)
          ∙ ap (λ parent. Ok (Some (split_sections d parent))) (sym c.deref.ensures)
          ∙ as_made _ _ c.in_ok-make_dwo.ensures.gives
          ∙ ap (λ made. Ok (Some made)) (sym c.in_ok-new.ensures.ok);
      other = tt;
    }

use Rattle.addr2line.proofs.Common.{Ok, Some, None, option_and_then, subst, sym, err_from_is_err_and, IfSome_then, LoadsUnlessOom, as_read}
use Rattle.elf.specs.FileImage.{image_bytes}
use Rattle.addr2line.specs.SplitFiles.{wanted_by}
use Rattle.addr2line.proofs.SplitFileLemmas.{split_found, still_other, still_wanted}
use Rattle.addr2line.proofs.split_files.read_answering.Goals as goal

pub returns-in_ok-without_fault-in-Some : goal.returns-in_ok-without_fault-in-Some
returns-in_ok-without_fault-in-Some g c =
    let bytes = rw c.in-Some.is at c.in_ok-file.ensures.gives in
    let read = c.in_ok-without_fault-in-Some.field-0 in
    let found = c.in_ok-without_fault-in-Some.ensures.found in
    record {
      gives = IfSome_then _ bytes (λ held e.
          subst (λ given. LoadsUnlessOom (option_and_then (wanted_by (λ f. f.sections.value))) (Ok (Some read)) (Ok given))
          (sym (split_found (as_read c.args.compressed held) c.args.load.now c.args.path.now (image_bytes c.in-Some.file) e))
          (c.in_ok-without_fault-in-Some.ensures.gives (λ f. f.sections.value) _ c.read_split_file-found.ensures.gives));
      made = still_wanted c.args.load.now _ read found _ c.read_split_file-found.ensures.made;
      other = still_other c.args.load.now _ read found _ c.read_split_file-found.ensures.other;
      refused = tt;
    }

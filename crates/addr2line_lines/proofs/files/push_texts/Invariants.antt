use Rattle.addr2line_lines.proofs.Common.{◌≡◌, map, drop}
use Rattle.std.specs.String.{string_bytes}
use Rattle.addr2line_lines.specs.FileTexts.{texts_of, texts_after}
use Rattle.addr2line_lines.proofs.files.push_texts.Given as goal

abbrev pub invariant-loop-file : goal.invariant-loop-file
invariant-loop-file g l =
    let texts = texts_of l.dwarf l.unit l.header in
    texts_after (map string_bytes l.texts.items) (texts (drop l.file-index l.files)) ≡ texts_after (map string_bytes l.fn.texts.items) (texts l.files)

-- No word so far names a file.
use Rattle.addr2line_bin.proofs.Common.{◌≡◌, drop}
use Rattle.std.specs.List.{list_any}
use Rattle.addr2line_bin.specs.CommandLine.{texts_in}
use Rattle.addr2line_bin.specs.ResponseFiles.{is_response}
use Rattle.addr2line_bin.proofs.response_files.has_response.Given as goal

abbrev pub invariant-loop-word : goal.invariant-loop-word
invariant-loop-word l =
    list_any is_response (texts_in (drop l.word-index l.words)) ≡ list_any is_response (texts_in l.words)

use Rattle.addr2line.proofs.Common.{◌≡◌, drop, map, listed_files, as_named_file}
use Rattle.addr2line.proofs.files.MemoryFilesFileSource.read.Given as goal

-- the files from here on have what all have at the path
abbrev pub invariant-loop-name : goal.invariant-loop-name
invariant-loop-name l = listed_files (map as_named_file (drop l.name-index l.name-items)) l.path ≡ listed_files l.self l.path

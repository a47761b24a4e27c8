-- What flags ask for.
-- Own: a flag is a bit, and a number with a bit that is no flag is refused.
use Rattle.std.specs.Prelude.{ℕ, ◌==◌, ◌||◌, Option, Some, None, if◌then◌else◌}
use Rattle.addr2line.specs.declared.compressed.CompressedSections.{CompressedSections}
use Rattle.addr2line.specs.declared.compressed.CompressedSections.TheVariants.{Refused, Decompressed}
use Rattle.addr2line.specs.declared.names.Style.{Style}
use Rattle.addr2line.specs.declared.names.Style.TheVariants as style

-- the flags of opening: that compressed sections are decompressed
abbrev pub compressed_by : ℕ → Option CompressedSections
compressed_by flags =
    if flags == 0 then Some Refused else (if flags == 1 then Some Decompressed else None)

-- the flags of a lookup of frames: without any names are as the file has them; with the second they
-- are legacy and v0 names of Rust, with the first alone legacy ones
abbrev pub names_by : ℕ → Option (Option Style)
names_by flags =
    if flags == 0 then Some None
    else (if flags == 1 then Some (Some style.Legacy)
    else (if flags == 2 || flags == 3 then Some (Some style.Rust) else None))

-- Names and their texts, computed.
use Rattle.std.proofs.Common.{◌≡◌, refl}
use Rattle.std.specs.Prelude.{Some, codes}
use Rattle.rust_v0.specs.Numbers.{counted, value_in}
use Rattle.rust_v0.specs.Identifiers.{identifier_at, word_at}
use Rattle.rust_v0.specs.State.{say}
use Rattle.rust_v0.specs.Shown.{say_identifier}
use Rattle.rust_v0.specs.Leaves.{root, say_named, segment}
use Rattle.rust_v0.specs.Grammar.{head, path_parts}
use Rattle.rust_v0.specs.Reads.{nested_path, parts_reading, reads, splat}
use Rattle.rust_v0.specs.Name.{instantiating, paths, spelled_text, v0_text, without_prefix}

pub worked_function : v0_text (codes "_RNvC6_123foo3bar") ≡ Some (codes "123foo::bar")
unfolding v0_text without_prefix spelled_text paths instantiating reads splat head path_parts parts_reading nested_path root segment counted identifier_at word_at value_in say_identifier say_named say
worked_function = refl

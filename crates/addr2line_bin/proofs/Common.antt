-- What many proofs of this crate cite, handed on. Declares nothing.
pub use Rattle.std.proofs.Common.{Bool, Bor, Err, IfErr, IfOk, IfSome, IsErrAnd, IsSomeAnd, List, MatchOption, MatchResult, None, Ok, OnOk, Option, Result, Some, [], add-one, ap, append-nil, append_assoc, ap₂, arith, codes, cond, drop, drop-cons, false, get_or, inl, inr, length, lt-ltb, ltb-true, map, nat_lt, option_map, refl, replicate, rules, string_bytes, subst, sym, take, true, ℕ, ◌&&◌, ◌++◌, ◌+◌, ◌-◌, ◌<◌, ◌^◌, ◌||◌, ◌∙◌, ◌∷◌, ◌≡◌, ◌≤◌, ◌⊎◌}
pub use Rattle.std.proofs.lemmas.List.{drop_all, length-append, map-append}
pub use Rattle.std.proofs.lemmas.Result.{IfErr-weaker, IfOk-weaker, err_from_is_err_and, on_ok_weaker}
pub use Rattle.std.specs.Io.KnownBytes.{Appends, IsAtEnd, Keeps}
pub use Rattle.std.specs.Option.{option_copied}
pub use Rattle.std.specs.Str.{IsUtf8, byte}
pub use Rattle.addr2line_units.specs.FramesLeft.{frames_left}
pub use Rattle.addr2line.specs.Loader.{AfterLoads, AfterLocation, AfterLocationRange, LoaderState, as_loader}
pub use Rattle.addr2line_bin.specs.Address.{is_hex, probes_in, without_hex_prefix}
unfoldable pub use Rattle.addr2line_bin.specs.Address.{address_in}
pub use Rattle.addr2line_bin.specs.Command.{address_words, long_option, long_switch, option, switch, version_letter, whole_command, with_lookup_options, with_name_styles, with_passed_options, with_style_options}
pub use Rattle.addr2line_bin.specs.FileAnswers.{FileAnswers, StaysAnswered}
pub use Rattle.addr2line_bin.specs.InputLines.{AreFirstLines, AreLines, AreLinesToFault, AreLinesToRefusal, InputState, IsInputEnd, ReadsLine, StartKnown, StartWith, TakesLine, TakesPart, line_probes}
pub use Rattle.addr2line_bin.specs.Printing.{EndsAt, EndsEarly, IsCutAtRead, IsCutOff, PrintsOf, PrintsReadUnlessStopped, PrintsRun, PrintsUnlessStopped, TextOf}
pub use Rattle.addr2line_bin.specs.ProbeTexts.{GivesFrames, GivesLocation, IsAnswerAt, IsText, MayBeGiven, ProbeAnswer, asked_symbol, looked_up}
pub use Rattle.addr2line_bin.specs.Put.{Reports, StreamState, WritesIfUnfailed, WritesPrefix, WritesUnlessFailed, has_fault, plus}

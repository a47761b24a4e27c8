-- What many proofs of this crate cite, handed on. Declares nothing.
pub use Rattle.core.proofs.alloc.Calls.{Al, Goes-blank, handle_tells}
pub use Rattle.core.proofs.cell.Inside.{Good}
pub use Rattle.std.proofs.Common.{Bool, Err, List, None, Ok, Option, Result, Some, [], ap, arith, drop, false, inl, inr, length, lit<, nat_le, not, option_and_then, option_map, refl, rules, subst, suc, sym, take, true, ℕ, ◌&&◌, ◌++◌, ◌+◌, ◌-◌, ◌<◌, ◌==◌, ◌^◌, ◌∙◌, ◌∷◌, ◌≡◌, ◌≢◌, ◌≤◌, ◌⊎◌}
pub use Rattle.std.proofs.lemmas.List.{append-nil, append_assoc, length-append, take-append-drop, take_all}
pub use Rattle.std.proofs.raw_atomic.Walks.{leaves, proved_at}
pub use base.Fml.{flft, fsep, ftrue}
pub use base.Logic.{SProp, emp, ent, fst∗, guard, guard_i, id⊢, never, snd∗, via}
pub use contract.Monad.{fact, fact_i, fact_use}
pub use contract.Running.{tables}
pub use denote.Param.{bounded, layout, param}
pub use denote.RattleType.{RattleType, Valss, owns}
pub use denote.RawPtr.{Ptr, Testable, block_ptr, in_a_block, null_ptr, ptr_val, tests_null}
pub use denote.Signature.{plain, type_at, types_at}
pub use denote.Steps.{heard, nothing, only}
pub use denote.Triple.Walked.{Stays, stay_dropped, walk_of}
pub use mir.Syntax.{a_type, dcons, dnil, impl, tnil}
pub use mir.Val.{Val, WT, has_ty, of_list, vcons, vnil, vptr, vstruct}
pub use prog.Wp.{WpFn}
pub use types.ByLocal.{alloc_all, env, free_all, get, get_in, lands_as, lands_last, look_at, pass_all, sets, sets_last}
pub use types.Kit.{ !, Goal, Item, Seq, Step, at_ret, await, by, feq_i, feq_l, fjoin, fpack, fpick, fsplit, given, join, keep, later, learn, move, pick, qed, raw, rewrite, some, split, split3, step, suffices, use0, use1, ‵, ◌$◌, ◌∵◌, ◌⊛◌}
pub use types.Logic.{Logic, sem}
pub use types.Part.{agg, sub, whole}
pub use types.Run.{and_then, bin, blocks, branches, enter, exec, first, fld, lit, no_more, of_opd, returns, stop}
pub use Rattle.gimli_read.specs.Reading.{ExactlyUnlessOom, IsUnlessOom, WasNotRefused, result_map, ◌>>=◌}
pub use Rattle.gimli_read.specs.declared.error.Error.{Error}
pub use Rattle.addr2line_units.specs.FramesLeft.{frames_left}
pub use Rattle.addr2line_units.specs.LocationsLeft.{locations_left}
pub use Rattle.addr2line_units.specs.UnitView.{SplitLoad}
pub use Rattle.addr2line.specs.SplitFiles.{of_file, or_none}
pub use Rattle.addr2line_c.specs.Calls.{AnswersToken, CallsFile, ForgetsAnswer, FramesAt, FramesBy, IsOpened, LocatesAt, OpensFile, ParsesAll, PreloadsAt, SectionNamed, SpansFrom, SymbolAt, TellsLoad, given_sup}
pub use Rattle.addr2line_c.specs.Filled.{IsFilled, saturated}
pub use Rattle.addr2line_c.specs.Sequence.{EachNames, texts_of_items, written_items}
pub use Rattle.addr2line_c.specs.Status.{after_reply, status_number, status_of_error, status_text}
pub use Rattle.addr2line_c.specs.Texts.{NamesText, optional_text, text_after, zero_ended}
pub use Rattle.addr2line_c.specs.Written.{IsWrittenFrames, IsWrittenLocation, NamesFrame, frame_name, frame_texts, frames_texts, location_file, written_frame, written_frames}
pub use Rattle.addr2line_c.specs.WrittenSpans.{IsWrittenSpans, NamesSpan, spans_from, texts_of_span, texts_of_spans, written_span, written_spans}
pub use Rattle.addr2line_c.specs.declared.file.OpenFile.{OpenFile}
pub use Rattle.addr2line_c.specs.declared.status.Status.{Status}
pub use Rattle.addr2line_c.specs.declared.status.Status.TheVariants.{Closed, Done, Nothing, OtherUnit, Refused, Waits}

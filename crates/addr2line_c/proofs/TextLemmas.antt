-- Texts in a buffer, and the parts that name them (on specs/Texts.antt, specs/Written.antt, specs/WrittenSpans.antt and
-- specs/Loads.antt).
use Rattle.addr2line_c.proofs.Common.{◌≡◌, ◌≤◌, ◌<◌, ◌+◌, ◌-◌, ◌^◌, ◌++◌, ◌∷◌, ◌∙◌, ℕ, List, [], Option, Some, None, Result, Ok, Err, ap, refl, sym, subst, length, take, drop, arith, append_assoc, append-nil, length-append, take-append-drop, Error, SplitLoad, IsFilled, saturated, EachNames, NamesText, optional_text, zero_ended, text_after, NamesFrame, location_file, frame_name, frame_texts, frames_texts, written_frame, written_frames, NamesSpan, texts_of_span, texts_of_spans, written_span, written_spans}
use Rattle.std.proofs.lemmas.Grind.{flat_map-append}
use Rattle.std.proofs.Math.Nat.{min-eq_left}
use Rattle.std.proofs.Math.Seq.{drop-append_seam, take-append_seam}
use Rattle.addr2line_lines.specs.RangeLocations.{LocatedSpan}
use Rattle.addr2line_units.specs.Frames.{FrameRecord}
use Rattle.addr2line.specs.declared.names.Style.{Style}
use Rattle.addr2line_c.specs.declared.frames.WrittenFrame.{WrittenFrame}
use Rattle.addr2line_c.specs.declared.spans.WrittenSpan.{WrittenSpan}
use Rattle.addr2line_c.specs.Loads.{NamesLoad, bytes_if, texts_of_load, written_load}
use Rattle.addr2line_c.proofs.SequenceLemmas.{each_named}

-- texts one after another, joined
pub joined_append : (xs ys : List (List ℕ)) → zero_ended (xs ++ ys) ≡ zero_ended xs ++ zero_ended ys
joined_append xs ys = flat_map-append (λ (text : List ℕ). text ++ 0 ∷ []) xs ys

-- what stands at the front of a list is followed by the rest
front_is : (w out : List ℕ) → take (length w) out ≡ w → out ≡ w ++ drop (length w) out
front_is w out is =
    sym (take-append-drop (length w) out) ∙ ap (λ x. x ++ drop (length w) out) is

-- a part among others stands where those before it end
part_at : (out before part after : List ℕ)
    → take (length (before ++ (part ++ after))) out ≡ before ++ (part ++ after)
    → take (length part) (drop (length before) out) ≡ part
part_at out before part after is =
    let rest = drop (length (before ++ (part ++ after))) out in
    let whole : out ≡ before ++ (part ++ (after ++ rest)) = front_is (before ++ (part ++ after)) out is
    ∙ append_assoc before (part ++ after) rest ∙ ap (λ x. before ++ x) (append_assoc part after rest) in
    ap (λ o. take (length part) (drop (length before) o)) whole
    ∙ ap (take (length part)) (drop-append_seam before (part ++ (after ++ rest)))
    ∙ take-append_seam part (after ++ rest)

-- where a buffer has room for texts, the part of one among them names it
pub text_named : (buffer : List ℕ) (whole before after : List (List ℕ)) (t : Option (List ℕ))
    → length buffer < 2 ^ 64 → length (zero_ended whole) ≤ length buffer
    → take (length (zero_ended whole)) buffer ≡ zero_ended whole
    → before ++ (optional_text t ++ after) ≡ whole → NamesText buffer (text_after before t) t
text_named buffer whole before after None small fits front is = refl
text_named buffer whole before after (Some text) small fits front is =
    let part = text ++ 0 ∷ [] in
    let cut : zero_ended whole ≡ zero_ended before ++ (part ++ zero_ended after) =
    ap zero_ended (sym is) ∙ joined_append before (text ∷ after) in
    let at = part_at buffer (zero_ended before) part (zero_ended after)
    (subst (λ w. take (length w) buffer ≡ w) cut front) in
    let long : length (zero_ended whole) ≡ length (zero_ended before) + length (part ++ zero_ended after) =
    ap length cut ∙ length-append (zero_ended before) (part ++ zero_ended after) in
    let within : length (zero_ended before) ≤ 2 ^ 64 - 1 = omega (arith, long, fits, small) in
    let offset : saturated (length (zero_ended before)) ≡ length (zero_ended before) = min-eq_left within in (
      refl,
      refl,
      subst (λ n. take (length text + 1) (drop n buffer) ≡ part) (sym offset)
          (subst (λ n. take n (drop (length (zero_ended before)) buffer) ≡ part) (length-append text (0 ∷ [])) at),
    )

-- a single text
pub text_alone : (buffer : List ℕ) (needed : ℕ) (t : Option (List ℕ)) → length buffer < 2 ^ 64
    → IsFilled needed buffer (zero_ended (optional_text t)) → length (zero_ended (optional_text t)) ≤ length buffer
    → NamesText buffer (text_after [] t) t
text_alone buffer needed t small filled fits = text_named buffer (optional_text t) [] [] t small fits
    (filled.front fits) (append-nil (optional_text t))

-- the texts of a load
pub load_named : (buffer : List ℕ) (needed token : ℕ) (load : SplitLoad) → length buffer < 2 ^ 64
    → IsFilled needed buffer (zero_ended (texts_of_load load))
    → length (zero_ended (texts_of_load load)) ≤ length buffer
    → NamesLoad buffer (written_load token load) load
load_named buffer needed token load small filled fits =
    let directory = optional_text (bytes_if load.comp_dir) in
    let path = optional_text (bytes_if load.path) in (
      text_named buffer (texts_of_load load) [] path (bytes_if load.comp_dir) small fits
          (filled.front fits) refl,
      text_named buffer (texts_of_load load) directory [] (bytes_if load.path) small fits
          (filled.front fits) (ap (λ x. directory ++ x) (append-nil path)),
    )

-- the texts of frames
pub frames_named : (names : Option Style) (out : List WrittenFrame) (count : ℕ) (buffer : List ℕ)
    (needed : ℕ) (frames : List FrameRecord) → length buffer < 2 ^ 64
    → IsFilled count out (written_frames names frames)
    → IsFilled needed buffer (zero_ended (frames_texts names frames))
    → length frames ≤ length out → length (zero_ended (frames_texts names frames)) ≤ length buffer
    → EachNames (NamesFrame names buffer) out frames
frames_named d out count buffer needed frames small parts filled room fits =
    each_named (frame_texts d) (written_frame d) (NamesFrame d buffer) count out frames parts room named
  where
    named : (before after : List (List ℕ)) (f : FrameRecord)
        → before ++ (frame_texts d f ++ after) ≡ frames_texts d frames
        → NamesFrame d buffer (written_frame d before f) f
    named before after f is =
        let name = optional_text (frame_name d f) in
        let file = optional_text (location_file f.location) in
        let cut : before ++ (name ++ (file ++ after)) ≡ frames_texts d frames =
        ap (λ x. before ++ x) (sym (append_assoc name file after)) ∙ is in (
          text_named buffer (frames_texts d frames) before (file ++ after) (frame_name d f) small fits
              (filled.front fits) cut,
          text_named buffer (frames_texts d frames) (before ++ name) after (location_file f.location) small
              fits (filled.front fits) (append_assoc before name (file ++ after) ∙ cut),
        )

-- the texts of rows
pub spans_named : (out : List WrittenSpan) (count : ℕ) (buffer : List ℕ) (needed : ℕ)
    (spans : List (Result LocatedSpan Error)) → length buffer < 2 ^ 64
    → IsFilled count out (written_spans spans)
    → IsFilled needed buffer (zero_ended (texts_of_spans spans))
    → length spans ≤ length out → length (zero_ended (texts_of_spans spans)) ≤ length buffer
    → EachNames (NamesSpan buffer) out spans
spans_named out count buffer needed spans small parts filled room fits =
    each_named texts_of_span written_span (NamesSpan buffer) count out spans parts room named
  where
    named : (before after : List (List ℕ)) (s : Result LocatedSpan Error)
        → before ++ (texts_of_span s ++ after) ≡ texts_of_spans spans
        → NamesSpan buffer (written_span before s) s
    named before after (Ok s) is = text_named buffer (texts_of_spans spans) before after
        (location_file (Some s.location)) small fits (filled.front fits) is
    named before after (Err e) is = refl

-- A run prints what is asked for one after another.
use Rattle.addr2line_bin.proofs.Common.{◌≡◌, ◌∙◌, ◌⊎◌, inl, inr, ℕ, List, [], ◌∷◌, ◌++◌, Option, Some, Result, Ok, Err, refl, sym, ap, append-nil, append_assoc, OnOk, IfErr, MatchResult, true, map, drop, drop-cons, length, get_or, add-one, arith, subst, ◌<◌, ◌+◌, Appends, length-append, StreamState, WritesPrefix, Reports, has_fault, plus, TextOf, EndsAt, EndsEarly, IsCutAtRead, IsCutOff, PrintsOf, PrintsReadUnlessStopped, PrintsRun, PrintsUnlessStopped, AreFirstLines, AreLines, AreLinesToRefusal, InputState, line_probes}
use Rattle.std.proofs.lemmas.Grind.{flat_map-append}
use Rattle.addr2line_bin.specs.Stopped.{IsFault}
use Rattle.addr2line_bin.specs.Print.{EndsRun, ProbeText, AllTexts, errs, last_text, outs}
use Rattle.addr2line_bin.specs.declared.exit.Exit.{Exit}
use Rattle.addr2line_bin.specs.declared.exit.Exit.TheVariants as exit
use Rattle.addr2line_bin.specs.declared.stream.StopReason.{StopReason}
use Rattle.addr2line_bin.specs.declared.stream.StopReason.TheVariants as stop
use Rattle.addr2line_bin.proofs.Parts.{appends_both, appends_nothing, keeps_itself, sends_nothing, sends_on}
use Rattle.addr2line_bin.proofs.Runs.{flushes_both, no_refused_growth, plus_nothing, prints_more, prints_nothing, stops_later}

-- a text of what is asked for now is one at the beginning
abbrev pub Weaker : TextOf → TextOf → Type 0
Weaker Now Is = (p : Option ℕ) (t : ProbeText) → Now p t → Is p t

pub all_weaker : (Now Is : TextOf) → Weaker Now Is → (ps : List (Option ℕ)) (ts : List ProbeText) → AllTexts Now ps ts → AllTexts Is ps ts
all_weaker Now Is w [] [] a = tt
all_weaker Now Is w [] (t ∷ ts) a = absurd a
all_weaker Now Is w (p ∷ ps) [] a = absurd a
all_weaker Now Is w (p ∷ ps) (t ∷ ts) a = (w p t a.0, all_weaker Now Is w ps ts a.1)

pub all_append : (Is : TextOf) (ps qs : List (Option ℕ)) (ts us : List ProbeText) → AllTexts Is ps ts → AllTexts Is qs us → AllTexts Is (ps ++ qs) (ts ++ us)
all_append Is [] qs [] us a b = b
all_append Is [] qs (t ∷ ts) us a b = absurd a
all_append Is (p ∷ ps) qs [] us a b = absurd a
all_append Is (p ∷ ps) qs (t ∷ ts) us a b = (a.0, all_append Is ps qs ts us a.1 b)

pub prints_none : (Is : TextOf) (o e : StreamState) → PrintsOf Is o o e e []
prints_none Is o e = record { texts = []; each = tt; prints = prints_nothing o e }

-- what was printed, and more
pub prints_next : (Now Is : TextOf) (oo om on eo em en : StreamState) (ps qs : List (Option ℕ)) → Weaker Now Is → PrintsOf Is oo om eo em ps → PrintsOf Now om on em en qs
    → PrintsOf Is oo on eo en (ps ++ qs)
prints_next Now Is oo om on eo em en ps qs w a b = record {
  texts = a.texts ++ b.texts;
  each = all_append Is ps qs a.texts b.texts a.each (all_weaker Now Is w qs b.texts b.each);
  prints = prints_more oo om on eo em en a.texts b.texts a.prints b.prints;
}

pub ends_weaker : (Now Is : TextOf) → Weaker Now Is → (why : StopReason) (later rest : List (Option ℕ)) (written told : List ℕ) → EndsAt Now why later written told → EndsAt Is why (later ++ rest) written told
ends_weaker Now Is w stop.OutOfMemory [] rest written told e = absurd e
ends_weaker Now Is w stop.OutOfMemory (p ∷ later) rest written told e = e
ends_weaker Now Is w (stop.Output b) [] rest written told e = absurd e
ends_weaker Now Is w (stop.Output b) (p ∷ later) rest written told e = (e.0, w p e.0 e.1, e.2, e.3)

-- what was printed, and then an early end
unfoldable pub ends_next : (Now Is : TextOf) (oo om on eo em en : StreamState) (ps qs rest all : List (Option ℕ)) (why : StopReason) → Weaker Now Is → PrintsOf Is oo om eo em ps → EndsEarly Now om on em en qs why []
    → all ≡ ps ++ (qs ++ rest) → EndsEarly Is oo on eo en all why []
ends_next Now Is oo om on eo em en ps qs rest all why w a b is = record {
  done = ps ++ b.done;
  later = b.later ++ rest;
  joins = is ∙ ap (λ xs. ps ++ (xs ++ rest)) b.joins ∙ ap (λ xs. ps ++ xs) (append_assoc b.done b.later rest) ∙ sym (append_assoc ps b.done (b.later ++ rest));
  texts = a.texts ++ b.texts;
  each = all_append Is ps b.done a.texts b.texts a.each (all_weaker Now Is w b.done b.texts b.each);
  written = b.written;
  told = b.told;
  ends = ends_weaker Now Is w why b.later rest b.written b.told b.ends;
  out = rw (flat_map-append (λ (t : ProbeText). t.out) a.texts b.texts, append_assoc (outs a.texts) (outs b.texts) b.written)
      (appends_both oo.contents om.contents on.contents (outs a.texts) (outs b.texts ++ b.written) a.prints.out b.out);
  flushes = flushes_both oo.flushes om.flushes on.flushes a.texts b.texts a.prints.flushes b.flushes;
  stops = stops_later oo om on why a.prints.fault a.prints.flushed b.stops;
  err = rw (flat_map-append (λ (t : ProbeText). t.err) a.texts b.texts, append_assoc (errs a.texts) (errs b.texts) b.told, append_assoc (errs a.texts) (errs b.texts ++ b.told) [])
      (sends_on eo.contents em.contents en.contents (has_fault eo) (has_fault em) (has_fault en) (errs a.texts) ((errs b.texts ++ b.told) ++ []) a.prints.err b.err);
}

-- a refused growth, before anything was printed
unfoldable pub ends_at_once : (Is : TextOf) (o e : StreamState) (p : Option ℕ) → EndsEarly Is o o e e (p ∷ []) stop.OutOfMemory []
ends_at_once Is o e p = record {
  done = [];
  later = p ∷ [];
  joins = refl;
  texts = [];
  each = tt;
  written = [];
  told = [];
  ends = (refl, refl);
  out = appends_nothing o.contents o.contents (keeps_itself o.contents);
  flushes = plus_nothing o.flushes;
  stops = (refl, λ h. h);
  err = sends_nothing e.contents (has_fault e) (keeps_itself e.contents);
}

-- where a run ends early, something is left
has_left : (Is : TextOf) (why : StopReason) (later : List (Option ℕ)) (written told : List ℕ) → EndsAt Is why later written told → 0 < length later
has_left Is stop.OutOfMemory [] written told e = absurd e
has_left Is stop.OutOfMemory (p ∷ later) written told e = omega arith
has_left Is (stop.Output b) [] written told e = absurd e
has_left Is (stop.Output b) (p ∷ later) written told e = omega arith

-- of one that is asked for, that one
left_of_one : (p : Option ℕ) (done later : List (Option ℕ)) → p ∷ [] ≡ done ++ later → 0 < length later → length later ≡ 1
left_of_one p done later e left =
    let both : 1 ≡ length done + length later = ap length e ∙ length-append done later in
    omega (arith, both, left)

-- what was printed, and then an early end at the next
pub read_next : (Now Is : TextOf) (oo om on eo em en : StreamState) (ps all : List (Option ℕ)) (p : Option ℕ) (why : StopReason) → Weaker Now Is → PrintsOf Is oo om eo em ps → EndsEarly Now om on em en (p ∷ []) why []
    → all ≡ ps ++ p ∷ [] → (b : EndsEarly Is oo on eo en all why []) × (length b.later ≡ 1)
unfolding ends_next
read_next Now Is oo om on eo em en ps all p why w a b is = (
  ends_next Now Is oo om on eo em en ps (p ∷ []) [] all why w a b is,
  subst (λ xs. length xs ≡ 1) (sym (append-nil b.later)) (left_of_one p b.done b.later b.joins (has_left Now why b.later b.written b.told b.ends)),
)

-- an early end, and then more is reported
unfoldable pub ends_reported : (Is : TextOf) (oo on eo em en : StreamState) (ps : List (Option ℕ)) (why : StopReason) (more : List ℕ) → EndsEarly Is oo on eo em ps why [] → Reports em en more
    → EndsEarly Is oo on eo en ps why more
ends_reported Is oo on eo em en ps why more p t = record {
  done = p.done;
  later = p.later;
  joins = p.joins;
  texts = p.texts;
  each = p.each;
  written = p.written;
  told = p.told;
  ends = p.ends;
  out = p.out;
  flushes = p.flushes;
  stops = p.stops;
  err = sends_on eo.contents em.contents en.contents (has_fault eo) (has_fault em) (has_fault en) (errs p.texts ++ p.told) more (rw append-nil at p.err) t;
}

-- a run that printed, and its end
pub run_printed : (Is : TextOf) (name : List ℕ) (oo on eo em en : StreamState) (ps : List (Option ℕ)) (r : Result (Unit {0}) StopReason) (e : Exit)
    → PrintsUnlessStopped Is oo on eo em ps r → EndsRun name em en r e → PrintsRun Is name oo on eo en ps e
run_printed Is name oo on eo em en ps (Ok x) e p h = inl (subst (λ s. PrintsOf Is oo on eo s ps) (sym h.0) p, h.1)
run_printed Is name oo on eo em en ps (Err why) e p h = inr (record { why = why; prints = ends_reported Is oo on eo em en ps why (last_text name why) p h.0; exit = h.1 })

-- a run that printed what lines ask for, and its end
pub lines_printed : (Is : TextOf) (name : List ℕ) (io inn : InputState) (lines : List (List ℕ)) (oo on eo em en : StreamState) (r : Result (Unit {0}) StopReason) (e : Exit)
    → PrintsReadUnlessStopped Is io inn lines oo on eo em r → EndsRun name em en r e
    → (AreLines io inn lines × PrintsOf Is oo on eo en (line_probes lines) × (e ≡ exit.Done))
    ⊎ (((cut : IsCutOff Is name oo on eo en (line_probes lines) e) × AreFirstLines io inn lines × (length cut.prints.later ≡ 1))
    ⊎ (AreLinesToRefusal io inn lines × IsCutAtRead Is name oo on eo en (line_probes lines) e))
unfolding ends_reported
lines_printed Is name io inn lines oo on eo em en (Ok x) e p h = inl (p.0, subst (λ s. PrintsOf Is oo on eo s (line_probes lines)) (sym h.0) p.1, h.1)
lines_printed Is name io inn lines oo on eo em en (Err why) e (inl p) h =
    inr (inl (record { why = why; prints = ends_reported Is oo on eo em en (line_probes lines) why (last_text name why) p.0 h.0; exit = h.1 }, p.1, p.2))
lines_printed Is name io inn lines oo on eo em en (Err why) e (inr p) h =
    let told : Reports em en (last_text name stop.OutOfMemory) = rw p.0 at h.0 in
    let failed : e ≡ exit.Failed = rw p.0 at h.1 in
    inr (inr (
      p.1,
      record {
        texts = p.2.texts;
        each = p.2.each;
        out = p.2.prints.out;
        flushes = p.2.prints.flushes;
        stops = (p.2.prints.fault, p.2.prints.flushed);
        err = sends_on eo.contents em.contents en.contents (has_fault eo) (has_fault em) (has_fault en) (errs p.2.texts) (last_text name stop.OutOfMemory) p.2.prints.err told;
        exit = failed;
      },
    ))

-- a text that is reported, and one that is sent
pub sends_one : (Is : TextOf) (oo on eo en : StreamState) (p : Option ℕ) (t : ProbeText) → Is p t → Reports eo en t.err
    → (r : Result (Unit {0}) StopReason) → OnOk r (Appends oo.contents on.contents t.out) → MatchResult r (λ _. on.flushes ≡ plus oo.flushes 1) (λ _. on.flushes ≡ oo.flushes) → OnOk r (on.is_flushed ≡ true) → OnOk r (on.fault ≡ oo.fault)
    → IfErr r (λ e. IsFault on e × WritesPrefix oo.contents on.contents t.out) → PrintsUnlessStopped Is oo on eo en (p ∷ []) r
sends_one Is oo on eo en p t is told (Ok x) sent flushes flushed fault refused = record {
  texts = t ∷ [];
  each = (is, tt);
  prints = record {
    out = rw (append-nil t.out) sent;
    flushes = flushes;
    flushed = λ _. flushed;
    fault = fault;
    err = rw (append-nil t.err) told;
  };
}
sends_one Is oo on eo en p t is told (Err stop.OutOfMemory) sent flushes flushed fault refused = absurd (no_refused_growth on.fault refused.0.1)
sends_one Is oo on eo en p t is told (Err (stop.Output b)) sent flushes flushed fault refused = record {
  done = [];
  later = p ∷ [];
  joins = refl;
  texts = [];
  each = tt;
  written = refused.1.written;
  told = t.err;
  ends = (t, is, refl, (refused.1.rest, refused.1.joins));
  out = refused.1.appends;
  flushes = flushes ∙ plus_nothing oo.flushes;
  stops = refused.0;
  err = rw (append-nil t.err) told;
}

-- the next of addresses that are left
pub somes_next : (xs : List ℕ) (i : ℕ) → i < length xs → map Some (drop i xs) ≡ Some (get_or xs i 0) ∷ map Some (drop (i + 1) xs)
somes_next xs i lt = ap (map Some) (drop-cons xs i 0 lt) ∙ rw add-one refl

prints_before : (Now Is : TextOf) → Weaker Now Is → (oo on eo en : StreamState) (ps : List (Option ℕ)) → PrintsOf Now oo on eo en ps → PrintsOf Is oo on eo en ps
prints_before Now Is w oo on eo en ps a = record { texts = a.texts; each = all_weaker Now Is w ps a.texts a.each; prints = a.prints }

ends_before : (Now Is : TextOf) → Weaker Now Is → (why : StopReason) (later : List (Option ℕ)) (written told : List ℕ) → EndsAt Now why later written told → EndsAt Is why later written told
ends_before Now Is w stop.OutOfMemory [] written told e = absurd e
ends_before Now Is w stop.OutOfMemory (p ∷ later) written told e = e
ends_before Now Is w (stop.Output b) [] written told e = absurd e
ends_before Now Is w (stop.Output b) (p ∷ later) written told e = (e.0, w p e.0 e.1, e.2, e.3)

early_before : (Now Is : TextOf) → Weaker Now Is → (oo on eo en : StreamState) (ps : List (Option ℕ)) (why : StopReason) (more : List ℕ) → EndsEarly Now oo on eo en ps why more → EndsEarly Is oo on eo en ps why more
early_before Now Is w oo on eo en ps why more p = record {
  done = p.done;
  later = p.later;
  joins = p.joins;
  texts = p.texts;
  each = all_weaker Now Is w p.done p.texts p.each;
  written = p.written;
  told = p.told;
  ends = ends_before Now Is w why p.later p.written p.told p.ends;
  out = p.out;
  flushes = p.flushes;
  stops = p.stops;
  err = p.err;
}

-- a run after a lookup is one before it
pub run_before : (Now Is : TextOf) → Weaker Now Is → (name : List ℕ) (oo on eo en : StreamState) (ps : List (Option ℕ)) (e : Exit) → PrintsRun Now name oo on eo en ps e → PrintsRun Is name oo on eo en ps e
run_before Now Is w name oo on eo en ps e (inl p) = inl (prints_before Now Is w oo on eo en ps p.0, p.1)
run_before Now Is w name oo on eo en ps e (inr p) = inr (record { why = p.why; prints = early_before Now Is w oo on eo en ps p.why (last_text name p.why) p.prints; exit = p.exit })

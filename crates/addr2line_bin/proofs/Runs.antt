-- A run writes one text after another.
use Rattle.addr2line_bin.proofs.Common.{◌≡◌, ◌∙◌, ◌+◌, ℕ, true, List, [], ◌++◌, Option, Some, None, option_map, length, refl, ap, arith, length-append, StreamState, plus, has_fault}
use Rattle.std.proofs.lemmas.Grind.{flat_map-append}
use Rattle.std.specs.declared.io.ErrorKind.{ErrorKind}
use Rattle.addr2line_bin.specs.Stopped.{Stops, reason_of}
use Rattle.addr2line_bin.specs.Print.{ProbeText, outs, errs, Prints}
use Rattle.addr2line_bin.specs.declared.stream.StopReason.{StopReason}
use Rattle.addr2line_bin.specs.declared.stream.StopReason.TheVariants as stop
use Rattle.addr2line_bin.proofs.Parts.{appends_both, appends_nothing, keeps_itself, sends_on, sends_nothing}

pub plus_nothing : (a : Option ℕ) → a ≡ plus a 0
plus_nothing None = refl
plus_nothing (Some n) = let e : n ≡ n + 0 = omega arith in ap Some e

pub plus_plus : (a : Option ℕ) (m n k : ℕ) → k ≡ m + n → plus (plus a m) n ≡ plus a k
plus_plus None m n k e = refl
plus_plus (Some x) m n k e = let e : (x + m) + n ≡ x + k = omega (arith, e) in ap Some e

-- what stops later, stops
pub stops_later : (old mid new : StreamState) (why : StopReason) → mid.fault ≡ old.fault → (old.is_flushed ≡ true → mid.is_flushed ≡ true) → Stops mid new why → Stops old new why
stops_later old mid new stop.OutOfMemory e f s = (s.0 ∙ e, λ h. s.1 (f h))
stops_later old mid new (stop.Output b) e f s = s

-- the flushes of some texts, and then of more
pub flushes_both : (old mid new : Option ℕ) (xs ys : List ProbeText) → mid ≡ plus old (length xs) → new ≡ plus mid (length ys) → new ≡ plus old (length (xs ++ ys))
flushes_both old mid new xs ys p q = q ∙ ap (λ f. plus f (length ys)) p ∙ plus_plus old (length xs) (length ys) (length (xs ++ ys)) (length-append xs ys)

pub prints_nothing : (o e : StreamState) → Prints o o e e []
prints_nothing o e = record {
  out = appends_nothing o.contents o.contents (keeps_itself o.contents);
  flushes = plus_nothing o.flushes;
  flushed = λ h. h;
  fault = refl;
  err = sends_nothing e.contents (has_fault e) (keeps_itself e.contents);
}

-- some texts, and then some more
pub prints_more : (oo om on eo em en : StreamState) (xs ys : List ProbeText) → Prints oo om eo em xs → Prints om on em en ys → Prints oo on eo en (xs ++ ys)
prints_more oo om on eo em en xs ys p q = record {
  out = rw (flat_map-append (λ (t : ProbeText). t.out) xs ys) (appends_both oo.contents om.contents on.contents (outs xs) (outs ys) p.out q.out);
  flushes = flushes_both oo.flushes om.flushes on.flushes xs ys p.flushes q.flushes;
  flushed = λ h. q.flushed (p.flushed h);
  fault = q.fault ∙ p.fault;
  err = rw (flat_map-append (λ (t : ProbeText). t.err) xs ys) (sends_on eo.contents em.contents en.contents (has_fault eo) (has_fault em) (has_fault en) (errs xs) (errs ys) p.err q.err);
}

-- a fault of a stream is no refused growth
pub no_refused_growth : (f : Option ErrorKind) → option_map reason_of f ≡ Some stop.OutOfMemory → ⊥
no_refused_growth None e = absurd (cc)
no_refused_growth (Some kind) e = absurd (cc)

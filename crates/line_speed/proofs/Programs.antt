-- Each program takes bytes (on specs/Checksum.antt).
use Rattle.std.proofs.Common.{◌<◌, ◌==◌, Bool, true, false, cond, length, Option, Some, None, Ok, Err, IfOk, IfSome, arith}
use Rattle.gimli_read.specs.Section.{Section}
use Rattle.gimli_read.specs.Reading.{Reading, ◌>>=◌}
use Rattle.gimli_read.specs.Number.{initial_length_at, skipped_at}
use Rattle.gimli_read.proofs.Shorter.{Shorter, shorter_bind, shorter_then, shorter_ok, initial_length-shorter, skipped-shorter, TakesBytes}
use Rattle.gimli_line.specs.Header.{Program}
use Rattle.gimli_line.specs.Program.{line_program_at}
use Rattle.line_speed.specs.Checksum.{program_at}

pub program-takes : TakesBytes program_at
unfolding program_at
program-takes s = at (length s.bytes == 0)
  where
    inner : Shorter (length s.bytes) (initial_length_at s >>= λ n. skipped_at n.0.0 n.1 >>= λ rest. line_program_at 8 s >>= λ p. Ok (Some p, rest.1))
    inner = shorter_bind (initial_length-shorter s) (λ n h. shorter_bind (skipped-shorter n.0.0 n.1) (λ rest k. shorter_then (line_program_at 8 s) (λ p. shorter_ok (omega arith))))

    out : (r : Reading (Option Program)) → Shorter (length s.bytes) r → IfOk r (λ p. IfSome p.0 (λ _. length p.1.bytes < length s.bytes))
    out (Ok (Some x, t)) k = k.by
    out (Ok (None, t)) k = tt
    out (Err e) k = tt

    at : (c : Bool) → IfOk {T = Option Program × Section} (cond c (Ok (None, s)) (initial_length_at s >>= λ n. skipped_at n.0.0 n.1 >>= λ rest. line_program_at 8 s >>= λ p. Ok (Some p, rest.1))) (λ p. IfSome p.0 (λ _. length p.1.bytes < length s.bytes))
    at true = tt
    at false = out _ inner

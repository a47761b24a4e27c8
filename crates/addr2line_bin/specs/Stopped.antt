-- Why a run stops early.
-- Own: a broken pipe of the output is told apart from each other fault.
use Rattle.std.specs.Prelude.{◌≡◌, Bool, true, false, Some, option_map}
use Rattle.std.specs.declared.io.ErrorKind.{ErrorKind}
use Rattle.std.specs.declared.io.ErrorKind.TheVariants.{BrokenPipe}
use Rattle.addr2line_bin.specs.declared.stream.StopReason.{StopReason}
use Rattle.addr2line_bin.specs.declared.stream.StopReason.TheVariants as stop
use Rattle.addr2line_bin.specs.Put.{StreamState}

-- whether nobody reads the output any more
abbrev pub is_broken_pipe : ErrorKind → Bool
is_broken_pipe BrokenPipe = true
is_broken_pipe _ = false

-- what a fault of the output makes of a run
abbrev pub reason_of : ErrorKind → StopReason
reason_of kind = stop.Output (is_broken_pipe kind)

-- it stops for the fault of the stream's last call
abbrev pub IsFault : StreamState → StopReason → Type 0
IsFault new why = (new.is_failing ≡ true) × (option_map reason_of new.fault ≡ Some why)

-- a run stops for a refused growth, and its output hasn't failed and is flushed if it was before;
-- or for the fault of the output's last call
abbrev pub Stops : StreamState → StreamState → StopReason → Type 0
Stops old new stop.OutOfMemory =
    (new.fault ≡ old.fault) × (old.is_flushed ≡ true → new.is_flushed ≡ true)
Stops old new (stop.Output b) = IsFault new (stop.Output b)

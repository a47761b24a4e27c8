use Rattle.gimli_read.proofs.Common.{◌≡◌, length, Ok, Section, uleb128_at, form_at}
use Rattle.gimli_read.proofs.value.read_form.Given as goal

-- the last form read, and where it stood
abbrev pub invariant-loop-form : goal.invariant-loop-form
invariant-loop-form g l = (before : Section) × (uleb128_at before ≡ Ok (l.form, g.R.Reader.section l.input)) × (form_at before ≡ form_at (g.R.Reader.section l.fn.input))

abbrev pub decreases-loop-form : goal.decreases-loop-form
decreases-loop-form g l = length (g.R.Reader.section l.input).bytes

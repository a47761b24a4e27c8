-- What statuses say of what was written (on specs/Answered.antt).
use Rattle.addr2line_c.proofs.Common.{◌≡◌, ◌≢◌, ◌∙◌, Bool, true, false, Result, Ok, Err, Option, Some, None, ap, refl, sym, subst, Error, ExactlyUnlessOom, frames_left, of_file, Status, status_of_error}
use Rattle.gimli_read.specs.declared.error.Error.TheVariants as reading
use Rattle.elf.specs.Text.{loader_error_of}
use Rattle.addr2line_units.specs.declared.frames.FrameIter.{FrameIter}
use Rattle.addr2line_units.specs.EntriesFrames.{FramesResult}
use Rattle.elf.specs.Loading.{Loading}
use Rattle.addr2line_c.specs.Answered.{IsThere, SaysOrWaits, SaysWhatIsThere, done_if}

-- what is there was written, whole or not
pub says_there : {A : Type 0} (given : Loading (Option A)) (written : A → Type 0) (fits : Bool)
    (s : Status) → s ≡ done_if fits → IsThere given written → SaysWhatIsThere given written fits s
says_there given written true s is there =
    subst (SaysWhatIsThere given written true) (sym is) (refl, there)
says_there given written false s is there =
    subst (SaysWhatIsThere given written false) (sym is) (refl, there)

-- the same of a lookup that may wait
pub says_frames : {A : Type 0} (given : Loading (Option A)) (written : A → Type 0) (fits : Bool)
    (s : Status) → s ≡ done_if fits → IsThere given written → SaysOrWaits given written fits s
says_frames given written true s is there =
    subst (SaysOrWaits given written true) (sym is) (refl, there)
says_frames given written false s is there =
    subst (SaysOrWaits given written false) (sym is) (refl, there)

-- a refused reading of DWARF bytes
pub says_refused : {A : Type 0} (written : A → Type 0) (fits : Bool) (e : Error)
    (given : Result (Option A) Error) (s : Status) → s ≡ status_of_error e
    → (e ≢ reading.OutOfMemory → given ≡ Err e) → SaysWhatIsThere (of_file given) written fits s
says_refused written fits e given s is told = subst (SaysWhatIsThere (of_file given) written fits)
    (sym is) (λ n. ap of_file (told (λ same. n (ap loader_error_of same))))

-- the same of a lookup that may wait
pub frames_refused : {A : Type 0} (written : A → Type 0) (fits : Bool) (e : Error)
    (given : Result (Option A) Error) (s : Status) → s ≡ status_of_error e
    → (e ≢ reading.OutOfMemory → given ≡ Err e) → SaysOrWaits (of_file given) written fits s
frames_refused written fits e given s is told = subst (SaysOrWaits (of_file given) written fits)
    (sym is) (λ n. ap of_file (told (λ same. n (ap loader_error_of same))))

-- there is nothing
pub nothing_there : {A : Type 0} (given : Result (Option A) Error) → given ≡ Ok None
    → of_file given ≡ Ok None
nothing_there given none = ap of_file none

-- refused memory says nothing of what is there
pub frames_unknown : {A : Type 0} (given : Loading (Option A)) (written : A → Type 0) (fits : Bool)
    (e : Error) (s : Status) → s ≡ status_of_error e → e ≡ reading.OutOfMemory
    → SaysOrWaits given written fits s
frames_unknown given written fits e s is oom = subst (SaysOrWaits given written fits)
    (sym (is ∙ ap status_of_error oom)) (λ n. absurd (n refl))

-- the frames that were found
pub frames_given : {R : Type 0} (found : Result (FrameIter R) Error) (frames : FrameIter R)
    (given : FramesResult) → found ≡ Ok frames
    → ExactlyUnlessOom (λ (i : FrameIter R). Some (frames_left i)) found given
    → given ≡ Ok (Some (frames_left frames))
frames_given found frames given is told =
    subst (λ r. ExactlyUnlessOom (λ i. Some (frames_left i)) r given) is told

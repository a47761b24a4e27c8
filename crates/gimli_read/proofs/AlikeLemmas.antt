-- What answers one reading is one answer (on specs/Alike.antt).
use Rattle.gimli_read.proofs.Common.{◌≡◌, Result, Ok, Err, sym, ap, ◌∙◌, Error, result_map, Exactly, ExactlyUnlessOom, WasNotRefused}
use Rattle.gimli_read.specs.Alike.{AnswerAlike, AnswerAlikeUnlessOom}

exact_is : {X Z : Type 0} (view : X → Z) (x : Result X Error) (given : Result Z Error) → Exactly view x given → given ≡ result_map view x
exact_is view (Ok x) given h = h
exact_is view (Err e) given h = h

unless_oom_is : {X Z : Type 0} (view : X → Z) (x : Result X Error) (given : Result Z Error) → ExactlyUnlessOom view x given → WasNotRefused x → given ≡ result_map view x
unless_oom_is view (Ok x) given h m = h
unless_oom_is view (Err e) given h m = h m

pub exact_alike : (X Y Z : Type 0) → AnswerAlike X Y Z
exact_alike X Y Z read s t view see x y same h k = sym (exact_is view x (read s) h) ∙ ap read same ∙ exact_is see y (read t) k

pub unless_oom_alike : (X Y Z : Type 0) → AnswerAlikeUnlessOom X Y Z
unless_oom_alike X Y Z read s t view see x y same h k m n = sym (unless_oom_is view x (read s) h m) ∙ ap read same ∙ unless_oom_is see y (read t) k n

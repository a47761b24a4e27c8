-- One answer of a caller's function before those after it (on specs/Asked.antt).
use Rattle.gimli.proofs.Common.{◌≡◌, List, [], ◌∷◌, Result, Ok, Err, refl, Section, ◌>>=◌}
use Rattle.gimli.specs.declared.load.SectionId.{SectionId}
use Rattle.gimli.specs.Asked.{Asked}

pub asked_more : {F A E : Type 0} (see : A → Section) (step : F → SectionId → Result A E → F → Type 0) (f g : F) (x : SectionId) (xs : List SectionId) (answer : Result A E) (a : A) (more : Result (List Section) E) → step f x answer g → answer ≡ Ok a → Asked see step g xs more → Asked see step f (x ∷ xs) (more >>= λ rest. Ok (see a ∷ rest))
unfolding Asked
asked_more see step f g x xs answer a more s e k = (Ok a, g, (rw e at s), (more, k, refl))

pub asked_stop : {F A E : Type 0} (see : A → Section) (step : F → SectionId → Result A E → F → Type 0) (f g : F) (x : SectionId) (xs : List SectionId) (answer : Result A E) (e : E) → step f x answer g → answer ≡ Err e → Asked see step f (x ∷ xs) (Err e)
unfolding Asked
asked_stop see step f g x xs answer e s h = (Err e, g, (rw h at s), refl)

pub asked_all : {F A E : Type 0} (see : A → Section) (step : F → SectionId → Result A E → F → Type 0) (f : F) → Asked see step f [] (Ok [])
unfolding Asked
asked_all see step f = refl

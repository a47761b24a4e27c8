-- Readings with the memory that they take: parts of a whole, and two readings of the same (on
-- specs/CostedSteps.antt).
use Rattle.addr2line_lines.proofs.Common.{◌≡◌, ◌≢◌, ◌&&◌, ◌||◌, Bool, true, false, Result, Ok, Err, is_ok, refl, ap, subst, sym, ◌∙◌, Error, OutOfMemory, Costed, free, takes_memory_after, or_left, or_right}
use Rattle.gimli_read.specs.Costed.{◌>>=◌}
use Rattle.gimli_read.specs.Reading as reading
use Rattle.gimli_read.proofs.Steps.{bind_ok}
use Rattle.addr2line_lines.specs.CostedSteps.{map_at_cost, on_parts, then_room_if}
use Rattle.addr2line_lines.proofs.Facts.{or_both, or_more}

-- a reading whose fault is that of a whole, and whose memory too
pub record IsPartOf {A B : Type 0} (part : Costed A) (whole : Costed B) : Type 0 where
  pub fault : (e : Error) → part.given ≡ Err e → whole.given ≡ Err e
  pub takes : (shares : Bool) → part.takes_memory shares ≡ true → whole.takes_memory shares ≡ true

-- a reading that is what is left of a whole, whose first steps have no fault
pub record IsRestOf {A : Type 0} (rest whole : Costed A) : Type 0 where
  pub given : whole.given ≡ rest.given
  pub takes : (shares : Bool) → rest.takes_memory shares ≡ true → whole.takes_memory shares ≡ true

-- a refused part refuses the whole
pub refused_part : {A B : Type 0} {part : Costed A} {whole : Costed B} (shares : Bool) (e : Error) → IsPartOf part whole → (((shares || part.takes_memory false) ≡ true → e ≢ OutOfMemory) → part.given ≡ Err e)
    → ((shares || whole.takes_memory false) ≡ true → e ≢ OutOfMemory) → whole.given ≡ Err e
refused_part {part = part} {whole = whole} shares e h given ne =
    h.fault e (given (λ takes. ne (or_more shares (part.takes_memory false) (whole.takes_memory false) (h.takes false) takes)))

pub part_on : {A B C : Type 0} {a : Costed A} {b : Costed B} {c : Costed C} → IsPartOf a b → IsPartOf b c → IsPartOf a c
part_on h k = record { fault = λ e q. k.fault e (h.fault e q); takes = λ shares t. k.takes shares (h.takes shares t) }

pub rest_same : {A : Type 0} (c : Costed A) → IsRestOf c c
rest_same c = record { given = refl; takes = λ shares t. t }

pub rest_on : {A : Type 0} {a b c : Costed A} → IsRestOf a b → IsRestOf b c → IsRestOf a c
rest_on h k = record { given = k.given ∙ h.given; takes = λ shares t. k.takes shares (h.takes shares t) }

pub rest_part : {A : Type 0} {rest whole : Costed A} → IsRestOf rest whole → IsPartOf rest whole
rest_part h = record { fault = λ e q. h.given ∙ q; takes = h.takes }

-- the first step of two, and the second where the first has no fault
pub first_part : {A B : Type 0} (c : Costed A) (f : A → Costed B) → IsPartOf c (c >>= f)
first_part c f = record {
  fault = λ e h. ap (λ r. reading.◌>>=◌ r (λ x. (f x).given)) h;
  takes = λ shares t. or_left (c.takes_memory shares) (takes_memory_after c.given (λ x. (f x).takes_memory shares)) t;
}

pub rest_next : {A B : Type 0} (c : Costed A) (f : A → Costed B) (x : A) → c.given ≡ Ok x → IsRestOf (f x) (c >>= f)
rest_next c f x h = record {
  given = ap (λ r. reading.◌>>=◌ r (λ y. (f y).given)) h;
  takes = λ shares t. or_right (c.takes_memory shares) (takes_memory_after c.given (λ y. (f y).takes_memory shares)) (ap (λ r. takes_memory_after r (λ y. (f y).takes_memory shares)) h ∙ t);
}

pub room_part : {A : Type 0} (stores : Bool) (c : Costed A) → IsPartOf c (then_room_if stores c)
room_part stores c = record { fault = λ e h. h; takes = λ shares t. or_left (c.takes_memory shares) (is_ok c.given && stores) t }

-- a reading whose value is made into another, and one where more follows
pub map_part : {A B : Type 0} (make : A → B) (c : Costed A) → IsPartOf c (map_at_cost make c)
map_part make c = record { fault = λ e h. ap (λ r. reading.◌>>=◌ r (λ x. Ok (make x))) h; takes = λ shares t. t }

pub made_part : {A B D : Type 0} (make : A → D) (c : Costed A) (f : A → Costed B) → IsPartOf (map_at_cost make c) (c >>= f)
made_part {A} {B} {D} make c f = record { fault = λ e. by_given e c.given; takes = (first_part c f).takes }
  where
    by_given : (e : Error) (r : Result A Error) → reading.◌>>=◌ {B = D} r (λ x. Ok (make x)) ≡ Err e → reading.◌>>=◌ r (λ x. (f x).given) ≡ Err e
    by_given e (Ok x) h = absurd cc
    by_given e (Err d) h = let same : d ≡ e = cc in ap Err same

-- two steps, of which the value is made into another
pub rest_map : {A B D : Type 0} (c : Costed A) (f : A → Costed B) (make : B → D) → IsRestOf (c >>= λ x. map_at_cost make (f x)) (map_at_cost make (c >>= f))
rest_map {A} {B} {D} c f make = record { given = by_given c.given; takes = λ shares t. t }
  where
    by_given : (r : Result A Error) → reading.◌>>=◌ {B = D} (reading.◌>>=◌ r (λ x. (f x).given)) (λ y. Ok (make y)) ≡ reading.◌>>=◌ r (λ x. reading.◌>>=◌ (f x).given (λ y. Ok (make y)))
    by_given (Ok x) = refl
    by_given (Err e) = refl

-- a reading takes memory where it has no fault
abbrev pub TakesIfRead : {A : Type 0} → Costed A → Type 0
TakesIfRead {A} c = (x : A) (shares : Bool) → c.given ≡ Ok x → c.takes_memory shares ≡ true

pub room_takes : {A : Type 0} (c : Costed A) → TakesIfRead (then_room_if true c)
room_takes c x shares h = or_right (c.takes_memory shares) (is_ok c.given && true) (ap (λ r. is_ok r && true) h)

pub map_takes : {A B : Type 0} (make : A → B) (c : Costed A) → TakesIfRead c → TakesIfRead (map_at_cost make c)
map_takes make c h y shares k = let a = bind_ok c.given (λ x. Ok (make x)) y k in h a.0 shares a.1

pub next_takes : {A B : Type 0} (c : Costed A) (f : A → Costed B) → ((x : A) → TakesIfRead (f x)) → TakesIfRead (c >>= f)
next_takes c f h y shares k = let a = bind_ok c.given (λ x. (f x).given) y k in (rest_next c f a.0 a.1).takes shares (h a.0 y shares a.2)

-- a value is the one that is made of another reading's, of which more holds; or both are faulty
abbrev pub AgreesGiven : {A B : Type 0} → (B → A) → (B → Type 0) → Result A Error → Result B Error → Type 0
AgreesGiven make holds r (Ok x) = (r ≡ Ok (make x)) × holds x
AgreesGiven make holds r (Err e) = r ≡ Err e

-- one step more of each
pub given_then : {A B C D : Type 0} (make : B → A) (holds : B → Type 0) (next : D → C) (ends : D → Type 0) (f : A → Result C Error) (g : B → Result D Error) → ((x : B) → holds x → AgreesGiven next ends (f (make x)) (g x))
    → (r : Result A Error) (q : Result B Error) → AgreesGiven make holds r q → AgreesGiven next ends (reading.◌>>=◌ r f) (reading.◌>>=◌ q g)
given_then make holds next ends f g more r (Ok x) k = subst (λ v. AgreesGiven next ends (reading.◌>>=◌ v f) (g x)) (sym k.0) (more x k.1)
given_then make holds next ends f g more r (Err e) k = ap (λ v. reading.◌>>=◌ v f) k

-- the same of readings, of which the first takes memory where the other does
pub record Agrees {A B : Type 0} (make : B → A) (holds : B → Type 0) (c : Costed A) (d : Costed B) : Type 0 where
  pub given : AgreesGiven make holds c.given d.given
  pub takes : (shares : Bool) → d.takes_memory shares ≡ true → c.takes_memory shares ≡ true

pub agrees_then : {A B C D : Type 0} {make : B → A} {holds : B → Type 0} {next : D → C} {ends : D → Type 0} {c : Costed A} {d : Costed B} (f : A → Costed C) (g : B → Costed D)
    → Agrees make holds c d → ((x : B) → holds x → Agrees next ends (f (make x)) (g x)) → Agrees next ends (c >>= f) (d >>= g)
agrees_then {A} {B} {C} {D} {make} {holds} {next} {ends} {c} {d} f g h more = record {
  given = given_then make holds next ends (λ x. (f x).given) (λ x. (g x).given) (λ x k. (more x k).given) c.given d.given h.given;
  takes = λ shares. or_both (d.takes_memory shares) _ (c.takes_memory shares) _ (h.takes shares) (by_takes shares c.given d.given h.given);
}
  where
    by_takes : (shares : Bool) (r : Result A Error) (q : Result B Error) → AgreesGiven make holds r q → takes_memory_after q (λ x. (g x).takes_memory shares) ≡ true → takes_memory_after r (λ x. (f x).takes_memory shares) ≡ true
    by_takes shares r (Ok x) k t = ap (λ v. takes_memory_after v (λ y. (f y).takes_memory shares)) k.0 ∙ (more x k.1).takes shares t
    by_takes shares r (Err e) k t = absurd cc

-- the same step of each, and then more
pub agrees_after : {A C D : Type 0} {next : D → C} {ends : D → Type 0} (r : Result A Error) (f : A → Costed C) (g : A → Costed D) → ((x : A) → Agrees next ends (f x) (g x)) → Agrees next ends (free r >>= f) (free r >>= g)
agrees_after (Ok x) f g h = h x
agrees_after (Err e) f g h = record { given = refl; takes = λ shares t. t }

-- values that are made into others
pub agrees_map : {A B C D : Type 0} {make : B → A} {holds : B → Type 0} {next : D → C} {ends : D → Type 0} {c : Costed A} {d : Costed B} (f : A → C) (g : B → D)
    → Agrees make holds c d → ((x : B) → holds x → (f (make x) ≡ next (g x)) × ends (g x)) → Agrees next ends (map_at_cost f c) (map_at_cost g d)
agrees_map {make = make} {holds = holds} {next = next} {ends = ends} {c = c} {d = d} f g h more = record {
  given = given_then make holds next ends (λ x. Ok (f x)) (λ x. Ok (g x)) (λ x k. (let m = more x k in (ap Ok m.0, m.1))) c.given d.given h.given;
  takes = h.takes;
}

-- a value of the other reading that is made into one more
pub agrees_made : {A B D : Type 0} {make : B → A} {holds : B → Type 0} {next : D → A} {ends : D → Type 0} {c : Costed A} {d : Costed B} (g : B → D)
    → Agrees make holds c d → ((x : B) → holds x → (make x ≡ next (g x)) × ends (g x)) → Agrees next ends c (map_at_cost g d)
agrees_made {A} {B} {D} {make} {holds} {next} {ends} {c} {d} g h more = record { given = by_given c.given d.given h.given; takes = h.takes }
  where
    by_given : (r : Result A Error) (q : Result B Error) → AgreesGiven make holds r q → AgreesGiven next ends r (reading.◌>>=◌ q (λ x. Ok (g x)))
    by_given r (Ok x) k = let m = more x k.1 in (k.0 ∙ ap Ok m.0, m.1)
    by_given r (Err e) k = k

-- parts of the bytes on the way
pub agrees_parts : {A B : Type 0} {make : B → A} {holds : B → Type 0} {c : Costed A} {d : Costed B} → Agrees make holds c d → Agrees make holds (on_parts c) (on_parts d)
agrees_parts {c = c} {d = d} h = record { given = h.given; takes = λ shares. or_more shares (d.takes_memory false) (c.takes_memory false) (h.takes false) }

-- room after both, or after the first
pub agrees_room : {A B : Type 0} {make : B → A} {holds : B → Type 0} {c : Costed A} {d : Costed B} (stores : Bool) → Agrees make holds c d → Agrees make holds (then_room_if stores c) (then_room_if stores d)
agrees_room {A} {B} {make} {holds} {c} {d} stores h = record {
  given = h.given;
  takes = λ shares. or_both (d.takes_memory shares) _ (c.takes_memory shares) _ (h.takes shares) (by_given c.given d.given h.given);
}
  where
    by_given : (r : Result A Error) (q : Result B Error) → AgreesGiven make holds r q → (is_ok q && stores) ≡ true → (is_ok r && stores) ≡ true
    by_given r (Ok x) k t = ap (λ v. is_ok v && stores) k.0 ∙ t
    by_given r (Err e) k t = absurd cc

pub room_more : {A B : Type 0} {make : B → A} {holds : B → Type 0} {c : Costed A} {d : Costed B} (stores : Bool) → Agrees make holds c d → Agrees make holds (then_room_if stores c) d
room_more {c = c} stores h = record { given = h.given; takes = λ shares t. or_left (c.takes_memory shares) (is_ok c.given && stores) (h.takes shares t) }

-- The loads that a handle was asked to answer (DWARF 5, section 7.3.2).
-- Own: the load of a unit keeps the place where it was first asked for, which is its token. It
-- waits from each time that it is asked for until it is answered or forgotten.
use Rattle.std.specs.Prelude.{◌==◌, ◌++◌, ◌∷◌, ℕ, Bool, true, List, [], fold, position, slice_get, slice_set, Option, Some, None, option_and_then, option_map}
use Rattle.addr2line_c.specs.Common.{SplitLoad}
use Rattle.addr2line_c.specs.declared.loads.AskedLoad.{AskedLoad}

module _ {R : Type 0} where
  -- a load, and whether it waits
  abbrev pub asked_load : SplitLoad → Bool → AskedLoad R
  asked_load load waits = record { load = load; waits = waits }

  -- the place of the load of the unit of a number, if it was asked for
  abbrev pub place_of_load : List (AskedLoad R) → ℕ → Option ℕ
  place_of_load asked n = position (λ (a : AskedLoad R). a.load.unit == n) asked

  -- the loads where the one of a place waits, or doesn't
  abbrev pub with_waits : Bool → List (AskedLoad R) → ℕ → List (AskedLoad R)
  with_waits waits asked place = elim (slice_get asked place) [
    | None ↦ asked
    | Some a ↦ slice_set asked place (asked_load a.load waits)
  ]

  -- the loads once one more was asked for
  abbrev pub with_load : List (AskedLoad R) → SplitLoad → List (AskedLoad R)
  with_load asked load = elim (place_of_load asked load.unit) [
    | None ↦ asked ++ asked_load load true ∷ []
    | Some place ↦ with_waits true asked place
  ]

  -- the loads once these were asked for, one after another
  abbrev pub with_loads : List (AskedLoad R) → List SplitLoad → List (AskedLoad R)
  with_loads asked loads = fold with_load asked loads

  -- the load of a token
  abbrev pub load_of_token : List (AskedLoad R) → ℕ → Option SplitLoad
  load_of_token asked token = option_map (λ (a : AskedLoad R). a.load) (slice_get asked token)

  -- the token of the first load that waits
  abbrev pub first_waiting : List (AskedLoad R) → Option ℕ
  first_waiting asked = position (λ (a : AskedLoad R). a.waits) asked

  -- the first load that waits, after its token
  abbrev pub waiting_load : List (AskedLoad R) → Option (ℕ × SplitLoad)
  waiting_load asked = option_and_then
      (λ token. option_map (λ load. (token, load)) (load_of_token asked token))
      (first_waiting asked)

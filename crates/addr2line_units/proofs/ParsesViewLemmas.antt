-- What a parse of functions leaves of a unit that is decided, and of the functions in its view (on
-- specs/UnitAfter.antt and specs/ParsesAfter.antt).
use Rattle.addr2line_units.proofs.Common.{◌≡◌, ◌∙◌, Bool, true, refl, sym, ap, subst, Ok, Err, Error, ExactlyUnlessOom, UnitRecord, Scope, FunctionTable, LazyFunctions, ReadingDepth, AreFunctionsOf, StayFunctions, cached_fault, read_of_functions, were_read, Box, Global, IsTableOf}
use Rattle.addr2line_units.specs.declared.entries.LazyFunctions.TheVariants as lazy
use Rattle.addr2line_units.specs.declared.parses.ReadingDepth.TheVariants as depths
use Rattle.addr2line_units.specs.UnitAfter.{AfterCachingFunctions}
use Rattle.addr2line_units.proofs.EntriesFindLemmas.{cached_right, were_unread}
use Rattle.addr2line_units.proofs.EntriesFunctionLemmas.{no_fault_of, stay_faulty}
use Rattle.addr2line_units.proofs.EntriesKeeps.{KeepsReadFunctions}
use Rattle.addr2line_units.proofs.ParsesAfterLemmas.{alone_after, alone_gives, details_after, fault_of_depth, refused_after}
use Rattle.addr2line_units.proofs.ParsesCachedLemmas.{cached_stay}
use Rattle.addr2line_units.proofs.ParsesReadyLemmas.{fault_of_functions, known_not_oom, ready_fault, ready_same}

-- functions that were cached before a parse, unless memory was refused for them
module _ {R : Type 0} (shares : Bool) (scope : Scope) (view : UnitRecord) (old mid : LazyFunctions R) (was : AreFunctionsOf scope view old) where
  module _ (depth : ReadingDepth) (e : Error) (a : AfterCachingFunctions shares scope view (Err e) old mid) where
    pub unread_gives : ExactlyUnlessOom (λ (y : Unit {0}). y) (Err e) (read_of_functions depth scope view)
    unread_gives = λ ne. absurd (ne a.refused.0.0)

    pub unread_after : KeepsReadFunctions shares depth scope view (Err e) old mid
    unread_after = refused_after shares scope view old mid (cached_right shares scope view (Err e) old mid was a) depth e a.refused.0.0 a.refused.1 (were_unread shares scope view 0 old mid e a) a.refused.0.1

  module _ (a : AfterCachingFunctions shares scope view (Ok tt) old mid) where
    pub now_right : AreFunctionsOf scope view mid
    now_right = cached_right shares scope view (Ok tt) old mid was a

    pub kept_by_cache : were_read old ≡ true → mid ≡ old
    kept_by_cache read = (a.kept read).0

    pub mid_gives : cached_fault mid ≡ read_of_functions depths.Functions scope view
    mid_gives = alone_gives shares scope view old mid now_right kept_by_cache a.read a.empty

    pub mid_after : KeepsReadFunctions shares depths.Functions scope view (cached_fault mid) old mid
    mid_after = alone_after shares scope view old mid now_right kept_by_cache a.read a.empty

    -- that is all where there are none
    module _ (is : mid ≡ lazy.Absent) where
      pub none_gives : (depth : ReadingDepth) → read_of_functions depth scope view ≡ Ok tt
      none_gives depths.Functions = sym mid_gives ∙ ap (λ (f : LazyFunctions R). cached_fault f) is
      none_gives depths.Details = no_fault_of scope view (subst (AreFunctionsOf scope view) is now_right)

      pub none_after : (depth : ReadingDepth) → KeepsReadFunctions shares depth scope view (Ok tt) old lazy.Absent
      none_after depths.Functions = subst (λ (f : LazyFunctions R). KeepsReadFunctions shares depths.Functions scope view (cached_fault f) old f) is mid_after
      none_after depths.Details = details_after shares scope view old lazy.Absent (subst (AreFunctionsOf scope view) is now_right) (Ok tt) was (none_gives depths.Details)
          (subst (λ (f : LazyFunctions R). StayFunctions old f) is (cached_stay scope view old mid kept_by_cache)) refl tt (λ ne. tt) (λ ready. tt) (λ ready. sym (none_gives depths.Details)) (λ ready. sym is ∙ ready_same depths.Details old mid kept_by_cache ready)

    -- and where they have a fault
    module _ (e : Error) (is : mid ≡ lazy.Faulty e) where
      fault_now : AreFunctionsOf {R = R} scope view (lazy.Faulty e)
      fault_now = subst (λ (f : LazyFunctions R). AreFunctionsOf scope view f) is now_right

      pub faulty_gives : (depth : ReadingDepth) → read_of_functions depth scope view ≡ Err e
      faulty_gives depth = fault_of_depth depth scope view e fault_now

      pub faulty_after : (depth : ReadingDepth) → KeepsReadFunctions shares depth scope view (Err e) old (lazy.Faulty e)
      faulty_after depths.Functions = subst (λ (f : LazyFunctions R). KeepsReadFunctions shares depths.Functions scope view (cached_fault f) old f) is mid_after
      faulty_after depths.Details = let fault = fault_of_functions scope view e fault_now in
          details_after shares scope view old (lazy.Faulty e) fault_now (Err e) was (λ _. fault) (stay_faulty old mid kept_by_cache e is) tt tt
          (λ ne. ready_fault depths.Details e ne) (λ ready. known_not_oom depths.Details e ready) (λ ready. sym fault) (λ ready. sym is ∙ ready_same depths.Details old mid kept_by_cache ready)

    -- and where they were read
    module _ (t : Box FunctionTable Global) (is : mid ≡ lazy.Read t) where
      pub table_now : IsTableOf scope view t.value
      table_now = subst (λ (f : LazyFunctions R). AreFunctionsOf scope view f) is now_right

-- a depth that isn't that of functions alone
pub reads_details : (depth : ReadingDepth) → (depth ≡ depths.Functions → ⊥) → depth ≡ depths.Details
reads_details depths.Functions not = absurd (not refl)
reads_details depths.Details not = refl

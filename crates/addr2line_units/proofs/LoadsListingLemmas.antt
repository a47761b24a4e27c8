-- Loads that are listed, one unit after another (on specs/UnitsAfter.antt and
-- specs/LoadsListed.antt).
use Rattle.addr2line_units.proofs.Common.{◌≡◌, inl, inr, ℕ, ◌++◌, Bool, List, [], ◌∷◌, filter, Option, refl, sym, ap, subst, ◌∙◌, Sections, UnitRecord, UnitRange, FindsNothing, NoneOpen, load_of_number, LeadTo, UnitsState, SplitLoad}
use Rattle.std.specs.Option.{option_to_list}
use Rattle.addr2line_units.specs.UnitsAfter.{AfterListing}
use Rattle.addr2line_units.specs.LoadsListed.{MarksLoad, if_new, is_new}
use Rattle.addr2line_units.specs.LoadsLaws.{loads_of}
use Rattle.addr2line_units.proofs.EntriesLearnedLemmas.{learns_none_twice}
use Rattle.addr2line_units.proofs.LoadsLemmas.{listed_more, none_marked}
use Rattle.addr2line_units.proofs.EntriesStayLemmas.{known_twice}

-- the load of the unit of a number
abbrev pub load_in : UnitsState → ℕ → Option SplitLoad
load_in s n = load_of_number s.scope.file.sections s.scope.file.units s.answers n

-- no load was listed yet
pub listing_first : (asks : ℕ → Type 0) (old : UnitsState) → AfterListing asks old (record old { stop = FindsNothing })
listing_first asks old = record {
  stays = refl;
  answers = refl;
  known = λ n. record { at = λ probe e. e; whole = λ depth h. h };
  learns = λ n. inl refl;
  functions = λ n. inl refl;
}

-- that of one more unit
pub listing_over : (asks : ℕ → Type 0) (k : ℕ) (old mid now : UnitsState) → AfterListing asks old mid → AfterListing (λ n. n ≡ k) mid now → asks k → AfterListing asks old now
listing_over asks k old mid now a b asked = record {
  stays = b.stays ∙ ap (λ (s : UnitsState). record s { answers = now.answers; known = now.known; stop = FindsNothing }) a.stays;
  answers = b.answers ∙ a.answers;
  known = known_twice old.known mid.known now.known a.known b.known;
  learns = λ n. elim (b.learns n) [
    | inl same ↦ elim (a.learns n) [ inl e ↦ inl (same ∙ e) | inr q ↦ inr q ]
    | inr is ↦ inr (subst asks (sym is) asked)
  ];
  functions = learns_none_twice old.known mid.known now.known a.functions b.functions;
}

-- a listing that has gone on so far: the loads that are listed, and those along the ranges that are
-- left whose units aren't marked
pub record ListedSoFar (all rest : List UnitRange) (marks : List ℕ) (loads : List SplitLoad) (old now : UnitsState) : Type 0 where
  pub after : AfterListing (LeadTo all) old now
  pub listed : loads ++ filter (is_new marks) (loads_of old.scope.file.sections old.scope.file.units old.answers rest) ≡ loads_of old.scope.file.sections old.scope.file.units old.answers all
  pub none_open : NoneOpen old.scope.file.sections old.scope.file.units old.answers all → NoneOpen old.scope.file.sections old.scope.file.units old.answers rest
  pub leads : (n : ℕ) → LeadTo rest n → LeadTo all n

pub listed_first : (all : List UnitRange) (marks : List ℕ) (loads : List SplitLoad) (old : UnitsState) → marks ≡ [] → loads ≡ [] → ListedSoFar all all marks loads old (record old { stop = FindsNothing })
listed_first all marks loads old unmarked none = record {
  after = listing_first (LeadTo all) old;
  listed = ap (λ ls. ls ++ filter (is_new marks) every) none ∙ ap (λ m. filter (is_new m) every) unmarked ∙ none_marked every;
  none_open = λ h. h;
  leads = λ n e. e;
}
  where
    every : List SplitLoad
    every = loads_of old.scope.file.sections old.scope.file.units old.answers all

-- one more unit
module _ (all : List UnitRange) (marks : List ℕ) (loads : List SplitLoad) (old mid : UnitsState) (r : UnitRange) (rest ranges : List UnitRange) (is : ranges ≡ r ∷ rest) (w : ListedSoFar all ranges marks loads old mid) where
  abbrev d : Sections
  d = old.scope.file.sections

  abbrev us : List UnitRecord
  us = old.scope.file.units

  same_load : load_in mid r.unit ≡ load_in old r.unit
  same_load = ap (λ (s : UnitsState). load_in s r.unit) w.after.stays ∙ ap (λ a. load_of_number d us a r.unit) w.after.answers

  module _ (now : UnitsState) (a : AfterListing (λ n. n ≡ r.unit) mid now) where
    pub after_next : AfterListing (LeadTo all) old now
    after_next = listing_over (LeadTo all) r.unit old mid now w.after a (w.leads r.unit (subst (λ xs. LeadTo xs r.unit) (sym is) (inl refl)))

    pub listed_next : (marked : List ℕ) (found : Option SplitLoad) (more : List SplitLoad) → found ≡ if_new marks (load_in mid r.unit) → MarksLoad (load_in mid r.unit) marks marked → more ≡ loads ++ option_to_list found
        → ListedSoFar all rest marked more old now
    listed_next marked found more gives marks_it grown = record {
      after = after_next;
      listed = ap (λ ls. ls ++ filter (is_new marked) (loads_of d us old.answers rest)) grown
          ∙ listed_more loads (load_in old r.unit) marks marked (loads_of d us old.answers rest) (loads_of d us old.answers all) found
          (gives ∙ ap (if_new marks) same_load) (subst (λ o. MarksLoad o marks marked) same_load marks_it)
          (subst (λ rs. loads ++ filter (is_new marks) (loads_of d us old.answers rs) ≡ loads_of d us old.answers all) is w.listed);
      none_open = λ none. (subst (NoneOpen d us old.answers) is (w.none_open none)).1;
      leads = λ n e. w.leads n (subst (λ xs. LeadTo xs n) (sym is) (inr e));
    }

use Rattle.addr2line.proofs.Common.{◌≡◌, Ok, Some, option_map, true, ap, sym, subst, refl, ◌∙◌, LoadsUnlessOom, ObjectFile, Option, is_same_id, or_none, split_by}
use Rattle.gimli.specs.declared.unit.DwoId.{DwoId}
use Rattle.addr2line.specs.FileSections.{split_section}
use Rattle.addr2line.specs.declared.kept_files.SplitFound.{SplitFound}
use Rattle.addr2line.specs.declared.kept_files.SplitFound.TheVariants.{Other, Wanted}
use Rattle.addr2line.proofs.KeptFileLemmas.{keeps_as_before}
use Rattle.addr2line.proofs.SplitFileLemmas.{kept_made, refused_memory}
use Rattle.addr2line.proofs.split_files.answer_stamped.Goals as goal

-- the file is kept
pub returns-in-Some-Wanted-clause-gives : goal.returns-in-Some-Wanted-clause-gives
returns-in-Some-Wanted-clause-gives g c =
    let object = c.in-Some-Wanted.object in
    let gives = c.wanted.ensures.gives (λ d. d.value) _ (c.without_fault.ensures.gives (λ d. d.value) _ c.read_split_object.ensures.gives) in
    record {
      found = λ other at.
          let e = (c.in-Some-Wanted.ensures.gives (Wanted other)).1 at in
          let same : object ≡ other = cc in
          subst (λ (o : ObjectFile). LoadsUnlessOom (option_map (λ d. d.value)) c.wanted.result (Ok (or_none (split_by (split_section c.args.compressed o) c.args.load.now)))) same gives;
      other = λ id at no. let e = (c.in-Some-Wanted.ensures.gives (Other id)).1 at in absurd cc;
      made = kept_made (λ d. d.value) c.args.compressed c.args.load.now object c.wanted.result gives;
      refused = refused_memory c.wanted.result c.without_fault.result c.wanted.ensures.refused c.without_fault.ensures.refused;
    }

pub returns-in-Some-Wanted-clause-after : goal.returns-in-Some-Wanted-clause-after
returns-in-Some-Wanted-clause-after g c =
    let object = c.in-Some-Wanted.object in
    let is : ◌≡◌ {A = SplitFound ObjectFile} c.in-Some-Wanted.field-0.now (Wanted object) = cc in
    keeps_as_before c.args.compressed c.args.load.now c.args.path.now c.args.stamp _ c.args.kept.now (Wanted object) ((c.in-Some-Wanted.ensures.gives (Wanted object)).0 (ap Some is))

-- the identifier of the load is kept, so the file is read
pub returns-then-is_same-clause-gives : goal.returns-then-is_same-clause-gives
returns-then-is_same-clause-gives g c =
    let kept = c.in-Some-Other.id in
    let test = ap (λ l. is_same_id l.dwo_id kept) (sym c.load.view_is) ∙ sym c.is_same.ensures.gives ∙ c.if-is_same.true in
    record {
      found = λ object at. let e = (c.in-Some-Other.ensures.gives (Wanted object)).1 at in absurd cc;
      other = λ id at no.
          let e = (c.in-Some-Other.ensures.gives (Other id)).1 at in
          let same : kept ≡ id = cc in
          let bad = sym (subst (λ (i : Option DwoId). is_same_id c.args.load.now.dwo_id i ≡ true) same test) ∙ no in
          absurd cc;
      made = c.read_stamped.ensures.made;
      refused = c.read_stamped.ensures.refused;
    }

-- another one is kept
pub returns-else-is_same-clause-gives : goal.returns-else-is_same-clause-gives
returns-else-is_same-clause-gives g c =
    record {
      found = λ object at. let e = (c.in-Some-Other.ensures.gives (Wanted object)).1 at in absurd cc;
      other = λ id at no. refl;
      made = tt;
      refused = tt;
    }

pub returns-else-is_same-clause-after : goal.returns-else-is_same-clause-after
returns-else-is_same-clause-after g c =
    let kept = c.in-Some-Other.id in
    let is : ◌≡◌ {A = SplitFound ObjectFile} c.in-Some-Other.field-0.now (Other kept) = cc in
    keeps_as_before c.args.compressed c.args.load.now c.args.path.now c.args.stamp _ c.args.kept.now (Other kept) ((c.in-Some-Other.ensures.gives (Other kept)).0 (ap Some is))

-- nothing is kept
pub returns-in-None-clause-gives : goal.returns-in-None-clause-gives
returns-in-None-clause-gives g c =
    record {
      found = λ object at. let e = (c.in-None.ensures.gives (Wanted object)).1 at in absurd cc;
      other = λ id at no. let e = (c.in-None.ensures.gives (Other id)).1 at in absurd cc;
      made = c.read_stamped-in-None.ensures.made;
      refused = c.read_stamped-in-None.ensures.refused;
    }

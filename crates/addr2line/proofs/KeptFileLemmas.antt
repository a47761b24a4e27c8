-- Files that are kept by their paths (on specs/KeptFiles.antt).
use Rattle.addr2line.proofs.Common.{◌≡◌, ◌≢◌, inl, inr, ℕ, Bool, false, true, List, Option, Some, None, Result, Ok, Err, refl, sym, ap, subst, is_ok, option_map, ◌∙◌, if◌then◌else◌, Decides-and, Decides-eqb, Decides-int_eq, ObjectFile, IfSome, Loading, Sections, SplitLoad}
use Rattle.std.specs.Prelude.{IsErr}
use Rattle.std.specs.Bool.{Decides}
use Rattle.std.specs.Str.{bytes_eq}
use Rattle.std.proofs.lemmas.Slice.Eq.{bytes_eq-Decides}
use Rattle.addr2line.specs.contracts.files.FileStampPartialEq.TheImpl as stamp_eq
use Rattle.addr2line.specs.contracts.files.FileTimePartialEq.TheImpl as time_eq
use Rattle.addr2line.specs.declared.files.FileStamp.{FileStamp}
use Rattle.addr2line.specs.declared.files.FileTime.{FileTime}
use Rattle.addr2line.specs.declared.kept_files.KeptFile.{KeptFile}
use Rattle.addr2line.specs.declared.kept_files.KeptFiles.{KeptFiles}
use Rattle.addr2line.specs.declared.compressed.CompressedSections.{CompressedSections}
use Rattle.addr2line.specs.declared.kept_files.SplitFound.{SplitFound}
use Rattle.addr2line.specs.declared.kept_files.SplitFound.TheVariants.{Other, Wanted}
use Rattle.addr2line.specs.declared.split_files.AnsweringFile.{AnsweringFile}
use Rattle.addr2line.specs.KeptFiles.{ChangesAt, HasAnswered, IsKeptAt, KeepsStamped, kept_at}
use Rattle.addr2line.specs.SplitFiles.{Answers, AreOfSomeFile, HasOtherId, IfWanted, found_as, wanted_by}

-- a test decides whether it is true
itself : (b : Bool) → Decides b (b ≡ true)
itself b = ((λ e. e), λ e. e)

same_time : (a b : FileTime) → time_eq.ghosts.eq a b ≡ true → a ≡ b
same_time a b h =
    let p = (Decides-and _ _ (Decides-int_eq a.seconds b.seconds) (Decides-int_eq a.nanoseconds b.nanoseconds)).0 h in
    ap (λ s. record { seconds = s; nanoseconds = a.nanoseconds }) p.0 ∙ ap (λ n. record { seconds = b.seconds; nanoseconds = n }) p.1

-- stamps that are found equal are the same
pub same_stamp : (a b : FileStamp) → stamp_eq.ghosts.eq a b ≡ true → a ≡ b
same_stamp a b h =
    let p = (Decides-and _ _ (Decides-eqb a.device b.device) (Decides-and _ _ (Decides-eqb a.inode b.inode) (Decides-and _ _ (Decides-eqb a.len b.len) (Decides-and _ _ (itself (time_eq.ghosts.eq a.modified b.modified)) (itself (time_eq.ghosts.eq a.changed b.changed)))))).0 h in
    ap (λ (d : ℕ). record { device = d; inode = a.inode; len = a.len; modified = a.modified; changed = a.changed }) p.0
    ∙ ap (λ (i : ℕ). record { device = b.device; inode = i; len = a.len; modified = a.modified; changed = a.changed }) p.1.0
    ∙ ap (λ (l : ℕ). record { device = b.device; inode = b.inode; len = l; modified = a.modified; changed = a.changed }) p.1.1.0
    ∙ ap (λ (t : FileTime). record { device = b.device; inode = b.inode; len = b.len; modified = t; changed = a.changed }) (same_time a.modified b.modified p.1.1.1.0)
    ∙ ap (λ (t : FileTime). record { device = b.device; inode = b.inode; len = b.len; modified = b.modified; changed = t }) (same_time a.changed b.changed p.1.1.1.1)

-- what is kept with a stamp is the one thing that is kept with it
pub found_with : (kept : Option KeptFile) (file : KeptFile) (stamp : FileStamp) → Some file ≡ kept → file.stamp ≡ stamp → (found : SplitFound ObjectFile) → (Some file.found ≡ Some found → kept ≡ Some (record { stamp = stamp; found = found })) × (kept ≡ Some (record { stamp = stamp; found = found }) → Some file.found ≡ Some found)
found_with kept file stamp is same found = (
  (λ p. sym is ∙ ap (λ s. Some (record { stamp = s; found = file.found })) same ∙ ap (λ o. option_map (λ (x : SplitFound ObjectFile). record { stamp = stamp; found = x }) o) p),
  λ q. ap (λ o. option_map (λ (k : KeptFile). k.found) o) (is ∙ q),
)

-- a refused change of what is kept for a path is none
pub unchanged_at : {A E : Type 0} (r : Result A E) → IsErr r → (path : List ℕ) (file : Option KeptFile) (old new : KeptFiles) → ((other : List ℕ) → kept_at new other ≡ kept_at old other) → ChangesAt path (if is_ok r then file else kept_at old path) old new
unchanged_at (Ok x) bad path file old new same other = absurd cc
unchanged_at (Err e) bad path file old new same other = same other ∙ sym (by (bytes_eq path other) (bytes_eq-Decides path other))
  where
    by : (b : Bool) → Decides b (path ≡ other) → (if b then kept_at old path else kept_at old other) ≡ kept_at old other
    by true d = ap (λ p. kept_at old p) (d.0 refl)
    by false d = refl

-- what is kept with a stamp is all that is kept for its path
pub kept_stamp : (kept : KeptFiles) (path : List ℕ) (stamp : FileStamp) (found : SplitFound ObjectFile) → IsKeptAt kept path stamp found → (file : KeptFile) → kept_at kept path ≡ Some file → file.stamp ≡ stamp
kept_stamp kept path stamp found at file is =
    let e : Some file ≡ Some (record { stamp = stamp; found = found }) = sym is ∙ at in
    let same : ◌≡◌ {A = KeptFile} file (record { stamp = stamp; found = found }) = cc in
    ap (λ (f : KeptFile). f.stamp) same

-- a path is the same as itself, and as no other
same_path : (path : List ℕ) → bytes_eq path path ≡ true
same_path path = (bytes_eq-Decides path path).1 refl

other_path : (path other : List ℕ) → other ≢ path → bytes_eq path other ≡ false
other_path path other ne = by (bytes_eq path other) (bytes_eq-Decides path other)
  where
    by : (b : Bool) → Decides b (path ≡ other) → b ≡ false
    by true d = absurd (ne (sym (d.0 refl)))
    by false d = refl

-- what a file has for a load, and the answer that it gives, are kept of it
pub kept_answer : (compressed : CompressedSections) (load : SplitLoad) (found : SplitFound AnsweringFile)
    → IfWanted found (λ f. Answers compressed load f.object f.sections.value) → HasOtherId load found
    → HasAnswered compressed load (Ok (wanted_by (λ f. f.sections.value) found)) (found_as (λ f. f.object) found)
kept_answer choice load (Wanted f) made other = (f.sections.value, refl, made)
kept_answer choice load (Other id) made other = (refl, other)

-- sections that a file has for a load are those of some file
pub made_of_kept : {X : Type 0} (see : X → Sections) (compressed : CompressedSections) (load : SplitLoad) (found : SplitFound AnsweringFile) (sections : Option X)
    → option_map see sections ≡ wanted_by (λ f. f.sections.value) found
    → IfWanted found (λ f. Answers compressed load f.object f.sections.value) → IfSome sections (λ x. AreOfSomeFile compressed load (see x))
made_of_kept see choice load found None is made = tt
made_of_kept see choice load (Wanted f) (Some x) is made = let same : f.sections.value ≡ see x = cc in subst (AreOfSomeFile choice load) same (f.object, made)
made_of_kept see choice load (Other id) (Some x) is made = absurd cc

-- what was kept with the stamp stays
pub keeps_as_before : (compressed : CompressedSections) (load : SplitLoad) (path : List ℕ) (stamp : FileStamp) (answer : Loading (Option Sections)) (kept : KeptFiles) (found : SplitFound ObjectFile)
    → IsKeptAt kept path stamp found → KeepsStamped compressed load path stamp answer kept kept
keeps_as_before choice load path stamp answer kept found at = record {
  after = record { others = λ other ne. refl; own = λ file is. inl is };
  stamped = kept_stamp kept path stamp found at;
}

-- what was kept for a path was let go of
module _ (compressed : CompressedSections) (load : SplitLoad) (path : List ℕ) (stamp : FileStamp) (answer : Loading (Option Sections)) (old mid : KeptFiles) (removed : ChangesAt path None old mid) where
  gone : kept_at mid path ≡ None
  gone = removed path ∙ ap (λ b. if b then None else kept_at old path) (same_path path)

  stays : (other : List ℕ) → other ≢ path → kept_at mid other ≡ kept_at old other
  stays other ne = removed other ∙ ap (λ b. if b then None else kept_at old other) (other_path path other ne)

  -- and nothing else is kept
  pub keeps_nothing : KeepsStamped compressed load path stamp answer old mid
  keeps_nothing = record {
    after = record { others = stays; own = λ file at. let no = sym gone ∙ at in absurd cc };
    stamped = λ file at. let no = sym gone ∙ at in absurd cc;
  }

  -- and what gave the answer is kept, unless memory was refused for it
  pub keeps_found : (found : SplitFound ObjectFile) → HasAnswered compressed load answer found → (new : KeptFiles) (is_put : Bool)
      → ChangesAt path (if is_put then Some (record { stamp = stamp; found = found }) else kept_at mid path) mid new
      → KeepsStamped compressed load path stamp answer old new
  keeps_found found so new true put = record {
    after = record {
      others = λ other ne. put other ∙ ap (λ b. if b then Some kept else kept_at mid other) (other_path path other ne) ∙ stays other ne;
      own = λ file at. inr (subst (λ (k : KeptFile). HasAnswered compressed load answer k.found) (is file at) so);
    };
    stamped = λ file at. ap (λ (k : KeptFile). k.stamp) (sym (is file at));
  }
    where
      kept : KeptFile
      kept = record { stamp = stamp; found = found }

      is : (file : KeptFile) → kept_at new path ≡ Some file → kept ≡ file
      is file at =
          let e : Some kept ≡ Some file = sym (put path ∙ ap (λ b. if b then Some kept else kept_at mid path) (same_path path)) ∙ at in
          let same : ◌≡◌ {A = KeptFile} kept file = cc in
          same
  keeps_found found so new false put = record {
    after = record {
      others = λ other ne. put other ∙ ap (λ b. if b then kept_at mid path else kept_at mid other) (other_path path other ne) ∙ stays other ne;
      own = λ file at. let no = sym none ∙ at in absurd cc;
    };
    stamped = λ file at. let no = sym none ∙ at in absurd cc;
  }
    where
      none : kept_at new path ≡ None
      none = put path ∙ ap (λ b. if b then kept_at mid path else kept_at mid path) (same_path path) ∙ gone

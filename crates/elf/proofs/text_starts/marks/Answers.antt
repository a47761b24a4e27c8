use Rattle.elf.proofs.Common.{ℕ, Bool, List, [], ◌∷◌, ◌++◌, suc, ◌≡◌, ◌∙◌, ◌+◌, ◌-◌, ◌<◌, ap, subst, sym, drop, length, reverse, arith, drop-drop, reverse-append, begins_text, text_starts, IsTextDistance}
use Rattle.elf.proofs.StartLemmas.{starts_next}
use Rattle.elf.proofs.text_starts.marks.Goals as goal

-- the tail from one place before
before : (table : List ℕ) (read : ℕ) → read < length table → drop 1 (drop (length table - 1 - read) table) ≡ drop (length table - read) table
before table read l =
    let n : (length table - 1 - read) + 1 ≡ length table - read = omega arith in
    drop-drop 1 (length table - 1 - read) table ∙ ap (λ (k : ℕ). drop k table) n

-- the marks of one place more
one_more : (table : List ℕ) (read : ℕ) (marks more : List Bool) (mark : Bool) → read < length table
    → marks ≡ reverse (text_starts (drop (length table - read) table)) → more ≡ marks ++ mark ∷ [] → mark ≡ begins_text (drop (length table - (read + 1)) table)
    → more ≡ reverse (text_starts (drop (length table - (read + 1)) table))
one_more table read marks more mark l known pushed is =
    let at = length table - (read + 1) in
    let next : length table - read ≡ suc at = omega arith in
    let here = begins_text (drop at table) in
    let rest = text_starts (drop (suc at) table) in
    let marked : reverse (text_starts (drop at table)) ≡ reverse rest ++ here ∷ [] = ap reverse (starts_next table at (omega arith)) ∙ reverse-append (here ∷ []) rest in
    pushed ∙ ap (λ (m : List Bool). m ++ mark ∷ []) known ∙ ap (λ (b : Bool). reverse (text_starts (drop (length table - read) table)) ++ b ∷ []) is
    ∙ ap (λ (k : ℕ). reverse (text_starts (drop k table)) ++ here ∷ []) next ∙ sym marked

pub text_distance-distance-requires-clause-next : goal.text_distance-distance-requires-clause-next
text_distance-distance-requires-clause-next c =
    let table = c.args.table.now in
    let tail : drop 1 c.split_at.result.1.now ≡ drop (length table - c.loop-read.read) table = ap (drop 1) c.split_at.ensures.back ∙ before table c.loop-read.read c.loop-read-test.true in
    let P : List ℕ → Type 0 = λ bytes. IsTextDistance bytes c.loop-read.distance in
    subst P (sym tail) c.loop-read.invariant.distance

pub loop-read-preserved : goal.loop-read-preserved
loop-read-preserved c =
    let table = c.args.table.now in
    let read = c.loop-read.read in
    let at : length table - 1 - read ≡ length table - (read + 1) = omega arith in
    let tail : c.split_at.result.1.now ≡ drop (length table - (read + 1)) table = c.split_at.ensures.back ∙ ap (λ (k : ℕ). drop k table) at in
    let P : List ℕ → Type 0 = λ bytes. IsTextDistance bytes c.text_distance-distance.result in
    record {
      distance = subst P tail c.text_distance-distance.ensures.gives;
      starts = one_more table read _ _ c.is_start.result c.loop-read-test.true c.loop-read.invariant.starts c.in_ok-push.ensures.items (c.is_start.ensures.gives ∙ ap begins_text tail);
    }

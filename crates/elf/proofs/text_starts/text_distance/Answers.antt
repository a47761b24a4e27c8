use Rattle.elf.proofs.Common.{ℕ, suc, Some, ◌≡◌, ◌+◌, ◌<◌, subst, sym, drop, take, arith, IsUtf8, IsTextDistance}
use Rattle.std.specs.Prelude.{Option}
use Rattle.elf.proofs.StartLemmas.{start_found, start_broken, start_far}
use Rattle.elf.proofs.text_starts.text_distance.Goals as goal

pub returns-then-distance-gt-MAX_LEN_UTF8 : goal.returns-then-distance-gt-MAX_LEN_UTF8
returns-then-distance-gt-MAX_LEN_UTF8 c =
    let tail = c.args.tail.now in
    let d = c.in_ok-distance.field-0 in
    let one : suc d ≡ d + 1 = omega arith in
    let P : Option ℕ → Type 0 = λ n. IsTextDistance (drop 1 tail) n in
    let Q : ℕ → Type 0 = λ n. IsTextDistance tail (Some n) in
    let far : 4 < suc d = (let l = c.if-distance-gt-MAX_LEN_UTF8.true in omega arith) in
    record { gives = subst Q one (start_far tail d c.requires.some c.if-tail-eq0.false (subst P c.in_ok-distance.was c.requires.next) far) }

pub returns-then-is_utf8 : goal.returns-then-is_utf8
returns-then-is_utf8 c =
    let tail = c.args.tail.now in
    let d = c.in_ok-distance.field-0 in
    let one : d + 1 ≡ suc d = omega arith in
    let P : Option ℕ → Type 0 = λ n. IsTextDistance (drop 1 tail) n in
    let Q : ℕ → Type 0 = λ n. IsUtf8 (take n tail) in
    record { gives = start_found tail d c.requires.some c.if-tail-eq0.false (subst P c.in_ok-distance.was c.requires.next) (subst Q one c.if-is_utf8.ensures.gives) }

pub returns-else-is_utf8 : goal.returns-else-is_utf8
returns-else-is_utf8 c =
    let tail = c.args.tail.now in
    let d = c.in_ok-distance.field-0 in
    let one : d + 1 ≡ suc d = omega arith in
    let P : Option ℕ → Type 0 = λ n. IsTextDistance (drop 1 tail) n in
    let Q : ℕ → Type 0 = λ n. ¬ (IsUtf8 (take n tail)) in
    let R : ℕ → Type 0 = λ n. IsTextDistance tail (Some n) in
    let broken = start_broken tail d c.requires.some c.if-tail-eq0.false (subst P c.in_ok-distance.was c.requires.next) (subst Q one c.if-is_utf8.ensures.gives) in
    record { gives = subst R (sym one) broken }

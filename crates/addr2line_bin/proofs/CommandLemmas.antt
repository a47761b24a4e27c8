-- Lemmas on the words of the command line (specs/CommandLine): matches and their rows, and faults.
use Rattle.addr2line_bin.proofs.Common.{◌≡◌, ◌∙◌, ap, refl, sym, subst, inl, inr, true, false, ℕ, List, [], Bor, Result, Ok, Err, IfErr, IfOk, IsErrAnd, Option, Some, None, IsSomeAnd, MatchOption, codes, cond, map, option_map, option_copied, whole_command}
use Rattle.std.specs.Prelude.{◌&&◌, Bool, is_ok, is_some, not}
use Rattle.clap.specs.Words.{App, Rule, Text, is_simple, is_simple_and_free, takes, with_rule}
use Rattle.clap.specs.Words.{HasKind, IsAmong, Kinds, fault_of, kind_of}
use Rattle.clap.specs.Words.{Row, all_of, first_of, first_value, matched_of, matches_of, raw_values, rows_of}
use Rattle.clap.specs.declared.error.Error.{Error}
use Rattle.clap.specs.declared.error.kind.ErrorKind.TheVariants as kind
use Rattle.clap.specs.declared.parser.matches.Found.{Found}
use Rattle.clap.proofs.WalkLemmas.{first_value-rows, raw_values-rows}
use Rattle.addr2line_bin.specs.CommandLine.{IsFaultOf, IsUnasked, IsWordFault, asks_recursion, exe_beside, is_complete, is_on, output_of, styled_word}
use Rattle.addr2line_bin.specs.CommandLine.{exe_in}
use Rattle.addr2line_bin.specs.CommandLine.{are_taken, faults_in, matches_in}
use Rattle.addr2line_bin.specs.declared.command_line.Misuse.TheVariants as misuse
use Rattle.addr2line_bin.specs.declared.command_line.WordFault.{WordFault}
use Rattle.addr2line_bin.specs.declared.command_line.WordFault.TheVariants as fault

-- ---- what matches lend is what stands in their rows

pub first_of_matches : (f : Found) (id : Text) → first_value f id ≡ first_of id (rows_of f)
first_of_matches f id = first_value-rows f id

pub all_of_matches : (f : Found) (id : Text)
    → option_map raw_values (matched_of f id) ≡ all_of id (rows_of f)
all_of_matches f id = raw_values-rows f id

-- ---- arguments

-- a command with one more argument, by what the command was before
pub adds_next : {new old known : App} (rule : Rule) → new ≡ with_rule old rule → old ≡ known
    → new ≡ with_rule known rule
adds_next rule adds same = adds ∙ ap (λ a. with_rule a rule) same

-- ---- what a parse by the command says of the words

pub is_simple_by : (a : App) → a ≡ whole_command → is_simple a ≡ true
is_simple_by a e = ap is_simple e ∙ refl

pub is_free_by : (a : App) → a ≡ whole_command → is_simple_and_free a ≡ true
is_free_by a e = ap is_simple_and_free e ∙ refl

pub taken_by : (a : App) (words styled : List Text) → a ≡ whole_command
    → styled ≡ map styled_word words → are_taken words ≡ true → takes a styled ≡ true
unfolding are_taken
taken_by a words styled e same h = ap (takes a) same ∙ ap (λ b. takes b (map styled_word words)) e ∙ h

pub matches_by : (a : App) (words styled : List Text) (rows : List Row) → a ≡ whole_command
    → styled ≡ map styled_word words → rows ≡ matches_of a styled → rows ≡ matches_in words
unfolding matches_in
matches_by a words styled rows e same h =
    h ∙ ap (matches_of a) same ∙ ap (λ b. matches_of b (map styled_word words)) e

pub faults_by : (a : App) (words styled : List Text) → a ≡ whole_command
    → styled ≡ map styled_word words → fault_of a styled ≡ faults_in words
unfolding faults_in
faults_by a words styled e same =
    ap (fault_of a) same ∙ ap (λ b. fault_of b (map styled_word words)) e

-- ---- faults of words

-- a fault of the parse is a fault of the words
pub word_fault_of : (kinds : Kinds) (words : List Text) (x : Error) (e : WordFault)
    → kinds ≡ faults_in words → HasKind kinds x → IsFaultOf x e → IsWordFault words e
word_fault_of kinds words x e same told (inl m) = subst (IsWordFault words) (sym m.1) tt
word_fault_of kinds words x e same (inl k) (inr m) = absurd (m.0 k)
word_fault_of kinds words x e same (inr k) (inr m) =
    subst (IsWordFault words) (sym m.1) (subst (IsAmong (kind_of x)) same k)

-- so are words that ask for nothing
pub unasked_fault : (words : List Text) (e : WordFault) → faults_in words ≡ []
    → IsUnasked (matches_in words) e → IsWordFault words e
unasked_fault words e h (inl m) = subst (IsWordFault words) (sym m) tt
unasked_fault words e h (inr m) = subst (IsWordFault words) (sym m.1) (h, m.2)

-- complete matches miss memory alone
pub complete_fault : (rows : List Row) (e : WordFault) → IsUnasked rows e → is_complete rows ≡ true
    → e ≡ fault.OutOfMemory
complete_fault rows e (inl m) h = m
complete_fault rows e (inr m) h =
    let no : true ≡ false = sym h ∙ ap is_ok m.2 in absurd cc

-- complete matches with address words haven't `--all`
pub all_alone : (rows : List Row) → is_complete rows ≡ true → (texts : List Text)
    → all_of (codes "probes") rows ≡ Some texts → is_on (codes "all") rows ≡ false
unfolding exe_in
all_alone rows h texts e =
    pick (asks_recursion rows) (not (is_some (output_of rows))) (is_on (codes "demangle-other") rows)
    (is_on (codes "all") rows) (is_some (all_of (codes "probes") rows)) (first_of (codes "exe") rows) h (ap is_some e)
  where
    pick : (a b c d f : Bool) (path : Option Text)
        → is_ok (cond a (Err misuse.RecursionLimit) (cond b (Err misuse.OutputStyle) (cond c (Err misuse.NameStyle) (exe_beside (d && f) path)))) ≡ true
        → f ≡ true → d ≡ false
    pick true b c d f path h k = let no : false ≡ true = h in absurd cc
    pick false true c d f path h k = let no : false ≡ true = h in absurd cc
    pick false false true d f path h k = let no : false ≡ true = h in absurd cc
    pick false false false d f None h k = let no : false ≡ true = h in absurd cc
    pick false false false true true (Some path) h k = let no : false ≡ true = h in absurd cc
    pick false false false true false (Some path) h k = let no : false ≡ true = k in absurd cc
    pick false false false false f (Some path) h k = refl

-- words that the command takes miss memory alone
pub taken_fault : (x : Error) (e : WordFault) → kind_of x ≡ kind.OutOfMemory → IsFaultOf x e
    → e ≡ fault.OutOfMemory
taken_fault x e k (inl m) = m.1
taken_fault x e k (inr m) = absurd (m.0 k)

-- ---- of results

pub err_weaker : {X E : Type 0} (r : Result X E) (Q P : E → Type 0) → IsErrAnd r Q
    → ((e : E) → Q e → P e) → IfErr r P
err_weaker (Ok x) Q P q f = tt
err_weaker (Err e) Q P q f = f e q

pub ok_of_both : {X E : Type 0} (r : Result X E) (P Q R : X → Type 0) → IfOk r P → IfOk r Q
    → ((x : X) → P x → Q x → R x) → IfOk r R
ok_of_both (Ok x) P Q R p q f = f x p q
ok_of_both (Err e) P Q R p q f = tt

-- ---- of options

-- a text that there may be, and what it lends
pub deref_text : {A : Type 0} (bytes : A → List ℕ) (text : Option A) (lent : Option (Bor (List ℕ)))
    → MatchOption text (lent ≡ None) (λ x. IsSomeAnd lent (λ y. y.now ≡ bytes x))
    → option_copied lent ≡ option_map bytes text
deref_text bytes None None h = refl
deref_text bytes None (Some y) h = absurd cc
deref_text bytes (Some x) None h = absurd h
deref_text bytes (Some x) (Some y) h = ap Some h

-- it lends one exactly where there is one
pub deref_some : {A : Type 0} (bytes : A → List ℕ) (text : Option A) (lent : Option (Bor (List ℕ)))
    → MatchOption text (lent ≡ None) (λ x. IsSomeAnd lent (λ y. y.now ≡ bytes x))
    → is_some lent ≡ is_some text
deref_some bytes None None h = refl
deref_some bytes None (Some y) h = absurd cc
deref_some bytes (Some x) None h = absurd h
deref_some bytes (Some x) (Some y) h = refl

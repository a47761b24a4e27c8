-- Texts that go to a writer one after another.
use Rattle.addr2line_bin.proofs.Common.{◌∙◌, ℕ, Bool, true, false, List, [], ◌++◌, Option, Some, None, refl, sym, ap, append-nil, append_assoc, Appends, Keeps, WritesPrefix, WritesUnlessFailed, WritesIfUnfailed}

pub appends_nothing : (old new : Option (List ℕ)) → Keeps old new → Appends old new []
appends_nothing None new k = tt
appends_nothing (Some xs) None k = k
appends_nothing (Some xs) (Some ys) k = k ∙ sym (append-nil xs)

pub keeps_after : (old mid new : Option (List ℕ)) (a : List ℕ) → Appends old mid a → Keeps mid new → Appends old new a
keeps_after None mid new a p k = tt
keeps_after (Some xs) None new a p k = absurd p
keeps_after (Some xs) (Some ys) None a p k = k
keeps_after (Some xs) (Some ys) (Some zs) a p k = k ∙ p

pub appends_both : (old mid new : Option (List ℕ)) (a b : List ℕ) → Appends old mid a → Appends mid new b → Appends old new (a ++ b)
appends_both None mid new a b p q = tt
appends_both (Some xs) None new a b p q = absurd p
appends_both (Some xs) (Some ys) None a b p q = q
appends_both (Some xs) (Some ys) (Some zs) a b p q = q ∙ ap (λ s. s ++ b) p ∙ append_assoc xs a b

-- what was whole, and then a beginning
pub part_later : (old mid new : Option (List ℕ)) (a b : List ℕ) → Appends old mid a → WritesPrefix mid new b → WritesPrefix old new (a ++ b)
part_later old mid new a b p q = record {
  written = a ++ q.written;
  rest = q.rest;
  joins = ap (λ s. a ++ s) q.joins ∙ sym (append_assoc a q.written q.rest);
  appends = appends_both old mid new a q.written p q.appends;
}

-- a beginning of a text is one of a longer text
pub part_longer : (old new : Option (List ℕ)) (a b : List ℕ) → WritesPrefix old new a → WritesPrefix old new (a ++ b)
part_longer old new a b p = record {
  written = p.written;
  rest = p.rest ++ b;
  joins = ap (λ s. s ++ b) p.joins ∙ append_assoc p.written p.rest b;
  appends = p.appends;
}

pub whole : (old new : Option (List ℕ)) (a : List ℕ) → Appends old new a → WritesPrefix old new a
whole old new a p = record { written = a; rest = []; joins = sym (append-nil a); appends = p }

pub part_kept : (old mid new : Option (List ℕ)) (a : List ℕ) → WritesPrefix old mid a → Keeps mid new → WritesPrefix old new a
part_kept old mid new a p k = record { written = p.written; rest = p.rest; joins = p.joins; appends = keeps_after old mid new p.written p.appends k }

-- a text, and then one more
pub goes_on : (old mid new : Option (List ℕ)) (f g : Bool) (a b : List ℕ) → WritesUnlessFailed old mid f a → WritesIfUnfailed mid new f g b → WritesUnlessFailed old new g (a ++ b)
goes_on old mid new true true a b p q = part_longer old new a b (part_kept old mid new a p q.0)
goes_on old mid new true false a b p q = absurd (cc)
goes_on old mid new false true a b p q = part_later old mid new a b p q
goes_on old mid new false false a b p q = appends_both old mid new a b p q

pub part_flushed : (old mid new : Option (List ℕ)) (a : List ℕ) → Appends old mid a → Keeps mid new → WritesPrefix old new a
part_flushed old mid new a p k = whole old new a (keeps_after old mid new a p k)

pub sends_nothing : (old : Option (List ℕ)) (f : Bool) → Keeps old old → WritesIfUnfailed old old f f []
sends_nothing old true k = (k, refl)
sends_nothing old false k = appends_nothing old old k

pub keeps_itself : (old : Option (List ℕ)) → Keeps old old
keeps_itself None = tt
keeps_itself (Some xs) = refl

keeps_both : (old mid new : Option (List ℕ)) → Keeps old mid → Keeps mid new → Keeps old new
keeps_both None mid new p q = tt
keeps_both (Some xs) None new p q = absurd p
keeps_both (Some xs) (Some ys) None p q = q
keeps_both (Some xs) (Some ys) (Some zs) p q = q ∙ p

-- what was sent, and one more text
pub sends_on : (old mid new : Option (List ℕ)) (f g h : Bool) (a b : List ℕ) → WritesIfUnfailed old mid f g a → WritesIfUnfailed mid new g h b → WritesIfUnfailed old new f h (a ++ b)
sends_on old mid new true true h a b p q = (keeps_both old mid new p.0 q.0, q.1)
sends_on old mid new true false h a b p q = absurd (cc)
sends_on old mid new false g h a b p q = goes_on old mid new g h a b p q

pub part_nothing : (old : Option (List ℕ)) (text : List ℕ) → WritesPrefix old old text
part_nothing old text = record { written = []; rest = text; joins = refl; appends = appends_nothing old old (keeps_itself old) }

use Rattle.addr2line_units.proofs.Common.{◌≡◌, ◌∙◌, false, false≢true, refl, rules, sym, true, err_from_is_err_and, as_scope, were_read}
use Rattle.addr2line_units.proofs.EntriesFindLemmas.{unread_has_none}
use Rattle.addr2line_units.proofs.LoadsAnswerLemmas.{unread_are}
use Rattle.addr2line_units.proofs.entries.LazyFunctions.cache.Goals as goal

pub returns-in_err-self : goal.returns-in_err-self
returns-in_err-self g c =
    let p = err_from_is_err_and c.from_residual.result c.from_residual.ensures.1 in
    let unread : were_read c.args.self.now ≡ false = search rules in
    rw (p.1, p.2) (record {
      after = record {
        functions = λ _. unread_are (as_scope c.args.scope) c.args.view.now c.args.self.now unread;
        read = tt;
        empty = λ _. unread_has_none c.args.self.now unread;
        kept = λ read. absurd (false≢true (sym unread ∙ read));
        refused = (c.in_err-self.ensures.refused, refl);
      };
    })

pub returns-in_ok-self : goal.returns-in_ok-self
returns-in_ok-self g c =
    let unread : were_read c.args.self.now ≡ false = search rules in
    let new = c.in_ok-self.ensures.read in
    record {
      after = record {
        functions = λ _. new.functions;
        read = new.read;
        empty = λ _. new.empty;
        kept = λ read. absurd (false≢true (sym unread ∙ read));
        refused = tt;
      };
    }

pub returns-else-not-were_read : goal.returns-else-not-were_read
returns-else-not-were_read g c =
    let read : were_read c.args.self.now ≡ true = search rules in
    record {
      after = record {
        functions = λ unread. absurd (false≢true (sym unread ∙ read));
        read = read;
        empty = λ unread. absurd (false≢true (sym unread ∙ read));
        kept = λ _. (refl, refl);
        refused = tt;
      };
    }

use Rattle.addr2line.proofs.Common.{◌≡◌, refl, rules, string_bytes, IfOk-at_ok}
use Rattle.std.proofs.lemmas.Map.Text.{btree_map_updates_text}
use Rattle.addr2line.proofs.KeptFileLemmas.{unchanged_at}
use Rattle.addr2line.proofs.kept_files.KeptFiles.put.Goals as goal

pub returns-in_err-path : goal.returns-in_err-path
returns-in_err-path c = record { after = unchanged_at c.from_residual.result c.from_residual.ensures.0 c.args.path.now _ c.args.self.now c.args.self.now (λ other. refl) }

pub returns-in_err-insert : goal.returns-in_err-insert
returns-in_err-insert c = record { after = unchanged_at c.from_residual-in_err-insert.result c.from_residual-in_err-insert.ensures.0 c.args.path.now _ c.args.self.now (record { alloc = c.args.self.now.alloc; files = c.insert.new.self }) (λ other. search rules) }

pub returns : goal.returns
returns c =
    let key = IfOk-at_ok (λ s. string_bytes s ≡ c.args.path.now) c.in_ok-path.was c.from_str.ensures.ok in
    record { after = rw key at (btree_map_updates_text (string_bytes c.in_ok-path.path) c.args.self.now.files c.insert.new.self _ c.in_ok-insert.ensures.updates) }

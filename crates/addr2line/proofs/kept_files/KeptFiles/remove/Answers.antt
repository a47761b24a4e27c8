use Rattle.std.proofs.lemmas.Map.Text.{btree_map_updates_text}
use Rattle.addr2line.proofs.kept_files.KeptFiles.remove.Goals as goal

pub returns : goal.returns
returns c = record { after = btree_map_updates_text c.args.path.now c.args.self.now.files c.remove.new.self _ c.remove.ensures.updates }

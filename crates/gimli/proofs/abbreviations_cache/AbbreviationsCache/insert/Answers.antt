use Rattle.gimli.proofs.Common.{ap, ◌∙◌, CachedTables, is_cached}
use Rattle.gimli.proofs.CachedTableLemmas.{cached_now, cached_still}
use Rattle.gimli.proofs.abbreviations_cache.AbbreviationsCache.insert.Goals as goal

pub returns-clause-known : goal.returns-clause-known
returns-clause-known g c =
    let room = ap (λ (x : CachedTables). x.room) c.self.view_is in (
      λ _. (
        cached_now c.insert.new.self c.args.offset c.args.table c.in_ok-insert.ensures.updates.1,
        rw (room, ← c.requires.read) at c.room_after-room.ensures.gives,
      ),
      λ none. absurd (c.if-self-eq0.false (room ∙ none)),
    )

pub returns-clause-after : goal.returns-clause-after
returns-clause-after g c = λ o h.
    cached_still c.self.inside.tables c.insert.new.self c.args.offset c.args.table c.in_ok-insert.ensures.updates.0 o
    (ap (is_cached o) c.self.view_is ∙ h)

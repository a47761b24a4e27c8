use Rattle.gimli.proofs.Common.{◌≡◌, Option, Some, None, is_some, option_copied, Bor, refl, ap, ◌∙◌, CachedTables}
use Rattle.gimli.proofs.CachedTableLemmas.{found_is_cached}
use Rattle.gimli.proofs.abbreviations_cache.AbbreviationsCache.get.Goals as goal

copied : {T : Type 0} (r : Option (Bor T)) → is_some r ≡ is_some (option_copied r)
copied (Some x) = refl
copied None = refl

pub returns-clause-found : goal.returns-clause-found
returns-clause-found g c =
    copied c.get.result ∙ ap is_some c.get.ensures.value
    ∙ found_is_cached c.self.inside.tables c.args.self.now c.args.offset (ap (λ (x : CachedTables). x.offsets) c.self.view_is)

use Rattle.gimli.proofs.ItemLemmas.{subtrees_lie_deeper}
use Rattle.gimli.proofs.ItemReads.{items_alone}
use Rattle.gimli.proofs.ItemTexts.{items_cover}
use Rattle.gimli.proofs.SubtreeLemmas.{subtrees_close}
use Rattle.gimli.proofs.laws.item_laws.Goals as goal

pub returns : goal.returns
returns c = record {
  law = record {
    cover = items_cover;
    alone = items_alone;
    deeper = subtrees_lie_deeper;
    close = subtrees_close;
  };
}

use Rattle.addr2line_bin.proofs.Common.{string_bytes}
use Rattle.addr2line_bin.proofs.AddressLemmas.{three_texts}
use Rattle.addr2line_bin.proofs.address_text.push_topic.Goals as goal

pub returns : goal.returns
returns c = record { gives = three_texts (string_bytes c.args.text.now) c.args.name.now _ _ _ _ c.args.what.now c.in_ok-push_str.ensures.bytes c.in_ok-push_str-2.ensures.bytes c.in_ok-push_str-3.ensures.bytes }

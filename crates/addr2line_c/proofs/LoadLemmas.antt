-- What C gets for a load, part by part (on specs/Loads.antt).
use Rattle.addr2line_c.proofs.Common.{◌≡◌, ◌∙◌, ℕ, List, Some, option_and_then, option_map, ap, SplitLoad}
use Rattle.addr2line_c.specs.declared.loads.AskedLoad.{AskedLoad}
use Rattle.addr2line_c.specs.AskedLoads.{first_waiting, load_of_token, waiting_load}
use Rattle.addr2line_c.specs.declared.loads.WrittenLoad.{WrittenLoad}
use Rattle.addr2line_c.specs.declared.parts.TextPart.{TextPart}

-- a load with the same texts
pub same_load : (token dwo_id : ℕ) (d d' p p' : TextPart) → d ≡ d' → p ≡ p'
    → ◌≡◌ {A = WrittenLoad} (record { token = token; dwo_id = dwo_id; directory = d; path = p })
    (record { token = token; dwo_id = dwo_id; directory = d'; path = p' })
same_load token dwo_id d d' p p' is so =
    ap (λ (x : TextPart). record { token = token; dwo_id = dwo_id; directory = x; path = p }) is
    ∙ ap (λ (x : TextPart). record { token = token; dwo_id = dwo_id; directory = d'; path = x }) so

-- the first load that waits, by its token
pub waiting_is : {R : Type 0} (asked : List (AskedLoad R)) (token : ℕ) (load : SplitLoad)
    → first_waiting asked ≡ Some token → load_of_token asked token ≡ Some load
    → waiting_load asked ≡ Some (token, load)
waiting_is asked token load first is =
    ap (λ o. option_and_then (λ t. option_map (λ (l : SplitLoad). (t, l)) (load_of_token asked t)) o) first
    ∙ ap (λ o. option_map (λ (l : SplitLoad). (token, l)) o) is

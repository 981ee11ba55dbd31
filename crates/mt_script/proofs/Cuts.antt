-- Where texts are cut.
use Rattle.std.proofs.Common.{Bor, ◌≡◌, ℕ, ◌<◌, List, Option, Some, None, sym, ap, ◌∙◌}
use Rattle.std.specs.Option.{option_map}
use Rattle.std.proofs.lemmas.Str.Pattern.{IsSplitOnceResult, split_parts}
use Rattle.base_text.specs.Cutting.{cut}
use Rattle.base_text.proofs.Cuts.{not_cut, cut_there}

-- what `split_once` gives
pub split_is_cut : (byte : ℕ) (bs : List ℕ) (r : Option (Bor (List ℕ) × Bor (List ℕ))) → byte < 128 → IsSplitOnceResult byte bs r
    → option_map (λ (parts : Bor (List ℕ) × Bor (List ℕ)). (parts.0.now, parts.1.now)) r ≡ cut byte bs
split_is_cut byte bs None ascii is = sym (not_cut byte bs (split_parts byte bs None is ascii))
split_is_cut byte bs (Some parts) ascii is =
    let at = split_parts byte bs (Some parts) is ascii in
    sym (ap (cut byte) at.0 ∙ cut_there byte parts.0.now parts.1.now at.1)

-- Lists of texts as items.
use Rattle.std.proofs.Common.{◌≡◌, ℕ, List, [], ◌∷◌, map, refl, ap}
use Rattle.gd_tree.specs.Json.{text, item}
use Rattle.gd_json.specs.View.{items_of}
use Rattle.gd_defs.specs.Lines.{texts}

pub items_of_texts : (ts : List (List ℕ)) → items_of (map text ts) ≡ texts ts
items_of_texts [] = refl
items_of_texts (t ∷ ts) = ap (item (text t)) (items_of_texts ts)

-- The tokens of a tree, by which the crate json writes it.
use Rattle.std.specs.Prelude.{List, [], ◌∷◌, ◌++◌}
use Rattle.json.specs.Token as token
use Rattle.json.specs.Token.{Token}
use Rattle.gd_tree.specs.Json.{Json, null, boolean, number, text, list, object, Items, no_items, item, Members, no_members, member, number_text}

abbrev mutual
  pub tokens_of : Json → List Token
  tokens_of null = token.null ∷ []
  tokens_of (boolean b) = token.boolean b ∷ []
  tokens_of (number n) = token.number (number_text n) ∷ []
  tokens_of (text t) = token.string t ∷ []
  tokens_of (list js) = token.begin_array ∷ items_tokens js
  tokens_of (object ms) = token.begin_object ∷ members_tokens ms

  -- with the closing bracket
  pub items_tokens : Items → List Token
  items_tokens no_items = token.end_array ∷ []
  items_tokens (item j js) = tokens_of j ++ items_tokens js

  pub members_tokens : Members → List Token
  members_tokens no_members = token.end_object ∷ []
  members_tokens (member k j ms) = token.key k ∷ (tokens_of j ++ members_tokens ms)

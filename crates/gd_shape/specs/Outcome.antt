-- What printing comes to, as the definitions have it.
use Rattle.std.specs.Prelude.{◌≡◌, ◌++◌, ℕ, List, Result, Ok, Err, Vec, IsNone}
use Rattle.std.specs.declared.alloc.Global.{Global}
use Rattle.json.specs.Token.{Token}
use Rattle.gd_tree.specs.Json.{Json, Items, Members, compact}
use Rattle.gd_bytes.specs.Frozen.{Walk}
use Rattle.gd_defs.specs.Reply.{Path}
use Rattle.gd_frozen.specs.declared.frozen.Walk.{Walk as WalkAt}
use Rattle.gd_runs.specs.Shape.{Printed}
use Rattle.gd_json.specs.Tokens.{tokens_of, items_tokens, members_tokens}
use Rattle.gd_order_laws.specs.Window.{In}
use Rattle.gd_shape.specs.Knowing.{known_at}
use Rattle.gd_shape.specs.declared.sight.Lack.{Lack}
use Rattle.gd_shape.specs.declared.sight.Lack.TheVariants as lack

-- what was printed, seen through a function, or the path of two answers
abbrev pub seen : {A B : Type 0} → (A → B) → Result A (Vec (List ℕ) Global) → Result B Path
seen f (Ok a) = Ok (f a)
seen f (Err path) = Err path.items

-- the tokens of a value stand behind others
abbrev pub Adds : List Token → List Token → Json → Type 0
Adds old new j = new ≡ old ++ tokens_of j

-- the tokens of what prints behind others with the walks that are left, or the path of two answers
abbrev pub written : List Token → Printed Json → Result (List Token × List Walk) Path
written old (Ok p) = Ok (old ++ tokens_of p.0, p.1)
written old (Err path) = Err path

-- those of further items of a list, with its end
abbrev pub items_written : List Token → Printed Items → Result (List Token × List Walk) Path
items_written old (Ok p) = Ok (old ++ items_tokens p.0, p.1)
items_written old (Err path) = Err path

-- those of further members of an object, with its end
abbrev pub members_written : List Token → Printed Members → Result (List Token × List Walk) Path
members_written old (Ok p) = Ok (old ++ members_tokens p.0, p.1)
members_written old (Err path) = Err path

-- what was printed before, where what is left out prints, with the walks that are left then, or its path of two answers
abbrev pub beside : {A B : Type 0} → B → Printed A → Result (B × List Walk) Path
beside b (Ok p) = Ok (b, p.1)
beside b (Err path) = Err path

-- the compact text of what prints, or the path of two answers
abbrev pub text_of : Result Json Path → Result (List ℕ) Path
text_of (Ok j) = Ok (compact j)
text_of (Err path) = Err path

-- an object whose id is lacking has none among these
abbrev pub Lacks : List (ℕ × WalkAt) → Lack → Type 0
Lacks ids (lack.IdOf object) = IsNone (known_at ids object)
Lacks ids lack.Memory = Unit {0}

-- an object whose id is lacking is one of these
abbrev pub LacksOf : List ℕ → Lack → Type 0
LacksOf os (lack.IdOf object) = In object os
LacksOf os lack.Memory = Unit {0}

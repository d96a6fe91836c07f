use Rattle.std.proofs.Common.{◌≡◌, ◌∙◌, ◌++◌, ◌∷◌, [], ap, map, Bor, List, ℕ, Option, Some, None, option_map, Result, Ok, Err, codes}
use Rattle.std.specs.Option.{ok_or}
use Rattle.std.proofs.lemmas.Result.{err_from_is_err_and}
use Rattle.gd_grammar.specs.Chain.{◌>>=◌}
use Rattle.gd_prim.specs.History.{prims_of}
use Rattle.gd_defs.specs.Data.{key_from}
use Rattle.gd_defs.specs.Query.{bad_value}
use Rattle.gd_defs.specs.Asked as asked
use Rattle.gd_defs.specs.Write.Parts as parts
use Rattle.gd_json.specs.View.{view as json_of}
use Rattle.gd_compile.specs.Fault.{unknown_of}
use Rattle.gd_intent.proofs.targets.key_target.Goals as goal

-- the namespace is there, and the key is refused
keyless : (p : Result ℕ asked.Unknown) (o : ℕ) (key : Option (List ℕ)) (u f : asked.Unknown) → p ≡ Ok o → ok_or key u ≡ Err f → (p >>= λ o. ok_or (option_map (parts.to_key o) key) u) ≡ Err f
keyless p o None u f is refused = ap (λ (r : Result ℕ asked.Unknown). r >>= λ o. ok_or (option_map (parts.to_key o) None) u) is ∙ (let same : u ≡ f = cc in ap Err same)
keyless p o (Some key) u f is refused = cc

pub returns-in_err-key-clause-target : goal.returns-in_err-key-clause-target
returns-in_err-key-clause-target g c =
    let p = err_from_is_err_and c.from_residual-in_err-key.result c.from_residual-in_err-key.ensures.1 in
    let path = map (λ (n : Bor (List ℕ)). n.now) c.args.path.now in
    rw (p.1, p.2) (λ known. keyless (asked.place_named (prims_of c.args.view.now) c.args.namespace.now) c.in_ok-namespace.namespace (key_from (json_of c.args.json.now)) (asked.bad_query bad_value (path ++ codes "value" ∷ []))
    (unknown_of c.in_err-key.field-0.0) c.in_ok-namespace.ensures.place (c.in_err-key.ensures known))

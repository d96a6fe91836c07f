-- What the items of a list spell, one after another.
use Rattle.std.proofs.Common.{◌≡◌, ◌+◌, ℕ, List, [], ◌∷◌, ◌++◌, Option, Result, Ok, Err, refl, sym, ap, subst}
use Rattle.std.specs.Prelude.{decimal, option_map}
use Rattle.std.specs.Result.{result_err}
use Rattle.std.proofs.lemmas.List.{append_assoc, append-nil}
use Rattle.gd_grammar.specs.Chain.{◌>>=◌}
use Rattle.gd_tree.specs.Json as tree
use Rattle.gd_tree.specs.Json.{Items, item, no_items}
use Rattle.gd_defs.specs.Query.{Fault, within, each_numbered}
use Rattle.gd_form_laws.specs.Faults.{below}
use Rattle.gd_mql.specs.declared.form_fault.FormFault.{FormFault}
use Rattle.gd_mql.specs.declared.form_fault.FormFault.TheVariants.{Bad, Memory}
use Rattle.gd_mql.specs.FormFault.{Refuses}

-- ---- steps

-- a step that is refused refuses what follows it
pub step-refused : {A B : Type 0} (r : Result A Fault) (g : A → Result B Fault) (f : FormFault) → Refuses (result_err r) f → Refuses (result_err (r >>= g)) f
step-refused r g Memory refuses = tt
step-refused (Ok x) g (Bad code names) refuses = cc
step-refused (Err e) g (Bad code names) refuses = refuses

above_within : {A : Type 0} (name : List ℕ) (r : Result A Fault) (seen : FormFault) → Refuses (option_map (below name) (result_err r)) seen → Refuses (result_err (within name r)) seen
above_within name (Ok x) seen h = h
above_within name (Err e) seen h = h

-- an outcome that is refused below a member is refused above it
pub within-refused : {A : Type 0} (name text : List ℕ) (r : Result A Fault) (f seen : FormFault) → text ≡ name → Refuses (result_err r) f → ((e : Option Fault) → Refuses e f → Refuses (option_map (below text) e) seen) → Refuses (result_err (within name r)) seen
within-refused name text r f seen same refuses above = above_within name r seen (subst (λ t. Refuses (option_map (below t) (result_err r)) seen) same (above (result_err r) refuses))

-- ---- items

-- what was spelled before, in front of what the others spell
abbrev pub behind : {A : Type 0} → List A → Result (List A) Fault → Result (List A) Fault
behind xs r = r >>= λ ys. Ok (xs ++ ys)

-- an item that is refused
pub each-stop : {A : Type 0} (f : tree.Json → Result A Fault) (n : ℕ) (j : tree.Json) (js : Items) (xs : List A) (fault : FormFault) → Refuses (result_err (within (decimal n) (f j))) fault
    → Refuses (result_err (behind xs (each_numbered f n (item j js)))) fault
each-stop f n j js xs fault refuses =
    step-refused (each_numbered f n (item j js)) (λ ys. Ok (xs ++ ys)) fault (step-refused (within (decimal n) (f j)) (λ x. each_numbered f (n + 1) js >>= λ ys. Ok (x ∷ ys)) fault refuses)

-- The words and targets of writes as the definitions have them.
use Rattle.std.specs.Prelude.{◌≡◌, ℕ, List, [], ◌∷◌, Bool, Result, Ok, Err, MatchResult}
use Rattle.gd_json.specs.View.{view}
use Rattle.gd_defs.specs.Query.{Fault}
use Rattle.gd_defs.specs.Change as change
use Rattle.gd_defs.specs.Change.{write_name}
use Rattle.gd_fault.specs.Fault.{code_view}
use Rattle.gd_mql.specs.Names.{name_view}
use Rattle.gd_fault.specs.declared.fault.Code.{Code}
use Rattle.gd_mql.specs.declared.name.Name.{Name}
use Rattle.gd_mql.specs.declared.write_parts.ConnectWord.{ConnectWord}
use Rattle.gd_mql.specs.declared.write_parts.ConnectWord.TheVariants as word
use Rattle.gd_mql.specs.declared.write_parts.CreateWord.{CreateWord}
use Rattle.gd_mql.specs.declared.write_parts.CreateWord.TheVariants as create
use Rattle.gd_mql.specs.declared.write_parts.Target.{Target}
use Rattle.gd_mql.specs.declared.write_parts.Target.TheVariants as target
use Rattle.gd_mql.specs.declared.write_parts.Setting.{Setting}

-- the word that this is
abbrev pub connect_view : ConnectWord → change.ConnectWord
connect_view word.Insert = change.insert
connect_view word.Delete = change.delete
connect_view word.Update = change.update

-- the word that this is
abbrev pub create_view : CreateWord → change.CreateWord
create_view create.UnlessExists = change.unless_exists
create_view create.Unconditional = change.unconditional

-- the target that this is
abbrev pub target_view : Target → change.Target
target_view (target.Id t) = change.to_id t.now
target_view (target.Literal j) = change.to_literal (view j.now)
target_view (target.Text t j) = change.to_text t.now (view j.now)
target_view (target.Key t j) = change.to_key t.now (view j.now)

-- what is known of a clause
abbrev pub setting_view : Setting → change.Setting
setting_view s = record { at_root = s.at_root; creates = s.creates; has_id = s.has_id; has_fact = s.has_fact }

-- the call gives the name of a member of a write, or the code of the fault at that member
abbrev pub WriteNameGives : Bool → List ℕ → Result Name Code → Type 0
WriteNameGives root k result = MatchResult result (λ n. write_name root k ≡ Ok (name_view n)) (λ c. write_name root k ≡ Err (record { code = code_view c; path = k ∷ [] }))

-- a code at the member of this name
abbrev pub fault_of : List ℕ → Code → Fault
fault_of k c = record { code = code_view c; path = k ∷ [] }

-- Faults of form, with the names that lead to them.
use Rattle.std.specs.Prelude.{◌≡◌, ℕ, List, Option, Some, None, Result, Ok, MatchResult, reverse}
use Rattle.std.specs.Result.{result_err}
use Rattle.gd_defs.specs.Query.{Fault}
use Rattle.gd_fault.specs.Fault.{code_view}
use Rattle.gd_fault.specs.declared.fault.Code.{Code}
use Rattle.gd_fault.specs.declared.fault.LineFault.{LineFault}
use Rattle.gd_fault.specs.declared.fault.LineFault.TheVariants as line
use Rattle.gd_mql.specs.declared.form_fault.FormFault.{FormFault}
use Rattle.gd_mql.specs.declared.form_fault.FormFault.TheVariants.{Bad, Memory}

-- a code at the member to which names lead, the innermost first
abbrev pub fault_under : Code → List (List ℕ) → Fault
fault_under code names = record { code = code_view code; path = reverse names }

-- the fault is the one that is expected, or memory was wanting
abbrev pub Refuses : Option Fault → FormFault → Type 0
Refuses expected (Bad code names) = expected ≡ Some (fault_under code names.items)
Refuses expected Memory = Unit {0}

-- the check fails exactly where a fault is expected, and with that one, or for want of memory
abbrev pub Checks : Option Fault → Result (Unit {0}) FormFault → Type 0
Checks expected result = MatchResult result (λ _. expected ≡ None) (λ f. Refuses expected f)

-- the call gives what is expected, seen through `view`, or the fault that is expected, or else memory was wanting
abbrev pub Spells : {A B : Type 0} → (A → B) → Result B Fault → Result A FormFault → Type 0
Spells view expected result = MatchResult result (λ a. expected ≡ Ok (view a)) (λ f. Refuses (result_err expected) f)

-- the fault of a line that this is, its names turned
abbrev pub line_fault : FormFault → LineFault
line_fault (Bad code names) = line.BadQuery code (reverse names.items)
line_fault Memory = line.Memory

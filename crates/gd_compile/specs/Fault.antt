-- Why a query has no meaning, as the definitions have it.
use Rattle.std.specs.Prelude.{◌≡◌, ◌≢◌, [], Result, Ok, Err, MatchResult}
use Rattle.gd_defs.specs.Asked as defs
pub use Rattle.gd_plan.specs.PassedOn.{code_view}
use Rattle.gd_compile.specs.declared.fault.Unknown.{Unknown}
use Rattle.gd_compile.specs.declared.fault.Unknown.TheVariants as fault

-- the reason that this is; want of memory is none, and what it is here tells nothing
abbrev pub unknown_of : Unknown → defs.Unknown
unknown_of (fault.NoSuchId path) = defs.no_such_id path
unknown_of (fault.NoSuchProperty path) = defs.no_such_property path
unknown_of (fault.BadQuery c path) = defs.bad_query (code_view c) path
unknown_of fault.Memory = defs.no_such_id []

-- The call gives what is expected, seen through `view`: the value, or the reason why there is none, in whose place want of memory may come.
abbrev pub Finds : {A B : Type 0} → (A → B) → Result B defs.Unknown → Result A Unknown → Type 0
Finds view expected result = MatchResult result (λ a. expected ≡ Ok (view a)) (λ e. e ≢ fault.Memory → expected ≡ Err (unknown_of e))

-- The first fault of steps that follow one another.
use Rattle.std.proofs.Common.{◌≡◌, Bool, true, false, not, Option, Some, None, Result, Ok, Err, refl, sym, ap}
use Rattle.std.specs.Prelude.{if◌then◌else◌, option_map}
use Rattle.std.specs.Option.{option_or}
use Rattle.std.specs.Result.{result_err}
use Rattle.gd_grammar.specs.Chain.{◌>>=◌, map_err}

-- seen through a function, an outcome has the same fault
pub err-map : {A B E : Type 0} (r : Result A E) (f : A → B) → result_err (r >>= λ x. Ok (f x)) ≡ result_err r
err-map (Ok x) f = refl
err-map (Err e) f = refl

-- the fault of an outcome whose fault is seen through a function
pub err-map_err : {A E F : Type 0} (f : E → F) (r : Result A E) → result_err (map_err f r) ≡ option_map f (result_err r)
err-map_err f (Ok x) = refl
err-map_err f (Err e) = refl

-- a step and then the rest: the fault of the step alone, else that of the rest
pub err-chain : {A B C E : Type 0} (a : Result A E) (rest : Result B E) (f : A → B → C) (b : B) → result_err (a >>= λ x. rest >>= λ y. Ok (f x y)) ≡ option_or (result_err (a >>= λ x. Ok (f x b))) (result_err rest)
err-chain (Ok x) (Ok y) f b = refl
err-chain (Ok x) (Err e) f b = refl
err-chain (Err e) rest f b = refl

-- so it is of the rest alone
pub err-rest : {B C E : Type 0} (rest : Result B E) (f : B → C) → result_err (rest >>= λ y. Ok (f y)) ≡ option_or None (result_err rest)
err-rest (Ok y) f = refl
err-rest (Err e) f = refl

-- of two steps by a test each is such a step
pub err-if : {A C E : Type 0} (t : Bool) (x y : Result A E) (p q : Result C E) (e : Option E) → result_err x ≡ option_or (result_err p) e → result_err y ≡ option_or (result_err q) e
    → result_err (if t then x else y) ≡ option_or (result_err (if t then p else q)) e
err-if true x y p q e one other = one
err-if false x y p q e one other = other

-- what does not fail leaves the rest to decide
pub or-none : {E : Type 0} (p e : Option E) → p ≡ None → option_or p e ≡ e
or-none p e none = ap (λ o. option_or o e) none

-- what fails decides
pub or-some : {E : Type 0} (p e : Option E) (x : E) → p ≡ Some x → option_or p e ≡ Some x
or-some p e x some = ap (λ o. option_or o e) some

-- where none fails, the first does not
pub or-first : {E : Type 0} (p e : Option E) → option_or p e ≡ None → p ≡ None
or-first None e none = refl
or-first (Some x) e none = none

-- nor does the second
pub or-second : {E : Type 0} (p e : Option E) → option_or p e ≡ None → e ≡ None
or-second None e none = none
or-second (Some x) e none = elim (differ x none) [ ]
  where
    differ : {E : Type 0} (x : E) → Some x ≡ None → ⊥
    differ x same = cc

-- an outcome without a fault has a value
pub record Given {A E : Type 0} (r : Result A E) : Type 0 where
  pub value : A
  pub is : r ≡ Ok value

pub given : {A E : Type 0} (r : Result A E) → result_err r ≡ None → Given r
given (Ok x) none = record { value = x; is = refl }
given (Err e) none = elim (differ e none) [ ]
  where
    differ : {E : Type 0} (e : E) → Some e ≡ None → ⊥
    differ e same = cc

pub ok-none : {A E : Type 0} (r : Result A E) (x : A) → r ≡ Ok x → result_err r ≡ None
ok-none r x is = ap result_err is

-- what is negated to false is true, and the other way round
pub untrue : (b : Bool) → not b ≡ false → b ≡ true
untrue true is = refl
untrue false is = sym is

pub unfalse : (b : Bool) → not b ≡ true → b ≡ false
unfalse true is = sym is
unfalse false is = refl

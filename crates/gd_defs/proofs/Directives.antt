-- The names of directives, and what a directive makes of the clause of the rest.
use Rattle.std.proofs.Common.{◌≡◌, ℕ, List, Bool, true, false, ◌||◌, ◌&&◌, Some, None, Result, Ok, codes, bytes_eq, if◌then◌else◌, refl, sym, subst}
use Rattle.std.proofs.lemmas.Slice.Eq.{bytes_eq-Decides}
use Rattle.gd_grammar.specs.Chain.{◌>>=◌}
use Rattle.gd_tree.specs.Json.{Json}
use Rattle.gd_defs.specs.Query.{Fault, Clause, sort_by, fault, or_fault, bad_directive, is_directive, mode_of, limit_of, sort_of, is_count, with_directive}

-- ---- names

-- the name of each directive
abbrev pub optional_name : List ℕ
optional_name = codes "optional"

abbrev pub sort_name : List ℕ
sort_name = codes "sort"

abbrev pub limit_name : List ℕ
limit_name = codes "limit"

abbrev pub return_name : List ℕ
return_name = codes "return"

-- what holds of the four names holds of every name of a directive
pub each_name : (P : List ℕ → Type 0) → P optional_name → P sort_name → P limit_name → P return_name → (k : List ℕ) → is_directive k ≡ true → P k
each_name P optional sort limit return k is = by (bytes_eq k optional_name) (bytes_eq k sort_name) (bytes_eq k limit_name) (bytes_eq k return_name) refl refl refl refl is
  where
    renamed : (name : List ℕ) → bytes_eq k name ≡ true → P name → P k
    renamed name same p = subst P (sym ((bytes_eq-Decides k name).0 same)) p

    by : (o s l r : Bool) → bytes_eq k optional_name ≡ o → bytes_eq k sort_name ≡ s → bytes_eq k limit_name ≡ l → bytes_eq k return_name ≡ r → (o || (s || (l || (r || false)))) ≡ true → P k
    by true s l r o_is s_is l_is r_is one = renamed optional_name o_is optional
    by false true l r o_is s_is l_is r_is one = renamed sort_name s_is sort
    by false false true r o_is s_is l_is r_is one = renamed limit_name l_is limit
    by false false false true o_is s_is l_is r_is one = renamed return_name r_is return
    by false false false false o_is s_is l_is r_is one = absurd (cc)

-- a name is none of the four
pub record IsOther (k : List ℕ) : Type 0 where
  pub no_optional : bytes_eq k optional_name ≡ false
  pub no_sort : bytes_eq k sort_name ≡ false
  pub no_limit : bytes_eq k limit_name ≡ false
  pub no_return : bytes_eq k return_name ≡ false

-- a name that is no directive's is none of the four
pub other_name : (k : List ℕ) → is_directive k ≡ false → IsOther k
other_name k is = by (bytes_eq k optional_name) (bytes_eq k sort_name) (bytes_eq k limit_name) (bytes_eq k return_name) refl refl refl refl is
  where
    by : (o s l r : Bool) → bytes_eq k optional_name ≡ o → bytes_eq k sort_name ≡ s → bytes_eq k limit_name ≡ l → bytes_eq k return_name ≡ r → (o || (s || (l || (r || false)))) ≡ false → IsOther k
    by true s l r o_is s_is l_is r_is none = absurd (cc)
    by false true l r o_is s_is l_is r_is none = absurd (cc)
    by false false true r o_is s_is l_is r_is none = absurd (cc)
    by false false false true o_is s_is l_is r_is none = absurd (cc)
    by false false false false o_is s_is l_is r_is none = record { no_optional = o_is; no_sort = s_is; no_limit = l_is; no_return = r_is }

-- ---- what a directive makes of the clause of the rest

-- the mode that `optional` gives
abbrev pub gives_mode : Bool → List ℕ → Json → Result Clause Fault → Result Clause Fault
gives_mode root k j rest = or_fault bad_directive k (if root then None else mode_of j) >>= λ m. rest >>= λ c. Ok (record c.0 { mode = Some m }, c.1)

-- the limit that `limit` gives
abbrev pub gives_limit : List ℕ → Json → Result Clause Fault → Result Clause Fault
gives_limit k j rest = or_fault bad_directive k (limit_of j) >>= λ n. rest >>= λ c. Ok (record c.0 { limit = Some n }, c.1)

-- the words that `sort` puts in front of the members
abbrev pub gives_sort : List ℕ → Json → Result Clause Fault → Result Clause Fault
gives_sort k j rest = or_fault bad_directive k (sort_of j) >>= λ ws. rest >>= λ c. Ok (c.0, sort_by ws c.1)

-- that `return` asks for a count
abbrev pub gives_count : Bool → List ℕ → Json → Result Clause Fault → Result Clause Fault
gives_count root k j rest = if root && is_count j then (rest >>= λ c. Ok (record c.0 { count = true }, c.1)) else fault bad_directive k

-- what holds of what the four make holds of what each directive makes
pub each_effect : (P : (Result Clause Fault → Result Clause Fault) → Type 0) (root : Bool) (k : List ℕ) (j : Json) → P (gives_mode root k j) → P (gives_limit k j) → P (gives_sort k j) → P (gives_count root k j)
    → P (λ rest. with_directive root k j rest)
each_effect P root k j mode limit sort count = by (bytes_eq k optional_name) (bytes_eq k limit_name) (bytes_eq k sort_name)
  where
    by : (o l s : Bool) → P (λ rest. if o then gives_mode root k j rest else if l then gives_limit k j rest else if s then gives_sort k j rest else gives_count root k j rest)
    by true l s = mode
    by false true s = limit
    by false false true = sort
    by false false false = count

-- where the name is not that of `sort`, what holds of what the other three make
pub each_unsorted : (P : (Result Clause Fault → Result Clause Fault) → Type 0) (root : Bool) (k : List ℕ) (j : Json) → bytes_eq k sort_name ≡ false → P (gives_mode root k j) → P (gives_limit k j) → P (gives_count root k j)
    → P (λ rest. with_directive root k j rest)
each_unsorted P root k j unsorted mode limit count = rw unsorted (by (bytes_eq k optional_name) (bytes_eq k limit_name))
  where
    by : (o l : Bool) → P (λ rest. if o then gives_mode root k j rest else if l then gives_limit k j rest else gives_count root k j rest)
    by true l = mode
    by false true = limit
    by false false = count

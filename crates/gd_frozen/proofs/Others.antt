-- What is read where one byte comes next, and where it does not.
use Rattle.std.proofs.Common.{◌≡◌, ◌∙◌, refl, sym, ap, subst, ℕ, List, [], ◌∷◌, Bool, true, false, ◌==◌, if◌then◌else◌, Option, Some, None, Result, Ok, Err, eq-eqb}
use Rattle.gd_grammar.specs.Chain.{◌>>=◌}
use Rattle.gd_grammar.specs.Grammar.{Reads, text_at}
use Rattle.gd_grammar.specs.Mark.{Mark}
use Rattle.gd_grammar.proofs.Scans.{ok_of}
use Rattle.gd_bytes.specs.FrozenRead.{row_at, after_at, unless_closed, walk_at}
use Rattle.gd_bytes.specs.Frozen.{by_guid, is_root}
use Rattle.gd_frozen.specs.WalkSteps.{rooted_at, linked_at}
use Rattle.gd_grammar.specs.Choice.{is_next}
use Rattle.gd_frozen.specs.RowSteps.{given_row_at}

pub after_none : (bytes rest : List ℕ) → bytes ≡ 45 ∷ rest → after_at bytes ≡ Ok (None, rest)
after_none bytes rest is = ap after_at is

pub after_given : (bytes : List ℕ) → is_next 45 bytes ≡ false → after_at bytes ≡ (given_row_at bytes >>= λ r. Ok (Some r.0, r.1))
unfolding given_row_at
after_given [] none = refl
after_given (c ∷ cs) none = ap (λ (b : Bool). if b then ok_of (None, cs) else whole (text_at (40 ∷ []) (c ∷ cs))) none ∙ by (text_at (40 ∷ []) (c ∷ cs))
  where
    ended : Mark → Reads (Unit {0}) → Reads (Option Mark)
    ended r q = q >>= λ x. Ok (Some r, x.1)

    plain : Mark → Reads (Unit {0}) → Reads Mark
    plain r q = q >>= λ x. Ok (r, x.1)

    there : Reads Mark → Reads (Option Mark)
    there q = q >>= λ y. Ok (Some y.0, y.1)

    rowed : Reads Mark → Reads (Option Mark)
    rowed q = q >>= λ r. ended r.0 (text_at (41 ∷ []) r.1)

    row_plain : Reads Mark → Reads Mark
    row_plain q = q >>= λ r. plain r.0 (text_at (41 ∷ []) r.1)

    whole : Reads (Unit {0}) → Reads (Option Mark)
    whole q = q >>= λ o. rowed (row_at o.1)

    whole_plain : Reads (Unit {0}) → Reads Mark
    whole_plain q = q >>= λ o. row_plain (row_at o.1)

    last : (r : Mark) (q : Reads (Unit {0})) → ended r q ≡ there (plain r q)
    last r (Ok x) = refl
    last r (Err e) = refl

    inner : (q : Reads Mark) → rowed q ≡ there (row_plain q)
    inner (Ok r) = last r.0 (text_at (41 ∷ []) r.1)
    inner (Err e) = refl

    by : (q : Reads (Unit {0})) → whole q ≡ there (whole_plain q)
    by (Ok o) = inner (row_at o.1)
    by (Err e) = refl

-- reads what stands behind a bracket
abbrev pub shut : {A : Type 0} → Reads (List A) → Reads (List A)
shut r = r >>= λ xs. text_at (93 ∷ []) xs.1 >>= λ c. Ok (xs.0, c.1)

-- a bracket that is closed at once
pub closed_at_once : {A : Type 0} (items : List ℕ → Reads (List A)) (bytes rest : List ℕ) → bytes ≡ 93 ∷ rest → shut (unless_closed 93 items bytes) ≡ ok_of ([], rest)
closed_at_once {A} items bytes rest is = ap (λ (l : List ℕ). shut (unless_closed 93 items l)) is

-- one that is not
pub not_closed : {A : Type 0} (items : List ℕ → Reads (List A)) (bytes : List ℕ) → is_next 93 bytes ≡ false → unless_closed 93 items bytes ≡ items bytes
not_closed items [] none = refl
not_closed {A} items (c ∷ cs) none = ap (λ (b : Bool). if b then ok_of {X = List A × List ℕ} {Y = List ℕ} ([], c ∷ cs) else items (c ∷ cs)) none

-- ---- walks

pub rooted_root : (bytes rest : List ℕ) → bytes ≡ 47 ∷ rest → rooted_at bytes ≡ Ok (is_root, rest)
rooted_root bytes rest is = ap rooted_at is

pub rooted_linked : (bytes : List ℕ) → is_next 47 bytes ≡ false → rooted_at bytes ≡ linked_at bytes
rooted_linked [] none = refl
rooted_linked (c ∷ cs) none = ap (λ (b : Bool). if b then ok_of (is_root, cs) else linked_at (c ∷ cs)) none

pub walk_guid : (bytes rest : List ℕ) → bytes ≡ 103 ∷ rest → walk_at bytes ≡ Ok (by_guid, rest)
walk_guid bytes rest is = ap walk_at is

pub walk_rooted : (bytes : List ℕ) → is_next 103 bytes ≡ false → walk_at bytes ≡ rooted_at bytes
unfolding linked_at
walk_rooted [] none = refl
walk_rooted (c ∷ cs) none = ap (λ (b : Bool). if b then ok_of (by_guid, cs) else rooted_at (c ∷ cs)) none

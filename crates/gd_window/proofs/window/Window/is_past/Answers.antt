use Rattle.std.proofs.Common.{◌≡◌, ◌∙◌, ◌-◌, ◌<◌, List, [], ◌∷◌, ◌++◌, Bool, true, Some, length, get_or, refl, sym, subst, arith, vec_len}
use Rattle.std.specs.Prelude.{◌==◌, slice_get}
use Rattle.std.proofs.lemmas.Bool.{ltb-true, eqb-true}
use Rattle.std.proofs.lemmas.Option.{slice_get-get_or}
use Rattle.gd_window.specs.declared.row.Row.{Row}
use Rattle.gd_window.specs.Kept.{Kept, HasSeen}
use Rattle.gd_window.proofs.Past.{past_seen}
use Rattle.gd_window.proofs.window.Window.is_past.Goals as goal

no_keys : (xs : List Bool) → (length xs == 0) ≡ true → xs ≡ []
no_keys [] none = refl
no_keys (x ∷ xs) none = absurd (let is = eqb-true (length (x ∷ xs)) 0 none in omega (arith, is))

last_there : (rows : List Row) (last : Row) → 0 < length rows → Some last ≡ slice_get rows (length rows - 1) → last ≡ get_or rows (length rows - 1) last
last_there rows last some is = inside (is ∙ slice_get-get_or rows (length rows - 1) last (omega (arith, some)))
  where
    inside : Some last ≡ Some (get_or rows (length rows - 1) last) → last ≡ get_or rows (length rows - 1) last
    inside same = cc

pub returns-in-Some : goal.returns-in-Some
returns-in-Some c = λ less row same offered seen.
    let s = c.self.inside in
    let rows : List Row = s.kept.items in
    let last : Row = c.in-Some.last.now in
    let w : Kept = record { order = s.order; limit = s.limit; after = s.after; rows = rows } in
    let keys : s.order ≡ [] = sym c.as_slice.ensures.directions ∙ no_keys c.as_slice.result.now (sym c.is_empty.ensures ∙ c.if-not-is_empty.false) in
    let counted : vec_len s.kept ≡ length rows = omega arith in
    let many : s.limit < length rows = omega (arith, c.len.ensures, counted, c.if-len-self.false) in
    let is : last ≡ get_or rows (length rows - 1) last = last_there rows last (omega (arith, many)) (subst (λ xs. Some last ≡ slice_get xs (length xs - 1)) c.as_slice-2.ensures.value c.in-Some.ensures.value) in
    let lower = ltb-true c.place.result c.place-in-Some.result less in
    let before : last.id < row.id = omega (arith, c.place.ensures, c.place-in-Some.ensures, lower, same) in
    subst (λ u. HasSeen u (offered ++ row ∷ [])) c.self.view_is
    (past_seen w row last keys c.self.invariant.0 many c.self.invariant.1 is before offered (subst (λ u. HasSeen u offered) (sym c.self.view_is) seen))

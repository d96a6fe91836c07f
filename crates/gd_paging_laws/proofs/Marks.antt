-- The cursor of a row is read as the mark of that row.
use Rattle.std.proofs.Common.{◌≡◌, ℕ, suc, ◌<◌, ◌≤◌, Bool, true, false, nat_lt, if◌then◌else◌, List, [], ◌∷◌, length, Option, Some, None, Ok, refl, sym, ap, subst, arith}
use Rattle.std.specs.Prelude.{is_none}
use Rattle.std.specs.List.{AllByRecursion}
use Rattle.std.proofs.lemmas.Bool.{ltb-true}
use Rattle.gd_prim.specs.declared.Primitive.{Primitive}
use Rattle.gd_prim.specs.Limits.{max_prims, max_requests}
use Rattle.gd_grammar.specs.Mark.{cursor_text}
use Rattle.gd_bytes.specs.Cursor.{PlaceFits, cursor_of}
use Rattle.gd_bytes.proofs.CursorLaws.{cursor_whole}
use Rattle.gd_defs.specs.Asked.{SortKey, Asked}
use Rattle.gd_defs.specs.Rows.{Row, rows}
use Rattle.gd_defs.specs.Reply.{fitted, row_mark}
use Rattle.gd_order_laws.specs.Window.{In}
use Rattle.gd_order_laws.proofs.Places.{live_inside}
use Rattle.gd_order_laws.proofs.Rows.{row_known}
use Rattle.gd_order_laws.proofs.Marks.{mark_again}

fitted_places : (end : ℕ) → end ≤ max_prims → (sort : List SortKey) (ks : List (Option ℕ)) → AllByRecursion PlaceFits (fitted end sort ks)
fitted_places end few [] ks = tt
fitted_places end few (s ∷ ss) [] = (tt, fitted_places end few ss [])
fitted_places end few (s ∷ ss) (None ∷ ks) = (tt, fitted_places end few ss ks)
fitted_places end few (s ∷ ss) (Some p ∷ ks) = (by (nat_lt p end) refl, fitted_places end few ss ks)
  where
    by : (b : Bool) → nat_lt p end ≡ b → PlaceFits (if b then Some p else None)
    by true is = let below = ltb-true p end is in omega (arith, below, few)
    by false is = tt

fitted_len : (end : ℕ) (sort : List SortKey) (ks : List (Option ℕ)) → length (fitted end sort ks) ≡ length sort
fitted_len end [] ks = refl
fitted_len end (s ∷ ss) [] = ap (λ n. suc n) (fitted_len end ss [])
fitted_len end (s ∷ ss) (k ∷ ks) = ap (λ n. suc n) (fitted_len end ss ks)

-- the text of a cursor at a row of a query is read as that cursor
pub cursor_read : (prims : List Primitive) (a : Asked) (dateline : ℕ) (r : Row) → length prims ≤ max_prims → dateline ≤ max_requests → length a.sort ≤ 4 → In r (rows prims a)
    → cursor_of (cursor_text dateline (row_mark r)) ≡ Ok (record { dateline = dateline; after = row_mark r })
cursor_read prims a dateline r few small four here =
    let known = row_known prims a r here in
    let inside : known.0 < length prims = live_inside (λ p. is_none p.typ) prims known.0 known.1 in
    let object : r.object ≡ known.0 = sym (ap (λ (s : Row). s.object) known.3) in
    let keys : fitted (length prims) a.sort r.keys ≡ r.keys = ap (λ (s : Row). s.keys) (mark_again prims a r here) in
    cursor_whole (record { dateline = dateline; after = row_mark r }) (cursor_text dateline (row_mark r)) (
      record {
        dateline = small;
        object = omega (arith, inside, few, object);
        keys = subst (AllByRecursion PlaceFits) keys (fitted_places (length prims) few a.sort r.keys);
        few = let same = ap length keys in let long = fitted_len (length prims) a.sort r.keys in omega (arith, same, long, four);
      },
      refl,
    )

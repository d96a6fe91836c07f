-- A mark that is read again by its places is the row that it marks.
use Rattle.std.proofs.Common.{◌≡◌, inl, ℕ, ◌<◌, List, [], ◌∷◌, Bool, true, false, Option, None, Some, length, map, refl, ap, subst, ◌∙◌}
use Rattle.std.specs.Prelude.{if◌then◌else◌, ◌&&◌, is_none}
use Rattle.std.specs.Option.{option_map_or}
use Rattle.std.specs.List.{last_or}
use Rattle.std.proofs.lemmas.Bool.{lt-ltb}
use Rattle.gd_prim.specs.declared.Primitive.{Primitive}
use Rattle.gd_prim.specs.Live.{refers, live_where}
use Rattle.gd_tree.specs.Json.{boolean, text}
use Rattle.gd_grammar.specs.Mark.{cursor_text}
use Rattle.gd_defs.specs.Property.{Property, is_of, answers, first, leads_to_object, holds_expected, expects_of}
use Rattle.gd_defs.specs.Asked.{Asked, Key, by_guid, by_timestamp, by_property, SortKey}
use Rattle.gd_defs.specs.Rows.{Row, row_of, rows, key_place}
use Rattle.gd_defs.specs.Reply.{fitted, mark_row, row_mark, page_cursor}
use Rattle.gd_order_laws.specs.Window.{In}
use Rattle.gd_order_laws.specs.Pages.{next_mark}
use Rattle.gd_order_laws.proofs.Places.{live_inside}
use Rattle.gd_order_laws.proofs.Rows.{row_known}

-- a place that is there lies below an end
abbrev Inside : ℕ → Option ℕ → Type 0
Inside end None = Unit {0}
Inside end (Some p) = p < end

first_inside : (end : ℕ) (xs : List ℕ) → ((p : ℕ) → In p xs → p < end) → Inside end (first xs)
first_inside end [] all = tt
first_inside end (x ∷ xs) all = all x (inl refl)

answers_inside : (prims : List Primitive) (p : Property) (o k : ℕ) → In k (answers prims p o) → k < length prims
answers_inside prims p o k here = by p.reversed here
  where
    by : (b : Bool) → In k (if b then live_where (λ l. is_of p l && refers l.right o && leads_to_object prims l.left) prims
        else live_where (λ l. is_of p l && refers l.left o && holds_expected prims (expects_of p.expected) l) prims) → k < length prims
    by true there = live_inside (λ l. is_of p l && refers l.right o && leads_to_object prims l.left) prims k there
    by false there = live_inside (λ l. is_of p l && refers l.left o && holds_expected prims (expects_of p.expected) l) prims k there

key_inside : (prims : List Primitive) (o : ℕ) → o < length prims → (key : Key) (descending : Bool) → Inside (length prims) (key_place prims o (record { key = key; descending = descending }))
key_inside prims o inside by_guid descending = inside
key_inside prims o inside by_timestamp descending = inside
key_inside prims o inside (by_property p) descending = first_inside (length prims) (answers prims p o) (answers_inside prims p o)

fitted_more : (end : ℕ) (s : SortKey) (ss : List SortKey) (k : Option ℕ) (ks : List (Option ℕ)) → Inside end k → fitted end (s ∷ ss) (k ∷ ks) ≡ k ∷ fitted end ss ks
fitted_more end s ss None ks inside = refl
fitted_more end s ss (Some p) ks inside = ap (λ b. (if b then Some p else None) ∷ fitted end ss ks) (lt-ltb p end inside)

fitted_same : (prims : List Primitive) (o : ℕ) → o < length prims → (sort : List SortKey) → fitted (length prims) sort (map (key_place prims o) sort) ≡ map (key_place prims o) sort
fitted_same prims o inside [] = refl
fitted_same prims o inside (s ∷ ss) =
    fitted_more (length prims) s ss (key_place prims o s) (map (key_place prims o) ss) (key_inside prims o inside s.key s.descending)
    ∙ ap (λ ks. key_place prims o s ∷ ks) (fitted_same prims o inside ss)

-- the mark of the row of a place gives the row back
pub mark_of : (prims : List Primitive) (q : Asked) (o : ℕ) → o < length prims → mark_row prims q.sort (row_mark (row_of prims q.sort 0 o)) ≡ row_of prims q.sort 0 o
mark_of prims q o inside = ap (λ (ks : List (Option ℕ)). record { object = o; link = 0; keys = ks }) (fitted_same prims o inside q.sort)

-- the mark of a row gives the row back, its keys too
pub mark_again : (prims : List Primitive) (q : Asked) (r : Row) → In r (rows prims q) → mark_row prims q.sort (row_mark r) ≡ r
mark_again prims q r here =
    let known = row_known prims q r here in
    let inside : known.0 < length prims = live_inside (λ p. is_none p.typ) prims known.0 known.1 in
    subst (λ s. mark_row prims q.sort (row_mark s) ≡ s) known.3
    (ap (λ (ks : List (Option ℕ)). record { object = known.0; link = 0; keys = ks }) (fitted_same prims known.0 inside q.sort))

-- the cursor of a page spells the mark after which the next page begins, and is false where none does
pub cursor_marks : (dateline : ℕ) (page : List Row) (more : Bool) → page_cursor dateline page more ≡ option_map_or (λ m. text (cursor_text dateline m)) (next_mark page more) (boolean false)
cursor_marks dateline page false = refl
cursor_marks dateline page true = by (last_or None page) refl
  where
    by : (r : Option Row) → last_or None page ≡ r → page_cursor dateline page true ≡ option_map_or (λ m. text (cursor_text dateline m)) (next_mark page true) (boolean false)
    by None is = rw is refl
    by (Some r) is = rw is refl

-- The order in which a query is scanned ends with the list, and that of rows behind them.
use Rattle.std.proofs.Common.{◌≡◌, inl, inr, refl, subst, arith, ℕ, suc, ◌+◌, ◌<◌, ◌≤◌, List, [], ◌∷◌, Bool, true, false, ◌&&◌, Option, Some, None, length, map, filter}
use Rattle.std.specs.Prelude.{find, option_map, nat_le, if◌then◌else◌}
use Rattle.std.specs.List.{cons_option, enumerate_from}
use Rattle.gd_prim.specs.declared.Primitive.{Primitive}
use Rattle.gd_prim.specs.Live.{objects, places_where}
use Rattle.gd_defs.specs.Asked.{Asking, Members, Asked}
use Rattle.gd_defs.specs.Plan.{template_of}
use Rattle.gd_defs.specs.Property.{answers}
use Rattle.gd_defs.specs.Rows.{Row, met, meets, answer_meets}
use Rattle.gd_defs.specs.Template.{Template, passes_template}
use Rattle.gd_runs.specs.Owed.{ScanOrder, is_among}
use Rattle.gd_runs.specs.RootSets.{RootSet, everything, named_places, links_of}
use Rattle.gd_runs.specs.Scanned.{first_times, link_order, set_order, scan_order}
use Rattle.gd_match_laws.specs.Rows.{rows_order}
use Rattle.gd_order_laws.specs.Window.{In}
use Rattle.gd_order_laws.proofs.Places.{places_inside}
use Rattle.gd_order_laws.proofs.Rows.{In-map}
use Rattle.gd_order_laws.proofs.Sorted.{In-filter}
use Rattle.gd_scan_laws.proofs.Links.{answer_known}
use Rattle.gd_scan_laws.proofs.Orders.{among_in, picks}
use Rattle.gd_suspended_laws.proofs.Going.{length-map}
use Rattle.gd_suspended_laws.proofs.Scanning.{got}
use Rattle.gd_thaw_laws.specs.Standing.{ScansAlike}
use Rattle.gd_roots.specs.PassedOn.{OrderEnds}
use Rattle.gd_shape.proofs.PassedOn.{found_passes}

module _ (prims : List Primitive) where
  abbrev Ends : ScanOrder → Type 0
  Ends order = (c : ℕ × ℕ) → In c order → c.0 < length prims

  -- places, each as its own number
  own_end : (ps : List ℕ) → ((p : ℕ) → In p ps → p < length prims) → Ends (map (λ p. (p, p)) ps)
  own_end ps inside c here = let found = In-map (λ p. (p, p)) ps c here in subst (λ (d : ℕ × ℕ). d.0 < length prims) found.2 (inside found.0 found.1)

  first_end : (done : List ℕ) (cs : ScanOrder) → Ends cs → Ends (first_times done cs)
  first_end done [] ends c here = absurd here
  first_end done (d ∷ ds) ends c here = by (is_among done d.1) here (first_end done ds rest c) (first_end (d.1 ∷ done) ds rest c)
    where
      rest : Ends ds
      rest = λ e there. ends e (inr there)

      by : (b : Bool) → In c (if b then first_times done ds else d ∷ first_times (d.1 ∷ done) ds) → (In c (first_times done ds) → c.0 < length prims) → (In c (first_times (d.1 ∷ done) ds) → c.0 < length prims) → c.0 < length prims
      by true there old new = old there
      by false (inl same) old new = ends c (inl same)
      by false (inr there) old new = new there

  link_end : (a : Asking) (m : Members) (links : List ℕ) → Ends (link_order prims a m links)
  link_end a m [] c here = absurd here
  link_end a m (k ∷ links) c here = by (find (λ o. is_among (met prims a m o) k) (objects prims)) refl here (link_end a m links c)
    where
      by : (r : Option ℕ) → find (λ o. is_among (met prims a m o) k) (objects prims) ≡ r → In c (cons_option (option_map (λ o. (k, o)) r) (link_order prims a m links)) → (In c (link_order prims a m links) → c.0 < length prims) → c.0 < length prims
      by None none there rest = rest there
      by (Some o) found (inl same) rest =
          let meets_it = among_in (met prims a m o) k (found_passes (λ o. is_among (met prims a m o) k) (objects prims) o found) in
          let known = answer_known prims a.property o k (In-filter (answer_meets prims a (meets prims m)) (answers prims a.property o) k meets_it).0 in
          subst (λ (d : ℕ × ℕ). d.0 < length prims) same (got prims k known.0 known.1)
      by (Some o) found (inr there) rest = rest there

  set_end : (s : RootSet) → Ends (set_order prims s)
  set_end everything = own_end (places_where (λ p. true) prims) (places_inside (λ p. true) prims)
  set_end (named_places ps) = own_end (filter (is_among ps) (places_where (λ p. true) prims)) (λ p here. places_inside (λ p. true) prims p (In-filter (is_among ps) (places_where (λ p. true) prims) p here).0)
  set_end (links_of a m links) = first_end [] (link_order prims a m links) (link_end a m links)

  -- no number of a query's order lies behind the list
  scan_ends : (q : Asked) → Ends (scan_order prims q)
  scan_ends q c here = set_end _ c (subst (In c) (picks prims q) here)

  -- LAW: an order that scans a query as the definitions do ends with the list
  pub query_ends : (q : Asked) (order : ScanOrder) → ScansAlike prims q order → OrderEnds (length prims) prims (template_of q) order
  query_ends q order alike = λ c here.
      scan_ends q c (In-filter (λ d. nat_le 0 d.0 && passes_template prims (template_of q) d.1) (scan_order prims q) c (subst (In c) (alike 0) here)).0

-- ---- rows

number_below : (from : ℕ) (xs : List ℕ) (c : ℕ × ℕ) → In c (enumerate_from from xs) → c.0 < from + length xs
number_below from [] c here = absurd here
number_below from (x ∷ xs) c (inl same) = subst (λ (d : ℕ × ℕ). d.0 < from + suc (length xs)) same (omega arith)
number_below from (x ∷ xs) c (inr there) = let less = number_below (from + 1) xs c there in omega (arith, less)

-- LAW: the order of the rows of a page ends where no more rows are
pub rows_end : (prims : List Primitive) (t : Template) (page : List Row) (order : ScanOrder) (end : ℕ) → order ≡ rows_order page → length page ≤ end → OrderEnds end prims t order
rows_end prims t page order end is few = λ c here.
    let less = number_below 0 (map (λ (r : Row). r.object) page) c (In-filter (λ d. nat_le 0 d.0 && passes_template prims t d.1) (rows_order page) c (subst (λ o. In c (filter (λ d. nat_le 0 d.0 && passes_template prims t d.1) o)) is here)).0 in
    let same = length-map (λ (r : Row). r.object) page in
    omega (arith, less, same, few)

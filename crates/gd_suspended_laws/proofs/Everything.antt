-- All places, scanned in rising order, have each candidate of a query once.
use Rattle.std.proofs.Common.{◌≡◌, ◌↔◌, ℕ, List, [], ◌∷◌, map, true, refl, ap, sym, subst, ◌∙◌}
use Rattle.std.specs.Ordering.{nat_cmp}
use Rattle.std.proofs.lemmas.Cmp.{nat_cmp_total}
use Rattle.std.specs.Prelude.{is_none}
use Rattle.gd_prim.specs.declared.Primitive.{Primitive}
use Rattle.gd_prim.specs.Live.{objects, is_object, places_where}
use Rattle.gd_defs.specs.Asked.{Asked}
use Rattle.gd_defs.specs.Rows.{meets_given, candidates}
use Rattle.gd_defs.specs.Template.{passes_template}
use Rattle.gd_defs.specs.Plan.{template_of}
use Rattle.gd_runs.specs.RootSets.{everything}
use Rattle.gd_runs.specs.Scanned.{set_order}
use Rattle.gd_order_laws.specs.Window.{In, Apart}
use Rattle.gd_order_laws.proofs.Places.{places_rise}
use Rattle.gd_order_laws.proofs.Rows.{Apart-rising}
use Rattle.gd_order_laws.proofs.Sorted.{Apart-filter, In-filter, In-filtered}
use Rattle.gd_match_laws.specs.PassedOn.{scanned, Planned}
use Rattle.gd_match_laws.proofs.PassedOn.{planned, both_true, true_both, object_is, is_object_in, live_there, there_place}
use Rattle.gd_suspended_laws.specs.Laws.{EverythingIs}

pub themselves : (ps : List ℕ) → map (λ (c : ℕ × ℕ). c.1) (map (λ (place : ℕ). (place, place)) ps) ≡ ps
themselves [] = refl
themselves (p ∷ ps) = ap (λ l. p ∷ l) (themselves ps)

abbrev pub every : List Primitive → List ℕ
every prims = map (λ (c : ℕ × ℕ). c.1) (set_order prims everything)

every_once : (prims : List Primitive) → Apart nat_cmp (every prims)
every_once prims = subst (Apart nat_cmp) (sym (themselves (places_where (λ p. true) prims))) (Apart-rising nat_cmp (places_where (λ p. true) prims) (places_rise (λ p. true) prims))

pub every_object : (prims : List Primitive) (o : ℕ) → In o (objects prims) → In o (every prims)
every_object prims o here =
    let found = live_there (λ p. is_none p.typ) prims o here in
    subst (In o) (sym (themselves (places_where (λ p. true) prims))) (there_place (λ p. true) prims o found.0 found.1 refl)

every_candidate : (prims : List Primitive) (q : Asked) → Planned prims q → (o : ℕ) → In o (scanned prims q (set_order prims everything)) ↔ In o (candidates prims q)
every_candidate prims q planned o = (there, back)
  where
    there : In o (scanned prims q (set_order prims everything)) → In o (candidates prims q)
    there here =
        let passed = In-filter (passes_template prims (template_of q)) (every prims) o here in
        let both = both_true (is_object prims o) (meets_given prims q.members 0 o) (sym (planned.passes o) ∙ passed.1) in
        In-filtered (meets_given prims q.members 0) (objects prims) o (is_object_in prims o both.0) both.1

    back : In o (candidates prims q) → In o (scanned prims q (set_order prims everything))
    back here =
        let both = In-filter (meets_given prims q.members 0) (objects prims) o here in
        In-filtered (passes_template prims (template_of q)) (every prims) o (every_object prims o both.0)
        (planned.passes o ∙ true_both (is_object prims o) (meets_given prims q.members 0 o) (object_is prims o both.0) both.1)

pub everything_is : EverythingIs
everything_is prims written q held asked = record {
  once = Apart-filter nat_cmp nat_cmp_total (passes_template prims (template_of q)) (every prims) (every_once prims);
  all = every_candidate prims q (planned prims written q held asked);
}

-- Candidates that were visited up to a place: a scan may stand there.
use Rattle.std.proofs.Common.{◌≡◌, ◌∙◌, inl, inr, refl, sym, ap, subst, arith, ℕ, ◌≤◌, List, [], ◌∷◌, Bool, true, false, cond, ◌||◌, map, filter}
use Rattle.std.specs.Prelude.{nat_lt}
use Rattle.std.specs.List.{list_any}
use Rattle.std.proofs.lemmas.Bool.Decides.{nat_tests}
use Rattle.gd_prim.specs.declared.Primitive.{Primitive}
use Rattle.gd_defs.specs.Plan.{template_of}
use Rattle.gd_defs.specs.Template.{Template, is_answer, passes_template, weight}
use Rattle.gd_runs.specs.Owed.{ScanOrder, Candidate, candidate, weighs_too_much}
use Rattle.gd_runs.specs.Thawed.{answering}
use Rattle.gd_match_laws.proofs.PassedOn.{answers_pass, answers_first}
use Rattle.gd_order_laws.specs.Window.{In}
use Rattle.gd_window.specs.Kept.{HasSeen}
use Rattle.gd_suspended_laws.specs.Standing.{valued}
use Rattle.gd_thaw_laws.specs.Thawing.{order_within, candidates_within, VisitsScan}
use Rattle.gd_thaw_laws.proofs.Reach.{scans_reach}

module _ (prims : List Primitive) (t : Template) where
  abbrev pub passing : ScanOrder → ScanOrder
  passing l = filter (λ c. passes_template prims t c.1) l

  -- of candidates none weighs too much where none of the places that pass does
  pub light_all : (xs : ScanOrder) → ((o : ℕ) → In o (map (λ c. c.1) xs) → passes_template prims t o ≡ true → weight prims t o ≤ 65_536) → list_any weighs_too_much (map (λ c. candidate prims t c.1) (passing xs)) ≡ false
  light_all [] light = refl
  light_all (c ∷ xs) light = by (passes_template prims t c.1) refl (light_all xs (λ o there. light o (inr there)))
    where
      not_over : (n : ℕ) → n ≤ 65_536 → nat_lt 65_536 n ≡ false
      not_over n few = grind (arith, nat_tests)

      rest : List Candidate
      rest = map (λ d. candidate prims t d.1) (filter (λ d. passes_template prims t d.1) xs)

      by : (p : Bool) → passes_template prims t c.1 ≡ p → list_any weighs_too_much rest ≡ false → list_any weighs_too_much (map (λ d. candidate prims t d.1) (cond p (c ∷ filter (λ d. passes_template prims t d.1) xs) (filter (λ d. passes_template prims t d.1) xs))) ≡ false
      by true passes more = ap (λ (z : Bool). z || list_any weighs_too_much rest) (not_over (weight prims t c.1) (light c.1 (inl refl) passes)) ∙ more
      by false passes more = more

  -- the places of candidates
  pub firsts : (xs : ScanOrder) → map (λ c. candidate prims t c.1) xs ≡ map (candidate prims t) (map (λ c. c.1) xs)
  firsts [] = refl
  firsts (c ∷ xs) = ap (λ (l : List Candidate). candidate prims t c.1 ∷ l) (firsts xs)

  -- what answers passes
  answers_pass_all : (xs : ScanOrder) → filter (is_answer prims t) (map (λ c. c.1) (passing xs)) ≡ filter (is_answer prims t) (map (λ c. c.1) xs)
  answers_pass_all [] = refl
  answers_pass_all (c ∷ xs) = by (passes_template prims t c.1) (is_answer prims t c.1) refl refl (answers_pass_all xs)
    where
      rest : ScanOrder
      rest = filter (λ d. passes_template prims t d.1) xs

      more_of : Bool → List ℕ → List ℕ
      more_of a l = cond a (c.1 ∷ l) l

      by : (p a : Bool) → passes_template prims t c.1 ≡ p → is_answer prims t c.1 ≡ a → filter (is_answer prims t) (map (λ d. d.1) rest) ≡ filter (is_answer prims t) (map (λ d. d.1) xs)
          → filter (is_answer prims t) (map (λ d. d.1) (cond p (c ∷ rest) rest)) ≡ more_of a (filter (is_answer prims t) (map (λ d. d.1) xs))
      by true a ep ea more = ap (λ (z : Bool). more_of z (filter (is_answer prims t) (map (λ d. d.1) rest))) ea ∙ ap (more_of a) more
      by false true ep ea more = absurd (let passes : passes_template prims t c.1 ≡ true = answers_pass prims t c.1 ea in cc (passes, ep))
      by false false ep ea more = more

  -- those of candidates that answer are the places that do
  pub answers_are : (xs : ScanOrder) → answering (map (λ c. candidate prims t c.1) (passing xs)) ≡ filter (is_answer prims t) (map (λ c. c.1) xs)
  answers_are xs = ap answering (firsts (passing xs)) ∙ answers_first prims t (map (λ c. c.1) (passing xs)) ∙ answers_pass_all xs

pub visits_scan : VisitsScan
visits_scan prims q after order p w rises has = record {
  given = candidates_within prims (template_of q) order 0 p;
  runs = scans_reach prims order (template_of q) 0 p rises (omega arith);
  light = light_all prims (template_of q) (order_within order 0 p) has.light;
  is = has.is;
  seen = subst (λ (os : List ℕ). HasSeen w (map (valued prims q) os)) (sym (answers_are prims (template_of q) (order_within order 0 p))) has.seen;
}

use Rattle.std.proofs.Common.{◌≡◌, ◌∙◌, ◌++◌, ℕ, List, Option, Some, refl, sym, ap, ap₂, codes}
use Rattle.std.proofs.lemmas.List.{append_cancel_left, append_cancel_right}
use Rattle.gd_cache.specs.declared.key.Kept.{Kept}
use Rattle.gd_cache.specs.Line.{middle_text}
use Rattle.gd_cache.specs.Right.{ok_front}
use Rattle.gd_cache.proofs.Told.{behind_dateline, line_told, middle_told, same_number}
use Rattle.gd_cache.proofs.part.kept_of.Goals as goal

pub returns-in_default-clause-complete : goal.returns-in_default-clause-complete
returns-in_default-clause-complete c = λ d kept low plain is. absurd (c.in_default.ensures.none refl _ (is ∙ line_told d c.args.line kept))

pub returns-in_default-dateline_in-clause-complete :
    goal.returns-in_default-dateline_in-clause-complete
returns-in_default-dateline_in-clause-complete c = λ d kept low plain is.
    let k = c.args.line in
    let here = append_cancel_left ok_front c.in-Some.rest.now _ (sym c.in-Some.ensures.found ∙ is ∙ line_told d k kept) in
    let both = c.cursor_in.ensures.first kept.cursor (behind_dateline d k kept) plain here in
    absurd (c.in_default-dateline_in.not-Some d (c.dateline_in.ensures d _ low both.1))

pub returns-in_default-outcome_in-clause-complete :
    goal.returns-in_default-outcome_in-clause-complete
returns-in_default-outcome_in-clause-complete c = λ d kept low plain is.
    let k = c.args.line in
    let here = append_cancel_left ok_front c.in-Some.rest.now _ (sym c.in-Some.ensures.found ∙ is ∙ line_told d k kept) in
    let both = c.cursor_in.ensures.first kept.cursor (behind_dateline d k kept) plain here in
    let same = same_number c.in-Some-dateline_in.dateline d (sym c.in-Some-dateline_in.is ∙ c.dateline_in.ensures d _ low both.1) in
    let middle : c.deref.result.now ≡ middle_text d k = c.deref.ensures.value ∙ c.in_ok-middle.ensures ∙ ap (λ n. middle_text n k) same in
    absurd (c.in_default-outcome_in.ensures.none refl kept.outcome (both.1 ∙ middle_told d k kept ∙ ap (λ m. m ++ (kept.outcome ++ codes "}")) (sym middle)))

pub returns-clause-complete : goal.returns-clause-complete
returns-clause-complete c = λ d kept low plain is.
    let k = c.args.line in
    let here = append_cancel_left ok_front c.in-Some.rest.now _ (sym c.in-Some.ensures.found ∙ is ∙ line_told d k kept) in
    let both = c.cursor_in.ensures.first kept.cursor (behind_dateline d k kept) plain here in
    let same = same_number c.in-Some-dateline_in.dateline d (sym c.in-Some-dateline_in.is ∙ c.dateline_in.ensures d _ low both.1) in
    let middle : c.deref.result.now ≡ middle_text d k = c.deref.ensures.value ∙ c.in_ok-middle.ensures ∙ ap (λ n. middle_text n k) same in
    let outcome = c.in-Some-outcome_in.outcome.now in
    let told = append_cancel_left (middle_text d k) (outcome ++ codes "}") (kept.outcome ++ codes "}")
    (ap (λ m. m ++ (outcome ++ codes "}")) (sym middle) ∙ sym c.in-Some-outcome_in.ensures.found ∙ both.1 ∙ middle_told d k kept) in
    ap₂ (λ (n : ℕ) (x : Kept). Some (n, x)) same
    (c.in_ok-kept.ensures ∙ ap₂ (λ (x : Option (List ℕ)) (y : List ℕ). record { cursor = x; outcome = y }) both.0 (append_cancel_right outcome kept.outcome (codes "}") told))

-- Ids that walks spell, link by link, and how they print.
use Rattle.std.proofs.Common.{◌≡◌, ◌<◌, ◌-◌, ◌+◌, ℕ, List, [], ◌∷◌, ◌++◌, drop, length, get_or, refl, sym, ap, ◌∙◌, append_assoc, append-nil, arith}
use Rattle.json.specs.Token.{Token}
use Rattle.gd_base.specs.declared.datum.Datum.TheVariants as datum
use Rattle.gd_prim.specs.declared.Primitive.{Primitive}
use Rattle.gd_tree.specs.Json.{text}
use Rattle.gd_bytes.specs.Frozen.{Walk}
use Rattle.gd_defs.specs.Ids.{id_text}
use Rattle.gd_json.specs.Tokens.{tokens_of}
use Rattle.gd_runs.specs.Shape.{links_text, walk_text, id_json}
use Rattle.gd_shape.specs.Spelt.{link_text}
use Rattle.gd_shape.proofs.Left.{left_at, past}

-- ---- links

-- what is spelled in front of a text is spelled, and the text
links-behind : (prims : List Primitive) (ks below : List ℕ) → links_text prims ks below ≡ links_text prims ks [] ++ below
links-behind prims [] below = refl
links-behind prims (k ∷ ks) below =
    links-behind prims ks (link_text prims k ++ below)
    ∙ sym (append_assoc (links_text prims ks []) (link_text prims k) below)
    ∙ ap (λ t. t ++ below) (ap (λ t. links_text prims ks [] ++ t) (sym (append-nil (link_text prims k))) ∙ sym (links-behind prims ks (link_text prims k ++ [])))

-- behind the last one nothing is spelled
pub link_last : (prims : List Primitive) (ks : List ℕ) (left : ℕ) (spelled : List ℕ) → left ≡ length ks → spelled ≡ [] → spelled ≡ links_text prims (drop left ks) []
link_last prims ks left spelled end none = none ∙ ap (λ xs. links_text prims xs []) (sym (past ks left (omega (arith, end))))

-- the link before those that were spelled is spelled behind them
pub link_more : (prims : List Primitive) (ks : List ℕ) (left k : ℕ) (old new : List ℕ) → 0 < left → left - 1 < length ks → k ≡ get_or ks (left - 1) k
    → old ≡ links_text prims (drop left ks) [] → new ≡ old ++ link_text prims k → new ≡ links_text prims (drop (left - 1) ks) []
link_more prims ks left k old new some within is was pushed =
    pushed ∙ ap (λ t. t ++ link_text prims k) was
    ∙ ap (λ n. links_text prims (drop n ks) [] ++ link_text prims k) back
    ∙ ap (λ t. links_text prims (drop (left - 1 + 1) ks) [] ++ t) (sym (append-nil (link_text prims k)))
    ∙ sym (links-behind prims (drop (left - 1 + 1) ks) (link_text prims k ++ []))
    ∙ ap (λ xs. links_text prims xs []) (sym (left_at ks (left - 1) k within is))
  where
    back : left ≡ left - 1 + 1
    back = omega (arith, some)

-- ---- ids by a walk that is told, and without one

pub by_walk : (prims : List Primitive) (o : ℕ) (w : Walk) (told left : List Walk) (old new : List Token) → told ≡ w ∷ left → new ≡ old ++ tokens_of (text (walk_text prims o w))
    → new ≡ old ++ tokens_of (id_json prims (datum.Object o) told).0
by_walk prims o w told left old new is printed = rw is printed

pub walk_left : (prims : List Primitive) (o : ℕ) (w : Walk) (told left : List Walk) → told ≡ w ∷ left → left ≡ (id_json prims (datum.Object o) told).1
walk_left prims o w told left is = rw is refl

pub by_id : (prims : List Primitive) (o : ℕ) (told : List Walk) (old new : List Token) → told ≡ [] → new ≡ old ++ tokens_of (text (id_text prims o)) → new ≡ old ++ tokens_of (id_json prims (datum.Object o) told).0
by_id prims o told old new none printed = rw none printed

pub none_left : (prims : List Primitive) (o : ℕ) (told left : List Walk) → told ≡ [] → left ≡ [] → left ≡ (id_json prims (datum.Object o) told).1
none_left prims o told left none end = rw none end

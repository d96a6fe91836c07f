-- Tokens that are written as things print.
use Rattle.std.proofs.Common.{◌≡◌, ℕ, List, [], ◌∷◌, ◌++◌, true, false, Result, Ok, Err, Vec, Global, refl, ap, ◌∙◌, append_assoc}
use Rattle.json.specs.Token.{Token, begin_object, begin_array, key}
use Rattle.json.specs.Print.{print}
use Rattle.gd_bytes.specs.Frozen.{Walk}
use Rattle.gd_grammar.specs.Chain.{◌>>=◌}
use Rattle.gd_tree.specs.Json.{Json, Items, item, Members, member as json_member}
use Rattle.gd_defs.specs.Reply.{Path, under}
use Rattle.gd_json.specs.Tokens.{tokens_of, items_tokens, members_tokens}
use Rattle.gd_json.proofs.Printing.{print-tokens_of}
use Rattle.gd_runs.specs.Shape.{Printed, list_shape}
use Rattle.gd_shape.specs.Outcome.{seen, written, items_written, members_written, beside, text_of}
use Rattle.gd_shape.specs.Printed.{as_object, in_front}

abbrev pub Outcome : Type 0
Outcome = Result (Unit {0}) (Vec (List ℕ) Global)

-- tokens with the walks that are left, or a path of two answers
abbrev pub Now : Type 0
Now = Result (List Token × List Walk) Path

-- both of a pair are the same
both : (a c : List Token) (b d : List Walk) → ◌≡◌ {A = Now} (Ok (a, b)) (Ok (c, d)) → (a ≡ c) × (b ≡ d)
both a c b d is = let e : ◌≡◌ {A = List Token × List Walk} (a, b) (c, d) = cc in (ap (λ (p : List Token × List Walk). p.0) e, ap (λ (p : List Token × List Walk). p.1) e)

-- ---- objects

-- an object begins, and its members follow
pub object_begins : (old new : List Token) (r : Printed Members) → new ≡ old ++ begin_object ∷ [] → members_written new r ≡ written old (as_object r)
object_begins old new (Ok p) begun = ap (λ ts. Ok (ts ++ members_tokens p.0, p.1)) begun ∙ ap (λ ts. Ok (ts, p.1)) (append_assoc old (begin_object ∷ []) (members_tokens p.0))
object_begins old new (Err path) begun = refl

-- a member that prints is written
pub member_written : (old named new : List Token) (left : List Walk) (name : List ℕ) (r : Printed Json) (rest : List Walk → Printed Members) → named ≡ old ++ key name ∷ [] → Ok (new, left) ≡ written named r
    → members_written new (rest left) ≡ members_written old (in_front name r rest)
member_written old named new left name (Ok p) rest key_is is =
    let same = both new (named ++ tokens_of p.0) left p.1 is in
    ap (λ ws. members_written new (rest ws)) same.1 ∙ by (rest p.1) same.0
  where
    by : (s : Printed Members) → new ≡ named ++ tokens_of p.0 → members_written new s ≡ members_written old (s >>= λ ms. Ok (json_member name p.0 ms.0, ms.1))
    by (Ok q) e =
        ap (λ ts. Ok (ts ++ members_tokens q.0, q.1)) (e ∙ ap (λ ts. ts ++ tokens_of p.0) key_is)
        ∙ ap (λ ts. Ok (ts, q.1)) (append_assoc (old ++ key name ∷ []) (tokens_of p.0) (members_tokens q.0) ∙ append_assoc old (key name ∷ []) (tokens_of p.0 ++ members_tokens q.0))
    by (Err path) e = refl
member_written old named new left name (Err path) rest key_is is = cc

-- one with two answers
pub member_path : (old named : List Token) (name : List ℕ) (r : Printed Json) (rest : List Walk → Printed Members) (path : Path) → Err path ≡ written named r → Err path ≡ members_written old (in_front name r rest)
member_path old named name (Ok p) rest path is = cc
member_path old named name (Err other) rest path is = cc

-- the name of a member begins the path of two answers below it
pub under_name : (old : List Token) (name : List ℕ) (r : Printed Json) → under name (written old r) ≡ written old (under name r)
under_name old name (Ok p) = refl
under_name old name (Err path) = refl

-- ---- lists

-- a list begins, and its items follow
pub list_begins : (old new : List Token) (r : Printed Items) → new ≡ old ++ begin_array ∷ [] → items_written new r ≡ written old (list_shape true r)
list_begins old new (Ok p) begun = ap (λ ts. Ok (ts ++ items_tokens p.0, p.1)) begun ∙ ap (λ ts. Ok (ts, p.1)) (append_assoc old (begin_array ∷ []) (items_tokens p.0))
list_begins old new (Err path) begun = refl

-- an item that prints is written
pub item_written : (old new : List Token) (left : List Walk) (r : Printed Json) (rest : List Walk → Printed Items) → Ok (new, left) ≡ written old r
    → items_written new (rest left) ≡ items_written old (r >>= λ j. rest j.1 >>= λ js. Ok (item j.0 js.0, js.1))
item_written old new left (Ok p) rest is =
    let same = both new (old ++ tokens_of p.0) left p.1 is in
    ap (λ ws. items_written new (rest ws)) same.1 ∙ by (rest p.1) same.0
  where
    by : (s : Printed Items) → new ≡ old ++ tokens_of p.0 → items_written new s ≡ items_written old (s >>= λ js. Ok (item p.0 js.0, js.1))
    by (Ok q) e = ap (λ ts. Ok (ts ++ items_tokens q.0, q.1)) e ∙ ap (λ ts. Ok (ts, q.1)) (append_assoc old (tokens_of p.0) (items_tokens q.0))
    by (Err path) e = refl
item_written old new left (Err path) rest is = cc

-- one with two answers
pub item_path : (old : List Token) (r : Printed Json) (rest : List Walk → Printed Items) (path : Path) → Err path ≡ written old r → Err path ≡ items_written old (r >>= λ j. rest j.1 >>= λ js. Ok (item j.0 js.0, js.1))
item_path old (Ok p) rest path is = cc
item_path old (Err other) rest path is = cc

-- ---- the first of items alone

-- two answers in the first
pub first_path : (old : List Token) (r : Printed Json) (rest : List Walk → Printed Items) (path : Path) → Err path ≡ written old r
    → Err path ≡ written old (list_shape false (r >>= λ j. rest j.1 >>= λ js. Ok (item j.0 js.0, js.1)))
first_path old (Ok p) rest path is = cc
first_path old (Err other) rest path is = cc

-- the first is written, and a path in those behind it is found beside it
pub first_beside : (old new : List Token) (mid left : List Walk) (r : Printed Json) (rest : List Walk → Printed Items) (o : Outcome) → Ok (new, mid) ≡ written old r → seen (λ _. (new, left)) o ≡ beside new (rest mid)
    → seen (λ _. (new, left)) o ≡ written old (list_shape false (r >>= λ j. rest j.1 >>= λ js. Ok (item j.0 js.0, js.1)))
first_beside old new mid left (Ok p) rest o is behind =
    let same = both new (old ++ tokens_of p.0) mid p.1 is in
    behind ∙ ap (λ ws. beside new (rest ws)) same.1 ∙ by (rest p.1) same.0
  where
    by : (s : Printed Items) → new ≡ old ++ tokens_of p.0 → beside new s ≡ written old (list_shape false (s >>= λ js. Ok (item p.0 js.0, js.1)))
    by (Ok q) e = ap (λ ts. Ok (ts, q.1)) e
    by (Err path) e = refl
first_beside old new mid left (Err path) rest o is behind = cc

-- what is written aside tells whether all print
pub listed_beside : (old new out : List Token) (left : List Walk) (r : Printed Items) (o : Outcome) → seen (λ _. (new, left)) o ≡ written old (list_shape true r) → seen (λ _. (out, left)) o ≡ beside out r
listed_beside old new out left (Ok p) (Ok u) is = ap (λ ws. Ok (out, ws)) (both new _ left p.1 is).1
listed_beside old new out left (Ok p) (Err path) is = cc
listed_beside old new out left (Err path) (Ok u) is = cc
listed_beside old new out left (Err path) (Err other) is = cc

-- ---- the page

-- a path of two answers is told
pub path_told : (path : Path) (page : Result Json Path) → Err path ≡ text_of page → page ≡ Err path
path_told path (Ok j) is = cc
path_told path (Err other) is = cc

-- what was written for a page is its text
pub page_told : (ts : List Token) (left : List Walk) (page : Printed Json) (bytes before : List ℕ) → Ok (ts, left) ≡ written [] page → bytes ≡ before ++ print ts → before ≡ [] → Ok bytes ≡ text_of (page >>= λ j. Ok j.0)
page_told ts left (Ok p) bytes before is printed none =
    let e : ts ≡ tokens_of p.0 = (both ts (tokens_of p.0) left p.1 is).0 in
    ap (λ b. Ok b) (printed ∙ ap (λ b. b ++ print ts) none ∙ ap print e ∙ print-tokens_of p.0)
page_told ts left (Err path) bytes before is printed none = cc

-- and so is a path of two answers
pub page_path : (old : List Token) (page : Printed Json) (path : Path) → Err path ≡ written old page → Err path ≡ text_of (page >>= λ j. Ok j.0)
page_path old (Ok p) path is = cc
page_path old (Err other) path is = let e : path ≡ other = cc in ap (λ p. Err p) e

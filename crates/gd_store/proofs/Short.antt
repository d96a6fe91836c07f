-- Lists of primitives whose texts are short.
use Rattle.std.proofs.Common.{◌≡◌, suc, ◌+◌, ◌<◌, Bool, true, false, ◌&&◌, ◌||◌, List, [], ◌∷◌, ◌++◌, length, get_or, take, drop, refl, sym, ap, ◌∙◌, add-one, drop-cons}
use Rattle.std.specs.Prelude.{ℕ, ◌==◌, nat_le, bytes_eq}
use Rattle.std.specs.List.{list_any}
use Rattle.std.proofs.lemmas.Bool.{and_parts, or_parts}
use Rattle.std.proofs.lemmas.List.{take-append-drop}
use Rattle.std.proofs.lemmas.List.Folds.{list_all-append, list_any-append}
use Rattle.gd_base.specs.declared.datum.Datum.{Datum}
use Rattle.gd_base.specs.declared.datum.Datum.TheVariants as datum
use Rattle.gd_prim.specs.declared.Primitive.{Primitive}
use Rattle.gd_prim.specs.Live.{is_text}
use Rattle.gd_store.specs.Short.{is_short, are_short}

-- one more is short
pub short_left : (ps : List Primitive) (i : ℕ) (p : Primitive) → i < length ps → p ≡ get_or ps i p → is_short p.value ≡ true → are_short (drop i ps) ≡ are_short (drop (i + 1) ps)
short_left ps i p within is short =
    let at : drop i ps ≡ p ∷ drop (i + 1) ps = rw (add-one, drop-cons ps i p) (ap (λ q. q ∷ drop (suc i) ps) (sym is)) in
    ap are_short at ∙ ap (λ b. b && are_short (drop (i + 1) ps)) short

-- two lists, one behind the other
pub short_joined : (ps qs : List Primitive) → are_short ps ≡ true → are_short qs ≡ true → are_short (ps ++ qs) ≡ true
short_joined ps qs first second = list_all-append (λ (p : Primitive). is_short p.value) ps qs ∙ ap (λ b. b && are_short qs) first ∙ second

-- a front of a list
pub short_front : (n : ℕ) (ps : List Primitive) → are_short ps ≡ true → are_short (take n ps) ≡ true
short_front n ps short =
    (and_parts (are_short (take n ps)) (are_short (drop n ps))
    (sym (list_all-append (λ (p : Primitive). is_short p.value) (take n ps) (drop n ps)) ∙ ap are_short (take-append-drop n ps) ∙ short)).0

-- equal lists of bytes are equally long
same_length : (a b : List ℕ) → bytes_eq a b ≡ true → length a ≡ length b
same_length [] [] is = refl
same_length [] (y ∷ b) is = cc
same_length (x ∷ a) [] is = cc
same_length (x ∷ a) (y ∷ b) is = ap suc (same_length a b (and_parts (x == y) (bytes_eq a b) is).1)

other_length : (a b : List ℕ) (n : ℕ) → nat_le (length a) n ≡ false → nat_le (length b) n ≡ true → bytes_eq a b ≡ false
other_length a b n long short = by (bytes_eq a b) refl
  where
    by : (e : Bool) → bytes_eq a b ≡ e → e ≡ false
    by false is = refl
    by true is = let clash : false ≡ true = sym long ∙ ap (λ l. nat_le l n) (same_length a b is) ∙ short in cc

-- a long text is no short value
long_text : (t : List ℕ) (v : Datum) → nat_le (length t) 4_096 ≡ false → is_short v ≡ true → is_text t v ≡ false
long_text t (datum.Text s) long short = other_length t s 4_096 long short
long_text t datum.Empty long short = refl
long_text t (datum.Int n) long short = refl
long_text t (datum.Bool b) long short = refl
long_text t (datum.Moment ms precision) long short = refl
long_text t (datum.Object o) long short = refl

neither : (a b : Bool) → a ≡ false → b ≡ false → (a || b) ≡ false
neither false b first second = second
neither true b first second = first

-- so no primitive has it
pub no_long_text : (t : List ℕ) (ps : List Primitive) → nat_le (length t) 4_096 ≡ false → are_short ps ≡ true → list_any (λ p. is_text t p.value) ps ≡ false
no_long_text t [] long short = refl
no_long_text t (p ∷ ps) long short =
    let parts = and_parts (is_short p.value) (are_short ps) short in
    neither (is_text t p.value) (list_any (λ q. is_text t q.value) ps) (long_text t p.value long parts.0) (no_long_text t ps long parts.1)

-- what no primitive of a list has, none of a front of it has
pub none_in_front : (test : Primitive → Bool) (n : ℕ) (ps : List Primitive) → list_any test ps ≡ false → list_any test (take n ps) ≡ false
none_in_front test n ps none =
    (or_parts (list_any test (take n ps)) (list_any test (drop n ps))
    (sym (list_any-append test (take n ps) (drop n ps)) ∙ ap (list_any test) (take-append-drop n ps) ∙ none)).0

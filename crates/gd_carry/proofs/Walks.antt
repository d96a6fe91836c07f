-- Members and items that are carried out, one after another.
use Rattle.std.proofs.Common.{◌≡◌, ℕ, List, [], ◌∷◌, ◌++◌, Result, Ok, Err, refl, sym, ap, ◌∙◌, drop, length, get_or, ◌<◌, ◌≤◌, ◌+◌, zero, suc, add-one, drop-cons, arith}
use Rattle.gd_grammar.specs.Chain.{◌>>=◌}
use Rattle.gd_prim.specs.declared.Primitive.{Primitive}
use Rattle.gd_tree.specs.Json as tree
use Rattle.gd_defs.specs.Write.Links.{ChangeFault}
use Rattle.gd_defs.specs.Write.Carried.{Made}
use Rattle.gd_intent.specs.Seen.{members_view, many_view, item_view}
use Rattle.gd_intent.specs.declared.intent.Entry.{Entry}
use Rattle.gd_intent.specs.declared.intent.Item.{Item}
use Rattle.gd_defs.specs.Write.Parts as parts
use Rattle.gd_carry.specs.Printed.{Field, printed_view, before, many_before}
use Rattle.gd_carry.specs.Outcome.{put, led, all_led, many_led}
use Rattle.gd_carry.specs.declared.print.Printed.{Printed}

-- what is left of a list begins with what stands there
pub left_at : {A : Type 0} (xs : List A) (i : ℕ) (x : A) → i < length xs → x ≡ get_or xs i x → drop i xs ≡ x ∷ drop (i + 1) xs
left_at xs i x within is = rw (add-one, drop-cons xs i x) (ap (λ y. y ∷ drop (suc i) xs) (sym is))

-- past the end nothing is left
pub past : {A : Type 0} (xs : List A) (i : ℕ) → length xs ≤ i → drop i xs ≡ []
past [] zero end = refl
past [] (suc i) end = refl
past (x ∷ xs) zero end = absurd (omega (arith, end))
past (x ∷ xs) (suc i) end = past xs i (omega (arith, end))

pub entries_left : (es : List (Entry Item)) (i : ℕ) (e : Entry Item) → i < length es → e ≡ get_or es i e → members_view (drop i es) ≡ put e (members_view (drop (i + 1) es))
entries_left es i e within is = ap members_view (left_at es i e within is)

pub items_left : (is : List Item) (i : ℕ) (x : Item) → i < length is → x ≡ get_or is i x → many_view (drop i is) ≡ parts.and_then (item_view x) (many_view (drop (i + 1) is))
items_left is i x within at = ap many_view (left_at is i x within at)

one_more : (final : List Primitive) (fs : List (Field Printed)) (f : Field Printed) (rest : tree.Members) → before final (fs ++ f ∷ []) rest ≡ before final fs (tree.member f.0.now (printed_view final f.1) rest)
one_more final [] f rest = refl
one_more final (x ∷ fs) f rest = ap (tree.member x.0.now (printed_view final x.1)) (one_more final fs f rest)

one_item_more : (final : List Primitive) (ps : List Printed) (p : Printed) (rest : tree.Items) → many_before final (ps ++ p ∷ []) rest ≡ many_before final ps (tree.item (printed_view final p) rest)
one_item_more final [] p rest = refl
one_item_more final (x ∷ ps) p rest = ap (tree.item (printed_view final x)) (one_item_more final ps p rest)

-- nothing is printed yet
pub none_led : (whole : Result (Made tree.Members) ChangeFault) → whole ≡ (whole >>= λ r. Ok (all_led [] r))
none_led (Ok r) = refl
none_led (Err e) = refl

pub no_item_led : (whole : Result (Made tree.Items) ChangeFault) → whole ≡ (whole >>= λ r. Ok (many_led [] r))
no_item_led (Ok r) = refl
no_item_led (Err e) = refl

-- a member that was carried out is printed behind those before it
pub field_added : (whole rest : Result (Made tree.Members) ChangeFault) (fs new : List (Field Printed)) (f : Field Printed) → whole ≡ (rest >>= λ r. Ok (led f r)) → new ≡ fs ++ f ∷ []
    → (whole >>= λ r. Ok (all_led fs r)) ≡ (rest >>= λ r. Ok (all_led new r))
field_added whole (Err e) fs new f is added = ap (λ (w : Result (Made tree.Members) ChangeFault). w >>= λ r. Ok (all_led fs r)) is
field_added whole (Ok r) fs new f is added = ap (λ (w : Result (Made tree.Members) ChangeFault). w >>= λ r. Ok (all_led fs r)) is
    ∙ (λ i. Ok (r.0, λ final. sym (one_more final fs f (r.1 final)) i))
    ∙ ap (λ (xs : List (Field Printed)). Ok (all_led xs r)) (sym added)

-- the same of an item
pub item_added : (first : Result (Made tree.Json) ChangeFault) (rest : List Primitive → Result (Made tree.Items) ChangeFault) (now : List Primitive) (ps new : List Printed) (p : Printed)
    → first ≡ Ok (now, λ final. printed_view final p) → new ≡ ps ++ p ∷ []
    → ((first >>= λ m. rest m.0 >>= λ r. Ok (r.0, λ final. tree.item (m.1 final) (r.1 final))) >>= λ r. Ok (many_led ps r)) ≡ (rest now >>= λ r. Ok (many_led new r))
item_added first rest now ps new p made added = ap (λ (w : Result (Made tree.Json) ChangeFault). (w >>= λ m. rest m.0 >>= λ r. Ok (r.0, λ final. tree.item (m.1 final) (r.1 final))) >>= λ r. Ok (many_led ps r)) made
    ∙ by (rest now)
  where
    by : (w : Result (Made tree.Items) ChangeFault) → ((w >>= λ r. Ok (r.0, λ final. tree.item (printed_view final p) (r.1 final))) >>= λ r. Ok (many_led ps r)) ≡ (w >>= λ r. Ok (many_led new r))
    by (Err e) = refl
    by (Ok r) = (λ i. Ok (r.0, λ final. sym (one_item_more final ps p (r.1 final)) i)) ∙ ap (λ (xs : List Printed). Ok (many_led xs r)) (sym added)

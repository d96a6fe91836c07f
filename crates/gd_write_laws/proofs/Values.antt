-- The values that requests spell.
use Rattle.std.proofs.Common.{◌≡◌, ◌≤◌, ℕ, List, length, Bool, true, Some, None, refl, subst, arith}
use Rattle.std.specs.Prelude.{nat_le}
use Rattle.std.specs.Int.{is_in_range}
use Rattle.std.specs.List.{list_all}
use Rattle.std.proofs.lemmas.Bool.{and_parts, and_from, leb-true, le-leb, false≢true}
use Rattle.gd_base.specs.declared.datum.Datum.{Datum}
use Rattle.gd_base.specs.declared.datum.Datum.TheVariants as datum
use Rattle.gd_prim.specs.WellFormed.{is_number}
use Rattle.gd_tree.specs.Json.{Json, boolean, number, text}
use Rattle.gd_defs.specs.Ids.{is_key, is_key_byte}
use Rattle.gd_defs.specs.Moment.{moment_of}
use Rattle.gd_defs.specs.Data.{Kind, of_text, of_int, of_boolean, of_datetime, datum_from, key_from}
use Rattle.gd_write_laws.specs.Fits.{Spells}
use Rattle.gd_tree.specs.Bounds.{IsPlain}
use Rattle.gd_write_laws.specs.Values.{MayHold, IsTyped}
use Rattle.gd_grammar.proofs.Steps.{some_same, not_some, mapped, either}
use Rattle.gd_write_laws.proofs.Moments.{moment_of-within}

-- what a JSON value spells a primitive may hold
holds : (k : Kind) (j : Json) (d : Datum) → datum_from k j ≡ Some d → MayHold d
holds of_text (text t) d is = either (nat_le (length t) 4096) (Some (datum.Text t)) None (Some d) (λ b same. subst MayHold (some_same (datum.Text t) d same) refl) (λ b none. not_some d none) is
holds of_int (number n) d is = either (is_number n) (Some (datum.Int n)) None (Some d) (λ b same. subst MayHold (some_same (datum.Int n) d same) b) (λ b none. not_some d none) is
holds of_boolean (boolean b) d is = subst MayHold (some_same (datum.Bool b) d is) refl
holds of_datetime (text t) d is =
    let m = mapped (moment_of t) (λ m. datum.Moment m.0 m.1) d is in subst MayHold m.is (moment_of-within t m.value m.gave)
holds _ _ d is = not_some d is

pub Spells-held : (j : Json) → Spells MayHold j
Spells-held j = record { value = λ k d is. holds k j d is; key = λ t is. refl }

-- where its texts pass the test, the types of the code hold it
typed : (T : List ℕ → Bool) (k : Kind) (j : Json) (d : Datum) → IsPlain T j → datum_from k j ≡ Some d → IsTyped T d
typed T of_text (text t) d plain is = either (nat_le (length t) 4096) (Some (datum.Text t)) None (Some d)
    (λ b same. subst (IsTyped T) (some_same (datum.Text t) d same) (and_from (nat_le (length t) 4096) (T t) b plain)) (λ b none. not_some d none) is
typed T of_int (number n) d plain is = either (is_number n) (Some (datum.Int n)) None (Some d) (λ b same. subst (IsTyped T) (some_same (datum.Int n) d same) b) (λ b none. not_some d none) is
typed T of_boolean (boolean b) d plain is = subst (IsTyped T) (some_same (datum.Bool b) d is) refl
typed T of_datetime (text t) d plain is =
    let m = mapped (moment_of t) (λ m. datum.Moment m.0 m.1) d is in subst (IsTyped T) m.is (moment_of-within t m.value m.gave)
typed T _ _ d plain is = not_some d is

short_key : (t : List ℕ) → is_key t ≡ true → length t ≤ 4096
short_key t is =
    let bounds = and_parts (nat_le 1 (length t)) (nat_le (length t) 64) (and_parts (is_in_range 1 64 (length t)) (list_all is_key_byte t) is).0 in
    let most = leb-true (length t) 64 bounds.1 in omega arith

typed_key : (T : List ℕ → Bool) (j : Json) (t : List ℕ) → IsPlain T j → key_from j ≡ Some t → IsTyped T (datum.Text t)
typed_key T (text s) t plain is = either (is_key s) (Some s) None (Some t)
    (λ key same. subst (λ t. IsTyped T (datum.Text t)) (some_same s t same) (and_from (nat_le (length s) 4096) (T s) (le-leb (length s) 4096 (short_key s key)) plain)) (λ b none. not_some t none) is
typed_key T _ t plain is = not_some t is

pub Spells-typed : (T : List ℕ → Bool) (j : Json) → IsPlain T j → Spells (IsTyped T) j
Spells-typed T j plain = record { value = λ k d is. typed T k j d plain is; key = λ t is. typed_key T j t plain is }

-- what the types of the code hold a primitive may hold
pub held_from_typed : (T : List ℕ → Bool) (d : Datum) → IsTyped T d → MayHold d
held_from_typed T (datum.Bool b) is = refl
held_from_typed T (datum.Int n) is = is
held_from_typed T (datum.Moment ms precision) is = is
held_from_typed T (datum.Text t) is = refl
held_from_typed T (datum.Object o) is = absurd (false≢true is)
held_from_typed T datum.Empty is = refl

-- What may be written has a spelling, with what types say.
use mir.Val.{sel}
use Rattle.std.proofs.Common.{◌≡◌, List, [], ◌∷◌, ℕ, suc, ◌-◌, ◌^◌, ℤ, pos, negsuc, Bool, true, false, subst, refl, IsTrue, arith}
use Rattle.std.specs.Prelude.{int_le, nat_lt}
use Rattle.std.specs.Int.{w64, cast_signed, cast_unsigned}
use Rattle.std.proofs.lemmas.Bool.{and_from, ltb-true, ltb-false}
use Rattle.std.proofs.lemmas.Int.{ints}
use Rattle.std.specs.List.{AllByRecursion}
use Rattle.gd_base.specs.declared.datum.Datum.{Datum}
use Rattle.gd_base.specs.declared.datum.Datum.TheVariants as datum
use Rattle.gd_prim.specs.WellFormed.{is_number, may_hold}
use Rattle.gd_prim.specs.declared.Primitive.{Primitive}
use Rattle.gd_prim.specs.declared.Batch.{Batch}
use Rattle.gd_bytes.specs.Group.{ValueFits, PrimitiveFits, BatchFits, Fits}
use Rattle.gd_codec.specs.Writable.{PrimitiveMay, BatchMay, MayWrite}

of_moment : (moment : ℕ) (ps : List Primitive) → AllByRecursion (PrimitiveMay moment) ps → AllByRecursion (λ p. PrimitiveFits p.moment p) ps → AllByRecursion (PrimitiveFits moment) ps
of_moment moment [] may fits = tt
of_moment moment (p ∷ ps) may fits = (subst (λ (m : ℕ). PrimitiveFits m p) may.0.same fits.0, of_moment moment ps may.1 fits.1)

pub batch_fits : (b : Batch) → BatchMay b → AllByRecursion (λ p. PrimitiveFits p.moment p) b.prims → BatchFits b
batch_fits b may fits = record { moment = may.moment; few = may.few; each = of_moment b.moment b.prims may.each fits }

-- a number that 64 bits give back has 64 bits
number_may : (n : ℤ) → cast_signed w64 (cast_unsigned w64 n) ≡ n → IsTrue (is_number n)
number_may n same = and_from (int_le (negsuc 9_223_372_036_854_775_807) n) (int_le n (pos 9_223_372_036_854_775_807)) (low n same) (high n same)
  where
    low : (n : ℤ) → cast_signed w64 (cast_unsigned w64 n) ≡ n → int_le (negsuc 9_223_372_036_854_775_807) n ≡ true
    low (pos n) same = refl
    low (negsuc n) same = by (nat_lt (2 ^ 64 - suc n) (2 ^ 63)) refl same
      where
        by : (b : Bool) → nat_lt (2 ^ 64 - suc n) (2 ^ 63) ≡ b → sel b (pos (2 ^ 64 - suc n)) (negsuc (2 ^ 64 - suc (2 ^ 64 - suc n))) ≡ negsuc n → int_le (negsuc 9_223_372_036_854_775_807) (negsuc n) ≡ true
        by true less same = absurd (cc)
        by false less same = let much = ltb-false (2 ^ 64 - suc n) (2 ^ 63) less in grind (arith, ints, much)

    high : (n : ℤ) → cast_signed w64 (cast_unsigned w64 n) ≡ n → int_le n (pos 9_223_372_036_854_775_807) ≡ true
    high (pos n) same = by (nat_lt n (2 ^ 63)) refl same
      where
        by : (b : Bool) → nat_lt n (2 ^ 63) ≡ b → sel b (pos n) (negsuc (2 ^ 64 - suc n)) ≡ pos n → int_le (pos n) (pos 9_223_372_036_854_775_807) ≡ true
        by true less same = let few = ltb-true n (2 ^ 63) less in grind (arith, ints, few)
        by false less same = absurd (cc)
    high (negsuc n) same = refl

value_may : (v : Datum) → ValueFits v → IsTrue (may_hold v)
value_may datum.Empty fits = refl
value_may (datum.Text t) fits = refl
value_may (datum.Int n) fits = number_may n fits
value_may (datum.Bool b) fits = refl
value_may (datum.Moment ms precision) fits = fits
value_may (datum.Object o) fits = absurd fits

prims_may : (moment : ℕ) (ps : List Primitive) → AllByRecursion (PrimitiveFits moment) ps → AllByRecursion (PrimitiveMay moment) ps
prims_may moment [] fits = tt
prims_may moment (p ∷ ps) fits = (record { same = fits.0.same; holds = value_may p.value fits.0.value }, prims_may moment ps fits.1)

batches_may : (bs : List Batch) → AllByRecursion BatchFits bs → AllByRecursion BatchMay bs
batches_may [] fits = tt
batches_may (b ∷ bs) fits = (record { moment = fits.0.moment; few = fits.0.few; each = prims_may b.moment b.prims fits.0.each }, batches_may bs fits.1)

-- what has a spelling may be written
pub fits_may : (bs : List Batch) → Fits bs → MayWrite bs
fits_may bs fits = record { some = fits.some; few = fits.few; each = batches_may bs fits.each }

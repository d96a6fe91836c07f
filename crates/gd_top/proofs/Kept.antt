-- What is kept of a file.
use Rattle.std.proofs.Common.{◌≡◌, ℕ, List, [], ◌∷◌, ◌++◌, map, Option, Some, None, refl, sym, subst, ap, ◌∙◌, inl, inr, ⊎_elim, append-nil, append_assoc}
use Rattle.std.specs.Prelude.{IsSome}
use Rattle.std.specs.Option.{ForSome, is_some}
use Rattle.gd_prim.specs.declared.Batch.{Batch}
use Rattle.gd_bytes.specs.Disk.{HoldsSame}
use Rattle.gd_bytes.specs.File.{Meaning, not_store, damaged, groups, meaning, StandsFor}
use Rattle.gd_runs.proofs.Rounds.{some_same}
use Rattle.gd_runs.specs.Legal.{Entry, batches}
use Rattle.gd_runs.specs.Core.{State}
use Rattle.gd_log.specs.Opening.{IsReadSame, IsKept}
use Rattle.gd_threads.specs.PassedOn.{Tells, StandsForState}
use Rattle.gd_top.proofs.Settled.{told_on, some_tells}
use Rattle.gd_top.specs.Kept.{IsLeft, KeepsFile, Keeps, StaysTold, StaysAt}

some_told : (now : Option (List ℕ)) (file : List ℕ) → now ≡ Some file → IsSome now
some_told now file is = subst (λ (o : Option (List ℕ)). IsSome o) (sym is) refl

-- where nothing was changed
pub keeps_nothing : (told now : Option (List ℕ)) (images_old images_new : List ℕ → Type 0) → now ≡ told → ((c : List ℕ) → images_new c → images_old c) → Keeps told now images_old images_new
keeps_nothing told now images_old images_new same fewer file told_is = record {
  told = some_told now file (same ∙ told_is);
  read = λ later is. inl (some_same (sym is ∙ (same ∙ told_is)));
  images = λ c is. (c, fewer c is, inl refl);
  not_store = λ means. fewer;
  damaged = λ at means. fewer;
}

-- a file that stands for batches is neither no store nor damaged
sound : (file : List ℕ) (bs : List Batch) (m : Meaning) → StandsFor file bs → meaning file ≡ m → ((gs : List (List Batch)) → m ≡ groups gs → ⊥) → ⊥
sound file bs m stands means apart = let (gs, is, all) = stands in apart gs (sym means ∙ is)

no_store : (gs : List (List Batch)) → not_store ≡ groups gs → ⊥
no_store gs e = cc

no_damage : (at : ℕ) (gs : List (List Batch)) → damaged at ≡ groups gs → ⊥
no_damage at gs e = cc

-- what stands for a core that began with the batches of a file is left of it
left_of_core : (file : List ℕ) (bs : List Batch) (s : State) → StandsFor file bs → s.history.loaded ≡ bs → (c : List ℕ) → StandsForState s c → IsLeft file c
left_of_core file bs s stands is c now = by s.doubt now
  where
    more : List Batch
    more = map (λ (e : Entry). e.batch) s.history.entries

    grown : batches s.history ≡ bs ++ more
    grown = ap (λ (l : List Batch). l ++ more) is

    by : (d : Option Entry) → StandsForState (record s { doubt = d }) c → IsLeft file c
    by None now = inr (bs, more, stands, subst (StandsFor c) grown now)
    by (Some e) now = ⊎_elim
        (λ old. inr (bs, more, stands, subst (StandsFor c) grown old))
        (λ new. inr (bs, more ++ e.batch ∷ [], stands, subst (StandsFor c) (ap (λ (l : List Batch). l ++ e.batch ∷ []) grown ∙ append_assoc bs more (e.batch ∷ [])) new)) now

pub told_is : (told : Option (List ℕ)) (file : List ℕ) → told ≡ Some file → Tells told
told_is told file is = rw is refl

-- a run over a store that was just opened, at its end
pub keeps_run : {D : Type 0} (content : D → Option (List ℕ)) (images : D → List ℕ → Type 0) → ((disk : D) (file : List ℕ) → content disk ≡ Some file → images disk file)
    → (first last : D) (loaded : List Batch) (s : State) → ForSome (content first) (λ file. StandsFor file loaded) → s.history.loaded ≡ loaded → is_some (content last) ≡ is_some (content first)
    → (Tells (content last) → (c : List ℕ) → images last c → StandsForState s c) → Keeps (content first) (content last) (images first) (images last)
keeps_run content images reads first last loaded s means begun same holds file is =
    let tells : Tells (content last) = told_on (content first) (content last) same (told_is (content first) file is) in
    let stands : StandsFor file loaded = means file is in
    record {
      told = some_tells (content last) tells;
      read = λ later now. left_of_core file loaded s stands begun later (holds tells later (reads last later now));
      images = λ c now. (file, reads first file is, left_of_core file loaded s stands begun c (holds tells c now));
      not_store = λ none. absurd (sound file loaded not_store stands none no_store);
      damaged = λ at none. absurd (sound file loaded (damaged at) stands none (no_damage at));
    }

-- a file that stood for batches, of which all that a stop leaves stands for these and further ones
pub keeps_further : {D : Type 0} (content : D → Option (List ℕ)) (images : D → List ℕ → Type 0) → ((disk : D) (file : List ℕ) → content disk ≡ Some file → images disk file) → (old new : D) (file : List ℕ) (bs : List Batch)
    → content old ≡ Some file → is_some (content new) ≡ is_some (content old) → StandsFor file bs → ((c : List ℕ) → images new c → (more : List Batch) × StandsFor c (bs ++ more)) → KeepsFile file (content new) (images old) (images new)
keeps_further content images reads old new file bs is same stands further = record {
  told = some_tells (content new) (told_on (content old) (content new) same (told_is (content old) file is));
  read = λ later now. let (more, left) = further later (reads new later now) in inr (bs, more, stands, left);
  images = λ c now. let (more, left) = further c now in (file, reads old file is, inr (bs, more, stands, left));
  not_store = λ means. absurd (sound file bs not_store stands means no_store);
  damaged = λ at means. absurd (sound file bs (damaged at) stands means (no_damage at));
}

-- what reads the same is left
left_of_same : (before after : List ℕ) → IsReadSame before after → IsLeft before after
left_of_same before after (inl same) = inl same
left_of_same before after (inr (bs, was, now)) = inr (bs, [], was, subst (StandsFor after) (sym (append-nil bs)) now)

-- where it was not opened
pub keeps_refused : {D : Type 0} (content : D → Option (List ℕ)) (moment : D → ℕ) (images : D → List ℕ → Type 0) (images_since : D → ℕ → List ℕ → Type 0) (old new : D)
    → ForSome (content old) (λ file. IsKept content moment images images_since file old new) → Keeps (content old) (content new) (images old) (images new)
keeps_refused content moment images images_since old new keeps file is =
    let kept = keeps file is in
    record {
      told = kept.told;
      read = λ later now. left_of_same file later (kept.read later now);
      images = λ c now. let (d, was, same) = kept.stops c now in (d, was, left_of_same d c same);
      not_store = λ means. (kept.left (λ bs stands. sound file bs not_store stands means no_store)).now;
      damaged = λ at means. (kept.left (λ bs stands. sound file bs (damaged at) stands means (no_damage at))).now;
    }

-- a device that was taken from a shelf and put back
pub keeps_shelved : (told now told_out now_out : Option (List ℕ)) (images_old images_new images_out images_back : List ℕ → Type 0) → HoldsSame told told_out images_old images_out → HoldsSame now_out now images_back images_new
    → Keeps told_out now_out images_out images_back → Keeps told now images_old images_new
keeps_shelved told now told_out now_out images_old images_new images_out images_back opened back keeps file told_is =
    let kept = keeps file (opened.content ∙ told_is) in
    record {
      told = subst (λ (o : Option (List ℕ)). IsSome o) (sym back.content) kept.told;
      read = λ later is. kept.read later (sym back.content ∙ is);
      images = λ c is. let (d, was, left) = kept.images c (back.fewer c is) in (d, opened.fewer d was, left);
      not_store = λ means c is. opened.fewer c (kept.not_store means c (back.fewer c is));
      damaged = λ at means c is. opened.fewer c (kept.damaged at means c (back.fewer c is));
    }

-- ---- a run that did not begin

-- where nothing was changed
pub stays_same : (told now : Option (List ℕ)) (images_old images_new : List ℕ → Type 0) → now ≡ told → ((c : List ℕ) → images_new c → images_old c) → StaysTold told now images_old images_new
stays_same told now images_old images_new same fewer file told_is = record {
  told = some_told now file (same ∙ told_is);
  read = λ later is. inl (some_same (sym is ∙ (same ∙ told_is)));
  images = λ c is. (c, fewer c is, inl refl);
}

-- where the store was not opened
pub stays_refused : {D : Type 0} (content : D → Option (List ℕ)) (moment : D → ℕ) (images : D → List ℕ → Type 0) (images_since : D → ℕ → List ℕ → Type 0) (old new : D)
    → ForSome (content old) (λ file. IsKept content moment images images_since file old new) → StaysTold (content old) (content new) (images old) (images new)
stays_refused content moment images images_since old new keeps file is = let kept = keeps file is in record { told = kept.told; read = kept.read; images = kept.stops }

-- a device that was taken from a shelf and put back
pub stays_shelved : (told now told_out now_out : Option (List ℕ)) (images_old images_new images_out images_back : List ℕ → Type 0) → HoldsSame told told_out images_old images_out → HoldsSame now_out now images_back images_new
    → StaysTold told_out now_out images_out images_back → StaysTold told now images_old images_new
stays_shelved told now told_out now_out images_old images_new images_out images_back opened back stays file told_is =
    let kept = stays file (opened.content ∙ told_is) in
    record {
      told = subst (λ (o : Option (List ℕ)). IsSome o) (sym back.content) kept.told;
      read = λ later is. kept.read later (sym back.content ∙ is);
      images = λ c is. let (d, was, same) = kept.images c (back.fewer c is) in (d, opened.fewer d was, same);
    }

-- a shelf that was not touched
pub stays_untouched : (content : List ℕ → Option (List ℕ)) (images : List ℕ → List ℕ → Type 0) (path : Option (List ℕ)) → StaysAt content content images images path
stays_untouched content images None = tt
stays_untouched content images (Some path) = stays_same (content path) (content path) (images path) (images path) refl (λ c is. is)

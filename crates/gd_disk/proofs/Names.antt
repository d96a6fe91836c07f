-- Names that are out, with one more or without one.
use Rattle.std.proofs.Common.{◌≡◌, ◌≢◌, ℕ, List, [], ◌∷◌, ◌++◌, true, false, refl, sym, ◌∙◌, ap, inl, inr, bytes_eq}
use Rattle.std.proofs.lemmas.Bool.{cases_Bool}
use Rattle.std.proofs.lemmas.Slice.Eq.{bytes_eq-Decides}
use Rattle.std.specs.Prelude.{not, filter, ◌||◌}
use Rattle.gd_disk.specs.FileShelf.{is_among}

-- a name is not another
differs : (name path other : List ℕ) → bytes_eq name path ≡ true → other ≢ path → bytes_eq name other ≡ false
differs name path other is apart = elim (cases_Bool (bytes_eq name other)) [
  | inl same ↦ absurd (apart (sym ((bytes_eq-Decides name other).0 same) ∙ (bytes_eq-Decides name path).0 is))
  | inr apart_too ↦ apart_too
]

push_is : (names : List (List ℕ)) (path : List ℕ) → is_among (names ++ path ∷ []) path ≡ true
push_is [] path = rw ((bytes_eq-Decides path path).1 refl) refl
push_is (n ∷ names) path = elim (cases_Bool (bytes_eq n path)) [
  | inl same ↦ rw same refl
  | inr apart ↦ rw apart (push_is names path)
]

push_other : (names : List (List ℕ)) (path other : List ℕ) → other ≢ path → is_among (names ++ path ∷ []) other ≡ is_among names other
push_other [] path other apart = rw (differs path path other ((bytes_eq-Decides path path).1 refl) apart) refl
push_other (n ∷ names) path other apart = elim (cases_Bool (bytes_eq n other)) [
  | inl same ↦ rw same refl
  | inr apart_too ↦ rw apart_too (push_other names path other apart)
]

pub among_push : (names more : List (List ℕ)) (path name : List ℕ) → name ≡ path → more ≡ names ++ name ∷ [] → is_among more path ≡ true
among_push names more path name same is = ap (λ l. is_among l path) is ∙ ap (λ n. is_among (names ++ n ∷ []) path) same ∙ push_is names path

pub others_push : (names more : List (List ℕ)) (path name other : List ℕ) → other ≢ path → name ≡ path → more ≡ names ++ name ∷ [] → is_among more other ≡ is_among names other
others_push names more path name other apart same is = ap (λ l. is_among l other) is ∙ ap (λ n. is_among (names ++ n ∷ []) other) same ∙ push_other names path other apart

forget_is : (names : List (List ℕ)) (path : List ℕ) → is_among (filter (λ name. not (bytes_eq name path)) names) path ≡ false
forget_is [] path = refl
forget_is (n ∷ names) path = elim (cases_Bool (bytes_eq n path)) [
  | inl same ↦ rw same (forget_is names path)
  | inr apart ↦ rw (apart, apart) (forget_is names path)
]

forget_other : (names : List (List ℕ)) (path other : List ℕ) → other ≢ path → is_among (filter (λ name. not (bytes_eq name path)) names) other ≡ is_among names other
forget_other [] path other apart = refl
forget_other (n ∷ names) path other apart = elim (cases_Bool (bytes_eq n path)) [
  | inl same ↦ rw (same, differs n path other same apart) (forget_other names path other apart)
  | inr apart_too ↦ rw apart_too (ap (λ b. bytes_eq n other || b) (forget_other names path other apart))
]

pub among_forget : (names fewer : List (List ℕ)) (path : List ℕ) → fewer ≡ filter (λ name. not (bytes_eq name path)) names → is_among fewer path ≡ false
among_forget names fewer path is = ap (λ l. is_among l path) is ∙ forget_is names path

pub others_forget : (names fewer : List (List ℕ)) (path other : List ℕ) → other ≢ path → fewer ≡ filter (λ name. not (bytes_eq name path)) names → is_among fewer other ≡ is_among names other
others_forget names fewer path other apart is = ap (λ l. is_among l other) is ∙ forget_other names path other apart

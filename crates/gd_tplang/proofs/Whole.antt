-- Templates of every depth are read exactly.
use Rattle.std.proofs.Common.{◌≡◌, refl, ℕ, zero, suc, ◌+◌, ◌≤◌, List, [], ◌∷◌, ◌++◌, length, take, drop, Result, Ok, Err, sym, ◌∙◌, ap, arith, length-append}
use Rattle.std.specs.Prelude.{codes}
use Rattle.std.proofs.lemmas.List.{take_at, take-append-drop, take-take}
use Rattle.gd_grammar.proofs.Scans.{Says, whole_says}
use Rattle.gd_tplang.specs.Written.{Item, test, clause, Items, no_items, item, count, mode_text, hop_text, item_text, items_text, further_text, template_text, ItemFits, EachFits, Fits, template_at, template_of}
use Rattle.gd_tplang.proofs.Templates.{EachIn, ItemIn, TemplateIn, Good-template}

-- ---- what fits with a depth fits

mutual
  each_fits : (k : ℕ) (t : Items) → EachIn k t → EachFits t
  each_fits k no_items each = tt
  each_fits k (item i rest) (one, each) = (item_fits k i one, each_fits k rest each)

  item_fits : (k : ℕ) (i : Item) → ItemIn k i → ItemFits i
  item_fits k (test t) one = one
  item_fits zero (clause mode hop no_items) one = (omega arith, tt)
  item_fits zero (clause mode hop (item i rest)) one = absurd one
  item_fits (suc k) (clause mode hop t) (few, each) = (few, each_fits k t each)

fits_of : (k : ℕ) (t : Items) → TemplateIn k t → Fits t
fits_of zero no_items bare = (omega arith, tt)
fits_of zero (item i rest) bare = absurd bare
fits_of (suc k) t (few, each) = (few, each_fits k t each)

-- ---- a greater depth

mutual
  each_raised : (k n : ℕ) (t : Items) → k ≤ n → EachIn k t → EachIn n t
  each_raised k n no_items less each = tt
  each_raised k n (item i rest) less (one, each) = (item_raised k n i less one, each_raised k n rest less each)

  item_raised : (k n : ℕ) (i : Item) → k ≤ n → ItemIn k i → ItemIn n i
  item_raised k n (test t) less one = one
  item_raised zero zero (clause mode hop t) less one = one
  item_raised zero (suc n) (clause mode hop no_items) less one = (omega arith, tt)
  item_raised zero (suc n) (clause mode hop (item i rest)) less one = absurd one
  item_raised (suc k) zero (clause mode hop t) less one = absurd (omega (arith, less))
  item_raised (suc k) (suc n) (clause mode hop t) less (few, each) = (few, each_raised k n t (omega (arith, less)) each)

raise : (k n : ℕ) (t : Items) → k ≤ n → TemplateIn k t → TemplateIn n t
raise zero zero t less fits = fits
raise zero (suc n) no_items less fits = (omega arith, tt)
raise zero (suc n) (item i rest) less fits = absurd fits
raise (suc k) zero t less fits = absurd (omega (arith, less))
raise (suc k) (suc n) t less (few, each) = (few, each_raised k n t (omega (arith, less)) each)

-- ---- what fits is no deeper than its text is long

further_long : (t : Items) → length (further_text t) ≤ suc (length (items_text t))
further_long no_items = omega arith
further_long (item i rest) = omega arith

mutual
  each_in : (k : ℕ) (t : Items) → EachFits t → length (further_text t) ≤ suc k → EachIn k t
  each_in k no_items each short = tt
  each_in k (item i rest) (one, each) short =
      let sum = length-append (item_text i) (further_text rest) in
      (item_in k i one (omega (arith, sum, short)), each_in k rest each (omega (arith, sum, short)))

  item_in : (k : ℕ) (i : Item) → ItemFits i → length (item_text i) ≤ k → ItemIn k i
  item_in k (test t) one short = one
  item_in zero (clause mode hop t) one short = let sum = length-append (mode_text mode ++ hop_text hop) (codes " " ++ template_text t) in absurd (omega (arith, sum, short))
  item_in (suc k) (clause mode hop t) (few, each) short =
      let sum = length-append (mode_text mode ++ hop_text hop) (codes " " ++ template_text t) in
      (few, each_in k t each (omega (arith, sum, short, further_long t)))

in_of : (k : ℕ) (t : Items) → Fits t → length (template_text t) ≤ k → TemplateIn k t
in_of zero t fits short = absurd (omega (arith, short))
in_of (suc k) t (few, each) short = (few, each_in k t each (omega (arith, short, further_long t)))

-- ---- a text of a bounded depth with the same front

abbrev mutual
  -- the items with bare templates below so many levels
  cut : ℕ → Items → Items
  cut k no_items = no_items
  cut k (item i rest) = item (cut_item k i) (cut k rest)

  cut_item : ℕ → Item → Item
  cut_item k (test t) = test t
  cut_item zero (clause mode hop t) = clause mode hop no_items
  cut_item (suc k) (clause mode hop t) = clause mode hop (cut k t)

abbrev cut_template : ℕ → Items → Items
cut_template zero t = no_items
cut_template (suc k) t = cut k t

count_cut : (k : ℕ) (t : Items) → count (cut k t) ≡ count t
count_cut k no_items = refl
count_cut k (item i rest) = ap (λ n. 1 + n) (count_cut k rest)

mutual
  cut_each : (k : ℕ) (t : Items) → EachFits t → EachIn k (cut k t)
  cut_each k no_items each = tt
  cut_each k (item i rest) (one, each) = (cut_one k i one, cut_each k rest each)

  cut_one : (k : ℕ) (i : Item) → ItemFits i → ItemIn k (cut_item k i)
  cut_one k (test t) one = one
  cut_one zero (clause mode hop t) one = tt
  cut_one (suc k) (clause mode hop t) (few, each) = let same = count_cut k t in (omega (arith, same, few), cut_each k t each)

cut_in : (k : ℕ) (t : Items) → Fits t → TemplateIn k (cut_template k t)
cut_in zero t fits = tt
cut_in (suc k) t (few, each) = let same = count_cut k t in (omega (arith, same, few), cut_each k t each)

-- two texts have the same front of so many bytes
abbrev Agree : ℕ → List ℕ → List ℕ → Type 0
Agree n a b = take n a ≡ take n b

head_is : (x y : ℕ) (xs ys : List ℕ) → x ∷ xs ≡ y ∷ ys → x ≡ y
head_is x y xs ys e = cc

tail_is : (x y : ℕ) (xs ys : List ℕ) → x ∷ xs ≡ y ∷ ys → xs ≡ ys
tail_is x y xs ys e = cc

agree_less : (m n : ℕ) (a b : List ℕ) → m ≤ n → Agree n a b → Agree m a b
agree_less m n a b less same = sym (take-take m n a less) ∙ ap (take m) same ∙ take-take m n b less

agree_both : (n : ℕ) (a a' b b' : List ℕ) → Agree n a a' → Agree n b b' → Agree n (a ++ b) (a' ++ b')
agree_both zero a a' b b' one two = refl
agree_both (suc n) [] [] b b' one two = two
agree_both (suc n) [] (x ∷ a') b b' one two = cc
agree_both (suc n) (x ∷ a) [] b b' one two = cc
agree_both (suc n) (x ∷ a) (y ∷ a') b b' one two =
    let heads = head_is x y (take n a) (take n a') one in
    let tails = tail_is x y (take n a) (take n a') one in
    ap (λ c. c ∷ take n (a ++ b)) heads ∙ ap (λ l. y ∷ l) (agree_both n a a' b b' tails (agree_less n (suc n) b b' (omega arith) two))

agree_after : (n : ℕ) (a b b' : List ℕ) → Agree n b b' → Agree n (a ++ b) (a ++ b')
agree_after n a b b' same = agree_both n a a b b' refl same

agree_one : (n c : ℕ) (b b' : List ℕ) → Agree n b b' → Agree (suc n) (c ∷ b) (c ∷ b')
agree_one n c b b' same = ap (λ l. c ∷ l) same

mutual
  agree_items : (k : ℕ) (t : Items) → Agree k (items_text t) (items_text (cut k t))
  agree_items k no_items = refl
  agree_items k (item i rest) = agree_both k (item_text i) (item_text (cut_item k i)) (further_text rest) (further_text (cut k rest)) (agree_item k i) (agree_further k rest)

  agree_further : (k : ℕ) (t : Items) → Agree k (further_text t) (further_text (cut k t))
  agree_further k no_items = refl
  agree_further k (item i rest) = agree_after k (codes " ") (item_text i ++ further_text rest) (item_text (cut_item k i) ++ further_text (cut k rest))
      (agree_both k (item_text i) (item_text (cut_item k i)) (further_text rest) (further_text (cut k rest)) (agree_item k i) (agree_further k rest))

  agree_item : (k : ℕ) (i : Item) → Agree k (item_text i) (item_text (cut_item k i))
  agree_item k (test t) = refl
  agree_item zero (clause mode hop t) = refl
  agree_item (suc k) (clause mode hop t) = agree_after (suc k) (mode_text mode ++ hop_text hop) (codes " " ++ template_text t) (codes " " ++ template_text (cut k t))
      (agree_after (suc k) (codes " ") (template_text t) (template_text (cut k t)) (agree_one k 40 (items_text t) (items_text (cut k t)) (agree_items k t)))

agree_template : (k : ℕ) (t : Items) → Agree k (template_text t) (template_text (cut_template k t))
agree_template zero t = refl
agree_template (suc k) t = agree_one k 40 (items_text t) (items_text (cut k t)) (agree_items k t)

-- ---- the whole

-- Reading gives the template that the bytes spell, or where the grammar stops.
pub template_says : (bytes : List ℕ) → Says template_text Fits bytes (template_of bytes)
template_says bytes = by (template_of bytes) (whole_says template_text (TemplateIn (length bytes)) (template_at (length bytes)) (Good-template (length bytes)).scans bytes)
  where
    by : (r : Result Items ℕ) → Says template_text (TemplateIn (length bytes)) bytes r → Says template_text Fits bytes r
    by (Ok t) (fits, is) = (fits_of (length bytes) t fits, is)
    by (Err n) f = record {
      none = λ (t, (fits, is)). let short = ap length is in f.none (t, (in_of (length bytes) t fits (omega (arith, short)), is));
      within = f.within;
      begins = let (t, rest, fits, is) = f.begins in (t, rest, fits_of (length bytes) t fits, is);
      longest = λ m more within (t, rest, fits, is).
          let short : Agree m (template_text t) (template_text (cut_template m t)) = agree_template m t in
          f.longest m more within (deeper m within (cut_template m t) (cut_in m t fits) (front m within t rest is (template_text (cut_template m t)) short));
    }
      where
        -- the cut text begins with the same bytes
        front : (m : ℕ) → m ≤ length bytes → (t : Items) (rest : List ℕ) → template_text t ≡ take m bytes ++ rest → (u : List ℕ) → Agree m (template_text t) u → u ≡ take m bytes ++ drop m u
        front m within t rest is u same =
            let long : length (take m bytes) ≡ m = take_long m bytes within in
            let head : take m u ≡ take m bytes = sym same ∙ ap (take m) is ∙ take_at (take m bytes) rest m long in
            sym (take-append-drop m u) ∙ ap (λ l. l ++ drop m u) head
          where
            take_long : (m : ℕ) (l : List ℕ) → m ≤ length l → length (take m l) ≡ m
            take_long zero l within = refl
            take_long (suc m) [] within = absurd (omega (arith, within))
            take_long (suc m) (x ∷ l) within = ap suc (take_long m l (omega (arith, within)))

        deeper : (m : ℕ) → m ≤ length bytes → (t : Items) → TemplateIn m t → template_text t ≡ take m bytes ++ drop m (template_text t) → (v : Items) × (rest : List ℕ) × TemplateIn (length bytes) v × (template_text v ≡ take m bytes ++ rest)
        deeper m within t fits is = (t, drop m (template_text t), raise m (length bytes) t within fits, is)

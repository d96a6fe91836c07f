-- The hits that a cache counts are those of its calls.
use Rattle.std.proofs.Common.{◌≡◌, ◌⊎◌, inl, inr, ◌<◌, refl, ap, sym, ◌∙◌, ℕ, zero, suc, ◌+◌, ◌-◌, List, [], ◌∷◌, take, map, length, Bool, true, false, ◌&&◌, ◌||◌, cond, Option, Some, None, arith, min, eqb-true}
use Rattle.std.specs.Prelude.{is_some, if◌then◌else◌, MatchBool, nat_eq}
use Rattle.std.specs.List.{list_any}
use Rattle.std.specs.Set.{remove_key}
use Rattle.std.specs.Map.{lookup, lookup_entry, remove_entry}
use Rattle.std.specs.Cmp.Lexicographic.{pointwise, same_text}
use Rattle.lru.specs.LruCache.{promoted}
use Rattle.lru.proofs.CallerLemmas.{Contains-lookup_entry}
use Rattle.gd_cache.specs.declared.key.ReplyKey.{ReplyKey}
use Rattle.gd_cache.specs.declared.key.Kept.{Kept}
use Rattle.gd_cache.specs.Hits.{Call, same_key, fits, is_in, keys_after, hit, hits_from, hits_of}
use Rattle.gd_cache.specs.Shown.{Shown, one_more, keys, empty, has, found, put, put_refused, Counts, CountsAll, call_of}

-- the greatest count
abbrev most_hits : ℕ
most_hits = 18_446_744_073_709_551_615

both_true : (a b : Bool) → (a && b) ≡ true → (a ≡ true) × (b ≡ true)
both_true true b is = (refl, is)
both_true false b is = cc

-- keys that are the same are one
pub one_key : (a b : ReplyKey) → same_key a b ≡ true → a ≡ b
one_key a b is =
    let (texts, datelines) = both_true (pointwise nat_eq a.text b.text) (nat_eq a.dateline b.dateline) is in
    let text = same_text a.text b.text (sym texts) in
    let dateline = eqb-true a.dateline b.dateline datelines in
    ap (λ t. record { text = t; dateline = a.dateline }) text ∙ ap (λ n. record { text = b.text; dateline = n }) dateline

module _ (test : ReplyKey → Bool) where
  -- a key is in where it is among the keys
  has_key : (es : List (ReplyKey × Kept)) → is_some (lookup test es) ≡ list_any test (map (λ p. p.0) es)
  has_key [] = refl
  has_key (e ∷ es) = by (test e.0) (has_key es)
    where
      by : (b : Bool) → is_some (lookup test es) ≡ list_any test (map (λ p. p.0) es) → is_some (cond b (Some e.1) (lookup test es)) ≡ (b || list_any test (map (λ p. p.0) es))
      by true ih = refl
      by false ih = ih

  -- what is found of a key is found of its entry
  has_entry : (es : List (ReplyKey × Kept)) → is_some (lookup test es) ≡ is_some (lookup_entry test es)
  has_entry [] = refl
  has_entry (e ∷ es) = by (test e.0) (has_entry es)
    where
      by : (b : Bool) → is_some (lookup test es) ≡ is_some (lookup_entry test es) → is_some (cond b (Some e.1) (lookup test es)) ≡ is_some (cond b (Some e) (lookup_entry test es))
      by true ih = refl
      by false ih = ih

  keys_removed : (es : List (ReplyKey × Kept)) → map (λ p. p.0) (remove_entry test es) ≡ remove_key test (map (λ p. p.0) es)
  keys_removed [] = refl
  keys_removed (e ∷ es) = by (test e.0) (keys_removed es)
    where
      by : (b : Bool) → map (λ p. p.0) (remove_entry test es) ≡ remove_key test (map (λ p. p.0) es)
          → map (λ p. p.0) (cond b es (e ∷ remove_entry test es)) ≡ cond b (map (λ p. p.0) es) (e.0 ∷ remove_key test (map (λ p. p.0) es))
      by true ih = refl
      by false ih = ap (λ l. e.0 ∷ l) ih

-- the keys when one is brought to the front
abbrev to_front : ReplyKey → List ReplyKey → List ReplyKey
to_front key ks = if is_in key ks then key ∷ remove_key (same_key key) ks else ks

keys_promoted : (key : ReplyKey) (es : List (ReplyKey × Kept)) → map (λ p. p.0) (promoted (same_key key) es) ≡ to_front key (map (λ p. p.0) es)
keys_promoted key es = by (lookup_entry test es) refl
  where
    test : ReplyKey → Bool
    test = same_key key

    among : (o : Option (ReplyKey × Kept)) → lookup_entry (same_key key) es ≡ o → is_some o ≡ is_in key (map (λ p. p.0) es)
    among o is = ap is_some (sym is) ∙ sym (has_entry (same_key key) es) ∙ has_key (same_key key) es

    by : (o : Option (ReplyKey × Kept)) → lookup_entry (same_key key) es ≡ o → map (λ p. p.0) (promoted (same_key key) es) ≡ to_front key (map (λ p. p.0) es)
    by None is = rw is (ap (λ b. if b then key ∷ remove_key (same_key key) (map (λ p. p.0) es) else map (λ p. p.0) es) (among None is))
    by (Some e) is =
        let (within, same) = Contains-lookup_entry (same_key key) es e is in
        rw is (ap (λ k. k ∷ map (λ p. p.0) (remove_entry (same_key key) es)) (sym (one_key key e.0 same)) ∙ ap (λ l. key ∷ l) (keys_removed (same_key key) es)
        ∙ ap (λ b. if b then key ∷ remove_key (same_key key) (map (λ p. p.0) es) else map (λ p. p.0) es) (among (Some e) is))

keys_taken : (n : ℕ) (es : List (ReplyKey × Kept)) → map (λ p. p.0) (take n es) ≡ take n (map (λ p. p.0) es)
keys_taken zero es = refl
keys_taken (suc n) [] = refl
keys_taken (suc n) (e ∷ es) = ap (λ l. e.0 ∷ l) (keys_taken n es)

-- a key that is not in goes in front of the others
put_in_front : (most : ℕ) (key : ReplyKey) (ks : List ReplyKey) → 0 < most → take most (key ∷ ks) ≡ key ∷ take (most - 1) ks
put_in_front zero key ks some = absurd (omega (arith, some))
put_in_front (suc n) key ks some = ap (λ m. key ∷ take m ks) (omega arith)

-- what a call makes of the keys, of their greatest number and of the hits, where nothing is refused
record Goes (s : Shown) (c : Call) (now : Shown) : Type 0 where
  keys_are : keys now ≡ keys_after s.most (keys s) c
  most : now.most ≡ s.most
  hits : now.hits ≡ (if is_in c.key (keys s) then one_more s.hits else s.hits)

goes : (s : Shown) (key : ReplyKey) (kept : Kept) (now : Shown) → 0 < s.most → Counts s (key, kept) now → now.refused ≡ 0 → Goes s (call_of (key, kept)) now
goes s key kept now some counts none = by (has s key) refl counts
  where
    c : Call
    c = record { key = key; outcome = length kept.outcome }

    inside : has s key ≡ is_in key (keys s)
    inside = has_key (same_key key) s.pairs

    found_keys : keys (found s key) ≡ to_front key (keys s)
    found_keys = keys_promoted key s.pairs

    hits_are : (if has s key then one_more s.hits else s.hits) ≡ (if is_in key (keys s) then one_more s.hits else s.hits)
    hits_are = ap (λ b. if b then one_more s.hits else s.hits) inside

    by_fit : has s key ≡ false → (b : Bool) → fits key (length kept.outcome) ≡ b → MatchBool b ((now ≡ put (found s key) key kept) ⊎ (now ≡ put_refused (found s key))) (now ≡ found s key) → Goes s (record { key = key; outcome = length kept.outcome }) now
    by_fit out true fit (inl is) =
        let absent : is_in key (keys s) ≡ false = sym inside ∙ out in
        let same : keys (found s key) ≡ keys s = found_keys ∙ ap (λ b. if b then key ∷ remove_key (same_key key) (keys s) else keys s) absent in
        record {
          keys_are = ap keys is ∙ ap (λ l. key ∷ l) (keys_taken (s.most - 1) (found s key).pairs ∙ ap (take (s.most - 1)) same) ∙ sym (put_in_front s.most key (keys s) some)
              ∙ ap (λ b. if b then take s.most (key ∷ keys s) else keys s) (sym fit) ∙ ap (λ b. if b then key ∷ remove_key (same_key key) (keys s) else (if fits key (length kept.outcome) then take s.most (key ∷ keys s) else keys s)) (sym absent);
          most = ap (λ t. t.most) is;
          hits = ap (λ t. t.hits) is ∙ hits_are;
        }
    by_fit out true fit (inr is) = let one : now.refused ≡ one_more s.refused = ap (λ t. t.refused) is in absurd (omega (arith, one, none))
    by_fit out false fit is =
        let absent : is_in key (keys s) ≡ false = sym inside ∙ out in
        record {
          keys_are = ap keys is ∙ found_keys ∙ ap (λ b. if b then key ∷ remove_key (same_key key) (keys s) else keys s) absent
              ∙ ap (λ b. if b then take s.most (key ∷ keys s) else keys s) (sym fit) ∙ ap (λ b. if b then key ∷ remove_key (same_key key) (keys s) else (if fits key (length kept.outcome) then take s.most (key ∷ keys s) else keys s)) (sym absent);
          most = ap (λ t. t.most) is;
          hits = ap (λ t. t.hits) is ∙ hits_are;
        }

    by : (b : Bool) → has s key ≡ b → MatchBool b (now ≡ found s key) (MatchBool (fits key (length kept.outcome)) ((now ≡ put (found s key) key kept) ⊎ (now ≡ put_refused (found s key))) (now ≡ found s key))
        → Goes s (record { key = key; outcome = length kept.outcome }) now
    by true there is =
        let among : is_in key (keys s) ≡ true = sym inside ∙ there in
        record {
          keys_are = ap keys is ∙ found_keys ∙ ap (λ b. if b then key ∷ remove_key (same_key key) (keys s) else keys s) among
              ∙ ap (λ b. if b then key ∷ remove_key (same_key key) (keys s) else (if fits key (length kept.outcome) then take s.most (key ∷ keys s) else keys s)) (sym among);
          most = ap (λ t. t.most) is;
          hits = ap (λ t. t.hits) is ∙ hits_are;
        }
    by false out rest = by_fit out (fits key (length kept.outcome)) refl rest

-- refused puts do not fall
later : (s : Shown) (read : ReplyKey × Kept) (now : Shown) → Counts s read now → now.refused ≡ 0 → s.refused ≡ 0
later s (key, kept) now counts none = by (has s key) counts
  where
    by_fit : (b : Bool) → MatchBool b ((now ≡ put (found s key) key kept) ⊎ (now ≡ put_refused (found s key))) (now ≡ found s key) → s.refused ≡ 0
    by_fit true (inl is) = sym (ap (λ t. t.refused) is) ∙ none
    by_fit true (inr is) = let one : now.refused ≡ one_more s.refused = ap (λ t. t.refused) is in absurd (omega (arith, one, none))
    by_fit false is = sym (ap (λ t. t.refused) is) ∙ none

    by : (b : Bool) → MatchBool b (now ≡ found s key) (MatchBool (fits key (length kept.outcome)) ((now ≡ put (found s key) key kept) ⊎ (now ≡ put_refused (found s key))) (now ≡ found s key)) → s.refused ≡ 0
    by true is = sym (ap (λ t. t.refused) is) ∙ none
    by false rest = by_fit (fits key (length kept.outcome)) rest

pub all_later : (reads : List (ReplyKey × Kept)) (s now : Shown) → CountsAll s reads now → now.refused ≡ 0 → s.refused ≡ 0
all_later [] s now is none = sym (ap (λ t. t.refused) is) ∙ none
all_later (read ∷ reads) s now (next, one, rest) none = later s read next one (all_later reads next now rest none)

one_hit : (b : Bool) (h n : ℕ) → n ≡ min h most_hits → (if b then one_more n else n) ≡ min (h + (if b then 1 else 0)) most_hits
one_hit true h n is = omega (arith, is)
one_hit false h n is = omega (arith, is)

hits_counted : (reads : List (ReplyKey × Kept)) (s now : Shown) (h : ℕ) → 0 < s.most → CountsAll s reads now → now.refused ≡ 0 → s.hits ≡ min h most_hits
    → now.hits ≡ min (h + hits_from s.most (keys s) (map call_of reads)) most_hits
hits_counted [] s now h some is none hits = ap (λ t. t.hits) is ∙ hits ∙ omega arith
hits_counted ((key, kept) ∷ reads) s now h some (next, one, rest) none hits =
    let c = call_of (key, kept) in
    let g = goes s key kept next some one (all_later reads next now rest none) in
    let more : 0 < next.most = omega (arith, some, g.most) in
    let here : next.hits ≡ min (h + hit (keys s) c) most_hits = g.hits ∙ one_hit (is_in key (keys s)) h s.hits hits in
    let ih = hits_counted reads next now (h + hit (keys s) c) more rest none here in
    ih ∙ ap (λ n. min ((h + hit (keys s) c) + n) most_hits) (ap (λ m. hits_from m (keys next) (map call_of reads)) g.most ∙ ap (λ ks. hits_from s.most ks (map call_of reads)) g.keys_are) ∙ ap (λ n. min n most_hits) (omega arith)

-- Where no put was refused, the hits that a cache counts are those of the calls that the reads were.
pub hits_are_those : (most : ℕ) (reads : List (ReplyKey × Kept)) (now : Shown) → 0 < most → CountsAll (empty most) reads now → now.refused ≡ 0 → now.hits ≡ min (hits_of (map call_of reads) most) most_hits
hits_are_those most reads now some counts none = hits_counted reads (empty most) now 0 some counts none (omega arith) ∙ ap (λ n. min n most_hits) (omega arith)

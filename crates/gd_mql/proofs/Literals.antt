-- Values that are texts or lists of texts.
use Rattle.std.proofs.Common.{◌≡◌, ◌<◌, ◌+◌, ℕ, List, [], ◌∷◌, drop, length, get_or, Bool, true, false, ◌&&◌, ◌||◌, Option, Some, None, is_some, Result, Ok, Err, refl, sym, ap, ◌∙◌}
use Rattle.std.specs.Prelude.{option_map, option_and_then, if◌then◌else◌, codes, bytes_eq}
use Rattle.std.specs.Option.{option_map_or, ok_or}
use Rattle.std.specs.Result.{result_ok, result_err, is_ok}
use Rattle.std.proofs.lemmas.Slice.Eq.{bytes_eq-Decides}
use Rattle.gd_grammar.proofs.Steps.{some_same}
use Rattle.gd_tree.specs.Json as tree
use Rattle.gd_tree.specs.Json.{Items, item, no_items}
use Rattle.gd_tree.specs.Look.{text_of}
use Rattle.gd_json.specs.View.{view, items_view}
use Rattle.gd_json.specs.declared.value.Json.{Json}
use Rattle.gd_json.proofs.Parts.{left_at}
use Rattle.gd_grammar.specs.Chain.{◌>>=◌}
use Rattle.gd_defs.specs.Moment.{moment_of}
use Rattle.gd_defs.specs.Query as query
use Rattle.gd_defs.specs.Query.{SortWord, Mode, Fault, Clause, no_directives, bad_directive, or_fault, with_directive, is_directive, mode_of, limit_of, sort_of, is_count}
use Rattle.gd_defs.specs.Query.Directive.{sort_word, sort_words}
use Rattle.gd_defs.specs.Query.Operands.{is_moment_text}
use Rattle.gd_mql.specs.Directives.{directive_fits, word_name, word_named}
use Rattle.gd_mql.specs.declared.directive.DirectiveWord.{DirectiveWord}
use Rattle.gd_mql.specs.declared.directive.DirectiveWord.TheVariants as directive

-- a value that is a text of a moment, by its text
pub moment_text-told : (j : tree.Json) (o : Option (List ℕ)) → o ≡ text_of j → is_moment_text j ≡ option_map_or (λ t. is_some (moment_of t)) o false
moment_text-told tree.null o is = sym (ap (λ o. option_map_or (λ t. is_some (moment_of t)) o false) is)
moment_text-told (tree.boolean b) o is = sym (ap (λ o. option_map_or (λ t. is_some (moment_of t)) o false) is)
moment_text-told (tree.number n) o is = sym (ap (λ o. option_map_or (λ t. is_some (moment_of t)) o false) is)
moment_text-told (tree.text t) o is = sym (ap (λ o. option_map_or (λ t. is_some (moment_of t)) o false) is)
moment_text-told (tree.list js) o is = sym (ap (λ o. option_map_or (λ t. is_some (moment_of t)) o false) is)
moment_text-told (tree.object ms) o is = sym (ap (λ o. option_map_or (λ t. is_some (moment_of t)) o false) is)

-- a call succeeds where what it gives is there
pub ok-some : {A B E : Type 0} (r : Result A E) (o : Option B) (f : B → A) → result_ok r ≡ option_map f o → is_ok r ≡ is_some o
ok-some (Ok x) (Some y) f is = refl
ok-some (Ok x) None f is = cc
ok-some (Err e) (Some y) f is = cc
ok-some (Err e) None f is = refl

-- ---- sort words

abbrev is_sort_word : tree.Json → Bool
is_sort_word j = option_map_or (λ t. is_some (sort_word t)) (text_of j) false

sorted-both : (o : Option SortWord) (ws : Option (List SortWord)) → is_some (option_and_then (λ w. option_map (λ ws. w ∷ ws) ws) o) ≡ (is_some o && is_some ws)
sorted-both (Some w) (Some ws) = refl
sorted-both (Some w) None = refl
sorted-both None ws = refl

sort_words-first : (j : tree.Json) (js : Items) → is_some (sort_words (item j js)) ≡ (is_sort_word j && is_some (sort_words js))
sort_words-first tree.null js = refl
sort_words-first (tree.boolean b) js = refl
sort_words-first (tree.number n) js = refl
sort_words-first (tree.text t) js = sorted-both (sort_word t) (sort_words js)
sort_words-first (tree.list is) js = refl
sort_words-first (tree.object ms) js = refl

-- the sort words from an index on, of which the first is one or not
pub sort_words-drop : (js : List Json) (i : ℕ) (j : Json) (b : Bool) → i < length js → j ≡ get_or js i j → b ≡ is_sort_word (view j)
    → is_some (sort_words (items_view (drop i js))) ≡ (b && is_some (sort_words (items_view (drop (i + 1) js))))
sort_words-drop js i j b within is test =
    ap (λ xs. is_some (sort_words (items_view xs))) (left_at js i j within is) ∙ sort_words-first (view j) (items_view (drop (i + 1) js))
    ∙ ap (λ t. t && is_some (sort_words (items_view (drop (i + 1) js)))) (sym test)

-- ---- directives

told : {A : Type 0} (o : Option A) (e : Fault) (f : A → Clause) → result_err (ok_or o e >>= λ x. Ok (f x)) ≡ (if is_some o then None else Some e)
told (Some x) e f = refl
told None e f = refl

counts : (b : Bool) (x : Clause) (e : Fault) → result_err {T = Clause} (if b then Ok x else Err e) ≡ (if b then None else Some e)
counts true x e = refl
counts false x e = refl

-- the fault of a directive alone
pub directive-told : (root : Bool) (w : DirectiveWord) (j : tree.Json)
    → result_err (with_directive root (word_name w) j (Ok (no_directives, query.no_members))) ≡ (if directive_fits root w j then None else Some (record { code = bad_directive; path = word_name w ∷ [] }))
directive-told root directive.Optional j = told (if root then None else mode_of j) _ _
directive-told root directive.Sort j = told (sort_of j) _ _
directive-told root directive.Limit j = told (limit_of j) _ _
directive-told root directive.Return j = counts (root && is_count j) _ _

-- ---- names of directives

-- a name is that of a directive, or of none
some_word : (o s l r : Bool) → is_some (if o then Some directive.Optional else if s then Some directive.Sort else if l then Some directive.Limit else if r then Some directive.Return else None) ≡ (o || (s || (l || (r || false))))
some_word true s l r = refl
some_word false true l r = refl
some_word false false true r = refl
some_word false false false true = refl
some_word false false false false = refl

pub word-named : (k : List ℕ) → is_some (word_named k) ≡ is_directive k
word-named k = some_word (bytes_eq k (codes "optional")) (bytes_eq k (codes "sort")) (bytes_eq k (codes "limit")) (bytes_eq k (codes "return"))

-- the directive of a name has that name
named_word : (k : List ℕ) (w : DirectiveWord) (rest : Option DirectiveWord) (u : DirectiveWord) → Some w ≡ (if bytes_eq k (word_name u) then Some u else rest) → (Some w ≡ rest → k ≡ word_name w) → k ≡ word_name w
named_word k w rest u there others = by (bytes_eq k (word_name u)) refl there
  where
    by : (b : Bool) → bytes_eq k (word_name u) ≡ b → Some w ≡ (if b then Some u else rest) → k ≡ word_name w
    by true is there = (bytes_eq-Decides k (word_name u)).0 is ∙ ap word_name (sym (some_same w u there))
    by false is there = others there

pub word-name : (k : List ℕ) (w : DirectiveWord) → Some w ≡ word_named k → k ≡ word_name w
word-name k w there = named_word k w _ directive.Optional there (λ there. named_word k w _ directive.Sort there (λ there. named_word k w _ directive.Limit there (λ there. named_word k w _ directive.Return there (λ bad. cc))))

pub word-directive : (w : DirectiveWord) → is_directive (word_name w) ≡ true
word-directive directive.Optional = refl
word-directive directive.Sort = refl
word-directive directive.Limit = refl
word-directive directive.Return = refl

pub word-none : (k : List ℕ) → None ≡ word_named k → false ≡ is_directive k
word-none k none = ap is_some none ∙ word-named k

use Rattle.std.proofs.Common.{rules, ◌≡◌, ◌∙◌, ap, subst, sym, ℕ, List, true, map, codes, Some, IfSome}
use Rattle.std.specs.Prelude.{All, is_some}
use Rattle.std.proofs.lemmas.List.Elements.{All-map}
use Rattle.gd_words.specs.Options.{options_of, value_of}
use Rattle.gd_words.specs.Words.{place_options}
use Rattle.gd_words.proofs.Short.{IsShort, short_value, seen, there}
use Rattle.gd_words.proofs.reader.place.Goals as goal

pub file_of-requires : goal.file_of-requires
file_of-requires c =
    let words : List (List ℕ) = map (λ w. w.now) c.args.words.now in
    let some : is_some (options_of place_options words) ≡ true = search rules in
    let given = there (options_of place_options words) some in
    let short : All IsShort words = All-map IsShort (λ w. w.now) c.args.words.now c.requires in
    let value : IfSome (value_of (codes "file") given.0) IsShort = short_value place_options (codes "file") words given.0 given.1 short in
    let e : options_of (map (λ n. n.now) c.place_names-names.result) words ≡ Some given.0 = ap (λ ns. options_of ns words) c.place_names-names.ensures ∙ given.1 in
    let values = rw c.in-Some.is at c.in_ok-values.ensures.values in
    seen (λ t. t.now) IsShort c.in-Some.values.file (subst (λ o. IfSome o IsShort) (sym (values given.0 e).0) value)

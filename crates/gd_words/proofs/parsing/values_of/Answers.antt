use Rattle.std.proofs.Common.{rules, ◌≡◌, ◌∙◌, ap, true, ℕ, List, map, codes}
use Rattle.std.specs.Prelude.{is_some}
use Rattle.std.specs.List.{list_all}
use Rattle.clap.specs.Words.{app_of, is_simple, first_of, matches_of, found_of, rows_of, takes}
use Rattle.clap.proofs.WalkLemmas.{first_value-rows}
use Rattle.gd_words.specs.Options.{Names, is_name, options_of, value_of}
use Rattle.gd_words.specs.Parser.{parser_options, parser as parser_app}
use Rattle.gd_words.proofs.Steps.{simple}
use Rattle.gd_words.proofs.Walks.{reads}
use Rattle.gd_words.proofs.Short.{there}
use Rattle.gd_words.proofs.parsing.values_of.Goals as goal

pub returns-in-Ok-clause-values : goal.returns-in-Ok-clause-values
returns-in-Ok-clause-values c = λ given e.
    let names : Names = map (λ n. n.now) c.args.names.now in
    let known : list_all (is_name parser_options) names ≡ true = search rules in
    let words : List (List ℕ) = map (λ w. w.now) c.args.words.now in
    let here : app_of c.in_ok-parser.field-0 ≡ parser_app = c.in_ok-parser.ensures in
    let m = c.in-Ok.matches in
    let rows : rows_of (found_of m) ≡ matches_of parser_app words =
    (c.in-Ok.ensures.matches (ap is_simple here ∙ simple)).0 ∙ ap (λ a. matches_of a words) here in
    let value : (name : List ℕ) → first_of name (rows_of (found_of m)) ≡ value_of name given =
    λ name. ap (first_of name) rows ∙ (reads names words given known e).gives name in (
      c.get_str.ensures ∙ first_value-rows (found_of m) (codes "file") ∙ value (codes "file"),
      c.get_str-in-Ok.ensures ∙ first_value-rows (found_of m) (codes "workers") ∙ value (codes "workers"),
      c.get_str-in-Ok-2.ensures ∙ first_value-rows (found_of m) (codes "budget") ∙ value (codes "budget"),
      c.get_str-in-Ok-3.ensures ∙ first_value-rows (found_of m) (codes "from") ∙ value (codes "from"),
      c.get_str-in-Ok-4.ensures ∙ first_value-rows (found_of m) (codes "number") ∙ value (codes "number"),
      c.get_str-in-Ok-5.ensures ∙ first_value-rows (found_of m) (codes "count") ∙ value (codes "count"),
      c.get_str-in-Ok-6.ensures ∙ first_value-rows (found_of m) (codes "cache") ∙ value (codes "cache"),
    )

pub unreachable-requires : goal.unreachable-requires
unreachable-requires c =
    let names : Names = map (λ n. n.now) c.args.names.now in
    let words : List (List ℕ) = map (λ w. w.now) c.args.words.now in
    let known : list_all (is_name parser_options) names ≡ true = search rules in
    let some : is_some (options_of names words) ≡ true = search rules in
    let given = there (options_of names words) some in
    let here : app_of c.in_ok-parser.field-0 ≡ parser_app = c.in_ok-parser.ensures in
    let taken = ap (λ a. takes a words) here ∙ (reads names words given.0 known given.1).takes_them in
    c.in_default.not-OutOfMemory (c.kind.ensures ∙ c.in-Err.ensures.passes taken)

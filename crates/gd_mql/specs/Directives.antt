-- Directives as the definitions have them.
use Rattle.std.specs.Prelude.{ℕ, List, Bool, ◌&&◌, is_some, option_map, Option, Some, None, if◌then◌else◌, codes, bytes_eq}
use Rattle.gd_tree.specs.Json.{Json}
use Rattle.gd_defs.specs.Query.Directive.{mode_of, limit_of, sort_of, is_count}
use Rattle.gd_defs.specs.Query as query
use Rattle.gd_mql.specs.declared.directive.Mode.{Mode}
use Rattle.gd_mql.specs.declared.directive.Mode.TheVariants as mode
use Rattle.gd_mql.specs.declared.directive.DirectiveWord.{DirectiveWord}
use Rattle.gd_mql.specs.declared.directive.DirectiveWord.TheVariants as directive
use Rattle.gd_mql.specs.declared.directive.SortWord.{SortWord}
use Rattle.gd_mql.specs.declared.directive.Directives.{Directives}

-- the mode that this is
abbrev pub mode_view : Mode → query.Mode
mode_view mode.Required = query.required
mode_view mode.Optional = query.optional
mode_view mode.Forbidden = query.forbidden

-- the sort word that this is
abbrev pub sort_word_view : SortWord → query.SortWord
sort_word_view w = record { descending = w.descending; word = w.word.now }

-- the name of a directive
abbrev pub word_name : DirectiveWord → List ℕ
word_name directive.Optional = codes "optional"
word_name directive.Sort = codes "sort"
word_name directive.Limit = codes "limit"
word_name directive.Return = codes "return"

-- the directive of this name
abbrev pub word_named : List ℕ → Option DirectiveWord
word_named k = if is directive.Optional then Some directive.Optional else if is directive.Sort then Some directive.Sort else if is directive.Limit then Some directive.Limit
    else if is directive.Return then Some directive.Return else None
  where
    is : DirectiveWord → Bool
    is w = bytes_eq k (word_name w)

-- the directive may have the value, at the root or elsewhere
abbrev pub directive_fits : Bool → DirectiveWord → Json → Bool
directive_fits root directive.Optional j = is_some (if root then None else mode_of j)
directive_fits root directive.Sort j = is_some (sort_of j)
directive_fits root directive.Limit j = is_some (limit_of j)
directive_fits root directive.Return j = root && is_count j

-- the directives that these are
abbrev pub directives_view : Directives → query.Directives
directives_view d = record { mode = option_map mode_view d.mode; limit = d.limit; count = d.count }

-- The parser of the options, as clap's model has it.
use Rattle.std.specs.Prelude.{[], ◌∷◌, Some, true, codes}
use Rattle.clap.specs.Words.{App, Rule, Text, new_app, new_rule, with_rule}
use Rattle.gd_words.specs.Options.{Names}

-- an option with a long name, which is its id too
abbrev pub long_rule : Text → Rule
long_rule name = record (new_rule name) { long = Some name }

-- a command without options, help and version
abbrev pub bare : App
bare = record {
  top = record (new_app (codes "serve")).top { no_binary_name = true; disable_help_flag = true; disable_version_flag = true };
  subs = [];
}

-- the options that the parser knows: those of all verbs
abbrev pub parser_options : Names
parser_options = codes "file" ∷ codes "workers" ∷ codes "budget" ∷ codes "cache" ∷ codes "from" ∷ codes "number" ∷ codes "count" ∷ []

-- with the options of `serve`
abbrev pub serving : App
serving = with_rule (with_rule (with_rule (with_rule bare (long_rule (codes "file"))) (long_rule (codes "workers"))) (long_rule (codes "budget"))) (long_rule (codes "cache"))

-- with those of `gen`
abbrev pub generating : App → App
generating app = with_rule (with_rule app (long_rule (codes "number"))) (long_rule (codes "count"))

-- the parser of the options, whatever the verb
abbrev pub parser : App
parser = generating (with_rule serving (long_rule (codes "from")))

-- The grammar of the command line: which command words give.
use Rattle.std.specs.Prelude.{ℕ, List, [], ◌∷◌, Bool, ◌&&◌, Option, Some, None, option_and_then, option_map, if◌then◌else◌, nat_le, length, codes, bytes_eq}
use Rattle.std.specs.Option.{option_map_or}
use Rattle.std.specs.List.{list_all}
use Rattle.std.specs.Char.{is_ascii_digit}
use Rattle.std.specs.Str.Parse.{digits_value}
use Rattle.gd_words.specs.declared.verbs.Command.{Command}
use Rattle.gd_words.specs.declared.verbs.Command.TheVariants as command
use Rattle.gd_words.specs.declared.verbs.Serve.{Serve}
use Rattle.gd_words.specs.declared.verbs.Place.{Place}
use Rattle.gd_words.specs.declared.verbs.Dump.{Dump}
use Rattle.gd_words.specs.declared.verbs.Generate.{Generate}
use Rattle.gd_words.specs.Options.{Names, Setting, value_of, options_of}

-- 1 to 10 digits, without a sign
abbrev pub is_number : List ℕ → Bool
is_number text = nat_le 1 (length text) && (nat_le (length text) 10 && list_all is_ascii_digit text)

-- the number that the digits are, where it is in the range
abbrev pub number_of : ℕ → ℕ → List ℕ → Option ℕ
number_of low high text = if is_number text && (nat_le low (digits_value 10 text) && nat_le (digits_value 10 text) high)
    then Some (digits_value 10 text) else None

-- the number that a value gives, or the default where there is no value
abbrev pub number_or : ℕ → ℕ → ℕ → Option (List ℕ) → Option ℕ
number_or default low high value = option_map_or (number_of low high) value (Some default)

-- the number that a value gives, or no number where there is no value
abbrev pub number_if : ℕ → ℕ → Option (List ℕ) → Option (Option ℕ)
number_if low high value = option_map_or (λ text. option_map (λ number. Some number) (number_of low high text)) value (Some None)

-- the options of `serve`
abbrev pub serve_options : Names
serve_options = codes "file" ∷ codes "workers" ∷ codes "budget" ∷ codes "cache" ∷ []

-- `serve` with these settings: 1 to 16 workers, else 4, a budget of 1 to 1,000,000, else 10,000, and 1 to 64 replies that each session keeps, else none
abbrev pub serve_of : List Setting → Option Serve
serve_of given = option_and_then (λ workers. option_and_then (λ budget. option_map (λ cache. record {
  file = value_of (codes "file") given;
  workers = workers;
  budget = budget;
  cache = cache;
}) (number_if 1 64 (value_of (codes "cache") given))) (number_or 10000 1 1000000 (value_of (codes "budget") given))) (number_or 4 1 16 (value_of (codes "workers") given))

-- the options of a verb that asks for the place of its store alone
abbrev pub place_options : Names
place_options = codes "file" ∷ []

-- the place with these settings
abbrev pub place_of : List Setting → Place
place_of given = record { file = value_of (codes "file") given }

-- the place that words spell
abbrev pub place_in : List (List ℕ) → Option Place
place_in words = option_map place_of (options_of place_options words)

-- the options of `dump`
abbrev pub dump_options : Names
dump_options = codes "file" ∷ codes "from" ∷ []

-- `dump` with these settings: from a batch of 0 to 4,194,303 on, else from 0
abbrev pub dump_of : List Setting → Option Dump
dump_of given = option_map (λ from. record {
  file = value_of (codes "file") given;
  from = from;
}) (number_or 0 0 4194303 (value_of (codes "from") given))

-- the options of `gen`
abbrev pub generate_options : Names
generate_options = codes "number" ∷ codes "count" ∷ []

-- `gen` with these settings: by a number of 32 bits, else 0, and for 1 to 200,000 nodes, else 1,000
abbrev pub generate_of : List Setting → Option Generate
generate_of given = option_and_then (λ number. option_map (λ count. record {
  number = number;
  count = count;
}) (number_or 1000 1 200000 (value_of (codes "count") given))) (number_or 0 0 4294967295 (value_of (codes "number") given))

-- the command that words give: a verb, and then its options
unfoldable pub command_of : List (List ℕ) → Option Command
command_of [] = None
command_of (verb ∷ words) = if bytes_eq verb (codes "serve")
    then option_map (λ serve. command.Serve serve) (option_and_then serve_of (options_of serve_options words))
    else (if bytes_eq verb (codes "replay") then option_map (λ place. command.Replay place) (place_in words)
    else (if bytes_eq verb (codes "dump") then option_map (λ dump. command.Dump dump) (option_and_then dump_of (options_of dump_options words))
    else (if bytes_eq verb (codes "restore") then option_map (λ place. command.Restore place) (place_in words)
    else (if bytes_eq verb (codes "follow") then option_map (λ place. command.Follow place) (place_in words)
    else (if bytes_eq verb (codes "templates") then option_map (λ place. command.Templates place) (place_in words)
    else (if bytes_eq verb (codes "gen") then option_map (λ generate. command.Generate generate) (option_and_then generate_of (options_of generate_options words)) else None))))))

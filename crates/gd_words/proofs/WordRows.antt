-- Words that are no command, and words that are one.
use Rattle.std.proofs.Common.{◌≡◌, refl, [], ◌∷◌, Some, None, codes}
use Rattle.gd_words.specs.declared.verbs.Command.TheVariants as command
use Rattle.gd_words.specs.Words.{command_of}
use Rattle.gd_words.specs.Options.{options_of, settings, option_of}

pub no_words : command_of [] ≡ None
unfolding command_of
no_words = refl

pub more_words : command_of (codes "serve" ∷ codes "extra" ∷ []) ≡ None
unfolding command_of options_of settings option_of
more_words = refl

pub too_many_workers : command_of (codes "serve" ∷ codes "--workers" ∷ codes "17" ∷ []) ≡ None
unfolding command_of options_of settings option_of
too_many_workers = refl

pub no_path : command_of (codes "serve" ∷ codes "--file=" ∷ []) ≡ None
unfolding command_of options_of settings option_of
no_path = refl

pub other_verb : command_of (codes "load" ∷ codes "--file" ∷ codes "a" ∷ []) ≡ None
unfolding command_of
other_verb = refl

-- an option that another verb has
pub option_of_serve : command_of (codes "replay" ∷ codes "--budget" ∷ codes "5" ∷ []) ≡ None
unfolding command_of options_of settings option_of
option_of_serve = refl

pub plain : command_of (codes "serve" ∷ []) ≡ Some (command.Serve (record { file = None; workers = 4; budget = 10000; cache = None }))
unfolding command_of options_of settings option_of
plain = refl

pub each_option : command_of (codes "serve" ∷ codes "--workers" ∷ codes "16" ∷ codes "--file=a=b" ∷ codes "--budget=1" ∷ [])
    ≡ Some (command.Serve (record { file = Some (codes "a=b"); workers = 16; budget = 1; cache = None }))
unfolding command_of options_of settings option_of
each_option = refl

pub cached : command_of (codes "serve" ∷ codes "--cache" ∷ codes "64" ∷ []) ≡ Some (command.Serve (record { file = None; workers = 4; budget = 10000; cache = Some 64 }))
unfolding command_of options_of settings option_of
cached = refl

pub cached_nothing : command_of (codes "serve" ∷ codes "--cache" ∷ codes "0" ∷ []) ≡ None
unfolding command_of options_of settings option_of
cached_nothing = refl

pub cached_too_many : command_of (codes "serve" ∷ codes "--cache=65" ∷ []) ≡ None
unfolding command_of options_of settings option_of
cached_too_many = refl

pub replayed : command_of (codes "replay" ∷ []) ≡ Some (command.Replay (record { file = None }))
unfolding command_of options_of settings option_of
replayed = refl

pub replayed_in_file : command_of (codes "replay" ∷ codes "--file" ∷ codes "a" ∷ []) ≡ Some (command.Replay (record { file = Some (codes "a") }))
unfolding command_of options_of settings option_of
replayed_in_file = refl

-- a dump of an unknown batch number, and one from a batch on
pub dumped_behind_all : command_of (codes "dump" ∷ codes "--from" ∷ codes "4194304" ∷ []) ≡ None
unfolding command_of options_of settings option_of
dumped_behind_all = refl

pub dumped : command_of (codes "dump" ∷ codes "--from=7" ∷ codes "--file" ∷ codes "a" ∷ []) ≡ Some (command.Dump (record { file = Some (codes "a"); from = 7 }))
unfolding command_of options_of settings option_of
dumped = refl

pub restored : command_of (codes "restore" ∷ codes "--file=a" ∷ []) ≡ Some (command.Restore (record { file = Some (codes "a") }))
unfolding command_of options_of settings option_of
restored = refl

pub followed : command_of (codes "follow" ∷ []) ≡ Some (command.Follow (record { file = None }))
unfolding command_of options_of settings option_of
followed = refl

pub answered : command_of (codes "templates" ∷ []) ≡ Some (command.Templates (record { file = None }))
unfolding command_of options_of settings option_of
answered = refl

pub generated : command_of (codes "gen" ∷ []) ≡ Some (command.Generate (record { number = 0; count = 1000 }))
unfolding command_of options_of settings option_of
generated = refl

pub generated_by_number : command_of (codes "gen" ∷ codes "--count=200000" ∷ codes "--number" ∷ codes "4294967295" ∷ []) ≡ Some (command.Generate (record { number = 4294967295; count = 200000 }))
unfolding command_of options_of settings option_of
generated_by_number = refl

-- no nodes, too many, a number of more than 32 bits, and a file, which it does not have
pub generated_nothing : command_of (codes "gen" ∷ codes "--count" ∷ codes "0" ∷ []) ≡ None
unfolding command_of options_of settings option_of
generated_nothing = refl

pub generated_too_many : command_of (codes "gen" ∷ codes "--count" ∷ codes "200001" ∷ []) ≡ None
unfolding command_of options_of settings option_of
generated_too_many = refl

pub generated_by_33_bits : command_of (codes "gen" ∷ codes "--number" ∷ codes "4294967296" ∷ []) ≡ None
unfolding command_of options_of settings option_of
generated_by_33_bits = refl

pub generated_in_file : command_of (codes "gen" ∷ codes "--file" ∷ codes "a" ∷ []) ≡ None
unfolding command_of options_of settings option_of
generated_in_file = refl

-- a verb that is none of them
pub no_verb : command_of (codes "generate" ∷ []) ≡ None
unfolding command_of
no_verb = refl

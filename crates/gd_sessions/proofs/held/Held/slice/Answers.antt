use Rattle.gd_sessions.proofs.held.Held.slice.Goals as goal

pub returns-in_err-reply-in-Ok-Unfinished-clause-held : goal.returns-in_err-reply-in-Ok-Unfinished-clause-held
returns-in_err-reply-in-Ok-Unfinished-clause-held g c = c.slice.ensures.still c.args.shown c.requires.held

pub returns-in_ok-reply-in-Ok-Unfinished-clause-held : goal.returns-in_ok-reply-in-Ok-Unfinished-clause-held
returns-in_ok-reply-in-Ok-Unfinished-clause-held g c = c.slice.ensures.still c.args.shown c.requires.held

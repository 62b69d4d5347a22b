-- What is asked one after the other.
use Rattle.std.specs.Prelude.{Result, Ok, Err}
use Rattle.report.specs.declared.Refusal.{Refusal}

-- the refusal of what comes first, or the answer of what comes after it
abbrev pub after : {A B : Type 0} → Result A Refusal → Result B Refusal → Result B Refusal
after (Ok _) next = next
after (Err p) next = Err p

-- what is left: one thing where the call is done, the other where it is refused
abbrev pub when_done : {A B : Type 0} → Result A Refusal → B → B → B
when_done (Ok _) done kept = done
when_done (Err p) done kept = kept

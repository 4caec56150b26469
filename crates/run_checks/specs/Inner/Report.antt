-- What a report gives, by its cases.
use Rattle.std.specs.Prelude.{ℕ, Result, Ok, Err}
use Rattle.run_window.specs.declared.Found.{Found}
use Rattle.run_window.specs.declared.Entry.{Entry}
use Rattle.run_checks.specs.declared.Refusal.{Refusal}

abbrev pub named : ℕ → Entry → Result Found Refusal
named i e = Ok (record { place = i; entry = e })

abbrev pub on_report : {A : Type 0} → Result Found Refusal → (ℕ → Entry → A) → (Refusal → A) → A
on_report (Err x) f g = g x
on_report (Ok found) f g = f found.place found.entry

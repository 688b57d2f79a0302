-- Questions at positions of a history.
use Rattle.std.specs.Prelude.{ℕ, [], ◌∷◌, Some}
use Rattle.command_types.specs.declared.ask.What.TheVariants.{Nets}
use Rattle.command_types.specs.declared.answer.Answer.{Answer}
use Rattle.command_types.specs.Machine.{answer_to}
use Rattle.command_types.specs.History.{History, cut_after, replayed}

-- what A's NETS of the product P is answered at this position
abbrev pub nets_at : History → ℕ → Answer
nets_at h n = answer_to (replayed (cut_after h n)) (record { by = Some (65 ∷ []); what = Nets (80 ∷ []); moment = 0 })

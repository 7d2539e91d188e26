-- What is true where an order was refused. Assumes nothing.
use Rattle.std.specs.Prelude.{⊤}
use Rattle.network.specs.declared.refusal.Refusal.{Refusal}
use Rattle.runs.specs.declared.stop.Stop.{Stop}
use Rattle.runs.specs.declared.stop.Stop.TheVariants as stop

-- it holds of the refusal, where there is one
abbrev pub IfRefused : Stop → (Refusal → Type 0) → Type 0
IfRefused (stop.Refused refusal) P = P refusal
IfRefused (stop.NoMemory error) P = ⊤

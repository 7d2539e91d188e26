-- What is found, and what is not.
use Rattle.std.proofs.Common.{◌≡◌, Some, None, Option}
use Rattle.words.specs.Figures.{Found}

pub found_nothing : {T : Type 0} (r : Option T) (P : T → Type 0) → r ≡ None → ((x : T) → P x → ⊥) → Found r P
found_nothing None P e none = none
found_nothing (Some x) P e none = absurd (cc)

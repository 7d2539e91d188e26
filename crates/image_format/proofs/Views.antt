-- What code reads at an offset, as the checks say it.
use Rattle.std.proofs.Common.{◌≡◌, ℕ, ◌+◌, List, get_or, take, drop}
use Rattle.std.proofs.lemmas.List.{get_or-drop, drop-drop}
use Rattle.network.specs.declared.register.Circuit.{Circuit}
use Rattle.image_format.specs.Image.{at16, at32, size, told}
use Rattle.image_format.proofs.Figures.{at16_drop, at32_drop}
use Rattle.image_format.proofs.Readings.{same_circuit}
use Rattle.image_format.proofs.Steps.{told_name}

module _ (bytes : List ℕ) (names : List (List ℕ)) (circuits : List Circuit) (offset : ℕ) where
  pub size_here : size names circuits (drop offset bytes) ≡ get_or bytes (offset + 2) 0
  size_here = get_or-drop offset bytes 2 0

  pub name_here : told_name bytes names circuits offset ≡ take (get_or bytes (offset + 2) 0) (drop (offset + 3) bytes)
  name_here =
      let a = size_here in
      let b : drop 3 (drop offset bytes) ≡ drop (offset + 3) bytes = drop-drop 3 offset bytes in
      cc

  -- the circuit by its figures, read in the whole list
  pub told_here : told names circuits (drop offset bytes) ≡ record { from = at16 bytes (offset + 2); to = at16 bytes (offset + 4); bandwidth = at32 bytes (offset + 6); cost = at32 bytes (offset + 10) }
  told_here =
      same_circuit (told names circuits (drop offset bytes)) (record { from = at16 bytes (offset + 2); to = at16 bytes (offset + 4); bandwidth = at32 bytes (offset + 6); cost = at32 bytes (offset + 10) }) (at16_drop bytes offset 2) (at16_drop bytes offset 4) (at32_drop bytes offset 6) (at32_drop bytes offset 10)

-- A loop over all circuits of a register: those told so far, the one that comes, and those still to come. Assumes nothing.
use Rattle.std.proofs.Common.{◌≡◌, ◌<◌, List, ◌∷◌, ◌++◌, length, subst, ap, arith}
use Rattle.std.proofs.Math.Seq.{get_or-append_seam}
use Rattle.std.proofs.lemmas.List.{length-append}
use Rattle.network.specs.declared.register.Circuit.{Circuit}
use Rattle.network.specs.Network.{Network, Sound, Proper, circuit, no_circuit}

-- the circuit that comes goes by the number of those told
pub told_within : (n : Network) (told rest : List Circuit) (x : Circuit) → told ++ x ∷ rest ≡ n.circuits → length told < length n.circuits
told_within n told rest x e = omega (arith, ap length e, length-append told (x ∷ rest))

pub told_next : (n : Network) (told rest : List Circuit) (x : Circuit) → told ++ x ∷ rest ≡ n.circuits → circuit n (length told) ≡ x
told_next n told rest x e = rw (← e) (get_or-append_seam told x rest no_circuit)

-- and it is sound
pub told_sound : (n : Network) → Proper n → (told rest : List Circuit) (x : Circuit) → told ++ x ∷ rest ≡ n.circuits → Sound n.places x
told_sound n p told rest x e = subst (Sound n.places) (told_next n told rest x e) (p.each (length told) (told_within n told rest x e))

-- With a figure's byte above 255 a list is neither an image nor refused.
use Rattle.std.proofs.Common.{◌≡◌, ℕ, ◌+◌, ◌%◌, List, [], ◌∷◌, ◌++◌, length, sym, refl, subst, inl, inr, arith}
use Rattle.std.proofs.lemmas.Nat.{mod_below}
use Rattle.network.specs.declared.register.Circuit.{Circuit}
use Rattle.network.specs.Network.{BadEnds, BadFigures}
use Rattle.image_format.specs.Image.{end_bytes, records_bytes, Records, Repeats, Image, told, Fault, Refused}
use Rattle.image_format.proofs.Readings.{Stops, end_stops, fault_stops, same_reading, circuit_no_fault}

abbrev two_names : List (List ℕ)
two_names = (97 ∷ []) ∷ (98 ∷ []) ∷ []

abbrev rest : List ℕ
rest = 67 ∷ 84 ∷ 0 ∷ 0 ∷ 0 ∷ 1 ∷ 0 ∷ 0 ∷ 0 ∷ 256 ∷ 0 ∷ 0 ∷ 0 ∷ 0 ∷ 69 ∷ 78 ∷ 0 ∷ 3 ∷ []

abbrev pub odd : List ℕ
odd = records_bytes two_names [] ++ rest

apart : Repeats (97 ∷ []) ((98 ∷ []) ∷ []) → ⊥
apart (inl e) = let z : ◌≡◌ {A = ℕ} 97 98 = cc in omega arith
apart (inr r) = r

good : Records two_names []
good = record { few_places = omega arith; few_circuits = omega arith; names_fit = ((omega arith, omega arith), ((omega arith, omega arith), tt)); names_differ = (apart, ((λ r. r), tt)); sound = tt }

stops : Stops two_names [] rest
stops = record {
  no_place = λ e name more w a l new. (let z : ◌≡◌ {A = ℕ} 67 80 = cc in omega arith);
  no_circuit = λ c more w s l. (let z : ◌≡◌ {A = ℕ} 256 (c.bandwidth % 256) = cc in omega (arith, mod_below c.bandwidth 256 (omega arith)));
}

ends : BadEnds 2 (told two_names [] rest) → ⊥
ends (inl h) = omega arith
ends (inr (inl h)) = omega arith
ends (inr (inr h)) = omega arith

figures : BadFigures (told two_names [] rest) → ⊥
figures (inl h) = omega arith
figures (inr (inl h)) = omega arith
figures (inr (inr h)) = omega arith

pub odd_no_image : (n : List (List ℕ)) (c : List Circuit) → Image odd n c → ⊥
odd_no_image n c i =
    let s = same_reading two_names n [] c rest (end_bytes (length n + length c)) good i.records stops (end_stops n c (length n + length c)) i.written in
    let r = s.rest in
    let z : ◌≡◌ {A = ℕ} 67 69 = cc in omega arith

pub odd_not_refused : (k o : ℕ) → Refused odd k o → ⊥
odd_not_refused k o f =
    let s = same_reading f.names two_names f.circuits [] f.rest rest f.records good (fault_stops f.names f.circuits f.rest k f.records f.fault) stops (sym f.before) in
    let a : Fault two_names f.circuits f.rest k = subst (λ z. Fault z f.circuits f.rest k) s.names f.fault in
    let b : Fault two_names [] f.rest k = subst (λ z. Fault two_names z f.rest k) s.circuits a in
    circuit_no_fault two_names [] rest k (omega arith) refl ((λ h. omega arith), ((λ h. omega arith), (ends, (figures, tt)))) (subst (λ z. Fault two_names [] z k) s.rest b)

-- An image, and a refusal: the statements are about something.
use Rattle.std.proofs.Common.{◌≡◌, ℕ, ◌+◌, List, [], ◌∷◌, ◌++◌, length, refl, inl, inr, arith}
use Rattle.network.specs.declared.register.Circuit.{Circuit}
use Rattle.image_format.specs.Image.{Records, Repeats, Image, Refused, end_bytes, records_bytes}
use Rattle.image_format.proofs.Steps.{at_start, no_mark}

abbrev link : Circuit
link = record { from = 0; to = 1; bandwidth = 1000; cost = 70000 }

apart : Repeats (97 ∷ []) ((98 ∷ []) ∷ []) → ⊥
apart (inl e) = let z : ◌≡◌ {A = ℕ} 97 98 = cc in omega arith
apart (inr r) = r

pub small_image : Image (80 ∷ 76 ∷ 1 ∷ 97 ∷ 80 ∷ 76 ∷ 1 ∷ 98 ∷ 67 ∷ 84 ∷ 0 ∷ 0 ∷ 0 ∷ 1 ∷ 0 ∷ 0 ∷ 3 ∷ 232 ∷ 0 ∷ 1 ∷ 17 ∷ 112 ∷ 69 ∷ 78 ∷ 0 ∷ 3 ∷ []) ((97 ∷ []) ∷ (98 ∷ []) ∷ []) (link ∷ [])
small_image = record {
  records = record {
    few_places = omega arith;
    few_circuits = omega arith;
    names_fit = ((omega arith, omega arith), ((omega arith, omega arith), tt));
    names_differ = (apart, ((λ r. r), tt));
    sound = (record { from_place = omega arith; to_place = omega arith; apart = (λ e. omega arith); some_bandwidth = omega arith; most_bandwidth = omega arith; most_cost = omega arith }, tt);
  };
  written = refl;
}

pub nothing_refused : Refused [] 1 0
nothing_refused = no_mark [] [] [] 0 (at_start []) (omega arith)

-- sound records have an image, and one only
pub image_of : (names : List (List ℕ)) (circuits : List Circuit) → Records names circuits → Image (records_bytes names circuits ++ end_bytes (length names + length circuits)) names circuits
image_of names circuits g = record { records = g; written = refl }

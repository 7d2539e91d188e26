-- The loader's steps and refusals, as the code meets them: by what stands after the records so far.
use Rattle.std.proofs.Common.{◌≡◌, ℕ, ◌+◌, ◌*◌, ◌<◌, ◌≤◌, List, [], ◌∷◌, ◌++◌, length, get_or, slice_range, take, drop, sym, refl, ap, ◌∙◌, subst, inl, inr, arith, length-append}
use Rattle.std.proofs.lemmas.List.FromFn.{map-range_with_len_more}
use Rattle.std.proofs.lemmas.List.{length-drop}
use Rattle.image.specs.declared.layout.Layout.{Layout}
use Rattle.image.specs.declared.layout.Mark.TheVariants as mark
use Rattle.network.specs.declared.register.Circuit.{Circuit}
use Rattle.network.specs.Checks.{Check, check, First, Passed}
use Rattle.image_format.specs.Claims.{At}
use Rattle.image_format.specs.Image.{at16, records_bytes, Repeats, Refused, told}
use Rattle.image.specs.Held.{name_count, circuit_count}
use Rattle.image.specs.Layout.{name_from, after_place, place_offset, names_in, circuit_from, circuits_in, end_of, Scanned, Complete, MarkAt}
use Rattle.network.specs.Network.{BadEnds, BadFigures}
use Rattle.image.proofs.Holding.{two_read}
use Rattle.image.proofs.Offsets.{offset_more}
use Rattle.image_format.proofs.Steps as steps
use Rattle.image_format.proofs.Views as views

-- the same load by equal lists and an equal offset
at_as : (bytes : List ℕ) (n m : List (List ℕ)) (c d : List Circuit) (o p : ℕ) → n ≡ m → c ≡ d → o ≡ p → At bytes n c o → At bytes m d p
at_as bytes n m c d o p e f g a = subst (λ z. At bytes m d z) g (subst (λ z. At bytes m z o) f (subst (λ z. At bytes z c o) e a))

module _ (bytes : List ℕ) (l : Layout) where
  abbrev Names : List (List ℕ)
  Names = names_in bytes l.places

  abbrev Circuits : List Circuit
  Circuits = circuits_in bytes l.first l.circuits

  -- the checks of the record that begins so, with the records before it by their numbers
  module _ (places circuits : ℕ) (rest : List ℕ) where
    abbrev pub PlaceChecks : List Check
    PlaceChecks =
        check 4 (1 ≤ circuits)
        ∷ check 7 (128 ≤ places)
        ∷ check 1 (length rest < 3)
        ∷ check 3 ((1 ≤ get_or rest 2 0) × (get_or rest 2 0 ≤ 16) → ⊥)
        ∷ check 1 (length rest < 3 + get_or rest 2 0)
        ∷ check 3 (Repeats (take (get_or rest 2 0) (drop 3 rest)) Names)
        ∷ []

    abbrev pub CircuitChecks : Circuit → List Check
    CircuitChecks c =
        check 7 (384 ≤ circuits)
        ∷ check 1 (length rest < 14)
        ∷ check 5 (BadEnds places c)
        ∷ check 6 (BadFigures c)
        ∷ []

    abbrev pub EndChecks : List Check
    EndChecks =
        check 1 (length rest < 4)
        ∷ check 8 ((at16 rest 2 ≡ places + circuits) × (length rest ≡ 4) → ⊥)
        ∷ []

  -- what holds of the lists' lengths and of the bytes left holds of the numbers and of the bytes that the code has
  by_numbers : (P : ℕ → ℕ → List ℕ → Type 0) (rest : List ℕ) → rest ≡ drop (end_of l) bytes → P l.places l.circuits rest → P (length Names) (length Circuits) (drop (end_of l) bytes)
  by_numbers P rest is p =
      subst (λ z. P (length Names) (length Circuits) z) is (subst (λ z. P (length Names) z rest) (sym (circuit_count bytes l.first l.circuits)) (subst (λ z. P z l.circuits rest) (sym (name_count bytes l.places)) p))

  module _ (s : Scanned bytes l) (rest : List ℕ) (is : rest ≡ drop (end_of l) bytes) where
    pub place_refused : (k : ℕ) → MarkAt bytes (end_of l) mark.Place → First k (PlaceChecks l.places l.circuits rest) → Refused bytes k (end_of l)
    place_refused k m f =
        steps.place_fault bytes Names Circuits (end_of l) k s.here (omega (arith, m.within, length-drop (end_of l) bytes)) m.stands (by_numbers (λ x y z. First k (PlaceChecks x y z)) rest is f)

    pub circuit_refused : (k : ℕ) (c : Circuit) → MarkAt bytes (end_of l) mark.Circuit → c ≡ circuit_from rest 0 → First k (CircuitChecks l.places l.circuits rest c) → Refused bytes k (end_of l)
    circuit_refused k c m e f =
        steps.circuit_fault bytes Names Circuits (end_of l) k s.here (omega (arith, m.within, length-drop (end_of l) bytes)) m.stands (by_numbers (λ x y z. First k (CircuitChecks x y z (circuit_from z 0))) rest is (subst (λ z. First k (CircuitChecks l.places l.circuits rest z)) e f))

    pub end_refused : (k : ℕ) → MarkAt bytes (end_of l) mark.End → First k (EndChecks l.places l.circuits rest) → Refused bytes k (end_of l)
    end_refused k m f =
        steps.end_fault bytes Names Circuits (end_of l) k s.here (omega (arith, m.within, length-drop (end_of l) bytes)) m.stands (by_numbers (λ x y z. First k (EndChecks x y z)) rest is f)

-- a load that has come to an offset has come so far
scanned : (bytes : List ℕ) (l : Layout) → l.first ≡ place_offset bytes l.places → At bytes (names_in bytes l.places) (circuits_in bytes l.first l.circuits) (end_of l) → Scanned bytes l
scanned bytes l e a = record {
  within = omega (arith, ap length a.before, length-append (records_bytes (names_in bytes l.places) (circuits_in bytes l.first l.circuits)) (drop (end_of l) bytes), a.at);
  few_places = omega (arith, a.records.few_places, name_count bytes l.places);
  few_circuits = omega (arith, a.records.few_circuits, circuit_count bytes l.first l.circuits);
  first_is = e;
  here = a;
}

module _ (bytes : List ℕ) (l : Layout) (s : Scanned bytes l) (rest : List ℕ) (is : rest ≡ drop (end_of l) bytes) where
  -- a place of which all but its name is known to pass
  module _ (size : ℕ) (read : List ℕ) (m : MarkAt bytes (end_of l) mark.Place) (has : size ≡ get_or rest 2 0) (called : read ≡ slice_range rest 3 (3 + size)) (none : l.circuits ≤ 0) (few : l.places < 128) (some : 1 ≤ size) (most : size ≤ 16) (whole : 3 + size ≤ length rest) where
    is_read : take (get_or rest 2 0) (drop 3 rest) ≡ read
    is_read = ap (λ z. take z (drop 3 rest)) (omega arith) ∙ sym called

    pub place_twice : Repeats read (Names bytes l) → Refused bytes 3 (end_of l)
    place_twice r =
        place_refused bytes l s rest is 3 m (inr ((λ h. omega arith), inr ((λ h. omega arith), inr ((λ h. omega arith), inr ((λ h. h (omega arith, omega arith)), inr ((λ h. omega arith), inl (refl, subst (λ z. Repeats z (Names bytes l)) (sym is_read) r)))))))

    -- it is one place more
    pub place_taken : (first : ℕ) → first ≡ end_of l + 3 + size → (Repeats read (Names bytes l) → ⊥) → Scanned bytes (record { places = l.places + 1; circuits = 0; first = first })
    place_taken first e new =
        let p : Passed (PlaceChecks bytes l l.places l.circuits rest) = ((λ h. omega arith), ((λ h. omega arith), ((λ h. omega arith), ((λ h. h (omega arith, omega arith)), ((λ h. omega arith), ((λ h. new (subst (λ z. Repeats z (Names bytes l)) is_read h)), tt)))))) in
        let name : List ℕ = steps.told_name bytes (Names bytes l) (Circuits bytes l) (end_of l) in
        let a = steps.place_passed bytes (Names bytes l) (Circuits bytes l) (end_of l) s.here m.stands (by_numbers bytes l (λ x y z. Passed (PlaceChecks bytes l x y z)) rest is p) in
        let there_too : get_or (drop (end_of l) bytes) 2 0 ≡ size = ap (λ z. get_or z 2 0) (sym is) ∙ sym has in
        let begins : end_of l ≡ place_offset bytes l.places = omega (arith, s.first_is) in
        let there : name ≡ name_from bytes (place_offset bytes l.places) = views.name_here bytes (Names bytes l) (Circuits bytes l) (end_of l) ∙ ap (name_from bytes) begins in
        let names : Names bytes l ++ name ∷ [] ≡ names_in bytes (l.places + 1) = ap (λ z. Names bytes l ++ z ∷ []) there ∙ sym (map-range_with_len_more (λ i. name_from bytes (place_offset bytes i)) 0 l.places l.places (omega arith)) in
        let ends : first ≡ after_place bytes (end_of l) = omega (arith, e, there_too, views.size_here bytes (Names bytes l) (Circuits bytes l) (end_of l)) in
        let on : first ≡ place_offset bytes (l.places + 1) = ends ∙ ap (after_place bytes) begins ∙ sym (offset_more bytes l.places) in
        scanned bytes (record { places = l.places + 1; circuits = 0; first = first }) on (at_as bytes (Names bytes l ++ name ∷ []) (names_in bytes (l.places + 1)) [] [] (end_of l + (3 + get_or (drop (end_of l) bytes) 2 0)) (first + 14 * 0) names refl (omega arith) a)

  -- it is one circuit more
  pub circuit_taken : (c : Circuit) → MarkAt bytes (end_of l) mark.Circuit → ((j : ℕ) → get_or bytes j 0 < 256) → c ≡ circuit_from rest 0 → Passed (CircuitChecks bytes l l.places l.circuits rest c) → Scanned bytes (record { places = l.places; circuits = l.circuits + 1; first = l.first })
  circuit_taken read m fits e p =
      let c : Circuit = told (Names bytes l) (Circuits bytes l) (drop (end_of l) bytes) in
      let a = steps.circuit_passed bytes (Names bytes l) (Circuits bytes l) (end_of l) s.here (λ j _ _. fits j) m.stands (by_numbers bytes l (λ x y z. Passed (CircuitChecks bytes l x y z (circuit_from z 0))) rest is (subst (λ z. Passed (CircuitChecks bytes l l.places l.circuits rest z)) e p)) in
      let there : c ≡ circuit_from bytes (end_of l) = views.told_here bytes (Names bytes l) (Circuits bytes l) (end_of l) in
      let circuits : Circuits bytes l ++ c ∷ [] ≡ circuits_in bytes l.first (l.circuits + 1) = ap (λ z. Circuits bytes l ++ z ∷ []) there ∙ sym (map-range_with_len_more (λ i. circuit_from bytes (l.first + 14 * i)) 0 l.circuits l.circuits (omega arith)) in
      scanned bytes (record { places = l.places; circuits = l.circuits + 1; first = l.first }) s.first_is (at_as bytes (Names bytes l) (Names bytes l) (Circuits bytes l ++ c ∷ []) (circuits_in bytes l.first (l.circuits + 1)) (end_of l + 14) (l.first + 14 * (l.circuits + 1)) refl circuits (omega arith) a)

  -- it is an image
  pub end_taken : (count : ℕ) (two : List ℕ) → MarkAt bytes (end_of l) mark.End → ((j : ℕ) → get_or bytes j 0 < 256) → two ≡ take 2 (drop 2 rest) → count ≡ get_or two 0 0 * 256 + get_or two 1 0 → count ≡ l.places + l.circuits → length rest ≡ 4 → Complete bytes l
  end_taken count two m fits read c e last = record {
    ends = omega (arith, s.within, ap length is, length-drop (end_of l) bytes);
    few_places = s.few_places;
    few_circuits = s.few_circuits;
    first_is = s.first_is;
    image = steps.end_step bytes (Names bytes l) (Circuits bytes l) (end_of l) s.here (λ j _ _. fits j) m.stands (omega (arith, ap length is)) (ap (λ z. at16 z 2) (sym is) ∙ sym (two_read rest two 2 read) ∙ sym c ∙ e ∙ omega (arith, name_count bytes l.places, circuit_count bytes l.first l.circuits));
  }

-- The records of an image by their number.
use Rattle.std.proofs.Common.{◌≡◌, ℕ, ◌+◌, ◌-◌, ◌*◌, ◌<◌, ◌≤◌, List, [], ◌∷◌, ◌++◌, map, length, get_or, take, drop, sym, ap, ◌∙◌, append_assoc, arith, length-append}
use Rattle.std.proofs.lemmas.List.{length-map, get_or-map, get_or_append_left, get_or-append_right, get_or_at, drop_more, drop_all}
use Rattle.image.specs.declared.layout.Layout.{Layout}
use Rattle.network.specs.declared.register.Circuit.{Circuit}
use Rattle.image.specs.Held.{Held, image_held, name_count, circuit_count}
use Rattle.image_format.specs.Image.{at16, records_bytes, end_bytes}
use Rattle.image.specs.Layout.{name_from, place_offset, names_in, circuits_in, end_of}
use Rattle.network.specs.Network.{no_circuit}
use Rattle.image.specs.Reading.{Told, place, circuit, end, all_told, told_after, Tells}
use Rattle.image_format.proofs.Figures.{at16_after, two_of}
use Rattle.image.proofs.Holding.{name_read, two_read}

module _ (bytes : List ℕ) (l : Layout) where
  abbrev Names : List (List ℕ)
  Names = names_in bytes l.places

  abbrev Circuits : List Circuit
  Circuits = circuits_in bytes l.first l.circuits

  abbrev Places : List Told
  Places = map place Names

  abbrev Links : List Told
  Links = map circuit Circuits

  abbrev Last : Told
  Last = end (length Names + length Circuits)

  place_count : length Places ≡ l.places
  place_count = length-map Names place ∙ name_count bytes l.places

  link_count : length Links ≡ l.circuits
  link_count = length-map Circuits circuit ∙ circuit_count bytes l.first l.circuits

  all_count : length (all_told Names Circuits) ≡ l.places + l.circuits + 1
  all_count = omega (arith, length-append Places (Links ++ Last ∷ []), length-append Links (Last ∷ []), place_count, link_count)

  -- one record on
  one_more : (k : ℕ) (t : Told) → k < l.places + l.circuits + 1 → get_or (all_told Names Circuits) k Last ≡ t → told_after bytes l k ≡ t ∷ told_after bytes l (k + 1)
  one_more k t h e = drop_more (all_told Names Circuits) k Last (omega (arith, all_count)) ∙ ap (λ z. z ∷ told_after bytes l (k + 1)) e

  pub place_told : (k at : ℕ) (name : List ℕ) → k < l.places → at ≡ place_offset bytes k → name ≡ name_from bytes at → told_after bytes l k ≡ place name ∷ told_after bytes l (k + 1)
  place_told k at name h e f =
      one_more k (place name) (omega arith)
      (get_or_append_left Places (Links ++ Last ∷ []) Last k (omega (arith, place_count))
      ∙ get_or-map place Names k [] Last (omega (arith, name_count bytes l.places))
      ∙ ap place (name_read bytes l.places k h ∙ ap (name_from bytes) (sym e) ∙ sym f))

  pub circuit_told : (k : ℕ) (c : Circuit) → l.places ≤ k → k - l.places < length Circuits → c ≡ get_or Circuits (k - l.places) no_circuit → told_after bytes l k ≡ circuit c ∷ told_after bytes l (k + 1)
  circuit_told k c g h e =
      one_more k (circuit c) (omega (arith, circuit_count bytes l.first l.circuits))
      (get_or-append_right Places (Links ++ Last ∷ []) l.places k Last place_count g
      ∙ get_or_append_left Links (Last ∷ []) Last (k - l.places) (omega (arith, length-map Circuits circuit))
      ∙ get_or-map circuit Circuits (k - l.places) no_circuit Last h
      ∙ ap circuit (sym e))

  -- the end record of an image counts the records before it
  pub count_told : Held bytes l → at16 bytes (end_of l + 2) ≡ l.places + l.circuits
  count_told h =
      let i = image_held bytes l h in
      let n : ℕ = length Names + length Circuits in
      let front = records_bytes Names Circuits in
      let sum : n ≡ l.places + l.circuits = omega (arith, name_count bytes l.places, circuit_count bytes l.first l.circuits) in
      let at : end_of l ≡ length front = omega (arith, h.0, ap length i.written, length-append front (end_bytes n)) in
      let read : at16 (front ++ end_bytes n) (length front + 2) ≡ n = at16_after front (end_bytes n) 2 ∙ two_of n (omega (arith, h.1, h.2)) in
      ap (λ z. at16 bytes (z + 2)) at ∙ ap (λ z. at16 z (length front + 2)) i.written ∙ read ∙ sum

  pub end_told : (k count at : ℕ) (two : List ℕ) → Held bytes l → k ≡ l.places + l.circuits → at ≡ end_of l → two ≡ take 2 (drop (at + 2) bytes) → count ≡ get_or two 0 0 * 256 + get_or two 1 0 → told_after bytes l k ≡ end count ∷ told_after bytes l (k + 1)
  end_told k count at two h e f g c =
      let joined = ap (λ z. get_or z k Last) (sym (append_assoc Places Links (Last ∷ []))) in
      let read : count ≡ at16 bytes (end_of l + 2) = c ∙ two_read bytes two (at + 2) g ∙ ap (λ z. at16 bytes (z + 2)) f in
      let all : length Names + length Circuits ≡ count = omega (arith, name_count bytes l.places, circuit_count bytes l.first l.circuits, count_told h) in
      one_more k (end count) (omega arith) (joined ∙ get_or_at (Places ++ Links) Last [] Last k (omega (arith, length-append Places Links, place_count, link_count)) ∙ ap end all)

  pub nothing_told : (k : ℕ) → l.places ≤ k → length Circuits ≤ k - l.places → (k ≡ l.places + l.circuits → ⊥) → told_after bytes l k ≡ []
  nothing_told k g h n = drop_all k (all_told Names Circuits) (omega (arith, all_count, circuit_count bytes l.first l.circuits))

  -- a reader that has given nothing has all of them left
  pub all_left : Held bytes l → (told : List Told) → told ≡ told_after bytes l 0 → Tells bytes told
  all_left h told e = record { names = Names; circuits = Circuits; image = image_held bytes l h; is = e }

-- what each record tells
pub ruleset telling = (place_told, circuit_told, end_told, nothing_told)

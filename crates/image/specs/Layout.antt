-- Where the records of an image stand, and what the bytes there say. Assumes nothing.
use Rattle.std.specs.Prelude.{◌≡◌, ℕ, zero, suc, ◌+◌, ◌*◌, ◌≤◌, List, map, length, take, drop, slice_index}
use Rattle.std.specs.List.{range_with_len}
use Rattle.image.specs.declared.layout.Layout.{Layout}
use Rattle.image.specs.declared.layout.Mark.{Mark}
use Rattle.image.specs.declared.layout.Mark.TheVariants as mark
use Rattle.network.specs.declared.register.Circuit.{Circuit}
use Rattle.network.specs.declared.refusal.Refusal.{Refusal}
use Rattle.network.specs.Refusals.{number_of}
use Rattle.network.specs.Network.{Network}
use Rattle.image_format.specs.Image.{at16, at32, PL, CT, EN, Image, Refused}
use Rattle.image_format.specs.Claims.{At}

-- the name of the place record that begins at an offset: its length stands after the mark, then its bytes
abbrev pub name_from : List ℕ → ℕ → List ℕ
name_from bytes at = take (slice_index bytes (at + 2)) (drop (at + 3) bytes)

-- where the record after that place begins
abbrev pub after_place : List ℕ → ℕ → ℕ
after_place bytes at = at + (3 + slice_index bytes (at + 2))

-- where the place record of a number begins: the places stand first, one after the other
abbrev pub place_offset : List ℕ → ℕ → ℕ
place_offset bytes zero = 0
place_offset bytes (suc i) = after_place bytes (place_offset bytes i)

-- the names of the places that come first, so many of them
abbrev pub names_in : List ℕ → ℕ → List (List ℕ)
names_in bytes places = map (λ i. name_from bytes (place_offset bytes i)) (range_with_len 0 places)

-- the circuit whose record begins at an offset
abbrev pub circuit_from : List ℕ → ℕ → Circuit
circuit_from bytes at = record { from = at16 bytes (at + 2); to = at16 bytes (at + 4); bandwidth = at32 bytes (at + 6); cost = at32 bytes (at + 10) }

-- so many circuits, in records of 14 bytes from an offset on
abbrev pub circuits_in : List ℕ → ℕ → ℕ → List Circuit
circuits_in bytes first circuits = map (λ i. circuit_from bytes (first + 14 * i)) (range_with_len 0 circuits)

-- the network of the places and circuits that stand so
abbrev pub network_in : List ℕ → Layout → Network
network_in bytes l = record { places = l.places; circuits = circuits_in bytes l.first l.circuits }

-- where the record after these places and circuits begins
abbrev pub end_of : Layout → ℕ
end_of l = l.first + 14 * l.circuits

-- the bytes are the image of the places and circuits that stand so
abbrev pub ImageOf : List ℕ → Layout → Type 0
ImageOf bytes l = Image bytes (names_in bytes l.places) (circuits_in bytes l.first l.circuits)

-- a load has come so far: the records before the end are sound, and they stand so
pub record Scanned (bytes : List ℕ) (l : Layout) : Type 0 where
  pub within : end_of l ≤ length bytes
  pub few_places : l.places ≤ 128
  pub few_circuits : l.circuits ≤ 384
  pub first_is : l.first ≡ place_offset bytes l.places
  pub here : At bytes (names_in bytes l.places) (circuits_in bytes l.first l.circuits) (end_of l)

-- the record after those fails its checks
abbrev pub RefusedAfter : List ℕ → Layout → Refusal → Type 0
RefusedAfter bytes l e = Refused bytes (number_of e) (end_of l)

-- the records of an image stand so, and the end record after them
pub record Complete (bytes : List ℕ) (l : Layout) : Type 0 where
  pub ends : length bytes ≡ end_of l + 4
  pub few_places : l.places ≤ 128
  pub few_circuits : l.circuits ≤ 384
  pub first_is : l.first ≡ place_offset bytes l.places
  pub image : ImageOf bytes l

-- the two letters of a mark
abbrev pub letters : Mark → List ℕ
letters mark.Place = PL
letters mark.Circuit = CT
letters mark.End = EN

-- that mark stands at the offset
pub record MarkAt (bytes : List ℕ) (at : ℕ) (m : Mark) : Type 0 where
  pub within : at + 2 ≤ length bytes
  pub stands : take 2 (drop at bytes) ≡ letters m

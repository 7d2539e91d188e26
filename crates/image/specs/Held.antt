-- What an image register keeps, and what its load comes to. Assumes nothing.
use Rattle.std.specs.Prelude.{◌≡◌, ℕ, ◌+◌, ◌*◌, ◌<◌, ◌≤◌, List, [], ◌∷◌, length, slice_index_or}
use Rattle.std.proofs.Common.{subst}
use Rattle.std.proofs.Props.{props}
use Rattle.std.proofs.Math.Logic.{∥∥₁_elim}
use Rattle.std.specs.Coded.{×_prop, Unit-prop}
use mathlib.Core.HLevel.{¬_prop}
use Rattle.std.proofs.lemmas.List.FromFn.{length-map-range_with_len}
use Rattle.image.specs.declared.layout.Layout.{Layout}
use Rattle.network.specs.declared.register.Circuit.{Circuit}
use Rattle.network.specs.Network.{Network, Sound, Proper, circuit, no_circuit}
use Rattle.network.specs.Routes.{Each, each_at}
use Rattle.image_format.specs.Image.{Name, Different, Records, Image}
use Rattle.image.specs.Layout.{name_from, place_offset, names_in, circuit_from, circuits_in, network_in, end_of, ImageOf, Scanned}

-- the image that a register holds is that of its places and circuits, which stand as the layout says
abbrev pub Held : List ℕ → Layout → Type 0
Held bytes l = (length bytes ≡ end_of l + 4) × (l.places ≤ 128) × (l.circuits ≤ 384) × (l.first ≡ place_offset bytes l.places) × ∥ ImageOf bytes l ∥₁

-- a load that is accepted: the bytes are the image of some names and circuits, and these are the network
pub record Loaded (bytes : List ℕ) (n : Network) : Type 0 where
  pub names : List (List ℕ)
  pub circuits : List Circuit
  pub image : Image bytes names circuits
  pub is : n ≡ record { places = length names; circuits = circuits }

-- the place of a number has that name in the image that the bytes are
pub record Named (bytes : List ℕ) (number : ℕ) (name : List ℕ) : Type 0 where
  pub names : List (List ℕ)
  pub circuits : List Circuit
  pub image : Image bytes names circuits
  pub there : number < length names
  pub is : name ≡ slice_index_or names number []

-- these facts hold in one way at most
each_prop : {A : Type 0} (P : A → Type 0) → ((x : A) → IsProp (P x)) → (xs : List A) → IsProp (Each P xs)
each_prop P f [] = Unit-prop
each_prop P f (x ∷ xs) = ×_prop (f x) (each_prop P f xs)

different_prop : (xs : List (List ℕ)) → IsProp (Different xs)
different_prop [] = Unit-prop
different_prop (x ∷ xs) = ×_prop ¬_prop (different_prop xs)

sound_prop : (n : ℕ) (c : Circuit) → IsProp (Sound n c)
sound_prop n c = Prim.hlevel props

name_prop : (name : List ℕ) → IsProp (Name name)
name_prop name = Prim.hlevel props

records_prop : (names : List (List ℕ)) (circuits : List Circuit) → IsProp (Records names circuits)
records_prop names circuits = Prim.hlevel (props, each_prop, different_prop, sound_prop, name_prop)

image_prop : (bytes : List ℕ) (names : List (List ℕ)) (circuits : List Circuit) → IsProp (Image bytes names circuits)
image_prop bytes names circuits = Prim.hlevel (props, records_prop)

pub scanned_prop : (bytes : List ℕ) (l : Layout) → IsProp (Scanned bytes l)
scanned_prop bytes l = Prim.hlevel (props, records_prop)

pub image_held : (bytes : List ℕ) (l : Layout) → Held bytes l → ImageOf bytes l
image_held bytes l h = ∥∥₁_elim h.4 (image_prop bytes (names_in bytes l.places) (circuits_in bytes l.first l.circuits)) (λ i. i)

-- as many names as places, and as many circuits
pub name_count : (bytes : List ℕ) (n : ℕ) → length (names_in bytes n) ≡ n
name_count bytes n = length-map-range_with_len (λ i. name_from bytes (place_offset bytes i)) 0 n

pub circuit_count : (bytes : List ℕ) (first n : ℕ) → length (circuits_in bytes first n) ≡ n
circuit_count bytes first n = length-map-range_with_len (λ i. circuit_from bytes (first + 14 * i)) 0 n

-- a register that holds an image keeps the limits
pub proper_held : (bytes : List ℕ) (l : Layout) → Held bytes l → Proper (network_in bytes l)
proper_held bytes l h =
    let i = image_held bytes l h in
    record {
      few_places = h.1;
      few_circuits = i.records.few_circuits;
      each = λ c k. subst (λ z. Sound z (circuit (network_in bytes l) c)) (name_count bytes l.places) (each_at (Sound (length (names_in bytes l.places))) (circuits_in bytes l.first l.circuits) c no_circuit k i.records.sound);
    }

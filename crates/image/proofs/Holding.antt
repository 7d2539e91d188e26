-- What a register that was loaded holds.
use Rattle.std.proofs.Common.{◌≡◌, ℕ, ◌+◌, ◌*◌, ◌<◌, List, [], get_or, take, drop, sym, ap, ◌∙◌, arith}
use Rattle.std.proofs.lemmas.List.FromFn.{get_or-map-range_with_len}
use Rattle.std.proofs.lemmas.List.{get_or-take, get_or-drop}
use Rattle.image_format.specs.Image.{at16}
use Rattle.image.specs.declared.layout.Layout.{Layout}
use Rattle.image.specs.Held.{Held, Loaded, Named, image_held, name_count}
use Rattle.image.specs.Layout.{name_from, place_offset, names_in, circuit_from, circuits_in, network_in, Complete}
use Rattle.network.specs.Network.{Network, no_circuit}

pub name_read : (bytes : List ℕ) (n i : ℕ) → i < n → get_or (names_in bytes n) i [] ≡ name_from bytes (place_offset bytes i)
name_read bytes n i h = get_or-map-range_with_len (λ k. name_from bytes (place_offset bytes k)) 0 n i i [] h (omega arith)

pub circuit_read : (bytes : List ℕ) (first n i : ℕ) → i < n → get_or (circuits_in bytes first n) i no_circuit ≡ circuit_from bytes (first + 14 * i)
circuit_read bytes first n i h = get_or-map-range_with_len (λ k. circuit_from bytes (first + 14 * k)) 0 n i i no_circuit h (omega arith)

pub complete_loaded : (bytes : List ℕ) (l : Layout) → Complete bytes l → Loaded bytes (network_in bytes l)
complete_loaded bytes l c = record {
  names = names_in bytes l.places;
  circuits = circuits_in bytes l.first l.circuits;
  image = c.image;
  is = ap (λ (n : ℕ). let m : Network = record { places = n; circuits = circuits_in bytes l.first l.circuits } in m) (sym (name_count bytes l.places));
}

-- the name that stands at the place of a number
pub held_named : (bytes : List ℕ) (l : Layout) (number at : ℕ) (name : List ℕ) → Held bytes l → number < l.places → at ≡ place_offset bytes number → name ≡ name_from bytes at → Named bytes number name
held_named bytes l number at name h k e f = record {
  names = names_in bytes l.places;
  circuits = circuits_in bytes l.first l.circuits;
  image = image_held bytes l h;
  there = omega (arith, name_count bytes l.places);
  is = f ∙ ap (name_from bytes) e ∙ sym (name_read bytes l.places number k);
}

-- the figure of two bytes that were read at an offset
pub two_read : (bytes two : List ℕ) (at : ℕ) → two ≡ take 2 (drop at bytes) → get_or two 0 0 * 256 + get_or two 1 0 ≡ at16 bytes at
two_read bytes two at e =
    let high : get_or two 0 0 ≡ get_or bytes at 0 = ap (λ z. get_or z 0 0) e ∙ get_or-take 2 (drop at bytes) 0 0 (omega arith) ∙ get_or-drop at bytes 0 0 ∙ ap (λ z. get_or bytes z 0) (omega arith) in
    let low : get_or two 1 0 ≡ get_or bytes (at + 1) 0 = ap (λ z. get_or z 1 0) e ∙ get_or-take 2 (drop at bytes) 1 0 (omega arith) ∙ get_or-drop at bytes 1 0 in
    cc

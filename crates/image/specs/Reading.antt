-- The records of an image in their order, as a reader gives them. Assumes nothing.
use Rattle.std.specs.Prelude.{◌≡◌, ℕ, ◌+◌, ◌≤◌, List, [], ◌∷◌, ◌++◌, map, length, drop, Some, None, Option}
use Rattle.image.specs.declared.layout.Layout.{Layout}
use Rattle.image.specs.declared.record.Record.{Record}
use Rattle.image.specs.declared.record.Record.TheVariants as record_of
use Rattle.network.specs.declared.register.Circuit.{Circuit}
use Rattle.image_format.specs.Image.{Image}
use Rattle.image.specs.Layout.{names_in, circuits_in, place_offset}

-- what one record tells
pub data Told : Type 0 where
  place : List ℕ → Told
  circuit : Circuit → Told
  end : ℕ → Told

-- the bytes that the lent name of a place shows are the name
abbrev pub told_by : Record → Told
told_by (record_of.Place name) = place name.now
told_by (record_of.Circuit c) = circuit c
told_by (record_of.End count) = end count

-- the records of an image: the places, the circuits, and last the end, which counts those before it
abbrev pub all_told : List (List ℕ) → List Circuit → List Told
all_told names circuits = map place names ++ (map circuit circuits ++ (end (length names + length circuits) ∷ []))

-- those that are left of the records that stand so, after so many
abbrev pub told_after : List ℕ → Layout → ℕ → List Told
told_after bytes l given = drop given (all_told (names_in bytes l.places) (circuits_in bytes l.first l.circuits))

-- what a reader gives, and what is left before and after: the first that is left, or nothing where none is left
abbrev pub Gives : List Told → Option Record → List Told → Type 0
Gives before None after = (before ≡ []) × (after ≡ [])
Gives before (Some r) after = before ≡ told_by r ∷ after

-- these are the records of the image that the bytes are, all of them
pub record Tells (bytes : List ℕ) (told : List Told) : Type 0 where
  pub names : List (List ℕ)
  pub circuits : List Circuit
  pub image : Image bytes names circuits
  pub is : told ≡ all_told names circuits

-- the place that a reader comes to next begins there
abbrev pub Next : List ℕ → Layout → ℕ → ℕ → Type 0
Next bytes l given at = given ≤ l.places → at ≡ place_offset bytes given

-- What the host's entry returns, and what it leaves in the output. Assumes nothing.
use Rattle.std.specs.Prelude.{◌≡◌, ℕ, ◌<◌, ◌≤◌, ◌⊎◌, List, [], ◌∷◌, length}
use Rattle.network.specs.declared.register.Circuit.{Circuit}
use Rattle.network.specs.Checks.{Check, check, First, Passed}
use Rattle.network.specs.Network.{Network}
use Rattle.image_format.specs.Image.{Image, Refused}
use Rattle.scale.specs.ThreeScales.{total}
use Rattle.promise.specs.declared.Mode.{Mode}
use Rattle.promise.specs.declared.Mode.TheVariants.{OnePlusOne, OneToOne}
use Rattle.promise.specs.Ledger.{nothing_yet}
use Rattle.promise.specs.Promise.{safest, plan_checks, Safest}
use Rattle.host.specs.Layout.{answer_bytes, led_by}

-- the caller's number for a mode: 1 is 1+1, 2 is 1:1
abbrev pub Means : ℕ → Mode → Type 0
Means number OnePlusOne = number ≡ 1
Means number OneToOne = number ≡ 2

-- the number stands for no mode
abbrev pub UnknownMode : ℕ → Type 0
UnknownMode number = (m : Mode) → Means number m → ⊥

-- the network that an image of these names and circuits holds
abbrev pub network_of : List (List ℕ) → List Circuit → Network
network_of names circuits = record { places = length names; circuits = circuits }

-- an order to a new book over a network, by the scale total, with an output buffer
module _ (n : Network) (from to rate : ℕ) (m : Mode) (before : List ℕ) where
  -- its checks in their order: the places, the rate, the output's room, and that some routes can carry the rate
  abbrev pub order_checks : List Check
  order_checks = plan_checks total n nothing_yet (check 15 (length before < 516)) (safest from to rate m)

  -- every check passes, and the output begins with a safest pair; what stands after the pair stays
  pub record Answered (later : List ℕ) : Type 0 where
    pub passed : Passed order_checks
    pub first : List ℕ
    pub second : List ℕ
    pub cost : ℕ
    pub pair : Safest total n nothing_yet from to m rate first second cost
    pub written : later ≡ led_by (answer_bytes first second cost) before

  -- what the order comes to: an answer, or the number of the first check that fails, with nothing written
  abbrev pub Asked : List ℕ → ℕ → Type 0
  Asked later result = ((result ≡ 0) × Answered later) ⊎ (First result order_checks × (later ≡ before))

-- the mode is known and the image loads: this mode, these names and these circuits
pub record Begun (image : List ℕ) (mode : ℕ) : Type 0 where
  pub chosen : Mode
  pub means : Means mode chosen
  pub names : List (List ℕ)
  pub circuits : List Circuit
  pub loads : Image image names circuits

-- a call of the entry, with what the output holds before it
module _ (image before : List ℕ) (from to rate mode : ℕ) where
  -- the number is that of the first check that fails: the mode's, then one of the image, then one of the order
  pub data FirstFault (number : ℕ) : Type 0 where
    of_mode : First number (check 18 (UnknownMode mode) ∷ []) → FirstFault number
    of_image : (chosen : Mode) → Means mode chosen → (offset : ℕ) → Refused image number offset → FirstFault number
    of_order : (b : Begun image mode) → First number (order_checks (network_of b.names b.circuits) from to rate b.chosen before) → FirstFault number

  -- What the call returns and leaves in the output. The number tells the case: 0 is an answer, 255 is that there is no memory
  -- for the book, any other is a refusal. Whether memory can be had is all that the arguments leave open.
  pub data Outcome (later : List ℕ) (result : ℕ) : Type 0 where
    answered : result ≡ 0 → (b : Begun image mode) → Answered (network_of b.names b.circuits) from to rate b.chosen before later → Outcome later result
    no_memory : result ≡ 255 → Begun image mode → later ≡ before → Outcome later result
    refused : (1 ≤ result) × (result ≤ 18) → FirstFault result → later ≡ before → Outcome later result

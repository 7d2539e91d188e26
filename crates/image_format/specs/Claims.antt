-- What the register image promises, as statements. Assumes nothing.
use Rattle.std.specs.Prelude.{◌≡◌, ℕ, ◌<◌, ◌⊎◌, List, ◌++◌, length, drop}
use Rattle.network.specs.declared.register.Circuit.{Circuit}
use Rattle.network.specs.Routes.{Each}
use Rattle.image_format.specs.Image.{Image, Refused, Records, records_bytes}

-- bytes are the image of one list of names and one list of circuits at most
abbrev pub OneReading : Type 0
OneReading = (bytes : List ℕ) (names names' : List (List ℕ)) (circuits circuits' : List Circuit) → Image bytes names circuits → Image bytes names' circuits' → (names ≡ names') × (circuits ≡ circuits')

-- bytes that are refused are no image
abbrev pub RefusedNoImage : Type 0
RefusedNoImage = (bytes : List ℕ) (k o : ℕ) (names : List (List ℕ)) (circuits : List Circuit) → Refused bytes k o → Image bytes names circuits → ⊥

-- bytes are refused with one number and at one offset at most
abbrev pub OneRefusal : Type 0
OneRefusal = (bytes : List ℕ) (k k' o o' : ℕ) → Refused bytes k o → Refused bytes k' o' → (k ≡ k') × (o ≡ o')

-- the bytes are an image
pub record Loads (bytes : List ℕ) : Type 0 where
  pub names : List (List ℕ)
  pub circuits : List Circuit
  pub image : Image bytes names circuits

-- the bytes are refused
pub record Fails (bytes : List ℕ) : Type 0 where
  pub number : ℕ
  pub offset : ℕ
  pub refused : Refused bytes number offset

-- what comes of a load
abbrev pub Outcome : List ℕ → Type 0
Outcome bytes = Loads bytes ⊎ Fails bytes

-- all bytes are an image or refused
abbrev pub ImageOrRefused : Type 0
ImageOrRefused = (bytes : List ℕ) → Each (λ b. b < 256) bytes → Outcome bytes

-- a load has come so far: sound records, then what stands from the offset on
pub record At (bytes : List ℕ) (names : List (List ℕ)) (circuits : List Circuit) (offset : ℕ) : Type 0 where
  pub records : Records names circuits
  pub before : bytes ≡ records_bytes names circuits ++ drop offset bytes
  pub at : offset ≡ length (records_bytes names circuits)

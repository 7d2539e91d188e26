-- What a line says, and when lines hold. Assumes nothing.
use Rattle.std.specs.Prelude.{◌≡◌, ℕ, Bool, List, [], ◌∷◌}
use Rattle.network.specs.Network.{Network}
use Rattle.network.specs.Routes.{Leads, Route}
use Rattle.scale.specs.Measure.{Measure, AtMost, shared_cost}
use Rattle.promise.specs.declared.Mode.{Mode}
use Rattle.promise.specs.Ledger.{Ledger, Choice}
use Rattle.promise.specs.Promise.{Plan, Act, Tell, Call, plan, act, tell, Answer, refused, pair, done, told, Right, after, Entry, Kept}

-- it holds of each element
abbrev pub All : {A : Type 0} → (A → Type 0) → List A → Type 0
All P [] = Unit {0}
All P (x ∷ xs) = P x × All P xs

-- a call on a ledger, and its answer
pub record Line (V : Type 0) : Type 0 where
  pub ledger : Ledger
  pub call : Call V
  pub answer : Answer V

-- a plan with route lists of the least length, and with lists of other lengths; an act; a telling
abbrev pub line : {V : Type 0} → Ledger → Plan V → Answer V → Line V
line l x answer = record { ledger = l; call = plan x 127 127; answer = answer }

abbrev pub roomed : {V : Type 0} → ℕ → ℕ → Ledger → Plan V → Answer V → Line V
roomed p q l x answer = record { ledger = l; call = plan x p q; answer = answer }

abbrev pub acting : {V : Type 0} → Ledger → Act → Answer V → Line V
acting l x answer = record { ledger = l; call = act x; answer = answer }

abbrev pub telling : {V : Type 0} → Ledger → Tell → Answer V → Line V
telling l x answer = record { ledger = l; call = tell x; answer = answer }

-- the answer of the line is right
abbrev pub IsRight : {V : Type 0} → Measure V → Network → Line V → Type 0
IsRight s n x = Right s n x.ledger x.call x.answer

-- the same refusal, the same telling, or the same rate at costs that are at most each other; the pairs may differ
abbrev pub Agree : {V : Type 0} → Measure V → Answer V → Answer V → Type 0
Agree s (refused k) (refused j) = k ≡ j
Agree s (refused k) (pair r f g c) = ⊥
Agree s (refused k) done = ⊥
Agree s (refused k) (told t) = ⊥
Agree s (pair r f g c) (refused k) = ⊥
Agree s (pair r f g c) (pair q u v d) = (r ≡ q) × AtMost s c d × AtMost s d c
Agree s (pair r f g c) done = ⊥
Agree s (pair r f g c) (told t) = ⊥
Agree s done (refused k) = ⊥
Agree s done (pair r f g c) = ⊥
Agree s done done = Unit {0}
Agree s done (told t) = ⊥
Agree s (told t) (refused k) = ⊥
Agree s (told t) (pair r f g c) = ⊥
Agree s (told t) done = ⊥
Agree s (told t) (told u) = t ≡ u

-- every right answer to the call of the line agrees with the line's
abbrev pub IsOnly : {V : Type 0} → Measure V → Network → Line V → Type 0
IsOnly {V} s n x = (z : Answer V) → Right s n x.ledger x.call z → Agree s x.answer z

-- each line is right; each is the only right one; each is wrong
abbrev pub Lines : {V : Type 0} → Measure V → Network → List (Line V) → Type 0
Lines s n xs = All (IsRight s n) xs

abbrev pub Only : {V : Type 0} → Measure V → Network → List (Line V) → Type 0
Only s n xs = All (IsOnly s n) xs

abbrev pub Wrong : {V : Type 0} → Measure V → Network → List (Line V) → Type 0
Wrong s n xs = All (λ x. IsRight s n x → ⊥) xs

-- the lines of a run, each with the ledger before it, and the ledger after the run
abbrev pub along : {V : Type 0} → Ledger → List (Entry V) → List (Line V)
along l [] = []
along l (e ∷ es) = record { ledger = l; call = e.call; answer = e.answer } ∷ along (after l e.call e.answer) es

abbrev pub ending : {V : Type 0} → Ledger → List (Entry V) → Ledger
ending l [] = l
ending l (e ∷ es) = ending (after l e.call e.answer) es

-- the run is kept from the first ledger to the last, and no other answer to a call of it is right
abbrev pub LeadsTo : {V : Type 0} → Measure V → Network → Ledger → List (Entry V) → Ledger → Type 0
LeadsTo s n l es end = Kept s n l es × Only s n (along l es) × (ending l es ≡ end)

-- what a call with its answer makes of a ledger
pub record Step : Type 0 where
  pub before : Ledger
  pub call : Call ℕ
  pub answer : Answer ℕ
  pub later : Ledger

abbrev pub Steps : List Step → Type 0
Steps xs = All (λ x. after x.before x.call x.answer ≡ x.later) xs

-- circuits from one place to another
pub record Way : Type 0 where
  pub from : ℕ
  pub to : ℕ
  pub circuits : List ℕ

-- each is a route; each is none; each does not even lead from its start to its end
abbrev pub Routes : Network → List Way → Type 0
Routes n xs = All (λ x. Route n x.from x.to x.circuits) xs

abbrev pub NoRoutes : Network → List Way → Type 0
NoRoutes n xs = All (λ x. Route n x.from x.to x.circuits → ⊥) xs

abbrev pub NoWay : Network → List Way → Type 0
NoWay n xs = All (λ x. Leads n x.from x.circuits x.to → ⊥) xs

-- routes between two places, at a rate
pub record Proposal : Type 0 where
  pub ledger : Ledger
  pub from : ℕ
  pub to : ℕ
  pub mode : Mode
  pub rate : ℕ
  pub routes : List (List ℕ)

-- they are a set that can carry the rate
abbrev pub Can : Network → Proposal → Type 0
Can n x = Choice n x.ledger x.from x.to x.mode x.rate x.routes

abbrev pub Choices : Network → List Proposal → Type 0
Choices n xs = All (Can n) xs

abbrev pub NoChoices : Network → List Proposal → Type 0
NoChoices n xs = All (λ x. Can n x → ⊥) xs

-- routes, and what they share
pub record Share (V : Type 0) : Type 0 where
  pub routes : List (List ℕ)
  pub cost : V

abbrev pub Shares : {V : Type 0} → Measure V → Network → List (Share V) → Type 0
Shares s n xs = All (λ x. shared_cost s n x.routes ≡ x.cost) xs

-- figures of a scale: costs with their weights, values with what joining them gives, and values with whether the first is at most the second
pub record Weight (V : Type 0) : Type 0 where
  pub cost : ℕ
  pub weight : V

pub record Join (V : Type 0) : Type 0 where
  pub first : V
  pub second : V
  pub joined : V

pub record Order (V : Type 0) : Type 0 where
  pub first : V
  pub second : V
  pub at_most : Bool

pub record Figures (V : Type 0) : Type 0 where
  pub zero : V
  pub weights : List (Weight V)
  pub joins : List (Join V)
  pub orders : List (Order V)
  pub values : List V
  pub no_values : List V

pub record Keeps {V : Type 0} (s : Measure V) (f : Figures V) : Type 0 where
  pub zero : s.zero ≡ f.zero
  pub weights : All (λ x. s.weight x.cost ≡ x.weight) f.weights
  pub joins : All (λ x. s.join x.first x.second ≡ x.joined) f.joins
  pub orders : All (λ x. s.at_most x.first x.second ≡ x.at_most) f.orders
  pub values : All s.value f.values
  pub no_values : All (λ x. s.value x → ⊥) f.no_values

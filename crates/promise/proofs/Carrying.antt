-- What a set can carry, parts of it can, and at lower rates. Assumes nothing.
use Rattle.std.proofs.Common.{ℕ, ◌<◌, ◌≤◌, List, [], ◌∷◌, length, get_or, le_trans, mul-le-mul, arith}
use Rattle.network.specs.Network.{Network}
use Rattle.network.specs.Routes.{Each, times, Route}
use Rattle.promise.specs.declared.Mode.{Mode}
use Rattle.promise.specs.declared.Mode.TheVariants.{OnePlusOne, OneToOne}
use Rattle.promise.specs.Ledger.{Ledger, left, Rule, Carries, Choice}
use Rattle.network.proofs.Lists.{each_at}
use Rattle.network.proofs.Counts.{times_two}

-- the mode's rule holds of fewer routes and of a lower rate
pub rule_less : (m : Mode) (r r' t t' room : ℕ) → r' ≤ r → t' ≤ t → Rule m r t room → Rule m r' t' room
rule_less OnePlusOne r r' t t' room h k rule = le_trans (mul-le-mul k h) rule
rule_less OneToOne r r' t t' room h k rule = tt

pub carries_less : (n : Network) (l : Ledger) (m : Mode) (r r' : ℕ) (rs rs' : List (List ℕ)) → r' ≤ r → ((c : ℕ) → times c rs' ≤ times c rs) → Carries n l m r rs → Carries n l m r' rs'
carries_less n l m r r' rs rs' h fewer carries c some =
    let was = carries c (omega (arith, some, fewer c)) in
    ((was.0.0, le_trans h was.0.1), rule_less m r r' (times c rs) (times c rs') (left n l c) h (fewer c) was.1)

module _ (n : Network) (l : Ledger) (a b : ℕ) (m : Mode) where
  -- routes of a set that uses no circuit more often can carry what the set can
  pub choice_fewer : (r : ℕ) (rs rs' : List (List ℕ)) → 2 ≤ length rs' → Each (Route n a b) rs' → ((c : ℕ) → times c rs' ≤ times c rs) → Choice n l a b m r rs → Choice n l a b m r rs'
  choice_fewer r rs rs' two routes fewer ch = ((two, routes), carries_less n l m r r rs rs' (omega arith) fewer ch.1)

  -- any two routes of a set that can carry the rate are a pair that can
  pub two_of : (r : ℕ) (rs : List (List ℕ)) → Choice n l a b m r rs → (i j : ℕ) → i < j → j < length rs → Choice n l a b m r (get_or rs i [] ∷ get_or rs j [] ∷ [])
  two_of r rs ch i j o h =
      choice_fewer r rs (get_or rs i [] ∷ get_or rs j [] ∷ []) (omega arith)
      (each_at (Route n a b) rs i [] (omega (arith, o, h)) ch.0.1, (each_at (Route n a b) rs j [] h ch.0.1, tt))
      (λ c. times_two c rs i j o h)
      ch

  pub first_of_two : (r : ℕ) (rs : List (List ℕ)) → Choice n l a b m r rs → Choice n l a b m r (get_or rs 0 [] ∷ get_or rs 1 [] ∷ [])
  first_of_two r rs ch = two_of r rs ch 0 1 (omega arith) (omega (arith, ch.0.0))

  -- what can carry a rate can carry a lower one
  pub slower : (r r' : ℕ) (rs : List (List ℕ)) → r' ≤ r → Choice n l a b m r rs → Choice n l a b m r' rs
  slower r r' rs h ch = (ch.0, carries_less n l m r r' rs rs h (λ c. omega arith) ch.1)
